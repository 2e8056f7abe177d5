-- Stores of runs of bytes, ascending.
use Rattle.std.specs.Prelude.{ℕ, ◌+◌, List, map, length, get_or}
use Rattle.boards.specs.Lists.{span}
use Rattle.protocol.specs.Image.{Store}
use Rattle.store.specs.Budget.{one}

-- the bytes put one after the other from an offset on
unfoldable pub put_stores : ℕ → List ℕ → List Store
put_stores at bytes = span (λ x. one (at + x) (get_or bytes x 0)) 0 (length bytes)

-- n bytes of the image from one offset on copied to another
unfoldable pub copy_stores : List ℕ → ℕ → ℕ → ℕ → List Store
copy_stores image from to n = span (λ x. one (to + x) (get_or image (from + x) 0)) 0 n

-- stores of the part of an image from n on, as stores of the image
unfoldable pub shifted : ℕ → List Store → List Store
shifted n ss = map (λ s. one (n + s.at) s.value) ss
