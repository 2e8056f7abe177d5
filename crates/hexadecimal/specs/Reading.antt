-- What reading the bytes of a field promises.
use Rattle.std.specs.Prelude.{ℕ, ◌≡◌, cond, List, length, Option, None, Some}
use Rattle.protocol.specs.Calls.{filled}
use Rattle.text.specs.Fields.{pairs, decoded}

-- a field of pairs of digits is told by its count of bytes, which stand at the start of the buffer; any other leaves it
pub record BytesRead (s buffer : List ℕ) (r : Option ℕ) (after : List ℕ) : Type 0 where
  pub tells : r ≡ cond (pairs s) (Some (length (decoded s))) None
  pub puts : after ≡ cond (pairs s) (filled (decoded s) buffer) buffer
