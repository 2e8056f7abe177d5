-- What the leaves of a read and of a write do: an answer buffer filled, tags stored, boards bound.
use Rattle.std.specs.Prelude.{ℕ, ◌+◌, ◌&&◌, cond, List, [], ◌∷◌, ◌++◌, eqb, leb, get_or, drop}
use Rattle.boards.specs.Lists.{span}
use Rattle.protocol.specs.Image.{Store}
use Rattle.layout.specs.Headers.{tags_at}
use Rattle.store.specs.Budget.{one}
use Rattle.volatile.specs.Volatile.{depend}
use Rattle.volatile.specs.declared.Record.{Record}
use Rattle.protocol.specs.Accesses.{bind_tag}
use Rattle.admission.specs.declared.Block.{Block}
use Rattle.admission.specs.declared.Place.{Place}
use Rattle.protocol.specs.declared.Binding.{Binding}
use Rattle.protocol.specs.declared.Binding.TheVariants.{TwoWay, Opposite}

-- n bytes of the image from an offset on, then the buffer as it was
unfoldable pub filled_from : List ℕ → ℕ → ℕ → List ℕ → List ℕ
filled_from image at n buffer = span (λ x. get_or image x 0) at n ++ drop n buffer

-- the writer's tag, stored in a block that has another
unfoldable pub tag_store : ℕ → Block → List Store
tag_store own b = cond (eqb b.tag own) [] (one (tags_at + b.number) own ∷ [])

-- in the first block of a place; in the last, if that is another
unfoldable pub first_tag_store : Place → List Store
first_tag_store p = tag_store (p.board + 1) p.first

unfoldable pub last_tag_store : Place → List Store
last_tag_store p = cond (eqb p.first.number p.last.number) [] (tag_store (p.board + 1) p.last)

-- how a write of n bytes at a place binds in each of its blocks
abbrev pub binding_of : Place → ℕ → Binding
binding_of p n = cond (leb p.size n && eqb p.first.number p.last.number) Opposite TwoWay

-- the record after an access that binds so in its first block and, if that is another, in the last
abbrev pub bound : Binding → Place → Record → Record
bound how p r =
    let next = bind_tag depend how r p.board p.first.tag in
    cond (eqb p.first.number p.last.number) next (bind_tag depend how next p.board p.last.tag)
