-- The record by its parts, and the dependences that its methods leave.
use Prim.Native.Nat.{ℕ, ◌<◌}
use mathlib.Core.Path.{◌≡◌}
use mathlib.Core.Bool.{Bool}
use mathlib.Core.List.{List}
use Rattle.boards.specs.Lists.{for}
use Rattle.boards.specs.Boards.{has, mask, unlinked, link, unlink}
use Rattle.boards.specs.Rows.{rows_of}
use Rattle.boards.proofs.Groups.{Bounded, links_ext, links_rows, links_emptied, link_bounded, unlinked_bounded}
use Rattle.volatile.specs.Volatile.{fresh, depends, depend, clear}
use Rattle.volatile.specs.declared.Record.{Record}
use Rattle.volatile.specs.declared.Commit.{Commit}

pub record_same : {t : Bool} {f g : List ℕ} {o p : Commit} → f ≡ g → o ≡ p →
    ◌≡◌ {A = Record} (record { on = t; rows = f; commit = o }) (record { on = t; rows = g; commit = p })
record_same {t} e h = λ i. record { on = t; rows = e i; commit = h i }

pub commit_same : {s m a b : ℕ} → a ≡ b →
    ◌≡◌ {A = Commit} (record { starter = s; members = m; acknowledged = a })
    (record { starter = s; members = m; acknowledged = b })
commit_same {s} {m} e = λ i. record { starter = s; members = m; acknowledged = e i }

module _ (r : Record) (s : Bounded 16 (depends r)) where
  pub depends_depend : {i j : ℕ} → i < 16 → j < 16 → depends (depend r i j) ≡ link (depends r) i j
  unfolding depend depends
  depends_depend l k = links_ext (links_rows (link_bounded s l k))

  pub depends_clear : (g : ℕ) → depends (clear r g) ≡ unlink (has g) (depends r)
  unfolding clear depends
  depends_clear g = links_emptied r.rows g s

pub depends_fresh : depends fresh ≡ unlinked
unfolding fresh depends rows_of for mask unlinked
depends_fresh = links_ext (links_rows (unlinked_bounded 16))
