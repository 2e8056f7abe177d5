-- A line that is too long; the output of a program by its first line; the step of `rsmrun`.
use Prim.Native.Nat.{ℕ, ◌≤◌, ◌<◌}
use mathlib.Core.Path.{◌≡◌}
use mathlib.Core.List.{List, ◌∷◌, ◌++◌}
use lib.ListN.{length}
use borrow.Author.Tests.{lt-leb, lt-ltb, le-ltb}
use Rattle.boards.proofs.Basics.{if_false}
use Rattle.text.specs.Events.{unreadable, taken}
use Rattle.text.specs.Whole.{Line, Goes, Ends, Program, continued, output_by}
use Rattle.text.specs.Whole.{Run, most_lines, line_text, next_run, line_step, rsmrun}

pub taken_long : (l : Line) → 160 < length l → taken l ≡ unreadable
unfolding taken
taken_long l h = if_false _ _ (lt-leb (length l) 160 h)

module _ {S : Type 0} (p : Program S) (l : Line) (ls : List Line) {s : S} where
  pub output_goes : {t : List ℕ} {v : S} → p.step s l ≡ Goes t v → output_by p s (l ∷ ls) ≡ t ++ output_by p v ls
  unfolding output_by continued
  output_goes e = rw e

  pub output_ends : p.step s l ≡ Ends → output_by p s (l ∷ ls) ≡ p.close s
  unfolding output_by continued
  output_ends e = rw e

module _ (r : Run) (l : Line) where
  pub run_goes : r.played < most_lines → rsmrun.step r l ≡ Goes (line_text r l) (next_run r l)
  unfolding rsmrun line_step
  run_goes h = rw (lt-ltb r.played most_lines h)

  pub run_ends : most_lines ≤ r.played → rsmrun.step r l ≡ Ends
  unfolding rsmrun line_step
  run_ends h = rw (le-ltb r.played most_lines h)
