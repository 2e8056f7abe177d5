-- 18: a decided commit when the page is full, and before.
use Prim.Native.Nat.{suc}
use mathlib.Core.Path.{◌≡◌, refl}
use mathlib.Core.Bool.{Bool, true, false, ◌&&◌}
use native.Mathlib.Omega.{arith}
use lib.Dec.{ltb}
use borrow.Author.Tests.{lt-ltb, le-ltb, le-leb, lt-leb}
use Rattle.boards.proofs.Basics.{and_false}
use Rattle.text.specs.Whole.{most_lines}
use Rattle.page.specs.Page.{most_commits, full_status, added, decided_text, page_goes}
use Rattle.page.specs.Claims.{FullAnswers18}

and_yes : (b : Bool) → b && true ≡ b
and_yes true = refl
and_yes false = refl

pub full_answers_18 : FullAnswers18
unfolding full_status added decided_text page_goes
full_answers_18 t c r =
    record {
      printed =
          λ h.
          let room = lt-ltb t.commits most_commits h in
          rw (room, le-leb (suc t.commits) most_commits (omega arith)) (refl, and_yes (ltb r.played most_lines));
      full =
          λ e.
          let none = le-ltb t.commits most_commits (omega arith) in
          let over = lt-leb (suc t.commits) most_commits (omega arith) in
          rw (none, over) (refl, refl, refl, refl, and_false (ltb r.played most_lines) refl);
    }
