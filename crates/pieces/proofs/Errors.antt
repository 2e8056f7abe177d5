-- A read that failed is never the input's end.
use mathlib.Core.Path.{◌≡◌}
use mathlib.Core.Bool.{true, false}
use mathlib.Core.Logic.{⊎_elim}
use Rattle.std.specs.IoError.{error_kind}
use Rattle.boards.proofs.Basics.{decide}
use Rattle.pieces.specs.Answers.{interrupted, meaning, ErrorsNoEnd}

pub errors_no_end : ErrorsNoEnd
unfolding meaning
errors_no_end e held =
    ⊎_elim
    (λ (yes : interrupted (error_kind e) ≡ true). rw yes (λ h. cc))
    (λ (no : interrupted (error_kind e) ≡ false). rw no (λ h. cc))
    (decide (interrupted (error_kind e)))
