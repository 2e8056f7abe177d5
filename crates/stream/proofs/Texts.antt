-- The text of the next turn lies within the input.
use Prim.Native.Nat.{ℕ, ◌+◌, ◌≤◌}
use mathlib.Core.Path.{◌≡◌, subst}
use mathlib.Core.Bool.{Bool, true, false, cond}
use mathlib.Core.List.{List}
use native.Mathlib.Omega.{arith}
use lib.Dec.{eqb}
use lib.ListN.{length, take}
use Rattle.std.specs.Prelude.{Option, Some, None, Result, Ok, Err}
use Rattle.std.specs.Io.{ReadsAtMost}
use Rattle.std.specs.Result.{IfOk, IsOkAnd, MatchResult}
use Rattle.std.specs.IoError.{error_kind}
use Rattle.std.specs.declared.io.Error.{Error}
use Rattle.text.specs.Fields.{until}
use Rattle.pieces.specs.declared.Stop.{Stop}
use Rattle.pieces.specs.declared.Stop.TheVariants.{Limit}
use Rattle.pieces.specs.Pieces.{Unbroken, Kept}
use Rattle.pieces.specs.Answers.{interrupted, meaning}

-- where the text ends with the characters that were read
ends_most : {P : ℕ → ℕ → Type 0} (read got : Result ℕ Error) (buf : List ℕ) (held last : ℕ) →
    held + length buf ≤ last → ReadsAtMost read buf → MatchResult read (λ n. IsOkAnd got (P n)) (λ e. got ≡ Err e) →
    ((n end : ℕ) → P n end → end ≡ held + n) → IfOk got (λ end. end ≤ last)
ends_most (Ok n) (Ok end) buf held last l most ends sum = omega (arith, most.0, sum n end ends)
ends_most (Ok n) (Err e) buf held last l most ends sum = absurd ends
ends_most (Err e) (Ok end) buf held last l most ends sum = absurd (cc)
ends_most (Err e) (Err f) buf held last l most ends sum = tt

-- a text to be played ends there, or where it did
text_most : (got : Result ℕ Error) (held last end : ℕ) → held ≤ last → IfOk got (λ end. end ≤ last) →
    meaning got held ≡ Ok (Some end) → end ≤ last
unfolding meaning
text_most (Ok n) held last end l m = some (eqb n held)
  where
    some : (none : Bool) →
        cond {A = Result (Option ℕ) Error} none (Ok None) (Ok (Some n)) ≡ Ok (Some end) → end ≤ last
    some true e = absurd (cc)
    some false e = let same : n ≡ end = cc in omega arith
text_most (Err x) held last end l m = again (interrupted (error_kind x))
  where
    again : (b : Bool) →
        cond {A = Result (Option ℕ) Error} b (Ok (Some held)) (Err x) ≡ Ok (Some end) → end ≤ last
    again true e = let same : held ≡ end = cc in omega arith
    again false e = absurd (cc)

-- the text behind which was read lies within the input
pub read_most : {P : ℕ → ℕ → Type 0} (read got : Result ℕ Error) (buf : List ℕ) (held last : ℕ) →
    held + length buf ≤ last → ReadsAtMost read buf → MatchResult read (λ n. IsOkAnd got (P n)) (λ e. got ≡ Err e) →
    ((n end : ℕ) → P n end → end ≡ held + n) → (end : ℕ) → meaning got held ≡ Ok (Some end) → end ≤ last
read_most read got buf held last l most ends sum end =
    text_most got held last end (omega arith) (ends_most read got buf held last l most ends sum)

-- behind the last line nothing is held
pub held_limit : {stop : Stop} (held : ℕ) (input : List ℕ) → stop ≡ Limit → Kept stop held input →
    Unbroken (take held input)
unfolding until
held_limit held input e k = rw (subst (λ s. Kept s held input) e k)
