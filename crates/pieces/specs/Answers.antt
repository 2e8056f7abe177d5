-- What the system's answers mean to a program that reads its input.
use Rattle.std.specs.Prelude.{ℕ, Bool, true, false, cond, List, ◌≢◌, eqb, Option, Some, None, Result, Ok, Err}
use Rattle.std.specs.IoError.{error_kind}
use Rattle.std.specs.declared.io.Error.{Error}
use Rattle.std.specs.declared.io.ErrorKind.{ErrorKind}
use Rattle.std.specs.declared.io.ErrorKind.TheVariants.{Interrupted}
use Rattle.pieces.specs.Pieces.{Unbroken}

-- a call that a signal interrupted
abbrev pub interrupted : ErrorKind → Bool
interrupted Interrupted = true
interrupted _ = false

-- What a read behind `held` characters means, after which the text ends at `end`. One that failed is never the input's
-- end; one that was interrupted leaves the text as it is, to be read on.
unfoldable pub meaning : Result ℕ Error → ℕ → Result (Option ℕ) Error
meaning (Ok end) held = cond (eqb end held) (Ok None) (Ok (Some end))
meaning (Err e) held = cond (interrupted (error_kind e)) (Ok (Some held)) (Err e)

-- a read that failed is never the input's end
abbrev pub ErrorsNoEnd : Type 0
ErrorsNoEnd = (e : Error) (held : ℕ) → meaning (Err e) held ≢ Ok None

-- at the input's end no line feed is left
abbrev pub Over : Result (Option ℕ) Error → List ℕ → Type 0
Over (Ok (Some end)) rest = Unit {0}
Over (Ok None) rest = Unbroken rest
Over (Err e) rest = Unit {0}
