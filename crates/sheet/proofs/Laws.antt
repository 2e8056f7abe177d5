-- Columns by their last character; what a commit is answered.
use Prim.Native.Nat.{ℕ, zero, suc, ◌+◌, ◌-◌, ◌/◌, ◌%◌, ◌≤◌}
use mathlib.Core.Path.{◌≡◌, refl, sym}
use mathlib.Core.Bool.{true, false, cond}
use mathlib.Core.List.{[], ◌∷◌, ◌++◌}
use native.Mathlib.Omega.{arith}
use lib.Dec.{eqb}
use Rattle.std.specs.Prelude.{Result, Ok, Err, is_err}
use Rattle.std.proofs.lemmas.Bool.{false≢true}
use Rattle.protocol.proofs.Numbers.{refusal_not_zero}
use Rattle.protocol.specs.declared.Refusal.{Refusal}
use Rattle.page.specs.Columns.{blank, leading, padded}
use Rattle.page.specs.Page.{no_totals}
use Rattle.page.specs.declared.Totals.{Totals}
use Rattle.sheet.specs.Sums.{added_status}

before : (w : ℕ) → suc w - 1 ≡ w
before w = omega arith

pub leading_last : (w n : ℕ) → 1 ≤ w → leading w n ≡ leading (w - 1) (n / 10) ++ cond (eqb n 0) blank (48 + n % 10) ∷ []
unfolding leading
leading_last zero n h = absurd (omega arith)
leading_last (suc w) n h = rw (before w)

pub padded_last : (w n : ℕ) → 1 ≤ w → padded w n ≡ leading (w - 1) (n / 10) ++ (48 + n % 10) ∷ []
unfolding padded
padded_last zero n h = absurd (omega arith)
padded_last (suc w) n h = rw (before w)

-- ---- totals

zeros : (a b c : ℕ) → a ≡ 0 → b ≡ 0 → c ≡ 0 → record { commits = a; blocks = b; bytes = c } ≡ no_totals
unfolding no_totals
zeros a b c d e f = cc

pub default_totals : (t : Totals) → (t.commits ≡ 0) × ((t.blocks ≡ 0) × (t.bytes ≡ 0)) → t ≡ no_totals
default_totals t h = zeros t.commits t.blocks t.bytes h.0 h.1.0 h.1.1

-- ---- what a commit is answered: 0, or the number of a refusal

pub status_zero : {A : Type 0} (r : Result A Refusal) → is_err r ≡ false → added_status r ≡ 0
status_zero (Ok a) e = refl
status_zero (Err refusal) e = absurd (false≢true (sym e))

pub status_some : {A : Type 0} (r : Result A Refusal) → is_err r ≡ true → 1 ≤ added_status r
status_some (Ok a) e = absurd (false≢true e)
status_some (Err refusal) e = omega (arith, refusal_not_zero refusal)
