-- The lines of a text that is read piece by piece: a first line that is whole, a last line without a line feed, and
-- a line that is too long to be kept; what a program makes of them.
use Prim.Native.Nat.{ℕ, zero, suc, ◌≤◌, ◌<◌}
use mathlib.Core.Path.{◌≡◌, refl, sym, ◌∙◌, ap}
use mathlib.Core.Bool.{Bool, true, false, cond}
use mathlib.Core.List.{List, [], ◌∷◌, ◌++◌, append-nil}
use mathlib.Core.Logic.{◌≢◌}
use native.Mathlib.Omega.{arith}
use lib.Dec.{eqb}
use lib.ListN.{length, take, length-append, length-take}
use Rattle.boards.proofs.Basics.{if_false}
use Rattle.text.specs.Fields.{line_feed, until, past}
use Rattle.text.specs.Whole.{Line, lines, grown, Step, Goes, Ends, Program, continued, output_by}
use Rattle.text.proofs.Steps.{output_goes, output_ends}
use Rattle.pieces.specs.Pieces.{Unbroken, Broken, LongAlike}

-- ---- lines

-- a text with a line feed: its first line, and the lines of what follows
pub first_line : (s t : List ℕ) → Broken s →
    lines (s ++ t) ≡ until line_feed s ∷ lines (past line_feed s ++ t)
unfolding until past lines grown
first_line [] t h = absurd (omega arith)
first_line (c ∷ s) t h = step (eqb c line_feed) h (λ l. first_line s t l)
  where
    step : (b : Bool) → length (cond b [] (c ∷ until line_feed s)) < suc (length s) →
        (length (until line_feed s) < length s → lines (s ++ t) ≡ until line_feed s ∷ lines (past line_feed s ++ t)) →
        cond b ([] ∷ lines (s ++ t)) (grown c (lines (s ++ t)))
        ≡ cond b [] (c ∷ until line_feed s) ∷ lines (cond b s (past line_feed s) ++ t)
    step true l e = refl
    step false l e = ap (grown c) (e (omega arith))

-- a text before the first of some lines
unfoldable joined : List ℕ → List Line → List Line
joined s [] = s ∷ []
joined s (l ∷ ls) = (s ++ l) ∷ ls

unbroken_rest : (c : ℕ) (s : List ℕ) → Unbroken (c ∷ s) → (eqb c line_feed ≡ false) × Unbroken s
unfolding until
unbroken_rest c s u = step (eqb c line_feed) refl u
  where
    step : (b : Bool) → eqb c line_feed ≡ b → length (cond b [] (c ∷ until line_feed s)) ≡ suc (length s) →
        (eqb c line_feed ≡ false) × Unbroken s
    step true e l = absurd (omega arith)
    step false e l = (e, omega arith)

unbroken_lines : (c : ℕ) (s t : List ℕ) → Unbroken (c ∷ s) → lines ((c ∷ s) ++ t) ≡ joined (c ∷ s) (lines t)
unfolding lines joined grown
unbroken_lines c [] t u = if_false _ _ (unbroken_rest c [] u).0 ∙ last (lines t)
  where
    last : (ls : List Line) → grown c ls ≡ joined (c ∷ []) ls
    last [] = refl
    last (l ∷ ls) = refl
unbroken_lines c (d ∷ s) t u =
    if_false _ _ (unbroken_rest c (d ∷ s) u).0
    ∙ ap (grown c) (unbroken_lines d s t (unbroken_rest c (d ∷ s) u).1) ∙ last (lines t)
  where
    last : (ls : List Line) → grown c (joined (d ∷ s) ls) ≡ joined (c ∷ d ∷ s) ls
    last [] = refl
    last (l ∷ ls) = refl

-- the last line, without a line feed
last_line : (c : ℕ) (s : List ℕ) → Unbroken (c ∷ s) → lines (c ∷ s) ≡ (c ∷ s) ∷ []
unfolding joined lines
last_line c s u = ap lines (sym (append-nil (c ∷ s))) ∙ unbroken_lines c s [] u

-- ---- a line that is too long

pub unbroken_take : (n : ℕ) (s : List ℕ) → Unbroken s → Unbroken (take n s)
unfolding until
unbroken_take zero s u = refl
unbroken_take (suc n) [] u = refl
unbroken_take (suc n) (c ∷ s) u =
    let rest = unbroken_rest c s u in
    ap length (if_false _ _ rest.0) ∙ ap suc (unbroken_take n s rest.1)

module _ {S : Type 0} (p : Program S) where
  -- a program that ends before any line
  pub exhausted : (v : S) → ((l : Line) → p.step v l ≡ Ends) → (ls : List Line) → output_by p v ls ≡ p.close v
  unfolding output_by
  exhausted v h [] = refl
  exhausted v h (l ∷ ls) = output_ends p l ls (h l)

  -- what is made of a last line, and of none
  pub output_last : (v : S) (s : List ℕ) {t : List ℕ} {u : S} → length s ≢ 0 → Unbroken s → p.step v s ≡ Goes t u →
      output_by p v (lines s) ≡ t ++ p.close u
  unfolding output_by
  output_last v [] h w e = absurd (h refl)
  output_last v (c ∷ s) h w e = ap (output_by p v) (last_line c s w) ∙ output_goes p (c ∷ s) [] e

  pub output_last_ends : (v : S) (s : List ℕ) → length s ≢ 0 → Unbroken s → p.step v s ≡ Ends →
      output_by p v (lines s) ≡ p.close v
  output_last_ends v [] h w e = absurd (h refl)
  output_last_ends v (c ∷ s) h w e = ap (output_by p v) (last_line c s w) ∙ output_ends p (c ∷ s) [] e

  pub output_none : (v : S) (s : List ℕ) → length s ≡ 0 → output_by p v (lines s) ≡ p.close v
  unfolding output_by lines
  output_none v [] h = refl
  output_none v (c ∷ s) h = absurd (omega arith)

  same_output : {s : S} {l m : Line} (ls : List Line) → p.step s l ≡ p.step s m →
      output_by p s (l ∷ ls) ≡ output_by p s (m ∷ ls)
  unfolding output_by
  same_output {s} ls e = ap (λ (t : Step S). continued t (p.close s) (λ next. output_by p next ls)) e

  -- what is made of a text that begins with a line too long depends on its first 161 characters alone
  pub kept_enough : LongAlike p → (v : S) (s t : List ℕ) → Unbroken s → 161 ≤ length s →
      output_by p v (lines (s ++ t)) ≡ output_by p v (lines (take 161 s ++ t))
  unfolding joined
  kept_enough alike v [] t u h = absurd (omega arith)
  kept_enough alike v (c ∷ s) t u h =
      ap (output_by p v) (unbroken_lines c s t u) ∙ same (lines t)
      ∙ sym (ap (output_by p v) (unbroken_lines c (take 160 s) t (unbroken_take 161 (c ∷ s) u)))
    where
      long : (l : List ℕ) → 160 < length ((c ∷ take 160 s) ++ l)
      long l = omega (arith, length-append (c ∷ take 160 s) l, length-take 160 s)

      same : (ls : List Line) → output_by p v (joined (c ∷ s) ls) ≡ output_by p v (joined (c ∷ take 160 s) ls)
      same [] = same_output [] (alike v (c ∷ s) (c ∷ take 160 s) (omega arith) (omega (arith, length-take 160 s)))
      same (l ∷ ls) =
          same_output ls
          (alike v ((c ∷ s) ++ l) ((c ∷ take 160 s) ++ l) (omega (arith, length-append (c ∷ s) l)) (long l))
