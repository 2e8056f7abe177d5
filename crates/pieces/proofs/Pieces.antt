-- One line more of a piece, and what is kept of it.
use Prim.Native.Nat.{ℕ, zero, suc, ◌+◌, ◌-◌, ◌≤◌, ◌<◌}
use mathlib.Core.Path.{◌≡◌, refl, sym, ◌∙◌, ap, subst}
use mathlib.Core.Bool.{true, false}
use mathlib.Core.List.{List, [], ◌∷◌, ◌++◌, append_assoc}
use mathlib.Core.Logic.{⊎_elim}
use native.Mathlib.Omega.{arith}
use lib.Dec.{leb}
use lib.ListN.{length, take, drop, length-drop}
use lib.Seq.{take_all, drop-drop, length-take-le, take-take, take-paste}
use borrow.Author.Tests.{leb-true, leb-false}
use Rattle.std.specs.List.{copy_within}
use Rattle.boards.proofs.Basics.{decide}
use Rattle.text.specs.Fields.{line_feed, until, past}
use Rattle.text.specs.Whole.{lines, Goes, Ends, Program, output_by}
use Rattle.text.proofs.Steps.{output_goes, output_ends}
use Rattle.fields.proofs.Laws.{take_until, find_within, drop_past}
use Rattle.pieces.specs.Pieces.{Unbroken, WholeLine, Output, kept_length, Keeps, Stopped, LongAlike, Kept}
use Rattle.pieces.specs.declared.Stop.{Stop}
use Rattle.pieces.specs.declared.Stop.TheVariants.{Unfinished, Full, Limit}
use Rattle.pieces.proofs.Lines.{first_line, unbroken_take, kept_enough, exhausted}

-- ---- the next line

-- the first line feed from `read` on, or the end, n characters later, as the borrow checker has it
module _ (piece : List ℕ) (read n : ℕ) (l : read ≤ length piece)
    (found : n ≡ length (until line_feed (take (length piece - read) (drop read piece)))) where
  length_first : n ≡ length (until line_feed (drop read piece))
  length_first =
      found
      ∙ ap (λ (s : List ℕ). length (until line_feed s))
      (take_all (length piece - read) (drop read piece) (omega (arith, length-drop read piece)))

  pub none_left : length piece ≤ read + n → Unbroken (drop read piece)
  none_left h =
      omega (arith, find_within line_feed piece read l found, length_first, length-drop read piece)

  pub one_left : read + n < length piece → WholeLine piece read (read + n)
  one_left h =
      let rest = drop read piece in
      let size : read + n - read ≡ length (until line_feed rest) = omega (arith, length_first) in
      let next : read + n + 1 ≡ read + suc (length (until line_feed rest)) = omega (arith, length_first) in
      record {
        from = omega arith;
        within = h;
        line = rw size (take_until line_feed rest);
        rest =
            ap (λ (k : ℕ). drop k piece) next
            ∙ sym (drop-drop (suc (length (until line_feed rest))) read piece)
            ∙ drop_past line_feed rest;
        broken = omega (arith, length_first, length-drop read piece);
      }

-- ---- one line more

module _ {S : Type 0} (p : Program S) where
  pub line_more : (w v : S) (text : List ℕ) {u : S} {t piece : List ℕ} {read end : ℕ} → WholeLine piece read end →
      p.step v (take (end - read) (drop read piece)) ≡ Goes t u → Output p w piece v read text →
      Output p w piece u (end + 1) (text ++ t)
  line_more w v text {u} {t} {piece} {read} e goes so more =
      let rest = drop read piece in
      let next = lines (past line_feed rest ++ more) in
      so more
      ∙ ap (λ (s : List ℕ). text ++ s)
      (ap (output_by p v) (first_line rest more e.broken)
      ∙ output_goes p (until line_feed rest) next (rw e.line at goes))
      ∙ sym (append_assoc text t (output_by p u next))
      ∙ ap (λ (s : List ℕ). (text ++ t) ++ output_by p u (lines (s ++ more))) (sym e.rest)

  -- the program ends before the next line
  pub line_ends : (w v : S) (text : List ℕ) {piece : List ℕ} {read end : ℕ} → WholeLine piece read end →
      p.step v (take (end - read) (drop read piece)) ≡ Ends → Output p w piece v read text → (more : List ℕ) →
      output_by p w (lines (piece ++ more)) ≡ text ++ p.close v
  line_ends w v text {piece} {read} e ends so more =
      let rest = drop read piece in
      so more
      ∙ ap (λ (s : List ℕ). text ++ s)
      (ap (output_by p v) (first_line rest more e.broken)
      ∙ output_ends p (until line_feed rest) (lines (past line_feed rest ++ more)) (rw e.line at ends))

-- ---- what is kept

abbrev kept_of : Stop → List ℕ → List ℕ
kept_of stop rest = take (kept_length stop (length rest)) rest

-- no more is kept than there is
pub kept_most : (stop : Stop) (n : ℕ) → kept_length stop n ≤ n
unfolding kept_length
kept_most Unfinished n = omega arith
kept_most Full n = omega arith
kept_most Limit n = omega arith

-- a part that ends within the first `end` of a list
part_within : (n from end : ℕ) (l : List ℕ) → from + n ≤ end → take n (drop from (take end l)) ≡ take n (drop from l)
part_within n zero end l h = take-take n end l (omega arith)
part_within n (suc from) zero l h = absurd (omega arith)
part_within n (suc from) (suc end) [] h = refl
part_within n (suc from) (suc end) (x ∷ l) h = part_within n from end l (omega arith)

-- the first bytes after a part was moved to the start
copied_down : (xs : List ℕ) (from n : ℕ) → from + n ≤ length xs →
    take n (copy_within xs from (from + n) 0) ≡ take n (drop from xs)
copied_down xs from n l =
    let size : from + n - from ≡ n = omega arith in
    let none : 0 + n ≡ n = omega arith in
    rw size (rw none (rw none at (take-paste xs 0 (drop from xs) n (omega arith) (omega (arith, length-drop from xs)))))

-- what was moved to the start is what is kept of a piece's rest
pub kept_down : (stop : Stop) (input : List ℕ) {read end held : ℕ} {after : List ℕ} → read ≤ end → end ≤ length input →
    held ≡ kept_length stop (end - read) → after ≡ copy_within input read (read + held) 0 →
    Keeps stop (drop read (take end input)) held after
kept_down stop input {read} {end} {held} l m h moved =
    let most : held ≤ end - read = omega (arith, kept_most stop (end - read)) in
    let left : length (drop read (take end input)) ≡ end - read =
    length-drop read (take end input) ∙ ap (λ (n : ℕ). n - read) (length-take-le end input m)
    in
    record {
      size = h ∙ ap (kept_length stop) (sym left);
      same =
          ap (take held) moved ∙ copied_down input read held (omega arith)
          ∙ sym (part_within held read end input (omega arith));
    }

-- the kept characters at the input's start
module _ {stop : Stop} {rest : List ℕ} {held : ℕ} {input : List ℕ} (k : Keeps stop rest held input) where
  stands : take held input ≡ kept_of stop rest
  stands = k.same ∙ ap (λ (n : ℕ). take n rest) k.size

  -- with whatever follows they give what the rest would give
  pub kept_stands : {S : Type 0} (p : Program S) (v : S) → LongAlike p → Stopped p stop v rest → (more : List ℕ) →
      output_by p v (lines (rest ++ more)) ≡ output_by p v (lines (take held input ++ more))
  unfolding kept_length
  kept_stands p v alike h more = rw stands (go stop h)
    where
      go : (s : Stop) → Stopped p s v rest →
          output_by p v (lines (rest ++ more)) ≡ output_by p v (lines (kept_of s rest ++ more))
      go Unfinished u =
          ⊎_elim
          (λ (long : leb 161 (length rest) ≡ true).
          let l = leb-true 161 (length rest) long in
          let most : kept_length Unfinished (length rest) ≡ 161 = omega (arith, l) in
          rw most (kept_enough p alike v rest more u l))
          (λ (short : leb 161 (length rest) ≡ false).
          let l = leb-false 161 (length rest) short in
          let all : kept_length Unfinished (length rest) ≡ length rest = omega (arith, l) in
          rw (all, take_all (length rest) rest (omega arith)))
          (decide (leb 161 (length rest)))
      go Full u = rw (take_all (length rest) rest (omega arith))
      go Limit u = exhausted p v u (lines (rest ++ more)) ∙ sym (exhausted p v u (lines more))

  -- the next turn can count on them
  pub kept_on : length rest ≤ length input → (stop ≡ Unfinished → Unbroken rest) → Kept stop held input
  unfolding kept_length
  kept_on l u = go stop k.size stands u
    where
      go : (s : Stop) → held ≡ kept_length s (length rest) → take held input ≡ kept_of s rest →
          (s ≡ Unfinished → Unbroken rest) → Kept s held input
      go Unfinished h same u = (
        omega (arith, h),
        omega (arith, kept_most Unfinished (length rest)),
        rw same (unbroken_take (kept_length Unfinished (length rest)) rest (u refl)),
      )
      go Full h same u = omega arith
      go Limit h same u = h

pub kept_within : (stop : Stop) (held : ℕ) (input : List ℕ) → Kept stop held input → held ≤ length input
kept_within Unfinished held input k = k.1
kept_within Full held input k = k
kept_within Limit held input k = omega arith

-- nothing is kept before the first turn
pub kept_first : (input : List ℕ) → Kept Unfinished 0 input
unfolding until
kept_first input = (omega arith, omega arith, refl)

-- what is kept of a line that is not finished
pub kept_line : {stop : Stop} (held : ℕ) (input : List ℕ) → stop ≡ Unfinished → Kept stop held input →
    Kept Unfinished held input
kept_line held input e k = subst (λ s. Kept s held input) e k
