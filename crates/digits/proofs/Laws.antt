-- Laws of texts written one after another, and how long numbers and bytes are as text.
use Prim.Native.Nat.{ℕ, ◌+◌, ◌*◌, ◌/◌, ◌%◌, ◌≤◌, ◌<◌}
use mathlib.Core.Path.{◌≡◌, refl, sym, ◌∙◌, ap}
use mathlib.Core.Bool.{Bool, true, false, cond}
use mathlib.Core.List.{List, [], ◌∷◌, ◌++◌, append_assoc}
use lib.Dec.{leb}
use lib.ListN.{length, get_or, set, take, drop, take-append-drop, length-append, length-drop}
use Rattle.std.proofs.lemmas.List.{drop_all, append-nil}
use lib.Seq.{take_at, drop_at, drop-drop, length-take-le, set_split, take-suc}
use native.Mathlib.Omega.{arith}
use native.Mathlib.Nat.{add-zero, add_assoc}
use native.Mathlib.Numerals.{add-one}
use borrow.Rule.Slice.PartMut.{put_mid}
use borrow.Author.Tests.{le-leb, lt-leb}
use Rattle.boards.proofs.Basics.{if_true, if_false}
use Rattle.text.specs.Rows.{digit_at, decimal, byte_text, bytes_text, group_text}
use Rattle.digits.specs.Append.{placed, Appends, Writes}
use Rattle.digits.specs.declared.Output.{Output}

-- ---- writing

pub appends_none : (b : List ℕ) (at : ℕ) → at ≤ length b → Appends [] at b at b
unfolding placed
appends_none b at l =
    record { place = omega arith; room = l; buffer = rw (add-zero at) (sym (take-append-drop at b)) }

-- a part of the buffer, of k bytes, that was overwritten by a text as long
pub placed_part : (b ys t : List ℕ) (at k : ℕ) → ys ≡ t → k ≡ length t → put_mid at k b ys ≡ placed at t b
unfolding placed
placed_part b ys t at k e f = rw (e, f, drop-drop)

-- one character; r is what the code computes for the place after it
pub appends_one : (b : List ℕ) (at c : ℕ) {r : ℕ} → at < length b → r ≡ at + 1 → Appends (c ∷ []) at b r (set b at c)
unfolding placed
appends_one b at c l e =
    record { place = e; room = omega arith; buffer = rw (add-one at) (set_split b at c l) }

module _ {t : List ℕ} {at : ℕ} {b : List ℕ} {r : ℕ} {x : List ℕ} (m : Appends t at b r x) where
  front : length (take at b ++ t) ≡ r
  front = rw (length-append, length-take-le at b (omega (arith, m.place, m.room))) (sym m.place)

  parts : x ≡ (take at b ++ t) ++ drop r b
  unfolding placed
  parts = rw (m.place, append_assoc) m.buffer

  -- the length stays
  pub appends_length : length x ≡ length b
  appends_length = rw (parts, length-append, front, length-drop) (omega (arith, m.room))

  pub take_x : take r x ≡ take at b ++ t
  take_x = rw parts (take_at _ _ r front)

  drop_x : (k : ℕ) → drop (r + k) x ≡ drop (r + k) b
  drop_x k = rw (← drop-drop k r x, parts, drop_at _ _ r front) (drop-drop k r b)

  -- one text and then another are written as both in a row
  pub appends_then : {u : List ℕ} {r' : ℕ} {y : List ℕ} → Appends u r x r' y → Appends (t ++ u) at b r' y
  unfolding placed
  appends_then {u} n =
      record {
        place = omega (arith, n.place, m.place, length-append t u);
        room = omega (arith, n.room, appends_length);
        buffer = n.buffer ∙ rw (take_x, drop_x, length-append, ← add_assoc, ← m.place) (simp append_assoc);
      }

  -- and one character more
  pub appends_more : (c : ℕ) {r' : ℕ} → r < length b → r' ≡ r + 1 → Appends (t ++ c ∷ []) at b r' (set x r c)
  appends_more c l e = appends_then (appends_one x r c (omega (arith, appends_length)) e)

-- a text as long as the buffer is all that stands in it
pub appends_whole : {t b x : List ℕ} {r : ℕ} → Appends t 0 b r x → length b ≡ length t → x ≡ t
unfolding placed
appends_whole {t} {b} m l = m.buffer ∙ rw (drop_all (0 + length t) b (omega (arith, l))) (append-nil t)

-- ---- a lent buffer

-- what was put into it from its end on
pub writes : {t : List ℕ} {before after : Output} → after.buffer.ghost_name ≡ before.buffer.ghost_name
    → Appends t before.end before.buffer.now after.end after.buffer.now → Writes t before after
writes same m = record { same = same; appends = m; long = appends_length m }

pub writes_none : (out : Output) → out.end ≤ length out.buffer.now → Writes [] out out
writes_none out l = writes refl (appends_none out.buffer.now out.end l)

-- one text and then another
pub writes_then : {t u : List ℕ} {a b c : Output} → Writes t a b → Writes u b c → Writes (t ++ u) a c
writes_then m n = writes (n.same ∙ m.same) (appends_then m.appends n.appends)

-- ---- lengths

length_cond : (t : Bool) (c : ℕ) → length (cond t (c ∷ []) []) ≤ 1
length_cond true c = omega arith
length_cond false c = omega arith

pub length_digit_at : (place n : ℕ) → length (digit_at place n) ≤ 1
unfolding digit_at
length_digit_at place n = length_cond (leb place n) _

pub length_decimal : (n : ℕ) → length (decimal n) ≤ 5
unfolding decimal
length_decimal n =
    simp length-append
    (omega (arith, length_digit_at 10000 n, length_digit_at 1000 n, length_digit_at 100 n, length_digit_at 10 n))

pub length_group : (g : ℕ) → length (group_text g) ≡ 4
unfolding group_text byte_text
length_group g = refl

pub length_bytes : (bs : List ℕ) → length (bytes_text bs) ≡ 2 * length bs
unfolding bytes_text byte_text
length_bytes [] = refl
length_bytes (b ∷ bs) = omega (arith, length_bytes bs)

-- ---- texts

pub digit_none : (place n : ℕ) → n < place → digit_at place n ≡ []
unfolding digit_at
digit_none place n l = if_false _ _ (lt-leb place n l)

pub digit_some : (place n : ℕ) → place ≤ n → digit_at place n ≡ (48 + n / place % 10) ∷ []
unfolding digit_at
digit_some place n l = if_true _ _ (le-leb place n l)

-- a number of one digit
pub decimal_small : (n : ℕ) → n < 10 → decimal n ≡ (48 + n) ∷ []
unfolding decimal
decimal_small n l =
    let last : n % 10 ≡ n = omega arith in
    let no : (place : ℕ) → 10 ≤ place → digit_at place n ≡ [] = λ place h. digit_none place n (omega arith) in
    rw (no 10000 (omega arith), no 1000 (omega arith), no 100 (omega arith), no 10 (omega arith)) (rw last)

-- the text of one byte more
bytes_append : (bs cs : List ℕ) → bytes_text (bs ++ cs) ≡ bytes_text bs ++ bytes_text cs
unfolding bytes_text byte_text
bytes_append [] cs = refl
bytes_append (b ∷ bs) cs = ap (λ l. byte_text b ++ l) (bytes_append bs cs)

pub bytes_more : (bs : List ℕ) (x : ℕ) → x < length bs →
    bytes_text (take (x + 1) bs) ≡ bytes_text (take x bs) ++ byte_text (get_or bs x 0)
unfolding bytes_text byte_text
bytes_more bs x l = rw (add-one, take-suc bs x 0, bytes_append)
