-- Laws of fields: what stands at a place of a text, and from there on.
use Prim.Native.Nat.{ℕ, zero, suc, min, ◌+◌, ◌-◌, ◌*◌, ◌≤◌, ◌<◌}
use mathlib.Core.Path.{◌≡◌, refl, sym, ◌∙◌, ap}
use mathlib.Core.Bool.{Bool, true, false, ◌&&◌, cond}
use mathlib.Core.List.{List, [], ◌∷◌}
use Rattle.std.specs.Prelude.{Option, None, Some, unwrap_or}
use Rattle.std.specs.List.{position_or_len}
use Rattle.std.specs.Option.{option_map}
use Rattle.std.proofs.lemmas.List.Sums.{prefix_len-le-length}
use mathlib.Core.Bool.{not}
use lib.Dec.{eqb, leb, ltb}
use lib.ListN.{length, get_or, take, drop, length-take, length-drop, drop_of_length-le}
use lib.Seq.{drop-drop, get_or-drop, get_or-take, take_all}
use native.Mathlib.Omega.{arith}
use native.Mathlib.Numerals.{add-one}
use borrow.Author.Tests.{ltb-false, eq-eqb, ne_eqb, le-leb, leb-true, eqb-true}
use Rattle.boards.proofs.Basics.{and_true, if_true, if_false, refute}
use Rattle.text.specs.Fields.{comma, until, past, field, before, after, commas, number_from}
use Rattle.text.specs.Fields.{number_of, between}
use Rattle.text.specs.Letters.{table, looked_up, letter_of}
use Rattle.text.proofs.Places.{from}
use Rattle.fields.specs.Numbers.{measured, from_field, FieldEnds}
use Rattle.fields.specs.declared.Number.{Number}

-- ---- the text from a place on

module _ (s : List ℕ) (i : ℕ) (l : i < length s) where
  pub until_stop : (d : ℕ) → get_or s i 0 ≡ d → length (until d (drop i s)) ≡ 0
  unfolding until
  until_stop d e = rw (from s i l, eq-eqb _ _ e)

  pub until_more : (d : ℕ) → (get_or s i 0 ≡ d → ⊥)
      → length (until d (drop i s)) ≡ suc (length (until d (drop (i + 1) s)))
  unfolding until
  until_more d e = rw (from s i l, ne_eqb _ _ e)

  commas_comma : get_or s i 0 ≡ comma → commas (drop i s) ≡ suc (commas (drop (i + 1) s))
  unfolding commas
  commas_comma e = rw (from s i l, eq-eqb _ _ e)

  -- a digit that goes on with the number v, and a character that stops it
  module _ (v : ℕ) (other : get_or s i 0 ≡ comma → ⊥) where
    next : before (drop i s) ≡ get_or s i 0 ∷ before (drop (i + 1) s)
    unfolding until
    next = rw (from s i l, ne_eqb _ _ other)

    pub number_more : 48 ≤ get_or s i 0 → get_or s i 0 ≤ 57 → 10 * v + (get_or s i 0 - 48) ≤ 65535
        → number_from v (before (drop i s)) ≡ number_from (10 * v + (get_or s i 0 - 48)) (before (drop (i + 1) s))
    unfolding number_from
    number_more l m n = rw (next, le-leb 48 _ l, le-leb _ 57 m, le-leb _ 65535 n)

    number_stop : (48 ≤ get_or s i 0 → get_or s i 0 ≤ 57 → 10 * v + (get_or s i 0 - 48) ≤ 65535 → ⊥)
        → number_from v (before (drop i s)) ≡ None
    unfolding number_from
    number_stop h = rw next (if_false _ _ (refute (between 48 57 c && leb w 65535) go))
      where
        c : ℕ
        c = get_or s i 0

        w : ℕ
        w = 10 * v + (c - 48)

        go : between 48 57 c && leb w 65535 ≡ true → ⊥
        go e =
            let parts = and_true (between 48 57 c) (leb w 65535) e in
            let ends = and_true (leb 48 c) (leb c 57) parts.0 in
            h (leb-true 48 c ends.0) (leb-true c 57 ends.1) (leb-true w 65535 parts.1)

-- from the text's end on

module _ (s : List ℕ) (i : ℕ) (l : length s ≤ i) where
  pub until_end : (d : ℕ) → length (until d (drop i s)) ≡ 0
  unfolding until
  until_end d = rw (drop_of_length-le s l)

  pub commas_end : commas (drop i s) ≡ 0
  unfolding commas
  commas_end = rw (drop_of_length-le s l)

-- ---- the text before the first d, and after it

module _ (d : ℕ) where
  pub take_until : (s : List ℕ) → take (length (until d s)) s ≡ until d s
  unfolding until
  take_until [] = refl
  take_until (c ∷ s) = go (eqb c d) (take_until s)
    where
      go : (b : Bool) → take (length (until d s)) s ≡ until d s
          → take (length (cond b [] (c ∷ until d s))) (c ∷ s) ≡ cond b [] (c ∷ until d s)
      go true h = refl
      go false h = ap (λ l. c ∷ l) h

  pub until_fits : (s : List ℕ) → length (until d s) ≤ length s
  unfolding until
  until_fits [] = omega arith
  until_fits (c ∷ s) = go (eqb c d) (until_fits s)
    where
      go : (b : Bool) → length (until d s) ≤ length s → length (cond b [] (c ∷ until d s)) ≤ suc (length s)
      go true h = omega arith
      go false h = omega arith

  -- a search from a place on ends within the text
  pub find_within : (s : List ℕ) (at : ℕ) {n : ℕ} → at ≤ length s
      → n ≡ length (until d (take (length s - at) (drop at s))) → at + n ≤ length s
  find_within s at l found =
      let rest = take (length s - at) (drop at s) in
      omega (arith, until_fits rest, length-take (length s - at) (drop at s))

  pub drop_past : (s : List ℕ) → drop (suc (length (until d s))) s ≡ past d s
  unfolding until past
  drop_past [] = refl
  drop_past (c ∷ s) = go (eqb c d) (drop_past s)
    where
      go : (b : Bool) → drop (suc (length (until d s))) s ≡ past d s
          → drop (length (cond b [] (c ∷ until d s))) s ≡ cond b s (past d s)
      go true h = refl
      go false h = h

-- what a search finds, or else the text's length
place_until : (d : ℕ) (s : List ℕ) → position_or_len (λ c. eqb c d) s ≡ length (until d s)
unfolding until
place_until d [] = refl
place_until d (c ∷ s) = go (eqb c d) (place_until d s)
  where
    go : (b : Bool) → position_or_len (λ c. eqb c d) s ≡ length (until d s)
        → cond (not b) (1 + position_or_len (λ c. eqb c d) s) 0 ≡ length (cond b [] (c ∷ until d s))
    go true h = refl
    go false h = omega (arith, h)

pub found_until : (d : ℕ) (s : List ℕ) →
    let n = position_or_len (λ c. eqb c d) s in
    unwrap_or (cond (ltb n (length s)) (Some n) None) (length s) ≡ length (until d s)
found_until d s = go (ltb n (length s)) refl ∙ place_until d s
  where
    n : ℕ
    n = position_or_len (λ c. eqb c d) s

    go : (b : Bool) → ltb n (length s) ≡ b → unwrap_or (cond b (Some n) None) (length s) ≡ n
    go true e = refl
    go false e = omega (arith, ltb-false n (length s) e, prefix_len-le-length (λ c. not (eqb c d)) s)

-- a search in the first n characters ends where one in all does, or behind these n
pub until_take : (d n : ℕ) (s : List ℕ) → length (until d (take n s)) ≡ min n (length (until d s))
unfolding until
until_take d zero s = omega arith
until_take d (suc n) [] = omega arith
until_take d (suc n) (c ∷ s) = go (eqb c d) (until_take d n s)
  where
    go : (b : Bool) → length (until d (take n s)) ≡ min n (length (until d s))
        → length (cond b [] (c ∷ until d (take n s))) ≡ min (suc n) (length (cond b [] (c ∷ until d s)))
    go true h = omega arith
    go false h = omega (arith, h)

pub before_fits : (s : List ℕ) → length (before s) ≤ length s
before_fits s = until_fits comma s

-- two characters tell whether the field has one
one_of_two : (m n : ℕ) → n ≡ min 2 m → eqb n 1 ≡ eqb m 1
one_of_two zero n e = ne_eqb n 1 (λ h. omega (arith, e, h))
one_of_two (suc zero) n e = eq-eqb n 1 (omega (arith, e))
one_of_two (suc (suc m)) n e =
    ne_eqb n 1 (λ h. omega (arith, e, h)) ∙ sym (ne_eqb (suc (suc m)) 1 (λ h. omega (arith, h)))

pub before_of_two : (s : List ℕ) (n : ℕ) → n ≡ min (length s) 2
    → eqb (length (before (take n s))) 1 ≡ eqb (length (before s)) 1
before_of_two s n e =
    one_of_two (length (before s)) _ (omega (arith, e, until_take comma n s, before_fits s))

-- ---- a letter, which stands alone

pub letter_none : (t : List ℕ) → (length t ≡ 1 → ⊥) → letter_of t ≡ None
unfolding letter_of
letter_none [] h = refl
letter_none (c ∷ []) h = absurd (h refl)
letter_none (c ∷ d ∷ t) h = refl

pub letter_one : (s : List ℕ) → length (before s) ≡ 1 → letter_of (before s) ≡ looked_up (get_or s 0 0) table
unfolding letter_of
letter_one [] e = absurd (omega (arith, before_fits []))
letter_one (x ∷ s) e = ap letter_of (sym (take_until comma (x ∷ s)) ∙ ap (λ n. take n (x ∷ s)) e)

-- ---- a number without leading zeros

pub first_of : (s : List ℕ) → 0 < length (before s) → get_or (before s) 0 0 ≡ get_or s 0 0
first_of s l = ap (λ t. get_or t 0 0) (sym (take_until comma s)) ∙ get_or-take _ s 0 0 l

pub number_none : (t : List ℕ) → length t ≡ 0 → number_of t ≡ None
unfolding number_of
number_none [] l = refl
number_none (c ∷ t) l = absurd (omega arith)

pub number_led : (t : List ℕ) → 1 < length t → get_or t 0 0 ≡ 48 → number_of t ≡ None
unfolding number_of
number_led [] l e = absurd (omega arith)
number_led (c ∷ []) l e = absurd (omega arith)
number_led (c ∷ d ∷ t) l e = if_true _ _ (eq-eqb c 48 e)

pub number_whole : (t : List ℕ) → 0 < length t → (1 < length t → get_or t 0 0 ≡ 48 → ⊥)
    → number_of t ≡ number_from 0 t
unfolding number_of
number_whole [] l h = absurd (omega arith)
number_whole (c ∷ []) l h = refl
number_whole (c ∷ d ∷ t) l h = if_false _ _ (ne_eqb c 48 (h (omega arith)))

-- where no digit follows, the number is whole; what the digits can't make is no number
pub number_done : (v : ℕ) (t : List ℕ) → length t ≡ 0 → number_from v t ≡ Some v
unfolding number_from
number_done v [] l = refl
number_done v (c ∷ t) l = absurd (omega arith)

number_refused : (t : List ℕ) → number_from 0 t ≡ None → number_of t ≡ None
unfolding number_of
number_refused [] e = refl
number_refused (c ∷ []) e = e
number_refused (c ∷ d ∷ t) e = rw e (go (eqb c 48))
  where
    go : (b : Bool) → cond {A = Option ℕ} b None None ≡ None
    go true = refl
    go false = refl

pub number_stopped : (s : List ℕ) (i : ℕ) → i < length s → (v : ℕ)
    → number_from v (before (drop i s)) ≡ number_from 0 (before s) → (get_or s i 0 ≡ comma → ⊥)
    → (48 ≤ get_or s i 0 → get_or s i 0 ≤ 57 → 10 * v + (get_or s i 0 - 48) ≤ 65535 → ⊥)
    → None ≡ measured (number_of (before s)) (length (before s))
unfolding measured
number_stopped s i l v e other h = rw (number_refused (before s) (sym e ∙ number_stop s i l v other h))

-- ---- the numbers of a line

-- a text from its first d on
module _ (d : ℕ) where
  at_first : (s : List ℕ) → length (until d s) < length s → get_or s (length (until d s)) 0 ≡ d
  unfolding until
  at_first [] l = absurd (omega arith)
  at_first (c ∷ s) l = go (eqb c d) refl (at_first s) l
    where
      go : (b : Bool) → eqb c d ≡ b → (length (until d s) < length s → get_or s (length (until d s)) 0 ≡ d)
          → length (cond b [] (c ∷ until d s)) < suc (length s)
          → get_or (c ∷ s) (length (cond b [] (c ∷ until d s))) 0 ≡ d
      go true e h l = eqb-true c d e
      go false e h l = h (omega arith)

commas_before : (s : List ℕ) → commas s ≡ commas (drop (length (before s)) s)
unfolding commas until
commas_before [] = refl
commas_before (c ∷ s) = go (eqb c comma) refl (commas_before s)
  where
    go : (b : Bool) → eqb c comma ≡ b → commas s ≡ commas (drop (length (before s)) s)
        → commas (c ∷ s) ≡ commas (drop (length (cond b [] (c ∷ before s))) (c ∷ s))
    go true e h = refl
    go false e h = rw e h

after_from : (i : ℕ) (s : List ℕ) → from_field i (after s) ≡ after (from_field i s)
unfolding from_field
after_from zero s = refl
after_from (suc i) s = ap after (after_from i s)

pub field_from : (i : ℕ) (s : List ℕ) → field i s ≡ before (from_field i s)
unfolding field from_field
field_from zero s = refl
field_from (suc i) s = field_from i (after s) ∙ ap before (after_from i s)

-- a field that begins at `from` ends behind its characters
module _ (s : List ℕ) (i from n : ℕ) (e : n ≡ length (before (drop from s))) where
  ends : from ≤ length s → commas s ≡ i + commas (drop from s) → from_field i s ≡ drop from s
      → FieldEnds s i (from + n)
  unfolding from_field
  ends l c f =
      let t = drop from s in
      let size : length t ≡ length s - from = length-drop from s in
      let fits : length (before t) ≤ length t = before_fits t in
      let next : from + suc n ≡ suc (from + n) = omega arith in
      record {
        within = omega arith;
        at_comma = λ m. sym (get_or-drop from s n 0) ∙ rw e (at_first comma t (omega arith));
        before_it = c ∙ ap (λ x. i + x) (commas_before t ∙ rw (← e) (ap commas (drop-drop n from s)));
        behind_it = ap after f ∙ sym (drop_past comma t) ∙ rw (← e, ← next) (drop-drop (suc n) from s);
      }

pub ends_first : (s : List ℕ) → length (before s) ≡ 1 → FieldEnds s 0 1
unfolding from_field
ends_first s e = ends s 0 0 1 (sym e) (omega arith) (omega arith) refl

some_inj : {x y : ℕ} → Some x ≡ Some y → x ≡ y
some_inj e = cc

-- what the measure of a number tells of it
measured_value : (x : Option ℕ) (n v m : ℕ) → measured x n ≡ Some (record { value = v; length = m })
    → (x ≡ Some v) × (m ≡ n)
unfolding measured
measured_value (Some w) n v m e =
    (ap (option_map (λ (x : Number). x.value)) e, some_inj (ap (option_map (λ (x : Number). x.length)) (sym e)))
measured_value None n v m e = (cc, cc)

measured_none : (x : Option ℕ) (n : ℕ) → measured x n ≡ None → x ≡ None
unfolding measured
measured_none (Some w) n e = cc
measured_none None n e = refl

module _ {s : List ℕ} {i end : ℕ} (h : FieldEnds s i end) where
  -- the text behind it, as the code reads it
  abbrev rest : List ℕ
  rest = take (length s - (end + 1)) (drop (end + 1) s)

  pub behind : rest ≡ from_field (suc i) s
  behind =
      let fits : length (drop (end + 1) s) ≤ length s - (end + 1) = omega (arith, length-drop (end + 1) s) in
      take_all _ (drop (end + 1) s) fits ∙ rw (add-one end) (sym h.behind_it)

  next_field : field (suc i) s ≡ before rest
  next_field = field_from (suc i) s ∙ ap before (sym behind)

  module _ {r : Option Number} (told : r ≡ measured (number_of (before rest)) (length (before rest))) where
    pub read_value : {v n : ℕ} → r ≡ Some (record { value = v; length = n })
        → (number_of (field (suc i) s) ≡ Some v) × (n ≡ length (field (suc i) s))
    read_value {v} {n} e = rw next_field (measured_value _ _ v n (sym told ∙ e))

    pub read_none : r ≡ None → number_of (field (suc i) s) ≡ None
    read_none e = rw next_field (measured_none _ _ (sym told ∙ e))

  -- none is behind it, or the next begins behind a comma
  pub missing : length s ≤ end → number_of (field (suc i) s) ≡ None
  unfolding number_of until
  missing l =
      ap number_of (field_from (suc i) s)
      ∙ rw (h.behind_it, drop_of_length-le s {i = suc end} (omega arith))

  pub ends_last : length s ≤ end → commas s ≡ i
  ends_last l = omega (arith, h.before_it, commas_end s end l)

  module _ (l : end < length s) where
    pub ends_more : commas s ≡ i + 1 + commas (from_field (suc i) s)
    ends_more =
        let passed = rw (add-one end) at (commas_comma s end l (h.at_comma l)) in
        rw h.behind_it (omega (arith, h.before_it))

    pub ends_next : {n : ℕ} → n ≡ length (field (suc i) s) → FieldEnds s (i + 1) (end + 1 + n)
    ends_next {n} e =
        let from : from_field (suc i) s ≡ drop (end + 1) s = rw (add-one end) h.behind_it in
        let size = e ∙ ap length (field_from (suc i) s ∙ ap before from) in
        ends s (i + 1) (end + 1) n size (omega arith) (rw (← from) ends_more) (rw (add-one i) from)

pub four : (l : List ℕ) → length l ≡ 4 → get_or l 0 0 ∷ get_or l 1 0 ∷ get_or l 2 0 ∷ get_or l 3 0 ∷ [] ≡ l
four [] e = absurd (omega arith)
four (a ∷ []) e = absurd (omega arith)
four (a ∷ b ∷ []) e = absurd (omega arith)
four (a ∷ b ∷ c ∷ []) e = absurd (omega arith)
four (a ∷ b ∷ c ∷ d ∷ []) e = refl
four (a ∷ b ∷ c ∷ d ∷ x ∷ l) e = absurd (omega arith)

pub before_all : (s : List ℕ) → commas s ≡ 0 → before s ≡ s
unfolding commas until
before_all [] e = refl
before_all (c ∷ s) e = go (eqb c comma) e (before_all s)
  where
    go : (b : Bool) → cond b (suc (commas s)) (commas s) ≡ 0 → (commas s ≡ 0 → before s ≡ s)
        → cond b [] (c ∷ before s) ≡ c ∷ s
    go true e h = absurd (omega arith)
    go false e h = ap (λ t. c ∷ t) (h e)
