-- Laws of lines: what the letter and the fields that were read make of a line.
use Prim.Native.Nat.{ℕ, zero, suc, ◌+◌, ◌-◌, ◌<◌, ◌≤◌}
use mathlib.Core.Path.{◌≡◌, refl, sym, ◌∙◌, ap, subst}
use mathlib.Core.Bool.{Bool, true, false, cond}
use mathlib.Core.List.{List, [], ◌∷◌}
use Rattle.std.specs.Prelude.{Option, None, Some, Result, Ok, Err}
use Rattle.protocol.specs.declared.Refusal.{Refusal}
use lib.Dec.{eqb}
use lib.ListN.{length, get_or, take, drop}
use lib.Seq.{take-append_seam}
use native.Mathlib.Omega.{arith}
use borrow.Author.Rules.{rules}
use borrow.Author.Tests.{eqb-true, eqb-false, eq-eqb, ne_eqb, le-leb}
use Rattle.protocol.specs.Calls.{filled}
use Rattle.boards.proofs.Basics.{if_true, if_false, refute}
use Rattle.text.specs.Fields.{past, before, after, commas, field, number_of, pairs, decoded}
use Rattle.text.specs.Letters.{character_of, table, looked_up, letter_of}
use Rattle.text.specs.Events.{Event, unreadable, with_number, with_bytes, by_letter, with_letter, taken}
use Rattle.text.specs.Events.{format_of, read_of, write_of, start_of, acknowledge_of, fault_of, allow_of}
use Rattle.text.specs.declared.Listing.{Listing}
use Rattle.fields.specs.Numbers.{from_field, Numbered, values_of}
use Rattle.fields.specs.declared.Values.{Values}
use Rattle.fields.proofs.Laws.{field_from, behind, ends_last, ends_more, before_all}
use Rattle.hexadecimal.specs.Reading.{BytesRead}
use Rattle.hexadecimal.proofs.Laws.{length_decoded, pairs_commas}
use Rattle.events.specs.Made.{bytes_last, of_numbers, of_bytes}

-- ---- numbers in a row

stop : {x : Option ℕ} (f : ℕ → Event) → x ≡ None → with_number x f ≡ unreadable
unfolding with_number
stop f e = rw e

go_on : (x : Option ℕ) (f : ℕ → Event) → ((n : ℕ) → f n ≡ unreadable) → with_number x f ≡ unreadable
unfolding with_number
go_on (Some n) f h = h n
go_on None f h = refl

-- what follows if the n fields behind the first are numbers
numbered : ℕ → List ℕ → (List ℕ → Event) → Event
numbered zero s f = f []
numbered (suc n) s f = with_number (number_of (field 1 s)) (λ v. numbered n (after s) (λ vs. f (v ∷ vs)))

numbered_none : (n : ℕ) (s : List ℕ) (f : List ℕ → Event) (j : ℕ) → j < n → number_of (field (suc j) s) ≡ None
    → numbered n s f ≡ unreadable
unfolding numbered field
numbered_none zero s f j l e = absurd (omega arith)
numbered_none (suc n) s f zero l e = stop _ e
numbered_none (suc n) s f (suc j) l e = go_on _ _ (λ v. numbered_none n (after s) _ j (omega arith) e)

numbered_all : (n : ℕ) (s vs : List ℕ) (f : List ℕ → Event) → n ≤ length vs
    → ((j : ℕ) → j < n → number_of (field (suc j) s) ≡ Some (get_or vs j 0)) → numbered n s f ≡ f (take n vs)
unfolding numbered field with_number
numbered_all zero s vs f l h = refl
numbered_all (suc n) s [] f l h = absurd (omega arith)
numbered_all (suc n) s (v ∷ vs) f l h =
    rw (h 0 (omega arith)) (numbered_all n (after s) vs _ (omega arith) (λ j m. h (suc j) (omega arith)))

-- ---- the table of letters

-- what holds of each entry holds of one that was found
abbrev Each : (Listing → Type 0) → List Listing → Type 0
Each P [] = Unit
Each P (e ∷ es) = P e × Each P es

found : (P : Listing → Type 0) (es : List Listing) → Each P es → (c : ℕ) (e : Listing) → looked_up c es ≡ Some e → P e
unfolding looked_up
found P [] all c e h = absurd cc
found P (x ∷ es) all c e h = go (eqb (character_of x.letter) c) h (found P es all.1 c e)
  where
    go : (b : Bool) → cond b (Some x) (looked_up c es) ≡ Some e → (looked_up c es ≡ Some e → P e) → P e
    go true h rest = let same : x ≡ e = cc in subst P same all.0
    go false h rest = rest h

-- ---- a letter's line

-- how many of the n fields behind a letter are numbers, and what these make
abbrev count_of : Listing → ℕ
count_of e = cond (bytes_last e.letter) (e.commas - 1) e.commas

abbrev rest_of : Listing → List ℕ → List ℕ → Event
rest_of e s vs =
    cond (bytes_last e.letter) (with_bytes (field e.commas s) (of_bytes e.letter vs)) (of_numbers e.letter vs)

-- a letter's event is what its numbers make, and no others are asked for: found by computing, entry by entry
record Readable (e : Listing) : Type 0 where
  few : e.commas ≤ 4
  some_bytes : 1 ≤ cond (bytes_last e.letter) e.commas 1
  read : (s : List ℕ) → by_letter e.letter s ≡ numbered (count_of e) s (rest_of e s)
  asks : (s : List ℕ) (v : Values) → rest_of e s (take (count_of e) (values_of v)) ≡ rest_of e s (values_of v)

all_readable : Each Readable table
unfolding table bytes_last numbered with_number with_bytes field past of_numbers of_bytes by_letter format_of
    read_of write_of start_of acknowledge_of fault_of allow_of
all_readable = search rules depth 16

letter_readable : (t : List ℕ) {e : Listing} → letter_of t ≡ Some e → (length t ≡ 1) × Readable e
unfolding letter_of
letter_readable [] h = absurd cc
letter_readable (x ∷ []) {e} h = (refl, found Readable table all_readable x e h)
letter_readable (x ∷ y ∷ t) h = absurd cc

module _ (s : List ℕ) {e : Listing} (letter : letter_of (before s) ≡ Some e) where
  entry : Readable e
  entry = (letter_readable (before s) letter).1

  pub alone : (length (before s) ≡ 1) × (e.commas ≤ 4)
  alone = ((letter_readable (before s) letter).0, entry.few)

  abbrev line : Event
  line = with_letter (Some e) s

  abbrev n : ℕ
  n = e.commas

  commas_other : (commas s ≡ n → ⊥) → line ≡ unreadable
  unfolding with_letter
  commas_other h = if_false _ _ (ne_eqb (commas s) n h)

  commas_right : commas s ≡ n → line ≡ by_letter e.letter s
  unfolding with_letter
  commas_right h = if_true _ _ (eq-eqb (commas s) n h)

  fields_other : by_letter e.letter s ≡ unreadable → line ≡ unreadable
  unfolding with_letter
  fields_other h = rw h (go (eqb (commas s) n))
    where
      go : (b : Bool) → cond b unreadable unreadable ≡ unreadable
      go true = refl
      go false = refl

  -- m of the fields are read as numbers
  module _ {m : ℕ} (count : m ≡ count_of e) where
    fits_in : m ≤ n
    fits_in = rw count (go (bytes_last e.letter))
      where
        go : (b : Bool) → cond b (n - 1) n ≤ n
        go true = omega arith
        go false = omega arith

    none_made : (j : ℕ) → j < m → number_of (field (suc j) s) ≡ None → line ≡ unreadable
    none_made j l w = fields_other (entry.read s ∙ rw (← count) (numbered_none m s _ j l w))

    made : (v : Values) → Numbered s m (Ok v) → by_letter e.letter s ≡ rest_of e s (values_of v)
    made v all =
        let fits : m ≤ 4 = omega (arith, fits_in, entry.few) in
        let read = numbered_all m s (values_of v) (rest_of e s) fits all.1 in
        entry.read s ∙ rw (← count) read ∙ entry.asks s v

  -- all of them
  module _ (kind : bytes_last e.letter ≡ false) where
    all_of : n ≡ count_of e
    all_of = sym (if_false _ _ kind)

    pub numbers_none : {r : Result Values Refusal} {why : Refusal} → r ≡ Err why → Numbered s n r → line ≡ unreadable
    numbers_none is h = let w = (subst (Numbered s n) is h).1 in none_made all_of w.0 w.1 w.2

    module _ {r : Result Values Refusal} {v : Values} (is : r ≡ Ok v) (h : Numbered s n r) where
      numbers : Numbered s n (Ok v)
      numbers = subst (Numbered s n) is h

      pub numbers_more : v.end < length s → line ≡ unreadable
      numbers_more l = commas_other (λ e. omega (arith, ends_more numbers.0 l))

      pub numbers_made : length s ≤ v.end → line ≡ of_numbers e.letter (values_of v)
      numbers_made l = commas_right (ends_last numbers.0 l) ∙ made all_of v numbers ∙ if_false _ _ kind

  -- all but the last, which is bytes
  module _ (kind : bytes_last e.letter ≡ true) where
    pub has_bytes : 1 ≤ n
    has_bytes = rw kind at entry.some_bytes

    but_last : n - 1 ≡ count_of e
    but_last = sym (if_true _ _ kind)

    pub bytes_none : {r : Result Values Refusal} {why : Refusal} → r ≡ Err why → Numbered s (n - 1) r
        → line ≡ unreadable
    bytes_none is h = let w = (subst (Numbered s (n - 1)) is h).1 in none_made but_last w.0 w.1 w.2

    module _ {r : Result Values Refusal} {v : Values} (is : r ≡ Ok v) (h : Numbered s (n - 1) r) where
      before_bytes : Numbered s (n - 1) (Ok v)
      before_bytes = subst (Numbered s (n - 1)) is h

      pub bytes_missing : length s ≤ v.end → line ≡ unreadable
      bytes_missing l = commas_other (λ e. omega (arith, ends_last before_bytes.0 l, has_bytes))

      pub bytes_made : v.end < length s
          → line ≡ with_bytes (take (length s - (v.end + 1)) (drop (v.end + 1) s)) (of_bytes e.letter (values_of v))
      unfolding with_bytes
      bytes_made l = rw (behind before_bytes.0, last) (go (eqb (commas t) 0) refl)
        where
          last : suc (n - 1) ≡ n
          last = omega (arith, has_bytes)

          t : List ℕ
          t = from_field n s

          count : commas s ≡ n + commas t
          count = rw (← last) (ends_more before_bytes.0 l ∙ omega arith)

          go : (b : Bool) → eqb (commas t) 0 ≡ b → line ≡ with_bytes t (of_bytes e.letter (values_of v))
          go true e =
              let whole : field n s ≡ t = field_from n s ∙ before_all t (eqb-true (commas t) 0 e) in
              commas_right (omega (arith, count, eqb-true (commas t) 0 e))
              ∙ made but_last v before_bytes ∙ if_true _ _ kind ∙ rw whole
          go false e =
              let some = eqb-false (commas t) 0 e in
              commas_other (λ r. some (omega (arith, count)))
              ∙ sym (if_false _ _ (refute (pairs t) (λ p. some (pairs_commas t p))))

-- ---- the bytes of a field

-- what the reading of bytes promises, of what it was found to tell
pub told : {s out buffer : List ℕ} {r q : Option ℕ} → r ≡ q → BytesRead s buffer r out → BytesRead s buffer q out
told {s} {out} {buffer} e h = subst (λ r. BytesRead s buffer r out) e h

module _ {s out buffer : List ℕ} where
  pub other : BytesRead s buffer None out → (f : List ℕ → Event) → with_bytes s f ≡ unreadable
  unfolding with_bytes
  other told f = go (pairs s) told.tells
    where
      go : (b : Bool) → None ≡ cond b (Some (length (decoded s))) None
          → cond b (f (decoded s)) unreadable ≡ unreadable
      go true e = cc
      go false e = refl

  module _ {n : ℕ} (told : BytesRead s buffer (Some n) out) where
    counts : (pairs s ≡ true) × (n ≡ length (decoded s))
    counts = go (pairs s) told.tells
      where
        go : (b : Bool) → Some n ≡ cond b (Some (length (decoded s))) None
            → (b ≡ true) × (n ≡ length (decoded s))
        go true e = (refl, cc)
        go false e = (cc, cc)

    pub bytes : (f : List ℕ → Event) → with_bytes s f ≡ f (take n out)
    unfolding with_bytes filled
    bytes f =
        let put = told.puts ∙ if_true _ _ counts.0 in
        if_true _ _ counts.0 ∙ ap f (sym (rw (put, counts.1) (take-append_seam (decoded s) _)))

    pub count_fits : length s ≤ 160 → n ≤ 80
    count_fits l = omega (arith, counts.1, length_decoded s)

-- ---- a whole line

pub taken_as : (s : List ℕ) {r l : Option Listing} → length s ≤ 160 → r ≡ letter_of (before s) → r ≡ l
    → with_letter l s ≡ taken s
unfolding taken field
taken_as s k e f = sym (if_true _ _ (le-leb (length s) 160 k) ∙ ap (λ l. with_letter l s) (sym e ∙ f))
