-- Laws of pairs of digits, and of a buffer that is filled byte by byte.
use Prim.Native.Nat.{ℕ, zero, suc, ◌+◌, ◌*◌, ◌/◌, ◌≤◌, ◌<◌}
use mathlib.Core.Path.{◌≡◌, refl, sym, ◌∙◌, ap}
use mathlib.Core.Bool.{Bool, true, false, ◌&&◌, false≢true}
use Rattle.std.specs.List.{list_all}
use Rattle.std.specs.Simd.{first_chunks}
use Rattle.std.proofs.Math.Bool.{and_assoc}
use mathlib.Core.List.{List, [], ◌∷◌}
use lib.Dec.{eqb, leb}
use lib.ListN.{length, get_or, take, drop, set}
use lib.Seq.{drop-cons, take-suc, set_at, append_snoc, length-take-le, take-length}
use native.Mathlib.Omega.{arith}
use native.Mathlib.Numerals.{add-one}
use borrow.Author.Tests.{ne_eqb, leb-true}
use Rattle.protocol.specs.Calls.{filled}
use Rattle.boards.proofs.Basics.{and_true, and_false}
use Rattle.text.specs.Fields.{comma, commas, digit, pairs, decoded}

-- ---- pairs of digits

-- whether a chunk is a pair of digits
abbrev pub is_pair : List ℕ → Bool
is_pair p = leb (digit (get_or p 0 0)) 15 && leb (digit (get_or p 1 0)) 15

pub pairs_even : (s : List ℕ) (k : ℕ) → length s ≡ 2 * k → list_all is_pair (first_chunks 2 k s) ≡ pairs s
unfolding pairs
pairs_even [] zero e = refl
pairs_even [] (suc k) e = absurd (omega arith)
pairs_even (x ∷ []) k e = absurd (omega arith)
pairs_even (x ∷ y ∷ s) zero e = absurd (omega arith)
pairs_even (x ∷ y ∷ s) (suc k) e =
    and_assoc (leb (digit x) 15) _ _
    ∙ ap (λ b. leb (digit x) 15 && (leb (digit y) 15 && b)) (pairs_even s k (omega arith))

pub pairs_odd : (s : List ℕ) (k : ℕ) → length s ≡ 2 * k + 1 → pairs s ≡ false
unfolding pairs
pairs_odd [] k e = absurd (omega arith)
pairs_odd (x ∷ []) k e = refl
pairs_odd (x ∷ y ∷ s) zero e = absurd (omega arith)
pairs_odd (x ∷ y ∷ s) (suc k) e =
    rw (pairs_odd s k (omega arith)) (and_false (leb (digit x) 15) (and_false (leb (digit y) 15) refl))

-- a pair of digits is the byte
abbrev Pair : ℕ → ℕ → ℕ → Type 0
Pair h l b = (digit h ≤ 15) × (digit l ≤ 15) × (b ≡ 16 * digit h + digit l)

both : (x y : ℕ) (s : List ℕ) → pairs (x ∷ y ∷ s) ≡ true → (digit x ≤ 15) × (digit y ≤ 15) × (pairs s ≡ true)
unfolding pairs
both x y s p =
    let rest = leb (digit y) 15 && pairs s in
    let high = and_true (leb (digit x) 15) rest p in
    let low = and_true (leb (digit y) 15) (pairs s) high.1 in
    (leb-true _ _ high.0, leb-true _ _ low.0, low.1)

-- pairs of digits have no comma, and what has none is one field
no_comma : (c : ℕ) → digit c ≤ 15 → eqb c comma ≡ false
unfolding digit
no_comma c l = ne_eqb c comma (λ e. let no : digit comma ≤ 15 = rw e at l in omega arith)

pub pairs_commas : (s : List ℕ) → pairs s ≡ true → commas s ≡ 0
unfolding pairs commas
pairs_commas [] p = refl
pairs_commas (x ∷ []) p = absurd (false≢true p)
pairs_commas (x ∷ y ∷ s) p =
    let first = both x y s p in
    rw (no_comma x first.0, no_comma y first.1) (pairs_commas s first.2)

pair_at : (s : List ℕ) (k i : ℕ) → pairs s ≡ true → 2 * k ≤ length s → i < k →
    let p = get_or (first_chunks 2 k s) i [] in
    Pair (get_or p 0 0) (get_or p 1 0) (get_or (decoded s) i 0)
unfolding decoded
pair_at s zero i p l m = absurd (omega arith)
pair_at [] (suc k) i p l m = absurd (omega arith)
pair_at (x ∷ []) (suc k) i p l m = absurd (omega arith)
pair_at (x ∷ y ∷ s) (suc k) zero p l m = let first = both x y s p in (first.0, first.1, refl)
pair_at (x ∷ y ∷ s) (suc k) (suc i) p l m = pair_at s k i (both x y s p).2 (omega arith) (omega arith)

pub chunk_at : {ps : List (List ℕ)} (s : List ℕ) (i : ℕ) → ps ≡ first_chunks 2 (length s / 2) s → pairs s ≡ true
    → i < length s / 2 →
    let p = get_or ps i [] in
    Pair (get_or p 0 0) (get_or p 1 0) (get_or (decoded s) i 0)
chunk_at s i e p l = rw e (pair_at s (length s / 2) i p (omega arith) l)

pub length_decoded : (s : List ℕ) → length (decoded s) ≡ length s / 2
unfolding decoded
length_decoded [] = refl
length_decoded (x ∷ []) = refl
length_decoded (x ∷ y ∷ s) = ap suc (length_decoded s) ∙ omega arith

-- ---- a buffer filled byte by byte

module _ (bytes buffer : List ℕ) where
  pub filled_none : buffer ≡ filled (take 0 bytes) buffer
  unfolding filled
  filled_none = refl

  pub filled_all : filled (take (length bytes) bytes) buffer ≡ filled bytes buffer
  filled_all = rw take-length

  pub filled_more : {out : List ℕ} {v : ℕ} (i : ℕ) → i < length bytes → i < length buffer
      → out ≡ filled (take i bytes) buffer → v ≡ get_or bytes i 0 → set out i v ≡ filled (take (i + 1) bytes) buffer
  unfolding filled
  filled_more i l m p q =
      let front : length (take i bytes) ≡ i = length-take-le i bytes (omega arith) in
      let longer : length (take (i + 1) bytes) ≡ i + 1 = length-take-le (i + 1) bytes (omega arith) in
      rw (p, q, front, longer, add-one, drop-cons buffer i 0 m, take-suc bytes i 0 l)
      (set_at (take i bytes) (get_or buffer i 0) (drop (suc i) buffer) (get_or bytes i 0) i front
      ∙ sym (append_snoc (take i bytes) (get_or bytes i 0) (drop (suc i) buffer)))
