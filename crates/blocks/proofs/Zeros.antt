-- Bytes that are all 0.
use Prim.Native.Nat.{ℕ, zero, suc, ◌+◌, ◌-◌, ◌*◌, ◌/◌, ◌≤◌, ◌<◌}
use mathlib.Core.Path.{◌≡◌, sym, ap, ◌∙◌}
use mathlib.Core.List.{List, []}
use native.Mathlib.Omega.{arith}
use lib.Bits.{bit_or, or_add_and, and_le_l, and_le_r}
use lib.Dec.{ltb}
use lib.ListN.{length, get_or, drop}
use mathlib.Core.Logic.{⊎_elim}
use borrow.Author.Tests.{ltb-true, ltb-false}
use Rattle.boards.proofs.Basics.{decide}
use Rattle.std.specs.List.{between}
use Rattle.std.proofs.lemmas.List.Edits.{length-between, get_or-between}
use Rattle.std.specs.Simd.{first_chunks}
use Rattle.std.proofs.lemmas.List.{get_or-take, get_or-drop}

or_none : (a b : ℕ) → bit_or a b ≡ 0 → (a ≡ 0) × (b ≡ 0)
or_none a b e =
    let sum = or_add_and a b in
    (omega (arith, sum, and_le_r a b), omega (arith, sum, and_le_l a b))

-- four bytes or-ed together
abbrev pub four : List ℕ → ℕ → ℕ → ℕ → ℕ → ℕ
four l i j k m = bit_or (bit_or (bit_or (get_or l i 0) (get_or l j 0)) (get_or l k 0)) (get_or l m 0)

-- eight, of which none is left out
pub eight_none : (l : List ℕ)
    → bit_or (four l 0 1 2 3) (four l 4 5 6 7) ≡ 0
    → (x : ℕ) → x < 8 → get_or l x 0 ≡ 0
eight_none l e = go
  where
    halves : (four l 0 1 2 3 ≡ 0) × (four l 4 5 6 7 ≡ 0)
    halves = or_none _ _ e

    each : (i j k m : ℕ) → four l i j k m ≡ 0
        → (get_or l i 0 ≡ 0) × (get_or l j 0 ≡ 0) × (get_or l k 0 ≡ 0) × (get_or l m 0 ≡ 0)
    each i j k m h =
        let last = or_none (bit_or (bit_or (get_or l i 0) (get_or l j 0)) (get_or l k 0)) (get_or l m 0) h in
        let third = or_none (bit_or (get_or l i 0) (get_or l j 0)) (get_or l k 0) last.0 in
        let first = or_none (get_or l i 0) (get_or l j 0) third.0 in
        (first.0, first.1, third.1, last.1)

    go : (x : ℕ) → x < 8 → get_or l x 0 ≡ 0
    go zero h = (each _ _ _ _ halves.0).0
    go (suc zero) h = (each _ _ _ _ halves.0).1
    go (suc (suc zero)) h = (each _ _ _ _ halves.0).2
    go (suc (suc (suc zero))) h = (each _ _ _ _ halves.0).3
    go (suc (suc (suc (suc zero)))) h = (each _ _ _ _ halves.1).0
    go (suc (suc (suc (suc (suc zero))))) h = (each _ _ _ _ halves.1).1
    go (suc (suc (suc (suc (suc (suc zero)))))) h = (each _ _ _ _ halves.1).2
    go (suc (suc (suc (suc (suc (suc (suc zero))))))) h = (each _ _ _ _ halves.1).3
    go (suc (suc (suc (suc (suc (suc (suc (suc x)))))))) h = absurd (omega arith)

-- a chunk of eight is read where it stands
chunk_read : (l : List ℕ) (k i x : ℕ) → i < k → x < 8
    → get_or (get_or (first_chunks 8 k l) i []) x 0 ≡ get_or l (8 * i + x) 0
chunk_read l zero i x m h = absurd (omega arith)
chunk_read l (suc k) zero x m h = get_or-take 8 l x 0 h ∙ ap (λ (n : ℕ). get_or l n 0) (omega arith)
chunk_read l (suc k) (suc i) x m h =
    chunk_read (drop 8 l) k i x (omega arith) h
    ∙ get_or-drop 8 l (8 * i + x) 0
    ∙ ap (λ (n : ℕ). get_or l n 0) (omega arith)

-- the tags from b to e in chunks of eight, one chunk of zeros more
module _ (x : List ℕ) (b e : ℕ) (l : b ≤ e) (long : 12 + e ≤ length x) where
  abbrev part : List ℕ
  part = between (12 + b) (12 + e) x

  many : length part ≡ e - b
  many = omega (arith, length-between x (12 + b) (12 + e) long)

  pub eight_more : {eights : List (List ℕ)} (i : ℕ) → eights ≡ first_chunks 8 (length part / 8) part
      → i < length part / 8 → ((j : ℕ) → b ≤ j → j < b + 8 * i → get_or x (12 + j) 0 ≡ 0)
      → ((k : ℕ) → k < 8 → get_or (get_or eights i []) k 0 ≡ 0)
      → (j : ℕ) → b ≤ j → j < b + 8 * (i + 1) → get_or x (12 + j) 0 ≡ 0
  eight_more i same m before zeros j h n =
      ⊎_elim (λ t. before j h (ltb-true _ _ t))
      (λ t.
      let past : b + 8 * i ≤ j = ltb-false _ _ t in
      let k : ℕ = j - (b + 8 * i) in
      let few : k < 8 = omega arith in
      let within : 8 * i + k < e - b = omega (arith, many) in
      ap (λ (p : ℕ). get_or x p 0) (omega arith)
      ∙ sym (get_or-between x (12 + b) (12 + e) (8 * i + k) 0 (omega arith))
      ∙ sym (chunk_read part (length part / 8) i k m few)
      ∙ ap (λ cs. get_or (get_or cs i []) k 0) (sym same)
      ∙ zeros k few)
      (decide (ltb j (b + 8 * i)))
