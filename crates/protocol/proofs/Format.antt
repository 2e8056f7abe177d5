-- A format that is done leaves the header of its shape and zeros behind it; one with allowance enough is done. None
-- decides.
use Prim.Native.Nat.{ℕ, zero, suc, ◌+◌, ◌-◌, ◌^◌, ◌≤◌, ◌<◌}
use mathlib.Core.Path.{◌≡◌, refl, ◌∙◌, ap}
use mathlib.Core.Bool.{true, false}
use mathlib.Core.List.{List}
use mathlib.Core.Logic.{◌≢◌, ⊎_elim}
use lib.Dec.{eqb, ltb}
use lib.ListN.{length, take, set, length-append, length-set, get_or-eq_default}
use lib.Seq.{get_or-set_same, get_or-set_other, take_all}
use native.Mathlib.Omega.{arith}
use native.Mathlib.Nat.{mod-add-div}
use borrow.Author.Tests.{eq-eqb, eqb-true, eqb-false, le-ltb, ltb-false, ltb-true}
use Rattle.boards.specs.Lists.{span, every, any_of}
use Rattle.protocol.specs.Image.{Area, allowed, total, base, size, rank, exponent, exponent_from, mark, header}
use Rattle.protocol.specs.Image.{byte, shape_of, view, Store, made}
use Rattle.volatile.specs.Volatile.{fresh}
use Rattle.protocol.specs.Calls.{first, refused, decides, executed, format_tests, formatting, format}
use Rattle.protocol.specs.declared.Shape.{Shape}
use Rattle.volatile.specs.declared.Record.{Record}
use Rattle.boards.proofs.Basics.{decide, refute, below_suc, All, none, also, all_append, all_take, any_of_false}
use Rattle.boards.proofs.Basics.{length_span, all_span}
use Rattle.protocol.proofs.Bridge.{Sound, sound_bytes, limits, view_at, view_past, fits, past_header}
use Rattle.protocol.proofs.Bridge.{length_made, made_append}

-- ---- the header

-- the search for the exponent of a power of two finds it
power_found : (left p n q : ℕ) → p ≤ q → q < p + left → 2 ^ q ≡ n → 2 ^ exponent_from left p n ≡ n
unfolding exponent_from
power_found zero p n q from below e = absurd (omega arith)
power_found (suc left) p n q from below e =
    ⊎_elim
    (λ h. rw h (eqb-true _ _ h))
    (λ h. rw h (power_found left (suc p) n q (above h) (omega arith) e))
    (decide (eqb (2 ^ p) n))
  where
    above : eqb (2 ^ p) n ≡ false → suc p ≤ q
    above h = let other : p ≢ q = λ x. eqb-false _ _ h (ap (λ y. 2 ^ y) x ∙ e) in omega arith

header_shape : (s : Shape) → allowed s ≡ true → shape_of (header s) ≡ s
unfolding shape_of header mark exponent
header_shape s h =
    let q = (limits s h).power in
    rw (power_found 7 0 s.size q.0 (omega arith) (omega arith) q.2, mod-add-div s.blocks 256)

-- ---- the stores

pub format_stores : (s : Shape) → length (formatting s) ≡ total s + 1
unfolding formatting total
format_stores s = simp (length-append, length_span) (omega arith)

-- stores of f at n offsets from a on
abbrev ascending : (ℕ → ℕ) → ℕ → ℕ → List Store
ascending f a n = span (λ i. record { at = i; value = f i }) a n

-- none decides: byte 9 is past the header and stored 0
quiet : (s : Shape) (i : ℕ) → decides (record { at = i; value = byte (header s) i }) ≡ false
unfolding decides header mark
quiet s i = ⊎_elim (λ h. rw (eqb-true i 9 h)) (λ h. rw h) (decide (eqb i 9))

pub undecided : (s : Shape) (k : ℕ) → any_of decides (take k (formatting s)) ≡ false
unfolding formatting decides
undecided s k =
    let middle : All (λ x. decides x ≡ false) (ascending (byte (header s)) 1 (total s - 1)) =
    all_span _ 1 (total s - 1) (λ i _ _. quiet s i) in
    any_of_false decides (λ x h. h) (all_take k (also refl (all_append middle (also refl none))))

-- where f stood below a, it stands below a + n
stored : (f : ℕ → ℕ) (a n : ℕ) (image : List ℕ) (i : ℕ) →
    i < length image → (i < a → byte image i ≡ f i) → i < a + n →
    byte (made (ascending f a n) image) i ≡ f i
unfolding made span
stored f a zero image i l h k = h (omega arith)
stored f a (suc n) image i l h k = stored f (suc a) n (set image a (f a)) i (simp length-set l) below (omega arith)
  where
    below : i < suc a → byte (set image a (f a)) i ≡ f i
    below b =
        ⊎_elim
        (λ c. get_or-set_other image a i (f a) 0 (omega arith) ∙ h c)
        (λ q. rw q (get_or-set_same image a (f a) 0 (omega arith)))
        (below_suc i a b)

-- what stands before the last store
abbrev rest : Shape → List ℕ → List ℕ
rest s image = made (ascending (byte (header s)) 1 (total s - 1)) (set image 0 0)

module _ (s : Shape) (image : List ℕ) (long : length image ≡ total s) where
  -- every byte that the stores leave is the header's, 0 past its end
  held : (i : ℕ) → i < total s → byte (made (formatting s) image) i ≡ byte (header s) i
  unfolding formatting made header mark
  held zero l =
      rw made_append (get_or-set_same (rest s image) 0 (byte mark 0) 0 (simp (length_made, length-set) (omega arith)))
  held (suc i) l =
      rw made_append (get_or-set_other (rest s image) 0 (suc i) (byte mark 0) 0 (omega arith))
      ∙ stored (byte (header s)) 1 (total s - 1) (set image 0 0) (suc i) (simp length-set (omega arith))
      (λ h. absurd (omega arith)) (omega arith)

  format_sound : allowed s ≡ true → Sound s (made (formatting s) image)
  unfolding every header mark total
  format_sound fine =
      sound_bytes (header s) _ (λ i l. held i (omega arith)) fine (header_shape s fine) refl
      (length_made _ image ∙ long)

  format_zeros : (a : Area) → rank a ≢ 0 → (i : ℕ) → view s (made (formatting s) image) a i ≡ 0
  unfolding header mark
  format_zeros a body i = ⊎_elim inside (λ l. view_past s _ a i (ltb-false _ _ l)) (decide (ltb i (size s a)))
    where
      past : 9 ≤ base s a + i
      past = omega (arith, past_header s a body)

      inside : ltb i (size s a) ≡ true → view s (made (formatting s) image) a i ≡ 0
      inside t =
          let l = ltb-true _ _ t in
          view_at s _ a i l ∙ held (base s a + i) (fits s a i l) ∙ get_or-eq_default (header s) 0 past

-- ---- the call

module _ (s : Shape) (image : List ℕ) (r : Record) (k : ℕ) where
  pub format_undecided : (format s image r k).reply.answer.decided ≡ false
  unfolding format refused executed
  format_undecided =
      let passed = eqb (first (format_tests s image)) 0 in
      ⊎_elim (λ (e : passed ≡ true). rw e (undecided s k)) (λ (e : passed ≡ false). rw e) (decide passed)

  -- a format is done only if it is not refused and not cut
  format_passed : (format s image r k).reply.answer.status ≡ 0 →
      (allowed s ≡ true) × (length image ≡ total s) × (total s + 1 ≤ k)
  unfolding format format_tests first refused executed
  format_passed h =
      (fine, eqb-true _ _ long, omega (arith, format_stores s, ltb-false k (length (formatting s)) whole))
    where
      fine : allowed s ≡ true
      fine = ⊎_elim (λ e. e) (λ e. absurd (omega (arith, rw e at h))) (decide (allowed s))

      long : eqb (length image) (total s) ≡ true
      long = ⊎_elim (λ e. e) (λ e. absurd (omega (arith, rw (fine, e) at h))) (decide (eqb (length image) (total s)))

      whole : ltb k (length (formatting s)) ≡ false
      whole = refute _ (λ e. omega (arith, rw (fine, long, e) at h))

  -- then it is done, with all its stores made
  format_whole : allowed s ≡ true → length image ≡ total s → total s + 1 ≤ k →
      ((format s image r k).reply.answer.status ≡ 0)
      × ((format s image r k).reply.next ≡ fresh)
      × ((format s image r k).image ≡ made (formatting s) image)
  unfolding format format_tests first executed
  format_whole fine long enough =
      let room : length (formatting s) ≤ k = omega (arith, format_stores s) in
      rw (fine, eq-eqb _ _ long, le-ltb k _ room, take_all k _ room) (refl, refl, refl)

  -- a format of an allowed shape with allowance enough is done
  pub format_done : allowed s ≡ true → length image ≡ total s → total s + 1 ≤ k →
      (format s image r k).reply.answer.status ≡ 0
  format_done fine long enough = (format_whole fine long enough).0

  -- a format that is done leaves a sound image, zeros past the header and the fresh record
  pub formatted : (format s image r k).reply.answer.status ≡ 0 →
      Sound s (format s image r k).image
      × ((a : Area) → rank a ≢ 0 → (i : ℕ) → view s (format s image r k).image a i ≡ 0)
      × ((format s image r k).reply.next ≡ fresh)
  formatted h =
      let p = format_passed h in
      let done = format_whole p.0 p.1 p.2 in
      (rw done.2 (format_sound s image p.1 p.0), rw done.2 (format_zeros s image p.1), done.1)
