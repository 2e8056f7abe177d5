-- No call stores 65,536 bytes or more: without a Z before it no line is cut.
use Prim.Native.Nat.{ℕ, suc, ◌+◌, ◌-◌, ◌*◌, ◌/◌, ◌≤◌, ◌<◌}
use mathlib.Core.Path.{◌≡◌, refl, sym, ◌∙◌, ap}
use mathlib.Core.Bool.{Bool, true, false, cond}
use mathlib.Core.List.{List, [], ◌∷◌, ◌++◌, map}
use mathlib.Core.Logic.{◌≢◌, ⊎_elim}
use native.Mathlib.Omega.{arith}
use native.Mathlib.Nat.{mul-le-mul_right, mul-le-mul, mul-add}
use lib.Dec.{eqb, ltb}
use lib.ListN.{length, length-append, length-map}
use borrow.Author.Tests.{eqb-true, ltb-true}
use Rattle.boards.specs.Boards.{has}
use Rattle.protocol.specs.Image.{Memory, Store, Area, Decision, Tags, Current, Recovery, Tentative, put, after, allowed}
use Rattle.protocol.specs.Image.{total, shape_of, view, raw}
use Rattle.volatile.specs.Volatile.{fresh, opened, depends, commit_of, acknowledge}
use Rattle.boards.specs.Boards.{commit_group, fault_group}
use Rattle.protocol.specs.Accesses.{board_of, touched}
use Rattle.protocol.specs.Calls.{Request, Test, Read, Write, Start, Acknowledge, Fault, PowerUp, first, refusals}
use Rattle.protocol.specs.Calls.{entry_tests}
use Rattle.protocol.specs.Calls.{write_tests, start_tests, acknowledge_tests, plan, perform, executed, refused}
use Rattle.protocol.specs.Calls.{tagging, placing, blocks_copied, completing, deciding, completed_first, recovering}
use Rattle.protocol.specs.Calls.{acknowledging, format, format_tests, formatting, stored_group}
use Rattle.boards.specs.Boards.{tagged, tagged_in}
use Rattle.protocol.specs.declared.Shape.{Shape}
use Rattle.volatile.specs.declared.Record.{Record}
use Rattle.boards.proofs.Basics.{decide}
use Rattle.protocol.proofs.Bridge.{Limits, limits}
use Rattle.protocol.proofs.Copies.{length_placing}
use Rattle.boards.proofs.Groups.{count_le}
use Rattle.protocol.proofs.Counts.{length_blocks, length_deciding}
use Rattle.protocol.proofs.Format.{format_stores}
use Rattle.protocol.proofs.Refusals.{uncut, refusals_uncut, entered, begun}
use Rattle.protocol.proofs.Refusals.{write_passed, start_passed, acknowledge_passed, power_passed}
use Rattle.protocol.proofs.Plans.{ranged}
use Rattle.layout.proofs.Laws.{bounded, geometry}
use Rattle.text.specs.Turns.{uncut as most, NothingCut}

-- a status is 9 only if the call is taken and has more stores than its budget
executed_cut : (k : ℕ) (ss : List Store) (image : List ℕ) (g : ℕ) (next : Record) (bytes : List ℕ) →
    (executed k ss image g next bytes).reply.answer.status ≡ 9 → k < length ss
unfolding executed
executed_cut k ss image g next bytes nine =
    ⊎_elim
    (λ (e : ltb k (length ss) ≡ true). ltb-true k (length ss) e)
    (λ (e : ltb k (length ss) ≡ false). absurd (omega (arith, sym (ap (λ (b : Bool). cond b 9 0) e) ∙ nine)))
    (decide (ltb k (length ss)))

cut_by_nine : (image : List ℕ) (r : Record) (request : Request) (k : ℕ)
    → (perform image r request k).reply.answer.status ≡ 9 →
    let s = shape_of image in
    let m = view s image in
    (first (refusals image s m r request) ≡ 0) × (k < length (plan s m r request).stores)
unfolding perform refused
cut_by_nine image r request k nine =
    let s = shape_of image in
    let m = view s image in
    let n = first (refusals image s m r request) in
    let p = plan s m r request in
    ⊎_elim
    (λ (e : eqb n 0 ≡ true). (
      eqb-true n 0 e,
      rw (sym (length-map p.stores (raw s)))
          (executed_cut k (map (raw s) p.stores) image p.group p.next p.bytes (rw e at nine)),
    ))
    (λ (e : eqb n 0 ≡ false). absurd
    (uncut (refusals image s m r request) (refusals_uncut image s m r request) (rw e at nine)))
    (decide (eqb n 0))

-- ---- how many stores a call has

either_none : {X : Type 0} (b : Bool) (xs : List X) (n : ℕ) → length xs ≤ n → length (cond b xs []) ≤ n
either_none true xs n h = h
either_none false xs n h = omega arith

few_tags : (m : Memory) (i : ℕ) (bs : List ℕ) → length (tagging m i bs) ≤ length bs
unfolding tagging
few_tags m i [] = omega arith
few_tags m i (b ∷ bs) = step (eqb (m Tags b) (suc i)) (few_tags m i bs)
  where
    step : (c : Bool) → length (tagging m i bs) ≤ length bs →
        length (cond c [] (put Tags b (suc i) ∷ []) ++ tagging m i bs) ≤ suc (length bs)
    step true h = omega arith
    step false h = omega arith

few_touched : (s : Shape) (a n : ℕ) → length (touched s a n) ≤ 2
unfolding touched
few_touched s a n = step (eqb (a / s.size) ((a + n - 1) / s.size))
  where
    step : (c : Bool) → length (a / s.size ∷ cond c [] ((a + n - 1) / s.size ∷ [])) ≤ 2
    step true = omega arith
    step false = omega arith

module _ (s : Shape) (l : Limits s) where
  few_blocks : (m : Memory) (from to : Area) (chosen : ℕ → Bool) → length (blocks_copied s m from to chosen) ≤ 17408
  few_blocks m from to chosen =
      let p : ℕ → Bool = λ b. chosen (m Tags b) in
      omega (
        arith,
        length_blocks s m from to chosen,
        mul-le-mul_right (s.size + 1) (count_le s.blocks p),
        mul-add s.blocks s.size 1,
        l.most_cells,
        l.most_blocks,
      )

  few_deciding : (m : Memory) (g : ℕ) → length (deciding s m g) ≤ 18436
  few_deciding m g =
      omega (
        arith,
        length_deciding s m g,
        mul-le-mul_right (s.size + 1) (count_le s.blocks (λ b. tagged_in g (m Tags b))),
        mul-add s.blocks s.size 1,
        l.most_cells,
        l.most_blocks,
        mul-le-mul (count_le s.boards (has g)) l.most_context,
        mul-le-mul_right 64 l.most_boards,
      )

  few_completing : (m : Memory) (g : ℕ) → length (completing s m g) ≤ 18433
  unfolding deciding
  few_completing m g = omega (arith, few_deciding m g)

  few_recovering : (m : Memory) → length (recovering s m) ≤ 35841
  unfolding recovering completed_first
  few_recovering m =
      let first = completed_first s m in
      let rest = blocks_copied s (after first m) Recovery Current tagged in
      omega (
        arith,
        length-append first rest,
        few_blocks (after first m) Recovery Current tagged,
        either_none (eqb (m Decision 0) 1) (completing s m (stored_group m)) 18433 (few_completing m (stored_group m)),
      )

  -- a board's context and, if it was the last, what decides and completes the commit
  few_acknowledging : (m : Memory) (before : Record) (i : ℕ) (context : List ℕ) → length context ≤ 64 →
      length (acknowledging s m before i context).stores ≤ 18500
  unfolding acknowledging
  few_acknowledging m before i context h =
      let r = acknowledge before i in
      let g = (commit_of r i).members in
      let given = placing Tentative (i * s.context) context in
      let rest = deciding s (after given m) g in
      omega (
        arith,
        length-append given (cond (eqb (commit_of r i).acknowledged g) rest []),
        length_placing Tentative (i * s.context) context,
        either_none (eqb (commit_of r i).acknowledged g) rest 18436 (few_deciding (after given m) g),
      )

-- ---- every call

-- a call that is taken has a shape within the limits, and passes its own tests
taken : (image : List ℕ) (r : Record) (i : ℕ) (ts : List Test) → first (entry_tests image r i ++ ts) ≡ 0
    → Limits (shape_of image) × (first ts ≡ 0)
taken image r i ts e =
    let both = begun image r i ts refl e in
    (limits (shape_of image) both.0.sound.allowed_shape, both.1)

few_stores : (image : List ℕ) (r : Record) (request : Request) →
    let s = shape_of image in
    let m = view s image in
    first (refusals image s m r request) ≡ 0 → length (plan s m r request).stores ≤ 65535
unfolding refusals plan
few_stores image r (Read who a n room) e = omega arith
few_stores image r (Write who a bytes) e =
    let s = shape_of image in
    let i = board_of s who in
    let m = view s image in
    let ok = taken image r i (write_tests s m r who a (length bytes)) e in
    let tags = tagging m i (touched s a (length bytes)) in
    omega (
      arith,
      length-append tags (placing Current a bytes),
      few_tags m i (touched s a (length bytes)),
      few_touched s a (length bytes),
      length_placing Current a bytes,
      (ranged s a (length bytes) (write_passed s m r who a (length bytes) ok.1).range).few,
      ok.0.most_size,
    )
few_stores image r (Start i context) e =
    let s = shape_of image in
    let ok = taken image r i (start_tests s r (length context)) e in
    let full = (start_passed s r (length context) ok.1).full in
    omega (
      arith,
      few_acknowledging s ok.0 (view s image) (opened r i (commit_group (depends r) i)) i context
          (omega (arith, full, ok.0.most_context)),
    )
few_stores image r (Acknowledge i context) e =
    let s = shape_of image in
    let ok = taken image r i (acknowledge_tests s r i (length context)) e in
    let full = (acknowledge_passed s r i (length context) ok.1).full in
    omega (arith, few_acknowledging s ok.0 (view s image) r i context (omega (arith, full, ok.0.most_context)))
few_stores image r (Fault i) e =
    let s = shape_of image in
    let l = limits s (entered image r i refl e).sound.allowed_shape in
    omega (arith, few_blocks s l (view s image) Recovery Current (tagged_in (fault_group (depends r) i)))
few_stores image r PowerUp e =
    let s = shape_of image in
    let l = (geometry (power_passed image s (view s image) e).ordered).shape.limits in
    omega (arith, few_recovering s l (view s image))

-- so a call with that budget is not cut
none_cut : (image : List ℕ) (r : Record) (request : Request) → (perform image r request most).reply.answer.status ≢ 9
none_cut image r request nine =
    let cut = cut_by_nine image r request most nine in
    omega (arith, cut.1, few_stores image r request cut.0)

format_uncut : (s : Shape) (image : List ℕ) (r : Record) → (format s image r most).reply.answer.status ≢ 9
unfolding format format_tests refused first
format_uncut s image r nine =
    ⊎_elim
    (λ (e : allowed s ≡ true).
    ⊎_elim
    (λ (f : eqb (length image) (total s) ≡ true).
    omega (
      arith,
      executed_cut most (formatting s) image 0 fresh [] (rw (e, f) at nine),
      format_stores s,
      (bounded {s = s} e).most_total,
    ))
    (λ (f : eqb (length image) (total s) ≡ false). omega (arith, rw (e, f) at nine))
    (decide (eqb (length image) (total s))))
    (λ (e : allowed s ≡ false). omega (arith, rw e at nine))
    (decide (allowed s))

pub nothing_cut : NothingCut
nothing_cut = record { calls = none_cut; formats = format_uncut }
