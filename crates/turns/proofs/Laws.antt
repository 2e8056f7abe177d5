-- What a call leaves in the area that an image stands in, and what it answers, as an outcome of the definitions.
use Prim.Native.Nat.{ℕ, ◌-◌, ◌≤◌}
use mathlib.Core.Path.{◌≡◌, sym, ◌∙◌, ap}
use mathlib.Core.Bool.{true, false, cond}
use mathlib.Core.List.{List, [], ◌++◌, map, append_assoc}
use mathlib.Core.Logic.{◌≢◌, ⊎_elim}
use native.Mathlib.Omega.{arith}
use lib.Dec.{eqb, ltb}
use lib.Seq.{take-append_seam, take_at}
use lib.ListN.{length, take, drop}
use borrow.Author.Tests.{eq-eqb, eqb-true, eqb-false, le-ltb}
use Rattle.protocol.specs.Image.{Store, view, shape_of, raw, Current}
use Rattle.protocol.specs.Accesses.{board_of}
use Rattle.protocol.specs.Calls.{Request, Read, first, Outcome, perform, executed, refused, refusals, read_tests, plan}
use Rattle.protocol.specs.Calls.{format, format_tests, formatting, filled}
use Rattle.protocol.specs.declared.Shape.{Shape}
use Rattle.protocol.specs.declared.Requester.{Requester}
use Rattle.volatile.specs.declared.Record.{Record}
use Rattle.protocol.specs.Replies.{Reply}
use Rattle.boards.proofs.Basics.{decide, clash, length_span}
use Rattle.protocol.proofs.Refusals.{read_passed, entry_first}
use Rattle.protocol.proofs.Bridge.{length_made}

-- ---- parts

-- an image of n bytes at the area's start that became y, as the borrow checker has it
pub lent_image : (n : ℕ) (area y : List ℕ) → length y ≡ n
    → take n (take 0 area ++ (y ++ drop (n - 0) (drop 0 area))) ≡ y
lent_image n area y l = take_at y _ n l

-- ---- outcomes

pub outcome_of : (o : Outcome) {reply : Reply} {image bytes : List ℕ} → reply ≡ o.reply → image ≡ o.image
    → bytes ≡ o.bytes →
    ◌≡◌ {A = Outcome} (record { reply = reply; image = image; bytes = bytes }) o
outcome_of o a b c = rw (a, b, c)

-- an image keeps its length
executed_length : (k : ℕ) (ss : List Store) (image : List ℕ) (g : ℕ) (next : Record) (bytes : List ℕ) →
    length (executed k ss image g next bytes).image ≡ length image
unfolding executed
executed_length k ss image g next bytes = length_made (take k ss) image

pub perform_length : (image : List ℕ) (r : Record) (request : Request) (k : ℕ)
    → length (perform image r request k).image ≡ length image
unfolding perform refused
perform_length image r request k =
    let s = shape_of image in
    let m = view s image in
    let p = plan s m r request in
    ⊎_elim
    (λ (e : eqb (first (refusals image s m r request)) 0 ≡ true).
    rw e (executed_length k (map (raw s) p.stores) image p.group p.next p.bytes))
    (λ (e : eqb (first (refusals image s m r request)) 0 ≡ false). rw e)
    (decide (eqb (first (refusals image s m r request)) 0))

pub format_length : (s : Shape) (image : List ℕ) (r : Record) (k : ℕ)
    → length (format s image r k).image ≡ length image
unfolding format refused
format_length s image r k =
    ⊎_elim
    (λ (e : eqb (first (format_tests s image)) 0 ≡ true). rw e (executed_length k (formatting s) image 0 _ []))
    (λ (e : eqb (first (format_tests s image)) 0 ≡ false). rw e)
    (decide (eqb (first (format_tests s image)) 0))

-- a call that plans no bytes answers none
executed_none : (k : ℕ) (ss : List Store) (image : List ℕ) (g : ℕ) (next : Record)
    → [] ≡ (executed k ss image g next []).bytes
unfolding executed
executed_none k ss image g next =
    ⊎_elim (λ (e : ltb k (length ss) ≡ true). rw e) (λ (e : ltb k (length ss) ≡ false). rw e)
    (decide (ltb k (length ss)))

pub no_bytes : (image : List ℕ) (r : Record) (request : Request) (k : ℕ) →
    (plan (shape_of image) (view (shape_of image) image) r request).bytes ≡ [] → [] ≡ (perform image r request k).bytes
unfolding perform refused
no_bytes image r request k none =
    let s = shape_of image in
    let m = view s image in
    let p = plan s m r request in
    ⊎_elim
    (λ (e : eqb (first (refusals image s m r request)) 0 ≡ true).
    rw (e, none) (executed_none k (map (raw s) p.stores) image p.group p.next))
    (λ (e : eqb (first (refusals image s m r request)) 0 ≡ false). rw e)
    (decide (eqb (first (refusals image s m r request)) 0))

pub format_none : (s : Shape) (image : List ℕ) (r : Record) (k : ℕ) → [] ≡ (format s image r k).bytes
unfolding format refused
format_none s image r k =
    ⊎_elim
    (λ (e : eqb (first (format_tests s image)) 0 ≡ true). rw e (executed_none k (formatting s) image 0 _))
    (λ (e : eqb (first (format_tests s image)) 0 ≡ false). rw e)
    (decide (eqb (first (format_tests s image)) 0))

-- ---- reads

-- a read that is done answered its n bytes, no more than its buffer has; one that is refused answered none
module _ (image : List ℕ) (r : Record) (who : Requester) (a n room k : ℕ) where
  number : ℕ
  number = first (refusals image (shape_of image) (view (shape_of image) image) r (Read who a n room))

  within_room : number ≡ 0 → n ≤ room
  unfolding number refusals
  within_room e =
      let s = shape_of image in
      let m = view s image in
      (read_passed s m r who a n room
      (entry_first image r (board_of s who) (read_tests s m r who a n room) e).1).fits

  -- no store, so it is not cut
  uncut : ltb k 0 ≡ false
  uncut = le-ltb k 0 (omega arith)

  refused_number : eqb number 0 ≡ false → (perform image r (Read who a n room) k).reply.answer.status ≡ number
  unfolding number perform refused
  refused_number e = rw e

  pub read_done : (perform image r (Read who a n room) k).reply.answer.status ≡ 0 →
      (length (perform image r (Read who a n room) k).bytes ≡ n) × (n ≤ room)
  unfolding number perform refused executed plan
  read_done done =
      ⊎_elim
      (λ (e : eqb number 0 ≡ true).
      (rw (e, uncut) (length_span (view (shape_of image) image Current) a n), within_room (eqb-true number 0 e)))
      (λ (e : eqb number 0 ≡ false). clash (eq-eqb number 0 (sym (refused_number e) ∙ done)) e)
      (decide (eqb number 0))

  pub read_refused : (perform image r (Read who a n room) k).reply.answer.status ≢ 0
      → [] ≡ (perform image r (Read who a n room) k).bytes
  unfolding number perform refused executed plan
  read_refused h =
      ⊎_elim
      (λ (e : eqb number 0 ≡ true). absurd (h (rw (e, uncut))))
      (λ (e : eqb number 0 ≡ false). rw e)
      (decide (eqb number 0))

  -- the count of the bytes answered, and those bytes in the buffer
  module _ {count : ℕ} {reply : Reply} (same : reply ≡ (perform image r (Read who a n room) k).reply)
      (counts : count ≡ cond (eqb reply.answer.status 0) n 0) where
    status_same : reply.answer.status ≡ (perform image r (Read who a n room) k).reply.answer.status
    status_same = ap (λ (q : Reply). q.answer.status) same

    pub few_answered : count ≤ room
    few_answered =
        ⊎_elim
        (λ (e : eqb reply.answer.status 0 ≡ true).
        omega (arith, rw e at counts, (read_done (sym status_same ∙ eqb-true _ _ e)).1))
        (λ (e : eqb reply.answer.status 0 ≡ false). omega (arith, rw e at counts))
        (decide (eqb reply.answer.status 0))

    -- whatever is behind the buffer
    pub bytes_answered : (buffer rest : List ℕ) {x : List ℕ}
        → x ≡ filled (perform image r (Read who a n room) k).bytes buffer →
        take count (x ++ rest) ≡ (perform image r (Read who a n room) k).bytes
    unfolding filled
    bytes_answered buffer rest {x} f =
        let o = perform image r (Read who a n room) k in
        rw (f, append_assoc)
        (⊎_elim
        (λ (e : eqb reply.answer.status 0 ≡ true).
        let long : count ≡ length o.bytes =
        rw e at counts ∙ sym (read_done (sym status_same ∙ eqb-true _ _ e)).0
        in
        rw long (take-append_seam o.bytes _))
        (λ (e : eqb reply.answer.status 0 ≡ false).
        let none = read_refused (λ h. eqb-false _ _ e (status_same ∙ h)) in
        rw (rw e at counts) none)
        (decide (eqb reply.answer.status 0)))
