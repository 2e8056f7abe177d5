-- The second half of demand 1: a refused call changes nothing, any other makes and counts the first of its stores.
use Prim.Native.Nat.{ℕ, ◌-◌, ◌≤◌, ◌<◌}
use mathlib.Core.Path.{◌≡◌, refl, ◌∙◌, ap, subst}
use mathlib.Core.Bool.{true, false, cond}
use mathlib.Core.List.{List, [], map}
use mathlib.Core.Logic.{⊎_elim, ◌≢◌}
use lib.Dec.{eqb, ltb}
use lib.ListN.{length, take}
use lib.Seq.{take-nil, take_all, length-take-le}
use native.Mathlib.Omega.{arith}
use borrow.Author.Tests.{eqb-true, eqb-false, ne_eqb, ltb-true, ltb-false, lt-ltb, le-ltb, lt-leb}
use Rattle.boards.specs.Lists.{any_of}
use Rattle.protocol.specs.Image.{Store, Put, shape_of, view, made, raw, total, byte, header}
use Rattle.volatile.specs.Volatile.{fresh, off}
use Rattle.protocol.specs.Calls.{Request, Read, Write, Start, Acknowledge, Fault, PowerUp, first, refusals}
use Rattle.protocol.specs.Calls.{plan, Outcome, refused as refuse, decides, executed, record_refused, refusal_at}
use Rattle.protocol.specs.Calls.{perform, format_tests, formatting, format}
use Rattle.protocol.specs.Ledger.{Verdict, refused, done, cut, Ledger, update, effect, commit_effect}
use Rattle.protocol.specs.Claim.{verdict}
use Rattle.protocol.specs.Demand1.{ends_as, Proper, refusing, storing, Demand1}
use Rattle.protocol.specs.declared.Shape.{Shape}
use Rattle.protocol.specs.declared.Requester.{Requester}
use Rattle.volatile.specs.declared.Record.{Record}
use Rattle.boards.proofs.Basics.{decide, not_false, All, none, also, all_append, all_mapped, all_span, any_of_false}
use Rattle.protocol.proofs.Refusals.{uncut, refusals_uncut, none_hold}
use Rattle.protocol.proofs.Bridge.{Sound, Valid, fits}
use Rattle.protocol.proofs.Outcomes.{taken, turned_down, not_done, cut_not_done, not_cut}
use Rattle.protocol.proofs.Plans.{plan_valid}

-- ---- one list of stores

module _ (stores : List Store) (image : List ℕ) (group : ℕ) (next : Record) (bytes : List ℕ) where
  abbrev carried : ℕ → Outcome
  carried k = executed k stores image group next bytes

  cut_short : (k : ℕ) → k < length stores
      → carried k ≡ ends_as 9 (any_of decides (take k stores)) 0 k off (made (take k stores) image) []
  unfolding executed
  cut_short k l = rw (lt-ltb k (length stores) l, length-take-le k stores (omega arith))

  whole : (k : ℕ) → length stores ≤ k
      → carried k ≡ ends_as 0 (any_of decides stores) group (length stores) next (made stores image) bytes
  unfolding executed
  whole k l = rw (le-ltb k (length stores) l, take_all k stores l)

  executed_proper : All (λ x. x.at < length image) stores → (r : Record) → Proper image r carried
  executed_proper inside r =
      storing stores group next bytes (any_of_false _ (λ x l. lt-leb (length image) x.at l) inside) cut_short whole

-- a call that is refused by its number or carried out
either_proper : (n : ℕ) → n ≢ 9 → (stores : List Store) (image : List ℕ) (group : ℕ) (next : Record) (bytes : List ℕ)
    (r : Record)
    → (n ≡ 0 → All (λ x. x.at < length image) stores)
    → Proper image r (λ k. cond (eqb n 0) (executed k stores image group next bytes) (refuse n image r))
unfolding refuse
either_proper n other stores image group next bytes r inside =
    ⊎_elim
    (λ (e : eqb n 0 ≡ true). rw e (executed_proper stores image group next bytes (inside (eqb-true n 0 e)) r))
    (λ (e : eqb n 0 ≡ false). rw e (refusing n (eqb-false n 0 e) other (λ k. refl)))
    (decide (eqb n 0))

-- ---- every call

module _ (image : List ℕ) (r : Record) (request : Request) where
  never_cut : refusal_at image r request ≢ 9
  never_cut =
      let s = shape_of image in
      uncut (refusals image s (view s image) r request) (refusals_uncut image s (view s image) r request)

  puts_inside : {s : Shape} {ps : List Put} → Sound s image → All (Valid s) ps
      → All (λ x. x.at < length image) (map (raw s) ps)
  unfolding raw
  puts_inside {s} h =
      all_mapped (raw s) (λ p v. omega (arith, fits s p.area p.index v.within, h.long))

  performed_proper : Proper image (record_refused r request) (perform image r request)
  unfolding perform
  performed_proper =
      let s = shape_of image in
      let p = plan s (view s image) r request in
      either_proper (refusal_at image r request) never_cut (map (raw s) p.stores) image p.group p.next
      p.bytes (record_refused r request)
      (λ e. let v = plan_valid image r request e in puts_inside v.0 v.1)

  -- the record after a call that is cut, and after one refused
  pub cut_off : (k : ℕ) → verdict (perform image r request k) ≡ cut → (perform image r request k).reply.next ≡ off
  unfolding verdict
  cut_off k v = go performed_proper
    where
      go : Proper image (record_refused r request) (perform image r request)
          → (perform image r request k).reply.next ≡ off
      go (refusing n some other same) =
          not_cut (ap verdict (same k) ∙ rw (ne_eqb n 0 some, ne_eqb n 9 other)) v
      go (storing stores group next bytes inside short whole) =
          ⊎_elim
          (λ (e : ltb k (length stores) ≡ true). ap (λ o. o.reply.next) (short k (ltb-true k (length stores) e)))
          (λ (e : ltb k (length stores) ≡ false).
          cut_not_done v (ap verdict (whole k (ltb-false k (length stores) e))))
          (decide (ltb k (length stores)))

  pub refused_record : (k : ℕ) → verdict (perform image r request k) ≡ refused
      → (perform image r request k).reply.next ≡ record_refused r request
  unfolding verdict
  refused_record k v = go performed_proper
    where
      go : Proper image (record_refused r request) (perform image r request)
          → (perform image r request k).reply.next ≡ record_refused r request
      go (refusing n some other same) = ap (λ o. o.reply.next) (same k)
      go (storing stores group next bytes inside short whole) =
          ⊎_elim
          (λ (e : ltb k (length stores) ≡ true). not_cut v (ap verdict (short k (ltb-true k (length stores) e))))
          (λ (e : ltb k (length stores) ≡ false). not_done v (ap verdict (whole k (ltb-false k (length stores) e))))
          (decide (ltb k (length stores)))

-- the stores of a format lie within a buffer of the exact length
format_proper : (s : Shape) (image : List ℕ) (r : Record) → Proper image r (format s image r)
unfolding format format_tests formatting any_of total
format_proper s image r =
    either_proper (first (format_tests s image)) (uncut (format_tests s image) refl) (formatting s) image 0 fresh [] r
    (λ e. inside (none_hold (format_tests s image) refl e))
  where
    inside : All (λ t. t.holds ≡ false) (format_tests s image) → All (λ x. x.at < length image) (formatting s)
    inside (also a (also b none)) =
        let long = eqb-true (length image) (total s) (not_false _ b) in
        also {x = record { at = 0; value = 0 }} (omega arith)
        (all_append
        (all_span (λ i. record { at = i; value = byte (header s) i }) 1 (total s - 1) (λ i from below. omega arith))
        (also {x = record { at = 0; value = _ }} (omega arith) none))

-- a refused request hands its record back, but for a power-up
pub same_record : (r : Record) (request : Request) → request ≢ PowerUp → record_refused r request ≡ r
unfolding record_refused
same_record r (Read who a n room) other = refl
same_record r (Write who a bytes) other = refl
same_record r (Start i context) other = refl
same_record r (Acknowledge i context) other = refl
same_record r (Fault i) other = refl
same_record r PowerUp other = absurd (other refl)

pub demand_1 : Demand1
unfolding record_refused
demand_1 =
    record {
      requests =
          λ image r request other.
          subst (λ x. Proper image x (perform image r request)) (same_record r request other)
          (performed_proper image r request);
      power_ups = λ image r. performed_proper image r PowerUp;
      formats = format_proper;
    }

-- ---- a read, and its buffer

-- a read leaves the image as it was
pub read_stores_nothing : (image : List ℕ) (r : Record) (who : Requester) (a n room k : ℕ)
    → (perform image r (Read who a n room) k).image ≡ image
unfolding plan executed made refuse
read_stores_nothing image r who a n room k =
    ⊎_elim
    (λ (e : eqb (refusal_at image r (Read who a n room)) 0 ≡ true).
    ap (λ o. o.image) (taken image refl r (Read who a n room) (eqb-true _ 0 e) k)
    ∙ ap (λ l. made l image) (take-nil k))
    (λ (e : eqb (refusal_at image r (Read who a n room)) 0 ≡ false).
    ap (λ o. o.image) (turned_down image refl r (Read who a n room) (eqb-false _ 0 e) k))
    (decide (eqb (refusal_at image r (Read who a n room)) 0))

-- the ledger does not look at the length of its answer buffer
pub room_unseen : (s : Shape) (who : Requester) (a n room other k : ℕ) (v : Verdict) (l : Ledger)
    → update s (Read who a n room) k v l ≡ update s (Read who a n other) k v l
unfolding update effect commit_effect
room_unseen s who a n room other k refused l = refl
room_unseen s who a n room other k done l = refl
room_unseen s who a n room other k cut l = refl
