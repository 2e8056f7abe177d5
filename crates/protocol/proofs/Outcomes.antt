-- How a call ends on a sound image: refused, with nothing changed; cut; or done.
use Prim.Native.Nat.{ℕ, zero, suc, ◌≤◌, ◌<◌}
use mathlib.Core.Path.{◌≡◌, refl, sym, ◌∙◌, ap}
use mathlib.Core.Bool.{Bool, true, false, ◌&&◌, cond}
use mathlib.Core.List.{List, [], ◌∷◌, map}
use mathlib.Core.Logic.{⊎_elim, ◌≢◌}
use lib.Dec.{eqb, ltb}
use lib.ListN.{length, take, length-map}
use lib.Seq.{take_all}
use native.Mathlib.Omega.{arith}
use borrow.Author.Tests.{eqb-true, eqb-false, ne_eqb, ltb-true, ltb-false, lt-ltb, le-ltb}
use Rattle.boards.specs.Lists.{any_of}
use Rattle.protocol.specs.Image.{Memory, Put, rank, raw, after, shape_of, view}
use Rattle.volatile.specs.Volatile.{off}
use Rattle.protocol.specs.Calls.{Request, first, refusals}
use Rattle.protocol.specs.Calls.{Plan, plan, Outcome, refused as refuse, decides, executed, record_refused}
use Rattle.protocol.specs.Calls.{refusal_at, carried_out, perform}
use Rattle.protocol.specs.Ledger.{Verdict, refused, done, cut}
use Rattle.protocol.specs.Claim.{verdict}
use Rattle.protocol.specs.declared.Shape.{Shape}
use Rattle.volatile.specs.declared.Record.{Record}
use Rattle.boards.proofs.Basics.{decide, All, none, also, all_take, take_map}
use Rattle.protocol.proofs.Refusals.{uncut, refusals_uncut}
use Rattle.protocol.proofs.Bridge.{Sound, Valid, view_made_fun, made_sound, decides_raw}

-- ---- stores made

-- a put that sets the decision byte to 1
unfoldable pub decisive : Put → Bool
decisive p = eqb (rank p.area) 1 && eqb p.value 1

-- whether the stores that were made decide
pub made_decides : (s : Shape) (k : ℕ) (ps : List Put) → All (Valid s) ps
    → any_of decides (take k (map (raw s) ps)) ≡ any_of decisive (take k ps)
unfolding any_of decisive
made_decides s zero ps vs = refl
made_decides s (suc k) [] none = refl
made_decides s (suc k) (p ∷ ps) (also v vs) = rw (decides_raw s p v, made_decides s k ps vs)

-- ---- how a call ends

pub record Finished (s : Shape) (m : Memory) (p : Plan) (o : Outcome) : Type 0 where
  pub ended : verdict o ≡ done
  pub sound : Sound s o.image
  pub memory : view s o.image ≡ after p.stores m
  pub next : o.reply.next ≡ p.next
  pub group : o.reply.answer.group ≡ p.group
  pub bytes : o.bytes ≡ p.bytes
  pub decided : o.reply.answer.decided ≡ any_of decisive p.stores

pub record Stopped (s : Shape) (m : Memory) (p : Plan) (k : ℕ) (o : Outcome) : Type 0 where
  pub ended : verdict o ≡ cut
  pub short : k < length p.stores
  pub sound : Sound s o.image
  pub memory : view s o.image ≡ after (take k p.stores) m
  pub next : o.reply.next ≡ off
  pub decided : o.reply.answer.decided ≡ any_of decisive (take k p.stores)

pub data Result (s : Shape) (image : List ℕ) (r : Record) (request : Request) (k : ℕ) : Type 0 where
  turned_away : verdict (perform image r request k) ≡ refused → (perform image r request k).image ≡ image
      → (perform image r request k).reply.next ≡ record_refused r request
      → (perform image r request k).reply.answer.decided ≡ false
      → first (refusals image s (view s image) r request) ≢ 0
      → Result s image r request k
  stopped : first (refusals image s (view s image) r request) ≡ 0
      → Stopped s (view s image) (plan s (view s image) r request) k (perform image r request k)
      → Result s image r request k
  finished : first (refusals image s (view s image) r request) ≡ 0
      → length (plan s (view s image) r request).stores ≤ k
      → Finished s (view s image) (plan s (view s image) r request) (perform image r request k)
      → Result s image r request k

-- a request taken, or refused
module _ {s : Shape} (image : List ℕ) (same : shape_of image ≡ s) (r : Record) (request : Request) where
  pub taken : first (refusals image s (view s image) r request) ≡ 0 → (k : ℕ)
      → perform image r request k ≡ carried_out s (plan s (view s image) r request) k image
  unfolding perform
  taken e k = rw (same, e)

  pub turned_down : first (refusals image s (view s image) r request) ≢ 0 → (k : ℕ) → perform image r request k
      ≡ refuse (first (refusals image s (view s image) r request)) image (record_refused r request)
  unfolding perform
  turned_down e k = rw (same, ne_eqb _ 0 e)

  pub refused_as : first (refusals image s (view s image) r request) ≢ 0 → (k : ℕ)
      → verdict (perform image r request k) ≡ refused
  unfolding refuse verdict
  refused_as e k =
      let tests = refusals image s (view s image) r request in
      let never_cut = uncut tests (refusals_uncut image s (view s image) r request) in
      ap verdict (turned_down e k) ∙ rw (ne_eqb (first tests) 0 e, ne_eqb (first tests) 9 never_cut)

-- the status is the refusal's number, else 0 or 9: a test that fails at 0 and at 9 takes status and number alike
pub status_test : (p : ℕ → Bool) → p 0 ≡ false → p 9 ≡ false → (image : List ℕ) (r : Record) (request : Request) (k : ℕ)
    → p (perform image r request k).reply.answer.status ≡ p (refusal_at image r request)
unfolding executed refuse
status_test p at_done at_cut image r request k =
    let n = refusal_at image r request in
    ⊎_elim
    (λ (e : eqb n 0 ≡ true).
    let z = eqb-true n 0 e in
    ap (λ o. p o.reply.answer.status) (taken image refl r request z k) ∙ ended (ltb k _) ∙ sym (ap p z ∙ at_done))
    (λ (e : eqb n 0 ≡ false).
    ap (λ o. p o.reply.answer.status) (turned_down image refl r request (eqb-false n 0 e) k))
    (decide (eqb n 0))
  where
    ended : (b : Bool) → p (cond b 9 0) ≡ false
    ended true = at_cut
    ended false = at_done

module _ {s : Shape} {image : List ℕ} (h : Sound s image) (r : Record) (request : Request) (k : ℕ) where
  abbrev the_plan : Plan
  the_plan = plan s (view s image) r request

  abbrev number : ℕ
  number = first (refusals image s (view s image) r request)

  refused_result : number ≢ 0 → Result s image r request k
  unfolding refuse
  refused_result e =
      let o = turned_down image h.shape r request e k in
      turned_away (refused_as image h.shape r request e k)
      (ap (λ x. x.image) o)
      (ap (λ x. x.reply.next) o)
      (ap (λ x. x.reply.answer.decided) o)
      e

  cut_result : number ≡ 0 → All (Valid s) the_plan.stores → k < length the_plan.stores
      → Result s image r request k
  unfolding executed verdict
  cut_result e v l =
      let o = taken image h.shape r request e k in
      let ps = the_plan.stores in
      let some = take_map k (raw s) ps in
      let valid = all_take k v in
      let short : ltb k (length (map (raw s) ps)) ≡ true = rw (length-map ps (raw s)) (lt-ltb k (length ps) l) in
      stopped e
      (record {
        ended = ap verdict o ∙ rw short;
        short = l;
        sound = rw (ap (λ x. x.image) o, some) (made_sound h valid);
        memory = ap (λ x. view s x.image) o ∙ rw some (view_made_fun s (take k ps) image h.long valid);
        next = ap (λ x. x.reply.next) o ∙ rw short;
        decided = ap (λ x. x.reply.answer.decided) o ∙ made_decides s k ps v;
      })

  done_result : number ≡ 0 → All (Valid s) the_plan.stores → length the_plan.stores ≤ k
      → Result s image r request k
  unfolding executed verdict
  done_result e v l =
      let o = taken image h.shape r request e k in
      let ps = the_plan.stores in
      let all = take_map k (raw s) ps ∙ ap (map (raw s)) (take_all k ps l) in
      let long : ltb k (length (map (raw s) ps)) ≡ false = rw (length-map ps (raw s)) (le-ltb k (length ps) l) in
      finished e l
      (record {
        ended = ap verdict o ∙ rw long;
        sound = rw (ap (λ x. x.image) o, all) (made_sound h v);
        memory = ap (λ x. view s x.image) o ∙ rw all (view_made_fun s ps image h.long v);
        next = ap (λ x. x.reply.next) o ∙ rw long;
        group = ap (λ x. x.reply.answer.group) o ∙ rw long;
        bytes = ap (λ x. x.bytes) o ∙ rw long;
        decided = ap (λ x. x.reply.answer.decided) o ∙ made_decides s k ps v
            ∙ ap (any_of decisive) (take_all k ps l);
      })

  pub result : (number ≡ 0 → All (Valid s) the_plan.stores) → Result s image r request k
  result v =
      ⊎_elim
      (λ (e : eqb number 0 ≡ true).
      let z = eqb-true number 0 e in
      ⊎_elim
      (λ (f : ltb k (length the_plan.stores) ≡ true). cut_result z (v z) (ltb-true _ _ f))
      (λ (f : ltb k (length the_plan.stores) ≡ false). done_result z (v z) (ltb-false _ _ f))
      (decide (ltb k (length the_plan.stores))))
      (λ (e : eqb number 0 ≡ false). refused_result (eqb-false number 0 e))
      (decide (eqb number 0))

-- verdicts exclude each other
module _ {X : Type 0} {v : Verdict} where
  pub not_done : v ≡ refused → v ≡ done → X
  not_done p q = let z : ◌≡◌ {A = ℕ} 0 1 = cc in absurd (omega arith)

  pub cut_not_done : v ≡ cut → v ≡ done → X
  cut_not_done p q = let z : ◌≡◌ {A = ℕ} 0 1 = cc in absurd (omega arith)

  pub not_cut : v ≡ refused → v ≡ cut → X
  not_cut p q = let z : ◌≡◌ {A = ℕ} 0 1 = cc in absurd (omega arith)

-- a verdict tells its status
module _ (o : Outcome) where
  pub done_status : verdict o ≡ done → o.reply.answer.status ≡ 0
  unfolding verdict
  done_status v =
      let n = o.reply.answer.status in
      ⊎_elim
      (λ (e : eqb n 0 ≡ true). eqb-true n 0 e)
      (λ (e : eqb n 0 ≡ false).
      ⊎_elim
      (λ (f : eqb n 9 ≡ true). cut_not_done refl (rw (e, f) at v))
      (λ (f : eqb n 9 ≡ false). not_done refl (rw (e, f) at v))
      (decide (eqb n 9)))
      (decide (eqb n 0))

  pub cut_status : verdict o ≡ cut → o.reply.answer.status ≡ 9
  unfolding verdict
  cut_status v =
      let n = o.reply.answer.status in
      ⊎_elim
      (λ (e : eqb n 0 ≡ true). cut_not_done v (rw e))
      (λ (e : eqb n 0 ≡ false).
      ⊎_elim
      (λ (f : eqb n 9 ≡ true). eqb-true n 9 f)
      (λ (f : eqb n 9 ≡ false). not_cut (rw (e, f)) v)
      (decide (eqb n 9)))
      (decide (eqb n 0))
