-- How a call ends: from the stores made under its budget to the outcome of the definitions.
use Prim.Native.Nat.{ℕ, ◌-◌, ◌≤◌}
use mathlib.Core.Path.{◌≡◌, refl, sym, ◌∙◌, ap, ap₂}
use mathlib.Core.Logic.{◌≢◌}
use mathlib.Core.Bool.{Bool, true, false}
use mathlib.Core.List.{List, map}
use lib.ListN.{take}
use native.Mathlib.Omega.{arith}
use Rattle.boards.specs.Lists.{any_of}
use Rattle.protocol.specs.Image.{Store, raw, view, shape_of}
use Rattle.volatile.specs.Volatile.{off}
use Rattle.protocol.specs.Calls.{Request, plan, refusal_at, refusal_of, refused, record_refused, executed, decides}
use Rattle.protocol.specs.Calls.{carried_out}
use Rattle.protocol.proofs.Outcomes.{taken, turned_down}
use Rattle.protocol.specs.declared.Shape.{Shape}
use Rattle.volatile.specs.declared.Record.{Record}
use Rattle.protocol.specs.Replies.{Reply, reply_says}
use Rattle.protocol.specs.declared.Reply.{Reply as Returned}
use Rattle.protocol.specs.Replies.{refusal_number}
use Rattle.protocol.specs.declared.Refusal.{Refusal}
use Rattle.protocol.proofs.Numbers.{refusal_not_zero}
use Rattle.store.specs.Budget.{Makes, start, spent}
use Rattle.store.specs.declared.Budget.{Budget}
use Rattle.store.proofs.Laws.{makes_begun, makes_count, makes_refused}
use Rattle.store.specs.Promise.{Performed, reply_of}

-- the two ways to answer
module _ (k : ℕ) (r : Budget) (decided : Bool) (group : ℕ) (next : Record) where
  pub reply_cut : (o : Record) → r.cut ≡ true → o ≡ off
      → ◌≡◌ {A = Reply}
      (record { answer = record { status = 9; decided = decided; group = 0; stores = k - r.left }; next = o })
      (reply_of k r decided group next)
  unfolding reply_of
  reply_cut o e f = rw (e, f)

  pub reply_done : r.cut ≡ false
      → ◌≡◌ {A = Reply}
      (record { answer = record { status = 0; decided = decided; group = group; stores = k - r.left }; next = next })
      (reply_of k r decided group next)
  unfolding reply_of
  reply_done e = rw e

-- stores made under a call's budget, as an outcome
pub made_outcome : {ss : List Store} {k : ℕ} {r : Budget} {image after : List ℕ} (group : ℕ) (next : Record)
    (bytes : List ℕ)
    (decided : Bool) → Makes ss (start k) image r after → decided ≡ any_of decides (take k ss)
    → (reply_of k r decided group next ≡ (executed k ss image group next bytes).reply)
    × (after ≡ (executed k ss image group next bytes).image)
unfolding executed reply_of
made_outcome group next bytes decided m d = (rw (makes_refused m, d, makes_count m) refl, m.image)

-- what is left is no more than there was
pub left_most : {ss : List Store} {k : ℕ} {b r : Budget} {image after : List ℕ} → b ≡ start k → Makes ss b image r after
    → r.left ≤ k
unfolding spent
left_most e m = rw (m.budget, e) (omega arith)

-- a call that is taken
pub performed : {s : Shape} {image after : List ℕ} (state : Record) (request : Request) {k : ℕ} {reply : Returned}
    → shape_of image ≡ s → refusal_at image state request ≡ 0 →
    let o = carried_out s (plan s (view s image) state request) k image in
    reply_says reply ≡ o.reply → after ≡ o.image → Performed request k image state reply after
performed {image = image} state request {k} e n g h =
    let o = taken image e state request (rw (← e) n) k in
    record { reply = g ∙ sym (ap (λ x. x.reply) o); image = h ∙ sym (ap (λ x. x.image) o) }

-- the same, of which the stores of its plan were made
pub ended : {s : Shape} {image after : List ℕ} (state : Record) (request : Request) {k : ℕ} {left : Budget}
    {decided : Bool} {b : Budget} {group : ℕ} {next : Record} {reply : Returned} → shape_of image ≡ s
    → refusal_at image state request ≡ 0 →
    let p = plan s (view s image) state request in
    b ≡ start k → Makes (map (raw s) p.stores) b image left after
    → decided ≡ any_of decides (take k (map (raw s) p.stores)) → group ≡ p.group → next ≡ p.next
    → reply_says reply ≡ reply_of k left decided group next → Performed request k image state reply after
ended {s} {image} state request {k} {left} {decided} e n new m d f g h =
    let p = plan s (view s image) state request in
    let both = made_outcome p.group p.next p.bytes decided (makes_begun new m) d in
    performed state request e n (h ∙ ap₂ (reply_of k left decided) f g ∙ both.0) both.1

-- a call that is refused, by whatever number
pub turned_by : {image : List ℕ} (state : Record) (request : Request) {k n : ℕ} {next : Record} {reply : Returned}
    → refusal_at image state request ≡ n → n ≢ 0 → next ≡ record_refused state request
    → reply_says reply ≡ refusal_of n next → Performed request k image state reply image
unfolding refused
turned_by {image} state request {k} f h e g =
    let o = turned_down image refl state request (λ z. h (sym f ∙ z)) k in
    record { reply = g ∙ ap₂ refusal_of (sym f) e ∙ sym (ap (λ x. x.reply) o); image = sym (ap (λ x. x.image) o) }

-- by a refusal
pub turned : {image : List ℕ} (state : Record) (request : Request) {k : ℕ} (why : Refusal) {next : Record}
    {reply : Returned} → refusal_at image state request ≡ refusal_number why → next ≡ record_refused state request
    → reply_says reply ≡ refusal_of (refusal_number why) next → Performed request k image state reply image
turned state request why f e g = turned_by state request f (refusal_not_zero why) e g
