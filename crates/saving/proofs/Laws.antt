-- What a call decides, by what the code looks at before it.
use Prim.Native.Nat.{ℕ, ◌+◌, ◌*◌, ◌≤◌, ◌<◌}
use mathlib.Core.Path.{◌≡◌, refl, sym, ◌∙◌, ap, ap₂}
use mathlib.Core.Bool.{Bool, true, false, cond}
use mathlib.Core.List.{List}
use mathlib.Core.Logic.{◌≢◌}
use lib.Dec.{eqb, leb}
use lib.ListN.{length}
use borrow.Author.Tests.{eq-eqb, ne_eqb, le-leb, lt-leb}
use Rattle.std.specs.Prelude.{Some, None, Ok, Err}
use Rattle.protocol.specs.Replies.{refusal_number}
use Rattle.protocol.specs.declared.Refusal.{Refusal}
use Rattle.protocol.proofs.Numbers.{refusal_not_zero}
use Rattle.boards.proofs.Basics.{if_true, if_false, true_and, false_and, and_false}
use Rattle.volatile.specs.Volatile.{commit_of, acknowledge}
use Rattle.volatile.specs.declared.Record.{Record}
use Rattle.protocol.specs.Image.{Memory, allowed, shape_of, view}
use Rattle.protocol.specs.Calls.{Request, acknowledging, refusal_at}
use Rattle.protocol.specs.declared.Shape.{Shape}
use Rattle.costs.specs.Forecasts.{boards_of, tagged_blocks}
use Rattle.text.specs.Events.{Make, Refused, room, meant}
use Rattle.text.specs.Turns.{Player}
use Rattle.text.specs.declared.Event.{Event}
use Rattle.text.specs.declared.Event.TheVariants as event
use Rattle.page.specs.Saving.{saved, decided_by}
use Rattle.page.proofs.Decisions.{says_decided, refused_undecided, read_undecided, write_undecided, fault_undecided}
use Rattle.page.proofs.Decisions.{power_up_undecided, Gives, gives_decides}
use Rattle.page.proofs.Bounds.{saved_fits}
use Rattle.saving.specs.Acknowledged.{if_all_acknowledged}

-- ---- what a commit saves

-- its bytes, of the blocks and the members that the code counted
pub few_bytes : (s : Shape) (m : Memory) (g : ℕ) {blocks members : ℕ} → allowed s ≡ true
    → blocks ≡ length (tagged_blocks s m g) → members ≡ length (boards_of s g)
    → blocks * s.size + members * s.context ≤ 17408
unfolding saved
few_bytes s m g fine e f = rw (e, f) (saved_fits s m g fine).1

-- ---- when the last member acknowledges

module _ (s : Shape) (m : Memory) (r : Record) (i k : ℕ) where
  pub not_all : (commit_of r i).acknowledged ≢ (commit_of r i).members → None ≡ if_all_acknowledged s m r i k
  unfolding if_all_acknowledged
  not_all e = sym (if_false _ _ (false_and (leb (s.context + 3) k) (ne_eqb _ _ e)))

  pub too_short : k < s.context + 3 → None ≡ if_all_acknowledged s m r i k
  unfolding if_all_acknowledged
  too_short l =
      let c = commit_of r i in
      sym (if_false _ _ (and_false (eqb c.acknowledged c.members) (lt-leb (s.context + 3) k l)))

  pub all_of_them : (commit_of r i).acknowledged ≡ (commit_of r i).members → s.context + 3 ≤ k
      → Some (saved s m (commit_of r i).members) ≡ if_all_acknowledged s m r i k
  unfolding if_all_acknowledged
  all_of_them e l = sym (if_true _ _ (true_and (eq-eqb _ _ e) (le-leb (s.context + 3) k l)))

-- ---- the lines

module _ (image : List ℕ) (state : Record) (k : ℕ) where
  abbrev player : Player
  player = record { image = image; state = state; k = k }

  undecided : (request : Request) → says_decided image state request k ≡ false
      → None ≡ decided_by player (Make request)
  unfolding decided_by
  undecided request e = sym (if_false _ _ e)

  pub refused_by_nothing : (request : Request) {n : ℕ} → refusal_at image state request ≡ n → n ≢ 0
      → None ≡ decided_by player (Make request)
  refused_by_nothing request e some =
      undecided request (refused_undecided image state request k (λ z. some (sym e ∙ z)))

  pub refused_nothing : (request : Request) (why : Refusal) → refusal_at image state request ≡ refusal_number why
      → None ≡ decided_by player (Make request)
  refused_nothing request why e = refused_by_nothing request e (refusal_not_zero why)

  -- no other line decides
  pub refused_line_nothing : (n : ℕ) → None ≡ decided_by player (Refused n)
  unfolding decided_by
  refused_line_nothing n = refl

  pub refusal_nothing : (why : Refusal) (buffer : List ℕ) → None ≡ decided_by player (meant (Err why) buffer)
  unfolding meant
  refusal_nothing why buffer = refused_line_nothing (refusal_number why)

  pub others_nothing : (e : Event) (buffer : List ℕ) → ((i n : ℕ) → e ≢ event.Start i n)
      → ((i n : ℕ) → e ≢ event.Acknowledge i n)
      → None ≡ decided_by player (meant (Ok e) buffer)
  unfolding decided_by meant
  others_nothing (event.Format shape) buffer s a = refl
  others_nothing (event.Read i cell n) buffer s a = undecided _ (read_undecided image state _ cell n room k)
  others_nothing (event.Write i cell n) buffer s a = undecided _ (write_undecided image state _ cell _ k)
  others_nothing (event.Start i n) buffer s a = absurd (s i n refl)
  others_nothing (event.Acknowledge i n) buffer s a = absurd (a i n refl)
  others_nothing (event.Fault i) buffer s a = undecided _ (fault_undecided image state i k)
  others_nothing event.PowerUp buffer s a = undecided _ (power_up_undecided image state k)
  others_nothing (event.Allow n) buffer s a = refl

  pub acknowledged_decides : {request : Request} {before r : Record} {i : ℕ} {context : List ℕ} {s : Shape}
      → Gives image state request before i context → r ≡ acknowledge before i → shape_of image ≡ s
      → if_all_acknowledged s (view s image) r i k ≡ decided_by player (Make request)
  unfolding decided_by if_all_acknowledged acknowledging
  acknowledged_decides {request} {before} {i = i} given same shape =
      rw (same, ← shape)
      (ap₂ (λ (b : Bool) (g : ℕ). cond b (Some (saved (shape_of image) (view (shape_of image) image) g)) None)
      (sym (gives_decides image state given k)) (ap (λ p. p.group) (sym given.planned)))
