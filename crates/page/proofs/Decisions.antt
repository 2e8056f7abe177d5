-- When a call decides: a start or an acknowledgement that is not refused, if with it all members have acknowledged and
-- its third store after the context is made; no other call.
use Prim.Native.Nat.{ℕ, ◌+◌, ◌≤◌, ◌<◌}
use mathlib.Core.Path.{◌≡◌, refl, sym, ◌∙◌, ap}
use mathlib.Core.Bool.{Bool, true, false, ◌&&◌}
use mathlib.Core.List.{List, map, append-nil}
use mathlib.Core.Logic.{⊎_elim, ◌≢◌}
use lib.Dec.{eqb, leb}
use lib.ListN.{length, take}
use borrow.Author.Tests.{eqb-true, eqb-false, leb-true}
use Rattle.boards.specs.Lists.{any_of}
use Rattle.boards.specs.Boards.{commit_group}
use Rattle.boards.proofs.Basics.{decide, clash, and_true, All, none}
use Rattle.volatile.specs.Volatile.{depends, commit_of, opened, acknowledge}
use Rattle.volatile.specs.declared.Record.{Record}
use Rattle.protocol.specs.Image.{Memory, raw, shape_of, view}
use Rattle.protocol.specs.Calls.{Request, Read, Write, Start, Acknowledge, Fault, PowerUp, refusals, refusal_at}
use Rattle.protocol.specs.Calls.{decides, acknowledging, plan, refused, executed, perform}
use Rattle.protocol.specs.declared.Shape.{Shape}
use Rattle.protocol.specs.declared.Requester.{Requester}
use Rattle.protocol.proofs.Bridge.{limits}
use Rattle.protocol.proofs.Copies.{Inside, blocks_inside, current}
use Rattle.protocol.proofs.Refusals.{Entered, begun, write_passed, start_passed, acknowledge_passed}
use Rattle.protocol.proofs.Outcomes.{taken, turned_down}
use Rattle.protocol.proofs.Plans.{given_inside, ranged, write_inside, inside_quiet, recovering_quiet, decides_third}

-- whether all members have acknowledged when board i has too
abbrev pub all_acknowledged : Record → ℕ → Bool
all_acknowledged before i = let c = commit_of (acknowledge before i) i in eqb c.acknowledged c.members

-- the stores of an acknowledgement decide if all have and the third after the context is made
pub acknowledging_decides : (s : Shape) (m : Memory) (before : Record) (i : ℕ) (context : List ℕ) (k : ℕ)
    → i < s.boards → length context ≡ s.context
    → any_of decides (take k (map (raw s) (acknowledging s m before i context).stores))
    ≡ all_acknowledged before i && leb (s.context + 3) k
unfolding acknowledging
acknowledging_decides s m before i context k board full =
    let g = (commit_of (acknowledge before i) i).members in
    ⊎_elim
    (λ (e : all_acknowledged before i ≡ true).
    rw e (decides_third s m i g context board full k ∙ ap (λ n. leb (n + 3) k) full))
    (λ (e : all_acknowledged before i ≡ false).
    rw (e, append-nil) (sym (inside_quiet s k (given_inside s i context board full))))
    (decide (all_acknowledged before i))

module _ (image : List ℕ) (r : Record) where
  abbrev s : Shape
  s = shape_of image

  abbrev m : Memory
  m = view s image

  module _ (request : Request) (k : ℕ) where
    abbrev pub says_decided : Bool
    says_decided = (perform image r request k).reply.answer.decided

    -- whether the first k of a request's stores decide
    abbrev pub stores_decide : Bool
    stores_decide = any_of decides (take k (map (raw s) (plan s m r request).stores))

    -- a refused call decides nothing; one that is not, if its stores do
    pub refused_undecided : refusal_at image r request ≢ 0 → says_decided ≡ false
    unfolding refused
    refused_undecided e = ap (λ o. o.reply.answer.decided) (turned_down image refl r request e k)

    pub taken_decides : refusal_at image r request ≡ 0 → says_decided ≡ stores_decide
    unfolding executed
    taken_decides e = ap (λ o. o.reply.answer.decided) (taken image refl r request e k)

    -- so nothing is decided by stores that do not
    quiet_undecided : (refusal_at image r request ≡ 0 → false ≡ stores_decide) → says_decided ≡ false
    quiet_undecided calm =
        let n = refusal_at image r request in
        ⊎_elim
        (λ (e : eqb n 0 ≡ true). let z = eqb-true n 0 e in taken_decides z ∙ sym (calm z))
        (λ (e : eqb n 0 ≡ false). refused_undecided (eqb-false n 0 e))
        (decide (eqb n 0))

    inside_undecided : (refusal_at image r request ≡ 0 → All (Inside s) (plan s m r request).stores)
        → says_decided ≡ false
    inside_undecided inside = quiet_undecided (λ z. inside_quiet s k (inside z))

  -- ---- the calls that decide nothing

  pub read_undecided : (who : Requester) (a n room k : ℕ) → says_decided (Read who a n room) k ≡ false
  unfolding plan
  read_undecided who a n room k = inside_undecided (Read who a n room) k (λ z. none)

  pub write_undecided : (who : Requester) (a : ℕ) (bytes : List ℕ) (k : ℕ)
      → says_decided (Write who a bytes) k ≡ false
  unfolding refusals plan
  write_undecided who a bytes k =
      inside_undecided (Write who a bytes) k
      (λ z.
      let b = begun image r _ _ refl z in
      write_inside s m _ a bytes (limits s b.0.sound.allowed_shape).some_size
      (ranged s a (length bytes) (write_passed s m r who a (length bytes) b.1).range))

  pub fault_undecided : (i k : ℕ) → says_decided (Fault i) k ≡ false
  unfolding plan
  fault_undecided i k = inside_undecided (Fault i) k (λ z. blocks_inside s m _ _ _ current)

  pub power_up_undecided : (k : ℕ) → says_decided PowerUp k ≡ false
  unfolding plan
  power_up_undecided k = quiet_undecided PowerUp k (λ z. recovering_quiet s m k)

  -- ---- the calls that may

  -- a call that is not refused and by which board i gives its context
  pub record Gives (request : Request) (before : Record) (i : ℕ) (context : List ℕ) : Type 0 where
    pub passed : refusal_at image r request ≡ 0
    pub entered : Entered s image r i
    pub full : length context ≡ s.context
    pub planned : plan s m r request ≡ acknowledging s m before i context

  -- before an acknowledgement its commit is open; a start opens it
  abbrev pub started : ℕ → Record
  started i = opened r i (commit_group (depends r) i)

  module _ (i : ℕ) (context : List ℕ) where
    pub start_gives : refusal_at image r (Start i context) ≡ 0 → Gives (Start i context) (started i) i context
    unfolding refusals plan
    start_gives z =
        let b = begun image r i _ refl z in
        let full = (start_passed s r (length context) b.1).full in
        record { passed = z; entered = b.0; full = full; planned = refl }

    pub acknowledge_gives : refusal_at image r (Acknowledge i context) ≡ 0
        → Gives (Acknowledge i context) r i context
    unfolding refusals plan
    acknowledge_gives z =
        let b = begun image r i _ refl z in
        let full = (acknowledge_passed s r i (length context) b.1).full in
        record { passed = z; entered = b.0; full = full; planned = refl }

  -- its group names the members of the commit; when it decides
  pub gives_group : {request : Request} {before : Record} {i : ℕ} {context : List ℕ}
      → Gives request before i context → (plan s m r request).group ≡ (commit_of (acknowledge before i) i).members
  unfolding acknowledging
  gives_group g = ap (λ p. p.group) g.planned

  pub gives_decides : {request : Request} {before : Record} {i : ℕ} {context : List ℕ}
      → Gives request before i context → (k : ℕ)
      → says_decided request k ≡ all_acknowledged before i && leb (s.context + 3) k
  gives_decides {request} {before} {i} {context} g k =
      taken_decides request k g.passed
      ∙ ap (λ p. any_of decides (take k (map (raw s) p.stores))) g.planned
      ∙ acknowledging_decides s m before i context k g.entered.board g.full

  -- ---- a call that decided

  -- it is one of those two
  pub record Decides (request : Request) (k : ℕ) : Type 0 where
    pub before : Record
    pub i : ℕ
    pub context : List ℕ
    pub gives : Gives request before i context
    pub all : all_acknowledged before i ≡ true
    pub enough : s.context + 3 ≤ k

  module _ (request : Request) (k : ℕ) (d : says_decided request k ≡ true) where
    decided_passed : refusal_at image r request ≡ 0
    decided_passed =
        let n = refusal_at image r request in
        ⊎_elim
        (λ (e : eqb n 0 ≡ true). eqb-true n 0 e)
        (λ (e : eqb n 0 ≡ false). clash d (refused_undecided request k (eqb-false n 0 e)))
        (decide (eqb n 0))

    decided_gives : {before : Record} {i : ℕ} {context : List ℕ}
        → (refusal_at image r request ≡ 0 → Gives request before i context) → Decides request k
    decided_gives {before} {i} {context} given =
        let g = given decided_passed in
        let both = and_true (all_acknowledged before i) (leb (s.context + 3) k) (sym (gives_decides g k) ∙ d) in
        record {
          before = before;
          i = i;
          context = context;
          gives = g;
          all = both.0;
          enough = leb-true (s.context + 3) k both.1;
        }

  pub decided_call : (request : Request) (k : ℕ) → says_decided request k ≡ true → Decides request k
  decided_call (Read who a n room) k d = clash d (read_undecided who a n room k)
  decided_call (Write who a bytes) k d = clash d (write_undecided who a bytes k)
  decided_call (Start i context) k d = decided_gives (Start i context) k d (start_gives i context)
  decided_call (Acknowledge i context) k d = decided_gives (Acknowledge i context) k d (acknowledge_gives i context)
  decided_call (Fault i) k d = clash d (fault_undecided i k)
  decided_call PowerUp k d = clash d (power_up_undecided k)
