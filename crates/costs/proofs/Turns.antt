-- One call while the commit of g is open, whichever it is, unless it drops the commit.
use Prim.Native.Nat.{ℕ, ◌≤◌}
use mathlib.Core.Path.{◌≡◌, refl, sym, ◌∙◌, ap, subst₂}
use mathlib.Core.Bool.{true, false}
use mathlib.Core.List.{List, map}
use mathlib.Core.Logic.{⊎_elim, ◌≢◌}
use lib.Dec.{eqb}
use lib.ListN.{length}
use native.Mathlib.Omega.{arith}
use borrow.Author.Tests.{eqb-true, eqb-false}
use Rattle.boards.specs.Lists.{any_of}
use Rattle.boards.specs.Boards.{has, meets, tagged_in, fault_group}
use Rattle.boards.proofs.Basics.{decide, clash, false_and}
use Rattle.boards.proofs.Basics.{if_false, All, none, all_append}
use Rattle.boards.proofs.Groups.{below_or, count}
use Rattle.volatile.specs.Volatile.{off, depends, engaged, left_open, clear}
use Rattle.volatile.specs.declared.Record.{Record}
use Rattle.protocol.specs.Image.{Memory, Tags, Current, Put, rank, view}
use Rattle.protocol.specs.Accesses.{board_of, touched}
use Rattle.protocol.specs.Calls.{Request, Read, Write, Start, Acknowledge, Fault, PowerUp, first}
use Rattle.protocol.specs.Calls.{refusals}
use Rattle.protocol.specs.Calls.{plan}
use Rattle.protocol.specs.declared.Shape.{Shape}
use Rattle.protocol.specs.declared.Requester.{Requester}
use Rattle.protocol.proofs.Refusals.{begun, write_passed, start_passed}
use Rattle.protocol.proofs.Steps.{commit_binds}
use Rattle.costs.specs.Claims.{commit_request, drops, drops_commit}
use Rattle.costs.proofs.Answers.{done_answer, cut_nine, done_finished, cut_stopped}
use Rattle.costs.proofs.Kept.{Apart, tags_kept, placing_apart, tagging_apart, rollback_apart}
use Rattle.costs.proofs.Opened.{called, no_power_up, refused_call, Grouped, Open, aside, breaks, Turned}
use Rattle.costs.proofs.Given.{given_turn, acknowledge_giving}

module _ (s : Shape) (g : ℕ) (m₀ : Memory) where
  refused_turn : {n : ℕ} (image : List ℕ) (r : Record) (request : Request) → request ≢ PowerUp
      → Open s g m₀ image r n → first (refusals image s (view s image) r request) ≢ 0 → (k : ℕ)
      → Turned s g m₀ n image r request k
  refused_turn {n} image r request other w e k =
      let o = refused_call image r request other w.shape e k in
      aside (o.0 g) (subst₂ (λ a b. Open s g m₀ a b n) (sym o.1) (sym o.2) w)

  -- taken
  module _ (group : Grouped s g) {n : ℕ} (image : List ℕ) (r : Record) (w : Open s g m₀ image r n) where
    abbrev memory : Memory
    memory = view s image

    abbrev Passed : Request → Type 0
    Passed request = first (refusals image s memory r request) ≡ 0

    abbrev stores_of : Request → List Put
    stores_of request = (plan s memory r request).stores

    -- a call of another kind: done, it leaves the commit open, and moves no tag to or from a member; cut, it leaves the
    -- record off
    other_turn : (request : Request) → Passed request → (k : ℕ) → commit_request g request ≡ false
        → (length (stores_of request) ≤ k
        → ((plan s memory r request).next.commit ≡ r.commit) × All (Apart g memory) (stores_of request))
        → Turned s g m₀ n image r request k
    unfolding off
    other_turn request passed k others calm =
        ⊎_elim
        (λ l. breaks (false_and _ others) (ap (λ x. eqb x 9) (cut_nine image w.shape r request passed k l))
        (ap (λ x. x.on) (cut_stopped image w.shape r request passed k l).next))
        (λ l.
        let f = done_finished image w.shape r request passed k l in
        let same = ap (λ x. x.commit) f.next ∙ (calm l).0 in
        aside (false_and _ others)
        (record {
          shape = f.sound.shape;
          members = ap (λ c. c.members) same ∙ w.members;
          inside = λ j y. w.inside j (sym (ap (λ c. has c.acknowledged j) same) ∙ y);
          given = ap (λ c. count s.boards (has c.acknowledged)) same ∙ w.given;
          less = w.less;
          tags = λ b. ap (λ x. tagged_in g (x Tags b)) f.memory ∙ tags_kept memory (calm l).1 b ∙ w.tags b;
        }))
        (below_or k (length (stores_of request)))

    read_turn : (who : Requester) (a c room k : ℕ) → Passed (Read who a c room)
        → Turned s g m₀ n image r (Read who a c room) k
    unfolding plan commit_request
    read_turn who a c room k passed =
        other_turn (Read who a c room) passed k refl
        (λ l. (commit_binds _ (memory Tags) r (board_of s who) (touched s a c), none))

    write_turn : (who : Requester) (a : ℕ) (bytes : List ℕ) (k : ℕ) → Passed (Write who a bytes)
        → Turned s g m₀ n image r (Write who a bytes) k
    unfolding refusals plan commit_request engaged rank
    write_turn who a bytes k passed =
        let i = board_of s who in
        let bs = touched s a (length bytes) in
        let p = write_passed s memory r who a (length bytes) (begun image r i _ w.shape passed).1 in
        let free = sym (ap (λ x. has x i) w.members) ∙ p.free in
        let untied = sym (ap (λ x. any_of (tagged_in x) (map (memory Tags) bs)) w.members) ∙ p.untied in
        other_turn (Write who a bytes) passed k refl
        (λ l. (
          commit_binds _ (memory Tags) r i bs,
          all_append (tagging_apart i free memory bs untied) (placing_apart Current a bytes (omega arith)),
        ))

    fault_turn : (i k : ℕ) → Passed (Fault i) → drops_commit g (called image r (Fault i) k) ≡ false
        → Turned s g m₀ n image r (Fault i) k
    unfolding plan commit_request clear left_open drops
    fault_turn i k passed calm =
        let h = fault_group (depends r) i in
        other_turn (Fault i) passed k refl
        (λ l.
        let answer = done_answer image w.shape r (Fault i) passed k l in
        let out : meets g (has h) ≡ false = sym (ap (λ a. meets g (has a.group)) answer) ∙ calm in
        let kept = if_false _ r.commit (ap (λ x. meets x (has h)) w.members ∙ out) in
        (kept, rollback_apart h group.small out s memory))

    start_turn : (i : ℕ) (context : List ℕ) (k : ℕ) → Passed (Start i context)
        → Turned s g m₀ n image r (Start i context) k
    unfolding refusals engaged
    start_turn i context k passed =
        let p = start_passed s r (length context) (begun image r i _ w.shape passed).1 in
        absurd (group.some (sym w.members ∙ p.none_open))

    taken_turn : (request : Request) (k : ℕ) → Passed request → drops_commit g (called image r request k) ≡ false
        → Turned s g m₀ n image r request k
    unfolding drops
    taken_turn (Read who a c room) k passed calm = read_turn who a c room k passed
    taken_turn (Write who a bytes) k passed calm = write_turn who a bytes k passed
    taken_turn (Start i context) k passed calm = start_turn i context k passed
    taken_turn (Acknowledge i context) k passed calm =
        given_turn s g m₀ group (acknowledge_giving s g m₀ i context w passed) k
    taken_turn (Fault i) k passed calm = fault_turn i k passed calm
    taken_turn PowerUp k passed calm = clash refl calm

    -- a call that does not drop the commit
    pub turn : (request : Request) (k : ℕ) → drops_commit g (called image r request k) ≡ false
        → Turned s g m₀ n image r request k
    turn request k calm =
        let number = first (refusals image s memory r request) in
        ⊎_elim
        (λ (e : eqb number 0 ≡ true). taken_turn request k (eqb-true number 0 e) calm)
        (λ (e : eqb number 0 ≡ false).
        refused_turn image r request (no_power_up g request _ calm) w (eqb-false number 0 e) k)
        (decide (eqb number 0))
