-- The invariant of a list of calls: every call keeps memory, record and ledger together, and answers what the ledger
-- says.
use Prim.Native.Nat.{ℕ, zero, suc, ◌+◌, ◌≤◌, ◌<◌}
use mathlib.Core.Path.{◌≡◌, refl, sym, ◌∙◌, ap, ap₂, subst}
use mathlib.Core.Bool.{Bool, true, false, not, true≢false}
use mathlib.Core.List.{List, [], ◌∷◌, ◌++◌, map, append-nil}
use mathlib.Core.Logic.{◌≢◌}
use lib.ListN.{length}
use native.Mathlib.Omega.{arith}
use native.Mathlib.Nat.{not-suc-le-zero}
use borrow.Author.Tests.{ne_eqb, le-ltb}
use Rattle.boards.specs.Lists.{span, any_of, select}
use Rattle.boards.specs.Boards.{has, meets, tagged_in, fault_group, commit_group}
use Rattle.protocol.specs.Image.{Tags, Current, Recovery, Memory, after, cells, view}
use Rattle.protocol.specs.Image.{in_order}
use Rattle.volatile.specs.Volatile.{acknowledge, commit_of, off, depends, engaged, clear, opened, bad_record}
use Rattle.protocol.specs.Calls.{Request, Read, Write, Start, Acknowledge, Fault, PowerUp, Test, first, refusals}
use Rattle.protocol.specs.Calls.{entry_tests, read_tests, write_tests, start_tests, acknowledge_tests}
use Rattle.protocol.specs.Calls.{power_tests}
use Rattle.protocol.specs.Calls.{acknowledging, bad_tags, bad_decision, plan, record_refused, blocks_copied}
use Rattle.protocol.specs.Accesses.{board_of, touched, read_binding, write_binding}
use Rattle.protocol.specs.declared.Binding.{Binding}
use Rattle.protocol.specs.Ledger.{refused, done, undone, Note, OpenCommit, Ledger, writer}
use Rattle.protocol.specs.Ledger.{source, sources_of, decides_now, noted, started, cleared, all_undone}
use Rattle.protocol.specs.Ledger.{commit_effect, effect, update}
use Rattle.protocol.specs.Claim.{verdict, System, waits, answer, next, bytes_from, newest}
use Rattle.protocol.specs.Claim.{Commits, Answers}
use Rattle.protocol.specs.declared.Shape.{Shape}
use Rattle.protocol.specs.declared.Requester.{Requester}
use Rattle.volatile.specs.declared.Record.{Record}
use Rattle.volatile.specs.declared.Commit.{Commit}
use Rattle.boards.proofs.Basics.{or_false, none_any, All, none, also}
use Rattle.boards.proofs.Groups.{in_commit_group, in_fault_group, Bounded, Backward, bounded_more}
use Rattle.boards.proofs.Groups.{fault_group_backward, commit_group_self}
use Rattle.protocol.proofs.Outcomes.{not_done, cut_not_done, not_cut}
use Rattle.protocol.proofs.Refusals.{begun, read_passed, write_passed, start_passed, acknowledge_passed}
use Rattle.protocol.proofs.Marks.{live_byte, byte_older}
use Rattle.protocol.proofs.Accesses.{Outside, reading, untagged, writing}
use Rattle.protocol.proofs.Consistent.{Consistent, AccessOk}
use Rattle.protocol.proofs.Bridge.{Sound, Limits, limits, board_small, in_order_sound, view_decision}
use Rattle.protocol.proofs.Copies.{blocks_inside, current}
use Rattle.protocol.proofs.Safety.{Safe, idle, deciding, rollback_through, recovering_safe, write_through}
use Rattle.protocol.proofs.Outcomes.{Finished, Stopped, Result, turned_away, stopped, finished, result}
use Rattle.protocol.proofs.Plans.{acknowledging_valid, Ranged, ranged, touched_below}
use Rattle.protocol.proofs.Plans.{inside_valid, write_inside, recovering_valid}
use Rattle.protocol.proofs.Agreement.{On, Off, Agrees, nobody, somebody, kept_cell, on_idle, off_undone, powered}
use Rattle.protocol.proofs.Agreement.{agrees_none}
use Rattle.protocol.proofs.Steps.{tags_written, read_done, write_done, fault_done}
use Rattle.protocol.proofs.Commits.{opened_on}
use Rattle.protocol.proofs.Acknowledging.{done_agrees, cut_agrees}

pub data Invariant (s : Shape) (w : System) : Type 0 where
  up : Sound s w.image → w.waiting ≡ false → On s (view s w.image) w.state w.ledger → Invariant s w
  down : Sound s w.image → w.waiting ≡ true → w.state.on ≡ false → Off s (view s w.image) w.ledger
      → Invariant s w

module _ {s : Shape} {image : List ℕ} {cell : ℕ → ℕ} {context : ℕ → List ℕ} (h : Sound s image) where
  -- no power-up is refused on a safe memory
  order_safe : Safe s cell context (view s image) → in_order 1 image ≡ true
  order_safe (idle c) = in_order_sound s image h 1 ∙ rw (sym (view_decision h) ∙ c.undecided)
  order_safe (deciding c) = in_order_sound s image h 1 ∙ rw (sym (view_decision h) ∙ c.decided)

  tags_safe : Safe s cell context (view s image) → bad_tags s (view s image) ≡ false
  unfolding bad_tags
  tags_safe (idle c) = none_any s.blocks _ (λ b l. le-ltb s.boards (view s image Tags b) (c.tags b l))
  tags_safe (deciding c) = none_any s.blocks _ (λ b l. le-ltb s.boards (view s image Tags b) (c.tags b l))

  decision_safe : Safe s cell context (view s image) → bad_decision s (view s image) ≡ false
  unfolding bad_decision
  decision_safe (idle c) = rw c.undecided
  decision_safe (deciding {g} c) = rw (c.decided, c.group, ne_eqb g 0 c.some, c.below)

  pub power_taken : (r : Record) → Safe s cell context (view s image)
      → first (refusals image s (view s image) r PowerUp) ≡ 0
  unfolding refusals power_tests first
  power_taken r safe = rw (order_safe safe, tags_safe safe, decision_safe safe)

-- ---- a refused call changes nothing

refused_same : (s : Shape) (w : System) (c : Request) (k : ℕ) → verdict (answer w c k) ≡ refused
    → (answer w c k).image ≡ w.image
    → (answer w c k).reply.next ≡ w.state → next s w c k ≡ w
unfolding next update waits
refused_same s w c k v p q =
    λ j. record {
      image = p j;
      state = q j;
      ledger = update s c k (v j) w.ledger;
      waiting = waits c (v j) w.waiting;
    }

-- ---- how a call's end carries the invariant on

module _ (s : Shape) (w : System) (c : Request) (k : ℕ) where
  abbrev memory : Memory
  memory = view s w.image

  refused_on : Invariant s w → verdict (answer w c k) ≡ refused → (answer w c k).image ≡ w.image
      → (answer w c k).reply.next ≡ w.state
      → Invariant s (next s w c k)
  refused_on i v p q = subst (λ x. Invariant s x) (sym (refused_same s w c k v p q)) i

  ended_on : Finished s memory (plan s memory w.state c) (answer w c k) → waits c done w.waiting ≡ false
      → On s (view s (answer w c k).image) (answer w c k).reply.next (effect s c k w.ledger)
      → Invariant s (next s w c k)
  unfolding next update
  ended_on f q on = up f.sound (rw f.ended q) (rw f.ended on)

  finished_on : Finished s memory (plan s memory w.state c) (answer w c k) → waits c done w.waiting ≡ false
      → On s (after (plan s memory w.state c).stores memory) (plan s memory w.state c).next
      (effect s c k w.ledger)
      → Invariant s (next s w c k)
  finished_on f q on = ended_on f q (rw (f.memory, f.next) on)

  stopped_off : Stopped s memory (plan s memory w.state c) k (answer w c k)
      → Off s (view s (answer w c k).image) (all_undone (commit_effect s c k w.ledger))
      → Invariant s (next s w c k)
  unfolding next update waits off
  stopped_off f o = down f.sound (rw f.ended) (ap (λ r. r.on) f.next) (rw f.ended o)

-- ---- accesses

-- the boards that an access which is not refused may bind
outside_commits : {p : ℕ} {o : Commit} {cs : List OpenCommit} {how : ℕ → Binding} {tag : ℕ → ℕ} (i : ℕ) (bs : List ℕ)
    → Agrees p o cs → has o.members i ≡ false → All (λ b. Outside (has o.members) (how b) (tag b)) bs
    → All (λ c. (has c.members i ≡ false) × All (λ b. Outside (has c.members) (how b) (tag b)) bs) cs
outside_commits i bs (nobody e f) out os = none
outside_commits i bs (somebody b) out os = also (out, os) none

all_reading : {p : ℕ → Bool} {tag : ℕ → ℕ} (bs : List ℕ) → All (λ b. Outside p (read_binding b) (tag b)) bs
unfolding read_binding
all_reading [] = none
all_reading (b ∷ bs) = also reading (all_reading bs)

-- a write to blocks of which no tag names one of g
untied : (s : Shape) (g a n : ℕ) (tag tag' : ℕ → ℕ) (bs : List ℕ) → All (λ b. tag b ≡ tag' b) bs
    → any_of (tagged_in g) (map tag bs) ≡ false → All (λ b. Outside (has g) (write_binding s a n b) (tag' b)) bs
unfolding tagged_in any_of
untied s g a n tag tag' [] none e = none
untied s g a n tag tag' (b ∷ bs) (also same rest) e =
    let both = or_false (tagged_in g (tag b)) (any_of (tagged_in g) (map tag bs)) e in
    also (outside (tag' b) (ap (tagged_in g) (sym same) ∙ both.0)) (untied s g a n tag tag' bs rest both.1)
  where
    outside : {how : Binding} (t : ℕ) → tagged_in g t ≡ false → Outside (has g) how t
    outside zero e = untagged
    outside (suc j) e = writing e

module _ {s : Shape} {w : System} (h : Sound s w.image) (q : w.waiting ≡ false)
    (on : On s (view s w.image) w.state w.ledger) where
  abbrev m : Memory
  m = view s w.image

  bound : Limits s
  bound = limits s h.allowed_shape

  positive : 0 < s.size
  positive = bound.some_size

  few_links : Bounded 16 w.ledger.links
  few_links = bounded_more on.consistent.bounded bound.most_boards

  -- what a read that is not refused has passed
  read_ok : (who : Requester) (a n room : ℕ) → first (refusals w.image s m w.state (Read who a n room)) ≡ 0
      → AccessOk s read_binding (board_of s who) a n w.ledger × All (λ b. b < s.blocks) (touched s a n)
      × Ranged s a n
  unfolding refusals engaged
  read_ok who a n room e =
      let i = board_of s who in
      let both = begun w.image w.state i (read_tests s m w.state who a n room) h.shape e in
      let p = read_passed s m w.state who a n room both.1 in
      let r = ranged s a n p.range in (
        record {
          positive = positive;
          board = both.0.board;
          some = r.some;
          few = r.few;
          outside = outside_commits i (touched s a n) on.commit p.free (all_reading (touched s a n));
        },
        touched_below s a n positive r,
        r,
      )

  -- a read done: the bytes of the writes that it is noted with
  read_bytes : (n : Note) (a k : ℕ) → a + k ≤ cells s
      → span (m Current) a k ≡ bytes_from (n ∷ w.ledger.notes) a (span (source w.ledger.notes) a k)
  unfolding span bytes_from
  read_bytes n a zero e = refl
  read_bytes n a (suc k) e =
      ap₂ ◌∷◌
      (on.current a (omega arith) ∙ sym (live_byte w.ledger.notes a) ∙ sym (byte_older n w.ledger.notes a a))
      (read_bytes n (suc a) k (omega arith))

  read_ends : (who : Requester) (a n room k : ℕ) → Result s w.image w.state (Read who a n room) k
      → Answers s w (Read who a n room) k × Invariant s (next s w (Read who a n room) k)
  unfolding answer record_refused plan next update effect noted newest sources_of after waits
  read_ends who a n room k (turned_away v p r u e) =
      (λ d. not_done v d, refused_on s w (Read who a n room) k (up h q on) v p r)
  read_ends who a n room k (stopped e f) = absurd (not-suc-le-zero f.short)
  read_ends who a n room k (finished e l f) =
      let ok = read_ok who a n room e in
      let r = ok.2 in (
        λ d. f.bytes ∙ rw d (read_bytes _ a n r.within),
        finished_on s w (Read who a n room) k f q (read_done on bound.most_boards ok.0 ok.1),
      )

  read_step : (who : Requester) (a n room k : ℕ)
      → Answers s w (Read who a n room) k × Invariant s (next s w (Read who a n room) k)
  unfolding plan
  read_step who a n room k = read_ends who a n room k (result h w.state (Read who a n room) k (λ e. none))

  -- ---- a write

  pub write_ok : (who : Requester) (a : ℕ) (bytes : List ℕ)
      → first (refusals w.image s m w.state (Write who a bytes)) ≡ 0
      → AccessOk s (write_binding s a (length bytes)) (board_of s who) a (length bytes) w.ledger
      × Ranged s a (length bytes)
  unfolding refusals engaged
  write_ok who a bytes e =
      let i = board_of s who in
      let n = length bytes in
      let both = begun w.image w.state i (write_tests s m w.state who a n) h.shape e in
      let p = write_passed s m w.state who a n both.1 in
      let r = ranged s a n p.range in
      let tags = tags_written on (touched_below s a n positive r) in (
        record {
          positive = positive;
          board = both.0.board;
          some = r.some;
          few = r.few;
          outside =
              outside_commits i (touched s a n) on.commit p.free
              (untied s (engaged w.state) a n (m Tags) (writer s w.ledger.notes) (touched s a n) tags
              p.untied);
        },
        r,
      )

  write_ends : (who : Requester) (a : ℕ) (bytes : List ℕ) (k : ℕ)
      → Result s w.image w.state (Write who a bytes) k
      → Invariant s (next s w (Write who a bytes) k)
  unfolding answer record_refused plan commit_effect effect waits
  write_ends who a bytes k (turned_away v p r u e) = refused_on s w (Write who a bytes) k (up h q on) v p r
  write_ends who a bytes k (stopped e f) =
      let ok = write_ok who a bytes e in
      let calm =
      (write_through (board_of s who) a bytes positive ok.0.few ok.0.board (on_idle positive on)).prefix k in
      stopped_off s w (Write who a bytes) k f
      (rw f.memory (off_undone on.consistent (idle calm) (agrees_none on.commit) on.lengths))
  write_ends who a bytes k (finished e l f) =
      let ok = write_ok who a bytes e in
      finished_on s w (Write who a bytes) k f q
      (write_done on bound.most_boards bytes ok.0 (touched_below s a (length bytes) positive ok.1))

  write_step : (who : Requester) (a : ℕ) (bytes : List ℕ) (k : ℕ) → Invariant s (next s w (Write who a bytes) k)
  unfolding plan
  write_step who a bytes k =
      write_ends who a bytes k
      (result h w.state (Write who a bytes) k
      (λ e. inside_valid (write_inside s m (board_of s who) a bytes positive (write_ok who a bytes e).1)))

  -- ---- a fault

  abbrev fault_set : ℕ → ℕ
  fault_set i = fault_group (depends w.state) i

  fault_same : (i : ℕ) → fault_set i ≡ fault_group w.ledger.links i
  fault_same i = ap (λ d. fault_group d i) on.links

  fault_back : (i : ℕ) → Backward (has (fault_set i)) w.ledger.links
  fault_back i =
      subst (λ g. Backward (has g) w.ledger.links) (sym (fault_same i))
      (fault_group_backward few_links i)

  fault_ok : (i : ℕ) → first (refusals w.image s m w.state (Fault i)) ≡ 0 → i < s.boards
  unfolding refusals
  fault_ok i e = (begun w.image w.state i [] h.shape (rw append-nil e)).0.board

  fault_ends : (i k : ℕ) → Result s w.image w.state (Fault i) k
      → Answers s w (Fault i) k × Invariant s (next s w (Fault i) k)
  unfolding answer record_refused plan commit_effect effect waits tagged_in
  fault_ends i k (turned_away v p r u e) = (λ d. not_done v d, refused_on s w (Fault i) k (up h q on) v p r)
  fault_ends i k (stopped e f) =
      let calm = (rollback_through positive (tagged_in (fault_set i)) refl (on_idle positive on)).prefix k in (
        λ d. cut_not_done f.ended d,
        stopped_off s w (Fault i) k f
            (rw f.memory (off_undone on.consistent (idle calm) (agrees_none on.commit) on.lengths)),
      )
  fault_ends i k (finished e l f) = (
    λ d. (
      f.group ∙ fault_same i,
      rw (f.group, fault_same i) (in_fault_group few_links i (board_small bound (fault_ok i e))),
    ),
    finished_on s w (Fault i) k f q
        (subst (λ g. On s (after (blocks_copied s m Recovery Current (tagged_in (fault_set i))) m)
        (clear w.state (fault_set i)) (cleared (has g) undone w.ledger))
        (fault_same i) (fault_done on bound.most_boards positive (fault_set i) (fault_back i))),
  )

  fault_step : (i k : ℕ) → Answers s w (Fault i) k × Invariant s (next s w (Fault i) k)
  unfolding plan
  fault_step i k =
      fault_ends i k (result h w.state (Fault i) k
      (λ e. inside_valid (blocks_inside s m Recovery Current (tagged_in (fault_set i)) current)))

  -- ---- starts and acknowledgements

  acknowledge_ok : (i : ℕ) (context : List ℕ)
      → first (refusals w.image s m w.state (Acknowledge i context)) ≡ 0
      → (i < s.boards) × (length context ≡ s.context) × (has w.state.commit.members i ≡ true)
  unfolding refusals engaged
  acknowledge_ok i context e =
      let both = begun w.image w.state i (acknowledge_tests s w.state i (length context)) h.shape e in
      let p = acknowledge_passed s w.state i (length context) both.1 in
      (both.0.board, p.full, p.member)

  start_ok : (i : ℕ) (context : List ℕ) → first (refusals w.image s m w.state (Start i context)) ≡ 0
      → (i < s.boards) × (length context ≡ s.context) × (w.state.commit.members ≡ 0)
  unfolding refusals engaged
  start_ok i context e =
      let both = begun w.image w.state i (start_tests s w.state (length context)) h.shape e in
      let p = start_passed s w.state (length context) both.1 in
      (both.0.board, p.full, p.none_open)

  acknowledge_ends : (i : ℕ) (context : List ℕ) (k : ℕ) → Result s w.image w.state (Acknowledge i context) k
      → Answers s w (Acknowledge i context) k × Invariant s (next s w (Acknowledge i context) k)
  unfolding answer record_refused plan commit_effect effect waits decides_now
  acknowledge_ends i context k (turned_away v p r u e) = (
    record { members = λ d. not_done v d; decided = rw v u },
    refused_on s w (Acknowledge i context) k
        (up h q on) v p r,
  )
  acknowledge_ends i context k (stopped e f) =
      let ok = acknowledge_ok i context e in
      let end = cut_agrees on bound.most_boards positive ok.0 ok.2 context ok.1 k _ f in
      (end.1, stopped_off s w (Acknowledge i context) k f end.0)
  acknowledge_ends i context k (finished e l f) =
      let ok = acknowledge_ok i context e in
      let end = done_agrees on bound.most_boards positive ok.0 ok.2 context ok.1 k _ l f in
      (end.1, ended_on s w (Acknowledge i context) k f q end.0)

  acknowledge_step : (i : ℕ) (context : List ℕ) (k : ℕ)
      → Answers s w (Acknowledge i context) k × Invariant s (next s w (Acknowledge i context) k)
  unfolding plan
  acknowledge_step i context k =
      acknowledge_ends i context k
      (result h w.state (Acknowledge i context) k (λ e.
      let ok = acknowledge_ok i context e in
      acknowledging_valid s m w.state i context ok.0 ok.1))

  -- a start acknowledges the commit that it has opened
  abbrev start_state : ℕ → Record
  start_state i = opened w.state i (commit_group (depends w.state) i)

  start_on : (i : ℕ) → i < s.boards → w.state.commit.members ≡ 0 → On s m (start_state i) (started i w.ledger)
  start_on i l e = opened_on bound.most_boards on e i l

  start_member : (i : ℕ) → i < s.boards → has (start_state i).commit.members i ≡ true
  unfolding opened
  start_member i l = commit_group_self (depends w.state) i (board_small bound l)

  start_group : (i : ℕ) (context : List ℕ)
      → (plan s m w.state (Start i context)).group ≡ commit_group w.ledger.links i
  unfolding plan acknowledging acknowledge commit_of opened
  start_group i context = ap (λ d. commit_group d i) on.links

  start_ends : (i : ℕ) (context : List ℕ) (k : ℕ) → Result s w.image w.state (Start i context) k
      → Answers s w (Start i context) k × Invariant s (next s w (Start i context) k)
  unfolding answer record_refused plan commit_effect effect waits decides_now
  start_ends i context k (turned_away v p r u e) = (
    (record { members = λ d. not_done v d; decided = rw v u }, λ d. not_done v d),
    refused_on s w (Start i context) k (up h q on) v p r,
  )
  start_ends i context k (stopped e f) =
      let ok = start_ok i context e in
      let end = cut_agrees (start_on i ok.0 ok.2) bound.most_boards positive ok.0
      (start_member i ok.0) context ok.1 k _ f in
      ((end.1, λ d. cut_not_done f.ended d), stopped_off s w (Start i context) k f end.0)
  start_ends i context k (finished e l f) =
      let ok = start_ok i context e in
      let end = done_agrees (start_on i ok.0 ok.2) bound.most_boards positive ok.0
      (start_member i ok.0) context ok.1 k _ l f in (
        (
          end.1,
          λ d. rw (f.group, start_group i context)
              (in_commit_group few_links i (board_small bound ok.0)),
        ),
        ended_on s w (Start i context) k f q end.0,
      )

  start_step : (i : ℕ) (context : List ℕ) (k : ℕ)
      → Answers s w (Start i context) k × Invariant s (next s w (Start i context) k)
  unfolding plan
  start_step i context k =
      start_ends i context k
      (result h w.state (Start i context) k (λ e.
      let ok = start_ok i context e in
      acknowledging_valid s m (start_state i) i context ok.0 ok.1))

-- ---- power-up, from a record on or off

module _ {s : Shape} (w : System) (h : Sound s w.image) (c : Consistent s w.ledger)
    (safe : Safe s (kept_cell w.ledger) w.ledger.kept (view s w.image))
    (dropped : select (λ o. not (meets o.members (λ i. true))) w.ledger.commits ≡ [])
    (lengths : (i : ℕ) → (length (w.ledger.given i) ≡ s.context) × (length (w.ledger.kept i) ≡ s.context))
  where
    positive_size : 0 < s.size
    positive_size = (limits s h.allowed_shape).some_size

    power_ends : (k : ℕ) → Result s w.image w.state PowerUp k
        → Answers s w PowerUp k × Invariant s (next s w PowerUp k)
    unfolding answer plan commit_effect effect waits
    power_ends k (turned_away v p r u e) = absurd (e (power_taken h w.state safe))
    power_ends k (stopped e f) = (
      λ v. not_cut v f.ended,
      stopped_off s w PowerUp k f
          (rw f.memory (off_undone c ((recovering_safe positive_size safe).0.prefix k) dropped lengths)),
    )
    power_ends k (finished e l f) = (
      λ v. not_done v f.ended,
      finished_on s w PowerUp k f refl (powered positive_size c
          (recovering_safe positive_size safe).1 dropped lengths),
    )

    power_step : (k : ℕ) → Answers s w PowerUp k × Invariant s (next s w PowerUp k)
    unfolding plan
    power_step k = power_ends k (result h w.state PowerUp k (λ e. recovering_valid s (view s w.image)))

-- ---- a record that is off refuses every call but power-up

module _ {s : Shape} (w : System) (h : Sound s w.image) (q : w.waiting ≡ true) (o : w.state.on ≡ false)
    (c : Off s (view s w.image) w.ledger)
  where
    pub off_refuses : (i : ℕ) (ts : List Test) → first (entry_tests w.image w.state i ++ ts) ≢ 0
    unfolding bad_record
    off_refuses i ts z =
        true≢false (rw o at (begun w.image w.state i ts h.shape z).0.recorded)

    record Refused (request : Request) (k : ℕ) : Type 0 where
      told_so : verdict (answer w request k) ≡ refused
      not_decided : (answer w request k).reply.answer.decided ≡ false
      same : Invariant s (next s w request k)

    off_refused : (request : Request) (k : ℕ)
        → first (refusals w.image s (view s w.image) w.state request) ≢ 0
        → record_refused w.state request ≡ w.state → Refused request k
    unfolding answer
    off_refused request k n r = go (result h w.state request k (λ e. absurd (n e)))
      where
        go : Result s w.image w.state request k → Refused request k
        go (turned_away v p x u e) =
            record { told_so = v; not_decided = u; same = refused_on s w request k (down h q o c) v p (x ∙ r) }
        go (stopped e f) = absurd (n e)
        go (finished e l f) = absurd (n e)

    off_commits : (i : ℕ) (context : List ℕ) (l : Ledger) (request : Request) (k : ℕ) → Refused request k
        → Commits s i context k l (answer w request k)
    unfolding decides_now
    off_commits i context l request k z =
        record { members = λ d. not_done z.told_so d; decided = rw z.told_so z.not_decided }

    off_step : (request : Request) (k : ℕ) → Answers s w request k × Invariant s (next s w request k)
    unfolding refusals record_refused select
    off_step (Read who a n room) k =
        let z = off_refused (Read who a n room) k (off_refuses (board_of s who) _) refl in
        (λ d. not_done z.told_so d, z.same)
    off_step (Write who a bytes) k =
        (tt, (off_refused (Write who a bytes) k (off_refuses (board_of s who) _) refl).same)
    off_step (Start i context) k =
        let z = off_refused (Start i context) k (off_refuses i _) refl in
        ((off_commits i context (started i w.ledger) (Start i context) k z, λ d. not_done z.told_so d), z.same)
    off_step (Acknowledge i context) k =
        let z = off_refused (Acknowledge i context) k (off_refuses i _) refl in
        (off_commits i context w.ledger (Acknowledge i context) k z, z.same)
    off_step (Fault i) k =
        let z = off_refused (Fault i) k (λ e. off_refuses i [] (rw append-nil e)) refl in
        (λ d. not_done z.told_so d, z.same)
    off_step PowerUp k =
        power_step w h c.consistent c.safe
        (ap (select (λ o. not (meets o.members (λ i. true)))) c.none_open) c.lengths k

-- ---- every call

pub step : {s : Shape} (w : System) → Invariant s w → (request : Request) (k : ℕ)
    → Answers s w request k × Invariant s (next s w request k)
step w (up h q on) (Read who a n room) k = read_step h q on who a n room k
step w (up h q on) (Write who a bytes) k = (tt, write_step h q on who a bytes k)
step w (up h q on) (Start i context) k = start_step h q on i context k
step w (up h q on) (Acknowledge i context) k = acknowledge_step h q on i context k
step w (up h q on) (Fault i) k = fault_step h q on i k
step {s} w (up h q on) PowerUp k =
    power_step w h on.consistent (idle (on_idle (limits s h.allowed_shape).some_size on))
    (agrees_none on.commit) on.lengths k
step w (down h q o c) request k = off_step w h q o c request k
