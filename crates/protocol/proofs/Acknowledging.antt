-- Starts and acknowledgements as outcomes: done or cut, before or after the decision.
use Prim.Native.Nat.{ℕ, ◌+◌, ◌*◌, ◌≤◌, ◌<◌}
use mathlib.Core.Path.{◌≡◌, refl, sym, ◌∙◌, ap, subst}
use mathlib.Core.Bool.{Bool, true, false, cond}
use mathlib.Core.List.{List, append-nil}
use mathlib.Core.Logic.{⊎_elim}
use lib.Dec.{eqb, leb}
use lib.ListN.{length, take, length-append}
use lib.Seq.{take_all}
use native.Mathlib.Omega.{arith}
use borrow.Author.Tests.{eqb-true, ne_eqb, leb-true, leb-false, le-leb, lt-leb}
use Rattle.boards.specs.Lists.{any_of}
use Rattle.boards.specs.Boards.{has, with_board}
use Rattle.protocol.specs.Image.{Memory, Put, Tentative, after, view}
use Rattle.volatile.specs.Volatile.{commit_of, clear, acknowledge}
use Rattle.protocol.specs.Calls.{Plan, Outcome, placing, acknowledging}
use Rattle.protocol.specs.Ledger.{Ledger, done, cut, with_context, complete, decided_by, decides_now, decided}
use Rattle.protocol.specs.Ledger.{acknowledged, members_of, all_undone}
use Rattle.protocol.specs.Claim.{Commits}
use Rattle.protocol.specs.declared.Shape.{Shape}
use Rattle.volatile.specs.declared.Record.{Record}
use Rattle.boards.proofs.Basics.{decide, all_take}
use Rattle.protocol.proofs.Copies.{placing_other}
use Rattle.protocol.proofs.Safety.{Idle, Safe, idle, deciding_stores, before_decision, after_decision}
use Rattle.protocol.proofs.Safety.{decision_done, stores_parts, announced, announced_length, idle_same}
use Rattle.protocol.proofs.Outcomes.{decisive, Finished, Stopped, cut_not_done}
use Rattle.protocol.proofs.Plans.{given_inside, inside_indecisive}
use Rattle.protocol.proofs.Plans.{undecided_before, decided_after}
use Rattle.protocol.proofs.Agreement.{On, Off, off_undone, on_idle, agrees_none, kept_cell}
use Rattle.protocol.proofs.Commits.{the_commit, handed_commits, given_on, decision_safe, decided_on}

either_zero : (b : Bool) → ◌≡◌ {A = ℕ} (cond b 0 0) 0
either_zero true = refl
either_zero false = refl

module _ {s : Shape} {m : Memory} {r : Record} {l : Ledger} (h : On s m r l) (most : s.boards ≤ 16)
    (positive : 0 < s.size)
    {i : ℕ} (board : i < s.boards) (member : has r.commit.members i ≡ true)
    (context : List ℕ) (full : length context ≡ s.context)
  where
    abbrev the_plan : Plan
    the_plan = acknowledging s m r i context

    abbrev g : ℕ
    g = r.commit.members

    abbrev everybody : Bool
    everybody = eqb (with_board r.commit.acknowledged i) g

    abbrev given_puts : List Put
    given_puts = placing Tentative (i * s.context) context

    -- ---- the plan, by whether everybody has acknowledged

    some_stores : everybody ≡ false → the_plan.stores ≡ given_puts
    unfolding acknowledging commit_of acknowledge
    some_stores e = rw e (append-nil given_puts)

    all_stores : everybody ≡ true → the_plan.stores ≡ deciding_stores s m i g context
    unfolding acknowledging commit_of acknowledge
    all_stores e = rw e

    some_next : everybody ≡ false → the_plan.next ≡ acknowledge r i
    unfolding acknowledging commit_of acknowledge
    some_next e = rw e

    all_next : everybody ≡ true → the_plan.next ≡ clear (acknowledge r i) g
    unfolding acknowledging commit_of acknowledge
    all_next e = rw e

    -- the members, by the plan and by the ledger
    plan_group : the_plan.group ≡ members_of i l.commits
    unfolding acknowledging commit_of acknowledge members_of
    plan_group = rw ((the_commit h most positive board member context full).0, member)

    -- ---- what the ledger decides

    abbrev given_ledger : Ledger
    given_ledger = with_context i context l

    undecided_some : (k : ℕ) → everybody ≡ false → decided_by s i k given_ledger.commits ≡ 0
    unfolding decided_by complete
    undecided_some k e =
        ap (decided_by s i k) (handed_commits h most positive board member context full)
        ∙ rw (member, e) (either_zero (leb (s.context + 3) k))

    undecided_early : (k : ℕ) → k < s.context + 3 → decided_by s i k given_ledger.commits ≡ 0
    unfolding decided_by
    undecided_early k e = rw (lt-leb (s.context + 3) k e)

    decided_late : (k : ℕ) → everybody ≡ true → s.context + 3 ≤ k → decided_by s i k given_ledger.commits ≡ g
    unfolding decided_by complete
    decided_late k e f =
        ap (decided_by s i k) (handed_commits h most positive board member context full) ∙ rw
        (le-leb (s.context + 3) k f, member, e)

    ledger_undecided : (k : ℕ) → decided_by s i k given_ledger.commits ≡ 0
        → acknowledged s i context k l ≡ given_ledger
    unfolding acknowledged
    ledger_undecided k e = rw e

    ledger_decided : (k : ℕ) → decided_by s i k given_ledger.commits ≡ g
        → acknowledged s i context k l ≡ decided g given_ledger
    unfolding acknowledged
    ledger_decided k e = rw (e, ne_eqb g 0 (the_commit h most positive board member context full).1.some)

    -- ---- done

    abbrev on_given : On s (after given_puts m) (acknowledge r i) given_ledger
    on_given = given_on h most positive board member context full

    enough : (k : ℕ) → length (deciding_stores s m i g context) ≤ k → s.context + 3 ≤ k
    enough k e =
        let len = ap length (stores_parts s m i g context) ∙ length-append (announced s m i g context) _ in
        omega (arith, announced_length s m i g context)

    done_both : (k : ℕ) (o : Outcome) → length the_plan.stores ≤ k → Finished s m the_plan o
        → On s (view s o.image) o.reply.next (acknowledged s i context k l)
        × (o.reply.answer.decided ≡ decides_now s i context k l done)
    unfolding decides_now
    done_both k o enough_k f =
        ⊎_elim
        (λ (e : everybody ≡ true).
        let late = enough k (subst (λ ps. length ps ≤ k) (all_stores e) enough_k) in
        let ours = decided_late k e late in
        let all = eqb-true (with_board r.commit.acknowledged i) g e in (
          rw (f.memory, all_stores e, decision_done s m i g context, f.next, all_next e, ledger_decided k ours)
              (decided_on h most positive board member context full all),
          f.decided
              ∙ rw (ours, ne_eqb g 0 (the_commit h most positive board member context full).1.some, all_stores e)
              (subst (λ ps. any_of decisive ps ≡ true)
              (take_all k (deciding_stores s m i g context) (rw (all_stores e) at enough_k))
              (decided_after s m i g context k (omega arith))),
        ))
        (λ (e : everybody ≡ false).
        let none_yet = undecided_some k e in (
          rw (f.memory, some_stores e, f.next, some_next e, ledger_undecided k none_yet) on_given,
          f.decided ∙ rw (none_yet, some_stores e) (inside_indecisive (given_inside s i context board full)),
        ))
        (decide everybody)

    pub done_agrees : (k : ℕ) (o : Outcome) → length the_plan.stores ≤ k → Finished s m the_plan o
        → On s (view s o.image) o.reply.next (acknowledged s i context k l) × Commits s i context k l o
    unfolding decides_now
    done_agrees k o enough_k f =
        let ours = done_both k o enough_k f in (
          ours.0,
          record { members = λ d. f.group ∙ plan_group; decided = rw f.ended ours.1 },
        )

    -- ---- cut

    -- a cut while only the context is stored
    given_idle : (k : ℕ) → Idle s (kept_cell l) l.kept (after (take k given_puts) m)
    given_idle k = idle_same (λ a j p q. placing_other Tentative (i * s.context) context m k a j (λ e. p (sym e)))
        (on_idle positive h)

    -- a cut before the decision leaves what the ledger kept before
    cut_undecided : {n : Memory} (k : ℕ) → decided_by s i k given_ledger.commits ≡ 0
        → Idle s (kept_cell l) l.kept n
        → Off s n (all_undone (acknowledged s i context k l))
    unfolding with_context
    cut_undecided {n} k e calm =
        subst (λ x. Off s n (all_undone x)) (sym (ledger_undecided k e))
        (off_undone on_given.consistent (idle calm) (agrees_none on_given.commit) on_given.lengths)

    cut_decided : {n : Memory} (k : ℕ) → everybody ≡ true → decided_by s i k given_ledger.commits ≡ g
        → Safe s (kept_cell (decided g given_ledger)) (decided g given_ledger).kept n
        → Off s n (all_undone (acknowledged s i context k l))
    cut_decided {n} k e f safe =
        let on = decided_on h most positive board member context full
        (eqb-true (with_board r.commit.acknowledged i) g e) in
        subst (λ x. Off s n (all_undone x)) (sym (ledger_decided k f))
        (off_undone on.consistent safe (agrees_none on.commit) on.lengths)

    cut_both : (k : ℕ) (o : Outcome) → Stopped s m the_plan k o
        → Off s (view s o.image) (all_undone (acknowledged s i context k l))
        × (o.reply.answer.decided ≡ decides_now s i context k l cut)
    unfolding decides_now
    cut_both k o f =
        ⊎_elim
        (λ (e : everybody ≡ true).
        let all = eqb-true (with_board r.commit.acknowledged i) g e in
        ⊎_elim
        (λ (late : leb (s.context + 3) k ≡ true).
        let after = leb-true (s.context + 3) k late in
        let ours = decided_late k e after in (
          rw (f.memory, all_stores e)
              (cut_decided k e ours
              (after_decision s m i g context positive (decision_safe h most positive board member context full all) k
              (omega arith))),
          f.decided
              ∙ rw (ours, ne_eqb g 0 (the_commit h most positive board member context full).1.some, all_stores e)
              (decided_after s m i g context k (omega arith)),
        ))
        (λ (early : leb (s.context + 3) k ≡ false).
        let before = leb-false (s.context + 3) k early in
        let ours = undecided_early k before in (
          rw (f.memory, all_stores e) (cut_undecided k ours
              (before_decision s m i g context (on_idle positive h) k (omega arith))),
          f.decided ∙ rw (ours, all_stores e) (undecided_before s m i g context k (omega arith)),
        ))
        (decide (leb (s.context + 3) k)))
        (λ (e : everybody ≡ false).
        let ours = undecided_some k e in (
          rw (f.memory, some_stores e) (cut_undecided k ours (given_idle k)),
          f.decided ∙ rw (ours, some_stores e) (inside_indecisive (all_take k (given_inside s i context board full))),
        ))
        (decide everybody)

    pub cut_agrees : (k : ℕ) (o : Outcome) → Stopped s m the_plan k o
        → Off s (view s o.image) (all_undone (acknowledged s i context k l)) × Commits s i context k l o
    unfolding decides_now
    cut_agrees k o f =
        let ours = cut_both k o f in (
          ours.0,
          record { members = λ d. cut_not_done f.ended d; decided = rw f.ended ours.1 },
        )
