-- The numbers of refusals; that they, and whole answers told in numbers, tell one from another.
use Prim.Native.Nat.{ℕ}
use mathlib.Core.Path.{◌≡◌, refl, sym, ◌∙◌, ap}
use mathlib.Core.Bool.{Bool, true, false, cond}
use mathlib.Core.Logic.{◌≢◌}
use native.Mathlib.Omega.{arith}
use lib.Dec.{eqb}
use Rattle.std.specs.Prelude.{Result, Ok, Err}
use Rattle.protocol.specs.Replies.{refusal_number, answer_says, reply_says}
use Rattle.volatile.specs.declared.Record.{Record}
use Rattle.protocol.specs.declared.Refusal.{Refusal}
use Rattle.protocol.specs.declared.Answer.{Answer as Taken}
use Rattle.protocol.specs.declared.Reply.{Reply as Returned}
use Rattle.protocol.specs.declared.Refusal.TheVariants.{NoSuchBoard, OutOfRange, WrongContext, ShapeNotAllowed}
use Rattle.protocol.specs.declared.Refusal.TheVariants.{WrongLength, Unreadable, Disordered, RecordDisordered, Engaged}
use Rattle.protocol.specs.declared.Refusal.TheVariants.{CommitOpen, NoMember, Acknowledged, OverPortLimit, PageFull}
use Rattle.protocol.specs.declared.Refusal.TheVariants.{AllCommitsOpen, NoCounterpart, BadPlan}

-- the refusal of a number, the last one of any other
unfoldable named : ℕ → Refusal
named n =
    cond (eqb n 1) NoSuchBoard (
    cond (eqb n 2) OutOfRange (
    cond (eqb n 3) WrongContext (
    cond (eqb n 4) ShapeNotAllowed (
    cond (eqb n 5) WrongLength (
    cond (eqb n 6) Unreadable (
    cond (eqb n 11) Disordered (
    cond (eqb n 12) RecordDisordered (
    cond (eqb n 13) Engaged (
    cond (eqb n 14) CommitOpen (
    cond (eqb n 15) NoMember (
    cond (eqb n 16) Acknowledged (
    cond (eqb n 17) OverPortLimit (
    cond (eqb n 18) PageFull (
    cond (eqb n 19) AllCommitsOpen (
    cond (eqb n 20) NoCounterpart BadPlan)))))))))))))))

named_back : (e : Refusal) → named (refusal_number e) ≡ e
unfolding named
named_back NoSuchBoard = refl
named_back OutOfRange = refl
named_back WrongContext = refl
named_back ShapeNotAllowed = refl
named_back WrongLength = refl
named_back Unreadable = refl
named_back Disordered = refl
named_back RecordDisordered = refl
named_back Engaged = refl
named_back CommitOpen = refl
named_back NoMember = refl
named_back Acknowledged = refl
named_back OverPortLimit = refl
named_back PageFull = refl
named_back AllCommitsOpen = refl
named_back NoCounterpart = refl
named_back BadPlan = refl

-- each has a number of its own
pub number_tells : (e f : Refusal) → refusal_number e ≡ refusal_number f → e ≡ f
number_tells e f h = sym (named_back e) ∙ ap named h ∙ named_back f

-- a number that none of them has
none_has : (k : ℕ) → named k ≡ BadPlan → k ≢ 21 → (e : Refusal) → refusal_number e ≢ k
none_has k other some e h =
    some (sym h ∙ ap refusal_number (sym (named_back e) ∙ ap named h ∙ other))

-- no refusal has the number 0, which is done
pub refusal_not_zero : (e : Refusal) → refusal_number e ≢ 0
unfolding named
refusal_not_zero = none_has 0 refl (λ h. omega (arith, h))

-- nor 9, which is cut
pub refusal_not_nine : (e : Refusal) → refusal_number e ≢ 9
unfolding named
refusal_not_nine = none_has 9 refl (λ h. omega (arith, h))

-- ---- answers

taken_number : (cut : Bool) (e : Refusal) → cond cut 9 0 ≡ refusal_number e → ⊥
taken_number true e h = refusal_not_nine e (sym h)
taken_number false e h = refusal_not_zero e (sym h)

cut_tells : (s t : Bool) → ◌≡◌ {A = ℕ} (cond s 9 0) (cond t 9 0) → s ≡ t
cut_tells true true h = refl
cut_tells true false h = absurd (omega (arith, h))
cut_tells false true h = absurd (omega (arith, h))
cut_tells false false h = refl

taken_same : (c d : Bool) (m n : ℕ) (c' d' : Bool) (m' n' : ℕ) → c ≡ c' → d ≡ d' → m ≡ m' → n ≡ n'
    → ◌≡◌ {A = Taken} (record { cut = c; decided = d; group = m; stores = n })
    (record { cut = c'; decided = d'; group = m'; stores = n' })
taken_same c d m n c' d' m' n' e f g h = cc

-- an answer told in numbers is the answer of these numbers alone
pub answer_tells : (a b : Result Taken Refusal) → answer_says a ≡ answer_says b → a ≡ b
answer_tells (Ok a) (Ok b) h =
    ap Ok (taken_same a.cut a.decided a.group a.stores b.cut b.decided b.group b.stores
    (cut_tells a.cut b.cut (ap (λ x. x.status) h))
    (ap (λ x. x.decided) h)
    (ap (λ x. x.group) h)
    (ap (λ x. x.stores) h))
answer_tells (Ok a) (Err e) h = absurd (taken_number a.cut e (ap (λ x. x.status) h))
answer_tells (Err e) (Ok b) h = absurd (taken_number b.cut e (sym (ap (λ x. x.status) h)))
answer_tells (Err e) (Err f) h = ap Err (number_tells e f (ap (λ x. x.status) h))

reply_same : (a : Result Taken Refusal) (r : Record) (b : Result Taken Refusal) (s : Record) → a ≡ b → r ≡ s
    → ◌≡◌ {A = Returned} (record { answer = a; next = r }) (record { answer = b; next = s })
reply_same a r b s e f = cc

-- and with the record that follows: an equation of `reply_says` is one of the whole reply
pub reply_tells : (r s : Returned) → reply_says r ≡ reply_says s → r ≡ s
reply_tells r s h =
    reply_same r.answer r.next s.answer s.next
    (answer_tells r.answer s.answer (ap (λ x. x.answer) h))
    (ap (λ x. x.next) h)
