-- What a call answers, in the numbers of document 01, and what the module's answers are in these ("An answer may be an
-- enum").
use Rattle.std.specs.Prelude.{ℕ, Bool, false, cond, Result, Ok, Err}
use Rattle.volatile.specs.declared.Record.{Record}
use Rattle.protocol.specs.declared.Refusal.{Refusal}
use Rattle.protocol.specs.declared.Answer.{Answer as Taken}
use Rattle.protocol.specs.declared.Reply.{Reply as Returned}
use Rattle.protocol.specs.declared.Refusal.TheVariants.{NoSuchBoard, OutOfRange, WrongContext, ShapeNotAllowed}
use Rattle.protocol.specs.declared.Refusal.TheVariants.{WrongLength, Unreadable, Disordered, RecordDisordered, Engaged}
use Rattle.protocol.specs.declared.Refusal.TheVariants.{CommitOpen, NoMember, Acknowledged, OverPortLimit, PageFull}
use Rattle.protocol.specs.declared.Refusal.TheVariants.{AllCommitsOpen, NoCounterpart, BadPlan}

-- the number of a refusal ("Refusals that come from the input", "Refusals that come from the state"; 17: document 02,
-- Req 03; 18: Req 05; 19: Req 08; 20: Req 10; 21: Req 12)
abbrev pub refusal_number : Refusal → ℕ
refusal_number NoSuchBoard = 1
refusal_number OutOfRange = 2
refusal_number WrongContext = 3
refusal_number ShapeNotAllowed = 4
refusal_number WrongLength = 5
refusal_number Unreadable = 6
refusal_number Disordered = 11
refusal_number RecordDisordered = 12
refusal_number Engaged = 13
refusal_number CommitOpen = 14
refusal_number NoMember = 15
refusal_number Acknowledged = 16
refusal_number OverPortLimit = 17
refusal_number PageFull = 18
refusal_number AllCommitsOpen = 19
refusal_number NoCounterpart = 20
refusal_number BadPlan = 21

-- 0 for done, 9 for cut or the number of the refusal; whether a commit was decided; the members of the commit or the
-- boards rolled back; how many bytes were stored
pub record Answer : Type 0 where
  pub status : ℕ
  pub decided : Bool
  pub group : ℕ
  pub stores : ℕ

-- with the record that follows
pub record Reply : Type 0 where
  pub answer : Answer
  pub next : Record

-- a refusal: its number, zero and no for the rest
abbrev pub refusal_answer : ℕ → Answer
refusal_answer n = record { status = n; decided = false; group = 0; stores = 0 }

abbrev pub answer_says : Result Taken Refusal → Answer
answer_says (Ok a) = record { status = cond a.cut 9 0; decided = a.decided; group = a.group; stores = a.stores }
answer_says (Err e) = refusal_answer (refusal_number e)

abbrev pub reply_says : Returned → Reply
reply_says r = record { answer = answer_says r.answer; next = r.next }
