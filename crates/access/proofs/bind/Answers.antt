-- `bind` meets its contract: nothing for no writer and for the board itself, else a link one way, each way or back.
use Prim.Native.Nat.{suc, ◌<◌}
use mathlib.Core.Path.{◌≡◌, ◌∙◌, ap}
use native.Mathlib.Omega.{arith}
use Rattle.boards.specs.Boards.{tag_of}
use Rattle.protocol.specs.Accesses.{bind_boards, bind_tag}
use Rattle.protocol.specs.declared.Binding.{Binding}
use Rattle.volatile.specs.Volatile.{depend}
use Rattle.volatile.specs.declared.Record.{Record}
use Rattle.access.proofs.Laws.{bind_none, bind_own, bind_other}
use Rattle.access.proofs.bind.Goals as goal
use Rattle.access.proofs.bind.Goals.{In-Some, in-TwoWay, in-Opposite}

-- the tag names this board
named : (c : In-Some) → c.args.tag ≡ suc c.in-Some.j
named c = c.writer_of.ensures ∙ ap tag_of c.in-Some.is

-- both boards are below 16
both_small : (c : In-Some) → (c.args.i < 16) × (c.in-Some.j < 16)
both_small c = (omega (arith, c.requires), omega (arith, c.requires, named c))

-- the board and another writer, whatever the kind of binding
other : (c : In-Some) → (c.args.i ≡ c.in-Some.j → ⊥) → (how : Binding)
    → bind_boards depend how c.args.state c.args.i c.in-Some.j ≡ bind_tag depend how c.args.state c.args.i c.args.tag
other c apart how = bind_other how c.args.state c.args.i _ (named c) apart

pub returns-in_default : goal.returns-in_default
returns-in_default c =
    bind_none c.args.how c.args.state c.args.i
    (c.writer_of.ensures ∙ ap tag_of c.in_default.is)

pub returns-then-i-j : goal.returns-then-i-j
returns-then-i-j c =
    bind_own c.args.how c.args.state c.args.i _ (named (goal.at.returns-then-i-j c).In-Some) c.if-i-j.true

pub depend-requires : goal.depend-requires
depend-requires c =
    let both = both_small (goal.at.depend-requires c).In-Some in (omega (arith, both), omega (arith, both))

pub returns-in-OneWay : goal.returns-in-OneWay
unfolding bind_boards
returns-in-OneWay c =
    c.depend.ensures ∙ rw c.in-OneWay.is (other (goal.at.returns-in-OneWay c).In-Some c.if-i-j.false _)

pub depend-forth-requires : goal.depend-forth-requires
depend-forth-requires c =
    let both = both_small (goal.at.depend-forth-requires c).In-Some in (omega (arith, both), omega (arith, both))

pub depend-requires-2 : goal.depend-requires-2
depend-requires-2 c =
    let both = both_small (goal.at.depend-requires-2 c).In-Some in (omega (arith, both), omega (arith, both))

-- the link back, after the one forth or by itself
pub returns : goal.returns
unfolding bind_boards
returns c =
    let back : Record → Record = λ r. depend r c.in-Some.j c.args.i in
    let linked = other (goal.at.returns c).In-Some c.if-i-j.false in
    c.depend-2.ensures
    ∙ elim c.match-how.branch [
      | in-TwoWay w ↦ ap back (w.forth-is ∙ w.depend-forth.ensures) ∙ rw w.in-TwoWay.is (linked _)
      | in-Opposite w ↦ ap back w.forth-is ∙ rw w.in-Opposite.is (linked _)
    ]
