-- `last_step` meets its contract: nothing, or one line.
use mathlib.Core.Path.{sym, ◌∙◌}
use native.Mathlib.Omega.{arith}
use Rattle.text.specs.Whole.{lines}
use Rattle.pieces.proofs.Lines.{exhausted, output_none}
use Rattle.reports.specs.Reports.{reporting}
use Rattle.reports.specs.Tasks.{state_of}
use Rattle.reports.proofs.Laws.{ends_steps}
use Rattle.rest.proofs.Last.{last_played}
use Rattle.rest.proofs.last_step.Goals as goal

pub returns-then-rest-eq0 : goal.returns-then-rest-eq0
unfolding reporting
returns-then-rest-eq0 c =
    let w = state_of c.args.task c.args.area.now in
    record {
      output = output_none reporting w c.args.rest.now c.if-rest-eq0.true;
      written = omega arith;
      fits = c.requires.1;
    }

pub returns-then-not-goes_on : goal.returns-then-not-goes_on
unfolding reporting
returns-then-not-goes_on c =
    let w = state_of c.args.task c.args.area.now in
    let over = sym (c.goes_on.ensures c.args.area.now) ∙ c.if-not-goes_on.true in
    record {
      output = exhausted reporting w (λ l. ends_steps w l over) (lines c.args.rest.now);
      written = omega arith;
      fits = c.requires.1;
    }

pub returns : goal.returns
returns c =
    let going = sym (c.goes_on.ensures c.args.area.now) ∙ c.if-not-goes_on.false in
    record {
      output =
          last_played (state_of c.args.task c.args.area.now) c.args.rest.now c.if-rest-eq0.false
          going c.requires.0 c.step.ensures;
      written = c.step.ensures.most;
      fits = c.step.ensures.fits;
    }
