-- `read_behind` meets its contract: the held characters lie before what is read.
use Rattle.std.proofs.Common.{◌+◌, ◌≤◌, sym, ◌∙◌, length, arith, rules}
use Rattle.std.proofs.lemmas.Slice.{take-put_mid_below}
use Rattle.stream.proofs.Texts.{read_most}
use Rattle.stream.proofs.read_behind.Goals as goal

pub returns : goal.returns
returns g c =
    let args = c.args in
    let l : args.held ≤ length args.input.now = omega (arith, c.requires) in
    let size : args.held + length c.read-read.new.buf ≤ length args.input.now = search rules in
    record {
      same = take-put_mid_below args.held _ args.input.now _ args.held (omega arith) l;
      within = λ end e.
          let most =
          read_most c.read-read.result c.map.result c.read-read.new.buf args.held (length args.input.now) size
          c.read-read.ensures.bound c.map.ensures.cases (λ n end p. search rules) end (sym c.meaning_of.ensures ∙ e)
          in
          search rules;
    }
