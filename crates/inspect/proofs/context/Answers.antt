-- `inspect::context` meets its contract: a refusal answers no bytes.
use borrow.Author.Rules.{rules}
use Rattle.protocol.specs.Calls.{context_part}
use Rattle.inspect.proofs.context.Goals as goal

pub returns-in-Err : goal.returns-in-Err
unfolding context_part
returns-in-Err c = search rules
