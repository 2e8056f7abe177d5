-- What a call that is not refused does of its plan under a budget of k stores.
use Rattle.std.specs.Prelude.{ℕ, ◌≡◌, List}
use Rattle.protocol.specs.Calls.{Plan, carried_out}
use Rattle.protocol.specs.declared.Shape.{Shape}
use Rattle.protocol.specs.Replies.{reply_says}
use Rattle.protocol.specs.declared.Reply.{Reply}

-- the answer with the next record, and every byte of the image afterwards
pub record Executed (s : Shape) (p : Plan) (k : ℕ) (before : List ℕ) (r : Reply) (after : List ℕ) : Type 0 where
  pub reply : reply_says r ≡ (carried_out s p k before).reply
  pub image : after ≡ (carried_out s p k before).image
