-- What the calls promise, as equations with the definitions of the protocol, and how an answer comes of a budget.
use Rattle.std.specs.Prelude.{ℕ, ◌-◌, ◌≡◌, Bool, cond, List}
use Rattle.volatile.specs.Volatile.{off}
use Rattle.protocol.specs.Calls.{Request, perform, filled, format}
use Rattle.protocol.specs.declared.Shape.{Shape}
use Rattle.volatile.specs.declared.Record.{Record}
use Rattle.protocol.specs.Replies.{Reply, reply_says}
use Rattle.protocol.specs.declared.Reply.{Reply as Returned}
use Rattle.store.specs.declared.Budget.{Budget}

-- a storing call: the whole answer with the next record, and every byte of the image afterwards
pub record Performed (request : Request) (k : ℕ) (before : List ℕ) (state : Record) (r : Returned)
    (after : List ℕ) : Type 0
  where
    pub reply : reply_says r ≡ (perform before state request k).reply
    pub image : after ≡ (perform before state request k).image

-- a read, which makes no stores and so is the same for every budget: the answer, and every byte of the answer
-- buffer afterwards
pub record Answered (request : Request) (image : List ℕ) (state : Record) (before : List ℕ) (r : Returned)
    (after : List ℕ) : Type 0
  where
    pub reply : (k : ℕ) → reply_says r ≡ (perform image state request k).reply
    pub buffer : (k : ℕ) → after ≡ filled (perform image state request k).bytes before

-- a format
pub record Formatted (s : Shape) (before : List ℕ) (state : Record) (k : ℕ) (r : Returned) (after : List ℕ) : Type 0
  where
    pub reply : reply_says r ≡ (format s before state k).reply
    pub image : after ≡ (format s before state k).image

-- the answer of a call with budget k of which r is left: cut or done
unfoldable pub reply_of : ℕ → Budget → Bool → ℕ → Record → Reply
reply_of k r decided group next =
    record {
      answer = record {
        status = cond r.cut 9 0;
        decided = decided;
        group = cond r.cut 0 group;
        stores = k - r.left;
      };
      next = cond r.cut off next;
    }
