-- The contract of a storing function: the puts that it makes, in order, as far as its budget reaches.
use Rattle.std.specs.Prelude.{ℕ, List, map}
use Rattle.protocol.specs.Image.{Put, raw}
use Rattle.protocol.specs.declared.Shape.{Shape}
use Rattle.store.specs.Budget.{Makes}
use Rattle.store.specs.declared.Budget.{Budget}

pub record Puts (s : Shape) (ps : List Put) (b : Budget) (before : List ℕ) (r : Budget) (after : List ℕ) : Type 0 where
  pub makes : Makes (map (raw s) ps) b before r after
