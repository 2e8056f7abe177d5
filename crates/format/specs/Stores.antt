-- The stores of a format that lie between its first and its last.
use Rattle.std.specs.Prelude.{ℕ, get_or}
use Rattle.protocol.specs.Image.{header, Store}
use Rattle.protocol.specs.declared.Shape.{Shape}
use Rattle.store.specs.Budget.{one}

-- what formatting stores at an offset past 0: the header's byte, 0 past its end
abbrev pub header_store : Shape → ℕ → Store
header_store s i = one i (get_or (header s) i 0)

-- past the header that is 0
abbrev pub zero_store : ℕ → Store
zero_store i = one i 0
