-- When the call is refused, said by another one (document 02, Req 07 beside Req 02).
use Rattle.std.specs.Prelude.{ℕ, ◌≡◌, List}
use Rattle.volatile.specs.declared.Record.{Record}
use Rattle.costs.specs.Forecasts.{commit_forecast}
use Rattle.order.specs.Call.{order_status}

-- Any image and record: the order is refused as the commit forecast of board 0, which is below P in every header in
-- order, and so as that board's start with a context of K bytes.
abbrev pub RefusedAsForecast : Type 0
RefusedAsForecast = (image : List ℕ) (r : Record) → order_status image r ≡ (commit_forecast image r 0).status
