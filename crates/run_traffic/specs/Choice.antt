-- Where the record of a chosen link lies.
use Rattle.std.specs.Prelude.{ℕ, Option, Some, None}
use Rattle.traffic.specs.Arrives.{Link, topological, dynamic, stop}

-- the fixed links have none
abbrev pub stop_place : Link → Option ℕ
stop_place topological = None
stop_place dynamic = None
stop_place (stop k s) = Some k
