-- The requests that a lane takes.
use Rattle.std.specs.Prelude.{◌<◌, ◌≤◌}
use Rattle.par_lanes.specs.declared.ask.LaneAsk.{LaneAsk}
use Rattle.par_lanes.specs.declared.ask.LaneAsk.TheVariants.{Claim, Put, Again}
use Rattle.par_lanes.specs.declared.charter.LaneCharter.{LaneCharter}
use Rattle.par_lanes.specs.Grants.{IsShareOf}

-- A claim takes 1 to 600 bytes and brings a grant of as many. A frame has at most 600 octets.
abbrev pub MayAsk : LaneCharter → LaneAsk → Type 0
MayAsk c (Claim need grant) = (0 < need) × (need ≤ 600) × IsShareOf c.shares need grant
MayAsk c (Put frame length) = length ≤ 600
MayAsk c (Again number frame length) = length ≤ 600
