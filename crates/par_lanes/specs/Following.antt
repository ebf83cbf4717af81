-- The bytes that the claims of a history take.
use Rattle.std.specs.Prelude.{◌≡◌, ℕ, ◌+◌, ◌≤◌, List, [], ◌∷◌}
use Rattle.par_lanes.specs.declared.ask.LaneAsk.{LaneAsk}
use Rattle.par_lanes.specs.declared.ask.LaneAnswer.{LaneAnswer}
use Rattle.par_lanes.specs.declared.ask.LaneAnswer.TheVariants.{Claimed, Placed}

-- The claims take consecutive ranges, from one first unused byte to another, up to a cap. Nothing else takes bytes.
abbrev pub ClaimsFollow : (cap from to : ℕ) → List (LaneAsk × LaneAnswer) → Type 0
ClaimsFollow cap from to [] = to ≡ from
ClaimsFollow cap from to ((ask, Claimed claimed) ∷ rest) = (claimed.range.start ≡ from) × (from + claimed.range.len ≤ cap) × ClaimsFollow cap (from + claimed.range.len) to rest
ClaimsFollow cap from to ((ask, Placed answer) ∷ rest) = ClaimsFollow cap from to rest
