-- What the history of a lane's desk says of the lane.
use Rattle.std.proofs.Common.{◌≡◌, List, [], ◌∷◌, ap, sym, ◌∙◌, subst}
use Rattle.turnstile.specs.Turns.{turn_of, Leads}
use Rattle.lane_shares.specs.declared.shares.Shares.{Shares}
use Rattle.lane_shares.specs.Names.{lane_cap}
use Rattle.lane_sender.specs.Lane.{LaneForm}
use Rattle.par_lanes.specs.declared.ask.LaneAsk.{LaneAsk}
use Rattle.par_lanes.specs.declared.ask.LaneAnswer.{LaneAnswer}
use Rattle.par_lanes.specs.declared.charter.LaneCharter.{LaneCharter}
use Rattle.par_lanes.specs.Asking.{MayAsk}
use Rattle.par_lanes.specs.Turns.{Turns, desk_charter, DeskTurns}
use Rattle.source_devices.specs.declared.wire.Wire as Wire

module _ {D X : Type 0} (wire_says : Wire.Ghosts X) (side : D → LaneForm X) (shares : D → Shares) where
  abbrev pub desk_turn : D → LaneAsk → LaneAnswer → D → Type 0
  desk_turn = turn_of (desk_charter side shares) MayAsk (DeskTurns wire_says side shares)

  -- A history of desks is a history of their lanes.
  pub lane_leads : (m n : D) (log : List (LaneAsk × LaneAnswer)) → Leads desk_turn m log n → Leads (Turns wire_says (lane_cap (shares m))) (side m) log (side n)
  lane_leads m n [] h = ap side h
  lane_leads m n (e ∷ es) h =
      (side h.0, h.1.1, subst (λ (s : Shares). Leads (Turns wire_says (lane_cap s)) (side h.0) es (side n)) (ap (λ (c : LaneCharter). c.shares) h.1.2) (lane_leads h.0 n es h.2))

  -- No history changes the desk's charter.
  pub charter_kept : (m n : D) (log : List (LaneAsk × LaneAnswer)) → Leads desk_turn m log n → desk_charter side shares n ≡ desk_charter side shares m
  charter_kept m n [] h = ap (desk_charter side shares) (sym h)
  charter_kept m n (e ∷ es) h = charter_kept h.0 n es h.2 ∙ h.1.2
