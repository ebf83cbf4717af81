-- The turns of a block's machines at their desks.
use Rattle.std.specs.Prelude.{ℕ, List}
use Rattle.declared_site.specs.SiteOf.{site_of}
use Rattle.world_state.specs.Passed.{Post}
use Rattle.turnstile.specs.Turns.{turn_of}
use Rattle.lane_shares.specs.declared.shares.Shares.{Shares}
use Rattle.lane_sender.specs.Lane.{LaneForm}
use Rattle.par_lanes.specs.declared.ask.LaneAsk.{LaneAsk}
use Rattle.par_lanes.specs.declared.ask.LaneAnswer.{LaneAnswer}
use Rattle.par_lanes.specs.Asking.{MayAsk}
use Rattle.par_lanes.specs.Turns.{desk_charter, DeskTurns}
use Rattle.par_managers.specs.declared.ask.PlanAsk.{PlanAsk}
use Rattle.par_managers.specs.declared.ask.PlanAnswer.{PlanAnswer}
use Rattle.par_managers.specs.PlanTaking.{MayCall, TookPlanTurn}
use Rattle.world_state.specs.declared.state.State.{State}
use Rattle.source_devices.specs.declared.wire.Wire as Wire
use Rattle.world_state.specs.Outside.{Outside}

-- A manager's turns. They change neither the state at the block's start, nor the node, nor the lanes' tables of shares.
abbrev pub ManagerTurns : {K Q E X D : Type 0} → (outside : Outside K Q E X) →
    (opening_of : D → State K Q E X) → (node_of up_of : D → ℕ) → (post_of : D → Post K E) → (shares_in : D → List Shares) → D → PlanAsk → PlanAnswer → D → Type 0
ManagerTurns {K} {Q} {E} {X} outside opening_of node_of up_of post_of shares_in =
    turn_of (λ d. (opening_of d, node_of d, shares_in d))
    (λ (c : State K Q E X × ℕ × List Shares) (t : PlanAsk). MayCall outside c.0 c.1 c.2 t.place t.job.now t.octets t.granted.items)
    (λ d (t : PlanAsk) (answer : PlanAnswer) n. TookPlanTurn outside.disk outside.entropy (site_of (opening_of d).site) (node_of d) (up_of d) (post_of d) (shares_in d)
    t.place t.job.now t.octets t.granted.items answer.reply answer.granted.items (up_of n) (post_of n))

-- A lane's turns. They change neither the lane, nor its bytes, nor its table of shares.
abbrev pub LaneTurns : {X L : Type 0} → (wire_says : Wire.Ghosts X) → (side_of : L → LaneForm X) → (shares_of : L → Shares) → L → LaneAsk → LaneAnswer → L → Type 0
LaneTurns wire_says side_of shares_of = turn_of (desk_charter side_of shares_of) MayAsk (DeskTurns wire_says side_of shares_of)
