use Rattle.std.proofs.Common.{◌≡◌, true, sym, ap, ◌∙◌, subst}
use Rattle.std.specs.Prelude.{slice_get}
use Rattle.qkd_base.specs.declared.lane.Lane.{Lane}
use Rattle.net_model.specs.Site.{Site}
use Rattle.net_model.specs.Events.{is_lane}
use Rattle.net_model.specs.Ledger.{ledger}
use Rattle.world_nodes.specs.LaneStands.{LaneStands}
use Rattle.world_state.proofs.state_reads.counts.Goals as goal

pub returns-in-Some : goal.returns-in-Some
returns-in-Some g c net w stands =
    let there = ap (slice_get c.args.state.now.lanes.items) (sym c.lane_place.ensures) ∙ c.in-Some.ensures in
    let at = subst (λ (s : Site). is_lane s c.args.lane ≡ true) (sym stands.sited) c.requires in
    let side = stands.lanes c.args.lane c.in-Some.side.now at there in
    c.counts.ensures net w stands.running (subst (λ (l : Lane). LaneStands g.X.Wire net w l c.in-Some.side.now) (sym side.lane) side) ∙ ap (ledger w) side.lane
