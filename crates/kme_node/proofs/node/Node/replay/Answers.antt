use Rattle.std.proofs.Common.{◌≡◌, List, refl, ap, ◌∙◌}
use Rattle.net_model.specs.declared.record.Record.{Record}
use Rattle.net_model.specs.Fold.{view_batch}
use Rattle.kme_node.specs.Holdings.{Holdings, view}
use Rattle.kme_node.specs.Ports.{ports_after}
use Rattle.kme_node.proofs.Applied.{held_still, kept_sees, after_batch, seen_me}
use Rattle.kme_node.proofs.Fronted.{ahead_behind}
use Rattle.kme_node.proofs.Split.{bare}
use Rattle.kme_node.proofs.node.Node.replay.Goals as goal

pub invariant_of-self-2 : goal.invariant_of-self-2
invariant_of-self-2 c =
    let sees = c.apply.ensures.seen (bare (view (record { site = c.self.inside.site; kept = c.self.inside.kept; ends = c.self.inside.ports; window = c.self.inside.window }))) (kept_sees (record { site = c.self.inside.site; kept = c.self.inside.kept; ends = c.self.inside.ports; window = c.self.inside.window }) c.room.new.self c.in_ok-room.ensures.kept) in
    record {
      held = held_still (record { site = c.self.inside.site; kept = c.self.inside.kept; ends = c.self.inside.ports; window = c.self.inside.window }) (record { site = c.self.inside.site; kept = c.apply.new.self; ends = c.replay_batch.new.ports; window = c.self.inside.window }) refl (seen_me (record { site = c.self.inside.site; kept = c.self.inside.kept; ends = c.self.inside.ports; window = c.self.inside.window }) c.args.batch c.apply.new.self sees) c.in_ok-replay_batch.ensures.lanes c.self.invariant.held;
      ahead = ahead_behind (record { site = c.self.inside.site; kept = c.self.inside.kept; ends = c.self.inside.ports; window = c.self.inside.window }) c.args.batch c.apply.new.self c.self.inside.fronts sees c.self.invariant.ahead;
    }

pub returns-clause-ok : goal.returns-clause-ok
returns-clause-ok c =
    let sees = c.apply.ensures.seen (bare (view (record { site = c.self.inside.site; kept = c.self.inside.kept; ends = c.self.inside.ports; window = c.self.inside.window }))) (kept_sees (record { site = c.self.inside.site; kept = c.self.inside.kept; ends = c.self.inside.ports; window = c.self.inside.window }) c.room.new.self c.in_ok-room.ensures.kept) in
    let ports : c.replay_batch.new.ports.ports ≡ ports_after c.args.batch c.self.inside.ports.ports = c.in_ok-replay_batch.ensures.ok ∙ ap (λ (rs : List Record). ports_after rs c.self.inside.ports.ports) c.as_slice.ensures in
    after_batch (record { site = c.self.inside.site; kept = c.self.inside.kept; ends = c.self.inside.ports; window = c.self.inside.window }) c.args.batch c.apply.new.self sees c.replay_batch.new.ports.ports ports ∙ ap (λ (h : Holdings). view_batch (view h) c.args.batch) c.self.view_is
