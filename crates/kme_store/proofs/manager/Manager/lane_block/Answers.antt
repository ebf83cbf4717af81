use Rattle.std.proofs.Common.{ℕ, ◌+◌, ◌*◌, List, length, take, drop, ap, ◌∙◌}
use Rattle.std.specs.Prelude.{◌==◌, nat_le, find}
use Rattle.qkd_base.specs.LaneBytes.{lane_octets}
use Rattle.net_model.specs.View.{Port, port_of, incoming_octets}
use Rattle.kme_base.specs.Places.{LinkEnds}
use Rattle.kme_store.specs.Manager.{ManagerForm}
use Rattle.kme_store.proofs.manager.Manager.lane_block.Goals as goal

pub returns-in-Some-clause-has : goal.returns-in-Some-clause-has
returns-in-Some-clause-has g c =
    let lane = c.args.lane in
    c.copy_block.ensures.has ∙ ap (λ (bytes : List ℕ). nat_le (1024 * c.args.number + 1024) (length bytes))
    (ap (λ (bs : List (List ℕ)). lane_octets lane.way bs) c.segments.ensures
    ∙ ap (incoming_octets lane) c.in-Some.ensures ∙ ap (λ (ends : LinkEnds). incoming_octets lane (find (λ (p : Port). p.lane.link == lane.link) ends.ports)) c.ports.ensures
    ∙ ap (λ (m : ManagerForm _ _). incoming_octets lane (port_of m.view lane.link)) c.self.view_is)

pub returns-in-Some-clause-block : goal.returns-in-Some-clause-block
returns-in-Some-clause-block g c = λ yes.
    let lane = c.args.lane in
    c.copy_block.ensures.block yes ∙ ap (λ (bytes : List ℕ). take 1024 (drop (1024 * c.args.number) bytes))
    (ap (λ (bs : List (List ℕ)). lane_octets lane.way bs) c.segments.ensures
    ∙ ap (incoming_octets lane) c.in-Some.ensures ∙ ap (λ (ends : LinkEnds). incoming_octets lane (find (λ (p : Port). p.lane.link == lane.link) ends.ports)) c.ports.ensures
    ∙ ap (λ (m : ManagerForm _ _). incoming_octets lane (port_of m.view lane.link)) c.self.view_is)
