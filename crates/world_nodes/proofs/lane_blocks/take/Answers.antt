use Rattle.std.proofs.Common.{sym, ap, ◌∙◌}
use Rattle.world_nodes.specs.Taking.{is_of_way}
use Rattle.world_nodes.proofs.Taking.{has_room, wire_after, other_way, own_way, ok_then, either_way}
use Rattle.world_nodes.proofs.lane_blocks.take.Goals as goal

pub take-requires : goal.take-requires
take-requires g c =
    let a = c.requires.asked in
    let of_way = ap (λ l. is_of_way l.way c.args.number) (sym c.lane.ensures) ∙ sym c.is_of_lane.ensures ∙ c.if-is_of_lane.true in
    record { few = has_room g.X.Wire a.0 a.1 c.args.side.now c.args.number c.args.block.now a.2 of_way }

pub returns-then-is_of_lane-clause-ok : goal.returns-then-is_of_lane-clause-ok
returns-then-is_of_lane-clause-ok g c =
    let of_way = ap (λ l. is_of_way l.way c.args.number) (sym c.lane.ensures) ∙ sym c.is_of_lane.ensures ∙ c.if-is_of_lane.true in
    ok_then c.take.result c.take.ensures.ok (λ is net w w' m t. own_way g.X.Wire net w c.args.side.now c.args.number c.args.block.now m w' t of_way c.take.new.self is)

pub returns-then-is_of_lane-clause-wire : goal.returns-then-is_of_lane-clause-wire
returns-then-is_of_lane-clause-wire g c net w w' m t =
    wire_after g.X.Wire net w c.args.side.now c.args.number c.args.block.now m w' t c.take.new.self.wire
    (either_way c.take.result c.take.ensures.ok c.take.ensures.err (λ is. ap (λ s. s.wire) is) (λ is. ap (λ s. s.wire) is))

pub returns-else-is_of_lane-clause-ok : goal.returns-else-is_of_lane-clause-ok
returns-else-is_of_lane-clause-ok g c net w w' m t =
    let other = ap (λ l. is_of_way l.way c.args.number) (sym c.lane.ensures) ∙ sym c.is_of_lane.ensures ∙ c.if-is_of_lane.false in
    other_way g.X.Wire net w c.args.side.now c.args.number c.args.block.now m w' t other

pub returns-else-is_of_lane-clause-wire : goal.returns-else-is_of_lane-clause-wire
returns-else-is_of_lane-clause-wire g c net w w' m t =
    let other = ap (λ l. is_of_way l.way c.args.number) (sym c.lane.ensures) ∙ sym c.is_of_lane.ensures ∙ c.if-is_of_lane.false in
    (other_way g.X.Wire net w c.args.side.now c.args.number c.args.block.now m w' t other).wire

pub returns-then-is_of_lane-clause-kept : goal.returns-then-is_of_lane-clause-kept
returns-then-is_of_lane-clause-kept g c = either_way c.take.result c.take.ensures.ok c.take.ensures.err (λ is. ap (λ s. s.wire) is) (λ is. ap (λ s. s.wire) is)
