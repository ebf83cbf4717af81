use Rattle.std.proofs.Common.{◌≡◌, ◌+◌, ◌/◌, length, ap, ◌∙◌, arith}
use Rattle.qkd_base.specs.declared.lane.Way.TheVariants.{Up, Down}
use Rattle.qkd_base.specs.LaneBytes.{lane_len}
use Rattle.kme_base.specs.Places.{Place}
use Rattle.kme_base.proofs.Ends.{lane_bound, all_bytes}
use Rattle.kme_base.proofs.link_end.LinkEnd.blocks.Goals as goal

pub overflow_add-bytes : goal.overflow_add-bytes
overflow_add-bytes c =
    let n = length c.self.inside.segments.blocks in
    omega (arith, c.received.ensures.number, c.received-2.ensures.number, lane_bound Up n c.self.invariant.blocks, lane_bound Down n c.self.invariant.blocks)

pub overflow_cast-result : goal.overflow_cast-result
overflow_cast-result c =
    let n = length c.self.inside.segments.blocks in
    omega (arith, c.received.ensures.number, c.received-2.ensures.number, lane_bound Up n c.self.invariant.blocks, lane_bound Down n c.self.invariant.blocks)

pub returns-clause-number : goal.returns-clause-number
returns-clause-number c =
    let number = all_bytes (length c.self.inside.segments.blocks) in
    let blocks : length c.self.inside.segments.blocks ≡ length c.args.self.now.port.blocks = ap (λ (x : Place). length x.port.blocks) c.self.view_is in
    ap (λ n. (n + c.received-2.result) / 1024) c.received.ensures.number ∙ ap (λ n. (lane_len Up (length c.self.inside.segments.blocks) + n) / 1024) c.received-2.ensures.number ∙ number ∙ blocks

pub returns-clause-bound : goal.returns-clause-bound
returns-clause-bound c =
    let n = length c.self.inside.segments.blocks in
    omega (arith, c.received.ensures.number, c.received-2.ensures.number, lane_bound Up n c.self.invariant.blocks, lane_bound Down n c.self.invariant.blocks)
