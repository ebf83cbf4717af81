use Rattle.std.proofs.Common.{◌++◌, List, ℕ, length, drop, replicate, ap, arith}
use Rattle.qkd_base.proofs.Routes.{is_room, first_at, two_of}
use Rattle.qkd_base.proofs.route.in_room.Goals as goal

pub invariant_of-result : goal.invariant_of-result
invariant_of-result c =
    is_room c.args.nodes.now _ c.index-nodes-0.result c.requires.route c.requires.in_range
    (first_at c.args.nodes.now c.index-nodes-0.result (omega (arith, two_of c.args.nodes.now c.requires.route)) c.index-nodes-0.is)
    (ap (λ (prefix : List ℕ). prefix ++ drop (length c.args.nodes.now) (replicate 9 c.index-nodes-0.result)) c.copy_from_slice.ensures.after)
