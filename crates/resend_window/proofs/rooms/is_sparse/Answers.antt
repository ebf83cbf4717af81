use Rattle.std.proofs.Common.{arith}
use Rattle.resend_window.proofs.Lists.{length_somes}
use Rattle.resend_window.proofs.rooms.is_sparse.Goals as goal

pub overflow_sub-result : goal.overflow_sub-result
overflow_sub-result g c =
    let few = length_somes c.args.list.now in
    let count = c.count_items.ensures in
    omega arith
