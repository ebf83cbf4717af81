use Rattle.std.proofs.Common.{length, ap, arith}
use Rattle.thread_tests.proofs.machines.each_call_is_made_once.Goals as goal

pub index-requires : goal.index-requires
index-requires g c = omega (arith, c.in-Ok-work_together.after.ok.0, c.in-Ok-work_together.ensures.ok.same, c.in-Ok.ensures.machines)

pub index-requires-in-Ok-work_together : goal.index-requires-in-Ok-work_together
index-requires-in-Ok-work_together g c = omega (arith, c.in-Ok-work_together.after.ok.0, c.in-Ok-work_together.ensures.ok.same, c.in-Ok.ensures.machines)

pub index-requires-in-Err : goal.index-requires-in-Err
index-requires-in-Err g c = omega (arith, c.in-Err.before.ok.0, ap length c.in-Err.ensures.err, c.in-Ok.ensures.machines)

pub index-requires-in-Err-2 : goal.index-requires-in-Err-2
index-requires-in-Err-2 g c = omega (arith, c.in-Err.before.ok.0, ap length c.in-Err.ensures.err, c.in-Ok.ensures.machines)
