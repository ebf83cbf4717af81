use Rattle.std.proofs.Common.{◌+◌, ◌-◌, ◌*◌, ◌≤◌, vec_len, vec_capacity}
use Rattle.block_run.specs.Jobs.{jobs_from, Chains}
use Rattle.block_run.proofs.worker.work_through.Given as goal

abbrev pub invariant-loop-turn : goal.invariant-loop-turn
invariant-loop-turn g l = record {
  room : vec_len l.answers + (l.count - l.turn) ≤ vec_capacity l.answers;
  done : Chains (g.T.Work.gives l.work) (jobs_from l.worker l.workers l.turn) l.fn.pass l.answers.items l.pass;
  fits : g.T.Work.fits l.work l.pass (jobs_from (l.worker + l.turn * l.workers) l.workers (l.count - l.turn));
}
