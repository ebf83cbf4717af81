use Rattle.std.proofs.Common.{ℕ, arith, replicate, length-take}
use Rattle.journal_snapshot.proofs.Openings.{head_read}
use Rattle.journal_snapshot.proofs.snapshot_open.read_head.Goals as goal

pub returns-in-Ok-clause-head : goal.returns-in-Ok-clause-head
returns-in-Ok-clause-head g c =
    λ h k lt.
    head_read (g.K.Disk.content c.args.disk.now) c.read.new.into c.args.size c.min-count.result _ (c.requires h) c.min-count.ensures
    (omega (arith, c.min-count.ensures, length-take {A = ℕ} c.min-count.result (replicate 50 0))) (c.in-Ok.ensures.bytes h) k lt
