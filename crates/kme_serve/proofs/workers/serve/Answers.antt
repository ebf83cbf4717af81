use Rattle.std.proofs.Common.{ℕ, ◌%◌, arith}
use Rattle.std.proofs.lemmas.Option.{slice_get_within}
use Rattle.kme_serve.specs.Workers.{MayServe, door_told}
use Rattle.kme_serve.proofs.OneJob.{one_of, each_done}
use Rattle.kme_serve.proofs.workers.serve.Goals as goal

pub run_block-requires-clause-fits : goal.run_block-requires-clause-fits
run_block-requires-clause-fits g c κs within = λ w p here.
    one_of
    (λ (job : ℕ). MayServe {P = g.row.M-Pass.Denot} (g.M.Managers.fits c.args.managers.now) (g.M.Managers.budget c.args.managers.now (job % c.args.nodes))
    (g.M.Managers.takes c.args.managers.now (job % c.args.nodes)) c.args.api.now.entitlements (job % c.args.nodes) c.args.connections p.pass
    (door_told g.D.Listener.port g.D.Listener.accepted g.D.Listener.finished g.D.Listener.waiting g.D.Listener.done p.door))
    w _ _ (omega (arith, c.len-count.ensures)) (slice_get_within c.args.workers.items w p here) (c.requires.may w p here)

pub returns-then-all_came-clause-served : goal.returns-then-all_came-clause-served
returns-then-all_came-clause-served g c = λ done w v t here there.
    (each_done _ c.args.workers.items c.in-Ok.field-0.passes.items _ c.in-Ok.field-0.answers.items (omega (arith, c.len-count.ensures)) c.in-Ok.ensures.done w v t here there).1

pub returns-else-all_came-clause-served : goal.returns-else-all_came-clause-served
returns-else-all_came-clause-served g c = λ done w v t here there.
    (each_done _ c.args.workers.items c.in-Ok.field-0.passes.items _ c.in-Ok.field-0.answers.items (omega (arith, c.len-count.ensures)) c.in-Ok.ensures.done w v t here there).1
