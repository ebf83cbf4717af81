use Rattle.std.proofs.lemmas.Result.{err_from_is_err_and}
use Rattle.declared_site.specs.SiteOf.{site_of}
use Rattle.hop_frames.specs.Sealing.{hop_sealing}
use Rattle.kme_base.specs.Steps.{placings_of}
use Rattle.kme_node.specs.Holdings.{view}
use Rattle.kme_journal.proofs.Decided.{wanted_alike}
use Rattle.kme_journal.proofs.draft.prepared.Goals as goal

pub returns-in_err-step-clause-refused : goal.returns-in_err-step-clause-refused
returns-in_err-step-clause-refused c = λ is_up random up.
    let err = err_from_is_err_and c.from_residual.result c.from_residual.ensures.1 in
    rw (err.1, err.2) (c.in_err-step.ensures.refused is_up random up)

pub returns-in-Err-clause-refused : goal.returns-in-Err-clause-refused
returns-in-Err-clause-refused c = λ is_up random up.
    wanted_alike (site_of c.args.node.now.site) hop_sealing is_up (view c.args.node.now) (placings_of c.args.event.now) c.in_ok-step.random.items random c.args.event.now c.in_ok-step.step (c.in_ok-step.ensures.step is_up up)

pub returns-in-Err-body_for-clause-refused : goal.returns-in-Err-body_for-clause-refused
returns-in-Err-body_for-clause-refused c = λ is_up random up.
    wanted_alike (site_of c.args.node.now.site) hop_sealing is_up (view c.args.node.now) (placings_of c.args.event.now) c.in_ok-step.random.items random c.args.event.now c.in_ok-step.step (c.in_ok-step.ensures.step is_up up)
