use Rattle.std.proofs.Common.{ℕ, length, ap, subst, ◌∙◌}
use Rattle.std.proofs.lemmas.List.{length-replicate}
use Rattle.std.proofs.lemmas.Result.{err_from_is_err_and}
use Rattle.declared_site.specs.SiteOf.{site_of}
use Rattle.net_model.specs.Decide.{decide, random_need}
use Rattle.hop_frames.specs.Sealing.{hop_sealing}
use Rattle.journal_snapshot.specs.Snapshots.{journal_of}
use Rattle.kme_base.specs.Steps.{placings_of}
use Rattle.kme_node.specs.Holdings.{view}
use Rattle.kme_journal.specs.Spelled.{IsBody}
use Rattle.kme_journal.proofs.Held.{by_step, past, wanting}
use Rattle.kme_journal.proofs.draft.Draft.new.Goals as goal

pub returns-in_err-draft-clause-refused : goal.returns-in_err-draft-clause-refused
returns-in_err-draft-clause-refused g c = λ is_up random up as_many.
    let v = view c.args.node.now in
    let err = err_from_is_err_and c.from_residual.result c.from_residual.ensures.1 in
    rw (err.1, err.2)
    (by_step (journal_of c.args.journal.now) v (placings_of c.args.event.now) (decide (site_of c.args.node.now.site) hop_sealing is_up v random c.args.event.now) c.in_err-draft.field-0.0 (c.in_err-draft.ensures.refused is_up random up))

pub returns-then-is_past-clause-refused : goal.returns-then-is_past-clause-refused
returns-then-is_past-clause-refused g c = λ is_up random up as_many.
    let v = view c.args.node.now in
    let draft = c.in_ok-draft.draft in
    past (record { fills = c.law_fill_over_other_octets.ensures; groups = c.law_group_fill_over_other_octets.ensures; feeds = c.law_feed_over_other_octets.ensures })
    (site_of c.args.node.now.site) is_up v c.args.event.now (journal_of c.args.journal.now) draft.random.items random draft.step draft.body c.length-then-is_past.result c.length.result c.added-more.result c.is_past.result
    (ap length c.in_ok-draft.ensures.zeros ∙ length-replicate (random_need v c.args.event.now) 0) as_many (c.in_ok-draft.ensures.step is_up up)
    (subst (λ (n : ℕ). IsBody n draft.step.batch draft.body) c.version.ensures c.in_ok-draft.ensures.ready.body)
    c.length-then-is_past.ensures c.length.ensures c.added-more.ensures c.is_past.ensures c.if-is_past.true

pub returns-in-Err-clause-refused : goal.returns-in-Err-clause-refused
returns-in-Err-clause-refused g c = λ is_up random up as_many.
    wanting (site_of c.args.node.now.site) is_up (view c.args.node.now) c.args.event.now (journal_of c.args.journal.now) c.in_ok-draft.draft.random.items random c.in_ok-draft.draft.step (c.in_ok-draft.ensures.step is_up up)
