use Rattle.std.proofs.Common.{◌∙◌, sym, ap}
use Rattle.net_model.specs.declared.record.Record.{Record}
use Rattle.net_model.specs.Fold.{view_record}
use Rattle.kme_facts.specs.Needs.{kept_view}
use Rattle.kme_facts.proofs.Taken.{acked_view, bare_view, block_view, lease_view}
use Rattle.kme_facts.proofs.record_effects.take.Goals as goal

pub returns-in-Bare-clause-view : goal.returns-in-Bare-clause-view
returns-in-Bare-clause-view c =
    c.learn-in-Bare.ensures.view ∙ sym (bare_view c.args.streams.now c.in-Bare.fact) ∙ ap (λ (r : Record). view_record r (kept_view c.args.streams.now)) (sym c.in-Bare.is)

pub returns-in-Acked-clause-view : goal.returns-in-Acked-clause-view
returns-in-Acked-clause-view c =
    let e = c.acknowledge.ensures in
    acked_view c.args.streams.now c.acknowledge.new.self c.in-Acked.name e.acked e.known.0 e.known.1 e.marks.0 e.marks.2
    ∙ ap (λ (r : Record). view_record r (kept_view c.args.streams.now)) (sym c.in-Acked.is)

pub returns-in-Block-clause-view : goal.returns-in-Block-clause-view
returns-in-Block-clause-view c =
    block_view c.args.streams.now c.in-Block.link c.in-Block.number c.in-Block.bytes ∙ ap (λ (r : Record). view_record r (kept_view c.args.streams.now)) (sym c.in-Block.is)

pub returns-clause-view : goal.returns-clause-view
returns-clause-view c =
    lease_view c.args.streams.now c.in-Lease.lane c.in-Lease.end ∙ ap (λ (r : Record). view_record r (kept_view c.args.streams.now)) (sym c.in-Lease.is)
