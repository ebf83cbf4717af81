use Rattle.std.proofs.Common.{◌∙◌, refl, sym, ap}
use Rattle.declared_site.specs.declared.site.Site.{Site as SiteValue}
use Rattle.run_model.specs.Outcomes.{ledger_items}
use Rattle.run_lines.proofs.Going.{Ways, asked_looked}
use Rattle.run_lines.proofs.manager_lines.ledger.Goals as goal

pub returns-clause-runs : goal.returns-clause-runs
returns-clause-runs g c = λ net w ready.
    let ways : Ways g.S.Acts.stands g.S.Acts.rests g.S.Acts.tallied = record { rest = g.met.S.Acts.comes_to_rest; none = g.met.S.Acts.none_tallied; more = g.met.S.Acts.more_tallied } in
    let done = c.ask-reply.ensures.done net w ready in
    asked_looked _ _ _ ways _ c.args.number net _ _ _ _ w _ _ (ledger_items c.args.lane.now) _ _ _ (rw (c.sender-node.ensures, c.declared.ensures) at done) refl
    (λ after at. c.ledger_item-item.ensures after (sym (c.counts-counts.ensures net after at))) (ap (λ (s : SiteValue). s.nodes) (c.declared-2.ensures ∙ c.ask-reply.ensures.site)) c.write_some.ensures.wrote
