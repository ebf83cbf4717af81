use Rattle.std.proofs.Common.{◌∙◌, subst, ap}
use Rattle.declared_site.specs.declared.site.Site.{Site as SiteValue}
use Rattle.net_model.specs.Site.{Site}
use Rattle.run_model.specs.Lines.{ticked}
use Rattle.run_ops.specs.Acting.{Begins, Plays}
use Rattle.run_lines.proofs.Going.{Ways, begins_stop, plays_told}
use Rattle.run_lines.proofs.manager_lines.tick.Goals as goal

pub returns-in-Err-clause-runs : goal.returns-in-Err-clause-runs
returns-in-Err-clause-runs g c = λ net w ready.
    let ways : Ways g.S.Acts.stands g.S.Acts.rests g.S.Acts.tallied = record { rest = g.met.S.Acts.comes_to_rest; none = g.met.S.Acts.none_tallied; more = g.met.S.Acts.more_tallied } in
    let sited = g.met.S.Acts.is_sited c.args.net.now net w ready.stands in
    begins_stop _ _ _ ways _ c.args.number net _ _ _ w _
    (subst (λ (s : Site). Begins g.S.Acts.rests g.S.Acts.tallied c.args.net.now c.tick.new.self net w (ticked s c.args.quiet c.args.node)) sited (c.in-Err.ensures.left net w ready))

pub returns-in-Ok-clause-runs : goal.returns-in-Ok-clause-runs
returns-in-Ok-clause-runs g c = λ net w ready.
    let ways : Ways g.S.Acts.stands g.S.Acts.rests g.S.Acts.tallied = record { rest = g.met.S.Acts.comes_to_rest; none = g.met.S.Acts.none_tallied; more = g.met.S.Acts.more_tallied } in
    let sited = g.met.S.Acts.is_sited c.args.net.now net w ready.stands in
    plays_told _ _ _ ways _ c.args.number net _ _ _ _ w _ _ _ _ _
    (subst (λ (s : Site). Plays g.S.Acts.stands g.S.Acts.tallied c.args.net.now c.tick.new.self net w (ticked s c.args.quiet c.args.node) c.in-Ok.items) sited (c.in-Ok.ensures.done net w ready))
    c.as_slice.ensures (ap (λ (s : SiteValue). s.nodes) (c.declared.ensures ∙ c.in-Ok.ensures.site)) c.write_items.ensures.wrote
