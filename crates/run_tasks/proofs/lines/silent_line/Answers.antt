use Rattle.declared_site.specs.SiteOf.{site_of}
use Rattle.run_model.specs.Headline.{unknown}
use Rattle.run_tasks.proofs.Hearing.{line_silent, silent_finishes, silent_stops}
use Rattle.run_tasks.proofs.lines.silent_line.Goals as goal

pub returns-in-Ok-clause-runs : goal.returns-in-Ok-clause-runs
returns-in-Ok-clause-runs g c = λ http taken net w ready.
    rw c.none.ensures
    (silent_finishes g.S.Acts.stands g.S.Acts.rests g.S.Acts.tallied _ _ _ c.args.number net w taken unknown unknown _
    (line_silent http net w (site_of (g.S.Acts.site c.args.net.now)) c.args.command c.requires.silent) (c.in-Ok.ensures.runs http net w ready))

pub returns-in-Err-clause-runs : goal.returns-in-Err-clause-runs
returns-in-Err-clause-runs g c = λ http taken net w ready.
    silent_stops g.S.Acts.stands g.S.Acts.rests g.S.Acts.tallied _ _ _ c.args.number net w taken unknown unknown _ _
    (line_silent http net w (site_of (g.S.Acts.site c.args.net.now)) c.args.command c.requires.silent) (c.in-Err.ensures.runs http net w ready)
