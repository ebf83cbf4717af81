use Rattle.declared_site.specs.SiteOf.{site_of}
use Rattle.run_tasks.proofs.Hearing.{ledger_finishes, ledger_stops}
use Rattle.run_tasks.proofs.lines.ledger_line.Goals as goal

pub returns-in-Ok-clause-runs : goal.returns-in-Ok-clause-runs
returns-in-Ok-clause-runs g c = λ http net w ready.
    rw c.none.ensures
    (ledger_finishes g.S.Acts.stands g.S.Acts.rests g.S.Acts.tallied _ _ _ c.args.number net w _ _ http (site_of (g.S.Acts.site c.args.net.now)) c.args.lane.now (c.in-Ok.ensures.runs net w ready))

pub returns-in-Err-clause-runs : goal.returns-in-Err-clause-runs
returns-in-Err-clause-runs g c = λ http net w ready.
    ledger_stops g.S.Acts.stands g.S.Acts.rests g.S.Acts.tallied _ _ _ c.args.number net w _ _ http (site_of (g.S.Acts.site c.args.net.now)) c.args.lane.now _ (c.in-Err.ensures.runs net w ready)
