use Rattle.declared_site.specs.SiteOf.{site_of}
use Rattle.run_ops.specs.Reported.{reported}
use Rattle.run_lines.proofs.Turning.{asked_fits, asked_script}
use Rattle.run_lines.proofs.commands.act_once.Goals as goal

pub ask-requires-clause-fit : goal.ask-requires-clause-fit
ask-requires-clause-fit g c =
    let turn = c.in-Ok.ensures.turn in
    asked_fits (g.S.Acts.site c.args.net.now) c.args.command c.in-Ok.asked.node c.in-Ok.asked.event (reported c.in-Ok.asked.reporting) c.requires.fit
    (rw c.declared.ensures at turn)

pub returns-in-Ok-clause-runs : goal.returns-in-Ok-clause-runs
returns-in-Ok-clause-runs g c = λ http.
    let turn = c.in-Ok.ensures.turn in
    let turn_here = rw c.declared.ensures at turn in
    rw (asked_script http (site_of (g.S.Acts.site c.args.net.now)) c.args.command c.in-Ok.asked.node c.in-Ok.asked.event (reported c.in-Ok.asked.reporting) c.requires.once turn_here) c.ask.ensures.runs
