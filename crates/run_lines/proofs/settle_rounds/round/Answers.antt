use Rattle.std.proofs.Common.{◌∙◌}
use Rattle.declared_site.specs.SiteOf.{site_of}
use Rattle.run_lines.proofs.Going.{Ways}
use Rattle.run_lines.proofs.Settles.{ticks_short, round_passed}
use Rattle.run_lines.specs.Reporting.{IsItemLine}
use Rattle.run_lines.proofs.Lines.{in_lines_on}
use Rattle.run_lines.proofs.settle_rounds.round.Goals as goal

pub returns-in-Err-clause-runs : goal.returns-in-Err-clause-runs
returns-in-Err-clause-runs g c = λ next n w ready on.
    let ways : Ways g.S.Acts.stands g.S.Acts.rests g.S.Acts.tallied = record { rest = g.met.S.Acts.comes_to_rest; none = g.met.S.Acts.none_tallied; more = g.met.S.Acts.more_tallied } in
    ticks_short _ _ _ ways _ c.args.number (site_of (g.S.Acts.site c.args.net.now)) next n w _ _ _ _ _ ready (c.in-Err.ensures.runs n w ready)

pub returns-in-Ok-clause-runs : goal.returns-in-Ok-clause-runs
returns-in-Ok-clause-runs g c = λ next n w ready on.
    let ways : Ways g.S.Acts.stands g.S.Acts.rests g.S.Acts.tallied = record { rest = g.met.S.Acts.comes_to_rest; none = g.met.S.Acts.none_tallied; more = g.met.S.Acts.more_tallied } in
    let f = c.in-Ok.ensures.runs n w ready in
    let runs = c.pass_new.ensures.runs in
    let runs_here = rw c.in-Ok.ensures.site at runs in
    round_passed _ _ _ ways _ c.args.number (site_of (g.S.Acts.site c.args.net.now)) next n w _ _ _ _ ready f c.args.lanes.now c.requires.lanes c.args.before.now on _ _ c.pass_new.result
    (runs_here n w f.plays.after f.plays.ready (c.as_slice.ensures.value ∙ on.each))

pub returns-in-Ok-clause-lined : goal.returns-in-Ok-clause-lined
returns-in-Ok-clause-lined g c =
    let line = c.pass_new.ensures.lined in
    in_lines_on g.W.Sink.taken g.W.Sink.pieces (IsItemLine (g.S.Acts.site c.args.net.now).nodes) _ _ _ c.pass_new.result c.in-Ok.ensures.lined (rw c.in-Ok.ensures.site at line)
