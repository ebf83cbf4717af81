use Rattle.std.proofs.Common.{◌<◌, length, arith}
use Rattle.declared_site.specs.SiteOf.{site_of}
use Rattle.run_tasks.proofs.Made.{pass_job}
use Rattle.run_tasks.proofs.prepared.pass.Goals as goal

pub returns-then-number-count-clause-made : goal.returns-then-number-count-clause-made
returns-then-number-count-clause-made g c = λ http n w ready.
    let frames = c.on_wire-count.ensures n w ready.stands in
    let below : c.args.frame < length (w.wire c.args.lane.now) = omega (arith, frames, c.from-number.ensures, c.if-number-count.true) in
    pass_job http (site_of (g.S.Acts.site c.args.net.now)) w c.args.lane.now c.args.frame c.from-number.result below c.from-number.ensures

pub returns-then-number-count-clause-allowed : goal.returns-then-number-count-clause-allowed
returns-then-number-count-clause-allowed g c = λ n w ready.
    let frames = c.on_wire-count.ensures n w ready.stands in
    (c.requires.lane, (let below : c.from-number.result < length (w.wire c.args.lane.now) = omega (arith, frames, c.if-number-count.true) in below))
