use Rattle.std.proofs.Common.{◌≡◌, length}
use Rattle.std.specs.List.{All}
use Rattle.std.specs.Vec.Iter.{into_iter_items, into_iter_len}
use Rattle.declared_site.specs.SiteOf.{site_of}
use Rattle.net_model.specs.World.{Network, World}
use Rattle.run_model.specs.Turn.{HttpTexts}
use Rattle.run_ops.specs.Acting.{IsReady}
use Rattle.run_ops.specs.Runnable.{IsBlockLineFor}
use Rattle.run_tasks.specs.Prepared.{IsAllowed}
use Rattle.run_tasks.proofs.BlockLines.{IsMade}
use Rattle.run_tasks.proofs.prepared.prepare.Given as goal

abbrev pub invariant-loop-line : goal.invariant-loop-line
invariant-loop-line g l =
    let d = g.S.Acts.site l.net in
    let left = into_iter_items l.line-iterator in
    record {
      long : into_iter_len l.line-iterator ≡ length left;
      fit : All (IsBlockLineFor d) left;
      made : (http : HttpTexts) (n : Network) (w : World) → g.H.Requests.speaks l.requests http → IsReady g.S.Acts.stands l.net n w →
          IsMade http (site_of d) w (into_iter_items l.initial.line-iterator) left l.prepared;
      allowed : (n : Network) (w : World) → IsReady g.S.Acts.stands l.net n w → All (IsAllowed (site_of d) w) l.prepared.jobs.items;
    }
