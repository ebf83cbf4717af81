use Rattle.std.proofs.Common.{◌≡◌, ◌≤◌, ◌-◌, []}
use Rattle.net_model.specs.World.{Network, World}
use Rattle.declared_site.specs.SiteOf.{site_of}
use Rattle.run_model.specs.Lines.{settle}
use Rattle.run_model.specs.Headline.{given_to}
use Rattle.run_ops.specs.Acting.{IsReady}
use Rattle.run_lines.specs.Counting.{AreOn}
use Rattle.run_lines.specs.Going.{Reached}
use Rattle.run_lines.specs.Reporting.{IsItemLine, TookLines}
use Rattle.run_lines.proofs.settle_rounds.settle.Given as goal

abbrev pub invariant-loop-turn : goal.invariant-loop-turn
invariant-loop-turn g l =
    let sited = g.S.Acts.site l.fn.net in
    record {
      site : g.S.Acts.site l.net ≡ sited;
      armed : g.S.Acts.armed l.net ≡ g.S.Acts.armed l.fn.net;
      lined : TookLines g.W.Sink.taken g.W.Sink.pieces (IsItemLine sited.nodes) l.fn.sink l.sink [];
      later : g.W.Sink.faults l.fn.sink ≤ g.W.Sink.faults l.sink;
      went : (n : Network) (w : World) → IsReady g.S.Acts.stands l.fn.net n w → (after : World)
          × Reached g.S.Acts.stands g.S.Acts.tallied sited.nodes l.fn.net l.net (given_to g.W.Sink.taken g.W.Sink.pieces l.fn.sink) (given_to g.W.Sink.taken g.W.Sink.pieces l.sink) l.number n w
          (settle (site_of sited) l.rounds) after (settle (site_of sited) (l.rounds - l._turn))
          × AreOn l.lanes.items after l.frames;
    }
