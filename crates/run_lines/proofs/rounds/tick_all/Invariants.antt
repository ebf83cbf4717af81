use Rattle.std.proofs.Common.{◌≡◌, ◌≤◌, drop, []}
use Rattle.declared_site.specs.SiteOf.{site_of}
use Rattle.net_model.specs.Site.{count_up}
use Rattle.run_model.specs.Lines.{ticks}
use Rattle.run_model.specs.Headline.{given_to}
use Rattle.run_lines.proofs.Looping.{Went}
use Rattle.run_lines.specs.Reporting.{IsItemLine, TookLines}
use Rattle.run_lines.proofs.rounds.tick_all.Given as goal

abbrev pub invariant-loop-place : goal.invariant-loop-place
invariant-loop-place g l =
    let sited = g.S.Acts.site l.fn.net in
    record {
      site : g.S.Acts.site l.net ≡ sited;
      armed : g.S.Acts.armed l.net ≡ g.S.Acts.armed l.fn.net;
      lined : TookLines g.W.Sink.taken g.W.Sink.pieces (IsItemLine sited.nodes) l.fn.sink l.sink [];
      later : g.W.Sink.faults l.fn.sink ≤ g.W.Sink.faults l.sink;
      went : Went g.S.Acts.stands g.S.Acts.tallied sited.nodes l.fn.net l.net (given_to g.W.Sink.taken g.W.Sink.pieces l.fn.sink) (given_to g.W.Sink.taken g.W.Sink.pieces l.sink) l.number
          (ticks (site_of sited) (count_up (site_of sited).nodes)) (ticks (site_of sited) (drop l.place (count_up (site_of sited).nodes)));
    }
