use Rattle.std.proofs.Common.{◌≡◌, ◌-◌, ◌≤◌, []}
use Rattle.declared_site.specs.SiteOf.{site_of}
use Rattle.run_model.specs.Lines.{blocks, has_low, has_high}
use Rattle.run_model.specs.Headline.{given_to}
use Rattle.run_lines.proofs.Looping.{Went}
use Rattle.run_lines.specs.Reporting.{IsItemLine, TookLines}
use Rattle.run_lines.proofs.blocks.bits.Given as goal

abbrev pub invariant-loop-turn : goal.invariant-loop-turn
invariant-loop-turn g l =
    let sited = g.S.Acts.site l.fn.net in
    let script = blocks (site_of sited) l.link in
    record {
      site : g.S.Acts.site l.net ≡ sited;
      armed : g.S.Acts.armed l.net ≡ g.S.Acts.armed l.fn.net;
      lined : TookLines g.W.Sink.taken g.W.Sink.pieces (IsItemLine sited.nodes) l.fn.sink l.sink [];
      later : g.W.Sink.faults l.fn.sink ≤ g.W.Sink.faults l.sink;
      went : Went g.S.Acts.stands g.S.Acts.tallied sited.nodes l.fn.net l.net (given_to g.W.Sink.taken g.W.Sink.pieces l.fn.sink) (given_to g.W.Sink.taken g.W.Sink.pieces l.sink) l.number
          (script (has_low l.fn.ends) (has_high l.fn.ends) l.count) (script l.low l.high (l.count - l._turn));
    }
