use Rattle.std.proofs.Common.{◌∷◌, [], sym, ap, ◌∙◌, length, length-append, true, false, arith}
use Rattle.audit_text.proofs.Ends.{octets_on, lines_on}
use Rattle.audit_text.proofs.lines.scenario_end.Goals as goal

pub returns-then-is_end-clause-octets : goal.returns-then-is_end-clause-octets
returns-then-is_end-clause-octets c =
    let cut = c.in-Some.ensures in
    let on = octets_on c.loop-line.rest.now cut.0 c.in-Some.behind.now true cut.2 (sym c.if-is_end.true ∙ c.is_end.ensures cut.0 cut.1) in
    let size = ap length cut.1 ∙ length-append cut.0 (10 ∷ []) in
    omega (arith, on, size, cut.3, c.loop-line.invariant.octets)

pub loop-line-preserved : goal.loop-line-preserved
loop-line-preserved c =
    let cut = c.in-Some.ensures in
    let goes = sym c.if-is_end.false ∙ c.is_end.ensures cut.0 cut.1 in
    let octets = octets_on c.loop-line.rest.now cut.0 c.in-Some.behind.now false cut.2 goes in
    let count = lines_on c.loop-line.rest.now cut.0 c.in-Some.behind.now false cut.2 goes in
    let size = ap length cut.1 ∙ length-append cut.0 (10 ∷ []) in
    record {
      octets = omega (arith, octets, size, cut.3, c.loop-line.invariant.octets);
      count = omega (arith, count, c.loop-line.invariant.count);
      within = omega (arith, size, cut.3, c.loop-line.invariant.within);
    }
