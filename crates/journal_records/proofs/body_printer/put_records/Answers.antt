use Rattle.std.proofs.Common.{◌≡◌, ℕ, ◌+◌, ◌≤◌, ◌++◌, List, [], length, drop, take, sym, ◌∙◌, ap, subst, arith}
use Rattle.std.specs.List.{All}
use Rattle.std.proofs.lemmas.List.{drop-drop, drop_all, take_all}
use Rattle.net_model.specs.declared.record.Record.{Record}
use Rattle.journal_records.specs.Grammar.{IsRecord, rest_octets}
use Rattle.journal_records.proofs.Loops.{rest_fits, rest_end, all_written, more_records}
use Rattle.journal_records.proofs.body_printer.put_records.Goals as goal

pub put_next-requires-clause-fits : goal.put_next-requires-clause-fits
put_next-requires-clause-fits c =
    let v = c.loop-i.invariant in
    let rs = c.args.records.now in
    let fits = rest_fits c.args.into.now c.loop-i.into (rest_octets c.args.version 0 rs) (rest_octets c.args.version c.loop-i.left (drop c.loop-i.i rs)) c.args.at c.loop-i.end v.octets v.within c.requires.fits c.loop-i.auto.into in
    subst (λ (l : List Record). c.loop-i.end + length (rest_octets c.args.version c.loop-i.left l) ≤ length c.loop-i.into) (sym c.rest_of-rest.ensures) fits

pub loop-i-preserved : goal.loop-i-preserved
loop-i-preserved c =
    let v = c.loop-i.invariant in
    let rs = c.args.records.now in
    let e = c.put_next.ensures in
    let next : drop 1 (drop c.loop-i.i rs) ≡ drop (c.loop-i.i + 1) rs = drop-drop 1 c.loop-i.i rs in
    let tail : drop 1 c.rest_of-rest.result.now ≡ drop (c.loop-i.i + 1) rs = ap (λ (l : List Record). drop 1 l) c.rest_of-rest.ensures ∙ next in
    record {
      octets = ap (λ (l : List Record). take c.put_next.result.0 c.put_next.new.into ++ rest_octets c.args.version c.put_next.result.1 l) (sym tail) ∙ e.octets
          ∙ ap (λ (l : List Record). take c.loop-i.end c.loop-i.into ++ rest_octets c.args.version c.loop-i.left l) c.rest_of-rest.ensures ∙ v.octets;
      within = e.within;
      grammar = more_records rs c.loop-i.i c.loop-i-test.true v.grammar (subst (λ (l : List Record). All IsRecord (take 1 l)) c.rest_of-rest.ensures e.grammar);
    }

pub returns-clause-octets : goal.returns-clause-octets
returns-clause-octets c =
    let v = c.loop-i.invariant in
    let rs = c.args.records.now in
    let none : drop c.loop-i.i rs ≡ [] = drop_all c.loop-i.i rs c.loop-i-test.false in
    all_written c.args.into.now c.loop-i.into (rest_octets c.args.version c.loop-i.left (drop c.loop-i.i rs)) (rest_octets c.args.version 0 rs) c.args.at c.loop-i.end v.octets (rest_end c.args.version c.loop-i.left (drop c.loop-i.i rs) none) v.within c.requires.fits

pub returns-clause-grammar : goal.returns-clause-grammar
returns-clause-grammar c = subst (All IsRecord) (take_all c.loop-i.i c.args.records.now c.loop-i-test.false) c.loop-i.invariant.grammar
