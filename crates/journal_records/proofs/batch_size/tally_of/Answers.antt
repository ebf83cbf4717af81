use Rattle.std.proofs.Common.{◌≡◌, List, [], drop, ap, arith}
use Rattle.std.proofs.lemmas.List.{drop_all}
use Rattle.net_model.specs.Journal.{spelled_after}
use Rattle.net_model.specs.declared.record.Record.{Record}
use Rattle.journal_records.specs.Grammar.{begun}
use Rattle.journal_records.proofs.Groups.{spelled_end, begun_end}
use Rattle.journal_records.proofs.batch_size.tally_of.Goals as goal

pub returns-clause-octets : goal.returns-clause-octets
returns-clause-octets c =
    let t = c.loop-change.tally in
    let none : drop c.loop-change.change-index c.args.records.now ≡ [] = drop_all c.loop-change.change-index c.args.records.now c.loop-change-test.false in
    omega (arith, c.loop-change.invariant.octets, ap (λ (l : List Record). spelled_after t.sae t.names l) none, spelled_end t.sae t.names)

pub returns-clause-items : goal.returns-clause-items
returns-clause-items c =
    let t = c.loop-change.tally in
    let none : drop c.loop-change.change-index c.args.records.now ≡ [] = drop_all c.loop-change.change-index c.args.records.now c.loop-change-test.false in
    omega (arith, c.loop-change.invariant.items, ap (λ (l : List Record). begun t.sae t.names l) none, begun_end t.sae t.names)
