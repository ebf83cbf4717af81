use Rattle.std.proofs.Common.{◌++◌, [], List, map, sym, ap, subst, ◌∙◌}
use Rattle.std.specs.List.{flat_map}
use Rattle.qkd_base.specs.Name.{Name}
use Rattle.net_model.specs.declared.record.Record.{Record}
use Rattle.net_model.specs.declared.record.Record.TheVariants.{Acked, Handed}
use Rattle.net_model.specs.Journal.{fact_record, lease_records, checkpoint_records}
use Rattle.net_model.specs.View.{View, Port}
use Rattle.kme_base.specs.Places.{ports_in}
use Rattle.stream_core.specs.Kept.{StreamEnds, Sees}
use Rattle.kme_node.specs.Holdings.{view}
use Rattle.kme_node.proofs.Sights.{sees}
use Rattle.kme_journal.specs.Batches.{blocks_of}
use Rattle.kme_journal.proofs.Listed.{gathered_as}
use Rattle.kme_journal.proofs.Whole.{all_need, all_records, if_ok}
use Rattle.kme_journal.proofs.checkpoint.checkpoint_batches.Goals as goal

pub returns-clause-spelled : goal.returns-clause-spelled
returns-clause-spelled c =
    let v : View = view c.args.node.now in
    let ports : List Port = ports_in c.as_slice-ends.result.now in
    let acked : List Name = c.acked.result.now in
    let kept = c.kept-kept.ensures in
    let streams = c.streams-streams.ensures.streams ∙ kept in
    let there : Sees v c.kept-kept.result.now = subst (Sees v) (sym kept) (sees c.args.node.now) in
    let blocks : List Record = flat_map blocks_of ports in
    let leases : List Record = blocks ++ flat_map lease_records ports in
    let facts : List Record = leases ++ map (fact_record v) v.facts in
    let acks : List Record = facts ++ map (λ n. Acked n) acked in
    let hands : List Record = acks ++ map (λ h. Handed h.0 h.1) c.handed.result.now in
    let one = c.in_ok-list_all_blocks.ensures [] c.new-batches.ensures in
    let two = c.in_ok-list_leases.ensures blocks one in
    let three = c.in_ok-list_facts.ensures v leases there two in
    let four = c.in_ok-list_acked.ensures facts three in
    let five = c.in_ok-list_handed.ensures acks four in
    let six = c.in_ok-list_closed.ensures hands five in
    let same = all_records v ports acked c.handed.result.now c.closed.result.now
    (c.as_slice-ends.ensures.ports ∙ ap (λ e. e.ports) c.ports.ensures)
    (c.acked.ensures ∙ ap (λ k. k.acked) (c.known.ensures ∙ ap (λ e. e.known) c.ends.ensures) ∙ ap (λ (s : StreamEnds). s.ends.known.acked) streams)
    (c.handed.ensures ∙ ap (λ e. e.handed) c.ends-2.ensures ∙ ap (λ (s : StreamEnds). s.ends.handed) streams)
    (c.closed.ensures ∙ ap (λ (s : StreamEnds). s.closed) streams) in
    c.finish.ensures (checkpoint_records v) (gathered_as c.list_closed.new.batches _ (checkpoint_records v) same six)

pub returns-clause-need : goal.returns-clause-need
returns-clause-need c =
    let v : View = view c.args.node.now in
    if_ok c.finish.result _ _ (λ bodies is. all_need v bodies.items is) (returns-clause-spelled c)
