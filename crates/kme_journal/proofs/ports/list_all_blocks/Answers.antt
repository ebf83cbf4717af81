use Rattle.std.proofs.Common.{◌≡◌, ◌<◌, ℕ, List, ◌++◌, length, take, sym, ap, subst, ◌∙◌}
use Rattle.std.specs.List.{flat_map}
use Rattle.std.proofs.lemmas.List.{length-map}
use Rattle.qkd_base.specs.declared.lane.Lane.{Lane}
use Rattle.net_model.specs.declared.record.Record.{Record}
use Rattle.net_model.specs.Journal.{block_records}
use Rattle.net_model.specs.View.{Port}
use Rattle.kme_base.specs.Places.{Place, ports_in}
use Rattle.kme_journal.specs.Batches.{blocks_of}
use Rattle.kme_journal.proofs.Listed.{gathered_as, at_mapped, flat_step}
use Rattle.kme_journal.proofs.ports.list_all_blocks.Goals as goal

pub loop-end-preserved : goal.loop-end-preserved
loop-end-preserved c = λ rs was.
    let ends : List Place = c.args.ends.now in
    let i : ℕ = c.loop-end.end-index in
    let port : Port = c.end-item.result.port in
    let before : List Record = rs ++ flat_map blocks_of (take i (ports_in ends)) in
    let within : i < length (ports_in ends) = subst (λ (n : ℕ). i < n) (sym (length-map ends (λ (x : Place). x.port))) c.loop-end-test.true in
    let listed = c.in_ok-list_blocks.ensures before (c.loop-end.invariant rs was) in
    let blocks : List (List ℕ) = c.blocks-in-loop-end.result.now in
    let same : block_records c.lane.result.link 0 blocks ≡ blocks_of port =
    ap (λ (l : Lane). block_records l.link 0 blocks) c.lane.ensures ∙ ap (block_records port.lane.link 0) (c.blocks-in-loop-end.ensures.blocks ∙ c.segments.ensures) in
    let step = flat_step blocks_of rs (ports_in ends) i port within (at_mapped (λ (x : Place). x.port) ends i c.end-item.result c.end-item.is) in
    gathered_as c.list_blocks.new.batches _ _ (ap (λ (ys : List Record). before ++ ys) same ∙ step) listed
