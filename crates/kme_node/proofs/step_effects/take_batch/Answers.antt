use Rattle.std.proofs.Common.{List, ◌+◌, drop, sym, ap, ◌∙◌, subst}
use Rattle.net_model.specs.declared.record.Record.{Record}
use Rattle.kme_keys.proofs.Behind.{at_index, past_all}
use Rattle.kme_node.specs.Ports.{ports_after}
use Rattle.kme_node.specs.Holdings.{HasBatchRoom, HasBlocksAlone}
use Rattle.kme_node.proofs.Ends.{room_first, alone_first, alone_rest}
use Rattle.kme_node.proofs.step_effects.take_batch.Goals as goal

pub take_record-requires : goal.take_record-requires
take_record-requires c =
    let i = c.loop-change.change-index in
    let at = at_index c.args.batch.now i c.change-item.result c.loop-change-test.true c.change-item.is in
    record {
      fits = alone_first c.change-item.result (drop (i + 1) c.args.batch.now) (subst HasBlocksAlone at c.loop-change.invariant.fits);
      room = room_first c.loop-change.ports c.change-item.result (drop (i + 1) c.args.batch.now) (subst (HasBatchRoom c.loop-change.ports) at c.loop-change.invariant.room);
    }

pub loop-change-preserved : goal.loop-change-preserved
loop-change-preserved c =
    let i = c.loop-change.change-index in
    let rest = drop (i + 1) c.args.batch.now in
    let at = at_index c.args.batch.now i c.change-item.result c.loop-change-test.true c.change-item.is in
    let fits = subst HasBlocksAlone at c.loop-change.invariant.fits in
    record {
      fits = alone_rest c.change-item.result rest fits;
      room = c.take_record.ensures.rest rest fits (subst (HasBatchRoom c.loop-change.ports) at c.loop-change.invariant.room);
      taken = ap (ports_after rest) c.take_record.ensures.ports ∙ ap (λ (rs : List Record). ports_after rs c.loop-change.ports.ports) (sym at) ∙ c.loop-change.invariant.taken;
    }

pub returns : goal.returns
returns c =
    ap (λ (rs : List Record). ports_after rs c.loop-change.ports.ports) (sym (past_all c.args.batch.now c.loop-change.change-index c.loop-change-test.false)) ∙ c.loop-change.invariant.taken
