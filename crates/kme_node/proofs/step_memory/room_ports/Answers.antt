use Rattle.std.proofs.Common.{◌∷◌, ◌+◌, drop, sym, subst}
use Rattle.std.proofs.lemmas.Result.{on_ok_weaker}
use Rattle.net_model.specs.declared.record.Record.{Record}
use Rattle.kme_keys.proofs.Behind.{at_index, past_all}
use Rattle.kme_node.specs.Holdings.{HasBatchRoom}
use Rattle.kme_node.proofs.Ends.{no_block}
use Rattle.kme_node.proofs.step_memory.room_ports.Goals as goal

pub loop-change-preserved : goal.loop-change-preserved
loop-change-preserved c =
    let i = c.loop-change.change-index in
    let at = at_index c.args.batch.now i c.change-item.result c.loop-change-test.true c.change-item.is in
    record {
      ports = c.loop-change.invariant.ports;
      room = λ ends room. c.loop-change.invariant.room ends (subst (HasBatchRoom ends) (sym at) (no_block ends c.change-item.result (drop (i + 1) c.args.batch.now) c.in_default.not-Block room));
    }

pub returns-in-Block-clause-ok : goal.returns-in-Block-clause-ok
returns-in-Block-clause-ok c =
    let i = c.loop-change.change-index in
    let rest = drop (i + 1) c.args.batch.now in
    let at = at_index c.args.batch.now i c.change-item.result c.loop-change-test.true c.change-item.is in
    on_ok_weaker c.room_block.result (λ room. c.loop-change.invariant.room c.room_block.new.self (subst (HasBatchRoom c.room_block.new.self) (sym at) (subst (λ (r : Record). HasBatchRoom c.room_block.new.self (r ∷ rest)) (sym c.in-Block.is) room))) c.room_block.ensures.ok

pub returns-clause-ok : goal.returns-clause-ok
returns-clause-ok c =
    c.loop-change.invariant.room c.loop-change.ports (subst (HasBatchRoom c.loop-change.ports) (sym (past_all c.args.batch.now c.loop-change.change-index c.loop-change-test.false)) tt)
