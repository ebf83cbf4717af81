use Rattle.std.proofs.Common.{sym, ◌∙◌}
use Rattle.kme_relay.proofs.Receipts.{block_full, block_memory, block_taken}
use Rattle.kme_relay.proofs.lanes.block.Goals as goal

pub returns-then-is_full : goal.returns-then-is_full
returns-then-is_full c = λ v h site frames is_up random.
    block_full v site frames is_up random c.args.link c.args.number c.args.bytes.now (sym (c.is_full.ensures v h) ∙ c.if-is_full.true)

pub returns-in-Err : goal.returns-in-Err
returns-in-Err c = λ v h site frames is_up random.
    block_memory v site frames is_up random c.args.link c.args.number c.args.bytes.now (sym (c.is_full.ensures v h) ∙ c.if-is_full.false)

pub returns-in-Ok : goal.returns-in-Ok
returns-in-Ok c = λ v h site frames is_up random.
    block_taken v site frames is_up random c.args.link c.args.number c.args.bytes.now c.in-Ok.batch (sym (c.is_full.ensures v h) ∙ c.if-is_full.false) c.in-Ok.ensures
