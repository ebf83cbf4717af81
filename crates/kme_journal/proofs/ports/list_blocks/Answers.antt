use Rattle.std.proofs.Common.{[], ◌++◌, take}
use Rattle.net_model.specs.Journal.{block_records}
use Rattle.kme_journal.proofs.Listed.{gathered_as, block_step}
use Rattle.kme_journal.proofs.ports.list_blocks.Goals as goal

pub loop-number-preserved : goal.loop-number-preserved
loop-number-preserved c = λ rs was.
    let so_far = c.loop-number.invariant rs was in
    let pushed = c.in_ok-push.ensures (rs ++ block_records c.args.link 0 (take c.loop-number.number c.args.blocks.now)) so_far in
    gathered_as c.push.new.self _ _ (block_step c.args.link rs c.args.blocks.now c.loop-number.number c.in_ok-bytes.bytes [] c.loop-number-test.true c.in_ok-bytes.ensures) pushed
