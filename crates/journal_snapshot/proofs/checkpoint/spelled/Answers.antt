use Rattle.std.proofs.Common.{ℕ, List, ◌++◌, replicate, ◌∙◌, ap}
use Rattle.std.specs.Int.{w32, to_be_bytes}
use Rattle.journal_snapshot.proofs.Needs.{spell_more}
use Rattle.journal_snapshot.proofs.checkpoint.spelled.Goals as goal

pub loop-batch-preserved : goal.loop-batch-preserved
loop-batch-preserved c =
    spell_more (replicate c.args.zeros 0) c.args.batches.now c.loop-batch.batch-index c.batch-item.result c.loop-batch.block.items c.push.new.self.items c.extend_from_slice.new.self.items c.extend_from_slice-in-loop-batch.new.self.items
    c.loop-batch-test.true c.batch-item.is c.loop-batch.invariant c.in_ok-push.ensures.items
    (c.in_ok-extend_from_slice.ensures.items ∙ ap (λ (l : List ℕ). c.push.new.self.items ++ l) (c.to_be_bytes.ensures ∙ ap (λ (n : ℕ). to_be_bytes w32 n) c.len.ensures))
    (c.in_ok-extend_from_slice-2.ensures.items ∙ ap (λ (l : List ℕ). c.extend_from_slice.new.self.items ++ l) c.as_slice.ensures)
