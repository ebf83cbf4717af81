use Rattle.std.proofs.Common.{◌∙◌, arith}
use lib.Chars.{codes}
use Rattle.report_text.proofs.Spaced.{one_more, all_keys}
use Rattle.report_text.proofs.key_items.keys.Goals as goal

pub loop-of-preserved : goal.loop-of-preserved
loop-of-preserved c =
    one_more c.loop-of.line c.key.new.line _ c.loop-of.of-index c.loop-of-item.result (omega arith) c.loop-of-item.is (rw c.as_slice.ensures at (c.in_ok-key.ensures {u = tt}))
    ∙ c.loop-of.invariant

pub returns : goal.returns
returns c = rw c.as_slice-of-items.ensures at (all_keys c.loop-of.line c.args.line.now (codes "keys") c.as_slice-of-items.result.now c.loop-of.of-index (omega arith) c.loop-of.invariant)
