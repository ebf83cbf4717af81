use Rattle.std.proofs.Common.{ℕ, List, take, ◌*◌, ap, ◌∙◌, arith}
use Rattle.std.specs.Int.{w64, from_be_bytes}
use Rattle.wc_tags.specs.Tag.{padded}
use Rattle.wc_tags.proofs.Blocks.{to_the_end, start, step, done}
use Rattle.wc_tags.proofs.tags.hash.Goals as goal

pub loop-i-init : goal.loop-i-init
loop-i-init c = start c.args.key c.args.text.now c.ranges.key.fits (omega arith) (λ (k : ℕ). let fits = c.type_inv.text k in omega arith)

pub loop-i-preserved : goal.loop-i-preserved
loop-i-preserved c =
    step c.args.key c.of-multiples.result c.loop-i.sum c.times-sum.result c.first_block.result c.loop-i.i _ c.args.text.now c.ranges.key.fits (omega arith) c.first_block.type_inv c.of-multiples.ensures (omega arith)
    (c.first_block.ensures ∙ ap (λ (rest : List ℕ). from_be_bytes w64 (take 8 (padded rest))) (to_the_end (8 * c.loop-i.i) c.args.text.now))
    c.times-sum.ensures c.loop-i.invariant

pub returns : goal.returns
returns c = done c.args.key c.of-multiples.result c.loop-i.sum c.times.result c.loop-i.i _ c.args.text.now c.ranges.key.fits (omega arith) (omega arith) c.of-multiples.ensures (omega arith) c.times.ensures c.loop-i.invariant
