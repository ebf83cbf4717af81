use Rattle.std.proofs.Common.{ℕ, List, ◌++◌, drop, length, replicate, ap, ◌∙◌, arith}
use Rattle.std.specs.Int.{w64, from_be_bytes}
use Rattle.wc_tags.proofs.Blocks.{short_octets}
use Rattle.wc_tags.proofs.block.first_block.Goals as goal

pub returns : goal.returns
returns c =
    c.from_be_bytes.ensures
    ∙ ap (from_be_bytes w64) (ap (λ (l : List ℕ). l ++ drop (length c.args.text.now) (replicate 8 0)) c.copy_from_slice.ensures.after ∙ short_octets c.args.text.now c.requires (omega (arith, c.if-size-ge8.false)))
