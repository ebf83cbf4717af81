use Rattle.std.proofs.Common.{◌∙◌, sym, ap, take}
use Rattle.std.proofs.Math.Seq.{take-length}
use Rattle.kme_base.proofs.ports.as_block.Goals as goal

pub returns : goal.returns
returns c =
    let first = (rw c.unwrap.ensures at c.split_first_chunk.ensures.cases).0 in
    first ∙ ap (λ n. take n c.args.bytes.now) (sym c.requires) ∙ take-length c.args.bytes.now
