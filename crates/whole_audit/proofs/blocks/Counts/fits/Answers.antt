use Rattle.std.proofs.Common.{Option, ap, sym, ◌∙◌}
use Rattle.qkd_base.specs.declared.lane.Lane.{Lane}
use Rattle.whole_audit.specs.Blocks.{is_next, follows}
use Rattle.whole_audit.proofs.blocks.Counts.fits.Goals as goal

pub returns-in-Some : goal.returns-in-Some
returns-in-Some c before counted =
    c.is_next.ensures
    ∙ ap (is_next c.args.item.now) (c.at.ensures ∙ counted c.in-Some.lane)
    ∙ ap (λ (o : Option Lane). follows o c.args.item.now before) (sym c.in-Some.is ∙ c.block_lane.ensures)

pub returns-in-None : goal.returns-in-None
returns-in-None c before counted = ap (λ (o : Option Lane). follows o c.args.item.now before) (sym c.in-None.is ∙ c.block_lane.ensures)
