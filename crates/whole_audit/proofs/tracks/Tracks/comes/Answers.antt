use Rattle.std.proofs.Common.{Option, ap, sym, ◌∙◌}
use Rattle.qkd_base.specs.declared.lane.Lane.{Lane}
use Rattle.whole_audit.specs.declared.tracks.Track.{Track}
use Rattle.whole_audit.specs.Tracks.{comes_from, comes_at}
use Rattle.whole_audit.proofs.tracks.Tracks.comes.Goals as goal

pub returns-in-Some : goal.returns-in-Some
returns-in-Some c before tracked =
    c.comes_from.ensures
    ∙ ap (λ (k : Track). comes_from c.args.item.now k.count) (c.at.ensures ∙ tracked c.in-Some.lane)
    ∙ ap (λ (o : Option Lane). comes_at o c.args.item.now before) (sym c.in-Some.is ∙ c.come_lane.ensures)

pub returns-in-None : goal.returns-in-None
returns-in-None c before tracked = ap (λ (o : Option Lane). comes_at o c.args.item.now before) (sym c.in-None.is ∙ c.come_lane.ensures)
