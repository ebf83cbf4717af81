use Rattle.std.proofs.Common.{Option, ap, sym, ◌∙◌}
use Rattle.qkd_base.specs.declared.lane.Lane.{Lane}
use Rattle.whole_audit.specs.Tracks.{reaches, reaches_at, track_of}
use Rattle.whole_audit.proofs.tracks.Tracks.reaches.Goals as goal

pub returns-in-Some : goal.returns-in-Some
returns-in-Some c before tracked =
    c.reaches.ensures
    ∙ ap (reaches c.offset_of.result) (c.at.ensures ∙ tracked c.in-Some.lane)
    ∙ ap (λ n. reaches n (track_of c.in-Some.lane before)) c.offset_of.ensures
    ∙ ap (λ (o : Option Lane). reaches_at o c.args.item.now before) (sym c.in-Some.is ∙ c.frame_lane.ensures)

pub returns-in-None : goal.returns-in-None
returns-in-None c before tracked = ap (λ (o : Option Lane). reaches_at o c.args.item.now before) (sym c.in-None.is ∙ c.frame_lane.ensures)
