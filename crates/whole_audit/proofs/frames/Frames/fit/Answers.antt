use Rattle.std.proofs.Common.{◌≡◌, ℕ, Option, ap, sym, ◌∙◌}
use Rattle.qkd_base.specs.declared.lane.Lane.{Lane}
use Rattle.whole_audit.specs.declared.frames.Put.{Put}
use Rattle.whole_audit.specs.Frames.{fits_frame, come_number, frame_at, most_at_end, comes_whole_at}
use Rattle.whole_audit.specs.Kept.{frame_kept}
use Rattle.whole_audit.proofs.frames.Frames.fit.Goals as goal

pub returns-in-Some : goal.returns-in-Some
returns-in-Some c before counted kept =
    let lane : Lane = c.in-Some.lane in
    let put : c.at.result ≡ frame_at lane (come_number c.args.item.now) before =
    c.at.ensures ∙ ap (frame_kept c.args.self.now lane) c.come_number.ensures ∙ kept lane (come_number c.args.item.now) in
    c.fits_frame.ensures
    ∙ ap (λ (most : ℕ). fits_frame most c.at.result c.args.item.now) (c.most_at_end.ensures before counted)
    ∙ ap (λ (p : Option Put). fits_frame (most_at_end lane before) p c.args.item.now) put
    ∙ ap (λ (o : Option Lane). comes_whole_at o c.args.item.now before) (sym c.in-Some.is ∙ c.come_lane.ensures)

pub returns-in-None : goal.returns-in-None
returns-in-None c before counted kept = ap (λ (o : Option Lane). comes_whole_at o c.args.item.now before) (sym c.in-None.is ∙ c.come_lane.ensures)
