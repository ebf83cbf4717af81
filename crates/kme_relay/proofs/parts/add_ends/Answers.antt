use Rattle.std.proofs.Common.{◌+◌, List, ap, sym, subst, ◌∙◌, take}
use Rattle.std.specs.Prelude.{filter}
use Rattle.qkd_base.specs.declared.lane.Lane.{Lane}
use Rattle.net_model.specs.View.{Port}
use Rattle.declared_site.specs.SiteOf.{site_of}
use Rattle.kme_base.specs.Places.{Place, ports_in}
use Rattle.relay_core.proofs.Firsts.{got}
use Rattle.resend_window.proofs.Edits.{take_more}
use Rattle.resend_window.proofs.Frames.{take_long}
use Rattle.kme_relay.specs.declared.parts.Parts.{Parts}
use Rattle.kme_relay.specs.Adds.{AddsEnds}
use Rattle.kme_relay.proofs.Ends.{ports_more, ends_kept, ends_next}
use Rattle.kme_relay.proofs.parts.add_ends.Goals as goal
use Rattle.kme_relay.proofs.parts.add_ends.Goals.{then-is_up+in_ok-add_end, else-is_up}

pub loop-end-preserved : goal.loop-end-preserved
loop-end-preserved c v is_up knows up =
    let site = site_of c.args.site.now in
    let place = c.end-item.result in
    let first = take c.loop-end.end-index c.args.ends.now in
    let there = got c.args.ends.now c.loop-end.end-index place c.loop-end-test.true c.end-item.is in
    let more = ports_more first place _ (take_more c.args.ends.now c.loop-end.end-index place there) in
    let bit = c.is_up.ensures is_up up ∙ ap (λ (l : Lane). is_up l.link) c.lane.ensures in
    let before = c.loop-end.invariant v is_up knows up in
    elim c.if-is_up.branch [
      | then-is_up+in_ok-add_end w ↦
          subst (λ (new : Parts). AddsEnds site v (filter (λ (p : Port). is_up p.lane.link) (ports_in (take (c.loop-end.end-index + 1) c.args.ends.now))) c.args.parts.now new) (sym w.parts-is)
          (ends_next site v is_up (ports_in first) _ place.port c.args.parts.now c.loop-end.parts _ more (sym bit ∙ w.if-is_up.true) before (w.in_ok-add_end.ensures v knows))
      | else-is_up w ↦
          subst (λ (new : Parts). AddsEnds site v (filter (λ (p : Port). is_up p.lane.link) (ports_in (take (c.loop-end.end-index + 1) c.args.ends.now))) c.args.parts.now new) (sym w.parts-is) (ends_kept site v is_up (ports_in first) _ place.port c.args.parts.now c.loop-end.parts more (sym bit ∙ w.if-is_up.false) before)
    ]

pub returns : goal.returns
returns c v is_up knows up =
    let whole = take_long c.loop-end.end-index c.args.ends.now c.loop-end-test.false in
    subst (λ (xs : List Place). AddsEnds (site_of c.args.site.now) v (filter (λ (p : Port). is_up p.lane.link) (ports_in xs)) c.args.parts.now c.loop-end.parts) whole (c.loop-end.invariant v is_up knows up)
