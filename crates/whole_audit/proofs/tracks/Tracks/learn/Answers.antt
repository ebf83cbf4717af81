use Rattle.std.proofs.Common.{◌≡◌, cond, Some, ap, sym, ◌∙◌}
use Rattle.qkd_base.specs.declared.lane.Lane.{Lane}
use Rattle.qkd_base.specs.Lane.{lane_eq}
use Rattle.run_types.specs.declared.item.Item.{Item}
use Rattle.whole_audit.specs.declared.tracks.Track.{Track}
use Rattle.whole_audit.specs.Tracks.{behind_frame, frame_lane, track_of}
use Rattle.whole_audit.specs.Kept.{track_at}
use Rattle.run_audit.proofs.Recording.{on_ok_map}
use Rattle.whole_audit.proofs.Tracking.{tracked_none, tracked_some}
use Rattle.whole_audit.proofs.tracks.Tracks.learn.Goals as goal

pub returns-in-Some : goal.returns-in-Some
returns-in-Some c told before item tracked =
    let lane : Lane = c.in-Some.lane in
    let is : frame_lane told.item ≡ Some lane = ap frame_lane item ∙ sym c.frame_lane.ensures ∙ c.in-Some.is in
    let track : c.at.result ≡ track_of lane before = c.at.ensures ∙ tracked lane in
    let behind : c.behind_frame-track.result ≡ behind_frame told.item (track_of lane before) = c.behind_frame-track.ensures ∙ ap (behind_frame c.args.item.now) track ∙ ap (λ (i : Item). behind_frame i (track_of lane before)) (sym item) in
    on_ok_map c.put.result (λ put. tracked_some c.args.self.now c.put.new.self lane told before is tracked (λ l. put l ∙ ap (λ (n : Track). cond (lane_eq lane l) n (track_at c.args.self.now l)) behind)) c.put.ensures

pub returns-in-None : goal.returns-in-None
returns-in-None c told before item tracked = tracked_none c.args.self.now told before (ap frame_lane item ∙ sym c.frame_lane.ensures ∙ c.in-None.is) tracked
