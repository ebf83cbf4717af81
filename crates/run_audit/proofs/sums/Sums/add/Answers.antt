use Rattle.std.proofs.Common.{◌≡◌, ◌<◌, ◌^◌, sym, ap, ◌∙◌, arith}
use Rattle.qkd_base.specs.declared.lane.Lane.{Lane}
use Rattle.qkd_base.specs.Lane.{lane_eq}
use Rattle.run_types.specs.declared.item.Item.{Item}
use Rattle.run_types.specs.declared.item.NumberedItem.{NumberedItem}
use Rattle.run_audit.specs.declared.frames.Frame.{Frame}
use Rattle.run_audit.specs.declared.sums.LaneSum.{LaneSum}
use Rattle.run_audit.specs.Frames.{frames}
use Rattle.run_audit.specs.Ledgers.{is_block_for, sum_of}
use Rattle.run_audit.specs.Kept.{lane_of, with_item, sum_at}
use Rattle.run_audit.proofs.Summing.{how_many-le, frames-le, summed_some}
use Rattle.run_audit.proofs.Recording.{on_ok_map}
use Rattle.run_audit.proofs.sums.Sums.add.Goals as goal

pub returns-in-Some : goal.returns-in-Some
returns-in-Some c told before is new used len has =
    let lane : Lane = c.in-Some.lane in
    let at : c.at.result ≡ sum_of lane before = c.at.ensures ∙ has lane in
    let sent : c.at.result.sent < 2 ^ 63 = omega (arith, ap (λ (s : LaneSum). s.sent) at, how_many-le (λ (f : Frame). lane_eq f.lane lane) (frames before), frames-le before, len) in
    let few : c.at.result.used < 2 ^ 63 = omega (arith, ap (λ (s : LaneSum). s.used) at, used lane) in
    let blocks : c.at.result.blocks < 2 ^ 63 = omega (arith, ap (λ (s : LaneSum). s.blocks) at, how_many-le (λ (t : NumberedItem). is_block_for lane t.item) before, len) in
    let sum : c.with_item-sum.result ≡ with_item told.item c.args.is_new (sum_at c.args.self.now lane) =
    c.with_item-sum.ensures sent few blocks ∙ ap (λ (item : Item). with_item item c.args.is_new c.at.result) (sym is) ∙ ap (with_item told.item c.args.is_new) c.at.ensures in
    on_ok_map c.put.result (λ put. summed_some c.args.self.now c.put.new.self lane c.with_item-sum.result told before c.args.is_new new (ap lane_of is ∙ sym (c.in-Some.ensures {u = tt})) put has sum) c.put.ensures
