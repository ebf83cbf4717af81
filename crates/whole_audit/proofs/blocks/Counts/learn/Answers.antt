use Rattle.std.proofs.Common.{◌≡◌, cond, Some, ap, sym, ◌∙◌}
use Rattle.qkd_base.specs.declared.lane.Lane.{Lane}
use Rattle.qkd_base.specs.Lane.{lane_eq}
use Rattle.run_types.specs.declared.item.Item.{Item}
use Rattle.whole_audit.specs.declared.blocks.Count.{Count}
use Rattle.whole_audit.specs.Blocks.{behind_item, block_lane, count_of}
use Rattle.whole_audit.specs.Kept.{count_at}
use Rattle.run_audit.proofs.Recording.{on_ok_map}
use Rattle.whole_audit.proofs.Counting.{counted_none, counted_some}
use Rattle.whole_audit.proofs.blocks.Counts.learn.Goals as goal

pub returns-in-Some : goal.returns-in-Some
returns-in-Some c told before item counted =
    let lane : Lane = c.in-Some.lane in
    let is : block_lane told.item ≡ Some lane = ap block_lane item ∙ sym c.block_lane.ensures ∙ c.in-Some.is in
    let count : c.at.result ≡ count_of lane before = c.at.ensures ∙ counted lane in
    let behind : c.behind_item-count.result ≡ behind_item told.item (count_of lane before) = c.behind_item-count.ensures ∙ ap (behind_item c.args.item.now) count ∙ ap (λ (i : Item). behind_item i (count_of lane before)) (sym item) in
    on_ok_map c.put.result (λ put. counted_some c.args.self.now c.put.new.self lane told before is counted (λ l. put l ∙ ap (λ (n : Count). cond (lane_eq lane l) n (count_at c.args.self.now l)) behind)) c.put.ensures

pub returns-in-None : goal.returns-in-None
returns-in-None c told before item counted = counted_none c.args.self.now told before (ap block_lane item ∙ sym c.block_lane.ensures ∙ c.in-None.is) counted
