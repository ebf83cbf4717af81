-- The records of frames say what is reported and noted of them.
use Rattle.std.proofs.Common.{◌≡◌, ℕ, ◌+◌, ◌-◌, List, [], ◌∷◌, map, refl, sym, ◌∙◌, ap, Some, Result, Ok, Err}
use Rattle.std.specs.List.{flat_map, AllByRecursion}
use Rattle.qkd_base.specs.declared.lane.Lane.{Lane}
use Rattle.net_model.specs.Item.{need}
use Rattle.net_model.specs.World.{Network, World}
use Rattle.net_model.specs.Frames.{octets_sent}
use Rattle.run_model.specs.Outcomes.{put_items}
use Rattle.run_model.specs.Block.{is_put}
use Rattle.source_devices.specs.declared.wire.WireFailed.{WireFailed}
use Rattle.source_devices.specs.declared.wire.WireFailed.TheVariants.{Fault, Memory}
use Rattle.lane_sender.specs.Lane.{LaneForm}
use Rattle.lane_sender.specs.declared.sent.Sent.{Sent}
use Rattle.lane_sender.specs.declared.sent.Sent.TheVariants.{Placed, Unsent}
use Rattle.lane_sender.specs.Sending.{answer_of, number_of}
use Rattle.law_parallel.specs.Puts.{LaneFrame, item_sent, is_taken, answer_at, count_after, reported_from, number_at, placed, placings_from}
use Rattle.world_state.specs.Passed.{wire_answer, wire_outcome}
use Rattle.world_state.proofs.Passed.{IsNumbered, IsNext, is_next}
use Rattle.par_lanes.specs.declared.emitted.Emitted.{Emitted}
use Rattle.par_frames.specs.LaneCalls.{LaneCall, ClaimsFor, PutsFor, RepeatsFor, kept_in}
use Rattle.par_frames.specs.Leaving.{reported_as, placing_as}
use Rattle.par_frames.proofs.Agreeing.{Agrees}
use Rattle.par_frames.proofs.Found.{new_frame, old_frame, puts_by}
use Rattle.par_frames.proofs.Good.{Good}
use Rattle.par_frames.proofs.Stepping.{Leading}
use Rattle.source_devices.specs.declared.wire.Wire as Wire

-- the wire's answer

took : (answer : Result ℕ WireFailed) → is_taken (wire_answer answer) ≡ is_put (wire_outcome answer)
took (Ok n) = refl
took (Err Fault) = refl
took (Err Memory) = refl

said : (answer : Result ℕ WireFailed) (count : ℕ) → IsNext answer count → answer_at count (wire_answer answer) ≡ wire_outcome answer
said (Ok n) count next = ap (λ (k : ℕ). wire_outcome (Ok k)) (sym next)
said (Err Fault) count next = refl
said (Err Memory) count next = refl

counts : (answer : Result ℕ WireFailed) (old new count : ℕ) → IsNumbered answer old new → count ≡ old → count_after count (wire_answer answer) ≡ new
counts (Ok n) old new count h is = ap (λ (k : ℕ). k + 1) is ∙ sym h.1
counts (Err Fault) old new count h is = is ∙ sym h
counts (Err Memory) old new count h is = is ∙ sym h

numbers : (s : Sent) (count : ℕ) → IsNext (answer_of s) count → number_at count (wire_answer (answer_of s)) ≡ number_of s
numbers (Placed n offset size frame) count next = ap (λ (k : ℕ). Some k) (sym next)
numbers (Unsent Fault offset size frame) count next = refl
numbers (Unsent Memory offset size frame) count next = refl

module _ (net : Network) (w : World) (l : Lane) where
  -- ---- one frame

  one_reported : (f : LaneFrame) (out : Emitted) (count : ℕ) → Agrees net w l f out → IsNext (answer_of out.sent) count →
      record {
        lane = l;
        offset = f.offset;
        place = f.place;
        took = is_taken (wire_answer (answer_of out.sent));
        reported = put_items l f.offset (need w.durable.facts (item_sent f.emission) - 8) (answer_at count (wire_answer (answer_of out.sent)));
      } ≡ reported_as out
  one_reported f out count a next =
      let lane = a.lane in
      let offset = a.offset in
      let line = a.line in
      let size = a.size in
      let took' = took (answer_of out.sent) in
      let said' = said (answer_of out.sent) count next in
      λ i. record {
        lane = sym lane i;
        offset = sym offset i;
        place = sym line i;
        took = took' i;
        reported = put_items (sym lane i) (sym offset i) (sym size i) (said' i);
      }

  one_placed : (f : LaneFrame) (out : Emitted) (count : ℕ) → Agrees net w l f out → IsNext (answer_of out.sent) count →
      placed net w l f (number_at count (wire_answer (answer_of out.sent))) ≡ placing_as out
  one_placed f out count a next =
      let lane = a.lane in
      let offset = a.offset in
      let name = a.name in
      let ack = a.ack_of in
      let fresh' = a.fresh in
      let number' = numbers out.sent count next in
      let long = a.long in
      let room = a.room in
      λ i. record {
        lane = sym lane i;
        offset = sym offset i;
        name = sym name i;
        ack_of = sym ack i;
        fresh = sym fresh' i;
        number = number' i;
        length = sym long i;
        frame = sym room i;
      }

  module _ {X : Type 0} (wire_says : Wire.Ghosts X) (cap : ℕ) (all : List LaneCall) where
    abbrev Led : LaneForm X → List LaneCall → LaneForm X → Type 0
    Led old log new = Leading wire_says cap l (octets_sent net w l) old log new

    same_count : (old new : LaneForm X) (count : ℕ) → count ≡ wire_says.counted old.wire → new.wire ≡ old.wire → count ≡ wire_says.counted new.wire
    same_count old new count is same = is ∙ ap wire_says.counted (sym same)

    -- ---- all frames

    pub all_reported : (log : List LaneCall) (old new : LaneForm X) → Led old log new → AllByRecursion (Good net w l all) log → (count : ℕ) → count ≡ wire_says.counted old.wire →
        map reported_as (kept_in log) ≡ reported_from w.durable.facts l count (flat_map (puts_by net w l all) log)
    all_reported [] old new h good count is = refl
    all_reported (ClaimsFor line o grant claimed ∷ log) old new h good count is =
        all_reported log h.0 new h.2 good.1 count (same_count old h.0 count is (ap (λ (s : LaneForm X). s.wire) h.1.after))
    all_reported (PutsFor claim o claimed out ∷ log) old new h good count is =
        let f = new_frame net w l all claim o claimed out.line in
        let one = one_reported f out count good.0.agrees (is_next (answer_of out.sent) (wire_says.counted old.wire) (wire_says.counted h.0.wire) count h.1.number (sym is)) in
        let rest = all_reported log h.0 new h.2 good.1 (count_after count (wire_answer (answer_of out.sent))) (counts (answer_of out.sent) (wire_says.counted old.wire) (wire_says.counted h.0.wire) count h.1.number is) in
        λ i. sym one i ∷ rest i
    all_reported (RepeatsFor r out ∷ log) old new h good count is =
        let f = old_frame net w l all r out.line in
        let one = one_reported f out count good.0.agrees (is_next (answer_of out.sent) (wire_says.counted old.wire) (wire_says.counted h.0.wire) count h.1.number (sym is)) in
        let rest = all_reported log h.0 new h.2 good.1 (count_after count (wire_answer (answer_of out.sent))) (counts (answer_of out.sent) (wire_says.counted old.wire) (wire_says.counted h.0.wire) count h.1.number is) in
        λ i. sym one i ∷ rest i

    pub all_placed : (log : List LaneCall) (old new : LaneForm X) → Led old log new → AllByRecursion (Good net w l all) log → (count : ℕ) → count ≡ wire_says.counted old.wire →
        map placing_as (kept_in log) ≡ placings_from net w l count (flat_map (puts_by net w l all) log)
    all_placed [] old new h good count is = refl
    all_placed (ClaimsFor line o grant claimed ∷ log) old new h good count is =
        all_placed log h.0 new h.2 good.1 count (same_count old h.0 count is (ap (λ (s : LaneForm X). s.wire) h.1.after))
    all_placed (PutsFor claim o claimed out ∷ log) old new h good count is =
        let f = new_frame net w l all claim o claimed out.line in
        let one = one_placed f out count good.0.agrees (is_next (answer_of out.sent) (wire_says.counted old.wire) (wire_says.counted h.0.wire) count h.1.number (sym is)) in
        let rest = all_placed log h.0 new h.2 good.1 (count_after count (wire_answer (answer_of out.sent))) (counts (answer_of out.sent) (wire_says.counted old.wire) (wire_says.counted h.0.wire) count h.1.number is) in
        λ i. sym one i ∷ rest i
    all_placed (RepeatsFor r out ∷ log) old new h good count is =
        let f = old_frame net w l all r out.line in
        let one = one_placed f out count good.0.agrees (is_next (answer_of out.sent) (wire_says.counted old.wire) (wire_says.counted h.0.wire) count h.1.number (sym is)) in
        let rest = all_placed log h.0 new h.2 good.1 (count_after count (wire_answer (answer_of out.sent))) (counts (answer_of out.sent) (wire_says.counted old.wire) (wire_says.counted h.0.wire) count h.1.number is) in
        λ i. sym one i ∷ rest i
