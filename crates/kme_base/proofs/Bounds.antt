-- Each change of an end keeps its bounds: at most 1,024 blocks, and nothing past the bytes received.
use Rattle.std.proofs.Common.{◌≡◌, ℕ, ◌+◌, ◌<◌, ◌≤◌, ◌==◌, ◌&&◌, nat_lt, nat_le, Bool, true, false, List, [], ◌∷◌, ◌++◌, length, map, length-append, refl, sym, ap, ◌∙◌, subst, arith}
use Rattle.std.specs.Prelude.{if◌then◌else◌}
use Rattle.std.proofs.lemmas.Bool.Decides.{nat_tests}
use Rattle.qkd_base.specs.declared.lane.Way.{Way}
use Rattle.qkd_base.specs.declared.lane.Way.TheVariants.{Up, Down}
use Rattle.qkd_base.specs.LaneBytes.{lane_len}
use Rattle.qkd_base.specs.Lane.{lane_eq}
use Rattle.qkd_base.specs.declared.lane.Lane.{Lane}
use Rattle.net_model.specs.declared.order.Order.{Order}
use Rattle.net_model.specs.View.{Port, received_of}
use Rattle.net_model.specs.Fold.{empty_port, with_block, with_lease}
use Rattle.net_model.specs.Records.{keyed_lease, is_first}
use Rattle.kme_base.specs.Places.{IsEnd, AreEnds, lane_need, need_within, planned_within, restarted, with_planned}

pub ends_kept : (f : Port → Port) → ((p : Port) → IsEnd p → IsEnd (f p)) → (ps : List Port) → AreEnds ps → AreEnds (map f ps)
ends_kept f each [] are = tt
ends_kept f each (p ∷ ps) are = (each p are.0, ends_kept f each ps are.1)

one_of : (t : Bool) (a b : Port) → (t ≡ true → IsEnd a) → IsEnd b → IsEnd (if t then a else b)
one_of true a b x y = x refl
one_of false a b x y = y

empty_end : (l : Lane) → IsEnd (empty_port l)
empty_end l = record { blocks = omega arith; lease = omega arith; planned = omega arith; recovered = omega arith }

pub empty_ends : (ls : List Lane) → AreEnds (map empty_port ls)
empty_ends [] = tt
empty_ends (l ∷ ls) = (empty_end l, empty_ends ls)

-- A lane has no fewer bytes after one more block.

more_bytes : (way : Way) (n : ℕ) → lane_len way n ≤ lane_len way (n + 1)
more_bytes Up n = omega arith
more_bytes Down n = omega arith

first_bytes : (way : Way) (n : ℕ) → 0 < lane_len way n → 8 ≤ lane_len way n
first_bytes Up n some = omega (arith, some)
first_bytes Down n some = omega (arith, some)

keyed_within : (before after end : ℕ) → end ≤ before → before ≤ after → (0 < after → 8 ≤ after) → keyed_lease before after end ≤ after
keyed_within before after end within more first = elim (is_first before after) as (λ t. is_first before after ≡ t → (if t then 8 else end) ≤ after) [
  | true ↦ λ e. first (grind (arith, nat_tests))
  | false ↦ λ e. omega (arith, within, more)
] refl

keyed_above : (before after end low : ℕ) → low ≤ end → end ≤ before → low ≤ keyed_lease before after end
keyed_above before after end low above within = elim (is_first before after) as (λ t. is_first before after ≡ t → low ≤ (if t then 8 else end)) [
  | true ↦ λ e. grind (arith, nat_tests)
  | false ↦ λ e. above
] refl

pub block_end : (link number : ℕ) (bytes : List ℕ) (p : Port) → IsEnd p → IsEnd (with_block link number bytes p)
block_end link number bytes p is = one_of ((p.lane.link == link) && (number == length p.blocks) && nat_lt number 1024) _ p taken is
  where
    taken : ((p.lane.link == link) && (number == length p.blocks) && nat_lt number 1024) ≡ true → IsEnd (record p {
      blocks = p.blocks ++ bytes ∷ [];
      lease = keyed_lease (received_of p) (lane_len p.lane.way (number + 1)) p.lease;
      planned = keyed_lease (received_of p) (lane_len p.lane.way (number + 1)) p.planned;
    })
    taken t =
        let next : number ≡ length p.blocks = grind (arith, nat_tests) in
        let few : number < 1024 = grind (arith, nat_tests) in
        let long : length (p.blocks ++ bytes ∷ []) ≡ number + 1 = length-append p.blocks (bytes ∷ []) ∙ ap (λ (n : ℕ). n + 1) (sym next) in
        let after : lane_len p.lane.way (number + 1) ≡ lane_len p.lane.way (length (p.blocks ++ bytes ∷ [])) = ap (lane_len p.lane.way) (sym long) in
        let more : received_of p ≤ lane_len p.lane.way (number + 1) = subst (λ (n : ℕ). lane_len p.lane.way n ≤ lane_len p.lane.way (number + 1)) next (more_bytes p.lane.way number) in
        let within = λ (end : ℕ) (h : end ≤ received_of p). keyed_within (received_of p) (lane_len p.lane.way (number + 1)) end h more (first_bytes p.lane.way (number + 1)) in
        record {
          blocks = omega (arith, long, few);
          lease = subst (λ (n : ℕ). keyed_lease (received_of p) (lane_len p.lane.way (number + 1)) p.lease ≤ n) after (within p.lease is.lease);
          planned = subst (λ (n : ℕ). keyed_lease (received_of p) (lane_len p.lane.way (number + 1)) p.planned ≤ n) after (within p.planned is.planned);
          recovered = keyed_above (received_of p) (lane_len p.lane.way (number + 1)) p.lease p.recovered is.recovered is.lease;
        }

pub lease_end : (l : Lane) (end : ℕ) (p : Port) → IsEnd p → IsEnd (with_lease l end p)
lease_end l end p is =
    one_of (lane_eq p.lane l && nat_le p.lease end && nat_le end (received_of p)) (record p { lease = end }) p
    (λ t. let more : p.lease ≤ end = grind (arith, nat_tests) in
    let within : end ≤ received_of p = grind (arith, nat_tests) in
    record { blocks = is.blocks; lease = within; planned = is.planned; recovered = omega (arith, more, is.recovered) }) is

more_planned : (n : ℕ) (p : Port) → nat_le (p.planned + n) (received_of p) ≡ true → IsEnd p → IsEnd (with_planned n p)
more_planned n p fits is = record { blocks = is.blocks; lease = is.lease; planned = grind (arith, nat_tests); recovered = is.recovered }

pub planned_end : (l : Lane) (n : ℕ) (p : Port) → IsEnd p → IsEnd (planned_within l n p)
planned_end l n p is =
    one_of (lane_eq p.lane l && nat_le (p.planned + n) (received_of p)) (with_planned n p) p
    (λ t. more_planned n p (grind (arith, nat_tests)) is) is

pub need_end : (orders : List Order) (p : Port) → IsEnd p → IsEnd (need_within orders p)
need_end orders p is =
    one_of (nat_le (p.planned + lane_need p.lane orders) (received_of p)) (with_planned (lane_need p.lane orders) p) p
    (λ t. more_planned (lane_need p.lane orders) p t is) is

pub restarted_end : (p : Port) → IsEnd p → IsEnd (restarted p)
restarted_end p is = record { blocks = is.blocks; lease = is.lease; planned = is.lease; recovered = omega arith }
