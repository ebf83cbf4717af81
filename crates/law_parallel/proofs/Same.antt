-- Frames that count as the same: repeats of the same frame, and new orders of the same transmission.
use Rattle.std.proofs.Common.{◌≡◌, Bool, true, false, ◌&&◌, refl, sym, ◌∙◌, ap}
use Rattle.std.specs.Prelude.{◌==◌}
use Rattle.qkd_base.specs.Lane.{lane_eq}
use Rattle.qkd_base.specs.declared.lane.Lane.{Lane}
use Rattle.net_model.specs.World.{Transmission}
use Rattle.net_model.specs.Window.{transmission_eq}
use Rattle.net_model.specs.Tick.{Emission, Again, New, ordered}
use Rattle.law_base.proofs.Base.{and_left, and_both, eq_same, lane_same, lane_eq_from}
use Rattle.law_base.proofs.Lists.{transmission_same, transmission_from}
use Rattle.law_locality.proofs.Claims.{lanes_apart}
use Rattle.law_parallel.specs.Putting.{lane_of}

abbrev pub is_same : Emission → Emission → Bool
is_same (Again r) (Again s) = lane_eq s.lane r.lane && (s.offset == r.offset)
is_same (New o) (New q) = transmission_eq (ordered o) (ordered q)
is_same _ _ = false

pub same_self : (e : Emission) → is_same e e ≡ true
same_self (Again r) = and_both (lane_eq r.lane r.lane) (r.offset == r.offset) (lane_same r.lane) (eq_same r.offset)
same_self (New o) = transmission_same (ordered o)

pub same_lane : (e x : Emission) → is_same e x ≡ true → lane_eq (lane_of x) (lane_of e) ≡ true
same_lane (Again r) (Again s) h = and_left (lane_eq s.lane r.lane) (s.offset == r.offset) h
same_lane (New o) (New q) h = ap (λ (t : Transmission). lane_eq t.lane o.lane) (sym (transmission_from (ordered o) (ordered q) h)) ∙ lane_same o.lane
same_lane (Again r) (New o) h = cc
same_lane (New o) (Again r) h = cc

pub lane_eq-sym : (a b : Lane) → lane_eq a b ≡ lane_eq b a
lane_eq-sym a b = elim (lane_eq a b) as (λ t. lane_eq a b ≡ t → t ≡ lane_eq b a) [
  | true ↦ λ e. sym (ap (λ (l : Lane). lane_eq b l) (lane_eq_from a b e) ∙ lane_same b)
  | false ↦ λ e. sym (lanes_apart a b e)
] refl
