-- The number of frames on wires.
use Rattle.std.specs.Prelude.{◌≡◌, ℕ, List, length, map, sum_by, nat_lt, if◌then◌else◌}
use Rattle.qkd_base.specs.declared.lane.Lane.{Lane}
use Rattle.net_model.specs.Site.{Site, count_up}
use Rattle.net_model.specs.World.{World}
use Rattle.run_model.specs.Script.{Script, Looks, Ends, then_comes}
use Rattle.run_model.specs.Lines.{ticks, all_passes, all_lanes, on_wires}
use Rattle.run_lines.specs.declared.settle_rounds.Frames.{Frames}

abbrev pub on_wire : World → Lane → ℕ
on_wire w l = length (w.wire l)

-- the numbers of frames on the wires of these lanes, one by one and together
pub record AreOn (lanes : List Lane) (w : World) (frames : Frames) : Type 0 where
  pub each : frames.each.items ≡ map (on_wire w) lanes
  pub all : frames.all ≡ sum_by (on_wire w) lanes

-- A round, followed by `next` if a frame was put in it. Frames that were on the wires before the round aren't passed.
abbrev pub round : Site → (next : Script) → Script
round site next =
    Looks (λ before. then_comes (ticks site (count_up site.nodes)) (
    Looks (λ now. then_comes (all_passes before now (all_lanes site)) (if nat_lt (on_wires site before) (on_wires site now) then next else Ends))))
