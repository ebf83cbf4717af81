-- Lanes: their places, their equality, and the opposite direction.
use Rattle.std.specs.Prelude.{ℕ, ◌+◌, ◌*◌, Bool, true, false, ◌==◌, ◌&&◌}
use Rattle.qkd_base.specs.declared.lane.Way.{Way}
use Rattle.qkd_base.specs.declared.lane.Way.TheVariants.{Up, Down}
use Rattle.qkd_base.specs.declared.lane.Lane.{Lane}

-- the octet that stands for a way: up or down
abbrev pub way_number : Way → ℕ
way_number Up = 0
way_number Down = 1

abbrev pub way_eq : Way → Way → Bool
way_eq Up Up = true
way_eq Up Down = false
way_eq Down Up = false
way_eq Down Down = true

abbrev pub lane_eq : Lane → Lane → Bool
lane_eq a b = (a.link == b.link) && way_eq a.way b.way

-- the place of a lane among all lanes: link by link, up before down
abbrev pub lane_place : Lane → ℕ
lane_place l = 2 * l.link + way_number l.way

-- the other direction of the same link
abbrev pub reverse_way : Way → Way
reverse_way Up = Down
reverse_way Down = Up

abbrev pub reverse_lane : Lane → Lane
reverse_lane l = record l { way = reverse_way l.way }
