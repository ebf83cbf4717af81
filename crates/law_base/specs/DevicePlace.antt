-- The place of a lane's byte in the list of octets of its link's device.
use Rattle.std.specs.Prelude.{ℕ, ◌+◌, ◌*◌, ◌/◌, ◌%◌}
use Rattle.qkd_base.specs.declared.lane.Way.{Way}
use Rattle.qkd_base.specs.declared.lane.Way.TheVariants.{Up, Down}

-- Blocks have 1,024 octets. Those with an even number belong to the lane up, the others to the lane down.
abbrev pub device_place : Way → ℕ → ℕ
device_place Up offset = 1024 * (2 * (offset / 1024)) + offset % 1024
device_place Down offset = 1024 * (2 * (offset / 1024) + 1) + offset % 1024
