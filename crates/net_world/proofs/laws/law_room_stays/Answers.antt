use Rattle.std.proofs.Common.{arith}
use Rattle.net_world.proofs.laws.law_room_stays.Goals as goal

pub returns : goal.returns
returns g c b old new site actions t room = record {
  disks = omega (arith, room.disks, t.nodes);
  entropies = omega (arith, room.entropies, t.nodes);
  devices = omega (arith, room.devices, t.links);
  wires = omega (arith, room.wires, t.sides);
}
