use Rattle.std.proofs.Common.{refl, ap}
use Rattle.std.specs.Prelude.{Some}
use Rattle.qkd_network.proofs.Parts.{is_empty, entropy_octets, device_octets}
use Rattle.qkd_network.proofs.own_bench.new_bench.Goals as goal

pub returns-clause-fresh : goal.returns-clause-fresh
returns-clause-fresh c = record {
  whole = record { disks = c.in_ok-disks.ensures.count; entropies = c.in_ok-entropies.ensures.count; devices = c.in_ok-devices.ensures.count; wires = c.in_ok-wires.ensures.count };
  honest = λ n other within. refl;
  empty = λ n other within. is_empty _ (c.in_ok-disks.ensures.blank n other within);
  entropies = λ n other within. entropy_octets _;
  devices = λ n other within. device_octets _;
  wires = λ n other within. ap Some (c.in_ok-wires.ensures.silent n other within);
}

pub returns-clause-own : goal.returns-clause-own
returns-clause-own c =
    record { disks = c.in_ok-disks.ensures; entropies = c.in_ok-entropies.ensures; devices = c.in_ok-devices.ensures; wires = c.in_ok-wires.ensures }
