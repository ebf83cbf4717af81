use Rattle.std.proofs.Common.{◌≡◌, drop}
use Rattle.net_model.specs.Table.{is_part_of, parts_of}
use Rattle.kme_keys.specs.Candidates.{are_parts_to}
use Rattle.kme_keys.proofs.Behind.{passing}
use Rattle.kme_keys.proofs.candidates.are_parts_to.Given as goal

abbrev pub invariant-loop-slave : goal.invariant-loop-slave
invariant-loop-slave l =
    are_parts_to l.pool.master l.pool.bits (passing (is_part_of l.key) l.known.facts l.from) (drop l.slave-index l.pool.slaves.now)
    ≡ are_parts_to l.pool.master l.pool.bits (parts_of l.known.facts l.key) l.pool.slaves.now
