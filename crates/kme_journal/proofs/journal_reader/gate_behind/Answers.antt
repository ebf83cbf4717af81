use Rattle.std.proofs.Common.{◌+◌, ℕ, List, arith}
use Rattle.kme_journal.proofs.Gates.{fewer, one_more}
use Rattle.kme_journal.proofs.journal_reader.gate_behind.Goals as goal

pub overflow_add-gate : goal.overflow_add-gate
overflow_add-gate c =
    let bodies : List (List ℕ) = c.args.batches.now in
    let i : ℕ = c.loop-octets.octets-index in
    omega (arith, one_more bodies i c.octets-item.result c.loop-octets-test.true c.octets-item.is, fewer bodies (i + 1), c.len.ensures)

pub overflow_add-gate-in-loop-octets : goal.overflow_add-gate-in-loop-octets
overflow_add-gate-in-loop-octets c =
    let bodies : List (List ℕ) = c.args.batches.now in
    let i : ℕ = c.loop-octets.octets-index in
    omega (arith, one_more bodies i c.octets-item.result c.loop-octets-test.true c.octets-item.is, fewer bodies (i + 1), c.len.ensures, c.loop-octets.invariant)

pub loop-octets-preserved : goal.loop-octets-preserved
loop-octets-preserved c =
    let bodies : List (List ℕ) = c.args.batches.now in
    let i : ℕ = c.loop-octets.octets-index in
    omega (arith, one_more bodies i c.octets-item.result c.loop-octets-test.true c.octets-item.is, c.len.ensures, c.loop-octets.invariant)
