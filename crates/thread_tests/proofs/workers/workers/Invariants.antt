use Rattle.std.proofs.Common.{◌≡◌, [], All, length}
use Rattle.thread_tests.proofs.workers.workers.Given as goal

abbrev pub invariant-loop-requests : goal.invariant-loop-requests
invariant-loop-requests l = record {
  count : length l.workers.items ≡ l.requests-index;
  fresh : All (λ worker. (worker.pass ≡ 0) × (worker.door.accepted ≡ 0) × (worker.door.done ≡ [])) l.workers.items;
}
