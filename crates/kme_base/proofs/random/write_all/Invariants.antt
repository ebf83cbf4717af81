use Rattle.std.proofs.Common.{◌≡◌, take, drop, ◌++◌}
use Rattle.kme_base.specs.Random.{with_random}
use Rattle.kme_base.proofs.random.write_all.Given as goal

abbrev pub invariant-loop-place : goal.invariant-loop-place
invariant-loop-place l = take l.place l.records ++ with_random l.rest (drop l.place l.records) ≡ with_random l.random l.initial.records
