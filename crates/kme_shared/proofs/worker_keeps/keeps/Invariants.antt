use Rattle.std.proofs.Common.{◌≡◌, ◌++◌, map}
use Rattle.std.specs.List.{AllZip, AllByRecursion}
use Rattle.lane_shares.specs.Names.{knows, Fits}
use Rattle.kme_shared.specs.Keeping.{IsFresh}
use Rattle.kme_shared.proofs.worker_keeps.keeps.Given as goal

abbrev pub invariant-loop-shift : goal.invariant-loop-shift
invariant-loop-shift l = record {
  next : goal.iterator-loop-shift.can_next l.shift-iterator;
  finite : goal.iterator-loop-shift.is_finite l.shift-iterator;
  fits : AllZip Fits l.shares l.issuers;
  same : map knows l.issuers ≡ map knows l.fn.issuers;
  shifts : map (λ keep. keep.shift.items) l.keeps.items ++ map (λ shift. shift.items) l.shift-iterator.rest.items ≡ map (λ shift. shift.items) l.fn.shifts.items;
  fresh : AllByRecursion (IsFresh l.shares) l.keeps.items;
}
