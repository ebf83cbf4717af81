use Rattle.std.proofs.Common.{take}
use Rattle.par_managers.specs.Opening.{AllOpened}
use Rattle.par_managers.proofs.opening_shares.open_each.Given as goal

abbrev pub invariant-loop-side : goal.invariant-loop-side
invariant-loop-side g l = AllOpened l.fn.state (take l.side-index l.sides) l.shares.items l.issuers.items l.used.items
