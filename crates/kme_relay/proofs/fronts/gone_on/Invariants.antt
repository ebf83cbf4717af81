use Rattle.std.proofs.Common.{◌-◌, length}
use Rattle.kme_relay.specs.UnderWay.{AreUnderWay}
use Rattle.kme_relay.proofs.fronts.gone_on.Given as goal

abbrev pub invariant-loop-place : goal.invariant-loop-place
invariant-loop-place l = AreUnderWay l.known.me l.known.acked l.known.facts l.window.volatile l.lane l.to l.front

abbrev pub decreases-loop-place : goal.decreases-loop-place
decreases-loop-place l = length l.known.facts - l.front
