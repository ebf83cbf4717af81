use Rattle.std.proofs.Common.{◌≡◌, ◌==◌, drop}
use Rattle.std.specs.Prelude.{find}
use Rattle.kme_base.specs.Places.{ports_in}
use Rattle.kme_base.proofs.ports.end_of.Given as goal

abbrev pub invariant-loop-end : goal.invariant-loop-end
invariant-loop-end l = find (λ p. p.lane.link == l.link) (ports_in l.ends) ≡ find (λ p. p.lane.link == l.link) (ports_in (drop l.end-index l.ends))
