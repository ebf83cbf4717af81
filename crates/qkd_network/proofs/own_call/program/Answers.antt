use Rattle.std.proofs.Common.{inl, inr, refl}
use Rattle.qkd_network.proofs.own_call.program.Goals as goal

pub returns-in-Ok-clause-outcome : goal.returns-in-Ok-clause-outcome
returns-in-Ok-clause-outcome g c = inr (c.in-Ok.bench, c.network.new.bench, c.in-Ok.ensures.own, c.network.ensures.outcome)

pub returns-in-Err-clause-outcome : goal.returns-in-Err-clause-outcome
returns-in-Err-clause-outcome g c = inl (refl, refl, refl, refl)
