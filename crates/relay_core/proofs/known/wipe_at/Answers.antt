use Rattle.relay_core.proofs.Firsts.{got}
use Rattle.relay_core.proofs.Forgotten.{set_forgotten, past_forgotten}
use Rattle.relay_core.proofs.known.wipe_at.Goals as goal

pub returns-in-Some-clause-facts : goal.returns-in-Some-clause-facts
returns-in-Some-clause-facts c =
    set_forgotten c.args.facts.now.items c.args.place c.in-Some.fact.now c.wipe.new.fact
    (got c.args.facts.now.items c.args.place c.in-Some.fact.now c.in-Some.ensures.item.3.0 c.in-Some.ensures.value) c.wipe.ensures

pub returns-in_default-clause-facts : goal.returns-in_default-clause-facts
returns-in_default-clause-facts c = past_forgotten c.args.facts.now.items c.args.place c.in_default.ensures.item.3
