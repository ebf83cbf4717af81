use Rattle.std.proofs.Common.{◌∙◌, sym}
use Rattle.net_model.specs.Pools.{is_for}
use Rattle.relay_core.proofs.Firsts.{first_find, none_find}
use Rattle.kme_keys.proofs.holder.slave_fact.Goals as goal

pub returns-in-None : goal.returns-in-None
returns-in-None c = sym (none_find (is_for c.args.of c.args.to c.args.name) c.args.known.now.facts c.in-None.ensures.none)

pub returns-in-Some : goal.returns-in-Some
returns-in-Some c = c.at.ensures ∙ sym (first_find (is_for c.args.of c.args.to c.args.name) c.args.known.now.facts c.in-Some.place c.in-Some.ensures.first)
