use Rattle.relay_core.specs.declared.group.Group.TheVariants.{Named}
use Rattle.kme_facts.proofs.Settling.{settled_still}
use Rattle.kme_facts.proofs.wiped_bytes.let_go_given.Goals as goal

pub returns-clause-settled : goal.returns-clause-settled
returns-clause-settled c = record {
  named = settled_still c.let_go_named.new.streams c.let_go_group.new.streams (Named c.args.name) c.let_go_group.ensures.lets c.let_go_named.ensures.settled;
  parts = c.let_go_group.ensures.settled;
}
