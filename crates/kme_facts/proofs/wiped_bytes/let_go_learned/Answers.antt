use Rattle.std.proofs.Common.{◌∙◌, sym, subst}
use Rattle.qkd_base.specs.Name.{Name}
use Rattle.relay_core.specs.declared.group.Group.TheVariants.{ChunksOf}
use Rattle.kme_facts.specs.Settled.{AreSettled}
use Rattle.kme_facts.proofs.Settling.{opened_stays, same_some}
use Rattle.kme_facts.proofs.wiped_bytes.let_go_learned.Goals as goal

pub returns-in-Some-clause-settled : goal.returns-in-Some-clause-settled
returns-in-Some-clause-settled c = record {
  there = c.let_go_group.ensures.lets.still c.args.place c.let_go_at.ensures.settled;
  chunks = λ stream e. subst (λ (n : Name). AreSettled c.let_go_group.new.streams (ChunksOf n))
      (same_some c.in-Some.stream stream (sym c.in-Some.is ∙ c.opened_at.ensures ∙ sym (opened_stays c.let_go_at.new.streams c.let_go_group.new.streams c.args.place c.let_go_group.ensures.lets) ∙ e))
      c.let_go_group.ensures.settled;
}
