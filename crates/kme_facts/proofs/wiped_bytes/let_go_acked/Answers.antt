use Rattle.std.proofs.Common.{◌∙◌, refl, sym}
use Rattle.kme_facts.proofs.Named.{part_there}
use Rattle.kme_facts.proofs.Settling.{need_in}
use Rattle.kme_facts.proofs.wiped_bytes.let_go_acked.Goals as goal

pub let_go_unless-requires : goal.let_go_unless-requires
let_go_unless-requires c =
    sym (need_in c.args.streams.now c.ends.result.now c.args.place c.needs_told_at-needed.result c.needs_told_at-needed.result c.ends.ensures c.needs_told_at-needed.ensures refl)

pub returns-in-Some-clause-there : goal.returns-in-Some-clause-there
returns-in-Some-clause-there c =
    part_there c.args.streams.now c.let_go_group.new.streams c.args.place c.in-Some.key c.let_go_group.ensures.lets (sym c.key_at.ensures ∙ c.in-Some.is) c.let_go_group.ensures.settled
