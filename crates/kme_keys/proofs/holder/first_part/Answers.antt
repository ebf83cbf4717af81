use Rattle.std.proofs.Common.{◌∙◌, sym}
use Rattle.net_model.specs.Table.{is_part_of}
use Rattle.relay_core.proofs.Firsts.{first_find, none_find}
use Rattle.kme_keys.proofs.holder.first_part.Goals as goal

pub returns-in-None : goal.returns-in-None
returns-in-None c = sym (none_find (is_part_of c.args.name) c.args.known.now.facts c.in-None.ensures.none)

pub returns-in-Some : goal.returns-in-Some
returns-in-Some c = c.at.ensures ∙ sym (first_find (is_part_of c.args.name) c.args.known.now.facts c.in-Some.place c.in-Some.ensures.first)
