use Rattle.qkd_base.proofs.Names.{is_name_at}
use Rattle.qkd_base.proofs.key_name.KeyName.from_octets.Goals as goal

pub returns-clause-name : goal.returns-clause-name
returns-clause-name c = is_name_at c.args.octets.now _ c.name_of.ensures.is c.name_of.ensures.all
