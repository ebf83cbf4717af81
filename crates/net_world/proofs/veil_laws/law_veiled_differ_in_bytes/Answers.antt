use Rattle.net_world.proofs.Tables.{all_veiled_bare}
use Rattle.net_world.proofs.veil_laws.law_veiled_differ_in_bytes.Goals as goal

pub returns : goal.returns
returns c w = all_veiled_bare w.durable.facts
