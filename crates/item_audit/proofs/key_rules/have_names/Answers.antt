use Rattle.std.proofs.Common.{arith}
use Rattle.item_audit.proofs.HandedNames.{other_lengths}
use Rattle.item_audit.proofs.key_rules.have_names.Goals as goal

pub returns-then-names-keys : goal.returns-then-names-keys
returns-then-names-keys c = other_lengths c.args.names.now c.args.keys.now (omega (arith, c.if-names-keys.true))
