use Rattle.std.proofs.Common.{◌≡◌, drop}
use Rattle.item_audit.specs.Handing.{have_names}
use Rattle.item_audit.proofs.key_rules.have_names.Given as goal

abbrev pub invariant-loop-place : goal.invariant-loop-place
invariant-loop-place l = have_names (drop l.place l.names) (drop l.place l.keys) ≡ have_names l.names l.keys
