use Rattle.std.proofs.Common.{◌≡◌, ◌++◌, drop, map}
use Rattle.scenario_check.specs.Texts.{mark}
use Rattle.scenario_check.proofs.text.marked.Given as goal

abbrev pub invariant-loop-octet : goal.invariant-loop-octet
invariant-loop-octet l = l.text ++ map mark (drop l.octet-index l.octets) ≡ l.fn.text ++ map mark l.octets
