use Rattle.std.proofs.Common.{◌≡◌, ◌++◌}
use Rattle.std.specs.List.{flat_map}
use Rattle.net_model.specs.Site.{count_up}
use Rattle.scenario_format.specs.Spelling.{lines_of}
use Rattle.run_model.specs.Load.{load_site}
use Rattle.scenario_gen.specs.LoadText.{ledgers_of}
use Rattle.scenario_gen.proofs.load.all_ledgers.Given as goal

abbrev pub invariant-loop-link : goal.invariant-loop-link
invariant-loop-link l = l.text ≡ l.fn.text ++ lines_of load_site (flat_map ledgers_of (count_up l.link))
