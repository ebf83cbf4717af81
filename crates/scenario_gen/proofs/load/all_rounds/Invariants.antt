use Rattle.std.proofs.Common.{◌≡◌, ◌++◌}
use Rattle.std.specs.List.{flat_map}
use Rattle.net_model.specs.Site.{count_up}
use Rattle.scenario_format.specs.Spelling.{lines_of}
use Rattle.run_model.specs.Load.{load_site, round_lines}
use Rattle.scenario_gen.proofs.load.all_rounds.Given as goal

abbrev pub invariant-loop-round : goal.invariant-loop-round
invariant-loop-round l = l.text ≡ l.fn.text ++ lines_of load_site (flat_map round_lines (count_up l.round))
