use Rattle.std.proofs.Common.{◌≡◌, ◌++◌, map}
use Rattle.net_model.specs.Site.{count_up}
use Rattle.scenario_format.specs.Spelling.{lines_of}
use Rattle.run_model.specs.Load.{load_site}
use Rattle.scenario_gen.specs.LoadText.{bits_of}
use Rattle.scenario_gen.proofs.load.all_bits.Given as goal

abbrev pub invariant-loop-link : goal.invariant-loop-link
invariant-loop-link l = l.text ≡ l.fn.text ++ lines_of load_site (map (bits_of l.rounds) (count_up l.link))
