-- A scenario of three lines: A sends what it planned, and gets two requests over HTTP.
use Rattle.std.specs.Prelude.{[], ◌∷◌, replicate, Some, None, codes}
use Rattle.declared_site.specs.declared.site.Site.{Site as Declared}
use Rattle.run_types.specs.declared.command.Command.TheVariants as commands
use Rattle.run_types.specs.declared.scenario.Scenario.{Scenario}
use Rattle.run_model.specs.Load.{numbered_from}
use Rattle.run_http.specs.Asking.{alice_and_bob, by_alice, by_carol}

abbrev pub two_sites : Declared
two_sites = record { nodes = codes "A" ∷ codes "B" ∷ []; routes = Some (0, 1) ∷ replicate 31 None; entitlements = alice_and_bob }

-- The lines come after 2 nodes, a link, 2 applications and a pair.
abbrev pub asking : Scenario
asking = record { site = two_sites; node_lines = 1 ∷ 2 ∷ []; entries = numbered_from 7 (commands.Tick 0 ∷ commands.Http 0 by_alice ∷ commands.Http 0 by_carol ∷ []) }
