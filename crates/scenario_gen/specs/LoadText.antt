-- The text of the generated load: the lines that declare its ring, the lines of its commands, and `end`.
use Rattle.std.specs.Prelude.{ℕ, ◌+◌, ◌*◌, List, [], ◌∷◌, ◌++◌, map}
use Rattle.std.specs.List.{flat_map}
use Rattle.std.specs.Fmt.{decimal}
use lib.Chars.{codes}
use Rattle.qkd_base.specs.declared.lane.Way.TheVariants.{Up, Down}
use Rattle.net_model.specs.Site.{lane_of, count_up}
use Rattle.run_types.specs.declared.end.Ends.TheVariants.{Both}
use Rattle.run_types.specs.declared.command.Command.{Command}
use Rattle.run_types.specs.declared.command.Command.TheVariants as commands
use Rattle.scenario_format.specs.Spelling.{with_ends, lines_of}
use Rattle.run_model.specs.Load.{load_nodes, load_pairs, load_site, round_lines}

abbrev pub node_name : ℕ → List ℕ
node_name v = codes " n" ++ decimal v

abbrev pub sae_name : ℕ → List ℕ
sae_name v = codes " s" ++ decimal v

-- Eight nodes in a ring, an application at each node, and all pairs of applications.
abbrev pub declared_lines : List (List ℕ)
declared_lines =
    map (λ v. codes "node" ++ node_name v) load_nodes
    ++ map (λ v. codes "link" ++ node_name v ++ node_name (v + 1)) (count_up 7) ++ (codes "link" ++ node_name 0 ++ node_name 7) ∷ []
    ++ map (λ v. codes "sae" ++ sae_name v ++ node_name v) load_nodes
    ++ map (λ p. codes "allow" ++ sae_name p.0 ++ sae_name p.1) load_pairs

abbrev pub bits_of : (rounds link : ℕ) → Command
bits_of rounds link = commands.Bits link Both (2 * rounds)

abbrev pub ledgers_of : (link : ℕ) → List Command
ledgers_of link = commands.Ledger (lane_of link Up) ∷ commands.Ledger (lane_of link Down) ∷ []

abbrev pub load_commands : (rounds : ℕ) → List Command
load_commands rounds = map (bits_of rounds) (count_up 8) ++ flat_map round_lines (count_up rounds) ++ flat_map ledgers_of (count_up 8)

unfoldable pub load_text : (rounds : ℕ) → List ℕ
load_text rounds = with_ends declared_lines ++ (lines_of load_site (load_commands rounds) ++ codes "end\n")
