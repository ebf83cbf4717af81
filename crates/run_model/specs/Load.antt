-- The generated load: eight nodes in a ring, with an application at each. In each round, keys go from one node to
-- another.
use Rattle.std.specs.Prelude.{ℕ, ◌+◌, ◌*◌, ◌%◌, ◌==◌, ◌||◌, not, List, [], ◌∷◌, ◌++◌, map, filter, count_by, replicate, Some, None}
use Rattle.std.specs.List.{flat_map}
use Rattle.std.specs.FinSet as set
use Rattle.std.specs.Fmt.{decimal}
use lib.Chars.{codes}
use Rattle.qkd_base.specs.Name.{Name}
use Rattle.qkd_base.specs.declared.key_name.NameKind.TheVariants.{Key}
use Rattle.qkd_base.specs.declared.lane.Way.TheVariants.{Up, Down}
use Rattle.net_model.specs.Site.{lane_of, count_up}
use Rattle.declared_site.specs.declared.site.Site.{Site}
use Rattle.run_types.specs.declared.end.Ends.TheVariants.{Both}
use Rattle.run_types.specs.declared.command.Command.{Command}
use Rattle.run_types.specs.declared.command.Command.TheVariants as commands
use Rattle.run_types.specs.declared.entry.Entry.{Entry}
use Rattle.run_types.specs.declared.entry.Entry.TheVariants as entries
use Rattle.run_types.specs.declared.scenario.Scenario.{Scenario}

abbrev pub load_nodes : List ℕ
load_nodes = count_up 8

-- all pairs of two different applications
abbrev pub load_pairs : List (ℕ × ℕ)
load_pairs = flat_map (λ first. map (λ last. (first, last)) (filter (λ last. not (last == first)) load_nodes)) load_nodes

-- The nodes are n0 to n7. Link k joins node k and node k + 1, and the last link joins node 0 and node 7. The
-- applications are s0 to s7, each at home at the node of its number.
abbrev pub load_site : Site
load_site =
    record {
      nodes = map (λ v. codes "n" ++ decimal v) load_nodes;
      routes = map (λ v. Some (v, v + 1)) (count_up 7) ++ Some (0, 7) ∷ replicate 24 None;
      entitlements = record { saes = map (λ v. record { id = codes "s" ++ decimal v; home = v }) load_nodes; allowed = set.from_list load_pairs };
    }

-- In round r, application r mod 8 is the master, and application (3r + 1) mod 8 is the slave.
abbrev pub master_in : (round : ℕ) → ℕ
master_in round = round % 8

abbrev pub slave_in : (round : ℕ) → ℕ
slave_in round = (3 * round + 1) % 8

-- How many names a node gave before a round. In each round, the master's node gives four names of keys, and the slave's
-- node four names of notes.
abbrev pub names_before : (node round : ℕ) → ℕ
names_before node round = 4 * count_by (λ r. (master_in r == node) || (slave_in r == node)) (count_up round)

abbrev pub key_names : (round : ℕ) → List Name
key_names round =
    let node = master_in round in
    let before = names_before node round in
    map (λ k. record { node = node; kind = Key; count = before + k }) (1 ∷ 2 ∷ 3 ∷ 4 ∷ [])

-- In a round, four keys of 256 bits are made, relayed, and handed to both applications.
abbrev pub round_lines : (round : ℕ) → List Command
round_lines round =
    let master = master_in round in
    let slave = slave_in round in
    commands.Fill master slave 256 4 ∷ commands.Settle 40 ∷ commands.Enc master master slave 4 256 ∷ commands.Dec slave slave master (key_names round) ∷ []

abbrev pub numbered_from : ℕ → List Command → List Entry
numbered_from number [] = []
numbered_from number (c ∷ cs) = entries.Line (record { number = number; command = c }) ∷ numbered_from (number + 1) cs

-- The entries come after 8 nodes, 8 links, 8 applications and 56 pairs. They take link bytes, two blocks of each lane
-- for each round. Then come the rounds, and the ledgers of all lanes.
unfoldable pub load_entries : (rounds : ℕ) → List Entry
load_entries rounds =
    numbered_from 81
    (map (λ link. commands.Bits link Both (2 * rounds)) (count_up 8) ++ flat_map round_lines (count_up rounds) ++
    flat_map (λ link. commands.Ledger (lane_of link Up) ∷ commands.Ledger (lane_of link Down) ∷ []) (count_up 8))

-- the lines of the nodes are the first ones
abbrev pub load_scenario : (rounds : ℕ) → Scenario
load_scenario rounds = record { site = load_site; node_lines = map (λ v. v + 1) load_nodes; entries = load_entries rounds }
