-- A network that meets the premises of the laws, with runs and a block.
use Rattle.std.specs.Prelude.{◌≡◌, true, List, [], ◌∷◌, ◌++◌, length, None}
use Rattle.qkd_base.specs.declared.lane.Way.TheVariants.{Up, Down}
use Rattle.net_model.specs.declared.event.Event.TheVariants.{Plan}
use Rattle.net_model.specs.World.{Network, World, first}
use Rattle.net_model.specs.Action.{Action, Ok, IoFault, Ask, Allocate, Transmit, Recovers}
use Rattle.net_model.specs.Step.{IsRun, run}
use Rattle.net_model.specs.Deliveries.{deliveries, pairs_of}
use Rattle.net_model.specs.BlockOrder.{Parts, IsBlock}
use Rattle.hop_frames.specs.Sealing.{hop_sealing}
use Rattle.run_types.specs.declared.command.Command.TheVariants as commands
use Rattle.run_types.specs.declared.end.Ends.TheVariants.{Both}
use Rattle.model_examples.specs.Networks.{two_nodes, lane, key}
use Rattle.run_model.specs.Works.{Works, IsBlockOf}
use Rattle.model_examples.specs.Row.{Step, Says, Finds, line, line_by, ran, no_http}
use Rattle.model_examples.specs.Runs.{one_key}
use Rattle.model_examples.specs.WorldRows.{first_order}

-- two nodes and a link, whose entropies give the octet 7 for ever
abbrev pub sevens : Network
sevens = record (two_nodes []) { entropy = λ v. record { octet = λ i. 7; end = None } }

-- the network of the witness: the same with real frames
abbrev pub here : Network
here = record sevens { sealing = hop_sealing }

-- the actions of a worked scenario
abbrev pub actions_of : List Step → List Action
actions_of lines = (ran sevens lines).actions

abbrev pub after : List Step → World
after lines = run here first (actions_of lines)

-- a key is made, told to its target and confirmed
abbrev pub Runs : Type 0
Runs = IsRun here first (actions_of one_key)

-- the key is handed to both applications
abbrev pub handed_lines : List Step
handed_lines = one_key ++ line (commands.Enc 0 0 1 1 256) ∷ line (commands.Dec 1 1 0 (key 1 ∷ [])) ∷ []

abbrev pub Hands : Type 0
Hands = IsRun here first (actions_of handed_lines) × (pairs_of (deliveries here first (actions_of handed_lines)) ≡ (key 1, 0) ∷ (key 1, 1) ∷ [])

-- the handing fails in doubt, and the next start finds its batch
abbrev pub stopped_lines : List Step
stopped_lines = one_key ++ line_by (commands.Enc 0 0 1 1 256) (Says IoFault ∷ []) ∷ []

abbrev pub Doubts : Type 0
Doubts = IsRun here first (actions_of (stopped_lines ++ line_by (commands.Start 0) (Finds (Recovers true) ∷ []) ∷ [])) × (length ((after stopped_lines).in_doubt 0).batch ≡ 1)

-- two frames are on each wire, and there are two facts
abbrev pub Relays : Type 0
Relays = let end = after one_key in
    length (end.wire (lane 0 Up)) ∷ length (end.wire (lane 0 Down)) ∷ length end.durable.facts ∷ [] ≡ 2 ∷ 2 ∷ 2 ∷ []

-- a block in which a manager plans a frame, whose bytes are claimed and which is put on the wire
abbrev pub block_start : World
block_start = after (line (commands.Bits 0 Both 2) ∷ line (commands.Fill 0 1 256 1) ∷ [])

abbrev pub parts : Parts
parts = record {
  histories = (Ask 0 Plan Ok ∷ []) ∷ [] ∷ [];
  claims = Allocate first_order ∷ [];
  puts = Transmit (lane 0 Up) 0 Ok ∷ [];
}

abbrev pub Blocks : Type 0
Blocks = IsBlock here block_start parts

-- the block told as lines: one worker does a tick
abbrev pub works : Works
works =
    record {
      histories = (record { place = 0; action = Ask 0 Plan Ok } ∷ []) ∷ [] ∷ [];
      claims = Allocate first_order ∷ [];
      puts = record { place = 0; action = Transmit (lane 0 Up) 0 Ok } ∷ [];
      left_out = None;
    }

abbrev pub BlocksOfLines : Type 0
BlocksOfLines = IsBlockOf no_http here 1 block_start (record { number = 9; command = commands.Tick 0 } ∷ []) works
