-- Blocks of lines that several workers do, and the results of runs.
use Rattle.std.specs.Prelude.{◌≡◌, ◌∷◌, ◌++◌, ℕ, ◌&&◌, [], Bool, true, false, List, length, map, not, Some, None}
use Rattle.std.specs.List.{list_all}
use Rattle.qkd_base.specs.declared.lane.Lane.{Lane}
use Rattle.qkd_base.specs.declared.lane.Way.TheVariants.{Up, Down}
use Rattle.net_model.specs.declared.event.Event.TheVariants as events
use Rattle.net_model.specs.Item.{DataItem, AckItem}
use Rattle.net_model.specs.Site.{count_up}
use Rattle.net_model.specs.World.{Network, World, first}
use Rattle.net_model.specs.View.{View, Port}
use Rattle.net_model.specs.Needed.{view_of}
use Rattle.net_model.specs.Fold.{view_restarted, recovered_view}
use Rattle.net_model.specs.Faults.{disk_faults, entropy_faults, device_faults, wire_faults, armings}
use Rattle.net_model.specs.Deliveries.{deliveries}
use Rattle.net_model.specs.Action.{Ok, IoFault, OutOfMemory, EntropyFault, DeviceFault, Interrupted, Recovers, Action, Ask, Allocate, Transmit, Deliver}
use Rattle.net_model.specs.Action as actions
use Rattle.net_model.specs.BlockOrder.{IsMerge}
use Rattle.run_types.specs.declared.command.Command.{Command}
use Rattle.run_types.specs.declared.command.Command.TheVariants.{Bits, Fill, Tick, Settle, Pass, Crash, Start, Cut, Fail, Enc, Dec, Status, Http}
use Rattle.run_types.specs.declared.end.Ends.TheVariants.{Both}
use Rattle.run_types.specs.declared.end.Ends.TheVariants as ends
use Rattle.run_types.specs.declared.entry.Entry.TheVariants as entries
use Rattle.run_types.specs.declared.image.Image.TheVariants.{Kept}
use Rattle.run_types.specs.declared.refusal.Refusal.TheVariants as refusals
use Rattle.run_types.specs.declared.payload_kind.PayloadKind.TheVariants as kinds
use Rattle.run_types.specs.declared.frame_result.FrameResult.TheVariants.{Taken, Again, Refused}
use Rattle.run_types.specs.declared.unsent_cause.UnsentCause.TheVariants as causes
use Rattle.run_types.specs.declared.item.Item.TheVariants as items
use Rattle.run_model.specs.Play.{Whole, NoMemory}
use Rattle.run_model.specs.Works.{Works, Work, flat, asked_by, plain_work, are_put, claimed, turns_done, may_stand_in_block}
use Rattle.run_model.specs.Report.{IsRunOf, Acts, tasks}
use Rattle.run_model.specs.Left.{wire_octets, batches_made, to_masters, to_slaves}
use Rattle.model_examples.specs.Networks.{lane, key, note, octets_on, two_nodes, two_spokes}
use Rattle.model_examples.specs.Row.{Says, Finds, Well, Step, Block, Ran, line, line_by, at, took, row, ran, no_http, numbered_lines}

abbrev pub work : ℕ → Action → Work
work place action = record { place = place; action = action }

abbrev pub told_on : Lane → ℕ → Action
told_on l n = Allocate (record { lane = l; item = DataItem (key n); received_offset = None })

-- ---- Four lines and two workers. Worker 1's fill comes before worker 0's tick, and wants more octets than the entropy has left. The block's pass is of a
-- frame that is not on the wire yet when the block begins.

abbrev pub four_lines : List Command
four_lines = Tick 0 ∷ Fill 0 1 256 1 ∷ Pass (lane 0 Up) 0 ∷ Status 0 0 1 ∷ []

abbrev pub four_works : Works
four_works =
    record {
      histories = (work 1 (Ask 0 (events.Fill 0 1 256 1) Ok) ∷ work 0 (Ask 0 events.Plan Ok) ∷ work 3 (Ask 0 (events.Status 0 1) Ok) ∷ []) ∷ [] ∷ [];
      claims = told_on (lane 0 Up) 1 ∷ [];
      puts = work 0 (Transmit (lane 0 Up) 0 Ok) ∷ [];
      left_out = None;
    }

abbrev pub filled_once : List Step
filled_once = line (Bits 0 Both 2) ∷ line (Fill 0 1 256 1) ∷ []

abbrev pub TwoWorkers : Type 0
TwoWorkers =
    row (two_nodes (octets_on 0 32)) (filled_once ++ Block four_lines four_works ∷ line (Pass (lane 0 Up) 0) ∷ []) ≡ (
      took 1 0 2 ++
          (at 2 (items.Made 1 (key 1)) ∷
          at 5 (items.Passed (lane 0 Up) 0 (Refused (refusals.NoFrame 0))) ∷
          at 4 (items.Refused refusals.NoRandom) ∷
          at 3 (items.Ticked 0 1 0) ∷
          at 6 (items.Ready 0) ∷
          at 3 (items.Sent (lane 0 Up) 0 8 58) ∷
          at 7 (items.Passed (lane 0 Up) 0 (Taken kinds.Key (key 1))) ∷ []),
      Whole,
      true,
    )

abbrev pub at_start : World
at_start = (ran (two_nodes (octets_on 0 32)) filled_once).world

-- the first manager's history is a merge of what the two workers ask; no worker asks for a line that is left out
abbrev pub MergedHistory : Type 0
MergedHistory =
    IsMerge (map (λ k. asked_by no_http (two_nodes (octets_on 0 32)).site at_start None 2 k 0 0 (numbered_lines 3 four_lines)) (count_up 2))
    (map plain_work (work 1 (Ask 0 (events.Fill 0 1 256 1) Ok) ∷ work 0 (Ask 0 events.Plan Ok) ∷ work 3 (Ask 0 (events.Status 0 1) Ok) ∷ []))

abbrev pub Parts : Type 0
Parts =
    map (λ k. asked_by no_http (two_nodes (octets_on 0 32)).site at_start (Some (1 ∷ [])) 2 k 0 0 (numbered_lines 3 four_lines)) (count_up 2) ≡
    ((work 0 (Ask 0 events.Plan Ok) ∷ []) ∷ (work 3 (Ask 0 (events.Status 0 1) Ok) ∷ []) ∷ [])

-- a put must be for the tick of its line, and for no other line
abbrev pub puts_fit : List Work → Bool
puts_fit puts =
    let net = two_nodes (octets_on 0 32) in are_put (claimed net at_start four_works) (flat (turns_done net at_start four_works)) puts

abbrev pub PutByLine : Type 0
PutByLine = (puts_fit four_works.puts && not (puts_fit (work 3 (Transmit (lane 0 Up) 0 Ok) ∷ [])) && not (puts_fit [])) ≡ true

-- the run's own memory runs out in a block: the other lines are done, none of them is reported, and the run ends
abbrev pub left_out_works : Works
left_out_works =
    record {
      histories = (work 0 (Ask 0 events.Plan Ok) ∷ work 3 (Ask 0 (events.Status 0 1) Ok) ∷ []) ∷ [] ∷ [];
      claims = told_on (lane 0 Up) 1 ∷ [];
      puts = work 0 (Transmit (lane 0 Up) 0 Ok) ∷ [];
      left_out = Some (1 ∷ []);
    }

abbrev pub NoMemoryInBlock : Type 0
NoMemoryInBlock =
    row (two_nodes (octets_on 0 32)) (filled_once ++ Block four_lines left_out_works ∷ line (Pass (lane 0 Up) 0) ∷ []) ≡ (
      took 1 0 2 ++ (at 2 (items.Made 1 (key 1)) ∷ []),
      NoMemory,
      true,
    )

-- the wire refuses both frames of a tick in a block, the second one first: they are reported in order of offset
abbrev pub refused_works : Works
refused_works =
    record {
      histories = (work 0 (Ask 0 events.Plan Ok) ∷ []) ∷ [] ∷ [];
      claims = told_on (lane 0 Up) 1 ∷ told_on (lane 0 Up) 2 ∷ [];
      puts = work 0 (Transmit (lane 0 Up) 1 IoFault) ∷ work 0 (Transmit (lane 0 Up) 0 OutOfMemory) ∷ [];
      left_out = None;
    }

abbrev pub RefusedInBlock : Type 0
RefusedInBlock =
    row (two_nodes (octets_on 0 16)) (line (Bits 0 Both 2) ∷ line (Fill 0 1 64 2) ∷ Block (Tick 0 ∷ []) refused_works ∷ line (Tick 0) ∷ []) ≡ (
      took 1 0 2 ++
          (at 2 (items.Made 2 (key 1)) ∷
          at 3 (items.Ticked 0 2 0) ∷
          at 3 (items.Unsent (lane 0 Up) 8 causes.Memory) ∷
          at 3 (items.Unsent (lane 0 Up) 50 causes.WireFault) ∷
          at 4 (items.Ticked 0 0 2) ∷
          at 4 (items.Sent (lane 0 Up) 0 8 34) ∷
          at 4 (items.Sent (lane 0 Up) 1 50 34) ∷ []),
      Whole,
      true,
    )

-- ---- Three managers: their replies are reported in order of node, whatever the order of their lines. Then the frames are reported lane by lane; those that
-- the wire took come before those that it refused.

abbrev pub spokes : Network
spokes = two_spokes (octets_on 0 32)

abbrev pub before_three : List Step
before_three =
    line (Bits 0 Both 2) ∷ line (Bits 1 Both 2) ∷ line (Fill 0 1 64 1) ∷ line (Fill 0 2 64 1) ∷ line (Tick 0) ∷ line (Pass (lane 0 Up) 0) ∷ line (Pass (lane 1 Up) 0) ∷
    line (Fill 0 1 64 1) ∷ line (Fill 0 1 64 1) ∷ []

-- the second tick of node 0 has nothing more to order
abbrev pub three_lines : List Command
three_lines = Tick 2 ∷ Tick 0 ∷ Tick 1 ∷ Tick 0 ∷ Dec 1 1 0 (key 1 ∷ []) ∷ Pass (lane 0 Up) 0 ∷ Pass (lane 0 Up) 1 ∷ []

abbrev pub acked_on : Lane → ℕ → ℕ → Action
acked_on l n offset = Allocate (record { lane = l; item = AckItem (key n); received_offset = Some offset })

abbrev pub noted_on : Lane → ℕ → Action
noted_on l v = Allocate (record { lane = l; item = DataItem (note v 1); received_offset = None })

abbrev pub three_works : Works
three_works =
    record {
      histories =
          (work 3 (Ask 0 events.Plan Ok) ∷ work 1 (Ask 0 events.Plan Ok) ∷ []) ∷
          (work 5 (Deliver (lane 0 Up) 0 Ok) ∷ work 2 (Ask 1 events.Plan Ok) ∷ work 4 (Ask 1 (events.Dec 1 0 (key 1 ∷ [])) IoFault) ∷ []) ∷
          (work 0 (Ask 2 events.Plan Ok) ∷ []) ∷ [];
      claims =
          told_on (lane 0 Up) 4 ∷ told_on (lane 0 Up) 3 ∷ acked_on (lane 0 Down) 1 8 ∷ noted_on (lane 0 Down) 1 ∷ noted_on (lane 1 Down) 2 ∷ acked_on (lane 1 Down) 2 8 ∷ [];
      puts =
          work 3 (Transmit (lane 0 Up) 1 IoFault) ∷ work 3 (Transmit (lane 0 Up) 2 Ok) ∷ work 2 (Transmit (lane 0 Down) 1 Ok) ∷ work 2 (Transmit (lane 0 Down) 0 Ok) ∷
          work 0 (Transmit (lane 1 Down) 0 Ok) ∷ work 0 (Transmit (lane 1 Down) 1 Ok) ∷ [];
      left_out = None;
    }

abbrev pub ThreeManagers : Type 0
ThreeManagers =
    row spokes (before_three ++ Block three_lines three_works ∷ []) ≡ (
      took 1 0 2 ++
          took 2 1 2 ++
          (at 3 (items.Made 1 (key 1)) ∷
          at 4 (items.Made 1 (key 2)) ∷
          at 5 (items.Ticked 0 2 0) ∷
          at 5 (items.Sent (lane 0 Up) 0 8 34) ∷
          at 5 (items.Sent (lane 1 Up) 0 8 34) ∷
          at 6 (items.Passed (lane 0 Up) 0 (Taken kinds.Key (key 1))) ∷
          at 7 (items.Passed (lane 1 Up) 0 (Taken kinds.Key (key 2))) ∷
          at 8 (items.Made 1 (key 3)) ∷
          at 9 (items.Made 1 (key 4)) ∷
          at 16 (items.Passed (lane 0 Up) 1 (Refused (refusals.NoFrame 1))) ∷
          at 13 (items.Ticked 0 2 0) ∷
          at 11 (items.Idle 0) ∷
          at 15 (items.Passed (lane 0 Up) 0 (Again kinds.Key (key 1))) ∷
          at 12 (items.Ticked 1 2 0) ∷
          at 14 (items.Refused refusals.Stopped) ∷
          at 10 (items.Ticked 2 2 0) ∷
          at 13 (items.Sent (lane 0 Up) 1 92 34) ∷
          at 13 (items.Unsent (lane 0 Up) 50 causes.WireFault) ∷
          at 12 (items.Sent (lane 0 Down) 0 33 36) ∷
          at 12 (items.Sent (lane 0 Down) 1 8 17) ∷
          at 10 (items.Sent (lane 1 Down) 0 8 36) ∷
          at 10 (items.Sent (lane 1 Down) 1 52 17) ∷ []),
      Whole,
      true,
    )

-- the lines that a block may contain
abbrev pub InBlocks : Type 0
InBlocks =
    (list_all may_stand_in_block three_lines ∷ map may_stand_in_block (Settle 1 ∷ Bits 0 Both 1 ∷ Crash 0 ∷ Start 0 ∷ Http 0 [] ∷ Fail 0 1 ∷ [])) ≡
    (true ∷ false ∷ false ∷ false ∷ false ∷ true ∷ false ∷ [])

-- a short run does its tasks: two starts, a crash, and a request to a node that is down
abbrev pub ShortRun : Type 0
ShortRun =
    IsRunOf no_http (two_nodes []) 1 first (tasks (1 ∷ 2 ∷ []) (entries.Line (record { number = 3; command = Crash 0 }) ∷ entries.Line (record { number = 4; command = Enc 0 0 1 1 256 }) ∷ []))
    (Acts (actions.Start 0 (Recovers false) ∷ []) ∷ Acts (actions.Start 1 (Recovers false) ∷ []) ∷ Acts (actions.Crash 0 ∷ []) ∷ Acts (Ask 0 (events.Enc 0 1 1 256) Ok ∷ []) ∷ [])

-- ---- the results of runs

-- replaying the batches of a node's events restores what the node made durable: one block at each end, and a key that was planned, sent and heard
abbrev pub folded : Ran
folded = ran (two_nodes (octets_on 0 8)) (line (Bits 0 Both 1) ∷ line (Fill 0 1 64 1) ∷ line (Tick 0) ∷ line (Pass (lane 0 Up) 0) ∷ [])

abbrev pub counts_of : View → List ℕ
counts_of v = length v.facts ∷ length v.acked ∷ length v.handed ∷ map (λ (p : Port). p.lease) v.ports ++ map (λ (p : Port). length p.blocks) v.ports

abbrev pub BatchesFold : Type 0
BatchesFold =
    let net = two_nodes (octets_on 0 8) in
    (map (λ v. counts_of (recovered_view net.site v (batches_made net v first folded.actions))) (0 ∷ 1 ∷ []) ≡ (1 ∷ 0 ∷ 0 ∷ 1024 ∷ 1 ∷ []) ∷ (2 ∷ 0 ∷ 0 ∷ 0 ∷ 1 ∷ []) ∷ [])
    × (map (λ v. counts_of (view_restarted (view_of net folded.world v))) (0 ∷ 1 ∷ []) ≡ (1 ∷ 0 ∷ 0 ∷ 1024 ∷ 1 ∷ []) ∷ (2 ∷ 0 ∷ 0 ∷ 0 ∷ 1 ∷ []) ∷ [])
    × (map (λ v. length (batches_made net v first folded.actions)) (0 ∷ 1 ∷ []) ≡ 3 ∷ 2 ∷ [])

-- a batch at which the manager stopped belongs to the node exactly if the next start finds it
abbrev pub batches_after : Bool → ℕ
batches_after committed =
    let net = two_nodes (octets_on 0 8) in
    length (batches_made net 0 first (ran net (line (Bits 0 Both 1) ∷ line_by (Fill 0 1 64 1) (Says IoFault ∷ []) ∷ line_by (Start 0) (Finds (Recovers committed) ∷ []) ∷ [])).actions)

abbrev pub FoundBatches : Type 0
FoundBatches = (batches_after true ∷ batches_after false ∷ []) ≡ (2 ∷ 1 ∷ [])

-- a key handed to both applications, the octets on the wire, and how often each part of the bench failed or was armed
abbrev pub handed_run : Ran
handed_run =
    ran (two_nodes (octets_on 0 40))
    (line_by (Bits 0 ends.Low 1) (Says DeviceFault ∷ []) ∷
    line (Bits 0 Both 2) ∷
    line (Fill 0 1 64 1) ∷
    line (Cut 0 4 Kept) ∷
    line_by (Tick 0) (Well ∷ Well ∷ Says IoFault ∷ []) ∷
    line (Settle 10) ∷
    line_by (Fill 0 1 64 1) (Says EntropyFault ∷ []) ∷
    line (Fill 0 1 512 1) ∷
    line (Enc 0 0 1 1 64) ∷
    line (Dec 1 1 0 (key 1 ∷ [])) ∷
    line (Fail 0 2) ∷
    line_by (Enc 0 0 1 1 64) [] ∷
    line_by (Fill 0 1 64 1) (Says IoFault ∷ []) ∷
    line_by (Start 0) (Finds (Interrupted None) ∷ []) ∷ [])

abbrev pub fault_counts : List ℕ
fault_counts =
    let net = two_nodes (octets_on 0 40) in
    let done = handed_run.actions in
    map (λ v. disk_faults net.site v done) (0 ∷ 1 ∷ []) ++ map (λ v. entropy_faults v done) (0 ∷ 1 ∷ []) ++ device_faults 0 done ∷ wire_faults (lane 0 Up) done ∷ wire_faults (lane 0 Down) done ∷ []

abbrev pub Left : Type 0
Left =
    let net = two_nodes (octets_on 0 40) in
    (fault_counts ≡ 2 ∷ 0 ∷ 1 ∷ 0 ∷ 1 ∷ 1 ∷ 0 ∷ [])
    × (armings 0 handed_run.actions ≡ actions.Cut 4 actions.Kept ∷ actions.Fail 2 ∷ [])
    × (to_masters handed_run.world (deliveries net first handed_run.actions) ∷ to_slaves handed_run.world (deliveries net first handed_run.actions) ∷ [] ≡ 1 ∷ 1 ∷ [])
    × (map (λ (f : List ℕ). length f) (wire_octets net handed_run.world (lane 0 Up)) ≡ 58 ∷ 41 ∷ [])
    × (handed_run.world.drawn 0 ≡ 16)
