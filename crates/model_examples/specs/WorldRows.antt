-- Worlds with managers that are down, the owners of a lane's bytes, first starts, and actions that are not enabled.
use Rattle.std.specs.List.{list_all}
use Rattle.std.specs.Prelude.{◌≡◌, ℕ, ◌&&◌, nat_lt, nat_le, not, slice_get, Bool, true, false, List, [], ◌∷◌, ◌++◌, length, map, replicate, Some, None}
use Rattle.qkd_base.specs.declared.lane.Lane.{Lane}
use Rattle.qkd_base.specs.declared.lane.Way.TheVariants.{Up, Down}
use Rattle.net_model.specs.declared.event.Event.TheVariants.{Plan, Note}
use Rattle.net_model.specs.declared.event.Event.TheVariants as events
use Rattle.net_model.specs.Item.{DataItem}
use Rattle.net_model.specs.Ownership.{is_frame, is_key, covers}
use Rattle.net_model.specs.Site.{count_up}
use Rattle.net_model.specs.World.{Network, Transmission, World, planned, received, first}
use Rattle.net_model.specs.Action.{Ok, IoFault, OutOfMemory, EntropyFault, DeviceFault, Recovers, Interrupted, Foreign, NoMemory, Action, SetLink, TakeBlock, Ask, Allocate, Transmit, Complete}
use Rattle.net_model.specs.Action as actions
use Rattle.net_model.specs.Step.{run, is_run}
use Rattle.run_types.specs.declared.command.Command.TheVariants.{Bits, Fill, Tick, Pass, Crash, Start, Status}
use Rattle.run_types.specs.declared.end.Ends.TheVariants.{Both}
use Rattle.run_types.specs.declared.item.Item.TheVariants as items
use Rattle.run_types.specs.declared.refusal.Refusal.TheVariants as refusals
use Rattle.run_types.specs.declared.start_result.StartResult.TheVariants as starts
use Rattle.run_model.specs.Play.{Whole}
use Rattle.model_examples.specs.Networks.{lane, key, octets_on, two_nodes}
use Rattle.model_examples.specs.Row.{line, line_by, at, Says, Finds, Step, Ran, ran, row_down}
use Rattle.model_examples.specs.Runs.{restart, one_key, started, planned_only}

-- a manager that crashed or stopped keeps no volatile state

abbrev pub kept_sizes : Ran → List ℕ
kept_sizes r =
    let vol = r.world.volatile 0 in length vol.window ∷ length vol.pending_acks ∷ length vol.awaiting ∷ []

abbrev pub busy : List Step
busy =
    line (Bits 0 Both 2) ∷ line (Fill 0 1 256 1) ∷ line (Tick 0) ∷ line (Pass (lane 0 Up) 0) ∷ line (Tick 1) ∷ line (Pass (lane 0 Down) 1) ∷ []

abbrev pub Resting : Type 0
Resting =
    (kept_sizes (ran (two_nodes (octets_on 0 64)) busy) ∷ kept_sizes (ran (two_nodes (octets_on 0 64)) (busy ++ line (Crash 0) ∷ [])) ∷
    kept_sizes (ran (two_nodes (octets_on 0 64)) (busy ++ line_by (Fill 0 1 256 1) (Says IoFault ∷ []) ∷ [])) ∷ []) ≡
    ((1 ∷ 1 ∷ 0 ∷ []) ∷ (0 ∷ 0 ∷ 0 ∷ []) ∷ (0 ∷ 0 ∷ 0 ∷ []) ∷ [])

-- an acknowledgement that is sent again is the same frame on the wire
abbrev pub again : List Step
again =
    line (Bits 0 Both 2) ∷ line (Fill 0 1 256 1) ∷ line (Tick 0) ∷ line (Pass (lane 0 Up) 0) ∷ line (Tick 1) ∷ line (Pass (lane 0 Up) 0) ∷ line (Tick 1) ∷ []

abbrev pub SameFrame : Type 0
SameFrame = (ran (two_nodes (octets_on 0 32)) again).world.wire (lane 0 Down) ≡ (0 ∷ 1 ∷ 0 ∷ [])

-- of the first 200 bytes of a lane, the hash key owns the first 8, and a frame owns exactly the bytes that it covers

abbrev pub same_bit : Bool → Bool → Bool
same_bit true b = b
same_bit false b = not b

abbrev pub is_owned_right : World → Lane → ℕ → Bool
is_owned_right w l x =
    let owner = slice_get (w.durable.own l) x in
    same_bit (is_key owner) (nat_lt x 8) &&
    list_all (λ j. same_bit (is_frame j owner) (covers w.durable.facts (slice_get (w.frames l) j) x)) (count_up 5)

-- bytes that are owned or ordered are leased, and leased bytes are received
abbrev pub has_room : World → Lane → Bool
has_room w l = nat_le (planned w l) (w.durable.lease l) && nat_le (w.durable.lease l) (received w.durable l)

abbrev pub is_lane_right : World → Lane → Bool
is_lane_right w l = list_all (is_owned_right w l) (count_up 200) && has_room w l

abbrev pub lanes_right : World → Bool
lanes_right w = list_all (is_lane_right w) (lane 0 Up ∷ lane 0 Down ∷ [])

abbrev pub Ownership : Type 0
Ownership =
    (lanes_right (ran (two_nodes (octets_on 0 32)) one_key).world ∷
    lanes_right (ran (two_nodes (octets_on 0 96)) (one_key ++ restart ++ line (Fill 0 1 256 1) ∷ line (Tick 0) ∷ [])).world ∷
    lanes_right (run (two_nodes (octets_on 0 96)) first (started ++ planned_only ++ Ask 1 Plan Ok ∷ [])) ∷ []) ≡ replicate 3 true

-- the first starts of nodes: out of memory, stopped, foreign, started, and a node that is up already

abbrev pub FirstStarts : Type 0
FirstStarts =
    row_down (two_nodes [])
    (line (Status 0 0 1) ∷ line_by (Start 0) (Finds NoMemory ∷ []) ∷ line_by (Start 0) (Finds (Interrupted None) ∷ []) ∷ line_by (Start 0) (Finds Foreign ∷ []) ∷
    line (Status 0 0 1) ∷ line (Start 1) ∷ line (Start 1) ∷ line (Crash 0) ∷ []) ≡ (
      at 1 (items.Refused refusals.Down) ∷
          at 2 (items.Start starts.Memory) ∷
          at 3 (items.Start starts.Stopped) ∷
          at 4 (items.Start (starts.Foreign 16)) ∷
          at 5 (items.Refused refusals.Down) ∷
          at 6 (items.Start starts.Started) ∷
          at 7 (items.Start starts.WasUp) ∷
          at 8 (items.Refused refusals.Down) ∷ [],
      Whole,
      true,
    )

-- a disk is foreign only if a start was stopped before any start succeeded
abbrev pub FirstForeign : Type 0
FirstForeign = row_down (two_nodes []) (line_by (Start 0) (Finds Foreign ∷ []) ∷ []) ≡ (at 1 (items.Start (starts.Foreign 16)) ∷ [], Whole, false)

-- illegal steps: an action that isn't enabled, or an answer of the environment that would change nothing

abbrev pub is_legal : Network → List Action → Bool
is_legal net then' = is_run net first (started ++ then')

abbrev pub first_order : Transmission
first_order = record { lane = lane 0 Up; item = DataItem (key 1); received_offset = None }

-- the order's bytes are claimed, and its frame is put
abbrev pub claimed_only : List Action
claimed_only = planned_only ++ Allocate first_order ∷ []

abbrev pub put_only : List Action
put_only = claimed_only ++ Transmit (lane 0 Up) 0 Ok ∷ []

abbrev pub Legal : Type 0
Legal =
    map (is_legal (two_nodes (octets_on 0 32)))
    (planned_only ∷ claimed_only ∷ put_only ∷ (put_only ++ Complete 0 ∷ actions.Crash 0 ∷ []) ∷ []) ≡ replicate 4 true

abbrev pub Illegal : Type 0
Illegal =
    map (is_legal (two_nodes (octets_on 0 32)))
    -- a node that was started is up and asks its disk nothing; a disk is not foreign if no start was stopped on it
    ((actions.Start 0 (Recovers true) ∷ []) ∷ (actions.Crash 0 ∷ actions.Start 0 (Recovers true) ∷ []) ∷ (actions.Crash 0 ∷ actions.Start 0 Foreign ∷ []) ∷
    (actions.Crash 0 ∷ actions.Start 0 (Interrupted (Some false)) ∷ []) ∷
    -- orders are claimed once and frames put once, and both happen before a note, a crash or a start
    (claimed_only ++ Allocate first_order ∷ []) ∷ (planned_only ++ Transmit (lane 0 Up) 0 Ok ∷ []) ∷ (put_only ++ Transmit (lane 0 Up) 0 Ok ∷ []) ∷
    (planned_only ++ Complete 0 ∷ []) ∷ (claimed_only ++ Complete 0 ∷ []) ∷ (planned_only ++ actions.Crash 0 ∷ []) ∷ (put_only ++ actions.Crash 0 ∷ []) ∷
    (Allocate first_order ∷ []) ∷ (Transmit (lane 0 Up) 0 Ok ∷ []) ∷
    -- an answer of the environment that would change nothing
    (Ask 0 (events.Status 0 1) IoFault ∷ []) ∷ (Ask 1 (events.Status 0 1) OutOfMemory ∷ []) ∷ (Ask 0 (events.Status 0 1) EntropyFault ∷ []) ∷
    (Ask 0 (events.Fill 0 1 256 1) DeviceFault ∷ []) ∷
    -- events that are out of range, at another node, or not asked by a line
    (Ask 0 (events.Fill 0 1 100 1) Ok ∷ []) ∷ (Ask 0 (events.Fill 0 1 56 1) Ok ∷ []) ∷ (Ask 0 (events.Fill 0 1 4104 1) Ok ∷ []) ∷ (Ask 0 (events.Fill 0 1 256 0) Ok ∷ []) ∷
    (Ask 0 (events.Fill 0 1 256 129) Ok ∷ []) ∷ (Ask 0 (events.Enc 0 1 129 256) Ok ∷ []) ∷ (Ask 1 (events.Dec 1 0 []) Ok ∷ []) ∷
    (Ask 0 (events.FillGroup 0 (1 ∷ []) 256 1) Ok ∷ []) ∷ (Ask 0 (events.FillGroup 0 (2 ∷ 1 ∷ []) 256 1) Ok ∷ []) ∷ (Ask 0 (events.EncGroup 0 (1 ∷ 1 ∷ []) 1 256) Ok ∷ []) ∷
    (Ask 0 (events.Block 0 0 (replicate 1024 0)) Ok ∷ []) ∷ (Ask 0 (Note []) Ok ∷ []) ∷ (Ask 2 (events.Status 0 1) Ok ∷ []) ∷
    (TakeBlock 0 1 Ok ∷ []) ∷ (actions.Forge (lane 0 Up) [] Ok ∷ []) ∷ (SetLink 1 true ∷ []) ∷ []) ≡ replicate 33 false
