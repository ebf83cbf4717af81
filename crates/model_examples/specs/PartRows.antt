-- Single parts of the model: plans whose bytes nobody claimed yet, full pools, routes and lane bytes.
use Rattle.std.specs.Prelude.{◌≡◌, ℕ, ◌+◌, ◌*◌, ◌-◌, ◌/◌, ◌==◌, not, Bool, true, false, List, [], ◌∷◌, ◌++◌, length, map, drop, replicate, slice_index_or, Option, Some, None}
use Rattle.std.specs.List.{list_any}
use Rattle.qkd_base.specs.declared.lane.Way.{Way}
use Rattle.qkd_base.specs.declared.lane.Way.TheVariants.{Up, Down}
use Rattle.net_model.specs.declared.event.Event.{Event}
use Rattle.net_model.specs.declared.event.Event.TheVariants.{Fill, Feed, Plan, FillGroup}
use Rattle.net_model.specs.declared.fact.Fact.{Fact}
use Rattle.net_model.specs.declared.fact.Fact.TheVariants.{Key, Open, Part}
use Rattle.net_model.specs.declared.order.Order.{Order}
use Rattle.net_model.specs.declared.payload.Payload.TheVariants.{Data}
use Rattle.net_model.specs.declared.reply.Reply.{Reply}
use Rattle.net_model.specs.declared.reply.Reply.TheVariants.{MadeKeys, Planned, Noted, PoolFull, HeardFact, NotAllowed, UnknownStream}
use Rattle.net_model.specs.Item.{DataItem, AckItem}
use Rattle.net_model.specs.Site.{count_up}
use Rattle.net_model.specs.Routes.{route}
use Rattle.qkd_base.specs.LaneBytes.{lane_octets}
use Rattle.net_model.specs.OctetSequence.{first_blocks}
use Rattle.net_model.specs.Needed.{view_of}
use Rattle.net_model.specs.View.{View}
use Rattle.net_model.specs.World.{Network, Transmission, first}
use Rattle.net_model.specs.Decision.{Decision, Refuses, Does}
use Rattle.net_model.specs.Decide.{decide}
use Rattle.net_model.specs.Action.{Ok, Recovers, Action, Start, TakeBlock, Ask, Allocate, Transmit, Complete, Deliver, Outcome, Allocated, Put, Replies}
use Rattle.net_model.specs.Step.{run, outcomes, is_run}
use Rattle.model_examples.specs.Networks.{site, lane, key, note, stream, octets_on, two_nodes, two_spokes}

abbrev pub order_of : ℕ → Transmission
order_of n = record { lane = lane 0 Up; item = DataItem (key n); received_offset = None }

abbrev pub ordered_key : ℕ → ℕ → Order
ordered_key n offset =
    record { lane = lane 0 Up; offset = offset; ack_of = None; payload = Data (Key (key n) 0 1 (0 ∷ 1 ∷ []) (octets_on (8 * (n - 1)) 8)) }

abbrev pub planned_by : List Order → Outcome
planned_by orders = Replies (Planned orders [] [])

-- the outcomes of actions after two nodes were started and took two blocks
abbrev pub starts : List Action
starts =
    Start 0 (Recovers false) ∷ Start 1 (Recovers false) ∷ TakeBlock 0 0 Ok ∷ TakeBlock 1 0 Ok ∷ TakeBlock 0 0 Ok ∷ TakeBlock 1 0 Ok ∷ []

abbrev pub come_to : Network → List Action → List Outcome × Bool
come_to net then' = (outcomes net (run net first starts) then', is_run net first (starts ++ then'))

-- two plans before any claim: the second goes on where the first ended, and orders nothing twice; the claims may come in another order
abbrev pub TwoPlans : Type 0
TwoPlans =
    come_to (two_nodes (octets_on 0 16))
    (Ask 0 (Fill 0 1 64 1) Ok ∷ Ask 0 Plan Ok ∷ Ask 0 (Fill 0 1 64 1) Ok ∷ Ask 0 Plan Ok ∷ Ask 0 Plan Ok ∷
    Allocate (order_of 2) ∷ Allocate (order_of 1) ∷ Transmit (lane 0 Up) 1 Ok ∷ Transmit (lane 0 Up) 0 Ok ∷ Complete 0 ∷
    Ask 0 Plan Ok ∷ Deliver (lane 0 Up) 0 Ok ∷ []) ≡ (
      Replies (MadeKeys 1 (key 1)) ∷ planned_by (ordered_key 1 8 ∷ []) ∷ Replies (MadeKeys 1 (key 2)) ∷ planned_by (ordered_key 2 50 ∷ []) ∷ planned_by [] ∷
          Allocated 8 ∷ Allocated 50 ∷ Put 0 ∷ Put 1 ∷ Replies Noted ∷ planned_by [] ∷ Replies (HeardFact true 1 (key 1)) ∷ [],
      true,
    )

abbrev pub ack_order : Transmission
ack_order = record { lane = lane 0 Down; item = AckItem (key 1); received_offset = Some 8 }

abbrev pub note_order : Transmission
note_order = record { lane = lane 0 Down; item = DataItem (note 1 1); received_offset = None }

abbrev pub repeats_in : Outcome → ℕ
repeats_in (Replies (Planned orders repeats shorts)) = length repeats
repeats_in _ = 0

abbrev pub repeats_after : ℕ → List Outcome × Bool → List ℕ × Bool
repeats_after n met = (map repeats_in (drop n met.0), met.1)

-- a fact that is acknowledged after its put and before the note is not repeated
abbrev pub AckedMeanwhile : Type 0
AckedMeanwhile =
    repeats_after 13 (come_to (two_nodes (octets_on 0 8))
    (Ask 0 (Fill 0 1 64 1) Ok ∷ Ask 0 Plan Ok ∷ Allocate (order_of 1) ∷ Transmit (lane 0 Up) 0 Ok ∷ Deliver (lane 0 Up) 0 Ok ∷
    Ask 1 Plan Ok ∷ Allocate ack_order ∷ Allocate note_order ∷ Transmit (lane 0 Down) 0 Ok ∷ Transmit (lane 0 Down) 1 Ok ∷ Complete 1 ∷ Deliver (lane 0 Down) 0 Ok ∷
    Complete 0 ∷ Ask 0 Plan Ok ∷ Ask 0 Plan Ok ∷ Ask 0 Plan Ok ∷ Ask 0 Plan Ok ∷ [])) ≡ (replicate 4 0, true)

-- pools: at most 4,096 keys that their master has not got, ready or not

abbrev pub reply_of : Decision → Reply
reply_of (Refuses r) = r
reply_of (Does effect) = effect.reply

abbrev pub knowing : Network → List Fact → View
knowing net facts = record (view_of net first 0) { facts = facts }

abbrev pub answer : Network → List Fact → Event → Reply
answer net facts event = reply_of (decide net.site net.sealing (λ l. true) (knowing net facts) [] event)

abbrev pub answer_at : ℕ → Network → List Fact → Event → Reply
answer_at v net facts event = reply_of (decide net.site net.sealing (λ l. true) (record (view_of net first v) { facts = facts }) [] event)

abbrev pub one_made : List Fact
one_made = Key (key 1) 0 1 (0 ∷ 1 ∷ []) (replicate 8 0) ∷ []

abbrev pub one_group : List Fact
one_group = Part (key 2) (key 1) 0 1 (0 ∷ 1 ∷ []) (replicate 8 0) ∷ Part (key 3) (key 1) 0 2 (0 ∷ 2 ∷ []) (replicate 8 0) ∷ []

abbrev pub one_stream : List Fact
one_stream = Open (stream 1) 0 1 8 (0 ∷ 1 ∷ []) ∷ []

abbrev pub FullPools : Type 0
FullPools =
    (answer (two_nodes []) one_made (Fill 0 1 64 4095) ∷ answer (two_nodes []) one_made (Fill 0 1 64 4096) ∷ answer (two_nodes []) one_made (Fill 0 1 128 4096) ∷
    answer (two_spokes []) one_group (FillGroup 0 (1 ∷ 2 ∷ []) 64 4095) ∷ answer (two_spokes []) one_group (FillGroup 0 (1 ∷ 2 ∷ []) 64 4096) ∷
    answer (two_nodes []) one_stream (Feed (stream 1) 4096) ∷ answer (two_nodes []) one_stream (Feed (stream 1) 4097) ∷ []) ≡
    (MadeKeys 4095 (key 2) ∷ PoolFull ∷ MadeKeys 4096 (key 2) ∷ MadeKeys 4095 (key 4) ∷ PoolFull ∷ MadeKeys 4096 (key 2) ∷ PoolFull ∷ [])

-- applications that ask at a node that is not their own
abbrev pub AskedElsewhere : Type 0
AskedElsewhere =
    (answer_at 1 (two_nodes []) [] (Fill 0 1 64 1) ∷ answer_at 1 (two_spokes []) [] (FillGroup 0 (1 ∷ 2 ∷ []) 64 1) ∷ answer_at 1 (two_nodes []) one_stream (Feed (stream 1) 1) ∷ []) ≡
    (NotAllowed ∷ NotAllowed ∷ UnknownStream ∷ [])

-- routes around links that are down, and the longest route

abbrev pub but : List ℕ → ℕ → Bool
but down l = not (list_any (λ d. d == l) down)

abbrev pub square : List ℕ → Option (List ℕ)
square down = route (site 4 (0 ∷ 1 ∷ 0 ∷ 2 ∷ []) (1 ∷ 3 ∷ 2 ∷ 3 ∷ []) [] []) (but down) 0 3

abbrev pub chain : ℕ → Option (List ℕ)
chain target = route (site 10 (count_up 9) (map (λ (n : ℕ). n + 1) (count_up 9)) [] []) (λ l. true) 0 target

abbrev pub Walks : Type 0
Walks =
    (square [] ∷ square (0 ∷ []) ∷ square (0 ∷ 2 ∷ []) ∷ chain 0 ∷ chain 8 ∷ chain 9 ∷ []) ≡
    (Some (0 ∷ 1 ∷ 3 ∷ []) ∷ Some (0 ∷ 2 ∷ 3 ∷ []) ∷ None ∷ None ∷ Some (count_up 9) ∷ None ∷ [])

-- the length of a lane's bytes, and the first octets of blocks, for a device whose octets are the numbers of its blocks
abbrev pub heads : Way → ℕ → List ℕ
heads way blocks =
    let octets = lane_octets way (first_blocks (record { octet = λ i. i / 1024; end = None }) blocks) in
    length octets ∷ slice_index_or octets 0 9 ∷ slice_index_or octets 1023 9 ∷ slice_index_or octets 1024 9 ∷ []

abbrev pub LaneBytes : Type 0
LaneBytes = (heads Up 0 ∷ heads Up 1 ∷ heads Up 3 ∷ heads Down 1 ∷ heads Down 3 ∷ heads Down 4 ∷ []) ≡
    ((0 ∷ 9 ∷ 9 ∷ 9 ∷ []) ∷ (1024 ∷ 0 ∷ 0 ∷ 9 ∷ []) ∷ (2048 ∷ 0 ∷ 0 ∷ 2 ∷ []) ∷ (0 ∷ 9 ∷ 9 ∷ 9 ∷ []) ∷ (1024 ∷ 1 ∷ 1 ∷ 9 ∷ []) ∷ (2048 ∷ 1 ∷ 1 ∷ 3 ∷ []) ∷ [])
