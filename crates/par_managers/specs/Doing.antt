-- The calls that a job of a block makes on the machines, and what a worker keeps of them.
use Rattle.std.specs.Prelude.{◌≡◌, ℕ, ◌+◌, List, [], ◌∷◌, ◌++◌, map, slice_get, Option, Some, None}
use Rattle.std.specs.List.{AllByRecursion}
use Rattle.qkd_base.specs.Lane.{lane_place}
use Rattle.net_model.specs.Tick.{Emission}
use Rattle.net_model.specs.Action.{Replies}
use Rattle.run_model.specs.Works.{wanted_put}
use Rattle.lane_sender.specs.Lane.{LaneForm}
use Rattle.par_lanes.specs.declared.ask.LaneAsk.{LaneAsk}
use Rattle.par_lanes.specs.declared.ask.LaneAnswer.{LaneAnswer}
use Rattle.shared_objects.specs.declared.either.Either.{Either}
use Rattle.shared_objects.specs.declared.either.Either.TheVariants.{Left}
use Rattle.shared_objects.specs.declared.call.Call.{Call}
use Rattle.shared_objects.specs.Said.{Said}
use Rattle.par_managers.specs.declared.turn.Turn.{Turn}
use Rattle.par_lanes.specs.declared.emitted.Emitted.{Emitted}
use Rattle.par_lanes.specs.declared.frame_log.FrameLog.{FrameLog}
use Rattle.par_lanes.specs.Wants.{lane_for}
use Rattle.par_lanes.specs.Calls.{IsOf, CallsBy}
use Rattle.par_lanes.specs.Saying.{said_of}
use Rattle.par_lanes.specs.Emitting.{AreLogged}
use Rattle.par_managers.specs.declared.ask.PlanAsk.{PlanAsk}
use Rattle.par_managers.specs.declared.ask.PlanAnswer.{PlanAnswer}
use Rattle.par_managers.specs.declared.keep.Replied.{Replied}
use Rattle.par_managers.specs.declared.keep.Keep.{Keep}

-- the requests to the machines of a block, and their answers

abbrev pub Ask : Type 0
Ask = Either PlanAsk LaneAsk

abbrev pub Answer : Type 0
Answer = Either PlanAnswer LaneAnswer

-- The manager took the turn of the call, and nothing else was called. The reply has its place in the manager's history.
pub record HasAsked (call : Call Turn) (said : List (Said Ask Answer)) (replied : Replied) : Type 0 where
  pub ask : PlanAsk
  pub answer : PlanAnswer
  pub asked : (ask.place ≡ call.request.place) × (ask.job.now ≡ call.request.job.now) × (ask.octets ≡ call.request.octets)
  pub are : said ≡ record { machine = call.machine; place = replied.at; request = Left ask; reply = Left answer } ∷ []
  pub is : replied ≡ record { node = call.machine; at = replied.at; turned = record { place = call.request.place; reply = answer.reply } }

module _ {X : Type 0} (lanes : List (LaneForm X)) (first : ℕ) where
  -- The frame is sent by calls of its lane's desk. The desks of the lanes follow the first `first` machines.
  pub record GoesBy (x : Emission × Emitted) (said : List (Said Ask Answer)) : Type 0 where
    pub side : LaneForm X
    pub there : slice_get lanes (lane_place (lane_for x.0)) ≡ Some side
    pub calls : List (ℕ × (LaneAsk × LaneAnswer))
    pub are : said ≡ said_of (first + lane_place (lane_for x.0)) calls
    pub by : CallsBy side x.0 x.1 calls

  -- The frames are sent in order, and nothing else is called.
  abbrev pub GoAllBy : List (Emission × Emitted) → List (Said Ask Answer) → Type 0
  GoAllBy [] said = said ≡ []
  GoAllBy (x ∷ xs) said = (now later : List (Said Ask Answer)) × (said ≡ now ++ later) × GoesBy x now × GoAllBy xs later

  -- Exactly the frames of the line's plan were sent, and the log has their records.
  pub record HasPutOut (line : ℕ) (wants : List Emission) (said : List (Said Ask Answer)) (log log' : FrameLog) : Type 0 where
    pub emitted : List (Emission × Emitted)
    pub wanted : map (λ x. x.0) emitted ≡ wants
    pub of : AllByRecursion (λ (x : Emission × Emitted). IsOf line x.0 x.1) emitted
    pub called : GoAllBy emitted said
    pub logged : AreLogged (map (λ x. x.1) emitted) log log'

  -- A manager took the turn of the call, and then the frames of its reply were sent. The reply is kept after the earlier ones.
  pub record DidTurn (call : Call Turn) (said : List (Said Ask Answer)) (replies : List Replied) (log : FrameLog) (replies' : List Replied) (log' : FrameLog) : Type 0 where
    pub front : List (Said Ask Answer)
    pub later : List (Said Ask Answer)
    pub are : said ≡ front ++ later
    pub replied : Replied
    pub asked : HasAsked call front replied
    pub put : HasPutOut replied.turned.place (wanted_put (Replies replied.turned.reply)) later log log'
    pub kept : replies' ≡ replies ++ replied ∷ []

  -- An entry without a call calls nothing.
  abbrev pub DidEntry : Option (Call Turn) → List (Said Ask Answer) → List Replied → FrameLog → List Replied → FrameLog → Type 0
  DidEntry None said replies log replies' log' = (said ≡ []) × (replies' ≡ replies) × (log' ≡ log)
  DidEntry (Some call) said replies log replies' log' = DidTurn call said replies log replies' log'

  -- A job does the first entry that is left.
  abbrev pub Did : List (Option (Call Turn)) → List Replied → FrameLog → List (Said Ask Answer) → List (Option (Call Turn)) → List Replied → FrameLog → Type 0
  Did shift replies log said shift' replies' log' = (entry : Option (Call Turn)) × (shift ≡ entry ∷ shift') × DidEntry entry said replies log replies' log'

  -- After the job, the worker keeps this.
  abbrev pub DoesJob : ℕ → Keep → List (Said Ask Answer) → Keep → Type 0
  DoesJob job keep said next = Did keep.shift.items keep.replies.items keep.log said next.shift.items next.replies.items next.log
