-- The calls of the lanes' desks, which are machines among others.
use Rattle.std.specs.Prelude.{◌≡◌, ℕ, ◌+◌, ◌≤◌, List, [], ◌∷◌, ◌++◌, map}
use Rattle.qkd_base.specs.Lane.{lane_place}
use Rattle.net_model.specs.Tick.{Emission}
use Rattle.shared_objects.specs.declared.either.Either.{Either}
use Rattle.shared_objects.specs.declared.either.Either.TheVariants.{Right}
use Rattle.shared_objects.specs.Calling.{IsRight}
use Rattle.shared_objects.specs.Said.{Said, said_on}
use Rattle.lane_sender.specs.Lane.{LaneForm}
use Rattle.par_lanes.specs.declared.ask.LaneAsk.{LaneAsk}
use Rattle.par_lanes.specs.declared.ask.LaneAsk.TheVariants as asks
use Rattle.par_lanes.specs.declared.ask.LaneAnswer.{LaneAnswer}
use Rattle.par_lanes.specs.declared.emitted.Emitted.{Emitted}
use Rattle.par_lanes.specs.Wants.{lane_for}
use Rattle.par_lanes.specs.Calls.{CallsBy, CallAllBy, emitted_at}

-- The request puts a frame of at most 600 octets.
abbrev pub IsFrame : LaneAsk → Type 0
IsFrame (asks.Claim need grant) = ⊥
IsFrame (asks.Put frame length) = length ≤ 600
IsFrame (asks.Again number frame length) = length ≤ 600

module _ {Q A : Type 0} where
  -- a call of a desk, which is the machine at this place
  abbrev pub turn_said : (machine place : ℕ) → LaneAsk → LaneAnswer → Said (Either Q LaneAsk) (Either A LaneAnswer)
  turn_said machine place ask answer = record { machine = machine; place = place; request = Right ask; reply = Right answer }

  -- a call in the desk's history, as a call of a machine of either kind
  abbrev pub desk_call : ℕ × (LaneAsk × LaneAnswer) → ℕ × (Either Q LaneAsk × Either A LaneAnswer)
  desk_call c = (c.0, (Right c.1.0, Right c.1.1))

  abbrev pub said_of : (machine : ℕ) → List (ℕ × (LaneAsk × LaneAnswer)) → List (Said (Either Q LaneAsk) (Either A LaneAnswer))
  said_of machine calls = map (λ (c : ℕ × (LaneAsk × LaneAnswer)). turn_said machine c.0 c.1.0 c.1.1) calls

-- The machine at this place is the desk.
abbrev pub IsDesk : {M D : Type 0} → List (Either M D) → ℕ → D → Type 0
IsDesk machines machine d = IsRight machines machine d

module _ {M D X Q A : Type 0} (machines : List (Either M D)) (side : D → LaneForm X) where
  -- The frame is sent by exactly these calls of the desk at this place.
  pub record SaysBy (machine : ℕ) (e : Emission) (out : Emitted) (said : List (Said (Either Q LaneAsk) (Either A LaneAnswer))) : Type 0 where
    pub desk : D
    pub there : IsDesk machines machine desk
    pub calls : List (ℕ × (LaneAsk × LaneAnswer))
    pub are : said ≡ said_of machine calls
    pub by : CallsBy (side desk) e out calls

  -- The frames are sent in order, each by exactly the calls of its lane's desk. The desks follow the first `first` machines.
  abbrev pub SayAllBy : (first : ℕ) → List (Emission × Emitted) → List (Said (Either Q LaneAsk) (Either A LaneAnswer)) → Type 0
  SayAllBy first [] said = said ≡ []
  SayAllBy first (x ∷ xs) said = (front rest : List (Said (Either Q LaneAsk) (Either A LaneAnswer))) × (said ≡ front ++ rest) × SaysBy (first + lane_place (lane_for x.0)) x.0 x.1 front × SayAllBy first xs rest

-- The frame is sent by these calls of the desk at this place.
pub record Goes {M D X Q A : Type 0} (Went : List (Said (Either Q LaneAsk) (Either A LaneAnswer)) → Type 0) (machines : List (Either M D)) (side : D → LaneForm X) (machine : ℕ) (e : Emission) (out : Emitted) : Type 0 where
  pub said : List (Said (Either Q LaneAsk) (Either A LaneAnswer))
  pub went : Went said
  pub by : SaysBy machines side machine e out said

-- The desk of the lane at this place got exactly the calls that send the lane's frames, in order.
pub record IsCalledFor {X Q A : Type 0} (side : LaneForm X) (machine place : ℕ) (outs : List (Emission × Emitted)) (said : List (Said (Either Q LaneAsk) (Either A LaneAnswer))) : Type 0 where
  pub calls : List (ℕ × (LaneAsk × LaneAnswer))
  pub are : said_on machine said ≡ map desk_call calls
  pub by : CallAllBy side (emitted_at place outs) calls
