-- A worker sends the frames of plans, over the lanes' desks.
use Rattle.std.specs.Prelude.{◌≡◌, ℕ, ◌+◌, ◌-◌, ◌^◌, ◌<◌, ◌≤◌, true, List, ◌++◌, map, length, Some, slice_get, slice_index_or}
use Rattle.std.specs.List.{AllZip, AllByRecursion}
use Rattle.qkd_base.specs.Lane.{lane_place}
use Rattle.qkd_base.specs.declared.lane.Lane.{Lane}
use Rattle.net_model.specs.Facts.{IsWellFormed}
use Rattle.net_model.specs.Tick.{Emission, Again, New}
use Rattle.shared_objects.specs.declared.either.Either.{Either}
use Rattle.shared_objects.specs.Said.{Said}
use Rattle.lane_shares.specs.declared.share.Share.{Share}
use Rattle.lane_shares.specs.declared.shares.Shares.{Shares}
use Rattle.lane_shares.specs.declared.view.View.{View}
use Rattle.lane_shares.specs.Names.{knows as has, Fits as IsOne}
use Rattle.lane_shares.specs.Views.{with_amount, spent}
use Rattle.lane_sender.specs.Lane.{LaneForm}
use Rattle.par_lanes.specs.declared.ask.LaneAsk.{LaneAsk}
use Rattle.par_lanes.specs.declared.ask.LaneAnswer.{LaneAnswer}
use Rattle.par_lanes.specs.declared.emitted.Emitted.{Emitted}
use Rattle.par_lanes.specs.declared.frame_log.FrameLog.{FrameLog}
use Rattle.par_lanes.specs.Wants.{turns_at, bytes_at}
use Rattle.par_lanes.specs.Calls.{IsOf}
use Rattle.par_lanes.specs.Saying.{IsDesk, SayAllBy}

-- a worker's grant on the lane at a place
abbrev pub grant_at : ℕ → List Share → View
grant_at i granted = slice_index_or (map has granted) i spent

-- If the log is whole, it was whole before, and the frames follow its older entries.
pub record AreLogged (frames : List Emitted) (log log' : FrameLog) : Type 0 where
  pub whole : log'.is_whole ≡ true → log.is_whole ≡ true
  pub added : log'.is_whole ≡ true → log'.frames.items ≡ log.frames.items ++ frames

module _ {M D X : Type 0} (machines : List (Either M D)) (side : D → LaneForm X) (first : ℕ) where
  -- The desk at the lane's place is the lane's desk.
  abbrev pub IsHome : Lane → Type 0
  IsHome l = (d : D) × IsDesk machines (first + lane_place l) d × ((side d).lane ≡ l)

  -- The frame may be sent.
  abbrev pub CanGo : Emission → Type 0
  CanGo (Again r) = IsHome r.lane × (r.length ≤ 600)
  CanGo (New o) = IsHome o.lane × IsWellFormed o.payload

  -- A worker may send the frames. It may call each lane's desk as often as they take turns there, and its grant on each lane covers their bytes.
  pub record MayEmit (budget : ℕ → ℕ) (shares_of : D → Shares) (shares : List Shares) (granted : List Share) (wants : List Emission) : Type 0 where
    pub few : first < 2 ^ 32
    pub shared : (i : ℕ) (d : D) → IsDesk machines (first + i) d → slice_get shares i ≡ Some (shares_of d)
    pub fits : AllZip IsOne shares granted
    pub each : AllByRecursion CanGo wants
    pub turns : (i : ℕ) → first + i < length machines → turns_at i wants ≤ budget (first + i)
    pub bytes : (i : ℕ) → i < length granted → bytes_at i wants ≤ (grant_at i granted).amount

  -- A worker sent frames for the line at a place. It called just the desks of the frames' lanes, in order and for nothing else. Its grant on each
  -- lane fell by the bytes of the frames there. Its log has what came of each frame.
  pub record HasEmitted {Q A : Type 0} (Went : List (Said (Either Q LaneAsk) (Either A LaneAnswer)) → Type 0) (line : ℕ) (wants : List Emission) (granted : List Share) (log : FrameLog) (granted' : List Share) (log' : FrameLog) : Type 0 where
    pub said : List (Said (Either Q LaneAsk) (Either A LaneAnswer))
    pub went : Went said
    pub outs : List (Emission × Emitted)
    pub all : map (λ x. x.0) outs ≡ wants
    pub told : AllByRecursion (λ x. IsOf line x.0 x.1) outs
    pub says : SayAllBy machines side first outs said
    pub less : (i : ℕ) → grant_at i granted' ≡ with_amount (grant_at i granted) ((grant_at i granted).amount - bytes_at i wants)
    pub logged : AreLogged (map (λ x. x.1) outs) log log'
