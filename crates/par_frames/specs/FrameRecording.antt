-- How a frame is recorded.
use Rattle.std.specs.Prelude.{◌≡◌, ℕ, ◌&&◌, not, Bool, List, [], ◌∷◌, length, slice_get, Some}
use Rattle.qkd_base.specs.Lane.{lane_eq}
use Rattle.qkd_base.specs.declared.lane.Lane.{Lane}
use Rattle.net_model.specs.declared.placing.Placing.{Placing}
use Rattle.net_model.specs.World.{World}
use Rattle.run_model.specs.Block.{PutDone}
use Rattle.par_frames.specs.declared.log.Refused.{Refused}

-- a frame of a lane, as one that its wire took or refused
abbrev pub put_as : Lane → (took : Bool) → Refused → PutDone
put_as l took r = record { lane = l; offset = r.offset; place = r.frame.place; took = took; reported = r.frame.item ∷ [] }

abbrev pub took_on : Lane → PutDone → Bool
took_on l p = lane_eq p.lane l && p.took

abbrev pub refused_on : Lane → PutDone → Bool
refused_on l p = lane_eq p.lane l && not p.took

-- These are exactly what each node is to note.
pub record AreNoted (nodes : ℕ) (w : World) (placings : List (List Placing)) : Type 0 where
  pub nodes' : length placings ≡ nodes
  pub each : (v : ℕ) (xs : List Placing) → slice_get placings v ≡ Some xs → xs ≡ w.placings v
