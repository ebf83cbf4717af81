-- A node sends the frames of its plan in order.
use Rattle.std.specs.Prelude.{◌≡◌, ℕ, Bool, true, List, ◌++◌, map, filter}
use Rattle.std.specs.List.{list_all}
use Rattle.qkd_base.specs.Lane.{lane_eq}
use Rattle.qkd_base.specs.declared.lane.Lane.{Lane}
use Rattle.net_model.specs.declared.order.Order.{Order}
use Rattle.net_model.specs.declared.repeat.Repeat.{Repeat}
use Rattle.net_model.specs.declared.placing.Placing.{Placing}
use Rattle.net_model.specs.World.{Network, World}
use Rattle.net_model.specs.Events.{is_frame_size}
use Rattle.net_model.specs.Action.{Action}
use Rattle.net_model.specs.Tick.{Emission, Again, New}
use Rattle.run_types.specs.declared.item.Item.{Item}
use Rattle.run_model.specs.Play.{numbered, reporting, play, IsPlay}
use Rattle.run_model.specs.Lines.{emitted}
use Rattle.law_locality.specs.Sending.{Sends}
use Rattle.run_ops.specs.Acting.{Begins}
use Rattle.world_state.specs.Stands.{Stands}
use Rattle.world_state.specs.Tallied.{Tallied}
use Rattle.world_state.specs.declared.state.State.{State}
use Rattle.world_state.specs.Outside.{Outside}

-- Each placing has the size of a frame.
abbrev pub are_sized : List Placing → Bool
are_sized placings = list_all (λ (p : Placing). is_frame_size p.length) placings

-- what a plan puts on a lane: its repeats, and then its new orders

abbrev pub repeats_on : Lane → List Repeat → List Emission
repeats_on l repeats = map Again (filter (λ (r : Repeat). lane_eq r.lane l) repeats)

abbrev pub orders_on : Lane → List Order → List Emission
orders_on l orders = map New (filter (λ (o : Order). lane_eq o.lane l) orders)

-- The manager is up and has exactly these frames still to put. The placings say what became of the others.
pub record Sending {K Q E X : Type 0} (outside : Outside K Q E X) (s : State K Q E X) (net : Network) (w : World)
    (v : ℕ) (es : List Emission) (placings : List Placing) : Type 0 where
  pub stands : Stands outside s net w
  pub sends : Sends net w v es
  pub up : w.up v ≡ true
  pub placed : placings ≡ w.placings v
  pub sized : are_sized placings ≡ true

-- The frames that were put: the actions that lead from one script to the other, what they report, and the world after them.
pub record Puts {K Q E X : Type 0} (outside : Outside K Q E X)
    (old new : State K Q E X) (net : Network) (w : World) (v : ℕ) (from to : List Emission) (reported : List Item) (placings : List Placing) : Type 0 where
  pub actions : List Action
  pub after : World
  pub is : (rest : List Action) → IsPlay net after (emitted v to) rest → IsPlay net w (emitted v from) (actions ++ rest)
  pub said : (number : ℕ) (rest : List Action) → play net number w (emitted v from) (actions ++ rest) ≡ reporting (numbered number reported) (play net number after (emitted v to) rest)
  pub sending : Sending outside new net after v to placings
  pub tallied : Tallied outside old new net.site actions

-- The same frames, whose items are added to those reported before.
pub record PutsOn {K Q E X : Type 0} (outside : Outside K Q E X)
    (old new : State K Q E X) (net : Network) (w : World) (v : ℕ) (from to : List Emission) (before now : List Item) (placings : List Placing) : Type 0 where
  pub reported : List Item
  pub items : now ≡ before ++ reported
  pub puts : Puts outside old new net w v from to reported placings

-- The run ends before all frames are put: some first actions of the script were done.
abbrev pub Breaks : {K Q E X : Type 0} → Outside K Q E X → State K Q E X → State K Q E X → Network → World → ℕ → List Emission → Type 0
Breaks outside old new net w v from =
    Begins (Stands outside) (Tallied outside) old new net w (emitted v from)
