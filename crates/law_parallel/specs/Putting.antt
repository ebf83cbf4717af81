-- Sending the frames of a block's plans one after another: each new order gets its bytes, and its frame is put at
-- once.
use Rattle.std.specs.Prelude.{◌≡◌, ℕ, Bool, true, false, List, [], ◌∷◌, ◌++◌, length, map, filter}
use Rattle.std.specs.List.{flat_map}
use Rattle.qkd_base.specs.declared.lane.Lane.{Lane}
use Rattle.net_model.specs.World.{Network, World}
use Rattle.net_model.specs.Action.{Environment, Action, Allocate, Transmit}
use Rattle.net_model.specs.Handle.{frame_at}
use Rattle.net_model.specs.Step.{run}
use Rattle.net_model.specs.Tick.{Emission, Again, New, ordered}
use Rattle.run_model.specs.Works.{Work, Done, actions_in, done_from, wanted_put}
use Rattle.run_model.specs.Block.{puts_of}

abbrev pub lane_of : Emission → Lane
lane_of (Again r) = r.lane
lane_of (New o) = o.lane

-- The frames that the plans of these works order, each with the place of its line.
abbrev pub wanted_by : List Done → List (ℕ × Emission)
wanted_by done = flat_map (λ (d : Done). map (λ e. (d.work.place, e)) (wanted_put d.outcome)) done

-- A frame that the plan of a line orders, the place of the line, and the answer of the frame's wire.
pub record Putting : Type 0 where
  pub place : ℕ
  pub emission : Emission
  pub answer : Environment

abbrev pub is_wanted : Putting → ℕ × Emission
is_wanted p = (p.place, p.emission)

-- A repeat is put. A new order gets its bytes, and then its frame, which is the next one of its lane, is put.
abbrev pub emission_works : World → (place : ℕ) → Environment → Emission → List Work
emission_works w place answer (Again r) = record { place = place; action = Transmit r.lane (frame_at (w.frames r.lane) r.offset) answer } ∷ []
emission_works w place answer (New o) =
    record { place = place; action = Allocate (ordered o) } ∷ record { place = place; action = Transmit o.lane (length (w.frames o.lane)) answer } ∷ []

unfoldable pub one_by_one : Network → World → List Putting → List Work
one_by_one net w [] = []
one_by_one net w (p ∷ ps) =
    let now = emission_works w p.place p.answer p.emission in
    now ++ one_by_one net (run net w (actions_in now)) ps

-- All claims of these frames, and all their puts.

abbrev pub emission_claims : Emission → List Action
emission_claims (Again r) = []
emission_claims (New o) = Allocate (ordered o) ∷ []

abbrev pub claims_of : List Putting → List Action
claims_of ps = flat_map (λ (p : Putting). emission_claims p.emission) ps

abbrev pub is_put : Work → Bool
is_put x = elim x.action as (λ a. Bool) [
  | Transmit l j environment ↦ true
  | _ ↦ false
]

abbrev pub puts_in : List Work → List Work
puts_in xs = filter is_put xs

-- Sending the frames one after another leads to the same world as making all claims and then all puts, and the
-- reports are the same.
pub record ClaimsComeFirst (net : Network) (w : World) (ps : List Putting) : Type 0 where
  pub same : run net w (actions_in (one_by_one net w ps)) ≡ run net w (claims_of ps ++ actions_in (puts_in (one_by_one net w ps)))
  pub reported : puts_of (done_from net (run net w (claims_of ps)) (puts_in (one_by_one net w ps))) ≡ puts_of (done_from net w (one_by_one net w ps))
