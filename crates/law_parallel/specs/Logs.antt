-- What a lane does in a block for the plans of its sender, in any order.
use Rattle.std.specs.Prelude.{◌≡◌, ℕ, Bool, true, false, List, [], ◌∷◌, filter, count_by}
use Rattle.qkd_base.specs.Lane.{lane_eq}
use Rattle.qkd_base.specs.declared.lane.Lane.{Lane}
use Rattle.net_model.specs.declared.order.Order.{Order}
use Rattle.net_model.specs.declared.repeat.Repeat.{Repeat}
use Rattle.net_model.specs.Tick.{Emission, Again, New}
use Rattle.net_model.specs.Action.{Environment, is_io_fault}
use Rattle.net_model.specs.BlockOrder.{is_wire_answer}
use Rattle.law_parallel.specs.Putting.{lane_of}

-- One deed of a lane. It claims its next bytes for an order of the plan of the line at a place. Or it puts the frame
-- of a claim, where claims are numbered from 0. Or it repeats an older frame for the plan of the line at a place.
-- Each put has the answer of the wire.
pub data Deed : Type 0 where
  Claims : (place : ℕ) → (order : Order) → Deed
  Puts : (claim : ℕ) → (answer : Environment) → Deed
  Repeats : (place : ℕ) → (repeat : Repeat) → (answer : Environment) → Deed

-- The claims of the log, each with the place of its line.
abbrev pub claims_in : List Deed → List (ℕ × Order)
claims_in [] = []
claims_in (Claims place order ∷ log) = (place, order) ∷ claims_in log
claims_in (Puts claim answer ∷ log) = claims_in log
claims_in (Repeats place repeat answer ∷ log) = claims_in log

-- The claims whose frames the log puts.
abbrev pub claims_put : List Deed → List ℕ
claims_put [] = []
claims_put (Claims place order ∷ log) = claims_put log
claims_put (Puts claim answer ∷ log) = claim ∷ claims_put log
claims_put (Repeats place repeat answer ∷ log) = claims_put log

-- What the log does for plans: it claims bytes for new orders, and repeats frames.
abbrev pub done_for_plans : List Deed → List (ℕ × Emission)
done_for_plans [] = []
done_for_plans (Claims place order ∷ log) = (place, New order) ∷ done_for_plans log
done_for_plans (Puts claim answer ∷ log) = done_for_plans log
done_for_plans (Repeats place repeat answer ∷ log) = (place, Again repeat) ∷ done_for_plans log

-- The frames that plans order on a lane.
abbrev pub wanted_on : Lane → List (ℕ × Emission) → List (ℕ × Emission)
wanted_on l wanted = filter (λ (x : ℕ × Emission). lane_eq (lane_of x.1) l) wanted

abbrev pub is_answered : Deed → Bool
is_answered (Claims place order) = true
is_answered (Puts claim answer) = is_wire_answer answer
is_answered (Repeats place repeat answer) = is_wire_answer answer

-- The wire failed in this deed.
abbrev pub is_wire_failure : Deed → Bool
is_wire_failure (Claims place order) = false
is_wire_failure (Puts claim answer) = is_io_fault answer
is_wire_failure (Repeats place repeat answer) = is_io_fault answer

-- The two lists have the same items, each equally often, in any order.
abbrev pub HaveTheSame : {A : Type 0} → List A → List A → Type 0
HaveTheSame {A} xs ys = (kind : A → Bool) → count_by kind xs ≡ count_by kind ys
