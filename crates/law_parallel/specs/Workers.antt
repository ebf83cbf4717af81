-- What each worker does on a lane, and how that looks in a block that is done in sequence.
use Rattle.std.specs.Prelude.{ℕ, ◌+◌, ◌%◌, ◌==◌, List, [], ◌∷◌, filter, if◌then◌else◌}
use Rattle.qkd_base.specs.Lane.{lane_eq}
use Rattle.qkd_base.specs.declared.lane.Lane.{Lane}
use Rattle.net_model.specs.Site.{Site}
use Rattle.net_model.specs.Events.{is_lane}
use Rattle.net_model.specs.Tick.{Emission, Again, New}
use Rattle.net_model.specs.Action.{Environment}
use Rattle.law_parallel.specs.Putting.{Putting, lane_of}
use Rattle.law_parallel.specs.Logs.{Deed, Claims, Puts, Repeats}

-- The frames ordered for the lines of worker k. These are the lines whose place has the remainder k when divided by
-- the number of workers.
abbrev pub of_worker : (workers k : ℕ) → List (ℕ × Emission) → List (ℕ × Emission)
of_worker workers k xs = filter (λ (x : ℕ × Emission). x.0 % workers == k) xs

-- The deeds of a block that is done frame by frame.

-- The deeds for a frame. A repeat is put. A new order is claimed, and its frame is put at once.

abbrev pub deeds_for : (claim place : ℕ) → Environment → Emission → List Deed → List Deed
deeds_for claim place answer (Again r) later = Repeats place r answer ∷ later
deeds_for claim place answer (New o) later = Claims place o ∷ Puts claim answer ∷ later

abbrev pub claims_after : ℕ → Emission → ℕ
claims_after claim (Again r) = claim
claims_after claim (New o) = claim + 1

abbrev pub deeds_from : (claim : ℕ) → List Putting → List Deed
deeds_from claim [] = []
deeds_from claim (p ∷ ps) = deeds_for claim p.place p.answer p.emission (deeds_from (claims_after claim p.emission) ps)

-- The logs of the lanes.
abbrev pub logs_in_order : Site → List Putting → Lane → List Deed
logs_in_order s ps l = if is_lane s l then deeds_from 0 (filter (λ (p : Putting). lane_eq (lane_of p.emission) l) ps) else []
