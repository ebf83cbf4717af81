-- How the set of facts that lanes' receivers took changes with an item.
use Rattle.std.proofs.Common.{◌≡◌, ◌&&◌, ◌||◌, List, ℕ, ◌∷◌, Option, Some, None, sym, ap, ◌∙◌}
use Rattle.std.specs.Str.{bytes_eq}
use Rattle.ordered_set.specs.Entries.{has_entry}
use Rattle.qkd_base.specs.declared.lane.Lane.{Lane}
use Rattle.qkd_base.specs.Lane.{lane_eq, lane_place}
use Rattle.qkd_base.specs.Name.{Name, name_eq}
use Rattle.run_audit.proofs.Keys.{lane_places}
use Rattle.run_types.specs.declared.item.NumberedItem.{NumberedItem}
use Rattle.whole_audit.specs.declared.arrivals.Arrival.{Arrival}
use Rattle.whole_audit.specs.declared.arrivals.Arrivals.{Arrivals}
use Rattle.whole_audit.specs.Arrivals.{arrival_of, is_arrival, has_arrived}
use Rattle.whole_audit.specs.Kept.{key_entry, AreArrived}
use Rattle.whole_audit.proofs.Giving.{key_entries}

module _ (old : Arrivals) (told : NumberedItem) (before : List NumberedItem) (arrived : AreArrived old before) where
  pub none_arrived : arrival_of told.item ≡ None → AreArrived old (told ∷ before)
  none_arrived none l n = arrived l n ∙ ap (λ (o : Option Arrival). is_arrival o l n || has_arrived before l n) (sym none)

  pub some_arrived : (new : Arrivals) (a : Arrival) → arrival_of told.item ≡ Some a → ((e : List ℕ) → has_entry new.came e ≡ (bytes_eq (key_entry a.name (lane_place a.lane)) e || has_entry old.came e)) → AreArrived new (told ∷ before)
  some_arrived new a some put l n =
      put (key_entry n (lane_place l))
      ∙ ap (λ b. b || has_entry old.came (key_entry n (lane_place l))) (key_entries a.name n (lane_place a.lane) (lane_place l) ∙ ap (λ b. b && name_eq a.name n) (lane_places a.lane l))
      ∙ ap (λ b. (lane_eq a.lane l && name_eq a.name n) || b) (arrived l n)
      ∙ ap (λ (o : Option Arrival). is_arrival o l n || has_arrived before l n) (sym some)
