-- How the set of managers that are down changes with an item.
use Rattle.std.proofs.Common.{◌≡◌, ℕ, Bool, true, false, not, ◌||◌, cond, eqb, List, ◌∷◌, Option, Some, None, refl, ap, ◌∙◌}
use Rattle.std.specs.Str.{bytes_eq}
use Rattle.ordered_set.specs.Entries.{has_entry}
use Rattle.run_types.specs.declared.scenario.Scenario.{Scenario}
use Rattle.run_types.specs.declared.item.NumberedItem.{NumberedItem}
use Rattle.item_audit.specs.declared.said.Said.{Said}
use Rattle.whole_audit.specs.Managers.{said, is_up_behind, is_node_up, start_of, is_this, was_started, is_crash, stop_of, was_stopped}
use Rattle.whole_audit.specs.Kept.{number_entry, has_number, AreDownNodes, AreStarted, AreStopped}
use Rattle.whole_audit.proofs.Walking.{number_entries}

module _ (s : Scenario) (old : List (List ℕ)) (told : NumberedItem) (before : List NumberedItem) (down : AreDownNodes s old before) where
  pub none_said : None ≡ said s told → AreDownNodes s old (told ∷ before)
  none_said none k = down k ∙ ap (λ (o : Option Said). not (is_up_behind o k (is_node_up s k before))) none

  pub said_up : (new : List (List ℕ)) (node : ℕ) (was_up : Bool) → Some (record { node = node; was_up = was_up; is_up = true }) ≡ said s told → ((e : List ℕ) → has_entry new e ≡ cond (bytes_eq (number_entry node) e) false (has_entry old e)) → AreDownNodes s new (told ∷ before)
  said_up new node was_up is put k =
      put (number_entry k)
      ∙ ap (λ (b : Bool). cond b false (has_number old k)) (number_entries node k)
      ∙ ap (λ (b : Bool). cond (eqb node k) false b) (down k)
      ∙ flip (eqb node k) (is_node_up s k before)
      ∙ ap (λ (o : Option Said). not (is_up_behind o k (is_node_up s k before))) is
    where
      flip : (a b : Bool) → cond a false (not b) ≡ not (cond a true b)
      flip true b = refl
      flip false b = refl

  pub said_down : (new : List (List ℕ)) (node : ℕ) (was_up : Bool) → Some (record { node = node; was_up = was_up; is_up = false }) ≡ said s told → ((e : List ℕ) → has_entry new e ≡ (bytes_eq (number_entry node) e || has_entry old e)) → AreDownNodes s new (told ∷ before)
  said_down new node was_up is put k =
      put (number_entry k)
      ∙ ap (λ (b : Bool). b || has_number old k) (number_entries node k)
      ∙ ap (λ (b : Bool). eqb node k || b) (down k)
      ∙ flip (eqb node k) (is_node_up s k before)
      ∙ ap (λ (o : Option Said). not (is_up_behind o k (is_node_up s k before))) is
    where
      flip : (a b : Bool) → (a || not b) ≡ not (cond a false b)
      flip true b = refl
      flip false b = refl

module _ (s : Scenario) (old : List (List ℕ)) (told : NumberedItem) (before : List NumberedItem) (started : AreStarted s old before) where
  pub no_start_said : None ≡ start_of (said s told) → AreStarted s old (told ∷ before)
  no_start_said none k = started k ∙ ap (λ (o : Option ℕ). is_this o k || was_started s k before) none

  pub start_said : (new : List (List ℕ)) (node : ℕ) → Some node ≡ start_of (said s told) → ((e : List ℕ) → has_entry new e ≡ (bytes_eq (number_entry node) e || has_entry old e)) → AreStarted s new (told ∷ before)
  start_said new node is put k =
      put (number_entry k)
      ∙ ap (λ (b : Bool). b || has_number old k) (number_entries node k)
      ∙ ap (λ (b : Bool). eqb node k || b) (started k)
      ∙ ap (λ (o : Option ℕ). is_this o k || was_started s k before) is

module _ (s : Scenario) (old : List (List ℕ)) (told : NumberedItem) (before : List NumberedItem) (stopped : AreStopped s old before) where
  pub no_stop_said : None ≡ stop_of (is_crash told.item) (said s told) → AreStopped s old (told ∷ before)
  no_stop_said none k = stopped k ∙ ap (λ (o : Option ℕ). is_this o k || was_stopped s k before) none

  pub stop_said : (new : List (List ℕ)) (node : ℕ) → Some node ≡ stop_of (is_crash told.item) (said s told) → ((e : List ℕ) → has_entry new e ≡ (bytes_eq (number_entry node) e || has_entry old e)) → AreStopped s new (told ∷ before)
  stop_said new node is put k =
      put (number_entry k)
      ∙ ap (λ (b : Bool). b || has_number old k) (number_entries node k)
      ∙ ap (λ (b : Bool). eqb node k || b) (stopped k)
      ∙ ap (λ (o : Option ℕ). is_this o k || was_stopped s k before) is
