-- Rule 8: a manager says that it is down exactly if it is.
use Rattle.std.specs.Prelude.{ℕ, ◌==◌, Bool, true, false, not, ◌&&◌, ◌||◌, if◌then◌else◌, List, [], ◌∷◌, Option, Some, None}
use Rattle.std.specs.List.{position_from}
use Rattle.run_types.specs.declared.item.Item.{Item}
use Rattle.run_types.specs.declared.item.Item.TheVariants as items
use Rattle.run_types.specs.declared.scenario.Scenario.{Scenario}
use Rattle.run_types.specs.declared.item.NumberedItem.{NumberedItem}
use Rattle.item_audit.specs.declared.said.Said.{Said}
use Rattle.item_audit.specs.Sayings.{sender, said_at, said_of_node}
use Rattle.whole_audit.specs.Lines.{command_at}

abbrev pub said : Scenario → NumberedItem → Option Said
said s t = said_of_node (position_from (λ n. n == t.number) 0 s.node_lines) (said_at s.site (command_at s t.number) t.item)

-- ---- the rule

abbrev pub is_up_behind : Option Said → (node : ℕ) → (was_up : Bool) → Bool
is_up_behind None v was_up = was_up
is_up_behind (Some said) v was_up = if said.node == v then said.is_up else was_up

-- All managers are up before the first item.
abbrev pub is_node_up : Scenario → (node : ℕ) → List NumberedItem → Bool
is_node_up s v [] = true
is_node_up s v (t ∷ before) = is_up_behind (said s t) v (is_node_up s v before)

abbrev pub is_so : Option Said → (node_up : ℕ → Bool) → Bool
is_so None node_up = true
is_so (Some said) node_up = if said.was_up then node_up said.node else not (node_up said.node)

abbrev pub rule_8 : Scenario → List NumberedItem → NumberedItem → Bool
rule_8 s before t = is_so (said s t) (λ v. is_node_up s v before)

-- ---- starts

-- the node that the item says was started
abbrev pub start_of : Option Said → Option ℕ
start_of None = None
start_of (Some said) = if said.is_up && not said.was_up then Some said.node else None

abbrev pub is_this : Option ℕ → (node : ℕ) → Bool
is_this None v = false
is_this (Some w) v = w == v

-- The manager of the node was started behind the beginning.
abbrev pub was_started : Scenario → (node : ℕ) → List NumberedItem → Bool
was_started s v [] = false
was_started s v (t ∷ before) = is_this (start_of (said s t)) v || was_started s v before

-- ---- stops

abbrev pub is_crash : Item → Bool
is_crash items.Crashed = true
is_crash _ = false

-- the node whose manager the item says stopped in what it was asked: what it was to do may be done, or not
abbrev pub stop_of : (crashes : Bool) → Option Said → Option ℕ
stop_of crashes None = None
stop_of crashes (Some said) = if said.was_up && not (said.is_up || crashes) then Some said.node else None

abbrev pub was_stopped : Scenario → (node : ℕ) → List NumberedItem → Bool
was_stopped s v [] = false
was_stopped s v (t ∷ before) = is_this (stop_of (is_crash t.item) (said s t)) v || was_stopped s v before

-- Rule 11, as to burnt bytes: a node burns bytes of its lanes when it is started.
abbrev pub burns : Scenario → List NumberedItem → Item → Bool
burns s before (items.Counted l counts) = was_started s (sender s.site l) before || (counts.burnt == 0)
burns s before _ = true
