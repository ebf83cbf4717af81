-- Rule 12, as to names: a node counts the names that it gives, without a gap.
use Rattle.std.specs.Prelude.{ℕ, ◌+◌, ◌-◌, ◌==◌, Bool, true, ◌&&◌, nat_le, nat_lt, if◌then◌else◌, List, [], ◌∷◌, Option, Some, None}
use Rattle.std.specs.List.{list_all}
use Rattle.qkd_base.specs.Name.{Name}
use Rattle.net_model.specs.declared.held.Held.TheVariants as held
use Rattle.run_types.specs.declared.frame_result.FrameResult.{FrameResult}
use Rattle.run_types.specs.declared.frame_result.FrameResult.TheVariants as results
use Rattle.run_types.specs.declared.item.Item.{Item}
use Rattle.run_types.specs.declared.item.Item.TheVariants as items
use Rattle.run_types.specs.declared.scenario.Scenario.{Scenario}
use Rattle.run_types.specs.declared.item.NumberedItem.{NumberedItem}
use Rattle.whole_audit.specs.declared.blocks.Count.{Count}
use Rattle.item_audit.specs.declared.given.Given.{Given}
use Rattle.item_audit.specs.Gifts.{bounded, given_if}
use Rattle.whole_audit.specs.Lines.{command_at}

abbrev pub given : Scenario → NumberedItem → Option Given
given s t = given_if s.site (command_at s t.number) t.item

-- ---- how many names a node may have given

abbrev pub count_behind : (first : Option ℕ) → (more : ℕ) → Count → Count
count_behind None more c = record { least = c.least; most = bounded (c.most + more) }
count_behind (Some first) more c = record { least = bounded (first + more - 1); most = bounded (first + more - 1) }

abbrev pub names_behind : Option Given → (node : ℕ) → Count → Count
names_behind None v c = c
names_behind (Some g) v c = if g.node == v then count_behind g.first g.more c else c

abbrev pub names_of : Scenario → (node : ℕ) → List NumberedItem → Count
names_of s v [] = record { least = 0; most = 0 }
names_of s v (t ∷ before) = names_behind (given s t) v (names_of s v before)

-- ---- the rule

abbrev pub is_next_name : (first : Option ℕ) → Count → Bool
is_next_name None c = true
is_next_name (Some first) c = nat_lt c.least first && nat_le first (c.most + 1)

-- The names that the item tells of follow those that the node gave before.
abbrev pub names_follow : Option Given → (names : ℕ → Count) → Bool
names_follow None names = true
names_follow (Some g) names = is_next_name g.first (names g.node)

-- ---- names that are told of

-- The name's node may have given it.
abbrev pub was_given : (names : ℕ → Count) → Name → Bool
was_given names n = nat_le n.count (names n.node).most

-- Rule 13: so it is with each key that is handed out.
abbrev pub keys_were_given : (names : ℕ → Count) → Item → Bool
keys_were_given names (items.Keys keys) = list_all (λ (k : Name × List ℕ). was_given names k.0) keys
keys_were_given names _ = true

abbrev pub told_was_given : (names : ℕ → Count) → FrameResult → Bool
told_was_given names (results.Taken kind name) = was_given names name
told_was_given names (results.Again kind name) = was_given names name
told_was_given names (results.Refused refusal) = true

-- Rule 14: so it is with each name that a frame tells.
abbrev pub frame_was_given : (names : ℕ → Count) → Item → Bool
frame_was_given names (items.Passed l number result) = told_was_given names result
frame_was_given names (items.Flipped l number bit result) = told_was_given names result
frame_was_given names (items.Forged l result) = told_was_given names result
frame_was_given names _ = true

-- Rule 18: so it is with each name under which a node holds something.
abbrev pub shown_was_given : (names : ℕ → Count) → Item → Bool
shown_was_given names (items.Shown v name held.Absent bytes) = true
shown_was_given names (items.Shown v name what bytes) = was_given names name
shown_was_given names _ = true
