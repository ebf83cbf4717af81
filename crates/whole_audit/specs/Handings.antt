-- Rules 13 and 18, as to keys that were handed out: who got one, and what its node then says of it.
use Rattle.std.specs.Prelude.{ℕ, ◌==◌, Bool, true, false, not, ◌&&◌, ◌||◌, if◌then◌else◌, List, [], ◌∷◌, slice_get, Option, Some, None}
use Rattle.std.specs.List.{list_any}
use Rattle.qkd_base.specs.Name.{Name, name_eq}
use Rattle.net_model.specs.declared.held.Held.{Held}
use Rattle.net_model.specs.declared.held.Held.TheVariants as held
use Rattle.run_types.specs.declared.stream_answer.StreamAnswer.TheVariants as answers
use Rattle.run_types.specs.declared.command.Command.{Command}
use Rattle.run_types.specs.declared.command.Command.TheVariants as commands
use Rattle.run_types.specs.declared.refusal.Refusal.TheVariants as refusals
use Rattle.run_types.specs.declared.item.Item.{Item}
use Rattle.run_types.specs.declared.item.Item.TheVariants as items
use Rattle.run_types.specs.declared.scenario.Scenario.{Scenario}
use Rattle.run_types.specs.declared.item.NumberedItem.{NumberedItem}
use Rattle.whole_audit.specs.Lines.{command_at}
use Rattle.whole_audit.specs.Managers.{is_this, was_stopped}

-- ---- who got keys

-- the node that is asked for keys
abbrev pub node_asked : Command → Option ℕ
node_asked (commands.Enc v master slave count bits) = Some v
node_asked (commands.EncGroup v master count bits slaves) = Some v
node_asked (commands.Dec v slave master names) = Some v
node_asked _ = None

-- the application that asks for keys
abbrev pub sae_asking : Command → Option ℕ
sae_asking (commands.Enc v master slave count bits) = Some master
sae_asking (commands.EncGroup v master count bits slaves) = Some master
sae_asking (commands.Dec v slave master names) = Some slave
sae_asking _ = None

abbrev pub node_if : Option Command → Option ℕ
node_if None = None
node_if (Some command) = node_asked command

abbrev pub sae_if : Option Command → Option ℕ
sae_if None = None
sae_if (Some command) = sae_asking command

abbrev pub has_key : List (Name × List ℕ) → Name → Bool
has_key keys n = list_any (λ (k : Name × List ℕ). name_eq k.0 n) keys

abbrev pub keys_of : Item → List (Name × List ℕ)
keys_of (items.Keys keys) = keys
keys_of _ = []

-- The item hands out the key there, at a node or to an application.
abbrev pub hands_there : Option ℕ → Item → Name → (there : ℕ) → Bool
hands_there None item n there = false
hands_there (Some place) item n there = (place == there) && has_key (keys_of item) n

-- The key was handed out there.
abbrev pub was_handed : (place : Option Command → Option ℕ) → Scenario → List NumberedItem → Name → (there : ℕ) → Bool
was_handed place s [] n there = false
was_handed place s (t ∷ before) n there = hands_there (place (command_at s t.number)) t.item n there || was_handed place s before n there

-- ---- keys that are handed out without their names

-- A response may hand out keys, and so does the answer that has a chunk.
abbrev pub hands_unnamed : Option Command → Item → Option ℕ
hands_unnamed command (items.Http v status body) = if status == 200 then Some v else None
hands_unnamed (Some (commands.Stream v call)) (items.Stream (answers.GetKey status chunk)) = Some v
hands_unnamed _ _ = None

abbrev pub unnamed : Scenario → NumberedItem → Option ℕ
unnamed s t = hands_unnamed (command_at s t.number) t.item

abbrev pub has_unnamed : Scenario → (node : ℕ) → List NumberedItem → Bool
has_unnamed s v [] = false
has_unnamed s v (t ∷ before) = is_this (unnamed s t) v || has_unnamed s v before

-- The node may have handed out any key: it stopped in something that it was asked, or handed out keys without their names.
abbrev pub may_hand : Scenario → (node : ℕ) → List NumberedItem → Bool
may_hand s v before = was_stopped s v before || has_unnamed s v before

-- ---- rule 18

-- What a node holds of a key fits whether the key was handed out there. Of a group's key a second application may wait.
abbrev pub fits_handed : (was_handed may_be : Bool) → Held → Bool
fits_handed was may held.Given = was || may
fits_handed was may held.Kept = true
fits_handed was may _ = not was

abbrev pub shows_handed : Scenario → List NumberedItem → Item → Bool
shows_handed s before (items.Shown v n what bytes) = fits_handed (was_handed node_if s before n v) (may_hand s v before) what
shows_handed s before _ = true

-- ---- rule 13

abbrev pub holds_at : (Name → Bool) → Option Name → Bool
holds_at f None = false
holds_at f (Some n) = f n

abbrev pub handed_place : Item → Option ℕ
handed_place (items.Refused (refusals.Handed place)) = Some place
handed_place _ = None

abbrev pub fits_place : (was_handed : Name → Bool) → (may_be : Bool) → List Name → Option ℕ → Bool
fits_place was may names None = true
fits_place was may names (Some place) = may || holds_at was (slice_get names place)

-- A key that is refused as handed was handed to the application.
abbrev pub fits_refusal : (was_handed : Name → Bool) → (may_be : Bool) → List Name → Item → Bool
fits_refusal was may names item = fits_place was may names (handed_place item)

abbrev pub refuses_handed_by : Scenario → List NumberedItem → Command → Item → Bool
refuses_handed_by s before (commands.Dec v slave master names) item = fits_refusal (λ n. was_handed sae_if s before n slave) (may_hand s v before) names item
refuses_handed_by s before _ item = true

abbrev pub refuses_handed_of : Scenario → List NumberedItem → Option Command → Item → Bool
refuses_handed_of s before None item = true
refuses_handed_of s before (Some command) item = refuses_handed_by s before command item

abbrev pub refuses_handed : Scenario → List NumberedItem → NumberedItem → Bool
refuses_handed s before t = refuses_handed_of s before (command_at s t.number) t.item
