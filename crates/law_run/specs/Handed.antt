-- How many keys the requests of a run hand to masters and to slaves.
use Rattle.std.specs.Prelude.{ℕ, ◌+◌, Bool, true, false, List, [], ◌∷◌, length, sum_by}
use Rattle.net_model.specs.declared.event.Event.TheVariants.{Enc, Dec, Get, EncGroup}
use Rattle.net_model.specs.declared.reply.Reply.TheVariants.{Handed}
use Rattle.net_model.specs.World.{Network, World}
use Rattle.net_model.specs.Action.{Action, Ask, Outcome, Replies}
use Rattle.net_model.specs.Step.{step}
use Rattle.run_types.specs.declared.item.Item.{Item}
use Rattle.run_types.specs.declared.item.Item.TheVariants.{Keys}
use Rattle.run_types.specs.declared.item.NumberedItem.{NumberedItem}

abbrev pub keys_in : Outcome → ℕ
keys_in (Replies (Handed keys)) = length keys
keys_in _ = 0

-- The keys handed to a master that asks for keys, and to a slave that names them.
abbrev pub enc_in : Action → Outcome → ℕ
enc_in (Ask v (Enc m s n bits) environment) outcome = keys_in outcome
enc_in action outcome = 0

abbrev pub dec_in : Action → Outcome → ℕ
dec_in (Ask v (Dec s m names) environment) outcome = keys_in outcome
dec_in action outcome = 0

-- The sum over all actions of a run.
unfoldable pub counted : (Action → Outcome → ℕ) → Network → World → List Action → ℕ
counted count net w [] = 0
counted count net w (a ∷ rest) = let out = step net w a in count a out.1 + counted count net out.0 rest

abbrev pub enc_keys : Network → World → List Action → ℕ
enc_keys net w actions = counted enc_in net w actions

abbrev pub dec_keys : Network → World → List Action → ℕ
dec_keys net w actions = counted dec_in net w actions

-- The action asks for no key of a pair.
abbrev pub asks_no_key : Action → Bool
asks_no_key (Ask v (Enc m s n bits) environment) = false
asks_no_key (Ask v (Dec s m names) environment) = false
asks_no_key action = true

-- The action asks for no group key and no chunk.
abbrev pub is_of_pairs : Action → Bool
is_of_pairs (Ask v (EncGroup m slaves n bits) environment) = false
is_of_pairs (Ask v (Get caller stream index) environment) = false
is_of_pairs action = true

-- The number of keys in a report.
abbrev pub keys_of : Item → ℕ
keys_of (Keys keys) = length keys
keys_of _ = 0

abbrev pub keys_told : List NumberedItem → ℕ
keys_told items = sum_by (λ (i : NumberedItem). keys_of i.item) items
