-- Rule 13: who asks for keys gets as many as asked for, of the size or the names asked for, or a refusal that fits what was asked.
use Rattle.std.specs.Prelude.{ℕ, zero, suc, ◌*◌, ◌==◌, Bool, true, false, not, ◌&&◌, nat_lt, List, [], ◌∷◌, length, take, slice_get, Option, Some, None}
use Rattle.qkd_base.specs.Name.{Name, name_eq, kind_number, has}
use Rattle.sae_entitlements.specs.Grants.{Grants}
use Rattle.run_types.specs.declared.command.Command.{Command}
use Rattle.run_types.specs.declared.command.Command.TheVariants as commands
use Rattle.run_types.specs.declared.refusal.Refusal.{Refusal}
use Rattle.run_types.specs.declared.refusal.Refusal.TheVariants as refusals
use Rattle.run_types.specs.declared.item.Item.{Item}
use Rattle.run_types.specs.declared.item.Item.TheVariants as items
use Rattle.item_audit.specs.Entitled.{is_at_home, may_ask, may_share}

-- ---- enc: the first keys of a pool

-- The key has the size, was named by the node, and its count is above this one.
abbrev pub is_next_key : (node bits above : ℕ) → Name × List ℕ → Bool
is_next_key v bits above k = nat_lt above k.0.count && (k.0.node == v) && (kind_number k.0.kind == 0) && (8 * length k.1 == bits)

-- The keys stand in order of their counts.
abbrev pub ascend : (node bits above : ℕ) → List (Name × List ℕ) → Bool
ascend v bits above [] = true
ascend v bits above (k ∷ keys) = is_next_key v bits above k && ascend v bits k.0.count keys

abbrev pub may_refuse_enc : (may_ask : Bool) → (count : ℕ) → Refusal → Bool
may_refuse_enc ok count refusals.Down = true
may_refuse_enc ok count refusals.NotAllowed = not ok
may_refuse_enc ok count (refusals.Few ready) = ok && nat_lt ready count
may_refuse_enc ok count refusals.Memory = ok
may_refuse_enc ok count (refusals.JournalFull length need) = ok
may_refuse_enc ok count refusals.Stopped = ok
may_refuse_enc ok count _ = false

abbrev pub hands_first : (may_ask : Bool) → (node count bits : ℕ) → Item → Bool
hands_first ok v count bits (items.Keys keys) = ok && (length keys == count) && ascend v bits 0 keys
hands_first ok v count bits (items.Refused refusal) = may_refuse_enc ok count refusal
hands_first ok v count bits _ = true

-- ---- dec: the named keys

-- The keys have these names, in this order.
abbrev pub have_names : List Name → List (Name × List ℕ) → Bool
have_names [] [] = true
have_names [] (k ∷ keys) = false
have_names (n ∷ ns) [] = false
have_names (n ∷ ns) (k ∷ keys) = name_eq k.0 n && have_names ns keys

-- the name at the place stands at an earlier place, too
abbrev pub is_again : List Name → (place : ℕ) → Option Name → Bool
is_again names place None = false
is_again names place (Some n) = has (take place names) n

abbrev pub repeats_at : List Name → (place : ℕ) → Bool
repeats_at names place = is_again names place (slice_get names place)

-- No name stands twice among the first ones.
abbrev pub are_different : List Name → (count : ℕ) → Bool
are_different names zero = true
are_different names (suc count) = not (repeats_at names count) && are_different names count

-- No name stands twice before the place, which is one of a name.
abbrev pub are_different_to : List Name → (place : ℕ) → Bool
are_different_to names place = nat_lt place (length names) && are_different names place

-- The refusal names the first place where something is wrong.
abbrev pub may_refuse_dec : (may_ask : Bool) → List Name → Refusal → Bool
may_refuse_dec ok names refusals.Down = true
may_refuse_dec ok names refusals.NotAllowed = not ok
may_refuse_dec ok names (refusals.Unknown place) = ok && are_different_to names place && not (repeats_at names place)
may_refuse_dec ok names (refusals.Repeated place) = ok && are_different_to names place && repeats_at names place
may_refuse_dec ok names (refusals.Handed place) = ok && are_different_to names place && not (repeats_at names place)
may_refuse_dec ok names refusals.Memory = ok
may_refuse_dec ok names (refusals.JournalFull length need) = ok
may_refuse_dec ok names refusals.Stopped = ok
may_refuse_dec ok names _ = false

abbrev pub hands_named : (may_ask : Bool) → List Name → Item → Bool
hands_named ok names (items.Keys keys) = ok && have_names names keys && are_different names (length names)
hands_named ok names (items.Refused refusal) = may_refuse_dec ok names refusal
hands_named ok names _ = true

-- ---- status

abbrev pub may_refuse_status : (may_ask : Bool) → Refusal → Bool
may_refuse_status ok refusals.Down = true
may_refuse_status ok refusals.NotAllowed = not ok
may_refuse_status ok refusals.Memory = ok
may_refuse_status ok _ = false

abbrev pub tells_status : (may_ask : Bool) → Item → Bool
tells_status ok (items.Ready count) = ok
tells_status ok (items.Refused refusal) = may_refuse_status ok refusal
tells_status ok _ = true

-- ---- all

abbrev pub hands : Grants → Command → Item → Bool
hands g (commands.Enc v master slave count bits) item = hands_first (may_ask g v master master slave) v count bits item
hands g (commands.EncGroup v master count bits slaves) item = hands_first (is_at_home g v master && may_share g master slaves) v count bits item
hands g (commands.Dec v slave master names) item = hands_named (may_ask g v slave master slave) names item
hands g (commands.Status v master slave) item = tells_status (may_ask g v master master slave) item
hands g _ item = true
