-- The keys for whose response memory is taken before a manager is asked.
use Rattle.std.specs.Prelude.{◌≡◌, ℕ, ◌&&◌, nat_le, min, Bool, false, List, length}
use Rattle.std.specs.List.{list_all}
use Rattle.net_model.specs.declared.event.Event.{Event}
use Rattle.net_model.specs.declared.event.Event.TheVariants as events
use Rattle.net_model.specs.declared.reply.Reply.{Reply}
use Rattle.net_model.specs.declared.reply.Reply.TheVariants.{Handed}
use Rattle.qkd_base.specs.Name.{Name}

-- how many keys an event asks for
abbrev pub keys_asked : Event → ℕ
keys_asked (events.Enc master slave number bits) = number
keys_asked (events.EncGroup master slaves number bits) = number
keys_asked (events.Dec slave master names) = min 128 (length names)
keys_asked _ = 0

-- The longest key that can be asked for has 512 octets.
abbrev pub is_short : Name × List ℕ → Bool
is_short key = nat_le (length key.1) 512

-- at most so many keys, none of them longer than can be asked for
abbrev pub are_within : (most : ℕ) → List (Name × List ℕ) → Bool
are_within most keys = nat_le (length keys) most && list_all is_short keys

-- A reply whose response may be wanting memory: it hands out no keys, or more or longer ones than were asked for.
abbrev pub MayBeLost : Event → Reply → Type 0
MayBeLost event reply = (keys : List (Name × List ℕ)) → reply ≡ Handed keys → are_within (keys_asked event) keys ≡ false
