-- Rule 15: a call on streams is answered by a status that such a call can have, and for what it asks.
use Rattle.std.specs.Prelude.{ℕ, ◌==◌, ◌%◌, Bool, true, false, not, ◌&&◌, ◌||◌, nat_le, if◌then◌else◌, Option, Some, None}
use Rattle.qkd_base.specs.Name.{Name, name_eq, kind_number}
use Rattle.sae_entitlements.specs.Grants.{Grants}
use Rattle.run_types.specs.declared.stream_call.StreamCall.{StreamCall}
use Rattle.run_types.specs.declared.stream_call.StreamCall.TheVariants as calls
use Rattle.run_types.specs.declared.stream_answer.Chunk.{Chunk}
use Rattle.run_types.specs.declared.stream_answer.StreamAnswer.{StreamAnswer}
use Rattle.run_types.specs.declared.stream_answer.StreamAnswer.TheVariants as answers
use Rattle.run_types.specs.declared.command.Command.{Command}
use Rattle.run_types.specs.declared.command.Command.TheVariants as commands
use Rattle.run_types.specs.declared.refusal.Refusal.{Refusal}
use Rattle.run_types.specs.declared.refusal.Refusal.TheVariants as refusals
use Rattle.run_types.specs.declared.item.Item.{Item}
use Rattle.run_types.specs.declared.item.Item.TheVariants as items
use Rattle.item_audit.specs.Entitled.{may_ask}

-- A call that changes nothing is answered by a status, where memory suffices.
abbrev pub may_refuse_call : (may_change : Bool) → Refusal → Bool
may_refuse_call ok refusals.Down = true
may_refuse_call ok refusals.Memory = ok
may_refuse_call ok (refusals.JournalFull length need) = ok
may_refuse_call ok refusals.Stopped = ok
may_refuse_call ok _ = false

-- ---- opening

abbrev pub is_size : (bits : ℕ) → Bool
is_size bits = nat_le 64 bits && nat_le bits 4096 && (bits % 8 == 0)

abbrev pub is_new_stream : (node : ℕ) → Option Name → Bool
is_new_stream v None = true
is_new_stream v (Some n) = (n.node == v) && (kind_number n.kind == 1)

abbrev pub is_opening : (may_ask : Bool) → (bits status : ℕ) → Bool
is_opening ok bits status =
    if not ok then status == 8
    else if not (is_size bits) then status == 7
    else (status == 1) || (status == 4)

abbrev pub answers_open : (may_ask : Bool) → (node bits : ℕ) → StreamAnswer → Bool
answers_open ok v bits (answers.OpenConnect status stream) = is_opening ok bits status && is_new_stream v stream
answers_open ok v bits _ = false

-- ---- the other calls

abbrev pub is_named : Name → Option Name → Bool
is_named n None = true
is_named n (Some m) = name_eq m n

abbrev pub answers_join : Name → StreamAnswer → Bool
answers_join stream (answers.OpenConnect status named) =
    ((status == 0) || (status == 5) || (status == 7) || (status == 8) || (status == 9)) && is_named stream named
answers_join stream _ = false

abbrev pub is_indexed : (index : ℕ) → Option Chunk → Bool
is_indexed index None = true
is_indexed index (Some chunk) = chunk.index == index

abbrev pub answers_get : (index : ℕ) → StreamAnswer → Bool
answers_get index (answers.GetKey status chunk) =
    ((status == 0) || (status == 2) || (status == 3) || (status == 8) || (status == 9) || (status == 10)) && is_indexed index chunk
answers_get index _ = false

abbrev pub answers_close : StreamAnswer → Bool
answers_close (answers.Close status) = (status == 0) || (status == 8) || (status == 9)
answers_close _ = false

-- ---- all

abbrev pub may_change : Grants → (node : ℕ) → StreamCall → Bool
may_change g v (calls.Open source peer bits) = may_ask g v source source peer && is_size bits
may_change g v _ = true

abbrev pub answers_call : Grants → (node : ℕ) → StreamCall → StreamAnswer → Bool
answers_call g v (calls.Open source peer bits) answer = answers_open (may_ask g v source source peer) v bits answer
answers_call g v (calls.Join caller source stream bits) answer = answers_join stream answer
answers_call g v (calls.Get caller stream index) answer = answers_get index answer
answers_call g v (calls.Close caller stream) answer = answers_close answer

abbrev pub answers_stream : Grants → (node : ℕ) → StreamCall → Item → Bool
answers_stream g v call (items.Stream answer) = answers_call g v call answer
answers_stream g v call (items.Refused refusal) = may_refuse_call (may_change g v call) refusal
answers_stream g v call _ = true

abbrev pub streams : Grants → Command → Item → Bool
streams g (commands.Stream v call) item = answers_stream g v call item
streams g _ item = true
