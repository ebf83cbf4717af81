-- Relaying: each fact goes hop by hop along its route, and each hop is acknowledged (SECOQC trusted repeaters).
use Rattle.std.specs.Prelude.{ℕ, ◌==◌, ◌&&◌, not, Bool, false, List, [], ◌∷◌, map, filter, reverse, Option, Some, None, if◌then◌else◌}
use Rattle.qkd_base.specs.Name.{Name, has}
use Rattle.qkd_base.specs.Route.{next_after}
use Rattle.qkd_base.specs.declared.lane.Lane.{Lane}
use Rattle.qkd_base.specs.declared.key_name.NameKind.TheVariants.{Note as NoteKind}
use Rattle.net_model.specs.declared.fact.Fact.{Fact}
use Rattle.net_model.specs.declared.fact.Fact.TheVariants.{Stored}
use Rattle.net_model.specs.declared.payload.Payload.{Payload}
use Rattle.net_model.specs.declared.payload.Payload.TheVariants.{Data, Ack}
use Rattle.net_model.specs.declared.record.Record.{Record}
use Rattle.net_model.specs.declared.record.Record.TheVariants.{Learned, Acked}
use Rattle.net_model.specs.declared.reply.Reply.TheVariants.{HeardFact}
use Rattle.net_model.specs.Table.{name_of, route_of, target, is_secret, kind_of}
use Rattle.net_model.specs.Site.{Site, sender}
use Rattle.net_model.specs.View.{View}
use Rattle.net_model.specs.Decision.{Effect, fresh_name, knows}
use Rattle.net_model.specs.Window.{acknowledge, cleared}

abbrev pub is_some_of : Option ℕ → ℕ → Bool
is_some_of None n = false
is_some_of (Some m) n = m == n

-- the facts that go from this node to node `to`, and that `to` has not acknowledged
unfoldable pub owed : View → ℕ → List Name
owed v to = map name_of (filter (λ f. is_some_of (next_after (route_of f) v.me) to && not (has v.acked (name_of f))) v.facts)

-- the target of a key, chunk or part makes a Stored note of its arrival
abbrev pub stored_note : View → Fact → List Record
stored_note v f =
    if is_secret f && (target f == v.me) then Learned (Stored (fresh_name v NoteKind 0) (name_of f) (reverse (route_of f))) ∷ [] else []

-- a new fact is recorded; each fact, new or not, is acknowledged
unfoldable pub receive_fact : View → Lane → ℕ → Fact → Effect
receive_fact v l offset f =
    let is_new = not (knows v (name_of f)) in
    record {
      batch = if is_new then Learned f ∷ stored_note v f else [];
      volatile = acknowledge v.volatile l offset (name_of f);
      orders = [];
      repeats = [];
      reply = HeardFact is_new (kind_of f) (name_of f);
    }

-- an acknowledgement counts if its fact is owed to that neighbour; it is itself never acknowledged
unfoldable pub receive_ack : View → Lane → ℕ → Name → Effect
receive_ack v l from n =
    let is_new = has (owed v from) n in
    record {
      batch = if is_new then Acked n ∷ [] else [];
      volatile = if is_new then record (v.volatile) { window = cleared l n v.volatile.window } else v.volatile;
      orders = [];
      repeats = [];
      reply = HeardFact is_new 3 n;
    }

-- the effect of a payload that came on a lane at an offset
abbrev pub receive : Site → View → Lane → ℕ → Payload → Effect
receive site v l offset (Data f) = receive_fact v l offset f
receive site v l offset (Ack n) = receive_ack v l (sender site l) n
