-- What a manager decides on an event. It refuses the event, or it decides on an effect, which is made durable, noted
-- and answered as one.
use Rattle.std.specs.Prelude.{ℕ, ◌+◌, ◌==◌, max, Bool, List, [], ◌∷◌, Option, Some, None, if◌then◌else◌}
use Rattle.std.specs.List.{list_any}
use Rattle.qkd_base.specs.Name.{Name}
use Rattle.qkd_base.specs.declared.key_name.NameKind.{NameKind}
use Rattle.net_model.specs.declared.fact.Fact.{Fact}
use Rattle.net_model.specs.declared.record.Record.{Record}
use Rattle.net_model.specs.declared.reply.Reply.{Reply}
use Rattle.net_model.specs.Table.{PartOf, part_of, name_of, has_fact, is_stored_about}
use Rattle.net_model.specs.World.{Entry, Transmission, Volatile}
use Rattle.net_model.specs.View.{View}

-- the durable changes, the new state of the manager's life, the frames to be sent for the first time and again, and the
-- answer
pub record Effect : Type 0 where
  pub batch : List Record
  pub volatile : Volatile
  pub orders : List Transmission
  pub repeats : List Entry
  pub reply : Reply

pub data Decision : Type 0 where
  Refuses : (reply : Reply) → Decision
  Does : (effect : Effect) → Decision

-- an effect that is only an answer, and one that is an answer with durable changes
abbrev pub answers : View → Reply → Decision
answers v reply = Does (record { batch = []; volatile = v.volatile; orders = []; repeats = []; reply = reply })

abbrev pub makes : View → List Record → Reply → Decision
makes v batch reply = Does (record { batch = batch; volatile = v.volatile; orders = []; repeats = []; reply = reply })

-- The counts of a node's names. They rise from 1 over all kinds of names, those of group keys included.

abbrev pub count_if : ℕ → Name → ℕ
count_if me n = if n.node == me then n.count else 0

abbrev pub group_count : ℕ → Option PartOf → ℕ
group_count me None = 0
group_count me (Some p) = count_if me p.key

-- the greatest count of this node's names
unfoldable pub last_count : ℕ → List Fact → ℕ
last_count me [] = 0
last_count me (f ∷ fs) = max (max (count_if me (name_of f)) (group_count me (part_of f))) (last_count me fs)

abbrev pub next_count : View → ℕ
next_count v = last_count v.me v.facts + 1

abbrev pub fresh_name : View → NameKind → ℕ → Name
fresh_name v kind more = record { node = v.me; kind = kind; count = next_count v + more }

abbrev pub knows : View → Name → Bool
knows v n = has_fact v.facts n

-- a Stored note about this name is known; at the origin it confirms the key, chunk or part
abbrev pub is_confirmed : View → Name → Bool
is_confirmed v n = list_any (is_stored_about n) v.facts
