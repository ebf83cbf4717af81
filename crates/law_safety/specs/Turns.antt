-- One life of a manager: its events, what it knew at each of them, and their effects.
use Rattle.std.specs.Prelude.{◌≡◌, ℕ, Bool, List, [], ◌∷◌, if◌then◌else◌}
use Rattle.qkd_base.specs.Lane.{lane_eq}
use Rattle.qkd_base.specs.declared.lane.Lane.{Lane}
use Rattle.net_model.specs.declared.event.Event.{Event}
use Rattle.net_model.specs.declared.event.Event.TheVariants.{Heard}
use Rattle.net_model.specs.declared.payload.Payload.TheVariants.{Data}
use Rattle.net_model.specs.Site.{Site}
use Rattle.net_model.specs.Sealing.{Sealing, Opened, Opens}
use Rattle.net_model.specs.World.{Volatile}
use Rattle.net_model.specs.View.{View, port_of, incoming_octets}
use Rattle.net_model.specs.Decision.{Effect, Does}
use Rattle.net_model.specs.Decide.{decide}

-- An event, what the manager knows at that time, the links that are up, the octets drawn, and the effect.
pub record Turn : Type 0 where
  pub view : View
  pub is_up : ℕ → Bool
  pub random : List ℕ
  pub event : Event
  pub effect : Effect

-- The memory of the manager goes from turn to turn. Everything else that it knows is arbitrary. Refused events are
-- left out, since they change nothing.
abbrev pub AreTurns : Site → Sealing → Volatile → List Turn → Type 0
AreTurns site frames vol [] = Unit {0}
AreTurns site frames vol (t ∷ ts) = (t.view.volatile ≡ vol) × (decide site frames t.is_up t.view t.random t.event ≡ Does t.effect) × AreTurns site frames t.effect.volatile ts

abbrev pub kept_behind : Volatile → List Turn → Volatile
kept_behind vol [] = vol
kept_behind vol (t ∷ ts) = kept_behind t.effect.volatile ts

-- The offsets of the lane's frames that brought facts, in order. An offset that came several times is listed several
-- times.

abbrev pub fact_in : Opened → List ℕ → List ℕ
fact_in (Opens offset (Data f)) rest = offset ∷ rest
fact_in _ rest = rest

abbrev pub facts_by : Sealing → Lane → View → Event → List ℕ → List ℕ
facts_by frames l v (Heard k octets) rest = if lane_eq k l then fact_in (frames.unseal k (incoming_octets k (port_of v k.link)) octets) rest else rest
facts_by frames l v _ rest = rest

abbrev pub facts_on : Sealing → Lane → List Turn → List ℕ
facts_on frames l [] = []
facts_on frames l (t ∷ ts) = facts_by frames l t.view t.event (facts_on frames l ts)
