-- What the effect of an event may be: permitted records and nothing else.
use Rattle.std.specs.Prelude.{◌≡◌, ℕ, Bool, true, false, []}
use Rattle.std.specs.List.{list_all}
use Rattle.net_model.specs.declared.event.Event.{Event}
use Rattle.net_model.specs.declared.event.Event.TheVariants.{Plan}
use Rattle.net_model.specs.Doubt.{MayReplay}
use Rattle.net_model.specs.World.{Network, World}
use Rattle.net_model.specs.Needed.{view_of}
use Rattle.net_model.specs.OctetSequence.{octets_from}
use Rattle.net_model.specs.Decision.{Decision, Refuses, Does, Effect}
use Rattle.net_model.specs.Decide.{decide, random_need}
use Rattle.net_model.specs.Handle.{is_numbered}

-- The batch is permitted if its new counts and indexes are in range. The effect sends nothing, and leaves what the
-- manager keeps in memory unchanged.
pub record MayMake (net : Network) (w : World) (v : ℕ) (e : Effect) : Type 0 where
  pub volatile : e.volatile ≡ w.volatile v
  pub orders : e.orders ≡ []
  pub repeats : e.repeats ≡ []
  pub batch : list_all is_numbered e.batch ≡ true → MayReplay net.site w.durable v e.batch

-- The event is a plan. Plans have orders, and other laws speak of them.
abbrev pub is_plan : Event → Bool
is_plan Plan = true
is_plan event = false

abbrev pub MayDecide : Network → World → ℕ → Decision → Type 0
MayDecide net w v (Refuses reply) = Unit {0}
MayDecide net w v (Does effect) = MayMake net w v effect

-- The manager's decision on an event, with the octets that its entropy gives next.
abbrev pub decided : Network → World → ℕ → Event → Decision
decided net w v event =
    decide net.site net.sealing w.link_up (view_of net w v) (octets_from (net.entropy v).octet (w.drawn v) (random_need (view_of net w v) event)) event
