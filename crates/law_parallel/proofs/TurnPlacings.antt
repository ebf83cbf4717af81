-- The turns of a block leave no note waiting.
use Rattle.std.proofs.Common.{◌≡◌, ℕ, true, List, [], ◌∷◌, refl, ◌∙◌, ap, Option, Some, None}
use Rattle.qkd_base.specs.declared.lane.Lane.{Lane}
use Rattle.net_model.specs.declared.event.Event.{Event}
use Rattle.net_model.specs.declared.payload.Payload.{Payload}
use Rattle.net_model.specs.Item.{payload}
use Rattle.net_model.specs.Site.{receiver}
use Rattle.net_model.specs.World.{Network, World}
use Rattle.net_model.specs.Needed.{view_of}
use Rattle.net_model.specs.Decision.{Effect}
use Rattle.net_model.specs.Decide.{random_need}
use Rattle.net_model.specs.Action.{Environment, Action, Ask, Deliver}
use Rattle.net_model.specs.Handle.{commit, stopped, perform, handle}
use Rattle.net_model.specs.Frames.{receive_item, deliver}
use Rattle.net_model.specs.BlockOrder.{is_turn_of}
use Rattle.net_model.specs.Step.{step, run}
use Rattle.run_model.specs.Works.{Work, actions_in}
use Rattle.law_base.proofs.Walks.{perform_walk, handle_walk, deliver_walk}
use Rattle.law_locality.proofs.Runs.{run_none, run_one}
use Rattle.law_parallel.specs.Remaining.{AreTurns}

module _ (net : Network) (w : World) where
  abbrev Leaves : World → Type 0
  Leaves x = x.placings ≡ w.placings

  stops : (v octets : ℕ) (e : Effect) → Leaves (stopped w v octets e)
  unfolding stopped
  stops v octets e = refl

  commits : (v octets : ℕ) (e : Effect) → Leaves (commit net.site w v octets e)
  unfolding commit
  commits v octets e = refl

  performed : (v octets : ℕ) (environment : Environment) (e : Effect) → Leaves (perform net w v octets environment e).0
  performed v octets environment e = perform_walk net w Leaves refl v octets environment e (λ numbered fits. stops v octets e) (λ numbered fits. commits v octets e)

  asked : (v : ℕ) (event : Event) (environment : Environment) → Leaves (handle net w v event environment).0
  asked v event environment = handle_walk net w Leaves refl v event environment (λ up e is. performed v (random_need (view_of net w v) event) environment e)

  item : (l : Lane) (environment : Environment) (offset : ℕ) (p : Option Payload) → Leaves (receive_item net w l offset environment p).0
  item l environment offset None = refl
  item l environment offset (Some p) = performed (receiver net.site l) 0 environment _

  delivered : (l : Lane) (number : ℕ) (environment : Environment) → Leaves (deliver net w l number environment).0
  delivered l number environment = deliver_walk net w Leaves refl l environment (λ j a at up. item l environment a.offset (payload w.durable.facts a.item)) number

  turn_leaves : (v : ℕ) (a : Action) → is_turn_of net.site v a ≡ true → Leaves (step net w a).0
  unfolding step
  turn_leaves v (Ask u event environment) turn = asked u event environment
  turn_leaves v (Deliver l number environment) turn = delivered l number environment
  turn_leaves v _ turn = cc

pub turns_leave_placings : (net : Network) (works : List Work) (w : World) → AreTurns net works → (run net w (actions_in works)).placings ≡ w.placings
turns_leave_placings net [] w h = ap (λ (x : World). x.placings) (run_none net w)
turns_leave_placings net (x ∷ works) w h =
    ap (λ (y : World). y.placings) (run_one net w x.action (actions_in works)) ∙ turns_leave_placings net works (step net w x.action).0 h.1 ∙ turn_leaves net w h.0.0 x.action h.0.2
