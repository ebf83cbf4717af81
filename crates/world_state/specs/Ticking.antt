-- The first and the last action of a tick.
use Rattle.std.specs.Prelude.{◌≡◌, ℕ, [], ◌∷◌}
use Rattle.net_model.specs.declared.event.Event.TheVariants.{Plan}
use Rattle.net_model.specs.declared.reply.Reply.{Reply}
use Rattle.net_model.specs.World.{Network, World}
use Rattle.net_model.specs.Action.{Environment, Ask, Complete, Replies}
use Rattle.net_model.specs.Step.{step, IsStep}
use Rattle.run_ops.specs.Acting.{IsReady}
use Rattle.world_state.specs.Stands.{Stands}
use Rattle.world_state.specs.Tallied.{Tallied}
use Rattle.world_state.specs.declared.state.State.{State}
use Rattle.world_state.specs.Outside.{Outside}

-- A node was asked for its plan, with an answer of the environment.
pub record HasPlanned {K Q E X : Type 0} (outside : Outside K Q E X)
    (old new : State K Q E X) (net : Network) (w : World) (v : ℕ) (reply : Reply) : Type 0 where
  pub environment : Environment
  pub may : IsStep net w (Ask v Plan environment)
  pub said : (step net w (Ask v Plan environment)).1 ≡ Replies reply
  pub stands : Stands outside new net (step net w (Ask v Plan environment)).0
  pub tallied : Tallied outside old new net.site (Ask v Plan environment ∷ [])

-- A node noted what became of its frames, and no frame is on its way to a wire any more.
pub record HasNoted {K Q E X : Type 0} (outside : Outside K Q E X)
    (old new : State K Q E X) (net : Network) (w : World) (v : ℕ) : Type 0 where
  pub may : IsStep net w (Complete v)
  pub reply : Reply
  pub said : (step net w (Complete v)).1 ≡ Replies reply
  pub ready : IsReady (Stands outside) new net (step net w (Complete v)).0
  pub tallied : Tallied outside old new net.site (Complete v ∷ [])

-- Nothing happened.
pub record HasStayed {K Q E X : Type 0} (outside : Outside K Q E X)
    (old new : State K Q E X) (net : Network) (w : World) : Type 0 where
  pub stands : Stands outside new net w
  pub tallied : Tallied outside old new net.site []
