-- A decision whose effect may take place keeps the conserved properties.
use Rattle.std.proofs.Common.{subst, ◌≡◌, ℕ, true, List, [], Some}
use Rattle.std.specs.Prelude.{slice_get}
use Rattle.std.specs.List.{list_all}
use Rattle.net_model.specs.declared.event.Event.{Event}
use Rattle.net_model.specs.declared.fact.Fact.{Fact}
use Rattle.net_model.specs.declared.record.Record.{Record}
use Rattle.net_model.specs.declared.record.Record.TheVariants.{Learned}
use Rattle.net_model.specs.declared.reply.Reply.{Reply}
use Rattle.net_model.specs.declared.reply.Reply.TheVariants.{Down}
use Rattle.net_model.specs.Table.{is_secret}
use Rattle.net_model.specs.Premises.{IsNetwork}
use Rattle.net_model.specs.World.{Network, World}
use Rattle.net_model.specs.Needed.{view_of}
use Rattle.net_model.specs.Decision.{Effect, Decision, Refuses, Does}
use Rattle.net_model.specs.Decide.{random_need}
use Rattle.net_model.specs.Doubt.{MayReplay}
use Rattle.net_model.specs.Invariant.{Conserved}
use Rattle.net_model.specs.Action.{Environment, Outcome, Replies}
use Rattle.net_model.specs.Handle.{is_numbered, commit, resolve, handle}
use Rattle.law_base.proofs.Walks.{handle_walk}
use Rattle.law_invariant.specs.May.{decided}
use Rattle.law_base.proofs.Growth.{volatile_stays}
use Rattle.law_invariant.proofs.Effects.{MayTake, IsDrawnOrReceived, commit_more, perform_keeps}

-- The decision refuses, or its effect may take place.
abbrev pub MayResolve : Network → World → ℕ → ℕ → Decision → Type 0
MayResolve net w v octets (Refuses reply) = Unit {0}
MayResolve net w v octets (Does e) = list_all is_numbered e.batch ≡ true → MayTake net w v octets e

effect_may : (net : Network) (w : World) (v octets : ℕ) (x : Decision) (e : Effect) → MayResolve net w v octets x → x ≡ Does e → MayResolve net w v octets (Does e)
effect_may net w v octets x e may is = subst (MayResolve net w v octets) is may

pub handle_keeps : (net : Network) (w : World) → IsNetwork net → Conserved net w → (v : ℕ) (event : Event) (environment : Environment) →
    (w.up v ≡ true → MayResolve net w v (random_need (view_of net w v) event) (decided net w v event)) → Conserved net (handle net w v event environment).0
handle_keeps net w network c v event environment may =
    handle_walk net w (Conserved net) c v event environment
    (λ up e is. perform_keeps net w network c v up (random_need (view_of net w v) event) environment e
    (effect_may net w v (random_need (view_of net w v) event) (decided net w v event) e (may up) is))

-- An effect without orders and repeats that leaves the manager's memory unchanged.
abbrev pub plain : Network → World → ℕ → List Record → Reply → Effect
plain net w v batch reply = record { batch = batch; volatile = w.volatile v; orders = []; repeats = []; reply = reply }

pub plain_takes : (net : Network) (w : World) → IsNetwork net → Conserved net w → (v octets : ℕ) (batch : List Record) (reply : Reply) →
    MayReplay net.site w.durable v batch → ((n : ℕ) (f : Fact) → slice_get batch n ≡ Some (Learned f) → is_secret f ≡ true → IsDrawnOrReceived net w v octets f) →
    MayTake net w v octets (plain net w v batch reply)
plain_takes net w network c v octets batch reply may drawn =
    record {
      batch = may;
      orders = λ k. k;
      posted = c.posted;
      wired = c.wired;
      volatile = volatile_stays net w network c (commit net.site w v octets (plain net w v batch reply)) (commit_more net w v octets (plain net w v batch reply)) v (w.volatile v)
          (c.volatile v);
      drawn = drawn;
    }
