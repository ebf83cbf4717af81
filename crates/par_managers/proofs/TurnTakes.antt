-- The next turn is taken.
use Rattle.std.proofs.Common.{◌≡◌, true, List, sym, subst, ◌∙◌, Option, Some}
use Rattle.std.specs.Prelude.{slice_get}
use Rattle.net_model.specs.World.{Network, World}
use Rattle.run_ops.specs.declared.job.Job.{Job}
use Rattle.run_ops.specs.Jobs.{is_job}
use Rattle.world_state.specs.Stands.{Stands}
use Rattle.world_state.specs.declared.state.State.{State}
use Rattle.par_managers.specs.declared.next.Next.{Next}
use Rattle.par_managers.specs.Order.{HasOctets, IsDue}
use Rattle.par_managers.specs.TurnTaking.{MayTurn}
use Rattle.world_state.specs.Outside.{Outside}

some_is : {A : Type 0} {a b : A} → ◌≡◌ {A = Option A} (Some a) (Some b) → a ≡ b
some_is h = cc

module _ {K Q E X : Type 0} (outside : Outside K Q E X) (s : State K Q E X) (net : Network) (w : World) (stands : Stands outside s net w)
    (all : List Job) (next : Next) (due : IsDue net w all next) (job : Job) (there : slice_get all next.place ≡ Some job) where
  same : due.job ≡ job
  same = some_is (sym due.there ∙ there)

  fits : is_job net.site job ≡ true
  fits = subst (λ (j : Job). is_job net.site j ≡ true) same due.fit

  pub may_take : MayTurn outside s net w job next.octets
  may_take = record { stands = stands; fit = fits; has = subst (λ (j : Job). HasOctets net w j next.octets) same due.has }
