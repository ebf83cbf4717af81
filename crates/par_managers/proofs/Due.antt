-- A turn that may be taken may still be taken after another one.
use Rattle.std.proofs.Common.{◌≡◌, ℕ, true, List, [], ◌∷◌, ap, sym, ◌∙◌, Option, Some, None}
use Rattle.std.specs.Prelude.{slice_get}
use Rattle.net_model.specs.World.{Network, World}
use Rattle.net_model.specs.Premises.{IsNetwork}
use Rattle.net_model.specs.Invariant.{Conserved}
use Rattle.net_model.specs.Action.{Environment}
use Rattle.net_model.specs.Step.{step, is_enabled}
use Rattle.run_ops.specs.declared.job.Job.{Job}
use Rattle.run_ops.specs.declared.job.Job.TheVariants as jobs
use Rattle.run_ops.specs.Jobs.{is_job}
use Rattle.par_managers.specs.declared.next.Next.{Next}
use Rattle.par_managers.specs.Order.{HasOctets, AreDue}
use Rattle.par_managers.specs.Turning.{asked_with}
use Rattle.par_managers.proofs.Turning.{wire_still, octets_still}

module _ (net : Network) (w : World) (network : IsNetwork net) (c : Conserved net w) (job : Job) (environment : Environment) (may : is_enabled net w (asked_with job environment) ≡ true) where
  abbrev after : World
  after = (step net w (asked_with job environment)).0

  -- A frame that is to be passed stays on its wire, with its octets.

  has_still : (other : Job) (octets : Option (List ℕ)) → is_job net.site other ≡ true → HasOctets net w other octets → HasOctets net after other octets
  has_still jobs.Nothing octets fit h = h
  has_still (jobs.Ask node event) octets fit h = tt
  has_still (jobs.Pass lane number) None fit h = h
  has_still (jobs.Pass lane number) (Some octets) fit h =
      record {
        frame = h.frame;
        there = ap (λ (ws : List ℕ). slice_get ws number) (wire_still net w network c job environment may lane) ∙ h.there;
        are = h.are ∙ sym (octets_still net w network c job environment may lane fit h.frame);
      }

  pub due_still : (all : List Job) (nexts : List Next) → AreDue net w all nexts → AreDue net after all nexts
  due_still all [] h = tt
  due_still all (n ∷ nexts) h =
      (record { job = h.0.job; there = h.0.there; fit = h.0.fit; has = has_still h.0.job n.octets h.0.fit h.0.has }, due_still all nexts h.1)
