-- No manager sees the claims and puts of a block.
use Rattle.std.proofs.Common.{◌≡◌, ℕ, true, List, [], ◌∷◌, map, ◌∙◌, ap}
use Rattle.net_model.specs.declared.order.Order.{Order}
use Rattle.net_model.specs.World.{Network, World}
use Rattle.net_model.specs.Needed.{view_of}
use Rattle.net_model.specs.Tick.{ordered}
use Rattle.net_model.specs.Action.{is_shown, environment_of}
use Rattle.net_model.specs.Step.{step, is_enabled, IsRun}
use Rattle.run_model.specs.Works.{actions_in}
use Rattle.law_base.proofs.Base.{and_left}
use Rattle.law_locality.proofs.Runs.{first_step, later_steps, run_none, run_one}
use Rattle.law_locality.proofs.ManagerSteps.{claim_unseen, transmit_unseen}
use Rattle.law_parallel.proofs.Claims.{claim}
use Rattle.law_parallel.proofs.AllClaims.{orders_of}
use Rattle.law_parallel.proofs.AllPuts.{LanePut, put_action, works_in}
use Rattle.law_parallel.proofs.ClaimedWorld.{claims_run}
use Rattle.law_parallel.proofs.Reported.{after_puts, next}

module _ (net : Network) (v : ℕ) where
  pub claims_unseen : (xs : List (ℕ × Order)) (u : World) → IsRun net u (map claim (orders_of xs)) → view_of net (claims_run net u xs) v ≡ view_of net u v
  claims_unseen [] u runs = ap (λ (x : World). view_of net x v) (run_none net u)
  claims_unseen (y ∷ xs) u runs =
      let rest = map claim (orders_of xs) in
      let may : is_enabled net u (claim y.1) ≡ true = and_left (is_enabled net u (claim y.1)) (is_shown (environment_of (claim y.1)) (step net u (claim y.1)).1) (first_step net u (claim y.1) rest runs) in
      ap (λ (x : World). view_of net x v) (run_one net u (claim y.1) rest) ∙ claims_unseen xs (step net u (claim y.1)).0 (later_steps net u (claim y.1) rest runs)
      ∙ (claim_unseen net u v (ordered y.1) may).manager.view

  pub puts_unseen : (ps : List LanePut) (u : World) → view_of net (after_puts net u ps) v ≡ view_of net u v
  puts_unseen [] u = ap (λ (x : World). view_of net x v) (run_none net u)
  puts_unseen (p ∷ ps) u =
      ap (λ (x : World). view_of net x v) (run_one net u (put_action p) (actions_in (works_in ps))) ∙ puts_unseen ps (next net u p)
      ∙ (transmit_unseen net u v p.0 ((p.1).0).number (p.1).1).view
