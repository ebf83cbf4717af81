-- What claims and puts leave unchanged.
use Rattle.std.proofs.Common.{◌≡◌, ℕ, List, [], ◌∷◌, map, refl, sym, ◌∙◌, ap, subst}
use Rattle.net_model.specs.declared.order.Order.{Order}
use Rattle.net_model.specs.World.{Network, World}
use Rattle.net_model.specs.Frames.{allocate}
use Rattle.net_model.specs.Step.{step, IsRun}
use Rattle.run_model.specs.Works.{actions_in}
use Rattle.law_locality.proofs.Runs.{run_none, run_one}
use Rattle.law_parallel.proofs.Claims.{claim}
use Rattle.law_parallel.proofs.AllClaims.{orders_of}
use Rattle.law_parallel.proofs.AllPuts.{LanePut, put_action, works_in}
use Rattle.law_parallel.proofs.ClaimedWorld.{claims_run}
use Rattle.law_parallel.proofs.OnePut.{IsPutOfAny}
use Rattle.law_parallel.proofs.Reported.{after_puts, next, put_one, later}

-- The world u with the claims of x.

abbrev pub with_claims : World → World → World
with_claims u x = record u { durable = record (u.durable) { own = x.durable.own }; frames = x.frames; unclaimed = x.unclaimed; outgoing = x.outgoing }

-- The world u with the puts of x.

abbrev pub with_puts : World → World → World
with_puts u x = record u { wire = x.wire; outgoing = x.outgoing; placings = x.placings }

module _ (net : Network) where
  claim_first : (u : World) (o : Order) (x : World) → with_claims (step net u (claim o)).0 x ≡ with_claims u x
  unfolding step allocate
  claim_first u o x = refl

  pub claims_alone : (xs : List (ℕ × Order)) (u : World) → claims_run net u xs ≡ with_claims u (claims_run net u xs)
  claims_alone [] u = subst (λ (x : World). x ≡ with_claims u x) (sym (run_none net u)) refl
  claims_alone (y ∷ xs) u =
      let first : World = (step net u (claim y.1)).0 in
      subst (λ (x : World). x ≡ with_claims u x) (sym (run_one net u (claim y.1) (map claim (orders_of xs))))
      (claims_alone xs first ∙ claim_first u y.1 (claims_run net first xs))

  put_first : (u : World) (p : LanePut) → IsPutOfAny net u p.0 ((p.1).0).number (p.1).1 → (x : World) → with_puts (next net u p) x ≡ with_puts u x
  put_first u p one x = ap (λ (y : World). with_puts y x) one.is.after

  pub puts_alone : (ps : List LanePut) (u : World) → IsRun net u (actions_in (works_in ps)) → after_puts net u ps ≡ with_puts u (after_puts net u ps)
  puts_alone [] u runs = subst (λ (x : World). x ≡ with_puts u x) (sym (run_none net u)) refl
  puts_alone (p ∷ ps) u runs =
      subst (λ (x : World). x ≡ with_puts u x) (sym (run_one net u (put_action p) (actions_in (works_in ps))))
      (puts_alone ps (next net u p) (later net u p ps runs) ∙ put_first u p (put_one net u p ps runs) (after_puts net (next net u p) ps))
