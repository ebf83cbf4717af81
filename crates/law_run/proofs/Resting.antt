-- A course may begin in the world before any start.
use Rattle.std.proofs.Common.{◌≡◌, ℕ, List, [], refl, sym, ◌∙◌, ap, subst}
use Rattle.net_model.specs.declared.record.Record.{Record}
use Rattle.net_model.specs.World.{Network, World, InDoubt, first}
use Rattle.net_model.specs.Needed.{view_of}
use Rattle.net_model.specs.Fold.{view_restarted, recovered_view}
use Rattle.run_model.specs.Begin.{IsAtRest, MayBegin}
use Rattle.law_invariant.proofs.Steps.{first_keeps}
use Rattle.law_recovery.specs.Fitting.{AllFit}
use Rattle.law_recovery.specs.GivesBack.{GivesBack}
use Rattle.law_recovery.specs.Saved.{DoubtsFit}
use Rattle.law_recovery.proofs.Empty.{first_empty}
use Rattle.law_recovery.proofs.Restarting.{recovered_restarts, nothing_given}

pub first_rests : IsAtRest first
unfolding first
first_rests = record {
  down = λ v. refl;
  certain = λ v. refl;
  unbroken = λ v. refl;
  empty = λ v. refl;
  noted = λ v. refl;
  linked = λ link. refl;
  claimed = λ l. refl;
  put = λ l. refl;
  framed = λ l. refl;
  wired = λ l. refl;
  owned = λ l. refl;
  recovered = λ l. refl;
}

pub first_begins : (net : Network) → MayBegin net first
first_begins net = record {
  rest = first_rests;
  conserved = first_keeps net;
  given = λ v less. ([], first_empty net v ∙ sym (nothing_given net.site v));
}

-- A world at rest has no batch in doubt.
pub rest_fits : (net : Network) (w : World) → IsAtRest w → DoubtsFit net w
rest_fits net w rest v = subst (λ (d : InDoubt). AllFit net (view_of net w v) d.batch) (sym (rest.certain v)) tt

-- Batches that give back what a node sees are a journal of it.
pub gives_back : (net : Network) (w : World) (v : ℕ) (batches : List (List Record)) → view_of net w v ≡ recovered_view net.site v batches → GivesBack net.site v batches (view_of net w v)
gives_back net w v batches sees = recovered_restarts net.site v batches ∙ ap view_restarted {x = recovered_view net.site v batches} {y = view_of net w v} (sym sees)
