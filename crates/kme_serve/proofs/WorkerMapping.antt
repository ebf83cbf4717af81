-- If a worker served a listener over its pass, it also served it over a function of the pass, provided that each turn respects
-- the function.
use Rattle.std.proofs.Common.{◌≡◌, ℕ, List, Result}
use Rattle.sae_entitlements.specs.Grants.{Grants}
use Rattle.kme_serve.specs.declared.turn.Turn.{Turn}
use Rattle.kme_serve.specs.Door.{Door}
use Rattle.kme_serve.proofs.Mapping.{door_maps}
use Rattle.kme_serve.proofs.Keeping.{door_keeps}
use Rattle.kme_serve.specs.Workers.{HasServed}

module _ {P Q : Type 0} (Answers : P → Turn → P → Type 0) (seen : P → ℕ) (Others : Q → Turn → Q → Type 0) (seen_there : Q → ℕ) (f : P → Q)
    (turns : (p : P) (turn : Turn) (q : P) → Answers p turn q → Others (f p) turn (f q)) (same : (p : P) → seen p ≡ seen_there (f p)) where
  pub worker_maps : {T E : Type 0} (Fits : P → Type 0) (FitsThere : Q → Type 0) (nodes : List (List ℕ)) (g : Grants) (node connections : ℕ) (before after : Door) (faults_before faults_after : ℕ)
      (p q : P) (outcome : Result T E) → FitsThere (f q) → HasServed Fits Answers seen nodes g node connections before after faults_before faults_after p q outcome
      → HasServed FitsThere Others seen_there nodes g node connections before after faults_before faults_after (f p) (f q) outcome
  worker_maps Fits FitsThere nodes g node connections before after faults_before faults_after p q outcome fits did = record {
    fits = fits;
    served = door_maps Answers seen Others seen_there f turns same nodes g node connections before after p q outcome did.served;
    cause = did.cause;
    calm = did.calm;
    lasts = did.lasts;
  }

module _ {P : Type 0} (Answers : P → Turn → P → Type 0) (seen : P → ℕ) (Keeps : P → P → Type 0) (same : (p : P) → Keeps p p)
    (both : (p q r : P) → Keeps p q → Keeps q r → Keeps p r) (turns : (p : P) (turn : Turn) (q : P) → Answers p turn q → Keeps p q) where
  pub worker_keeps : {T E : Type 0} (Fits : P → Type 0) (nodes : List (List ℕ)) (g : Grants) (node connections : ℕ) (before after : Door) (faults_before faults_after : ℕ)
      (p q : P) (outcome : Result T E) → HasServed Fits Answers seen nodes g node connections before after faults_before faults_after p q outcome → Keeps p q
  worker_keeps Fits nodes g node connections before after faults_before faults_after p q outcome did =
      door_keeps Answers seen Keeps same both turns nodes g node connections before after p q outcome did.served
