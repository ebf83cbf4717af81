-- A worker's pass after its door was served.
use Rattle.std.proofs.Common.{◌≡◌, ℕ, ◌+◌, List, [], length, Result, refl, subst, ◌∙◌}
use Rattle.edge_io.specs.declared.failed.Failed.{Failed}
use Rattle.sae_entitlements.specs.Grants.{Grants}
use Rattle.kme_serve.specs.declared.turn.Turn.{Turn}
use Rattle.kme_serve.specs.Door.{Door}
use Rattle.kme_serve.specs.Workers.{HasServed}
use Rattle.kme_serve.proofs.WorkerMapping.{worker_maps, worker_keeps}
use Rattle.net_serve.specs.Serving.{Call, IsNextCall, next_place}

module _ {P : Type 0} (node : P → ℕ) (made : P → List Call) (left : P → ℕ) (Fits : P → Type 0) (answers : P → Turn → P → Type 0) where
  -- the pass is at the same node, and its calls made plus its calls left are as many as before
  pub record Keeps (p q : P) : Type 0 where
    pub same : node q ≡ node p
    pub share : left q + length (made q) ≡ left p + length (made p)

  keeps_itself : (p : P) → Keeps p p
  keeps_itself p = record { same = refl; share = refl }

  keeps_both : (p q r : P) → Keeps p q → Keeps q r → Keeps p r
  keeps_both p q r h k = record { same = k.same ∙ h.same; share = k.share ∙ h.share }

  abbrev pub Served : (names : List (List ℕ)) (g : Grants) (v connections : ℕ) (before after : Door) (faults_before faults_after : ℕ) (p q : P) → Result (Unit {0}) Failed → Type 0
  Served names g v connections before after faults_before faults_after p q outcome =
      HasServed Fits answers (λ p. next_place (made p)) names g v connections before after faults_before faults_after p q outcome

  abbrev pub ServedCalls : (names : List (List ℕ)) (g : Grants) (v connections : ℕ) (before after : Door) (faults_before faults_after : ℕ) (calls next : List Call) → Result (Unit {0}) Failed → Type 0
  ServedCalls names g v connections before after faults_before faults_after calls next outcome =
      HasServed (λ p. Unit {0}) IsNextCall next_place names g v connections before after faults_before faults_after calls next outcome

  module _ (keeps : (p : P) (turn : Turn) (q : P) → answers p turn q → Keeps p q) (calls : (p : P) (turn : Turn) (q : P) → answers p turn q → IsNextCall (made p) turn (made q))
      (names : List (List ℕ)) (g : Grants) (v connections : ℕ) (before after : Door) (faults_before faults_after : ℕ) (p q : P) (outcome : Result (Unit {0}) Failed)
      (did : Served names g v connections before after faults_before faults_after p q outcome) where
    pub served_keeps : Keeps p q
    served_keeps =
        worker_keeps answers (λ p. next_place (made p)) Keeps keeps_itself keeps_both keeps Fits names g v connections before after faults_before faults_after p q outcome did

    pub served_calls : made p ≡ [] → ServedCalls names g v connections before after faults_before faults_after [] (made q) outcome
    served_calls none =
        subst (λ (cs : List Call). ServedCalls names g v connections before after faults_before faults_after cs (made q) outcome) none
        (worker_maps answers (λ p. next_place (made p)) IsNextCall next_place made calls (λ p. refl) Fits (λ p. Unit {0}) names g v connections before after faults_before faults_after p q outcome tt did)
