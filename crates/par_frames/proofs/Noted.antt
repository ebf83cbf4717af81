-- Nodes note in order.
use Rattle.std.proofs.Common.{◌≡◌, ℕ, zero, suc, ◌+◌, ◌<◌, ◌≤◌, true, List, [], ◌∷◌, ◌++◌, map, sym, ◌∙◌, ap, subst, arith, append-nil, append_assoc, inl, inr}
use Rattle.std.proofs.lemmas.Bool.{cases_lt}
use Rattle.std.proofs.lemmas.List.{map-append}
use Rattle.net_model.specs.Site.{count_up}
use Rattle.net_model.specs.World.{Network, World}
use Rattle.net_model.specs.Premises.{IsNetwork}
use Rattle.net_model.specs.Invariant.{Conserved}
use Rattle.net_model.specs.Action.{Action, Complete}
use Rattle.net_model.specs.Step.{step, is_enabled, run, IsStep, IsRun}
use Rattle.net_model.specs.BlockOrder.{completions}
use Rattle.law_locality.proofs.Runs.{first_step, later_steps, one_more, nothing_runs, run_none, run_one, run-append}
use Rattle.law_locality.proofs.ManagerSteps.{step_unseen}
use Rattle.world_state.proofs.AsksOne.{elsewhere}

abbrev pub notes_of : List ℕ → List Action
notes_of vs = map (λ v. Complete v) vs

-- the notes of the first k nodes, and the world after them
abbrev pub noted_run : ℕ → List Action
noted_run k = notes_of (count_up k)

abbrev pub noted_over : Network → World → ℕ → World
noted_over net w k = run net w (noted_run k)

pub runs_left : (net : Network) (xs ys : List Action) (w : World) → IsRun net w (xs ++ ys) → IsRun net w xs
runs_left net [] ys w h = nothing_runs net w
runs_left net (x ∷ xs) ys w h = one_more net w x xs (first_step net w x (xs ++ ys) h) (runs_left net xs ys (step net w x).0 (later_steps net w x (xs ++ ys) h))

pub runs_right : (net : Network) (xs ys : List Action) (w : World) → IsRun net w (xs ++ ys) → IsRun net (run net w xs) ys
runs_right net [] ys w h = subst (λ (x : World). IsRun net x ys) (sym (run_none net w)) h
runs_right net (x ∷ xs) ys w h =
    subst (λ (v : World). IsRun net v ys) (sym (run_one net w x xs)) (runs_right net xs ys (step net w x).0 (later_steps net w x (xs ++ ys) h))

count_next : (k : ℕ) → count_up (k + 1) ≡ count_up k ++ k ∷ []
count_next k = let one : k + 1 ≡ suc k = omega arith in ap count_up one

pub run_next : (k : ℕ) → noted_run (k + 1) ≡ noted_run k ++ Complete k ∷ []
run_next k = ap notes_of (count_next k) ∙ map-append (λ v. Complete v) (count_up k) (k ∷ [])

pub over_next : (net : Network) (w : World) (k : ℕ) → noted_over net w (k + 1) ≡ (step net (noted_over net w k) (Complete k)).0
over_next net w k =
    ap (run net w) (run_next k) ∙ run-append net (noted_run k) (Complete k ∷ []) w ∙ run_one net (noted_over net w k) (Complete k) [] ∙ run_none net (step net (noted_over net w k) (Complete k)).0

-- The first n nodes are the first k nodes, followed by the rest.
pub record Behind (n k : ℕ) : Type 0 where
  pub rest : List ℕ
  pub is : count_up n ≡ count_up k ++ rest

pub behind : (n k : ℕ) → k ≤ n → Behind n k
behind zero k h = let none : k ≡ 0 = omega (arith, h) in record { rest = []; is = sym (append-nil (count_up k) ∙ ap count_up none) }
behind (suc n) k h = elim (cases_lt n k) [
  | inl above ↦ let same : k ≡ suc n = omega (arith, h, above) in record { rest = []; is = sym (append-nil (count_up k) ∙ ap count_up same) }
  | inr within ↦
      let b = behind n k within in
      record { rest = b.rest ++ n ∷ []; is = ap (λ (xs : List ℕ). xs ++ n ∷ []) b.is ∙ append_assoc (count_up k) b.rest (n ∷ []) }
]

module _ (net : Network) (w : World) (may : IsRun net w (completions net)) where
  split : (k : ℕ) (b : Behind net.site.nodes k) → completions net ≡ noted_run k ++ notes_of b.rest
  split k b = ap notes_of b.is ∙ map-append (λ v. Complete v) (count_up k) b.rest

  pub record Rest (k : ℕ) : Type 0 where
    pub nodes : List ℕ
    pub all : completions net ≡ noted_run k ++ notes_of nodes
    pub runs : IsRun net (noted_over net w k) (notes_of nodes)

  pub rest_of : (k : ℕ) → k ≤ net.site.nodes → Rest k
  rest_of k h =
      let b = behind net.site.nodes k h in
      record { nodes = b.rest; all = split k b; runs = runs_right net (noted_run k) (notes_of b.rest) w (subst (λ (xs : List Action). IsRun net w xs) (split k b) may) }

  pub may_next : (k : ℕ) → k < net.site.nodes → IsStep net (noted_over net w k) (Complete k)
  may_next k h =
      let below : k + 1 ≤ net.site.nodes = omega (arith, h) in
      let r = rest_of (k + 1) below in
      let whole = subst (λ (xs : List Action). IsRun net w xs) (r.all ∙ ap (λ (xs : List Action). xs ++ notes_of r.nodes) (run_next k) ∙ append_assoc (noted_run k) (Complete k ∷ []) (notes_of r.nodes)) may in
      first_step net (noted_over net w k) (Complete k) (notes_of r.nodes) (runs_right net (noted_run k) (Complete k ∷ notes_of r.nodes) w whole)

-- A note keeps the placings of later nodes.
pub placings_kept : (net : Network) (x : World) → IsNetwork net → Conserved net x → (k v : ℕ) → is_enabled net x (Complete k) ≡ true → k < v → (step net x (Complete k)).0.placings v ≡ x.placings v
placings_kept net x network c k v may below = (step_unseen net x network c v (Complete k) may (elsewhere k v (λ same. absurd (omega (arith, same, below))))).placings
