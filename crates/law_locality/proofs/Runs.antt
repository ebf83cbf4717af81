-- Lemmas on runs and their concatenation.
use Rattle.std.proofs.Common.{◌≡◌, List, [], ◌∷◌, ◌++◌, refl, sym, ◌∙◌, ap, subst}
use Rattle.net_model.specs.World.{Network, World}
use Rattle.net_model.specs.Action.{Action}
use Rattle.net_model.specs.Step.{step, is_step, IsStep, run, is_run, IsRun}
use Rattle.law_base.proofs.Base.{and_left, and_right, and_both}

pub first_step : (net : Network) (w : World) (x : Action) (rest : List Action) → IsRun net w (x ∷ rest) → IsStep net w x
unfolding is_run
first_step net w x rest h = and_left (is_step net w x) (is_run net (step net w x).0 rest) h

pub later_steps : (net : Network) (w : World) (x : Action) (rest : List Action) → IsRun net w (x ∷ rest) → IsRun net (step net w x).0 rest
unfolding is_run
later_steps net w x rest h = and_right (is_step net w x) (is_run net (step net w x).0 rest) h

pub one_more : (net : Network) (w : World) (x : Action) (rest : List Action) → IsStep net w x → IsRun net (step net w x).0 rest → IsRun net w (x ∷ rest)
unfolding is_run
one_more net w x rest h k = and_both (is_step net w x) (is_run net (step net w x).0 rest) h k

pub nothing_runs : (net : Network) (w : World) → IsRun net w []
unfolding is_run
nothing_runs net w = refl

pub run_none : (net : Network) (w : World) → run net w [] ≡ w
unfolding run
run_none net w = refl

pub run_one : (net : Network) (w : World) (x : Action) (rest : List Action) → run net w (x ∷ rest) ≡ run net (step net w x).0 rest
unfolding run
run_one net w x rest = refl

pub runs-append : (net : Network) (xs ys : List Action) (w : World) → IsRun net w xs → IsRun net (run net w xs) ys → IsRun net w (xs ++ ys)
runs-append net [] ys w h k = subst (λ (v : World). IsRun net v ys) (run_none net w) k
runs-append net (x ∷ xs) ys w h k =
    one_more net w x (xs ++ ys) (first_step net w x xs h)
    (runs-append net xs ys (step net w x).0 (later_steps net w x xs h) (subst (λ (v : World). IsRun net v ys) (run_one net w x xs) k))

pub run-append : (net : Network) (xs ys : List Action) (w : World) → run net w (xs ++ ys) ≡ run net (run net w xs) ys
run-append net [] ys w = ap (λ (v : World). run net v ys) (sym (run_none net w))
run-append net (x ∷ xs) ys w =
    run_one net w x (xs ++ ys) ∙ run-append net xs ys (step net w x).0 ∙ ap (λ (v : World). run net v ys) (sym (run_one net w x xs))
