-- Parts of a run, and the outcomes of works in sequence.
use Rattle.std.proofs.Common.{◌≡◌, List, [], ◌∷◌, ◌++◌, map, refl, sym, ◌∙◌, ap, subst}
use Rattle.std.specs.List.{flat_map}
use Rattle.std.proofs.lemmas.List.{map-append}
use Rattle.net_model.specs.World.{Network, World}
use Rattle.net_model.specs.Action.{Action}
use Rattle.net_model.specs.Step.{step, run, IsRun}
use Rattle.run_model.specs.Works.{Work, Done, actions_in, flat, done_from}
use Rattle.law_locality.proofs.Runs.{first_step, later_steps, one_more, nothing_runs, run_none, run_one}

pub runs_first : (net : Network) (xs ys : List Action) (w : World) → IsRun net w (xs ++ ys) → IsRun net w xs
runs_first net [] ys w h = nothing_runs net w
runs_first net (x ∷ xs) ys w h =
    one_more net w x xs (first_step net w x (xs ++ ys) h) (runs_first net xs ys (step net w x).0 (later_steps net w x (xs ++ ys) h))

pub runs_after : (net : Network) (xs ys : List Action) (w : World) → IsRun net w (xs ++ ys) → IsRun net (run net w xs) ys
runs_after net [] ys w h = subst (λ (v : World). IsRun net v ys) (sym (run_none net w)) h
runs_after net (x ∷ xs) ys w h =
    subst (λ (v : World). IsRun net v ys) (sym (run_one net w x xs)) (runs_after net xs ys (step net w x).0 (later_steps net w x (xs ++ ys) h))

pub actions-append : (xs ys : List Work) → actions_in (xs ++ ys) ≡ actions_in xs ++ actions_in ys
actions-append xs ys = map-append (λ (x : Work). x.action) xs ys

pub flat_actions : (hs : List (List Work)) → flat_map (λ (h : List Action). h) (map actions_in hs) ≡ actions_in (flat hs)
flat_actions [] = refl
flat_actions (h ∷ hs) = ap (λ (xs : List Action). actions_in h ++ xs) (flat_actions hs) ∙ sym (actions-append h (flat hs))

pub done-append : (net : Network) (xs ys : List Work) (w : World) → done_from net w (xs ++ ys) ≡ done_from net w xs ++ done_from net (run net w (actions_in xs)) ys
unfolding done_from
done-append net [] ys w = ap (λ (v : World). done_from net v ys) (sym (run_none net w))
done-append net (x ∷ xs) ys w =
    let after : World = (step net w x.action).0 in
    ap (λ (ds : List Done). record { work = x; before = w; outcome = (step net w x.action).1 } ∷ ds)
    (done-append net xs ys after ∙
    ap (λ (v : World). done_from net after xs ++ done_from net v ys) (sym (run_one net w x.action (actions_in xs))))
