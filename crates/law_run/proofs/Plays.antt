-- The actions that answer a script are a run, which leads to the world of the script's play.
use Rattle.std.proofs.Common.{◌≡◌, ℕ, Bool, true, false, List, [], ◌∷◌, refl}
use Rattle.std.specs.Prelude.{if◌then◌else◌}
use Rattle.net_model.specs.World.{Network, World}
use Rattle.net_model.specs.Action.{Action}
use Rattle.net_model.specs.Step.{step, run, is_step, is_run, IsRun}
use Rattle.run_model.specs.Script.{Script, Ends, Reports, Looks, Asks, GivesUp}
use Rattle.run_model.specs.Play.{Played, ForgedAt, stopped_at, play, IsPlay, OneOf, is_forged}
use Rattle.law_base.proofs.Base.{and_both}

-- An action and what follows it.
goes_on : (net : Network) (number : ℕ) (w : World) (rest : List Action) (forged : Bool) (A : Type 0) (p : Played) → OneOf forged (rest ≡ []) A →
    (A → IsRun net w rest × (p.world ≡ run net w rest)) →
    IsRun net w rest × ((if forged then stopped_at w (ForgedAt number) else p).world ≡ run net w rest)
unfolding is_run run
goes_on net number w [] true A p none more = (refl, refl)
goes_on net number w (a ∷ rest) true A p none more = cc
goes_on net number w rest false A p plays more = more plays

pub play_is_run : (net : Network) (number : ℕ) (w : World) (script : Script) (actions : List Action) → IsPlay net w script actions →
    IsRun net w actions × ((play net number w script actions).world ≡ run net w actions)
unfolding is_run run play
play_is_run net number w Ends [] h = (refl, refl)
play_is_run net number w Ends (a ∷ rest) h = cc
play_is_run net number w (Reports reported next) actions h = play_is_run net number w next actions h
play_is_run net number w (Looks next) actions h = play_is_run net number w (next w) actions h
play_is_run net number w (Asks action next) [] h = (refl, refl)
play_is_run net number w (Asks action next) (a ∷ rest) h =
    let out = step net w a in
    let after = goes_on net number out.0 rest (is_forged out.1) (IsPlay net out.0 (next out.1) rest) (play net number out.0 (next out.1) rest) h.2
    (play_is_run net number out.0 (next out.1) rest) in
    (and_both (is_step net w a) (is_run net out.0 rest) h.1 after.0, after.1)
play_is_run net number w GivesUp [] h = (refl, refl)
play_is_run net number w GivesUp (a ∷ rest) h = cc
