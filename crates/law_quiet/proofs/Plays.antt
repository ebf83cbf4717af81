-- Plays that come to their end: what the first action of a script leaves to be played, and what a silent report tells.
use Rattle.std.proofs.Common.{◌≡◌, ℕ, Bool, true, false, List, [], ◌∷◌, ◌++◌, refl, ap}
use Rattle.std.specs.Prelude.{if◌then◌else◌}
use Rattle.net_model.specs.World.{Network, World}
use Rattle.net_model.specs.Action.{Action, Outcome}
use Rattle.net_model.specs.Step.{step, IsStep}
use Rattle.run_types.specs.declared.item.Item.{Item}
use Rattle.run_model.specs.Script.{Script, Asks}
use Rattle.run_model.specs.Play.{Whole, ForgedAt, numbered, stopped_at, plain, is_forged, play, OneOf, IsPlay}

-- Of two lists that together are empty, each is.

pub first_none : {A : Type 0} (xs ys : List A) → xs ++ ys ≡ [] → xs ≡ []
first_none [] ys h = refl
first_none (x ∷ xs) ys h = cc

pub second_none : {A : Type 0} (xs ys : List A) → xs ++ ys ≡ [] → ys ≡ []
second_none [] ys h = h
second_none (x ∷ xs) ys h = cc

pub unnumbered : (number : ℕ) (items : List Item) → numbered number items ≡ [] → items ≡ []
unnumbered number [] h = refl
unnumbered number (x ∷ xs) h = cc

module _ (net : Network) (number : ℕ) where
  -- The play of the script that is left is the same, but for what was reported before.
  pub record IsAnswered (w : World) (action : Action) (next : Outcome → Script) (actions : List Action) : Type 0 where
    pub one : Action
    pub rest : List Action
    pub asked : plain one ≡ action
    pub may : IsStep net w one
    pub plays : IsPlay net (step net w one).0 (next (step net w one).1) rest
    pub same : play net number w (Asks action next) actions ≡ play net number (step net w one).0 (next (step net w one).1) rest

  goes_on : (w : World) (action : Action) (next : Outcome → Script) (a : Action) (rest : List Action) → plain a ≡ action → IsStep net w a →
      OneOf (is_forged (step net w a).1) (rest ≡ []) (IsPlay net (step net w a).0 (next (step net w a).1) rest) →
      (play net number w (Asks action next) (a ∷ rest)).ending ≡ Whole → IsAnswered w action next (a ∷ rest)
  unfolding play
  goes_on w action next a rest asked may later whole = by_cases (is_forged (step net w a).1) refl later whole
    where
      by_cases : (b : Bool) → is_forged (step net w a).1 ≡ b → OneOf b (rest ≡ []) (IsPlay net (step net w a).0 (next (step net w a).1) rest) →
          (if b then stopped_at (step net w a).0 (ForgedAt number) else play net number (step net w a).0 (next (step net w a).1) rest).ending ≡ Whole → IsAnswered w action next (a ∷ rest)
      by_cases true is none done = cc
      by_cases false is plays done = record {
        one = a;
        rest = rest;
        asked = asked;
        may = may;
        plays = plays;
        same = ap (λ (b : Bool). if b then stopped_at (step net w a).0 (ForgedAt number) else play net number (step net w a).0 (next (step net w a).1) rest) is;
      }

  pub answered : (w : World) (action : Action) (next : Outcome → Script) (actions : List Action) → IsPlay net w (Asks action next) actions →
      (play net number w (Asks action next) actions).ending ≡ Whole → IsAnswered w action next actions
  unfolding play
  answered w action next [] h whole = cc
  answered w action next (a ∷ rest) h whole = goes_on w action next a rest h.0 h.1 h.2 whole
