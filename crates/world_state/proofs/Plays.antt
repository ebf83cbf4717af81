-- An action that a script asks for is done.
use Rattle.std.proofs.Common.{◌≡◌, ℕ, Bool, false, List, [], ◌∷◌, ◌++◌, refl, sym, ap, subst, append_assoc}
use Rattle.std.specs.Prelude.{if◌then◌else◌}
use Rattle.std.proofs.lemmas.List.{map-append}
use Rattle.net_model.specs.World.{Network, World}
use Rattle.net_model.specs.Action.{Action, Outcome}
use Rattle.net_model.specs.Step.{step, IsStep}
use Rattle.net_model.specs.Tick.{Emission, Again, New}
use Rattle.run_types.specs.declared.item.Item.{Item}
use Rattle.run_types.specs.declared.item.NumberedItem.{NumberedItem}
use Rattle.run_model.specs.Script.{Script, Asks}
use Rattle.run_model.specs.Play.{Played, plain, numbered, reporting, play, IsPlay, OneOf, is_forged, stopped_at, ForgedAt, CutShort}
use Rattle.run_model.specs.Lines.{emitted}

module _ (net : Network) (w : World) (action : Action) (next : Outcome → Script) (a : Action) (rest : List Action) (open' : is_forged (step net w a).1 ≡ false) where
  abbrev out : World × Outcome
  out = step net w a

  pub asks_is : plain a ≡ action → IsStep net w a → IsPlay net out.0 (next out.1) rest → IsPlay net w (Asks action next) (a ∷ rest)
  asks_is is may h = (is, may, subst (λ (t : Bool). OneOf t (rest ≡ []) (IsPlay net out.0 (next out.1) rest)) (sym open') h)

  pub asks_said : (number : ℕ) → play net number w (Asks action next) (a ∷ rest) ≡ play net number out.0 (next out.1) rest
  unfolding play
  asks_said number = ap (λ (t : Bool). if t then stopped_at out.0 (ForgedAt number) else play net number out.0 (next out.1) rest) open'

-- A play of a script may have no actions.

pub none_is : (net : Network) (w : World) (v : ℕ) (es : List Emission) → IsPlay net w (emitted v es) []
unfolding emitted
none_is net w v [] = tt
none_is net w v (Again r ∷ es) = tt
none_is net w v (New o ∷ es) = tt

pub none_said : (net : Network) (w : World) (v : ℕ) (es : List Emission) → play net 0 w (emitted v es) [] ≡ stopped_at w CutShort
unfolding emitted play
none_said net w v [] = refl
none_said net w v (Again r ∷ es) = refl
none_said net w v (New o ∷ es) = refl

-- two reports in order

pub reporting_both : (xs ys : List NumberedItem) (p : Played) → reporting xs (reporting ys p) ≡ reporting (xs ++ ys) p
reporting_both xs ys p = λ i. record p { items = sym (append_assoc xs ys p.items) i }

pub numbered_both : (number : ℕ) (xs ys : List Item) → numbered number xs ++ numbered number ys ≡ numbered number (xs ++ ys)
numbered_both number xs ys = sym (map-append (λ (item : Item). record { number = number; item = item }) xs ys)
