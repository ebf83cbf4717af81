-- What one put changes, and what it answers.
use Rattle.std.proofs.Common.{◌≡◌, ℕ, Bool, true, false, ◌&&◌, ◌||◌, List, [], ◌∷◌, ◌++◌, length, refl, sym, ◌∙◌, ap, Option, Some, None}
use Rattle.std.specs.Prelude.{◌==◌, is_some, if◌then◌else◌}
use Rattle.qkd_base.specs.declared.lane.Lane.{Lane}
use Rattle.net_model.specs.World.{Network, World, Outgoing}
use Rattle.net_model.specs.Events.{is_lane}
use Rattle.net_model.specs.Frames.{outgoing_of, put, transmit_one, transmit}
use Rattle.net_model.specs.Action.{Environment, Transmit, Outcome, Put, Unsent, is_no_memory, is_io_fault, is_shown}
use Rattle.net_model.specs.Step.{step, is_enabled, IsStep}
use Rattle.law_base.proofs.Base.{and_left, and_right, eq_from}
use Rattle.law_parallel.specs.Puts.{answer_at}

abbrev pub wire_with : Environment → ℕ → List ℕ → List ℕ
wire_with answer j wire = if is_no_memory answer || is_io_fault answer then wire else wire ++ j ∷ []

abbrev pub number_at : Environment → List ℕ → Option ℕ
number_at answer wire = if is_no_memory answer || is_io_fault answer then None else Some (length wire)

found_number : (j : ℕ) (os : List Outgoing) (o : Outgoing) → outgoing_of j os ≡ Some o → o.frame ≡ j
found_number j [] o h = cc
found_number j (x ∷ os) o h =
    elim (x.frame == j) as (λ t. (x.frame == j) ≡ t → (if t then Some x else outgoing_of j os) ≡ Some o → o.frame ≡ j) [
      | true ↦ λ e g. let is : x ≡ o = cc in ap (λ (y : Outgoing). y.frame) (sym is) ∙ eq_from x.frame j e
      | false ↦ λ e g. found_number j os o g
    ] refl h

module _ (net : Network) (y : World) (l : Lane) (j : ℕ) (answer : Environment) where
  -- The waiting frame is taken or refused.
  pub record IsPutOf (o : Outgoing) : Type 0 where
    pub found : outgoing_of j (y.outgoing l) ≡ Some o
    pub number : o.frame ≡ j
    pub said : (step net y (Transmit l j answer)).1 ≡ answer_at (length (y.wire l)) answer
    pub after : (step net y (Transmit l j answer)).0 ≡ put net y l o (wire_with answer j (y.wire l)) (number_at answer (y.wire l))

  abbrev either : Outgoing → Bool → World × Outcome
  either o refused =
      if refused then (put net y l o (y.wire l) None, Unsent (is_no_memory answer)) else (put net y l o (y.wire l ++ o.frame ∷ []) (Some (length (y.wire l))), Put (length (y.wire l)))

  either_said : (o : Outgoing) (refused : Bool) → (either o refused).1 ≡ (if refused then Unsent (is_no_memory answer) else Put (length (y.wire l)))
  either_said o true = refl
  either_said o false = refl

  either_after : (o : Outgoing) → o.frame ≡ j → (refused : Bool) →
      (either o refused).0 ≡ put net y l o (if refused then y.wire l else y.wire l ++ j ∷ []) (if refused then None else Some (length (y.wire l)))
  either_after o is true = refl
  either_after o is false = ap (λ (n : ℕ). put net y l o (y.wire l ++ n ∷ []) (Some (length (y.wire l)))) is

  put_found : (o : Outgoing) → outgoing_of j (y.outgoing l) ≡ Some o → IsPutOf o
  unfolding step transmit
  put_found o found =
      let number = found_number j (y.outgoing l) o found in
      record {
        found = found;
        number = number;
        said = ap (λ (x : Option Outgoing). (transmit_one net y l answer x).1) found ∙ either_said o (is_no_memory answer || is_io_fault answer);
        after = ap (λ (x : Option Outgoing). (transmit_one net y l answer x).0) found ∙ either_after o number (is_no_memory answer || is_io_fault answer);
      }

  pub record IsPutOfAny : Type 0 where
    pub one : Outgoing
    pub is : IsPutOf one

  put_any : (o : Option Outgoing) → outgoing_of j (y.outgoing l) ≡ o → is_some o ≡ true → IsPutOfAny
  put_any None e h = cc
  put_any (Some o) e h = record { one = o; is = put_found o e }

  pub one_put : IsStep net y (Transmit l j answer) → IsPutOfAny
  unfolding is_enabled
  one_put h =
      put_any (outgoing_of j (y.outgoing l)) refl
      (and_right (is_lane net.site l) (is_some (outgoing_of j (y.outgoing l)))
      (and_left (is_lane net.site l && is_some (outgoing_of j (y.outgoing l))) (is_shown answer (step net y (Transmit l j answer)).1) h))
