-- A machine of one of two kinds stays on its side.
use Rattle.std.proofs.Common.{◌≡◌, List, [], ◌∷◌, refl, sym, ap₂, subst}
use Rattle.turnstile.specs.Turns.{turn_of, Leads}
use Rattle.shared_objects.specs.declared.either.Either.{Either}
use Rattle.shared_objects.specs.declared.either.Either.TheVariants.{Left, Right}
use Rattle.shared_objects.specs.Sides.{charter_of, TakesOn, TurnsOn}
use Rattle.shared_objects.specs.Histories.{StaysLeft, StaysRight}

abbrev pub as_left : (C D : Type 0) → C → Either C D
as_left C D x = Left x

abbrev pub as_right : (C D : Type 0) → D → Either C D
as_right C D x = Right x

pub left_same : {C D : Type 0} (x y : C) → as_left C D x ≡ as_left C D y → x ≡ y
left_same x y e = cc

pub right_same : {C D : Type 0} (x y : D) → as_right C D x ≡ as_right C D y → x ≡ y
right_same x y e = cc

module _ {M N C D Q R A B : Type 0} (charter : M → C) (other_charter : N → D) (takes : C → Q → Type 0) (other_takes : D → R → Type 0) (turns : M → Q → A → M → Type 0) (other_turns : N → R → B → N → Type 0) where
  abbrev pub either_turn : Either M N → Either Q R → Either A B → Either M N → Type 0
  either_turn = turn_of (charter_of charter other_charter) (TakesOn takes other_takes) (TurnsOn turns other_turns)

  -- one turn of a machine on the left

  pub record TurnsLeft (m : M) (q : Either Q R) (a : Either A B) (n : Either M N) : Type 0 where
    pub ask : Q
    pub answer : A
    pub next : M
    pub asked : q ≡ Left ask
    pub answered : a ≡ Left answer
    pub leaves : n ≡ Left next
    pub turned : turn_of charter takes turns m ask answer next

  pub turns_left : (m : M) (q : Either Q R) (a : Either A B) (n : Either M N) → either_turn (Left m) q a n → TurnsLeft m q a n
  turns_left m (Left q) (Left a) (Left n) t =
      record { ask = q; answer = a; next = n; asked = refl; answered = refl; leaves = refl; turned = (t.0, t.1, left_same (charter n) (charter m) t.2) }
  turns_left m (Left q) (Left a) (Right n) t = absurd t.1
  turns_left m (Left q) (Right a) n t = absurd t.1
  turns_left m (Right q) a n t = absurd t.0

  pub record TurnsRight (m : N) (q : Either Q R) (a : Either A B) (n : Either M N) : Type 0 where
    pub ask : R
    pub answer : B
    pub next : N
    pub asked : q ≡ Right ask
    pub answered : a ≡ Right answer
    pub leaves : n ≡ Right next
    pub turned : turn_of other_charter other_takes other_turns m ask answer next

  pub turns_right : (m : N) (q : Either Q R) (a : Either A B) (n : Either M N) → either_turn (Right m) q a n → TurnsRight m q a n
  turns_right m (Right q) (Right a) (Right n) t =
      record { ask = q; answer = a; next = n; asked = refl; answered = refl; leaves = refl; turned = (t.0, t.1, right_same (other_charter n) (other_charter m) t.2) }
  turns_right m (Right q) (Right a) (Left n) t = absurd t.1
  turns_right m (Right q) (Left a) n t = absurd t.1
  turns_right m (Left q) a n t = absurd t.0

  -- a whole history of a machine on the left

  pub stays_left : (m : M) (log : List (Either Q R × Either A B)) (n : Either M N) → Leads either_turn (Left m) log n → StaysLeft (turn_of charter takes turns) m log n
  stays_left m [] n h = record { own = []; left = m; whole = refl; leaves = sym h; leads = refl }
  stays_left m (e ∷ es) n (k, t, l) =
      let one = turns_left m e.0 e.1 k t in
      let rest = stays_left one.next es n (subst (λ (x : Either M N). Leads either_turn x es n) one.leaves l) in
      record {
        own = (one.ask, one.answer) ∷ rest.own;
        left = rest.left;
        whole = ap₂ (λ (x : Either Q R × Either A B) (xs : List (Either Q R × Either A B)). x ∷ xs) (ap₂ (λ (q : Either Q R) (a : Either A B). (q, a)) one.asked one.answered) rest.whole;
        leaves = rest.leaves;
        leads = (one.next, one.turned, rest.leads);
      }

  pub stays_right : (m : N) (log : List (Either Q R × Either A B)) (n : Either M N) → Leads either_turn (Right m) log n → StaysRight (turn_of other_charter other_takes other_turns) m log n
  stays_right m [] n h = record { own = []; left = m; whole = refl; leaves = sym h; leads = refl }
  stays_right m (e ∷ es) n (k, t, l) =
      let one = turns_right m e.0 e.1 k t in
      let rest = stays_right one.next es n (subst (λ (x : Either M N). Leads either_turn x es n) one.leaves l) in
      record {
        own = (one.ask, one.answer) ∷ rest.own;
        left = rest.left;
        whole = ap₂ (λ (x : Either Q R × Either A B) (xs : List (Either Q R × Either A B)). x ∷ xs) (ap₂ (λ (q : Either Q R) (a : Either A B). (q, a)) one.asked one.answered) rest.whole;
        leaves = rest.leaves;
        leads = (one.next, one.turned, rest.leads);
      }
