-- What a call tells of a machine of one of two kinds.
use Rattle.std.proofs.Common.{◌≡◌, List, slice_get, sym, subst, ◌∙◌}
use Rattle.turnstile.specs.Turns.{turn_of, Leads}
use Rattle.shared_objects.proofs.Zips.{same_item}
use Rattle.shared_objects.specs.Said.{Said}
use Rattle.shared_objects.specs.ScriptCalling.{IsAnswered}
use Rattle.shared_objects.specs.declared.either.Either.{Either}
use Rattle.shared_objects.specs.declared.either.Either.TheVariants.{Left, Right}
use Rattle.shared_objects.specs.Calling.{IsLeft, IsRight, HasTurned}
use Rattle.shared_objects.proofs.Staying.{either_turn, left_same, right_same, turns_left, turns_right, stays_left, stays_right}

module _ {M N C D Q R A B : Type 0} (charter : M → C) (other_charter : N → D) (takes : C → Q → Type 0) (other_takes : D → R → Type 0) (turns : M → Q → A → M → Type 0) (other_turns : N → R → B → N → Type 0) where
  -- what a call on the left tells

  pub record TellsLeft (m : M) (q : Q) (reply : Either A B) : Type 0 where
    pub answer : A
    pub is : reply ≡ Left answer
    pub turned : HasTurned (turn_of charter takes turns) m q answer

  pub tells_left : (machines : List (Either M N)) (said : Said (Either Q R) (Either A B)) (seen seen' : List (Either Q R × Either A B)) (m : M) (q : Q) → IsLeft machines said.machine m → said.request ≡ Left q →
      IsAnswered (either_turn charter other_charter takes other_takes turns other_turns) machines said seen seen' → TellsLeft m q said.reply
  tells_left machines said seen seen' m q there asked a =
      let first : a.opening ≡ Left m = same_item (slice_get machines said.machine) a.opening (Left m) a.there there in
      let s = stays_left charter other_charter takes other_takes turns other_turns m a.earlier a.before (subst (λ (o : Either M N). Leads (either_turn charter other_charter takes other_takes turns other_turns) o a.earlier a.before) first a.leads) in
      let t = turns_left charter other_charter takes other_takes turns other_turns s.left said.request said.reply a.after (subst (λ (b : Either M N). either_turn charter other_charter takes other_takes turns other_turns b said.request said.reply a.after) s.leaves a.turned) in
      let its : t.ask ≡ q = left_same t.ask q (sym t.asked ∙ asked) in
      record {
        answer = t.answer;
        is = t.answered;
        turned = record { earlier = s.own; before = s.left; after = t.next; leads = s.leads; turned = subst (λ (x : Q). turn_of charter takes turns s.left x t.answer t.next) its t.turned };
      }

  pub told_left : (m : M) (q : Q) (reply : Either A B) (answer : A) → reply ≡ Left answer → TellsLeft m q reply → HasTurned (turn_of charter takes turns) m q answer
  told_left m q reply answer is t = subst (λ (x : A). HasTurned (turn_of charter takes turns) m q x) (left_same t.answer answer (sym t.is ∙ is)) t.turned

  -- what a call on the right tells

  pub record TellsRight (m : N) (q : R) (reply : Either A B) : Type 0 where
    pub answer : B
    pub is : reply ≡ Right answer
    pub turned : HasTurned (turn_of other_charter other_takes other_turns) m q answer

  pub tells_right : (machines : List (Either M N)) (said : Said (Either Q R) (Either A B)) (seen seen' : List (Either Q R × Either A B)) (m : N) (q : R) → IsRight machines said.machine m → said.request ≡ Right q →
      IsAnswered (either_turn charter other_charter takes other_takes turns other_turns) machines said seen seen' → TellsRight m q said.reply
  tells_right machines said seen seen' m q there asked a =
      let first : a.opening ≡ Right m = same_item (slice_get machines said.machine) a.opening (Right m) a.there there in
      let s = stays_right charter other_charter takes other_takes turns other_turns m a.earlier a.before (subst (λ (o : Either M N). Leads (either_turn charter other_charter takes other_takes turns other_turns) o a.earlier a.before) first a.leads) in
      let t = turns_right charter other_charter takes other_takes turns other_turns s.left said.request said.reply a.after (subst (λ (b : Either M N). either_turn charter other_charter takes other_takes turns other_turns b said.request said.reply a.after) s.leaves a.turned) in
      let its : t.ask ≡ q = right_same t.ask q (sym t.asked ∙ asked) in
      record {
        answer = t.answer;
        is = t.answered;
        turned = record { earlier = s.own; before = s.left; after = t.next; leads = s.leads; turned = subst (λ (x : R). turn_of other_charter other_takes other_turns s.left x t.answer t.next) its t.turned };
      }

  pub told_right : (m : N) (q : R) (reply : Either A B) (answer : B) → reply ≡ Right answer → TellsRight m q reply → HasTurned (turn_of other_charter other_takes other_turns) m q answer
  told_right m q reply answer is t = subst (λ (x : B). HasTurned (turn_of other_charter other_takes other_turns) m q x) (right_same t.answer answer (sym t.is ∙ is)) t.turned
