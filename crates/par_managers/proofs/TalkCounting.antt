-- The calls of each machine, as frames are sent.
use Rattle.std.proofs.Common.{◌≡◌, ℕ, ◌+◌, ◌<◌, Bool, true, false, List, [], ◌∷◌, ◌++◌, map, refl, sym, ap, ap₂, subst, ◌∙◌, arith, Some}
use Rattle.std.specs.Prelude.{◌==◌, if◌then◌else◌, slice_get}
use Rattle.std.proofs.lemmas.List.{map-append}
use Rattle.qkd_base.specs.Lane.{lane_place}
use Rattle.law_base.proofs.Base.{eq_same, eq_from}
use Rattle.net_model.specs.Tick.{Emission}
use Rattle.lane_sender.specs.Lane.{LaneForm}
use Rattle.par_lanes.specs.declared.ask.LaneAsk.{LaneAsk}
use Rattle.par_lanes.specs.declared.ask.LaneAnswer.{LaneAnswer}
use Rattle.shared_objects.specs.Said.{Said, said_on}
use Rattle.shared_objects.specs.Laws.{said_behind}
use Rattle.par_lanes.specs.declared.emitted.Emitted.{Emitted}
use Rattle.par_lanes.specs.Wants.{lane_for}
use Rattle.par_lanes.specs.Calls.{CallsBy, CallAllBy, emitted_at}
use Rattle.par_lanes.specs.Saying.{said_of, desk_call, IsCalledFor}
use Rattle.par_managers.specs.declared.ask.PlanAsk.{PlanAsk}
use Rattle.par_managers.specs.declared.ask.PlanAnswer.{PlanAnswer}
use Rattle.par_managers.specs.Doing.{Ask, Answer, GoAllBy}

pub apart_test : (a b : ℕ) → (a ≡ b → ⊥) → (a == b) ≡ false
apart_test a b apart = elim (a == b) as (λ t. (a == b) ≡ t → t ≡ false) [ true ↦ λ e. absurd (apart (eq_from a b e)) | false ↦ λ e. refl ] refl

clash : (a b : ℕ) → a ≡ b → (a == b) ≡ false → ⊥
clash a b is e = let yes : (a == b) ≡ true = ap (λ (n : ℕ). a == n) (sym is) ∙ eq_same a in let no = sym yes ∙ e in cc

-- Sums with the same first number are equal exactly if their second numbers are.
pub same_behind : (first a b : ℕ) → (first + a == first + b) ≡ (a == b)
same_behind first a b = elim (a == b) as (λ t. (a == b) ≡ t → (first + a == first + b) ≡ t) [
  | true ↦ λ e. let is = eq_from a b e in ap (λ (n : ℕ). first + a == first + n) (sym is) ∙ eq_same (first + a)
  | false ↦ λ e. apart_test (first + a) (first + b) (λ is. let same : a ≡ b = omega (arith, is) in clash a b same e)
] refl

-- the calls of a desk, picked by the number of its machine

pub said_there : (machine i : ℕ) (calls : List (ℕ × (LaneAsk × LaneAnswer))) → (machine == i) ≡ true → said_on {Q = Ask} {A = Answer} i (said_of {Q = PlanAsk} {A = PlanAnswer} machine calls) ≡ map desk_call calls
said_there machine i [] e = refl
said_there machine i (c ∷ cs) e =
    ap (λ (b : Bool). if b then desk_call {Q = PlanAsk} {A = PlanAnswer} c ∷ said_on i (said_of machine cs) else said_on i (said_of machine cs)) e
    ∙ ap (λ (xs : List (ℕ × (Ask × Answer))). desk_call c ∷ xs) (said_there machine i cs e)

pub said_else : (machine i : ℕ) (calls : List (ℕ × (LaneAsk × LaneAnswer))) → (machine == i) ≡ false → said_on {Q = Ask} {A = Answer} i (said_of {Q = PlanAsk} {A = PlanAnswer} machine calls) ≡ []
said_else machine i [] e = refl
said_else machine i (c ∷ cs) e =
    ap (λ (b : Bool). if b then desk_call {Q = PlanAsk} {A = PlanAnswer} c ∷ said_on i (said_of machine cs) else said_on i (said_of machine cs)) e ∙ said_else machine i cs e

some_same : {A : Type 0} {x y : A} → ◌≡◌ {A = _} (Some x) (Some y) → x ≡ y
some_same e = cc

module _ {X : Type 0} (lanes : List (LaneForm X)) (first : ℕ) where
  -- None of the first machines is called.
  pub none_said : (i : ℕ) → i < first → (xs : List (Emission × Emitted)) (said : List (Said Ask Answer)) → GoAllBy lanes first xs said → said_on i said ≡ []
  none_said i below [] said is = ap (λ (s : List (Said Ask Answer)). said_on i s) is
  none_said i below (x ∷ xs) said (now, later, is, goes, rest) =
      let at : ℕ = first + lane_place (lane_for x.0) in
      let here = ap (λ (s : List (Said Ask Answer)). said_on i s) goes.are ∙ said_else at i goes.calls (apart_test at i (λ is. omega (arith, below, is))) in
      ap (λ (s : List (Said Ask Answer)). said_on i s) is ∙ said_behind i now later ∙ ap₂ (λ (a b : List (ℕ × (Ask × Answer))). a ++ b) here (none_said i below xs later rest)

  -- Each lane's desk is called just for the frames that are sent there.
  module _ (i : ℕ) (side : LaneForm X) (there : slice_get lanes i ≡ Some side) where
    pub lane_said : (xs : List (Emission × Emitted)) (said : List (Said Ask Answer)) → GoAllBy lanes first xs said → IsCalledFor side (first + i) i xs said
    lane_said [] said is = record { calls = []; are = ap (λ (s : List (Said Ask Answer)). said_on (first + i) s) is; by = refl }
    lane_said (x ∷ xs) said (now, later, is, goes, rest) =
        let place : ℕ = lane_place (lane_for x.0) in
        let more = lane_said xs later rest in
        let behind = ap (λ (s : List (Said Ask Answer)). said_on (first + i) s) is ∙ said_behind (first + i) now later in
        let said_now = ap (λ (s : List (Said Ask Answer)). said_on (first + i) s) goes.are in
        let kept : List (Emission × Emitted) = emitted_at i xs in
        elim (place == i) as (λ t. (place == i) ≡ t → IsCalledFor side (first + i) i (x ∷ xs) said) [
          | true ↦ λ e.
              let its : goes.side ≡ side = some_same (sym goes.there ∙ ap (λ (n : ℕ). slice_get lanes n) (eq_from place i e) ∙ there) in
              record {
                calls = goes.calls ++ more.calls;
                are = behind ∙ ap₂ (λ (a b : List (ℕ × (Ask × Answer))). a ++ b) (said_now ∙ said_there (first + place) (first + i) goes.calls (same_behind first place i ∙ e)) more.are ∙ sym (map-append desk_call goes.calls more.calls);
                by = subst (λ (ys : List (Emission × Emitted)). CallAllBy side ys (goes.calls ++ more.calls)) (sym (ap (λ (t : Bool). if t then x ∷ kept else kept) e))
                    (goes.calls, more.calls, refl, subst (λ (s : LaneForm X). CallsBy s x.0 x.1 goes.calls) its goes.by, more.by);
              }
          | false ↦ λ e.
              record {
                calls = more.calls;
                are = behind ∙ ap₂ (λ (a b : List (ℕ × (Ask × Answer))). a ++ b) (said_now ∙ said_else (first + place) (first + i) goes.calls (same_behind first place i ∙ e)) more.are;
                by = subst (λ (ys : List (Emission × Emitted)). CallAllBy side ys more.calls) (sym (ap (λ (t : Bool). if t then x ∷ kept else kept) e)) more.by;
              }
        ] refl
