-- The calls of a lane's desk among other machines.
use Rattle.std.proofs.Common.{◌≡◌, ℕ, ◌+◌, List, [], ◌∷◌, ◌++◌, map, refl, sym, ◌∙◌, ap, ap₂, subst, append_assoc}
use Rattle.std.specs.List.{AllZip, AllByRecursion}
use Rattle.std.proofs.lemmas.List.{map-append}
use Rattle.std.proofs.lemmas.List.Elements.{filter-append}
use Rattle.net_model.specs.Tick.{Emission}
use Rattle.net_model.specs.BlockOrder.{IsMerge}
use Rattle.shared_objects.specs.declared.either.Either.{Either}
use Rattle.shared_objects.specs.declared.either.Either.TheVariants.{Right}
use Rattle.shared_objects.specs.Histories.{on_right}
use Rattle.shared_objects.specs.Said.{Said, said_on}
use Rattle.shared_objects.specs.Laws.{said_behind}
use Rattle.lane_sender.specs.Lane.{LaneForm}
use Rattle.par_lanes.specs.declared.ask.LaneAsk.{LaneAsk}
use Rattle.par_lanes.specs.declared.ask.LaneAnswer.{LaneAnswer}
use Rattle.par_lanes.specs.declared.emitted.Emitted.{Emitted}
use Rattle.par_lanes.specs.Wants.{is_at}
use Rattle.par_lanes.specs.Calls.{CallAllBy, emitted_at}
use Rattle.par_lanes.specs.Saying.{desk_call, IsCalledFor}
use Rattle.law_base.proofs.Lists.{all_kept}
use Rattle.shared_objects.specs.Rising.{placed_from}
use Rattle.shared_objects.proofs.Making.{made_of}
use Rattle.par_frames.specs.Working.{IsOfItsLine}
use Rattle.par_frames.specs.Desks.{IsDeskOf, DeskWorked}

right_same : {B C : Type 0} {x y : C} → ◌≡◌ {A = Either B C} (Right x) (Right y) → x ≡ y
right_same h = cc

module _ (place : ℕ) where
  all_told : (outs : List (List (Emission × Emitted))) → AllByRecursion (AllByRecursion IsOfItsLine) outs → AllByRecursion (AllByRecursion IsOfItsLine) (map (emitted_at place) outs)
  all_told [] h = tt
  all_told (xs ∷ outs) h = (all_kept IsOfItsLine (λ (x : Emission × Emitted). is_at place x.0) xs h.0, all_told outs h.1)

module _ (Q A : Type 0) where
  abbrev AtDesk : Type 0
  AtDesk = ℕ × (Either Q LaneAsk × Either A LaneAnswer)

  -- Different calls of the desk are different calls among all machines.

  call_same : (c : ℕ × (LaneAsk × LaneAnswer)) (n : ℕ) (e : LaneAsk × LaneAnswer) → ◌≡◌ {A = AtDesk} (desk_call c) (n, on_right e) → c ≡ (n, e)
  call_same c n e h =
      let ask : c.1.0 ≡ e.0 = right_same (ap (λ (x : AtDesk). x.1.0) h) in
      let answer : c.1.1 ≡ e.1 = right_same (ap (λ (x : AtDesk). x.1.1) h) in
      let place : c.0 ≡ n = ap (λ (x : AtDesk). x.0) h in
      λ i. (place i, (ask i, answer i))

  calls_same : (n : ℕ) (calls : List (ℕ × (LaneAsk × LaneAnswer))) (history : List (LaneAsk × LaneAnswer)) → ◌≡◌ {A = List AtDesk} (map desk_call calls) (placed_from n (map on_right history)) → calls ≡ placed_from n history
  calls_same n [] [] h = refl
  calls_same n [] (e ∷ history) h = cc
  calls_same n (c ∷ calls) [] h = cc
  calls_same n (c ∷ calls) (e ∷ history) h =
      let first : ◌≡◌ {A = AtDesk} (desk_call c) (n, on_right e) = cc in
      let rest : ◌≡◌ {A = List AtDesk} (map desk_call calls) (placed_from (n + 1) (map on_right history)) = cc in
      ap₂ (λ (x : ℕ × (LaneAsk × LaneAnswer)) (xs : List (ℕ × (LaneAsk × LaneAnswer))). x ∷ xs) (call_same c n e first) (calls_same (n + 1) calls history rest)

  module _ {X : Type 0} (side : LaneForm X) (machine place : ℕ) where
    record Callers (outs : List (List (Emission × Emitted))) (said : List (List (Said (Either Q LaneAsk) (Either A LaneAnswer)))) : Type 0 where
      calls : List (List (ℕ × (LaneAsk × LaneAnswer)))
      are : ◌≡◌ {A = List (List AtDesk)} (map (map desk_call) calls) (map (said_on machine) said)
      by : AllZip (CallAllBy side) (map (emitted_at place) outs) calls

    callers : (outs : List (List (Emission × Emitted))) (said : List (List (Said (Either Q LaneAsk) (Either A LaneAnswer)))) → AllZip (IsCalledFor side machine place) outs said → Callers outs said
    callers [] [] h = record { calls = []; are = refl; by = tt }
    callers [] (s ∷ said) h = absurd h
    callers (xs ∷ outs) [] h = absurd h
    callers (xs ∷ outs) (s ∷ said) h =
        let rest = callers outs said h.1 in
        record { calls = h.0.calls ∷ rest.calls; are = ap₂ (λ (ys : List AtDesk) (yss : List (List AtDesk)). ys ∷ yss) (sym h.0.are) rest.are; by = (h.0.by, rest.by) }

    pub desk_worked : (outs : List (List (Emission × Emitted))) (said : List (List (Said (Either Q LaneAsk) (Either A LaneAnswer)))) (history : List (LaneAsk × LaneAnswer)) →
        IsDeskOf side machine place outs said history → DeskWorked side place outs history
    desk_worked outs said history h =
        let c = callers outs said h.each in
        let m = made_of desk_call c.calls (placed_from 0 (map on_right history)) (subst (λ (xs : List (List AtDesk)). IsMerge xs (placed_from 0 (map on_right history))) (sym c.are) h.merged) in
        record {
          calls = c.calls;
          called = record { merged = subst (IsMerge c.calls) (calls_same 0 m.merge history m.of) m.is; by = c.by; each = all_told place outs h.told };
        }

-- ---- one job after another

called_behind : {X : Type 0} (side : LaneForm X) (xs ys : List (Emission × Emitted)) (calls later : List (ℕ × (LaneAsk × LaneAnswer))) → CallAllBy side xs calls → CallAllBy side ys later →
    CallAllBy side (xs ++ ys) (calls ++ later)
called_behind side [] ys calls later h k = subst (λ (cs : List (ℕ × (LaneAsk × LaneAnswer))). CallAllBy side ys (cs ++ later)) (sym h) k
called_behind side (x ∷ xs) ys calls later h k = (
  h.0,
  h.1 ++ later,
  ap (λ (cs : List (ℕ × (LaneAsk × LaneAnswer))). cs ++ later) h.2 ∙ append_assoc h.0 h.1 later,
  h.3,
  called_behind side xs ys h.1 later h.4 k,
)

pub both_called : {X Q A : Type 0} (side : LaneForm X) (machine place : ℕ) (xs ys : List (Emission × Emitted)) (said later : List (Said (Either Q LaneAsk) (Either A LaneAnswer))) →
    IsCalledFor side machine place xs said → IsCalledFor side machine place ys later → IsCalledFor side machine place (xs ++ ys) (said ++ later)
both_called {Q = Q} {A = A} side machine place xs ys said later h k = record {
  calls = h.calls ++ k.calls;
  are = said_behind machine said later ∙ ap₂ (λ (us vs : List (AtDesk Q A)). us ++ vs) h.are k.are ∙ sym (map-append desk_call h.calls k.calls);
  by = subst (λ (os : List (Emission × Emitted)). CallAllBy side os (h.calls ++ k.calls)) (sym (filter-append (λ (x : Emission × Emitted). is_at place x.0) xs ys))
      (called_behind side (emitted_at place xs) (emitted_at place ys) h.calls k.calls h.by k.by);
}

-- If only other machines were called, no frames were sent.
pub none_called : {X Q A : Type 0} (side : LaneForm X) (machine place : ℕ) (said : List (Said (Either Q LaneAsk) (Either A LaneAnswer))) → said_on machine said ≡ [] → IsCalledFor side machine place [] said
none_called side machine place said h = record { calls = []; are = h; by = refl }
