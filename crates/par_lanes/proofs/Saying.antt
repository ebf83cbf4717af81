-- The calls of the lanes' desks, frame by frame.
use Rattle.std.proofs.Common.{◌≡◌, ◌⊎◌, ℕ, ◌+◌, ◌<◌, ◌≤◌, Bool, true, false, List, [], ◌∷◌, ◌++◌, length, map, slice_get, cond, eqb, if◌then◌else◌, refl, sym, ap, ap₂, subst, ◌∙◌, arith, inl, inr, append_assoc, length-append, ne_eqb}
use Rattle.std.proofs.lemmas.List.{map-append, length-map}
use Rattle.std.proofs.lemmas.Bool.Decides.{eqb_tells}
use Rattle.qkd_base.specs.Lane.{lane_place}
use Rattle.net_model.specs.Tick.{Emission, Again, New}
use Rattle.shared_objects.specs.declared.either.Either.{Either}
use Rattle.shared_objects.specs.declared.either.Either.TheVariants.{Right}
use Rattle.shared_objects.proofs.Staying.{right_same}
use Rattle.shared_objects.proofs.Zips.{same_item}
use Rattle.shared_objects.specs.Said.{Said, said_on}
use Rattle.shared_objects.specs.Laws.{said_behind}
use Rattle.lane_sender.specs.Lane.{LaneForm}
use Rattle.par_lanes.specs.declared.ask.LaneAsk.{LaneAsk}
use Rattle.par_lanes.specs.declared.ask.LaneAnswer.{LaneAnswer}
use Rattle.par_lanes.specs.declared.emitted.Emitted.{Emitted}
use Rattle.par_lanes.specs.Wants.{lane_for, turns_for, turns_at}
use Rattle.par_lanes.specs.Calls.{CallsBy, CallAllBy, emitted_at}
use Rattle.par_lanes.specs.Saying.{desk_call, said_of, IsDesk, SaysBy, SayAllBy, IsCalledFor}
use Rattle.par_lanes.proofs.Wanting.{eqb_same, sum_here, sum_past, turns_more}

-- A frame takes as many calls as turns.
pub many_calls : {X : Type 0} (side : LaneForm X) (e : Emission) (out : Emitted) (calls : List (ℕ × (LaneAsk × LaneAnswer))) → CallsBy side e out calls → length calls ≡ turns_for e
many_calls side (Again r) out calls by = ap length by.are
many_calls side (New o) out calls by = ap length by.are

-- One call adds at most one call to a machine.

at_most_one : {A : Type 0} (b : Bool) (x : A) → length (if b then x ∷ [] else []) ≤ 1
at_most_one true x = omega arith
at_most_one false x = omega arith

one_said : {Q A : Type 0} (i : ℕ) (s : Said Q A) → length (said_on i (s ∷ [])) ≤ 1
one_said i s = at_most_one (eqb s.machine i) (s.place, (s.request, s.reply))

-- A budget of two calls has a call left after the first one.
pub left_over : {Q A : Type 0} (i : ℕ) (s : Said Q A) (b b' : ℕ) → b' + length (said_on i (s ∷ [])) ≡ b → 2 ≤ b → 0 < b'
left_over i s b b' left had = let one = one_said i s in omega (arith, left, one, had)

module _ {Q A : Type 0} where
  -- The calls of a desk are calls of that desk only.

  one_on : (machine : ℕ) (calls : List (ℕ × (LaneAsk × LaneAnswer))) → said_on {Q = Either Q LaneAsk} {A = Either A LaneAnswer} machine (said_of machine calls) ≡ map desk_call calls
  one_on machine [] = refl
  one_on machine (c ∷ cs) =
      ap (λ (b : Bool). if b then desk_call {Q = Q} {A = A} c ∷ said_on machine (said_of machine cs) else said_on machine (said_of machine cs)) (eqb_same machine)
      ∙ ap (λ (rest : List (ℕ × (Either Q LaneAsk × Either A LaneAnswer))). desk_call c ∷ rest) (one_on machine cs)

  none_on : (machine i : ℕ) → (machine ≡ i → ⊥) → (calls : List (ℕ × (LaneAsk × LaneAnswer))) → said_on {Q = Either Q LaneAsk} {A = Either A LaneAnswer} i (said_of machine calls) ≡ []
  none_on machine i apart [] = refl
  none_on machine i apart (c ∷ cs) =
      ap (λ (b : Bool). if b then desk_call {Q = Q} {A = A} c ∷ said_on i (said_of machine cs) else said_on i (said_of machine cs)) (ne_eqb machine i apart)
      ∙ none_on machine i apart cs

module _ {M D X Q A : Type 0} (machines : List (Either M D)) (side : D → LaneForm X) (first : ℕ) where
  pub says_more : (xs ys : List (Emission × Emitted)) (a b : List (Said (Either Q LaneAsk) (Either A LaneAnswer))) → SayAllBy machines side first xs a → SayAllBy machines side first ys b → SayAllBy machines side first (xs ++ ys) (a ++ b)
  says_more [] ys a b h k = subst (λ (u : List (Said (Either Q LaneAsk) (Either A LaneAnswer))). SayAllBy machines side first ys (u ++ b)) (sym h) k
  says_more (x ∷ xs) ys a b (front, rest, is, by, h) k =
      (front, rest ++ b, ap (λ (u : List (Said (Either Q LaneAsk) (Either A LaneAnswer))). u ++ b) is ∙ append_assoc front rest b, by, says_more xs ys rest b h k)

  -- the number of calls of a frame's lane
  module _ (e : Emission) (out : Emitted) (said : List (Said (Either Q LaneAsk) (Either A LaneAnswer))) (by : SaysBy machines side (first + lane_place (lane_for e)) e out said) where
    count_case : (i : ℕ) → ((eqb (lane_place (lane_for e)) i ≡ true) × (lane_place (lane_for e) ≡ i)) ⊎ ((eqb (lane_place (lane_for e)) i ≡ false) × (lane_place (lane_for e) ≡ i → ⊥)) →
        length (said_on (first + i) said) ≡ turns_at i (e ∷ [])
    count_case i (inl (b, same)) =
        let at : first + lane_place (lane_for e) ≡ first + i = ap (λ (n : ℕ). first + n) same in
        let here : length (said_on (first + i) said) ≡ length (map (desk_call {Q = Q} {A = A}) by.calls) = ap length (ap (said_on (first + i)) by.are ∙ subst (λ (n : ℕ). said_on {Q = Either Q LaneAsk} {A = Either A LaneAnswer} (first + i) (said_of n by.calls) ≡ map desk_call by.calls) (sym at) (one_on (first + i) by.calls)) in
        let long = length-map by.calls (desk_call {Q = Q} {A = A}) in
        let many = many_calls (side by.desk) e out by.calls by.by in
        let sum = sum_here turns_for i e [] b in
        omega (arith, here, long, many, sum)
    count_case i (inr (b, apart)) =
        let none : length (said_on (first + i) said) ≡ 0 = ap length (ap (said_on (first + i)) by.are ∙ none_on (first + lane_place (lane_for e)) (first + i) (λ same. apart (omega (arith, same))) by.calls) in
        let sum = sum_past turns_for i e [] b in
        omega (arith, none, sum)

    pub counted_one : (i : ℕ) → length (said_on (first + i) said) ≡ turns_at i (e ∷ [])
    counted_one i = count_case i (eqb_tells (lane_place (lane_for e)) i)

  pub counted_all : (i : ℕ) (outs : List (Emission × Emitted)) (said : List (Said (Either Q LaneAsk) (Either A LaneAnswer))) → SayAllBy machines side first outs said → length (said_on (first + i) said) ≡ turns_at i (map (λ x. x.0) outs)
  counted_all i [] said h = let none : length (said_on (first + i) said) ≡ 0 = ap length (ap (said_on (first + i)) h) in omega (arith, none)
  counted_all i (x ∷ xs) said (front, rest, is, by, h) =
      let both : length (said_on (first + i) said) ≡ length (said_on (first + i) front ++ said_on (first + i) rest) = ap length (ap (said_on (first + i)) is ∙ said_behind (first + i) front rest) in
      let long = length-append (said_on (first + i) front) (said_on (first + i) rest) in
      let one = counted_one x.0 x.1 front by i in
      let more = counted_all i xs rest h in
      let sum = turns_more i (x.0 ∷ []) (map (λ (y : Emission × Emitted). y.0) xs) in
      omega (arith, both, long, one, more, sum)

  -- Each desk gets exactly the calls of its lane's frames.

  module _ (i : ℕ) (desk : D) (there : IsDesk machines (first + i) desk) where
    for_case : (x : Emission × Emitted) (xs : List (Emission × Emitted)) (said front rest : List (Said (Either Q LaneAsk) (Either A LaneAnswer))) → said ≡ front ++ rest →
        SaysBy machines side (first + lane_place (lane_for x.0)) x.0 x.1 front → IsCalledFor (side desk) (first + i) i xs rest →
        ((eqb (lane_place (lane_for x.0)) i ≡ true) × (lane_place (lane_for x.0) ≡ i)) ⊎ ((eqb (lane_place (lane_for x.0)) i ≡ false) × (lane_place (lane_for x.0) ≡ i → ⊥)) → IsCalledFor (side desk) (first + i) i (x ∷ xs) said
    for_case x xs said front rest is by more (inl (b, same)) =
        let at : first + lane_place (lane_for x.0) ≡ first + i = ap (λ (n : ℕ). first + n) same in
        let its : by.desk ≡ desk = right_same by.desk desk (same_item (slice_get machines (first + i)) (Right by.desk) (Right desk) (subst (λ (n : ℕ). IsDesk machines n by.desk) at by.there) there) in
        let outs : emitted_at i (x ∷ xs) ≡ x ∷ emitted_at i xs = ap (λ (c : Bool). cond c (x ∷ emitted_at i xs) (emitted_at i xs)) b in
        let here : said_on (first + i) front ≡ map (desk_call {Q = Q} {A = A}) by.calls = ap (said_on (first + i)) by.are ∙ subst (λ (n : ℕ). said_on {Q = Either Q LaneAsk} {A = Either A LaneAnswer} (first + i) (said_of n by.calls) ≡ map desk_call by.calls) (sym at) (one_on (first + i) by.calls) in
        record {
          calls = by.calls ++ more.calls;
          are = ap (said_on (first + i)) is ∙ said_behind (first + i) front rest ∙ ap₂ (λ (u v : List (ℕ × (Either Q LaneAsk × Either A LaneAnswer))). u ++ v) here more.are ∙ sym (map-append desk_call by.calls more.calls);
          by = subst (λ (ys : List (Emission × Emitted)). CallAllBy (side desk) ys (by.calls ++ more.calls)) (sym outs)
              (by.calls, more.calls, refl, subst (λ (d : D). CallsBy (side d) x.0 x.1 by.calls) its by.by, more.by);
        }
    for_case x xs said front rest is by more (inr (b, apart)) =
        let outs : emitted_at i (x ∷ xs) ≡ emitted_at i xs = ap (λ (c : Bool). cond c (x ∷ emitted_at i xs) (emitted_at i xs)) b in
        let none : said_on (first + i) front ≡ [] = ap (said_on (first + i)) by.are ∙ none_on (first + lane_place (lane_for x.0)) (first + i) (λ same. apart (omega (arith, same))) by.calls in
        record {
          calls = more.calls;
          are = ap (said_on (first + i)) is ∙ said_behind (first + i) front rest ∙ ap (λ (u : List (ℕ × (Either Q LaneAsk × Either A LaneAnswer))). u ++ said_on (first + i) rest) none ∙ more.are;
          by = subst (λ (ys : List (Emission × Emitted)). CallAllBy (side desk) ys more.calls) (sym outs) more.by;
        }

    pub called_for : (outs : List (Emission × Emitted)) (said : List (Said (Either Q LaneAsk) (Either A LaneAnswer))) → SayAllBy machines side first outs said → IsCalledFor (side desk) (first + i) i outs said
    called_for [] said h = record { calls = []; are = ap (said_on (first + i)) h; by = refl }
    called_for (x ∷ xs) said (front, rest, is, by, h) = for_case x xs said front rest is by (called_for xs rest h) (eqb_tells (lane_place (lane_for x.0)) i)

  -- Other machines are not called.
  pub others_unsaid : (j : ℕ) → j < first → (outs : List (Emission × Emitted)) (said : List (Said (Either Q LaneAsk) (Either A LaneAnswer))) → SayAllBy machines side first outs said → said_on j said ≡ []
  others_unsaid j lt [] said h = ap (said_on j) h
  others_unsaid j lt (x ∷ xs) said (front, rest, is, by, h) =
      let none : said_on j front ≡ [] = ap (said_on j) by.are ∙ none_on (first + lane_place (lane_for x.0)) j (λ same. omega (arith, same, lt)) by.calls in
      ap (said_on j) is ∙ said_behind j front rest ∙ ap₂ (λ (u v : List (ℕ × (Either Q LaneAsk × Either A LaneAnswer))). u ++ v) none (others_unsaid j lt xs rest h)
