-- The world after claims: on each lane, the frames and owners of bytes that they append.
use Rattle.std.proofs.Common.{◌≡◌, ℕ, ◌+◌, Bool, true, false, List, [], ◌∷◌, ◌++◌, length, map, refl, sym, ◌∙◌, ap, subst, append_assoc, append-nil}
use Rattle.std.specs.Prelude.{replicate, if◌then◌else◌}
use Rattle.std.specs.List.{flat_map}
use Rattle.std.proofs.lemmas.List.{length-append, length-replicate}
use Rattle.qkd_base.specs.Lane.{lane_eq}
use Rattle.qkd_base.specs.Family.{lane_set}
use Rattle.qkd_base.specs.declared.lane.Lane.{Lane}
use Rattle.net_model.specs.declared.fact.Fact.{Fact}
use Rattle.net_model.specs.declared.order.Order.{Order}
use Rattle.net_model.specs.Item.{need}
use Rattle.net_model.specs.World.{Network, World, Allocation, Owner, Frame}
use Rattle.net_model.specs.Tick.{item_in}
use Rattle.net_model.specs.Frames.{allocate}
use Rattle.net_model.specs.Step.{step, run}
use Rattle.law_base.proofs.Base.{lane_eq_from, lane_same}
use Rattle.law_locality.proofs.Claims.{lanes_apart}
use Rattle.law_locality.proofs.Runs.{run_none, run_one}
use Rattle.law_locality.proofs.Lists.{on}
use Rattle.law_parallel.proofs.Claims.{claim}
use Rattle.law_parallel.specs.Puts.{LaneFrame, allocation_of, claimed_from, owners}
use Rattle.law_parallel.proofs.AllClaims.{orders_of}
use Rattle.law_parallel.proofs.Counted.{lane_claimed}

module _ (net : Network) where
  abbrev pub claims_run : World → List (ℕ × Order) → World
  claims_run u xs = run net u (map claim (orders_of xs))

  -- Lemmas on one claim.

  record IsOneMore (u x : World) (o : Order) : Type 0 where
    facts : x.durable.facts ≡ u.durable.facts
    frames : x.frames ≡ lane_set u.frames o.lane (u.frames o.lane ++ record { offset = length (u.durable.own o.lane); item = item_in o.payload } ∷ [])
    own : x.durable.own ≡ lane_set u.durable.own o.lane (u.durable.own o.lane ++ replicate (need u.durable.facts (item_in o.payload)) (Frame (length (u.frames o.lane))))

  one_more : (u : World) (o : Order) → IsOneMore u (step net u (claim o)).0 o
  unfolding step allocate
  one_more u o = record { facts = refl; frames = refl; own = refl }

  -- Lemmas on the claims of one lane.

  abbrev new_from : List Fact → List Allocation → List Owner → List (ℕ × Order) → List LaneFrame
  new_from facts frames own xs = claimed_from facts (length frames) (length own) xs

  record IsBehind (facts : List Fact) (frames frames' : List Allocation) (own own' : List Owner) (xs : List (ℕ × Order)) : Type 0 where
    in_frames : frames' ≡ frames ++ map allocation_of (new_from facts frames own xs)
    in_own : own' ≡ own ++ flat_map (owners facts) (new_from facts frames own xs)

  behind_none : (facts : List Fact) (frames : List Allocation) (own : List Owner) → IsBehind facts frames frames own own []
  behind_none facts frames own = record { in_frames = sym (append-nil frames); in_own = sym (append-nil own) }

  behind_one : (facts : List Fact) (frames frames' : List Allocation) (own own' : List Owner) (place : ℕ) (o : Order) (xs : List (ℕ × Order)) →
      IsBehind facts (frames ++ record { offset = length own; item = item_in o.payload } ∷ []) frames'
      (own ++ replicate (need facts (item_in o.payload)) (Frame (length frames))) own' xs →
      IsBehind facts frames frames' own own' ((place, o) ∷ xs)
  behind_one facts frames frames' own own' place o xs h =
      let n : ℕ = need facts (item_in o.payload) in
      let a : Allocation = record { offset = length own; item = item_in o.payload } in
      let mine : List Owner = replicate n (Frame (length frames)) in
      let count : length (frames ++ a ∷ []) ≡ length frames + 1 = length-append frames (a ∷ []) in
      let offset : length (own ++ mine) ≡ length own + n = length-append own mine ∙ ap (λ (k : ℕ). length own + k) (length-replicate n (Frame (length frames))) in
      let rest : new_from facts (frames ++ a ∷ []) (own ++ mine) xs ≡ claimed_from facts (length frames + 1) (length own + n) xs = λ i. claimed_from facts (count i) (offset i) xs in
      let later : List LaneFrame = claimed_from facts (length frames + 1) (length own + n) xs in
      record {
        in_frames = h.in_frames ∙ ap (λ (fs : List LaneFrame). (frames ++ a ∷ []) ++ map allocation_of fs) rest ∙ append_assoc frames (a ∷ []) (map allocation_of later);
        in_own = h.in_own ∙ ap (λ (fs : List LaneFrame). (own ++ mine) ++ flat_map (owners facts) fs) rest ∙ append_assoc own mine (flat_map (owners facts) later);
      }

  -- Lemmas on the claims of any lanes.

  pub record AreClaimed (u x : World) (xs : List (ℕ × Order)) (l : Lane) : Type 0 where
    pub facts : x.durable.facts ≡ u.durable.facts
    pub frames : x.frames l ≡ u.frames l ++ map allocation_of (claimed_from u.durable.facts (length (u.frames l)) (length (u.durable.own l)) (on lane_claimed l xs))
    pub own : x.durable.own l ≡ u.durable.own l ++ flat_map (owners u.durable.facts) (claimed_from u.durable.facts (length (u.frames l)) (length (u.durable.own l)) (on lane_claimed l xs))

  abbrev Now : World → World → List (ℕ × Order) → Lane → Type 0
  Now u x xs l = IsBehind u.durable.facts (u.frames l) (x.frames l) (u.durable.own l) (x.durable.own l) (on lane_claimed l xs)

  record Both (u x : World) (xs : List (ℕ × Order)) (l : Lane) : Type 0 where
    facts : x.durable.facts ≡ u.durable.facts
    now : Now u x xs l

  then_rest : (u x : World) (place : ℕ) (o : Order) (xs : List (ℕ × Order)) (l : Lane) → IsOneMore u (step net u (claim o)).0 o → Both (step net u (claim o)).0 x xs l → Both u x ((place, o) ∷ xs) l
  then_rest u x place o xs l one rest =
      let y : World = (step net u (claim o)).0 in
      let facts : List Fact = u.durable.facts in
      let mine : List (ℕ × Order) = on lane_claimed l xs in
      let a : Allocation = record { offset = length (u.durable.own o.lane); item = item_in o.payload } in
      let more : List Owner = replicate (need facts (item_in o.payload)) (Frame (length (u.frames o.lane))) in
      let as_facts : IsBehind facts (y.frames l) (x.frames l) (y.durable.own l) (x.durable.own l) mine =
      subst (λ (fs : List Fact). IsBehind fs (y.frames l) (x.frames l) (y.durable.own l) (x.durable.own l) mine) one.facts rest.now in
      let as_frames : IsBehind facts (lane_set u.frames o.lane (u.frames o.lane ++ a ∷ []) l) (x.frames l) (y.durable.own l) (x.durable.own l) mine =
      subst (λ (f : Lane → List Allocation). IsBehind facts (f l) (x.frames l) (y.durable.own l) (x.durable.own l) mine) one.frames as_facts in
      let as_own : IsBehind facts (lane_set u.frames o.lane (u.frames o.lane ++ a ∷ []) l) (x.frames l) (lane_set u.durable.own o.lane (u.durable.own o.lane ++ more) l) (x.durable.own l) mine =
      subst (λ (f : Lane → List Owner). IsBehind facts (lane_set u.frames o.lane (u.frames o.lane ++ a ∷ []) l) (x.frames l) (f l) (x.durable.own l) mine) one.own as_frames in
      record {
        facts = rest.facts ∙ one.facts;
        now = elim (lane_eq l o.lane) as (λ t. lane_eq l o.lane ≡ t →
            IsBehind facts (if t then u.frames o.lane ++ a ∷ [] else u.frames l) (x.frames l) (if t then u.durable.own o.lane ++ more else u.durable.own l) (x.durable.own l) mine →
            IsBehind facts (u.frames l) (x.frames l) (u.durable.own l) (x.durable.own l) (if lane_eq o.lane l then (place, o) ∷ mine else mine)) [
              | true ↦ λ e k.
                  let is : l ≡ o.lane = lane_eq_from l o.lane e in
                  let there : lane_eq o.lane l ≡ true = ap (lane_eq o.lane) is ∙ lane_same o.lane in
                  let here : IsBehind facts (u.frames l ++ record a { offset = length (u.durable.own l) } ∷ []) (x.frames l)
                  (u.durable.own l ++ replicate (need facts (item_in o.payload)) (Frame (length (u.frames l)))) (x.durable.own l) mine =
                  subst (λ (m : Lane). IsBehind facts (u.frames m ++ record a { offset = length (u.durable.own m) } ∷ []) (x.frames l)
                  (u.durable.own m ++ replicate (need facts (item_in o.payload)) (Frame (length (u.frames m)))) (x.durable.own l) mine) (sym is) k in
                  subst (λ (t : Bool). IsBehind facts (u.frames l) (x.frames l) (u.durable.own l) (x.durable.own l) (if t then (place, o) ∷ mine else mine)) (sym there)
                  (behind_one facts (u.frames l) (x.frames l) (u.durable.own l) (x.durable.own l) place o mine here)
              | false ↦ λ e k.
                  subst (λ (t : Bool). IsBehind facts (u.frames l) (x.frames l) (u.durable.own l) (x.durable.own l) (if t then (place, o) ∷ mine else mine)) (sym (lanes_apart l o.lane e)) k
            ] refl as_own;
      }

  both : (xs : List (ℕ × Order)) (u : World) (l : Lane) → Both u (claims_run u xs) xs l
  both [] u l = subst (λ (x : World). Both u x [] l) (sym (run_none net u)) (record { facts = refl; now = behind_none u.durable.facts (u.frames l) (u.durable.own l) })
  both (y ∷ xs) u l =
      subst (λ (x : World). Both u x (y ∷ xs) l) (sym (run_one net u (claim y.1) (map claim (orders_of xs))))
      (then_rest u (claims_run (step net u (claim y.1)).0 xs) y.0 y.1 xs l (one_more u y.1) (both xs (step net u (claim y.1)).0 l))

  pub are_claimed : (xs : List (ℕ × Order)) (u : World) (l : Lane) → AreClaimed u (claims_run u xs) xs l
  are_claimed xs u l = let b = both xs u l in record { facts = b.facts; frames = b.now.in_frames; own = b.now.in_own }
