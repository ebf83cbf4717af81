-- Senders are told in order what became of the frames that were put.
use Rattle.std.proofs.Common.{◌≡◌, ℕ, ◌+◌, arith, Bool, true, false, ◌||◌, List, [], ◌∷◌, ◌++◌, length, refl, sym, ◌∙◌, ap, subst, append_assoc, append-nil, Option, Some}
use Rattle.std.specs.Prelude.{◌==◌, filter, slice_get, if◌then◌else◌}
use Rattle.std.specs.List.{list_any, flat_map, AllByRecursion}
use Rattle.std.proofs.lemmas.Bool.Decides.{nat_tests}
use Rattle.std.proofs.lemmas.List.{length-append}
use Rattle.qkd_base.specs.Lane.{lane_eq}
use Rattle.qkd_base.specs.Family.{lane_set}
use Rattle.qkd_base.specs.declared.lane.Lane.{Lane}
use Rattle.net_model.specs.declared.placing.Placing.{Placing}
use Rattle.net_model.specs.Item.{item_name}
use Rattle.net_model.specs.Site.{sender}
use Rattle.net_model.specs.World.{Network, World, Allocation, Outgoing}
use Rattle.net_model.specs.Window.{room_octets}
use Rattle.net_model.specs.Tick.{Emission}
use Rattle.net_model.specs.Frames.{frame_octets, without_frame, outgoing_of, offset_or_zero, placing_of}
use Rattle.net_model.specs.Action.{Environment, is_no_memory, is_io_fault}
use Rattle.net_model.specs.Step.{IsRun}
use Rattle.run_model.specs.Works.{actions_in}
use Rattle.law_base.proofs.Base.{eq_from, lane_eq_from, or_first, or_second, when_false}
use Rattle.law_locality.proofs.Runs.{run_none, run_one}
use Rattle.law_base.proofs.Lists.{all_at, all_both, found_at, lane_set_same}
use Rattle.law_locality.proofs.Lists.{all_weaker}
use Rattle.law_parallel.specs.Puts.{LaneFrame, item_sent, answered_by, is_new, allocation_of, count_after, placed, placings_from, number_at as number_given}
use Rattle.law_parallel.proofs.AllPuts.{LanePut, put_lane, put_action, works_in, on_that, are_on_that}
use Rattle.law_parallel.proofs.Apart.{AreApart}
use Rattle.law_parallel.proofs.OnePut.{wire_with, number_at, IsPutOfAny}
use Rattle.law_parallel.proofs.Reported.{HasPlace, after_puts, next, put_one, later}

-- The waiting frame belongs to this order or repeat.
pub record IsFor (e : Emission) (o : Outgoing) : Type 0 where
  pub name : item_name o.transmission.item ≡ item_name (item_sent e)
  pub answers : o.transmission.received_offset ≡ answered_by e
  pub new : o.fresh ≡ is_new e

-- Every waiting frame with the number of this put belongs to the put's order or repeat.
abbrev pub Agrees : (Lane → List Outgoing) → LanePut → Type 0
Agrees outgoing p = AllByRecursion (λ (o : Outgoing). o.frame ≡ ((p.1).0).number → IsFor ((p.1).0).emission o) (outgoing p.0)

left_of : (P : Outgoing → Type 0) (j : ℕ) (os : List Outgoing) → AllByRecursion P os → AllByRecursion P (without_frame j os)
left_of P j [] h = tt
left_of P j (o ∷ os) h = elim (o.frame == j) as (λ t. AllByRecursion P (if t then os else o ∷ without_frame j os)) [
  | true ↦ h.1
  | false ↦ (h.0, left_of P j os h.1)
]

agrees_without : (outgoing : Lane → List Outgoing) (l : Lane) (j : ℕ) (p : LanePut) → Agrees outgoing p → Agrees (lane_set outgoing l (without_frame j (outgoing l))) p
agrees_without outgoing l j p h =
    elim (lane_eq p.0 l) as (λ t. lane_eq p.0 l ≡ t → AllByRecursion (λ (o : Outgoing). o.frame ≡ ((p.1).0).number → IsFor ((p.1).0).emission o) (if t then without_frame j (outgoing l) else outgoing p.0)) [
      | true ↦ λ e.
          left_of (λ (o : Outgoing). o.frame ≡ ((p.1).0).number → IsFor ((p.1).0).emission o) j (outgoing l)
          (subst (λ (k : Lane). AllByRecursion (λ (o : Outgoing). o.frame ≡ ((p.1).0).number → IsFor ((p.1).0).emission o) (outgoing k)) (lane_eq_from p.0 l e) h)
      | false ↦ λ e. h
    ] refl

count_of : (wire : List ℕ) (j : ℕ) (answer : Environment) → length (wire_with answer j wire) ≡ count_after (length wire) answer
count_of wire j answer =
    elim (is_no_memory answer || is_io_fault answer) as (λ t. length (if t then wire else wire ++ j ∷ []) ≡ (if t then length wire else length wire + 1)) [
      | true ↦ refl
      | false ↦ length-append wire (j ∷ [])
    ]

module _ (net : Network) (base : World) (v : ℕ) where
  -- What a node is told of these puts, given how many frames are on each wire before.
  abbrev one_noted : LanePut → (count : ℕ) → List Placing
  one_noted p count = if sender net.site p.0 == v then placed net base p.0 (p.1).0 (number_given count (p.1).1) ∷ [] else []

  abbrev pub noted : (Lane → ℕ) → List LanePut → List Placing
  noted counts [] = []
  noted counts (p ∷ ps) = one_noted p (counts p.0) ++ noted (lane_set counts p.0 (count_after (counts p.0) (p.1).1)) ps

  abbrev IsSealedAs : World → Type 0
  IsSealedAs x = (l : Lane) (a : Allocation) → frame_octets net x l (Some a) ≡ frame_octets net base l (Some a)

  -- Lemmas on one put.

  placing_is : (x : World) (l : Lane) (f : LaneFrame) (o : Outgoing) (number : Option ℕ) → IsSealedAs x → o.frame ≡ f.number → slice_get (x.frames l) f.number ≡ Some (allocation_of f) → IsFor f.emission o →
      placing_of net x l o number ≡ placed net base l f number
  placing_is x l f o number sealed is has for =
      let at : slice_get (x.frames l) o.frame ≡ Some (allocation_of f) = ap (slice_get (x.frames l)) is ∙ has in
      let octets : frame_octets net x l (slice_get (x.frames l) o.frame) ≡ frame_octets net base l (Some (allocation_of f)) = ap (frame_octets net x l) at ∙ sealed l (allocation_of f) in
      λ i. record {
        lane = l;
        offset = offset_or_zero (at i);
        name = for.name i;
        ack_of = for.answers i;
        fresh = for.new i;
        number = number;
        length = length (octets i);
        frame = room_octets (octets i);
      }

  found_for : (x : World) (p : LanePut) (o : Outgoing) → outgoing_of ((p.1).0).number (x.outgoing p.0) ≡ Some o → o.frame ≡ ((p.1).0).number → Agrees x.outgoing p → IsFor ((p.1).0).emission o
  found_for x p o found is agrees =
      let at = found_at (λ (y : Outgoing). y.frame == ((p.1).0).number) (x.outgoing p.0) o found in
      all_at (λ (y : Outgoing). y.frame ≡ ((p.1).0).number → IsFor ((p.1).0).emission y) (x.outgoing p.0) at.0 o agrees at.1 is

  noted_one : (x : World) (p : LanePut) → IsSealedAs x → HasPlace x.frames p → Agrees x.outgoing p → IsPutOfAny net x p.0 ((p.1).0).number (p.1).1 →
      (next net x p).placings v ≡ x.placings v ++ one_noted p (length (x.wire p.0))
  noted_one x p sealed has agrees one =
      let l : Lane = p.0 in
      let wire : List ℕ = x.wire l in
      let placing : Placing = placing_of net x l one.one (number_at (p.1).1 wire) in
      let as_placed : placing ≡ placed net base l (p.1).0 (number_given (length wire) (p.1).1) =
      placing_is x l (p.1).0 one.one (number_given (length wire) (p.1).1) sealed one.is.number has (found_for x p one.one one.is.found one.is.number agrees) in
      ap (λ (y : World). y.placings v) one.is.after ∙
      (elim (v == sender net.site l) as (λ t. (v == sender net.site l) ≡ t → (if t then x.placings (sender net.site l) ++ placing ∷ [] else x.placings v) ≡ x.placings v ++ one_noted p (length wire)) [
        | true ↦ λ e.
            let is : v ≡ sender net.site l = eq_from v (sender net.site l) e in
            let here : (sender net.site l == v) ≡ true = subst (λ (n : ℕ). (n == v) ≡ true) is (ap (λ (n : ℕ). v == n) is ∙ e) in
            ap (λ (n : ℕ). x.placings n ++ placing ∷ []) (sym is) ∙ ap (λ (y : Placing). x.placings v ++ y ∷ []) as_placed
            ∙ ap (λ (b : Bool). x.placings v ++ (if b then placed net base l (p.1).0 (number_given (length wire) (p.1).1) ∷ [] else [])) (sym here)
        | false ↦ λ e.
            sym (append-nil (x.placings v)) ∙ ap (λ (b : Bool). x.placings v ++ (if b then placed net base l (p.1).0 (number_given (length wire) (p.1).1) ∷ [] else [])) (sym (not_the_other v (sender net.site l) e))
      ] refl)
    where
      not_the_other : (a b : ℕ) → (a == b) ≡ false → (b == a) ≡ false
      not_the_other a b h = grind (arith, nat_tests)

  -- Lemmas on all puts.

  -- Equal counts on the lanes of the puts give the same notes.
  noted_same : (c d : Lane → ℕ) (ps : List LanePut) → AllByRecursion (λ (p : LanePut). c p.0 ≡ d p.0) ps → noted c ps ≡ noted d ps
  noted_same c d [] h = refl
  noted_same c d (p ∷ ps) h =
      ap (λ (n : ℕ). one_noted p n ++ noted (lane_set c p.0 (count_after (c p.0) (p.1).1)) ps) h.0
      ∙ ap (λ (xs : List Placing). one_noted p (d p.0) ++ xs)
      (noted_same (lane_set c p.0 (count_after (c p.0) (p.1).1)) (lane_set d p.0 (count_after (d p.0) (p.1).1)) ps
      (all_weaker (λ (q : LanePut). c q.0 ≡ d q.0) (λ (q : LanePut). lane_set c p.0 (count_after (c p.0) (p.1).1) q.0 ≡ lane_set d p.0 (count_after (d p.0) (p.1).1) q.0)
      (λ q e. both q e) ps h.1))
    where
      both : (q : LanePut) → c q.0 ≡ d q.0 → lane_set c p.0 (count_after (c p.0) (p.1).1) q.0 ≡ lane_set d p.0 (count_after (d p.0) (p.1).1) q.0
      both q e = elim (lane_eq q.0 p.0) as (λ t. (if t then count_after (c p.0) (p.1).1 else c q.0) ≡ (if t then count_after (d p.0) (p.1).1 else d q.0)) [
        | true ↦ ap (λ (n : ℕ). count_after n (p.1).1) h.0
        | false ↦ e
      ]

  abbrev counts_of : World → Lane → ℕ
  counts_of x l = length (x.wire l)

  counts_next : (x : World) (p : LanePut) → IsPutOfAny net x p.0 ((p.1).0).number (p.1).1 → (l : Lane) →
      counts_of (next net x p) l ≡ lane_set (counts_of x) p.0 (count_after (counts_of x p.0) (p.1).1) l
  counts_next x p one l =
      ap (λ (y : World). length (y.wire l)) one.is.after ∙
      (elim (lane_eq l p.0) as (λ t. length (if t then wire_with (p.1).1 ((p.1).0).number (x.wire p.0) else x.wire l) ≡ (if t then count_after (counts_of x p.0) (p.1).1 else counts_of x l)) [
        | true ↦ count_of (x.wire p.0) ((p.1).0).number (p.1).1
        | false ↦ refl
      ])

  pub all_noted : (ps : List LanePut) (x : World) → IsRun net x (actions_in (works_in ps)) → IsSealedAs x → AllByRecursion (HasPlace x.frames) ps → AllByRecursion (Agrees x.outgoing) ps →
      (after_puts net x ps).placings v ≡ x.placings v ++ noted (counts_of x) ps
  all_noted [] x runs sealed has agrees = ap (λ (y : World). y.placings v) (run_none net x) ∙ sym (append-nil (x.placings v))
  all_noted (p ∷ ps) x runs sealed has agrees =
      let one = put_one net x p ps runs in
      let y : World = next net x p in
      let frames : y.frames ≡ x.frames = ap (λ (z : World). z.frames) one.is.after in
      let outgoing : y.outgoing ≡ lane_set x.outgoing p.0 (without_frame one.one.frame (x.outgoing p.0)) = ap (λ (z : World). z.outgoing) one.is.after in
      ap (λ (z : World). z.placings v) (run_one net x (put_action p) (actions_in (works_in ps)))
      ∙ all_noted ps y (later net x p ps runs) (λ l a. ap (λ (z : World). frame_octets net z l (Some a)) one.is.after ∙ sealed l a)
      (subst (λ (f : Lane → List Allocation). AllByRecursion (HasPlace f) ps) (sym frames) has.1)
      (subst (λ (f : Lane → List Outgoing). AllByRecursion (Agrees f) ps) (sym outgoing)
      (all_weaker (Agrees x.outgoing) (Agrees (lane_set x.outgoing p.0 (without_frame one.one.frame (x.outgoing p.0)))) (agrees_without x.outgoing p.0 one.one.frame) ps agrees.1))
      ∙ ap (λ (xs : List Placing). xs ++ noted (counts_of y) ps) (noted_one x p sealed has.0 agrees.0 one)
      ∙ ap (λ (c : Lane → ℕ). (x.placings v ++ one_noted p (counts_of x p.0)) ++ noted c ps) (λ i l. counts_next x p one l i)
      ∙ append_assoc (x.placings v) (one_noted p (counts_of x p.0)) (noted (lane_set (counts_of x) p.0 (count_after (counts_of x p.0) (p.1).1)) ps)

  -- The notes, lane by lane.

  abbrev if_mine : Lane → List Placing → List Placing
  if_mine l xs = if sender net.site l == v then xs else []

  both_mine : (l : Lane) (x : Placing) (xs : List Placing) → if_mine l (x ∷ []) ++ if_mine l xs ≡ if_mine l (x ∷ xs)
  both_mine l x xs = elim (sender net.site l == v) as (λ t. (if t then x ∷ [] else []) ++ (if t then xs else []) ≡ (if t then x ∷ xs else [])) [ true ↦ refl | false ↦ refl ]

  lane_first : (l : Lane) (qs : List (LaneFrame × Environment)) (c : Lane → ℕ) (rest : List LanePut) → AllByRecursion (λ (p : LanePut). lane_eq p.0 l ≡ false) rest →
      noted c (on_that l qs ++ rest) ≡ if_mine l (placings_from net base l (c l) qs) ++ noted c rest
  lane_first l [] c rest away = none (sender net.site l == v)
    where
      none : (b : Bool) → noted c rest ≡ (if b then [] else []) ++ noted c rest
      none true = refl
      none false = refl
  lane_first l (q ∷ qs) c rest away =
      let n : ℕ = count_after (c l) q.1 in
      let first : Placing = placed net base l q.0 (number_given (c l) q.1) in
      let same : noted (lane_set c l n) rest ≡ noted c rest =
      noted_same (lane_set c l n) c rest (all_weaker (λ (p : LanePut). lane_eq p.0 l ≡ false) (λ (p : LanePut). lane_set c l n p.0 ≡ c p.0) (λ p e. when_false (lane_eq p.0 l) n (c p.0) e) rest away) in
      ap (λ (xs : List Placing). if_mine l (first ∷ []) ++ xs)
      (lane_first l qs (lane_set c l n) rest away ∙ ap (λ (k : ℕ). if_mine l (placings_from net base l k qs) ++ noted (lane_set c l n) rest) (lane_set_same c l n)
      ∙ ap (λ (xs : List Placing). if_mine l (placings_from net base l n qs) ++ xs) same)
      ∙ sym (append_assoc (if_mine l (first ∷ [])) (if_mine l (placings_from net base l n qs)) (noted c rest))
      ∙ ap (λ (xs : List Placing). xs ++ noted c rest) (both_mine l first (placings_from net base l n qs))

  module _ (f : Lane → List (LaneFrame × Environment)) where
    others_away : (l : Lane) (ls : List Lane) → list_any (λ k. lane_eq k l) ls ≡ false → AllByRecursion (λ (p : LanePut). lane_eq p.0 l ≡ false) (flat_map (λ k. on_that k (f k)) ls)
    others_away l [] h = tt
    others_away l (k ∷ ls) h =
        all_both (λ (p : LanePut). lane_eq p.0 l ≡ false) (on_that k (f k)) (flat_map (λ k. on_that k (f k)) ls)
        (all_weaker (λ (p : LanePut). put_lane p ≡ k) (λ (p : LanePut). lane_eq p.0 l ≡ false) (λ p is. ap (λ (m : Lane). lane_eq m l) is ∙ or_first (lane_eq k l) (list_any (λ m. lane_eq m l) ls) h) (on_that k (f k)) (are_on_that k (f k)))
        (others_away l ls (or_second (lane_eq k l) (list_any (λ m. lane_eq m l) ls) h))

    pub noted_by_lane : (c : Lane → ℕ) (ls : List Lane) → AreApart ls →
        noted c (flat_map (λ k. on_that k (f k)) ls) ≡ flat_map (λ l. placings_from net base l (c l) (f l)) (filter (λ (l : Lane). sender net.site l == v) ls)
    noted_by_lane c [] h = refl
    noted_by_lane c (l ∷ ls) h =
        lane_first l (f l) c (flat_map (λ k. on_that k (f k)) ls) (others_away l ls h.0)
        ∙ ap (λ (xs : List Placing). if_mine l (placings_from net base l (c l) (f l)) ++ xs) (noted_by_lane c ls h.1)
        ∙ (elim (sender net.site l == v) as (λ t. (if t then placings_from net base l (c l) (f l) else []) ++ flat_map (λ k. placings_from net base k (c k) (f k)) (filter (λ (k : Lane). sender net.site k == v) ls) ≡
        flat_map (λ k. placings_from net base k (c k) (f k)) (if t then l ∷ filter (λ (k : Lane). sender net.site k == v) ls else filter (λ (k : Lane). sender net.site k == v) ls)) [ true ↦ refl | false ↦ refl ])
