-- A put and a claim may change places: neither depends on what the other changes.
use Rattle.std.proofs.Common.{◌≡◌, ℕ, true, false, ◌||◌, List, [], ◌∷◌, ◌++◌, length, refl, sym, ◌∙◌, ap, subst, Option, Some, None}
use Rattle.std.specs.Prelude.{◌==◌, slice_get, if◌then◌else◌}
use Rattle.qkd_base.specs.Lane.{lane_eq}
use Rattle.qkd_base.specs.Family.{lane_set, number_set}
use Rattle.qkd_base.specs.declared.lane.Lane.{Lane}
use Rattle.net_model.specs.declared.placing.Placing.{Placing}
use Rattle.net_model.specs.Item.{item_name}
use Rattle.net_model.specs.Site.{sender}
use Rattle.net_model.specs.Window.{room_octets}
use Rattle.net_model.specs.World.{Network, World, Allocation, Transmission, Outgoing}
use Rattle.net_model.specs.Frames.{frame_octets, allocate, outgoing_of, without_frame, offset_or_zero, placing_of, put, transmit_one, transmit}
use Rattle.net_model.specs.Action.{Environment, Action, Allocate, Transmit, Outcome, Put, Unsent, is_no_memory, is_io_fault}
use Rattle.net_model.specs.Step.{step, run}
use Rattle.law_base.proofs.Base.{by_lane, lane_eq_from, when_true, when_false}
use Rattle.law_base.proofs.Lists.{get_prefix}
use Rattle.law_locality.proofs.Runs.{run_none, run_one, run-append}

-- A waiting frame is still found, and is removed alone, when more frames wait after it.

found_prefix : (j : ℕ) (os ps : List Outgoing) (o : Outgoing) → outgoing_of j os ≡ Some o → outgoing_of j (os ++ ps) ≡ Some o
found_prefix j [] ps o h = cc
found_prefix j (x ∷ os) ps o h =
    elim (x.frame == j) as (λ t. (if t then Some x else outgoing_of j os) ≡ Some o → (if t then Some x else outgoing_of j (os ++ ps)) ≡ Some o) [
      | true ↦ λ e. e
      | false ↦ λ e. found_prefix j os ps o e
    ] h

without_prefix : (j : ℕ) (os ps : List Outgoing) (o : Outgoing) → outgoing_of j os ≡ Some o → without_frame j os ++ ps ≡ without_frame j (os ++ ps)
without_prefix j [] ps o h = cc
without_prefix j (x ∷ os) ps o h =
    elim (x.frame == j) as (λ t. (if t then Some x else outgoing_of j os) ≡ Some o →
    (if t then os else x ∷ without_frame j os) ++ ps ≡ (if t then os ++ ps else x ∷ without_frame j (os ++ ps))) [
      | true ↦ λ e. refl
      | false ↦ λ e. ap (λ (ys : List Outgoing). x ∷ ys) (without_prefix j os ps o e)
    ] h

-- Changes to two lanes may be made in either order. If both change the same lane, their order must not matter there.

module _ {A : Type 0} (f : Lane → A) (k l : Lane) (first second : A → A) (same : first (second (f l)) ≡ second (first (f l))) where
  abbrev first_last : Lane → A
  first_last = lane_set (lane_set f l (second (f l))) k (first (lane_set f l (second (f l)) k))

  abbrev second_last : Lane → A
  second_last = lane_set (lane_set f k (first (f k))) l (second (lane_set f k (first (f k)) l))

  either_order : (m : Lane) → first_last m ≡ second_last m
  either_order m =
      elim (lane_eq m k) as (λ a. lane_eq m k ≡ a → (if a then first (lane_set f l (second (f l)) k) else lane_set f l (second (f l)) m) ≡
      (if lane_eq m l then second (lane_set f k (first (f k)) l) else (if a then first (f k) else f m))) [
        | true ↦ λ e. elim (lane_eq m l) as (λ b. lane_eq m l ≡ b → first (lane_set f l (second (f l)) k) ≡ (if b then second (lane_set f k (first (f k)) l) else first (f k))) [
          | true ↦ λ d.
              let is : l ≡ k = sym (lane_eq_from m l d) ∙ lane_eq_from m k e in
              let there : lane_eq k l ≡ true = subst (λ (x : Lane). lane_eq x l ≡ true) (lane_eq_from m k e) d in
              let back : lane_eq l k ≡ true = subst (λ (x : Lane). lane_eq x k ≡ true) (lane_eq_from m l d) e in
              ap first (when_true (lane_eq k l) (second (f l)) (f k) there) ∙ same ∙ ap (λ (x : Lane). second (first (f x))) is
              ∙ sym (ap second (when_true (lane_eq l k) (first (f k)) (f l) back))
          | false ↦ λ d. ap first (when_false (lane_eq k l) (second (f l)) (f k) (subst (λ (x : Lane). lane_eq x l ≡ false) (lane_eq_from m k e) d))
        ] refl
        | false ↦ λ e. elim (lane_eq m l) as (λ b. lane_eq m l ≡ b → (if b then second (f l) else f m) ≡ (if b then second (lane_set f k (first (f k)) l) else f m)) [
          | true ↦ λ d. ap second (sym (when_false (lane_eq l k) (first (f k)) (f l) (subst (λ (x : Lane). lane_eq x k ≡ false) (lane_eq_from m l d) e)))
          | false ↦ λ d. refl
        ] refl
      ] refl

-- A list of actions that are all claims.
abbrev pub AreClaims : List Action → Type 0
AreClaims [] = Unit {0}
AreClaims (Allocate t ∷ rest) = AreClaims rest
AreClaims (_ ∷ rest) = ⊥

module _ (net : Network) (l : Lane) (j : ℕ) (o : Outgoing) (a : Allocation) where
  -- The frame waits for its wire and is in the lane's list under its number.
  pub record IsReady (w : World) : Type 0 where
    pub found : outgoing_of j (w.outgoing l) ≡ Some o
    pub number : o.frame ≡ j
    pub frame : slice_get (w.frames l) j ≡ Some a

  claim_ready : (t : Transmission) (w : World) → IsReady w → IsReady (step net w (Allocate t)).0
  unfolding step allocate
  claim_ready t w h = record {
    found = by_lane (λ m b. outgoing_of j (w.outgoing m) ≡ Some o → outgoing_of j (if b then w.outgoing t.lane ++ record { frame = length (w.frames t.lane); transmission = t; fresh = true } ∷ [] else w.outgoing m) ≡ Some o) t.lane
        (λ e. found_prefix j (w.outgoing t.lane) _ o e) (λ m e. e) l h.found;
    number = h.number;
    frame = by_lane (λ m b. slice_get (w.frames m) j ≡ Some a → slice_get (if b then w.frames t.lane ++ record { offset = length (w.durable.own t.lane); item = t.item } ∷ [] else w.frames m) j ≡ Some a) t.lane
        (λ e. get_prefix (w.frames t.lane) _ j a e) (λ m e. e) l h.frame;
  }

  module _ (t : Transmission) (w : World) (h : IsReady w) where
    abbrev after : World
    after = (allocate w t).0

    ready_after : IsReady after
    unfolding step
    ready_after = claim_ready t w h

    abbrev placing_over : Option ℕ → Option Allocation → Placing
    placing_over number s = record {
      lane = l;
      offset = offset_or_zero s;
      name = item_name o.transmission.item;
      ack_of = o.transmission.received_offset;
      fresh = o.fresh;
      number = number;
      length = length (frame_octets net w l s);
      frame = room_octets (frame_octets net w l s);
    }

    frame_same : slice_get (w.frames l) o.frame ≡ slice_get (after.frames l) o.frame
    frame_same =
        ap (slice_get (w.frames l)) h.number ∙ h.frame ∙ sym (ready_after.frame) ∙ ap (slice_get (after.frames l)) (sym h.number)

    placing_same : (number : Option ℕ) → placing_of net w l o number ≡ placing_of net after l o number
    unfolding allocate
    placing_same number = ap (placing_over number) frame_same

    outgoing_same : (m : Lane) → (allocate (put net w l o [] None) t).0.outgoing m ≡ (put net after l o [] None).outgoing m
    unfolding allocate
    outgoing_same =
        either_order w.outgoing t.lane l (λ (os : List Outgoing). os ++ record { frame = length (w.frames t.lane); transmission = t; fresh = true } ∷ []) (without_frame o.frame)
        (without_prefix o.frame (w.outgoing l) _ o (subst (λ (n : ℕ). outgoing_of n (w.outgoing l) ≡ Some o) (sym h.number) h.found))

    put_swapped : (wire : List ℕ) (number : Option ℕ) → (allocate (put net w l o wire number) t).0 ≡ put net after l o wire number
    unfolding allocate
    put_swapped wire number =
        let placings : number_set w.placings (sender net.site l) (w.placings (sender net.site l) ++ placing_of net w l o number ∷ []) ≡ (put net after l o wire number).placings =
        ap (λ (p : Placing). number_set w.placings (sender net.site l) (w.placings (sender net.site l) ++ p ∷ [])) (placing_same number) in
        λ i. record (put net after l o wire number) { outgoing = λ m. outgoing_same m i; placings = placings i }

    sent_swapped : (environment : Environment) → (allocate (transmit_one net w l environment (Some o)).0 t).0 ≡ (transmit_one net after l environment (Some o)).0
    unfolding allocate
    sent_swapped environment =
        elim (is_no_memory environment || is_io_fault environment) as (λ b.
        (allocate (if◌then◌else◌ {A = World × Outcome} b (put net w l o (w.wire l) None, Unsent (is_no_memory environment))
        (put net w l o (w.wire l ++ o.frame ∷ []) (Some (length (w.wire l))), Put (length (w.wire l)))).0 t).0 ≡
        (if◌then◌else◌ {A = World × Outcome} b (put net after l o (after.wire l) None, Unsent (is_no_memory environment))
        (put net after l o (after.wire l ++ o.frame ∷ []) (Some (length (after.wire l))), Put (length (after.wire l)))).0) [
          | true ↦ put_swapped (w.wire l) None
          | false ↦ put_swapped (w.wire l ++ o.frame ∷ []) (Some (length (w.wire l)))
        ]

    swapped : (environment : Environment) → (step net (step net w (Transmit l j environment)).0 (Allocate t)).0 ≡ (step net (step net w (Allocate t)).0 (Transmit l j environment)).0
    unfolding step transmit
    swapped environment =
        ap (λ (x : Option Outgoing). (allocate (transmit_one net w l environment x).0 t).0) h.found ∙ sent_swapped environment
        ∙ sym (ap (λ (x : Option Outgoing). (transmit_one net after l environment x).0) ready_after.found)

  module _ (environment : Environment) where
    -- The frame still waits after all claims.

    pub ready_past : (claims : List Action) → AreClaims claims → (w : World) → IsReady w → IsReady (run net w claims)
    ready_past [] only w h = subst IsReady (sym (run_none net w)) h
    ready_past (Allocate t ∷ claims) only w h =
        subst IsReady (sym (run_one net w (Allocate t) claims)) (ready_past claims only (step net w (Allocate t)).0 (claim_ready t w h))
    ready_past (_ ∷ claims) only w h = absurd only

    pub put_past : (claims : List Action) → AreClaims claims → (w : World) → IsReady w →
        run net (step net w (Transmit l j environment)).0 claims ≡ (step net (run net w claims) (Transmit l j environment)).0
    put_past [] only w h = run_none net _ ∙ ap (λ (x : World). (step net x (Transmit l j environment)).0) (sym (run_none net w))
    put_past (Allocate t ∷ claims) only w h =
        run_one net (step net w (Transmit l j environment)).0 (Allocate t) claims ∙ ap (λ (x : World). run net x claims) (swapped t w h environment)
        ∙ put_past claims only (step net w (Allocate t)).0 (claim_ready t w h)
        ∙ ap (λ (x : World). (step net x (Transmit l j environment)).0) (sym (run_one net w (Allocate t) claims))
    put_past (_ ∷ claims) only w h = absurd only

    -- A put may come after all claims, whatever follows.
    pub runs_past : (claims rest : List Action) → AreClaims claims → (w : World) → IsReady w →
        run net w (Transmit l j environment ∷ (claims ++ rest)) ≡ run net w (claims ++ (Transmit l j environment ∷ rest))
    runs_past claims rest only w h =
        run_one net w (Transmit l j environment) (claims ++ rest) ∙ run-append net claims rest (step net w (Transmit l j environment)).0
        ∙ ap (λ (x : World). run net x rest) (put_past claims only w h) ∙ sym (run_one net (run net w claims) (Transmit l j environment) rest)
        ∙ sym (run-append net claims (Transmit l j environment ∷ rest) w)
