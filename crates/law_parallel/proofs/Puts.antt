-- The puts of a block that is done in sequence: one for each ordered frame, on its lane and in the lane's order.
use Rattle.std.proofs.Common.{◌≡◌, ℕ, ◌+◌, Bool, true, false, ◌&&◌, ◌||◌, List, [], ◌∷◌, ◌++◌, length, map, refl, sym, ◌∙◌, ap, subst, arith, Option, Some, None}
use Rattle.std.specs.Prelude.{◌==◌, filter, count_by, if◌then◌else◌}
use Rattle.std.specs.List.{list_all, AllByRecursion}
use Rattle.std.proofs.lemmas.List.{length-append}
use Rattle.qkd_base.specs.Lane.{lane_eq}
use Rattle.qkd_base.specs.declared.lane.Lane.{Lane}
use Rattle.net_model.specs.declared.order.Order.{Order}
use Rattle.net_model.specs.declared.repeat.Repeat.{Repeat}
use Rattle.net_model.specs.World.{Network, World, Allocation, Outgoing}
use Rattle.net_model.specs.Events.{is_lane}
use Rattle.net_model.specs.Handle.{frame_at}
use Rattle.net_model.specs.Tick.{Emission, Again, New, item_in, ordered}
use Rattle.net_model.specs.Frames.{outgoing_of, transmit_one, transmit}
use Rattle.net_model.specs.Action.{Environment, Action, Transmit, Outcome, is_no_memory, is_io_fault}
use Rattle.net_model.specs.BlockOrder.{is_wire_answer, is_put, with_lane, put_lanes, put_on}
use Rattle.net_model.specs.Step.{step, run}
use Rattle.run_model.specs.Works.{Work, actions_in}
use Rattle.law_base.proofs.Base.{and_left, and_right, and_both, by_test, lane_eq_from, lane_same, when_true, when_false}
use Rattle.law_locality.proofs.Claims.{lanes_apart}
use Rattle.law_locality.proofs.Counting.{count_more}
use Rattle.law_locality.specs.Sending.{orders_in, repeats_in, repeated}
use Rattle.law_parallel.specs.Putting.{Putting, lane_of, emission_works, one_by_one, puts_in, is_put as is_put_work}
use Rattle.law_parallel.proofs.Claims.{claim, emissions, AreOnLanes}
use Rattle.law_parallel.proofs.Claimed.{IsMore, no_more, more_then, fresh, one_claim}

-- The number of a frame: that of the repeated frame, or the next one of its lane.
abbrev pub frame_for : World → Emission → ℕ
frame_for u (Again r) = frame_at (u.frames r.lane) r.offset
frame_for u (New o) = length (u.frames o.lane)

abbrev pub put_work : World → Putting → Work
put_work u p = record { place = p.place; action = Transmit (lane_of p.emission) (frame_for u p.emission) p.answer }

module _ (net : Network) where
  abbrev pub after : World → Putting → World
  after u p = run net u (actions_in (emission_works u p.place p.answer p.emission))

  pub put_first : (u : World) (p : Putting) (ps : List Putting) → puts_in (one_by_one net u (p ∷ ps)) ≡ put_work u p ∷ puts_in (one_by_one net (after u p) ps)
  unfolding one_by_one
  put_first u p ps =
      elim p.emission as (λ e. filter is_put_work (emission_works u p.place p.answer e ++ one_by_one net (run net u (actions_in (emission_works u p.place p.answer e))) ps) ≡
      record { place = p.place; action = Transmit (lane_of e) (frame_for u e) p.answer } ∷ filter is_put_work (one_by_one net (run net u (actions_in (emission_works u p.place p.answer e))) ps)) [
        | Again r ↦ refl
        | New o ↦ refl
      ]

  pub no_puts : (u : World) → puts_in (one_by_one net u []) ≡ []
  unfolding one_by_one
  no_puts u = refl

  abbrev pub puts : World → List Putting → List Action
  puts u ps = actions_in (puts_in (one_by_one net u ps))

  put_action : (u : World) (p : Putting) (ps : List Putting) → puts u (p ∷ ps) ≡ Transmit (lane_of p.emission) (frame_for u p.emission) p.answer ∷ puts (after u p) ps
  put_action u p ps = ap actions_in (put_first u p ps)

  -- The lanes of these puts.

  pub puts_lanes : (ps : List Putting) (u : World) → put_lanes (puts u ps) ≡ Some (map lane_of (emissions ps))
  puts_lanes [] u = ap (λ (xs : List Work). put_lanes (actions_in xs)) (no_puts u)
  puts_lanes (p ∷ ps) u = ap put_lanes (put_action u p ps) ∙ ap (with_lane (lane_of p.emission)) (puts_lanes ps (after u p))

  pub puts_each : (ps : List Putting) (u : World) → AreOnLanes net.site (emissions ps) → list_all (λ (p : Putting). is_wire_answer p.answer) ps ≡ true →
      list_all (is_put net.site) (puts u ps) ≡ true
  puts_each [] u h k = ap (λ (xs : List Work). list_all (is_put net.site) (actions_in xs)) (no_puts u)
  puts_each (p ∷ ps) u h k =
      ap (list_all (is_put net.site)) (put_action u p ps) ∙
      and_both (is_lane net.site (lane_of p.emission) && is_wire_answer p.answer) (list_all (is_put net.site) (puts (after u p) ps))
      (and_both (is_lane net.site (lane_of p.emission)) (is_wire_answer p.answer) h.0 (and_left (is_wire_answer p.answer) (list_all (λ (q : Putting). is_wire_answer q.answer) ps) k))
      (puts_each ps (after u p) h.1 (and_right (is_wire_answer p.answer) (list_all (λ (q : Putting). is_wire_answer q.answer) ps) k))

  -- The number of frames on a lane, which grows by one for each new order of the lane.

  abbrev pub grown : Emission → ℕ → ℕ
  grown (Again r) n = n
  grown (New o) n = n + 1

  pub record Grows (l : Lane) (e : Emission) (before now : List Allocation) : Type 0 where
    pub more : IsMore before now
    pub size : length now ≡ (if lane_eq (lane_of e) l then grown e (length before) else length before)

  transmit_frames : (w : World) (l : Lane) (environment : Environment) (o : Option Outgoing) → (transmit_one net w l environment o).0.frames ≡ w.frames
  transmit_frames w l environment None = refl
  transmit_frames w l environment (Some o) =
      by_test (λ (r : World × Outcome). r.0.frames ≡ w.frames) (is_no_memory environment || is_io_fault environment) _ _ (λ e. refl) (λ e. refl)

  put_frames : (w : World) (l : Lane) (j : ℕ) (environment : Environment) → (step net w (Transmit l j environment)).0.frames ≡ w.frames
  unfolding step transmit
  put_frames w l j environment = transmit_frames w l environment (outgoing_of j (w.outgoing l))

  same_if : (t : Bool) (n : ℕ) → n ≡ (if t then n else n)
  same_if true n = refl
  same_if false n = refl

  claim_grows : (w : World) (o : Order) (l : Lane) → Grows l (New o) (w.frames l) ((step net w (claim o)).0.frames l)
  claim_grows w o l =
      let a : Allocation = record { offset = length (w.durable.own o.lane); item = item_in o.payload } in
      subst (λ (f : Lane → List Allocation). Grows l (New o) (w.frames l) (f l)) (sym (one_claim net w o).frames)
      (elim (lane_eq l o.lane) as (λ t. lane_eq l o.lane ≡ t → Grows l (New o) (w.frames l) (if t then w.frames o.lane ++ a ∷ [] else w.frames l)) [
        | true ↦ λ e.
            let is : l ≡ o.lane = lane_eq_from l o.lane e in
            subst (λ (k : Lane). Grows k (New o) (w.frames k) (w.frames o.lane ++ a ∷ [])) (sym is) (record {
              more = record { more = a ∷ []; is = refl };
              size = length-append (w.frames o.lane) (a ∷ []) ∙ sym (when_true (lane_eq o.lane o.lane) (length (w.frames o.lane) + 1) (length (w.frames o.lane)) (lane_same o.lane));
            })
        | false ↦ λ e. record {
          more = no_more (w.frames l);
          size = sym (when_false (lane_eq o.lane l) (length (w.frames l) + 1) (length (w.frames l)) (lanes_apart l o.lane e));
        }
      ] refl)

  works_grow : (u : World) (place : ℕ) (answer : Environment) (e : Emission) (l : Lane) → Grows l e (u.frames l) ((run net u (actions_in (emission_works u place answer e))).frames l)
  unfolding run
  works_grow u place answer (Again r) l =
      subst (λ (f : Lane → List Allocation). Grows l (Again r) (u.frames l) (f l)) (sym (put_frames u r.lane (frame_at (u.frames r.lane) r.offset) answer))
      (record { more = no_more (u.frames l); size = same_if (lane_eq r.lane l) (length (u.frames l)) })
  works_grow u place answer (New o) l =
      subst (λ (f : Lane → List Allocation). Grows l (New o) (u.frames l) (f l)) (sym (put_frames (step net u (claim o)).0 o.lane (length (u.frames o.lane)) answer)) (claim_grows u o l)

  pub after_grows : (u : World) (p : Putting) (l : Lane) → Grows l p.emission (u.frames l) ((after u p).frames l)
  after_grows u p l = works_grow u p.place p.answer p.emission l

  -- Lemmas on the numbers of the frames that are put on a lane.

  module _ (l : Lane) (base : List Allocation) where
    abbrev number : ℕ → Emission → ℕ
    number n (Again r) = frame_at base r.offset
    number n (New o) = n

    abbrev numbers : ℕ → List Emission → List ℕ
    numbers n [] = []
    numbers n (e ∷ es) = if lane_eq (lane_of e) l then number n e ∷ numbers (grown e n) es else numbers n es

    -- The frame of a repeat is there before the block.
    abbrev pub IsThere : Emission → Type 0
    IsThere (Again r) = r.lane ≡ l → (more : List Allocation) → frame_at (base ++ more) r.offset ≡ frame_at base r.offset
    IsThere (New o) = Unit {0}

    number_is : (u : World) (e : Emission) → IsThere e → IsMore base (u.frames l) → lane_of e ≡ l → frame_for u e ≡ number (length (u.frames l)) e
    number_is u (Again r) h m e = ap (λ (k : Lane). frame_at (u.frames k) r.offset) e ∙ ap (λ (fs : List Allocation). frame_at fs r.offset) m.is ∙ h e m.more
    number_is u (New o) h m e = ap (λ (k : Lane). length (u.frames k)) e

    abbrev IsNext : World → Putting → List Putting → Bool → Type 0
    IsNext u p ps t = (if t then frame_for u p.emission ∷ put_on l (puts (after u p) ps) else put_on l (puts (after u p) ps)) ≡
        (if t then number (length (u.frames l)) p.emission ∷ numbers (grown p.emission (length (u.frames l))) (emissions ps) else numbers (length (u.frames l)) (emissions ps))

    pub numbers_are : (ps : List Putting) (u : World) → IsMore base (u.frames l) → AllByRecursion IsThere (emissions ps) → put_on l (puts u ps) ≡ numbers (length (u.frames l)) (emissions ps)
    numbers_are [] u m h = ap (λ (xs : List Work). put_on l (actions_in xs)) (no_puts u)
    numbers_are (p ∷ ps) u m h =
        let grows = after_grows u p l in
        let rest = numbers_are ps (after u p) (more_then base (u.frames l) ((after u p).frames l) m grows.more) h.1 in
        ap (put_on l) (put_action u p ps) ∙
        (elim (lane_eq (lane_of p.emission) l) as (λ t. lane_eq (lane_of p.emission) l ≡ t → length ((after u p).frames l) ≡ (if t then grown p.emission (length (u.frames l)) else length (u.frames l)) →
        IsNext u p ps t) [
          | true ↦ λ e size.
              let one = number_is u p.emission h.0 m (lane_eq_from (lane_of p.emission) l e) in
              let more = rest ∙ ap (λ (n : ℕ). numbers n (emissions ps)) size in
              λ i. one i ∷ more i
          | false ↦ λ e size. rest ∙ ap (λ (n : ℕ). numbers n (emissions ps)) size
        ] refl grows.size)

    -- Each frame is put as often as it waits.

    abbrev is_number : ℕ → Outgoing → Bool
    is_number j o = o.frame == j

    abbrev again : List Emission → List Outgoing
    again es = map (repeated base) (filter (λ (r : Repeat). lane_eq r.lane l) (repeats_in es))

    abbrev new : ℕ → List Emission → List Outgoing
    new n es = fresh n (filter (λ (o : Order). lane_eq o.lane l) (orders_in es))

    pub counted : (j n : ℕ) (es : List Emission) → count_by (λ i. i == j) (numbers n es) ≡ count_by (is_number j) (again es) + count_by (is_number j) (new n es)
    counted j n [] = refl
    counted j n (Again r ∷ es) =
        let rest = counted j n es in
        elim (lane_eq r.lane l) as (λ t. count_by (λ i. i == j) (if t then frame_at base r.offset ∷ numbers n es else numbers n es) ≡
        count_by (is_number j) (map (repeated base) (if t then r ∷ filter (λ (x : Repeat). lane_eq x.lane l) (repeats_in es) else filter (λ (x : Repeat). lane_eq x.lane l) (repeats_in es))) +
        count_by (is_number j) (new n es)) [
          | true ↦
              let a = count_more (λ i. i == j) (frame_at base r.offset) (numbers n es) in
              let b = count_more (is_number j) (repeated base r) (again es) in
              omega (arith, rest, a, b)
          | false ↦ rest
        ]
    counted j n (New o ∷ es) =
        elim (lane_eq o.lane l) as (λ t. count_by (λ i. i == j) (if t then n ∷ numbers (n + 1) es else numbers n es) ≡
        count_by (is_number j) (again es) +
        count_by (is_number j) (fresh n (if t then o ∷ filter (λ (x : Order). lane_eq x.lane l) (orders_in es) else filter (λ (x : Order). lane_eq x.lane l) (orders_in es)))) [
          | true ↦
              let rest = counted j (n + 1) es in
              let a = count_more (λ i. i == j) n (numbers (n + 1) es) in
              let b = count_more (is_number j) (record { frame = n; transmission = ordered o; fresh = true }) (new (n + 1) es) in
              omega (arith, rest, a, b)
          | false ↦ counted j n es
        ]
