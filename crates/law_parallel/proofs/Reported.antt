-- What puts leave on a wire, and what they report, lane by lane.
use Rattle.std.proofs.Common.{◌≡◌, ℕ, ◌+◌, ◌-◌, Bool, true, false, ◌||◌, not, List, [], ◌∷◌, ◌++◌, length, map, refl, sym, ◌∙◌, ap, subst, append_assoc, append-nil, Option, Some}
use Rattle.std.specs.Prelude.{filter, slice_get, if◌then◌else◌}
use Rattle.std.specs.List.{AllByRecursion}
use Rattle.std.proofs.lemmas.List.{length-append}
use Rattle.qkd_base.specs.Lane.{lane_eq}
use Rattle.qkd_base.specs.declared.lane.Lane.{Lane}
use Rattle.net_model.specs.declared.fact.Fact.{Fact}
use Rattle.net_model.specs.Item.{need}
use Rattle.net_model.specs.World.{Network, World, Allocation}
use Rattle.net_model.specs.Frames.{offset_or_zero}
use Rattle.net_model.specs.Action.{Environment, Outcome, Put, Unsent, is_no_memory, is_io_fault}
use Rattle.net_model.specs.Step.{step, run, IsRun}
use Rattle.run_model.specs.Outcomes.{put_items}
use Rattle.run_model.specs.Works.{actions_in, done_from}
use Rattle.run_model.specs.Block.{PutDone, payload_size, puts_of, put_of as put_done_of, is_put as took_it}
use Rattle.law_base.proofs.Base.{lane_eq_from, lane_same}
use Rattle.law_locality.proofs.Claims.{lanes_apart}
use Rattle.law_locality.proofs.Runs.{first_step, later_steps, run_none, run_one}
use Rattle.law_locality.proofs.Lists.{on}
use Rattle.law_parallel.specs.Puts.{LaneFrame, item_sent, allocation_of, is_taken, numbers_taken, answer_at, count_after, reported_from}
use Rattle.law_parallel.proofs.AllPuts.{LanePut, put_lane, put_action, works_in}
use Rattle.law_parallel.proofs.OnePut.{wire_with, IsPutOfAny, one_put}

abbrev pub puts_at : Lane → List LanePut → List (LaneFrame × Environment)
puts_at k ps = map (λ (p : LanePut). p.1) (on put_lane k ps)

-- The lane's list has the frame of this put under its number.
abbrev pub HasPlace : (Lane → List Allocation) → LanePut → Type 0
HasPlace frames p = slice_get (frames p.0) ((p.1).0).number ≡ Some (allocation_of (p.1).0)

-- The reports of one lane.
abbrev pub reported_at : Lane → List PutDone → List PutDone
reported_at k ds = filter (λ (d : PutDone). lane_eq d.lane k) ds

taken_more : (wire : List ℕ) (p : LaneFrame × Environment) (ps : List (LaneFrame × Environment)) → wire_with p.1 (p.0).number wire ++ numbers_taken ps ≡ wire ++ numbers_taken (p ∷ ps)
taken_more wire p ps =
    elim (is_no_memory p.1 || is_io_fault p.1) as (λ t. (if t then wire else wire ++ (p.0).number ∷ []) ++ numbers_taken ps ≡
    wire ++ map (λ (q : LaneFrame × Environment). (q.0).number) (if not t then p ∷ filter (λ (q : LaneFrame × Environment). is_taken q.1) ps else filter (λ (q : LaneFrame × Environment). is_taken q.1) ps)) [
      | true ↦ refl
      | false ↦ append_assoc wire ((p.0).number ∷ []) (numbers_taken ps)
    ]

count_more : (wire : List ℕ) (j : ℕ) (answer : Environment) → length (wire_with answer j wire) ≡ count_after (length wire) answer
count_more wire j answer =
    elim (is_no_memory answer || is_io_fault answer) as (λ t. length (if t then wire else wire ++ j ∷ []) ≡ (if t then length wire else length wire + 1)) [
      | true ↦ refl
      | false ↦ length-append wire (j ∷ [])
    ]

module _ (net : Network) where
  abbrev pub after_puts : World → List LanePut → World
  after_puts x ps = run net x (actions_in (works_in ps))

  abbrev pub next : World → LanePut → World
  next x p = (step net x (put_action p)).0

  -- Lemmas on one put.

  pub put_one : (x : World) (p : LanePut) (ps : List LanePut) → IsRun net x (actions_in (works_in (p ∷ ps))) → IsPutOfAny net x p.0 ((p.1).0).number (p.1).1
  put_one x p ps runs = one_put net x p.0 ((p.1).0).number (p.1).1 (first_step net x (put_action p) (actions_in (works_in ps)) runs)

  pub later : (x : World) (p : LanePut) (ps : List LanePut) → IsRun net x (actions_in (works_in (p ∷ ps))) → IsRun net (next x p) (actions_in (works_in ps))
  later x p ps runs = later_steps net x (put_action p) (actions_in (works_in ps)) runs

  wire_next : (x : World) (p : LanePut) → IsPutOfAny net x p.0 ((p.1).0).number (p.1).1 → (k : Lane) →
      (next x p).wire k ≡ (if lane_eq k p.0 then wire_with (p.1).1 ((p.1).0).number (x.wire p.0) else x.wire k)
  wire_next x p one k = ap (λ (y : World). y.wire k) one.is.after

  frames_next : (x : World) (p : LanePut) → IsPutOfAny net x p.0 ((p.1).0).number (p.1).1 → (next x p).frames ≡ x.frames
  frames_next x p one = ap (λ (y : World). y.frames) one.is.after

  facts_next : (x : World) (p : LanePut) → IsPutOfAny net x p.0 ((p.1).0).number (p.1).1 → (next x p).durable.facts ≡ x.durable.facts
  facts_next x p one = ap (λ (y : World). y.durable.facts) one.is.after

  -- Lemmas on the wire.

  pub wire_is : (ps : List LanePut) (x : World) → IsRun net x (actions_in (works_in ps)) → (k : Lane) → (after_puts x ps).wire k ≡ x.wire k ++ numbers_taken (puts_at k ps)
  wire_is [] x runs k = ap (λ (y : World). y.wire k) (run_none net x) ∙ sym (append-nil (x.wire k))
  wire_is (p ∷ ps) x runs k =
      let one = put_one x p ps runs in
      ap (λ (y : World). y.wire k) (run_one net x (put_action p) (actions_in (works_in ps))) ∙ wire_is ps (next x p) (later x p ps runs) k
      ∙ ap (λ (ns : List ℕ). ns ++ numbers_taken (puts_at k ps)) (wire_next x p one k)
      ∙ (elim (lane_eq k p.0) as (λ t. lane_eq k p.0 ≡ t → (if t then wire_with (p.1).1 ((p.1).0).number (x.wire p.0) else x.wire k) ++ numbers_taken (puts_at k ps) ≡
      x.wire k ++ numbers_taken (map (λ (q : LanePut). q.1) (if lane_eq p.0 k then p ∷ on put_lane k ps else on put_lane k ps))) [
        | true ↦ λ e.
            let is : k ≡ p.0 = lane_eq_from k p.0 e in
            let there : lane_eq p.0 k ≡ true = ap (lane_eq p.0) is ∙ lane_same p.0 in
            ap (λ (m : Lane). wire_with (p.1).1 ((p.1).0).number (x.wire m) ++ numbers_taken (puts_at k ps)) (sym is) ∙ taken_more (x.wire k) p.1 (puts_at k ps)
            ∙ ap (λ (b : Bool). x.wire k ++ numbers_taken (map (λ (q : LanePut). q.1) (if b then p ∷ on put_lane k ps else on put_lane k ps))) (sym there)
        | false ↦ λ e.
            ap (λ (b : Bool). x.wire k ++ numbers_taken (map (λ (q : LanePut). q.1) (if b then p ∷ on put_lane k ps else on put_lane k ps))) (sym (lanes_apart k p.0 e))
      ] refl)

  -- Lemmas on the reports.

  abbrev pub done_puts : World → List LanePut → List PutDone
  done_puts x ps = puts_of (done_from net x (works_in ps))

  abbrev one_report : List Fact → Lane → (count : ℕ) → LaneFrame × Environment → PutDone
  one_report facts l count p =
      record {
        lane = l;
        offset = (p.0).offset;
        place = (p.0).place;
        took = is_taken p.1;
        reported = put_items l (p.0).offset (need facts (item_sent (p.0).emission) - 8) (answer_at count p.1);
      }

  took_is : (count : ℕ) (answer : Environment) → took_it (answer_at count answer) ≡ is_taken answer
  took_is count answer = elim (is_no_memory answer || is_io_fault answer) as (λ t. took_it (if t then Unsent (is_no_memory answer) else Put count) ≡ not t) [
    | true ↦ refl
    | false ↦ refl
  ]

  report_is : (x : World) (p : LanePut) → HasPlace x.frames p → IsPutOfAny net x p.0 ((p.1).0).number (p.1).1 →
      put_done_of x ((p.1).0).place (put_action p) (step net x (put_action p)).1 ≡ one_report x.durable.facts p.0 (length (x.wire p.0)) p.1 ∷ []
  report_is x p has one =
      let out : Outcome = answer_at (length (x.wire p.0)) (p.1).1 in
      ap (put_done_of x ((p.1).0).place (put_action p)) one.is.said
      ∙ ap (λ (a : Option Allocation).
      record { lane = p.0; offset = offset_or_zero a; place = ((p.1).0).place; took = took_it out; reported = put_items p.0 (offset_or_zero a) (payload_size x a) out } ∷ []) has
      ∙ ap (λ (b : Bool). record (one_report x.durable.facts p.0 (length (x.wire p.0)) p.1) { took = b } ∷ []) (took_is (length (x.wire p.0)) (p.1).1)

  first_done : (x : World) (p : LanePut) (ps : List LanePut) →
      done_puts x (p ∷ ps) ≡ put_done_of x ((p.1).0).place (put_action p) (step net x (put_action p)).1 ++ done_puts (next x p) ps
  unfolding done_from
  first_done x p ps = refl

  no_done : (x : World) → done_puts x [] ≡ []
  unfolding done_from
  no_done x = refl

  pub reports_are : (ps : List LanePut) (x : World) → IsRun net x (actions_in (works_in ps)) → AllByRecursion (HasPlace x.frames) ps → (k : Lane) →
      reported_at k (done_puts x ps) ≡ reported_from x.durable.facts k (length (x.wire k)) (puts_at k ps)
  reports_are [] x runs has k = ap (reported_at k) (no_done x)
  reports_are (p ∷ ps) x runs has k =
      let one = put_one x p ps runs in
      let facts : List Fact = x.durable.facts in
      let report : PutDone = one_report facts p.0 (length (x.wire p.0)) p.1 in
      let rest : reported_at k (done_puts (next x p) ps) ≡ reported_from facts k (length (if lane_eq k p.0 then wire_with (p.1).1 ((p.1).0).number (x.wire p.0) else x.wire k)) (puts_at k ps) =
      reports_are ps (next x p) (later x p ps runs) (subst (λ (f : Lane → List Allocation). AllByRecursion (HasPlace f) ps) (sym (frames_next x p one)) has.1) k
      ∙ ap (λ (fs : List Fact). reported_from fs k (length ((next x p).wire k)) (puts_at k ps)) (facts_next x p one)
      ∙ ap (λ (wire : List ℕ). reported_from facts k (length wire) (puts_at k ps)) (wire_next x p one k) in
      ap (reported_at k) (first_done x p ps ∙ ap (λ (ds : List PutDone). ds ++ done_puts (next x p) ps) (report_is x p has.0 one))
      ∙ (elim (lane_eq k p.0) as (λ t. lane_eq k p.0 ≡ t → reported_at k (done_puts (next x p) ps) ≡ reported_from facts k (length (if t then wire_with (p.1).1 ((p.1).0).number (x.wire p.0) else x.wire k)) (puts_at k ps) →
      (if lane_eq p.0 k then report ∷ reported_at k (done_puts (next x p) ps) else reported_at k (done_puts (next x p) ps)) ≡
      reported_from facts k (length (x.wire k)) (map (λ (q : LanePut). q.1) (if lane_eq p.0 k then p ∷ on put_lane k ps else on put_lane k ps))) [
        | true ↦ λ e h.
            let is : k ≡ p.0 = lane_eq_from k p.0 e in
            let there : lane_eq p.0 k ≡ true = ap (lane_eq p.0) is ∙ lane_same p.0 in
            let counted : length (wire_with (p.1).1 ((p.1).0).number (x.wire p.0)) ≡ count_after (length (x.wire k)) (p.1).1 =
            count_more (x.wire p.0) ((p.1).0).number (p.1).1 ∙ ap (λ (m : Lane). count_after (length (x.wire m)) (p.1).1) (sym is) in
            subst (λ (b : Bool). (if b then report ∷ reported_at k (done_puts (next x p) ps) else reported_at k (done_puts (next x p) ps)) ≡
            reported_from facts k (length (x.wire k)) (map (λ (q : LanePut). q.1) (if b then p ∷ on put_lane k ps else on put_lane k ps))) (sym there)
            (ap (λ (ds : List PutDone). report ∷ ds) (h ∙ ap (λ (n : ℕ). reported_from facts k n (puts_at k ps)) counted)
            ∙ ap (λ (m : Lane). one_report facts m (length (x.wire m)) p.1 ∷ reported_from facts k (count_after (length (x.wire k)) (p.1).1) (puts_at k ps)) (sym is))
        | false ↦ λ e h.
            subst (λ (b : Bool). (if b then report ∷ reported_at k (done_puts (next x p) ps) else reported_at k (done_puts (next x p) ps)) ≡
            reported_from facts k (length (x.wire k)) (map (λ (q : LanePut). q.1) (if b then p ∷ on put_lane k ps else on put_lane k ps))) (sym (lanes_apart k p.0 e)) h
      ] refl rest)
