-- Doing a block frame by frame, lane by lane, is one of the orders in which lanes may do it.
use Rattle.std.proofs.Common.{◌≡◌, ℕ, suc, ◌+◌, Bool, true, false, List, [], ◌∷◌, length, map, refl, sym, ◌∙◌, ap, subst, arith}
use Rattle.std.specs.Prelude.{count_by, filter, if◌then◌else◌}
use Rattle.std.specs.List.{list_all}
use Rattle.qkd_base.specs.Lane.{lane_eq}
use Rattle.qkd_base.specs.declared.lane.Lane.{Lane}
use Rattle.net_model.specs.Site.{count_up}
use Rattle.net_model.specs.World.{Network, World}
use Rattle.net_model.specs.Events.{is_lane}
use Rattle.net_model.specs.Tick.{Emission, Again, New}
use Rattle.net_model.specs.Action.{Environment}
use Rattle.net_model.specs.BlockOrder.{is_wire_answer}
use Rattle.run_model.specs.Works.{Work, flat, done_from}
use Rattle.run_ops.specs.declared.job.Job.{Job}
use Rattle.law_base.proofs.Base.{and_left, and_right, and_both, when_true, when_false}
use Rattle.law_locality.proofs.Counting.{one_if, count_more}
use Rattle.law_locality.proofs.Lists.{map_kept}
use Rattle.law_parallel.specs.Putting.{Putting, lane_of, is_wanted, wanted_by}
use Rattle.law_parallel.specs.InOrder.{IsInOrder}
use Rattle.law_parallel.specs.Logs.{Deed, Claims, Puts, claims_in, claims_put, done_for_plans, is_answered, HaveTheSame, wanted_on}
use Rattle.law_parallel.specs.LaneWorks.{AreLaneWorks}
use Rattle.law_parallel.specs.Workers.{deeds_for, claims_after, deeds_from, logs_in_order}
use Rattle.law_parallel.proofs.Counted.{count_first}

done_is : (claim : ℕ) (ps : List Putting) → done_for_plans (deeds_from claim ps) ≡ map is_wanted ps
done_is claim [] = refl
done_is claim (p ∷ ps) = elim p.emission as (λ e. done_for_plans (deeds_for claim p.place p.answer e (deeds_from (claims_after claim e) ps)) ≡ (p.place, e) ∷ map is_wanted ps) [
  | Again r ↦ ap (λ (xs : List (ℕ × Emission)). (p.place, Again r) ∷ xs) (done_is claim ps)
  | New o ↦ ap (λ (xs : List (ℕ × Emission)). (p.place, New o) ∷ xs) (done_is (claim + 1) ps)
]

answered_are : (claim : ℕ) (ps : List Putting) → list_all (λ (p : Putting). is_wire_answer p.answer) ps ≡ true → list_all is_answered (deeds_from claim ps) ≡ true
answered_are claim [] h = refl
answered_are claim (p ∷ ps) h =
    let now = and_left (is_wire_answer p.answer) (list_all (λ (q : Putting). is_wire_answer q.answer) ps) h in
    let later = and_right (is_wire_answer p.answer) (list_all (λ (q : Putting). is_wire_answer q.answer) ps) h in
    elim p.emission as (λ e. list_all is_answered (deeds_for claim p.place p.answer e (deeds_from (claims_after claim e) ps)) ≡ true) [
      | Again r ↦ and_both (is_wire_answer p.answer) (list_all is_answered (deeds_from claim ps)) now (answered_are claim ps later)
      | New o ↦ and_both (is_wire_answer p.answer) (list_all is_answered (deeds_from (claim + 1) ps)) now (answered_are (claim + 1) ps later)
    ]

module _ (q : ℕ → Bool) where
  abbrev IsCounted : ℕ → List Deed → Type 0
  IsCounted claim log = count_by q (claims_put log) ≡ count_by (λ k. q (claim + k)) (count_up (length (claims_in log)))

  one_more : (claim place : ℕ) (answer : Environment) (o : _) (log : List Deed) → IsCounted (claim + 1) log → IsCounted claim (Claims place o ∷ Puts claim answer ∷ log)
  one_more claim place answer o log h =
      let first : one_if (q claim) ≡ one_if (q (claim + 0)) = ap (λ (k : ℕ). one_if (q k)) (none_more claim) in
      let one = count_more q claim (claims_put log) in
      let later : count_by q (claims_put log) ≡ count_by (λ k. q (claim + suc k)) (count_up (length (claims_in log))) =
      h ∙ ap (λ (f : ℕ → ℕ). count_by (λ k. q (f k)) (count_up (length (claims_in log)))) (λ i k. moved claim k i) in
      let two = count_first (λ k. q (claim + k)) (length (claims_in log)) in
      omega (arith, first, one, later, two)
    where
      none_more : (n : ℕ) → n ≡ n + 0
      none_more n = omega arith

      moved : (n k : ℕ) → n + 1 + k ≡ n + suc k
      moved n k = omega arith

  counted : (claim : ℕ) (ps : List Putting) → IsCounted claim (deeds_from claim ps)
  counted claim [] = refl
  counted claim (p ∷ ps) = elim p.emission as (λ e. IsCounted claim (deeds_for claim p.place p.answer e (deeds_from (claims_after claim e) ps))) [
    | Again r ↦ counted claim ps
    | New o ↦ one_more claim p.place p.answer o (deeds_from (claim + 1) ps) (counted (claim + 1) ps)
  ]

put_once : (ps : List Putting) → HaveTheSame (claims_put (deeds_from 0 ps)) (count_up (length (claims_in (deeds_from 0 ps))))
put_once ps q = counted q 0 ps ∙ ap (λ (f : ℕ → ℕ). count_by (λ k. q (f k)) (count_up (length (claims_in (deeds_from 0 ps))))) (λ i k. none k i)
  where
    none : (k : ℕ) → 0 + k ≡ k
    none k = omega arith

kept_answered : (l : Lane) (ps : List Putting) → list_all (λ (p : Putting). is_wire_answer p.answer) ps ≡ true →
    list_all (λ (p : Putting). is_wire_answer p.answer) (filter (λ (p : Putting). lane_eq (lane_of p.emission) l) ps) ≡ true
kept_answered l [] h = refl
kept_answered l (p ∷ ps) h =
    let answered : Putting → Bool = λ (q : Putting). is_wire_answer q.answer in
    let rest = kept_answered l ps (and_right (answered p) (list_all answered ps) h) in
    elim (lane_eq (lane_of p.emission) l) as (λ t. list_all answered (if t then p ∷ filter (λ (q : Putting). lane_eq (lane_of q.emission) l) ps else filter (λ (q : Putting). lane_eq (lane_of q.emission) l) ps) ≡ true) [
      | true ↦ and_both (answered p) (list_all answered (filter (λ (q : Putting). lane_eq (lane_of q.emission) l) ps)) (and_left (answered p) (list_all answered ps) h) rest
      | false ↦ rest
    ]

module _ (net : Network) (workers : ℕ) (w : World) (jobs : List Job) (histories : List (List Work)) (ps : List Putting) (h : IsInOrder net workers w jobs histories ps) where
  abbrev on_lane : Lane → List Putting
  on_lane l = filter (λ (p : Putting). lane_eq (lane_of p.emission) l) ps

  log_is : (l : Lane) → is_lane net.site l ≡ true → logs_in_order net.site ps l ≡ deeds_from 0 (on_lane l)
  log_is l e = when_true (is_lane net.site l) (deeds_from 0 (on_lane l)) [] e

  wanted_there : (l : Lane) → done_for_plans (deeds_from 0 (on_lane l)) ≡ wanted_on l (wanted_by (done_from net w (flat histories)))
  wanted_there l = done_is 0 (on_lane l) ∙ sym (map_kept (λ (x : ℕ × Emission). lane_eq (lane_of x.1) l) is_wanted ps) ∙ h.wanted l

  pub frame_by_frame : AreLaneWorks net workers w jobs histories (logs_in_order net.site ps)
  frame_by_frame = record {
    nodes = h.nodes;
    merged = h.merged;
    turns = h.turns;
    wanted = λ l e kind. ap (λ (log : List Deed). count_by kind (done_for_plans log)) (log_is l e) ∙ ap (count_by kind) (wanted_there l);
    put = λ l e. subst (λ (log : List Deed). HaveTheSame (claims_put log) (count_up (length (claims_in log)))) (sym (log_is l e)) (put_once (on_lane l));
    answered = λ l e. ap (list_all is_answered) (log_is l e) ∙ answered_are 0 (on_lane l) (kept_answered l ps h.answered);
    undeclared = λ l e. when_false (is_lane net.site l) (deeds_from 0 (on_lane l)) [] e;
  }
