-- The puts of all lanes, lane by lane.
use Rattle.std.proofs.Common.{◌≡◌, ℕ, true, false, ◌&&◌, List, [], ◌∷◌, ◌++◌, map, refl, sym, ◌∙◌, ap, subst, Option, Some, None}
use Rattle.std.specs.Prelude.{slice_get, if◌then◌else◌}
use Rattle.std.specs.List.{list_all, flat_map, AllByRecursion}
use Rattle.std.proofs.lemmas.List.{map-append}
use Rattle.qkd_base.specs.Lane.{lane_eq}
use Rattle.qkd_base.specs.declared.lane.Lane.{Lane}
use Rattle.net_model.specs.Site.{Site}
use Rattle.net_model.specs.World.{World, Allocation}
use Rattle.net_model.specs.Events.{is_lane}
use Rattle.net_model.specs.Action.{Environment, Action}
use Rattle.net_model.specs.BlockOrder.{is_wire_answer, is_put, with_lane, put_lanes, are_by_lane, put_on}
use Rattle.run_model.specs.Lines.{all_lanes}
use Rattle.run_model.specs.Works.{Work, actions_in}
use Rattle.law_base.proofs.Base.{and_left, and_right, and_both}
use Rattle.law_base.proofs.Lists.{all_both}
use Rattle.law_locality.proofs.Lists.{on, all_mapped}
use Rattle.law_parallel.proofs.Lists.{all_by_lane}
use Rattle.law_parallel.specs.Logs.{Deed, Claims, Puts, Repeats, is_answered}
use Rattle.law_parallel.specs.Puts.{LaneFrame, with_answer, put_by, frames_put}
use Rattle.law_parallel.specs.LaneWorks.{put_of, puts_of}
use Rattle.law_parallel.proofs.Lanes.{AreOn, on_lane}
use Rattle.law_parallel.proofs.InOrder.{lanes_in_order}

-- A frame that is put on a lane, with the answer of the wire.
abbrev pub LanePut : Type 0
LanePut = Lane × (LaneFrame × Environment)

abbrev pub put_lane : LanePut → Lane
put_lane x = x.0

abbrev pub put_work : LanePut → Work
put_work x = put_of x.0 x.1

abbrev pub put_action : LanePut → Action
put_action x = (put_work x).action

abbrev pub works_in : List LanePut → List Work
works_in xs = map put_work xs

-- Puts on one lane.

abbrev pub on_that : Lane → List (LaneFrame × Environment) → List LanePut
on_that l ps = map (λ (p : LaneFrame × Environment). (l, p)) ps

pub are_on_that : (l : Lane) (ps : List (LaneFrame × Environment)) → AreOn put_lane l (on_that l ps)
are_on_that l [] = tt
are_on_that l (p ∷ ps) = (refl, are_on_that l ps)

answered_one : (answer : Environment) → is_wire_answer answer ≡ true → (o : Option LaneFrame) → AllByRecursion (λ (p : LaneFrame × Environment). is_wire_answer p.1 ≡ true) (with_answer answer o)
answered_one answer h None = tt
answered_one answer h (Some f) = (h, tt)

pub answered_all : (older : List Allocation) (new : List LaneFrame) (log : List Deed) → list_all is_answered log ≡ true →
    AllByRecursion (λ (p : LaneFrame × Environment). is_wire_answer p.1 ≡ true) (flat_map (put_by older new) log)
answered_all older new [] h = tt
answered_all older new (Claims place o ∷ log) h = answered_all older new log h
answered_all older new (Puts claim answer ∷ log) h =
    all_both (λ (p : LaneFrame × Environment). is_wire_answer p.1 ≡ true) (with_answer answer (slice_get new claim)) (flat_map (put_by older new) log)
    (answered_one answer (and_left (is_wire_answer answer) (list_all is_answered log) h) (slice_get new claim))
    (answered_all older new log (and_right (is_wire_answer answer) (list_all is_answered log) h))
answered_all older new (Repeats place r answer ∷ log) h =
    (and_left (is_wire_answer answer) (list_all is_answered log) h, answered_all older new log (and_right (is_wire_answer answer) (list_all is_answered log) h))

-- The lanes and frames of any list of puts.

pub works_lanes : (xs : List LanePut) → put_lanes (actions_in (works_in xs)) ≡ Some (map put_lane xs)
works_lanes [] = refl
works_lanes (x ∷ xs) = ap (with_lane x.0) (works_lanes xs)

abbrev pub number_put : LanePut → ℕ
number_put x = ((x.1).0).number

pub works_on : (l : Lane) (xs : List LanePut) → put_on l (actions_in (works_in xs)) ≡ map number_put (on put_lane l xs)
works_on l [] = refl
works_on l (x ∷ xs) =
    elim (lane_eq x.0 l) as (λ t. (if t then number_put x ∷ put_on l (actions_in (works_in xs)) else put_on l (actions_in (works_in xs))) ≡
    map number_put (if t then x ∷ on put_lane l xs else on put_lane l xs)) [
      | true ↦ ap (λ (ns : List ℕ). number_put x ∷ ns) (works_on l xs)
      | false ↦ works_on l xs
    ]

abbrev pub IsPut : Site → LanePut → Type 0
IsPut s x = (is_lane s x.0 ≡ true) × (is_wire_answer (x.1).1 ≡ true)

pub works_put : (s : Site) (xs : List LanePut) → AllByRecursion (IsPut s) xs → list_all (is_put s) (actions_in (works_in xs)) ≡ true
works_put s [] h = refl
works_put s (x ∷ xs) h =
    and_both (is_lane s x.0 && is_wire_answer (x.1).1) (list_all (is_put s) (actions_in (works_in xs))) (and_both (is_lane s x.0) (is_wire_answer (x.1).1) h.0.0 h.0.1) (works_put s xs h.1)

-- Lemmas on the puts of each lane and of all lanes.

module _ (s : Site) (u : World) (logs : Lane → List Deed) where
  abbrev pub puts_here : Lane → List LanePut
  puts_here l = on_that l (frames_put u l (logs l))

  abbrev pub all_puts : List LanePut
  all_puts = flat_map puts_here (all_lanes s)

  puts_by_lanes : (ls : List Lane) → flat_map (λ l. puts_of u l (logs l)) ls ≡ works_in (flat_map puts_here ls)
  puts_by_lanes [] = refl
  puts_by_lanes (l ∷ ls) =
      ap (λ (xs : List Work). puts_of u l (logs l) ++ xs) (puts_by_lanes ls) ∙ ap (λ (xs : List Work). xs ++ works_in (flat_map puts_here ls)) (each (frames_put u l (logs l)))
      ∙ sym (map-append put_work (puts_here l) (flat_map puts_here ls))
    where
      each : (ps : List (LaneFrame × Environment)) → map (put_of l) ps ≡ works_in (on_that l ps)
      each [] = refl
      each (p ∷ ps) = ap (λ (xs : List Work). put_of l p ∷ xs) (each ps)

  pub puts_are : flat_map (λ l. puts_of u l (logs l)) (all_lanes s) ≡ works_in all_puts
  puts_are = puts_by_lanes (all_lanes s)

  pub puts_in_order : are_by_lane (put_lanes (actions_in (works_in all_puts))) ≡ true
  puts_in_order = ap are_by_lane (works_lanes all_puts) ∙ lanes_in_order put_lane puts_here (λ l. are_on_that l (frames_put u l (logs l))) s

  module _ (none : (l : Lane) → is_lane s l ≡ false → logs l ≡ []) where
    pub puts_on_lane : (l : Lane) → on put_lane l all_puts ≡ puts_here l
    puts_on_lane l = on_lane put_lane puts_here (λ k. are_on_that k (frames_put u k (logs k))) s (λ k e. ap (λ (log : List Deed). on_that k (frames_put u k log)) (none k e)) l

    module _ (answered : (l : Lane) → is_lane s l ≡ true → list_all is_answered (logs l) ≡ true) where
      each_here : (l : Lane) → AllByRecursion (IsPut s) (puts_here l)
      each_here l = elim (is_lane s l) as (λ t. is_lane s l ≡ t → AllByRecursion (IsPut s) (puts_here l)) [
        | true ↦ λ e. all_mapped (IsPut s) (λ (p : LaneFrame × Environment). (l, p)) (frames_put u l (logs l)) (with_lane_too l e (frames_put u l (logs l)) (answered_all _ _ (logs l) (answered l e)))
        | false ↦ λ e. subst (λ (log : List Deed). AllByRecursion (IsPut s) (on_that l (frames_put u l log))) (sym (none l e)) tt
      ] refl
        where
          with_lane_too : (l : Lane) → is_lane s l ≡ true → (ps : List (LaneFrame × Environment)) → AllByRecursion (λ (p : LaneFrame × Environment). is_wire_answer p.1 ≡ true) ps →
              AllByRecursion (λ (p : LaneFrame × Environment). IsPut s (l, p)) ps
          with_lane_too l e [] h = tt
          with_lane_too l e (p ∷ ps) h = ((e, h.0), with_lane_too l e ps h.1)

      pub each_put : AllByRecursion (IsPut s) all_puts
      each_put = all_by_lane put_lane (IsPut s) all_puts (λ l. subst (AllByRecursion (IsPut s)) (sym (puts_on_lane l)) (each_here l))
