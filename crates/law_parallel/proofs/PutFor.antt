-- Each frame that the plan of a line orders is put once for that line.
use Rattle.std.proofs.Common.{◌≡◌, ℕ, zero, suc, ◌<◌, ◌≤◌, Bool, true, false, ◌&&◌, List, [], ◌∷◌, length, map, refl, sym, ◌∙◌, ap, subst, arith, Some}
use Rattle.std.specs.Prelude.{◌==◌, filter, count_by, slice_get}
use Rattle.std.specs.List.{list_all, AllByRecursion}
use Rattle.std.proofs.lemmas.List.Folds.{list_all-map}
use Rattle.std.proofs.lemmas.Option.{slice_get_within}
use Rattle.qkd_base.specs.Lane.{lane_eq}
use Rattle.qkd_base.specs.declared.lane.Lane.{Lane}
use Rattle.net_model.specs.declared.repeat.Repeat.{Repeat}
use Rattle.net_model.specs.Site.{sender}
use Rattle.net_model.specs.World.{Network, World, Outgoing}
use Rattle.net_model.specs.Premises.{IsNetwork}
use Rattle.net_model.specs.Invariant.{Conserved}
use Rattle.net_model.specs.Tick.{Emission, Again}
use Rattle.net_model.specs.Action.{Action, Outcome}
use Rattle.net_model.specs.Step.{run}
use Rattle.run_model.specs.Works.{Work, Works, Done, flat, done_from, turns_done, claimed, wanted_put, is_put_of, are_put}
use Rattle.run_ops.specs.Quiet.{IsQuiet}
use Rattle.run_ops.specs.declared.job.Job.{Job}
use Rattle.run_ops.specs.Together.{turn_done}
use Rattle.law_base.proofs.Base.{and_right, and_both, eq_same}
use Rattle.law_locality.proofs.Counting.{one_if, count_more}
use Rattle.law_base.proofs.Lists.{all_at, all_from}
use Rattle.law_locality.specs.Sending.{orders_in, repeats_in, repeated, IsEmission}
use Rattle.law_parallel.specs.Putting.{Putting, lane_of, is_wanted, wanted_by, one_by_one, claims_of, puts_in}
use Rattle.law_parallel.specs.InOrder.{turns_over, IsInOrder, works_of}
use Rattle.law_parallel.proofs.Asked.{are_asked}
use Rattle.law_parallel.proofs.Block.{are_turns, alone, conserved, remains, after_claims, outgoing_after}
use Rattle.law_parallel.proofs.Claims.{emissions, claims_are}
use Rattle.law_parallel.proofs.Claimed.{IsMore, no_more, claims_claimed}
use Rattle.law_parallel.proofs.Counting.{count-append, count-map, count_kept, counted_none, found_there, all_found}
use Rattle.law_parallel.proofs.Found.{AreBelow, all_known, is_one, puts_counted}
use Rattle.law_parallel.proofs.Once.{AreOnce, turns_once}
use Rattle.law_parallel.proofs.Places.{is_of, places_once, done_places}
use Rattle.law_parallel.proofs.WorkRepeats.{Framed, again_framed}
use Rattle.law_parallel.proofs.Same.{is_same, same_self, same_lane}

-- The test that this frame was ordered for this place.
abbrev is_wanted_as : (place : ℕ) → Emission → ℕ × Emission → Bool
is_wanted_as place e x = (x.0 == place) && is_same e x.1

-- Lemmas on the frames ordered by all plans. Each plan orders a frame at most once, and each place has at most one
-- plan.

abbrev is_for : ℕ → Done → Bool
is_for place d = is_of place d.work

module _ (place : ℕ) (e : Emission) where
  abbrev mine : Done → List (ℕ × Emission)
  mine d = map (λ x. (d.work.place, x)) (wanted_put d.outcome)

  in_one : (d : Done) → count_by (is_wanted_as place e) (mine d) ≡ count_by (λ x. (d.work.place == place) && is_same e x) (wanted_put d.outcome)
  in_one d = count-map (is_wanted_as place e) (λ x. (d.work.place, x)) (wanted_put d.outcome)

  few_in_one : (d : Done) → AreOnce (wanted_put d.outcome) → count_by (is_wanted_as place e) (mine d) ≤ one_if (is_for place d)
  few_in_one d once =
      let counted = in_one d in
      elim (d.work.place == place) as (λ t. count_by (is_wanted_as place e) (mine d) ≡ count_by (λ x. t && is_same e x) (wanted_put d.outcome) →
      count_by (is_wanted_as place e) (mine d) ≤ one_if t) [
        | true ↦ λ c. let few = once e in omega (arith, c, few)
        | false ↦ λ c. let none = counted_none (λ (x : Emission). false) (λ x. refl) (wanted_put d.outcome) in omega (arith, c, none)
      ] counted

  few_wanted : (done : List Done) → AllByRecursion (λ (d : Done). AreOnce (wanted_put d.outcome)) done → count_by (is_wanted_as place e) (wanted_by done) ≤ count_by (is_for place) done
  few_wanted [] once = omega arith
  few_wanted (d ∷ done) once =
      let both = count-append (is_wanted_as place e) (mine d) (wanted_by done) in
      let one = few_in_one d once.0 in
      let rest = few_wanted done once.1 in
      let more = count_more (is_for place) d done in
      omega (arith, both, one, rest, more)

  is_wanted_there : (done : List Done) (i : ℕ) (d : Done) → slice_get done i ≡ Some d → count_by (is_wanted_as place e) (mine d) ≤ count_by (is_wanted_as place e) (wanted_by done)
  is_wanted_there [] i d at = cc
  is_wanted_there (x ∷ done) zero d at =
      let is : x ≡ d = cc in
      let both = count-append (is_wanted_as place e) (mine x) (wanted_by done) in
      let same : count_by (is_wanted_as place e) (mine x) ≡ count_by (is_wanted_as place e) (mine d) = ap (λ (y : Done). count_by (is_wanted_as place e) (mine y)) is in
      omega (arith, both, same)
  is_wanted_there (x ∷ done) (suc i) d at =
      let both = count-append (is_wanted_as place e) (mine x) (wanted_by done) in
      let rest = is_wanted_there done i d at in
      omega (arith, both, rest)

module _ (net : Network) (network : IsNetwork net) (workers : ℕ) (some : 1 ≤ workers) (w : World) (c : Conserved net w) (quiet : IsQuiet w) (jobs : List Job) (histories : List (List Work)) (ps : List Putting)
    (h : IsInOrder net workers w jobs histories ps) where
  abbrev start : World
  start = turns_over net w histories

  abbrev all : List Done
  all = done_from net w (flat histories)

  abbrev after : World
  after = run net start (claims_of ps)

  abbrev frames : List Work
  frames = puts_in (one_by_one net start ps)

  abbrev todo : List Emission
  todo = emissions ps

  once : AllByRecursion (λ (d : Done). AreOnce (wanted_put d.outcome)) all
  once = turns_once net network (flat histories) w c (are_turns net network workers w c quiet jobs histories ps h) h.turns

  one_place : (place : ℕ) → count_by (is_for place) all ≤ 1
  one_place place = let same = done_places net place (flat histories) w in let few = places_once net workers some jobs place histories (are_asked net workers jobs histories h.merged) in omega (arith, same, few)

  wanted_once : (i : ℕ) (d : Done) → slice_get all i ≡ Some d → (k : ℕ) (e : Emission) → slice_get (wanted_put d.outcome) k ≡ Some e →
      count_by (is_wanted_as d.work.place e) (wanted_by all) ≡ 1
  wanted_once i d at k e there =
      let place : ℕ = d.work.place in
      let few = few_wanted place e all once in
      let one = one_place place in
      let is = is_wanted_there place e all i d at in
      let counted = in_one place e d in
      let found = found_there (λ x. (place == place) && is_same e x) (wanted_put d.outcome) k e there (and_both (place == place) (is_same e e) (eq_same place) (same_self e)) in
      omega (arith, few, one, is, counted, found)

  -- On each lane, the frames that are put are those that were ordered.
  on_lane : (place : ℕ) (e : Emission) (xs : List (ℕ × Emission)) →
      count_by (is_wanted_as place e) (filter (λ (x : ℕ × Emission). lane_eq (lane_of x.1) (lane_of e)) xs) ≡ count_by (is_wanted_as place e) xs
  on_lane place e xs =
      count_kept (λ (x : ℕ × Emission). lane_eq (lane_of x.1) (lane_of e)) (is_wanted_as place e) (λ x k. same_lane e x.1 (and_right (x.0 == place) (is_same e x.1) k)) xs

  same_wanted : (place : ℕ) (e : Emission) → count_by (is_one net start.frames after place e) ps ≡ count_by (is_wanted_as place e) (wanted_by all)
  same_wanted place e =
      sym (count-map (is_wanted_as place e) is_wanted ps) ∙ sym (on_lane place e (map is_wanted ps)) ∙ ap (count_by (is_wanted_as place e)) (h.wanted (lane_of e)) ∙ on_lane place e (wanted_by all)

  more_frames : (l : Lane) → IsMore (start.frames l) (after.frames l)
  more_frames l =
      subst (λ (xs : List Action). IsMore (start.frames l) ((run net start xs).frames l)) (sym (claims_are ps)) (claims_claimed net (orders_in todo) start l).frames

  framed : (i : ℕ) (r : Repeat) → slice_get todo i ≡ Some (Again r) → Framed (start.frames r.lane) r.offset
  framed i r at =
      again_framed net start (sender net.site r.lane) r
      (all_at (λ (e : Emission). IsEmission net start (sender net.site (lane_of e)) e) todo i (Again r) (remains net network workers w c quiet jobs histories ps h).each at)

  all_below : (l : Lane) → AreBelow (length (start.frames l)) (map (repeated (start.frames l)) (filter (λ (r : Repeat). lane_eq r.lane l) (repeats_in todo)))
  all_below l =
      subst (AreBelow (length (start.frames l))) ((remains net network workers w c quiet jobs histories ps h).outgoing l)
      (all_from (λ (o : Outgoing). o.frame < length (start.frames l)) (start.outgoing l) (λ n o at.
      let r = ((conserved net network workers w c quiet jobs histories ps h).wired l).put n o at in slice_get_within (start.frames l) o.frame r.0 r.1))

  put_counted : (place : ℕ) (e : Emission) → count_by (is_put_of after place e) frames ≡ count_by (is_one net start.frames after place e) ps
  put_counted place e =
      puts_counted net start.frames after place e ps start
      (all_known net start.frames after todo (outgoing_after net network workers w c quiet jobs histories ps h) more_frames framed)
      (λ l. record { more = no_more (start.frames l); before = _; is = outgoing_after net network workers w c quiet jobs histories ps h l; below = all_below l })

  put_once : (i : ℕ) (d : Done) → slice_get all i ≡ Some d → (k : ℕ) (e : Emission) → slice_get (wanted_put d.outcome) k ≡ Some e →
      (count_by (is_put_of after d.work.place e) frames == 1) ≡ true
  put_once i d at k e there =
      let is : count_by (is_put_of after d.work.place e) frames ≡ 1 = put_counted d.work.place e ∙ same_wanted d.work.place e ∙ wanted_once i d at k e there in
      ap (λ (n : ℕ). n == 1) is

  put_after : are_put after all frames ≡ true
  put_after =
      all_found _ all (λ i d at. all_found (λ e. count_by (is_put_of after d.work.place e) frames == 1) (wanted_put d.outcome) (λ k e there. put_once i d at k e there))

  -- Whether all frames of a turn were put depends only on its place and outcome.

  abbrev is_put_for : World → ℕ × Outcome → Bool
  is_put_for x t = list_all (λ e. count_by (is_put_of x t.0 e) frames == 1) (wanted_put t.1)

  by_turns : (x : World) (done : List Done) → list_all (is_put_for x) (map turn_done done) ≡ are_put x done frames
  by_turns x done = list_all-map (is_put_for x) turn_done done

  abbrev done : Works
  done = works_of net w histories ps

  pub put_for : are_put (claimed net w done) (flat (turns_done net w done)) done.puts ≡ true
  put_for =
      sym (by_turns (claimed net w done) (flat (turns_done net w done))) ∙ ap (list_all (is_put_for (claimed net w done))) (alone net network workers w c quiet jobs histories ps h).same
      ∙ by_turns (claimed net w done) all ∙ ap (λ (x : World). are_put x all frames) (after_claims net network workers w c quiet jobs histories ps h) ∙ put_after
