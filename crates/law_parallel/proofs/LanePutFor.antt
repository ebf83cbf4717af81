-- Each frame that the plan of a line orders is put once for that line.
use Rattle.std.proofs.Common.{◌≡◌, ℕ, zero, suc, ◌<◌, ◌≤◌, Bool, true, false, ◌&&◌, List, [], ◌∷◌, ◌++◌, length, map, refl, sym, ◌∙◌, ap, subst, arith, Some}
use Rattle.std.specs.Prelude.{◌==◌, filter, count_by, slice_get, if◌then◌else◌}
use Rattle.std.specs.List.{list_all, list_any, flat_map, AllByRecursion}
use Rattle.std.proofs.lemmas.List.Folds.{list_all-map}
use Rattle.std.proofs.lemmas.Option.{slice_get_within}
use Rattle.qkd_base.specs.Lane.{lane_eq}
use Rattle.qkd_base.specs.declared.lane.Way.TheVariants.{Up}
use Rattle.qkd_base.specs.declared.lane.Lane.{Lane}
use Rattle.net_model.specs.declared.repeat.Repeat.{Repeat}
use Rattle.net_model.specs.Item.{item_of, item_eq}
use Rattle.net_model.specs.Site.{sender}
use Rattle.net_model.specs.World.{Network, World, Allocation, Outgoing}
use Rattle.net_model.specs.Premises.{IsNetwork}
use Rattle.net_model.specs.Invariant.{Conserved}
use Rattle.net_model.specs.Handle.{frame_at}
use Rattle.net_model.specs.Tick.{Emission, Again, New}
use Rattle.net_model.specs.Frames.{outgoing_of}
use Rattle.net_model.specs.Action.{Environment, Outcome}
use Rattle.run_model.specs.Lines.{all_lanes}
use Rattle.run_model.specs.Works.{Work, Works, Done, flat, done_from, turns_done, claimed, wanted_put, is_put_of, are_put}
use Rattle.run_ops.specs.Quiet.{IsQuiet}
use Rattle.run_ops.specs.declared.job.Job.{Job}
use Rattle.run_ops.specs.Together.{turn_done}
use Rattle.law_base.proofs.Base.{and_right, and_both, eq_same, lane_eq_from, or_left, or_right}
use Rattle.law_locality.proofs.Counting.{one_if, count_more}
use Rattle.law_base.proofs.Lists.{all_at, all_from, get_prefix, item_same}
use Rattle.law_locality.specs.Sending.{repeats_in, repeated, IsAgain}
use Rattle.law_locality.proofs.Lists.{on, map_kept, all_mapped, all_weaker}
use Rattle.law_parallel.specs.Putting.{lane_of}
use Rattle.law_parallel.proofs.Lists.{repeats_on_lane, all_by_lane}
use Rattle.law_parallel.proofs.Asked.{are_asked}
use Rattle.law_parallel.proofs.Counting.{count-append, count-map, count_kept, all_found as all_tested}
use Rattle.law_parallel.proofs.Found.{AreBelow}
use Rattle.law_parallel.proofs.Once.{AreOnce, turns_once}
use Rattle.law_parallel.proofs.Places.{places_once, done_places}
use Rattle.law_parallel.proofs.WorkRepeats.{Framed, again_framed, AreEmissions}
use Rattle.law_parallel.proofs.Same.{is_same, same_lane}
use Rattle.law_parallel.specs.Logs.{Deed, claims_in, done_for_plans, wanted_on}
use Rattle.law_parallel.specs.Puts.{LaneFrame, allocation_of, claimed_from, new_frames, frames_put}
use Rattle.law_parallel.specs.LaneWorks.{AreLaneWorks, works_of}
use Rattle.law_parallel.proofs.Lanes.{are_on, on_lane}
use Rattle.law_parallel.proofs.Counted.{all_alike, lane_wanted, lane_claimed, puts_for_plans}
use Rattle.law_parallel.proofs.AllClaims.{all_claims}
use Rattle.law_parallel.proofs.AllPuts.{LanePut, put_lane, put_work, works_in, puts_here, all_puts, puts_are, puts_on_lane}
use Rattle.law_parallel.proofs.ClaimedWorld.{are_claimed}
use Rattle.law_parallel.proofs.LaneFound.{is_old, old_first, is_at, is_known, IsFound, all_new, all_found}
use Rattle.law_parallel.proofs.WantedOnce.{is_wanted_as, is_for, wanted_once}
use Rattle.law_parallel.proofs.LaneBlock.{what, start, wanted, are_turns, alone, conserved, remains, wanted_undeclared, wanted_here, put_here, claims_mine, after, after_claims, outgoing_after}

-- Lemmas on repeats.

any_self : (older : List Allocation) (rs : List Repeat) (n : ℕ) (r : Repeat) → slice_get rs n ≡ Some r → list_any (λ (o : Outgoing). o.frame == frame_at older r.offset) (map (repeated older) rs) ≡ true
any_self older [] n r at = cc
any_self older (s ∷ rs) zero r at =
    let is : s ≡ r = cc in
    or_left (frame_at older s.offset == frame_at older r.offset) (list_any (λ (o : Outgoing). o.frame == frame_at older r.offset) (map (repeated older) rs))
    (ap (λ (q : Repeat). frame_at older q.offset == frame_at older r.offset) is ∙ eq_same (frame_at older r.offset))
any_self older (s ∷ rs) (suc n) r at =
    or_right (frame_at older s.offset == frame_at older r.offset) (list_any (λ (o : Outgoing). o.frame == frame_at older r.offset) (map (repeated older) rs)) (any_self older rs n r at)

pub all_old : (older : List Allocation) (rs : List Repeat) → AllByRecursion (λ (o : Outgoing). o.fresh ≡ false) (map (repeated older) rs)
all_old older [] = tt
all_old older (r ∷ rs) = (refl, all_old older rs)

pub mapped_get : (older : List Allocation) (rs : List Repeat) (n : ℕ) (r : Repeat) → slice_get rs n ≡ Some r → slice_get (map (repeated older) rs) n ≡ Some (repeated older r)
mapped_get older [] n r at = cc
mapped_get older (s ∷ rs) zero r at = let is : s ≡ r = cc in ap (λ (q : Repeat). Some (repeated older q)) is
mapped_get older (s ∷ rs) (suc n) r at = mapped_get older rs n r at

all_again : (net : Network) (w : World) (es : List Emission) → AreEmissions net w es → AllByRecursion (λ (r : Repeat). IsAgain net w (sender net.site r.lane) r) (repeats_in es)
all_again net w [] h = tt
all_again net w (Again r ∷ es) h = (h.0, all_again net w es h.1)
all_again net w (New o ∷ es) h = all_again net w es h.1

module _ (x : World) (l : Lane) (older : List Allocation) where
  known_from : (xs : List (ℕ × Emission)) → AllByRecursion (λ (r : Repeat). (place : ℕ) → is_known x l older (place, Again r) ≡ true) (repeats_in (what xs)) → list_all (is_known x l older) xs ≡ true
  known_from [] h = refl
  known_from ((place, New o) ∷ xs) h = known_from xs h
  known_from ((place, Again r) ∷ xs) h = and_both (is_known x l older (place, Again r)) (list_all (is_known x l older) xs) (h.0 place) (known_from xs h.1)

count_each : {A : Type 0} (p q : A → Bool) (xs : List A) → AllByRecursion (λ (x : A). p x ≡ q x) xs → count_by p xs ≡ count_by q xs
count_each p q [] h = refl
count_each p q (x ∷ xs) h =
    let rest = count_each p q xs h.1 in
    let one = count_more p x xs in
    let two = count_more q x xs in
    let same : one_if (p x) ≡ one_if (q x) = ap one_if h.0 in
    omega (arith, rest, one, two, same)

-- Counting lane by lane.
count_lanes : {A B : Type 0} (p : A → Bool) (q : B → Bool) (f : Lane → List A) (g : Lane → List B) → ((l : Lane) → count_by p (f l) ≡ count_by q (g l)) → (ls : List Lane) →
    count_by p (flat_map f ls) ≡ count_by q (flat_map g ls)
count_lanes p q f g h [] = refl
count_lanes p q f g h (l ∷ ls) =
    let rest = count_lanes p q f g h ls in
    let one = count-append p (f l) (flat_map f ls) in
    let two = count-append q (g l) (flat_map g ls) in
    let here = h l in
    omega (arith, rest, one, two, here)

module _ (net : Network) (network : IsNetwork net) (workers : ℕ) (some : 1 ≤ workers) (w : World) (c : Conserved net w) (quiet : IsQuiet w) (jobs : List Job) (histories : List (List Work))
    (logs : Lane → List Deed) (h : AreLaneWorks net workers w jobs histories logs) where
  abbrev begun : World
  begun = start net network workers w c quiet jobs histories logs h

  abbrev then' : World
  then' = after net network workers w c quiet jobs histories logs h

  abbrev pub all : List (ℕ × Emission)
  all = wanted net network workers w c quiet jobs histories logs h

  abbrev turns_made : List Done
  turns_made = done_from net w (flat histories)

  -- What is found after the claims.

  pub facts_after : then'.durable.facts ≡ begun.durable.facts
  facts_after = (are_claimed net (all_claims net.site logs) begun (record { link = 0; way = Up })).facts

  pub frames_after : (l : Lane) → then'.frames l ≡ begun.frames l ++ map allocation_of (new_frames begun l (logs l))
  frames_after l =
      (are_claimed net (all_claims net.site logs) begun l).frames
      ∙ ap (λ xs. begun.frames l ++ map allocation_of (claimed_from begun.durable.facts (length (begun.frames l)) (length (begun.durable.own l)) xs))
      (on_lane lane_claimed (λ k. claims_in (logs k)) (claims_mine net network workers w c quiet jobs histories logs h) net.site (λ k e. ap claims_in (h.undeclared k e)) l)

  module _ (l : Lane) where
    abbrev pub older : List Allocation
    older = begun.frames l

    abbrev pub again : List Repeat
    again = filter (λ (r : Repeat). lane_eq r.lane l) (repeats_in (what all))

    abbrev log : List Deed
    log = logs l

    pub outgoing_before : begun.outgoing l ≡ map (repeated older) again
    outgoing_before = (remains net network workers w c quiet jobs histories logs h).outgoing l

    again_known : (n : ℕ) (r : Repeat) → slice_get again n ≡ Some r → (place : ℕ) → is_known then' l older (place, Again r) ≡ true
    again_known n r at place =
        let is_again = all_at (λ (q : Repeat). (lane_eq q.lane l ≡ true) × IsAgain net begun (sender net.site q.lane) q) again n r
        (kept_both (repeats_in (what all)) (all_again net begun (what all) (remains net network workers w c quiet jobs histories logs h).each)) at in
        let lane : r.lane ≡ l = lane_eq_from r.lane l is_again.0 in
        let framed : Framed older r.offset = subst (λ (k : Lane). Framed (begun.frames k) r.offset) lane (again_framed net begun (sender net.site r.lane) r is_again.1) in
        let wired = ((conserved net network workers w c quiet jobs histories logs h).wired l).put n (repeated older r) (ap (λ (os : List Outgoing). slice_get os n) outgoing_before ∙ mapped_get older again n r at) in
        let j : ℕ = frame_at older r.offset in
        let offset : wired.0.offset ≡ r.offset = ap (λ (a : Allocation). a.offset) (same_some wired.0 framed.frame (sym wired.1 ∙ framed.at)) ∙ framed.offset' in
        let there : slice_get (then'.frames l) j ≡ Some wired.0 = ap (λ (fs : List Allocation). slice_get fs j) (frames_after l) ∙ get_prefix older _ j wired.0 wired.1 in
        let stands : is_at r (slice_get (then'.frames l) j) ≡ true =
        ap (is_at r) there ∙ and_both (wired.0.offset == r.offset) (item_eq wired.0.item (item_of r.ack_of r.name)) (ap (λ (k : ℕ). k == r.offset) offset ∙ eq_same r.offset)
        (ap (λ i. item_eq i (item_of r.ack_of r.name)) wired.2 ∙ item_same (item_of r.ack_of r.name)) in
        let found : is_old (outgoing_of j (then'.outgoing l)) ≡ true =
        ap (λ (os : List Outgoing). is_old (outgoing_of j os)) (outgoing_after net network workers w c quiet jobs histories logs h l)
        ∙ old_first j (map (repeated older) again) _ (all_old older again) (any_self older again n r at) in
        and_both (lane_eq r.lane l) (is_old (outgoing_of j (then'.outgoing l)) && is_at r (slice_get (then'.frames l) j)) is_again.0
        (and_both (is_old (outgoing_of j (then'.outgoing l))) (is_at r (slice_get (then'.frames l) j)) found stands)
      where
        same_some : (a b : Allocation) → Some a ≡ Some b → a ≡ b
        same_some a b e = cc

        kept_both : (rs : List Repeat) → AllByRecursion (λ (q : Repeat). IsAgain net begun (sender net.site q.lane) q) rs →
            AllByRecursion (λ (q : Repeat). (lane_eq q.lane l ≡ true) × IsAgain net begun (sender net.site q.lane) q) (filter (λ (q : Repeat). lane_eq q.lane l) rs)
        kept_both [] a = tt
        kept_both (q ∷ rs) a =
            elim (lane_eq q.lane l) as (λ t. lane_eq q.lane l ≡ t → AllByRecursion (λ (p : Repeat). (lane_eq p.lane l ≡ true) × IsAgain net begun (sender net.site p.lane) p)
            (if t then q ∷ filter (λ (p : Repeat). lane_eq p.lane l) rs else filter (λ (p : Repeat). lane_eq p.lane l) rs)) [
              | true ↦ λ e. ((e, a.0), kept_both rs a.1)
              | false ↦ λ e. kept_both rs a.1
            ] refl

    pub repeats_here : repeats_in (what (wanted_on l all)) ≡ again
    repeats_here = ap repeats_in (sym (map_kept (λ (e : Emission). lane_eq (lane_of e) l) (λ (x : ℕ × Emission). x.1) all)) ∙ sym (repeats_on_lane l (what all))

    all_known : list_all (is_known then' l older) (done_for_plans log) ≡ true
    all_known =
        all_alike (is_known then' l older) (done_for_plans log) (wanted_on l all) (wanted_here net network workers w c quiet jobs histories logs h l)
        (known_from then' l older (wanted_on l all)
        (subst (AllByRecursion (λ (r : Repeat). (place : ℕ) → is_known then' l older (place, Again r) ≡ true)) (sym repeats_here)
        (all_from (λ (r : Repeat). (place : ℕ) → is_known then' l older (place, Again r) ≡ true) again again_known)))

    pub below : AreBelow (length older) (map (repeated older) again)
    below =
        subst (AreBelow (length older)) outgoing_before
        (all_from (λ (o : Outgoing). o.frame < length older) (begun.outgoing l) (λ n o at.
        let r = ((conserved net network workers w c quiet jobs histories logs h).wired l).put n o at in slice_get_within older o.frame r.0 r.1))

    pub puts_found : AllByRecursion (λ (p : LaneFrame × Environment). IsFound then' l older p.0) (frames_put begun l log)
    puts_found =
        all_found then' l older (new_frames begun l log)
        (all_new then' l older begun.durable.facts (length older) (length (begun.durable.own l)) (claims_in log) (map (repeated older) again) older below
        (outgoing_after net network workers w c quiet jobs histories logs h l) (frames_after l) refl) log all_known

  abbrev pub puts_made : List LanePut
  puts_made = all_puts net.site begun logs

  -- Each put is found on its lane.
  abbrev pub IsFoundThere : LanePut → Type 0
  IsFoundThere y = IsFound then' y.0 (begun.frames y.0) (y.1).0

  pub all_there : AllByRecursion IsFoundThere puts_made
  all_there =
      all_by_lane put_lane IsFoundThere puts_made
      (λ l. subst (AllByRecursion IsFoundThere) (sym (puts_on_lane net.site begun logs h.undeclared l)) (all_mapped IsFoundThere (λ (p : LaneFrame × Environment). (l, p)) (frames_put begun l (logs l)) (puts_found l)))

  -- So the puts for a line's frame are as many as the line's plan orders.

  module _ (place : ℕ) (e : Emission) where
    abbrev is_it : ℕ × Emission → Bool
    is_it = is_wanted_as place e

    abbrev is_its : LanePut → Bool
    is_its y = is_it (((y.1).0).place, ((y.1).0).emission)

    its_alone : AllByRecursion (λ (y : LanePut). is_put_of then' place e (put_work y) ≡ is_its y) puts_made
    its_alone = all_weaker IsFoundThere (λ (y : LanePut). is_put_of then' place e (put_work y) ≡ is_its y) (λ y f. ap (λ (b : Bool). (((y.1).0).place == place) && b) (f.counts e)) puts_made all_there

    lane_counted : (l : Lane) → count_by is_its (puts_here net.site begun logs l) ≡ count_by is_it (wanted_on l all)
    lane_counted l =
        count-map is_its (λ q. (l, q)) (frames_put begun l (logs l)) ∙ puts_for_plans begun l (logs l) (put_here net network workers w c quiet jobs histories logs h l) is_it
        ∙ wanted_here net network workers w c quiet jobs histories logs h l is_it

    kept_on : (xs : List (ℕ × Emission)) → count_by is_it (on lane_wanted (lane_of e) xs) ≡ count_by is_it xs
    kept_on xs = count_kept (λ (x : ℕ × Emission). lane_eq (lane_of x.1) (lane_of e)) is_it (λ x k. same_lane e x.1 (and_right (x.0 == place) (is_same e x.1) k)) xs

    all_counted : count_by is_it (flat_map (λ l. wanted_on l all) (all_lanes net.site)) ≡ count_by is_it all
    all_counted =
        sym (kept_on (flat_map (λ l. wanted_on l all) (all_lanes net.site)))
        ∙ ap (count_by is_it) (on_lane lane_wanted (λ l. wanted_on l all) (λ l. are_on lane_wanted l all) net.site (wanted_undeclared net network workers w c quiet jobs histories logs h) (lane_of e))
        ∙ kept_on all

    put_counted : count_by (is_put_of then' place e) (works_in puts_made) ≡ count_by is_it all
    put_counted =
        count-map (is_put_of then' place e) put_work puts_made ∙ count_each (λ y. is_put_of then' place e (put_work y)) is_its puts_made its_alone
        ∙ count_lanes is_its is_it (puts_here net.site begun logs) (λ l. wanted_on l all) lane_counted (all_lanes net.site) ∙ all_counted

  once : AllByRecursion (λ (d : Done). AreOnce (wanted_put d.outcome)) turns_made
  once = turns_once net network (flat histories) w c (are_turns net network workers w c quiet jobs histories logs h) h.turns

  one_place : (place : ℕ) → count_by (is_for place) turns_made ≤ 1
  one_place place =
      let same = done_places net place (flat histories) w in
      let few = places_once net workers some jobs place histories (are_asked net workers jobs histories h.merged) in
      omega (arith, same, few)

  put_once : (i : ℕ) (d : Done) → slice_get turns_made i ≡ Some d → (k : ℕ) (e : Emission) → slice_get (wanted_put d.outcome) k ≡ Some e →
      (count_by (is_put_of then' d.work.place e) (works_in puts_made) == 1) ≡ true
  put_once i d at k e there =
      let is : count_by (is_put_of then' d.work.place e) (works_in puts_made) ≡ 1 = put_counted d.work.place e ∙ wanted_once turns_made once one_place i d at k e there in
      ap (λ (n : ℕ). n == 1) is

  put_after : are_put then' turns_made (works_in puts_made) ≡ true
  put_after =
      all_tested _ turns_made (λ i d at. all_tested (λ e. count_by (is_put_of then' d.work.place e) (works_in puts_made) == 1) (wanted_put d.outcome) (λ k e there. put_once i d at k e there))

  -- Whether all frames of a turn were put depends only on its place and outcome.

  abbrev is_put_for : World → List Work → ℕ × Outcome → Bool
  is_put_for x puts t = list_all (λ e. count_by (is_put_of x t.0 e) puts == 1) (wanted_put t.1)

  by_turns : (x : World) (puts : List Work) (done : List Done) → list_all (is_put_for x puts) (map turn_done done) ≡ are_put x done puts
  by_turns x puts done = list_all-map (is_put_for x puts) turn_done done

  abbrev done : Works
  done = works_of net w histories logs

  pub put_for : are_put (claimed net w done) (flat (turns_done net w done)) done.puts ≡ true
  put_for =
      sym (by_turns (claimed net w done) done.puts (flat (turns_done net w done)))
      ∙ ap (list_all (is_put_for (claimed net w done) done.puts)) (alone net network workers w c quiet jobs histories logs h).same ∙ by_turns (claimed net w done) done.puts turns_made
      ∙ ap (λ (x : World). are_put x turns_made done.puts) (after_claims net network workers w c quiet jobs histories logs h)
      ∙ ap (are_put then' turns_made) (puts_are net.site begun logs) ∙ put_after
