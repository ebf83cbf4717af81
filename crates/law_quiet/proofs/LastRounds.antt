-- After a clean rest one silent round is enough: all facts whose routes are open are delivered.
use Rattle.std.proofs.Common.{◌≡◌, ℕ, true, false, List, ◌++◌, refl, sym, ◌∙◌, ap, subst, arith, Some}
use Rattle.std.specs.Prelude.{◌==◌, reverse}
use Rattle.std.specs.List.{list_any}
use Rattle.std.proofs.lemmas.Bool.{ltb-true}
use Rattle.qkd_base.specs.Name.{Name, has}
use Rattle.qkd_base.specs.Lane.{reverse_lane}
use Rattle.qkd_base.specs.Route.{next_after}
use Rattle.qkd_base.specs.declared.lane.Lane.{Lane}
use Rattle.net_model.specs.declared.fact.Fact.{Fact}
use Rattle.net_model.specs.declared.fact.Fact.TheVariants.{Stored}
use Rattle.net_model.specs.Table.{route_of, fact_at, is_secret}
use Rattle.net_model.specs.Premises.{IsNetwork}
use Rattle.net_model.specs.Events.{is_lane}
use Rattle.net_model.specs.Site.{sender, receiver, count_up}
use Rattle.net_model.specs.World.{Network, World, first}
use Rattle.net_model.specs.Invariant.{Conserved}
use Rattle.net_model.specs.Action.{Action}
use Rattle.net_model.specs.Step.{run, IsRun}
use Rattle.law_base.proofs.Lists.{reverse_twice}
use Rattle.law_invariant.proofs.Outgoing.{sender_back}
use Rattle.law_invariant.proofs.Steps.{first_keeps, run_keeps}
use Rattle.law_locality.specs.Quiet.{IsQuiet}
use Rattle.law_locality.proofs.Runs.{run-append, runs-append}
use Rattle.law_safety.proofs.Before.{route_differs}
use Rattle.law_quiet.specs.Delivered.{IsDelivered, IsBack}
use Rattle.law_quiet.specs.Flying.{AreUnanswered}
use Rattle.law_quiet.specs.Named.{AreNaming}
use Rattle.law_quiet.specs.Noted.{AreNoted, IsNoted}
use Rattle.law_quiet.specs.Passes.{IsClearAlong, IsStillAlong, IsRested, world_since}
use Rattle.law_quiet.specs.Silent.{AreSilent, NoneAwaits, IsJoined, IsOpen}
use Rattle.law_quiet.specs.Still.{flies_on, IsStill}
use Rattle.law_quiet.proofs.AwaitedRuns.{run_awaited, quiet_awaits}
use Rattle.law_quiet.proofs.Delivering.{arrived}
use Rattle.law_quiet.proofs.IdleLanes.{IsIdleOn, idles}
use Rattle.law_quiet.proofs.LastFlights.{none_flies}
use Rattle.law_quiet.proofs.LeavingLanes.{counted}
use Rattle.law_quiet.proofs.Naming.{run_names}
use Rattle.law_quiet.proofs.NotedSteps.{run_noted}
use Rattle.law_quiet.proofs.PassingRuns.{IsAllPassed, run_passes}
use Rattle.law_quiet.proofs.Quieting.{numbered, end_below, receiver_back, joined_back}
use Rattle.law_quiet.proofs.Returning.{back}
use Rattle.law_quiet.proofs.Rounds.{IsCalm, AreNodes, calm_round}
use Rattle.law_quiet.proofs.Routes.{next_reverse}
use Rattle.law_quiet.proofs.SingleLanes.{one_lane}
use Rattle.law_quiet.proofs.StillRounds.{idle_still, still_round}
use Rattle.law_quiet.proofs.Unanswered.{run_unanswered}

-- What holds of each lane of the site whose link and ends are up holds of the lanes of an open route, both ways.
pub along : (net : Network) → IsNetwork net → (w : World) (f : Fact) → IsOpen net w f → (P : Lane → Type 0) →
    ((l : Lane) → is_lane net.site l ≡ true → w.link_up l.link ≡ true → w.up (sender net.site l) ≡ true → w.up (receiver net.site l) ≡ true → P l) →
    (u v : ℕ) → next_after (route_of f) u ≡ Some v → (l : Lane) → is_lane net.site l ≡ true → sender net.site l ≡ u → receiver net.site l ≡ v → P l × P (reverse_lane l)
along net network w f way P holds u v next l site from to =
    let j = way.links u v next in
    let same : j.lane ≡ l = one_lane net.site network.site j.lane l j.site site (j.from ∙ sym from) (j.to ∙ sym to) in
    let up : w.link_up l.link ≡ true = ap (λ (m : Lane). w.link_up m.link) (sym same) ∙ j.up in
    let alive : w.up (sender net.site l) ≡ true = ap w.up from ∙ (way.nodes u v next).0 in
    let there : w.up (receiver net.site l) ≡ true = ap w.up to ∙ (way.nodes u v next).1 in
    (holds l site up alive there, holds (reverse_lane l) site up (ap w.up (sender_back net.site l) ∙ there) (ap w.up (receiver_back net l) ∙ alive))

-- What is known of a world w after a run, and of lanes on which nothing was in flight in a world before it.
pub record IsSince (net : Network) (begin w : World) : Type 0 where
  pub kept : Conserved net w
  pub unanswered : AreUnanswered w
  pub naming : AreNaming w
  pub noted : IsNoted w
  pub quiet : IsQuiet w
  pub awaits : NoneAwaits w
  pub passes : (l : Lane) → list_any (flies_on l) (begin.volatile (sender net.site l)).window ≡ false → w.up (sender net.site l) ≡ true → w.up (receiver net.site l) ≡ true → IsAllPassed net w l

module _ (net : Network) (network : IsNetwork net) (begin w : World) (s : IsSince net begin w) (after : World) (silent : AreSilent 1 net w after) where
  abbrev all : List ℕ
  all = count_up net.site.nodes

  nodes : AreNodes net network w all
  nodes = numbered net.site.nodes net.site.nodes (omega arith)

  calm0 : IsCalm net w w
  calm0 = record { conserved = s.kept; quiet = s.quiet; table = record { facts = refl; known = refl; acked = refl }; up = refl; links = refl; awaits = s.awaits }

  pub calm1 : IsCalm net w after
  calm1 = subst (IsCalm net w) silent.1 (calm_round net network w all nodes w calm0 silent.0)

  -- A lane is idle if its sender and its link are up.
  idle : (l : Lane) → is_lane net.site l ≡ true → w.link_up l.link ≡ true → w.up (sender net.site l) ≡ true → IsIdleOn net w l
  idle l site joined alive =
      let link = network.site.ends l.link (ltb-true l.link net.site.links site) in
      let listed : list_any (λ x. x == sender net.site l) all ≡ true = counted net.site.nodes (sender net.site l) (end_below l.way (net.site.low l.link) (net.site.high l.link) net.site.nodes link.order link.within) in
      idles net network w l site joined alive all nodes listed w calm0 silent.0 refl

  module _ (l : Lane) (site : is_lane net.site l ≡ true) (joined : w.link_up l.link ≡ true) (alive : w.up (sender net.site l) ≡ true) (there : w.up (receiver net.site l) ≡ true)
      (clear : list_any (flies_on l) (begin.volatile (sender net.site l)).window ≡ false) where
    nothing_flies : list_any (flies_on l) (w.volatile (sender net.site l)).window ≡ false
    nothing_flies =
        let p = s.passes l clear alive there in
        none_flies net w s.kept s.quiet s.unanswered s.naming l p.passed p.passing (idle l site joined alive) (idle (reverse_lane l) site joined (ap w.up (sender_back net.site l) ∙ there))
        (λ k less. p.all l k site less) (λ k less. p.all (reverse_lane l) k site less)

    -- So the lane is still again, and who knows a fact that goes this way has the acknowledgement of the next node.

    still_again : IsStill net after l
    still_again = subst (λ (x : World). IsStill net x l) silent.1 (still_round net network w l all nodes calm0 silent.0 (idle_still net w l s.kept (idle l site joined alive) nothing_flies))

    paid : (n : Name) (f : Fact) → fact_at w.durable.facts n ≡ Some f → next_after (route_of f) (sender net.site l) ≡ Some (receiver net.site l) → has (w.durable.known (sender net.site l)) n ≡ true →
        has (w.durable.acked (sender net.site l)) n ≡ true
    paid = (idle l site joined alive).paid nothing_flies

  answered : (f : Fact) → IsClearAlong net begin f → (n : Name) → fact_at w.durable.facts n ≡ Some f → (u v : ℕ) → next_after (route_of f) u ≡ Some v → IsJoined net w u v → w.up u ≡ true → w.up v ≡ true →
      has (w.durable.known u) n ≡ true → has (w.durable.acked u) n ≡ true
  answered f still n there u v next j alive alive' knows =
      let l : Lane = j.lane in
      let here : next_after (route_of f) (sender net.site l) ≡ Some (receiver net.site l) = ap (next_after (route_of f)) j.from ∙ next ∙ ap Some (sym j.to) in
      let is = paid l j.site j.up (ap w.up j.from ∙ alive) (ap w.up j.to ∙ alive') (still u v next l j.site j.from j.to).0 n f there here (subst (λ (x : ℕ). has (w.durable.known x) n ≡ true) (sym j.from) knows) in
      subst (λ (x : ℕ). has (w.durable.acked x) n ≡ true) j.from is

  pub there_after : (n : Name) (f : Fact) → fact_at w.durable.facts n ≡ Some f → fact_at after.durable.facts n ≡ Some f
  there_after n f there = ap (λ (facts : List Fact). fact_at facts n) calm1.table.facts ∙ there

  pub arrives : (n : Name) (f : Fact) → IsClearAlong net begin f → fact_at w.durable.facts n ≡ Some f → IsOpen net w f → IsDelivered after n f
  arrives n f still there way =
      arrived net after calm1.conserved n f (there_after n f there)
      (λ u v next knows. ap (λ (acked : ℕ → List Name). has (acked u) n) calm1.table.acked ∙
      answered f still n there u v next (way.links u v next) (way.nodes u v next).0 (way.nodes u v next).1 (sym (ap (λ (known : ℕ → List Name). has (known u) n) calm1.table.known) ∙ knows))

  -- The note goes back over the same links.

  turned : (n note : Name) (f : Fact) → fact_at w.durable.facts n ≡ Some f → IsOpen net w f → IsOpen net w (Stored note n (reverse (route_of f)))
  turned n note f there way =
      let differ = route_differs f (s.kept.now.table n f there).ranged in
      record {
        nodes = λ u v next. let x = way.nodes v u (next_reverse (route_of f) differ u v next) in (x.1, x.0);
        links = λ u v next. joined_back net w v u (way.links v u (next_reverse (route_of f) differ u v next));
      }

  still_back : (n note : Name) (f : Fact) → fact_at w.durable.facts n ≡ Some f → IsClearAlong net begin f → IsClearAlong net begin (Stored note n (reverse (route_of f)))
  still_back n note f there still u v next l site from to =
      let differ = route_differs f (s.kept.now.table n f there).ranged in
      let x = still v u (next_reverse (route_of f) differ u v next) (reverse_lane l) site (sender_back net.site l ∙ to) (receiver_back net l ∙ from) in
      (subst (λ (m : Lane). list_any (flies_on m) (begin.volatile (sender net.site m)).window ≡ false) (reverse_twice l) x.1, x.0)

  -- The lanes of the route are still again.
  pub rests : (f : Fact) → IsClearAlong net begin f → IsOpen net w f → IsStillAlong net after f
  rests f still way u v next l site from to =
      let again = along net network w f way (λ l. list_any (flies_on l) (begin.volatile (sender net.site l)).window ≡ false → IsStill net after l) (λ l site up alive there was. still_again l site up alive there was) u v next l site from to in
      let was = still u v next l site from to in
      (again.0 was.0, again.1 was.1)

  pub returns : (n : Name) (f : Fact) → IsClearAlong net begin f → fact_at w.durable.facts n ≡ Some f → is_secret f ≡ true → IsOpen net w f → IsBack net after n f
  returns n f still there secret way =
      let noted' : AreNoted after.durable.facts after.durable.known =
      subst (λ (facts : List Fact). AreNoted facts after.durable.known) (sym calm1.table.facts)
      (subst (λ (known : ℕ → List Name). AreNoted w.durable.facts known) (sym calm1.table.known) s.noted.table) in
      back net after calm1.conserved noted' n f (there_after n f there) secret (arrives n f still there way)
      (λ m at. arrives m (Stored m n (reverse (route_of f))) (still_back n m f there still) (sym (ap (λ (facts : List Fact). fact_at facts m) calm1.table.facts) ∙ at) (turned n m f there way))

-- The run after a rest, in which all frames were passed. The two runs are one.
module _ (net : Network) (earlier later : List Action) (f : Fact) (network : IsNetwork net) (rested : IsRested net earlier later f) where
  whole : IsRun net first (earlier ++ later)
  whole = runs-append net earlier later first rested.before rested.since

  from_whole : (P : World → Type 0) → P (run net first (earlier ++ later)) → P (world_since net earlier later)
  from_whole P h = subst P (run-append net earlier later first) h

  pub since : IsQuiet (world_since net earlier later) → IsSince net (run net first earlier) (world_since net earlier later)
  since quiet = record {
    kept = from_whole (Conserved net) (run_keeps net first (earlier ++ later) network (first_keeps net) whole);
    unanswered = from_whole AreUnanswered (run_unanswered net (earlier ++ later) network whole);
    naming = from_whole AreNaming (run_names net (earlier ++ later) network whole);
    noted = from_whole IsNoted (run_noted net (earlier ++ later) network whole);
    quiet = quiet;
    awaits = from_whole (λ (x : World). IsQuiet x → NoneAwaits x) (quiet_awaits net (run net first (earlier ++ later)) (run_awaited net (earlier ++ later) network whole)) quiet;
    passes = λ l clear alive there.
        run_passes net network l later (run net first earlier) (run_keeps net first earlier network (first_keeps net) rested.before) rested.quiet (run_names net earlier network rested.before) clear rested.since rested.passes alive there;
  }
