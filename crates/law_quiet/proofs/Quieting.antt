-- After four silent rounds all facts whose routes are open are delivered, and their notes too.
use Rattle.std.proofs.Common.{◌≡◌, ℕ, zero, suc, ◌<◌, ◌≤◌, Bool, true, List, [], ◌∷◌, refl, sym, ◌∙◌, ap, subst, arith, Some}
use Rattle.std.specs.Prelude.{◌==◌, nat_lt, reverse}
use Rattle.std.specs.List.{list_any, AllByRecursion}
use Rattle.std.proofs.lemmas.Bool.{lt-ltb, ltb-true}
use Rattle.qkd_base.specs.Name.{Name, has}
use Rattle.qkd_base.specs.Lane.{reverse_lane}
use Rattle.qkd_base.specs.Route.{next_after}
use Rattle.qkd_base.specs.declared.lane.Way.{Way}
use Rattle.qkd_base.specs.declared.lane.Way.TheVariants.{Up, Down}
use Rattle.qkd_base.specs.declared.lane.Lane.{Lane}
use Rattle.net_model.specs.declared.fact.Fact.{Fact}
use Rattle.net_model.specs.declared.fact.Fact.TheVariants.{Stored}
use Rattle.net_model.specs.Table.{route_of, fact_at, is_secret}
use Rattle.net_model.specs.Premises.{IsNetwork}
use Rattle.net_model.specs.Events.{is_lane}
use Rattle.net_model.specs.Site.{of_way, sender, receiver, count_up}
use Rattle.net_model.specs.World.{Network, World, first}
use Rattle.net_model.specs.Invariant.{Conserved}
use Rattle.law_base.proofs.Lists.{all_both, reverse_twice}
use Rattle.law_invariant.proofs.Outgoing.{sender_back}
use Rattle.law_locality.specs.Quiet.{IsQuiet}
use Rattle.law_safety.proofs.Before.{route_differs}
use Rattle.law_quiet.specs.Delivered.{IsDelivered, IsBack}
use Rattle.law_quiet.specs.Noted.{AreNoted}
use Rattle.law_quiet.specs.Still.{in_flight_for, IsStill}
use Rattle.law_quiet.specs.Silent.{after_ticks, AreSilent, NoneAwaits, IsJoined, IsOpen}
use Rattle.law_quiet.proofs.Routes.{next_reverse}
use Rattle.law_quiet.proofs.Delivering.{arrived}
use Rattle.law_quiet.proofs.Returning.{back}
use Rattle.law_quiet.proofs.LeavingLanes.{counted}
use Rattle.law_quiet.proofs.Windows.{none_flies}
use Rattle.law_quiet.proofs.Rounds.{IsCalm, at_first, AreNodes, calm_round, IsPaid, ages, pays}
use Rattle.law_quiet.proofs.IdleLanes.{idles}
use Rattle.law_quiet.proofs.StillRounds.{idle_still, still_round}

-- In the first world nothing waits.
pub first_quiet : IsQuiet first × NoneAwaits first
unfolding first
first_quiet = (record { claimed = λ l. refl; put = λ l. refl; noted = λ v. refl }, λ v. refl)

-- Lemmas on nodes and routes.

pub numbered : (n m : ℕ) → n ≤ m → AllByRecursion (λ (x : ℕ). nat_lt x m ≡ true) (count_up n)
numbered zero m h = tt
numbered (suc n) m h = all_both (λ (x : ℕ). nat_lt x m ≡ true) (count_up n) (n ∷ []) (numbered n m (omega arith)) (lt-ltb n m (omega arith), tt)

pub end_below : (d : Way) (a b n : ℕ) → a < b → b < n → of_way d a b < n
end_below Up a b n h k = omega (arith, h, k)
end_below Down a b n h k = k

pub receiver_back : (net : Network) (l : Lane) → receiver net.site (reverse_lane l) ≡ sender net.site l
receiver_back net l = sym (sender_back net.site (reverse_lane l)) ∙ ap (sender net.site) (reverse_twice l)

pub joined_back : (net : Network) (w : World) (u v : ℕ) → IsJoined net w u v → IsJoined net w v u
joined_back net w u v j = record {
  lane = reverse_lane j.lane;
  site = j.site;
  from = sender_back net.site j.lane ∙ j.to;
  to = receiver_back net j.lane ∙ j.from;
  up = j.up;
}

module _ (net : Network) (network : IsNetwork net) (w after : World) (c : Conserved net w) (quiet : IsQuiet w) (awaits : NoneAwaits w) (silent : AreSilent 4 net w after) where
  abbrev all : List ℕ
  all = count_up net.site.nodes

  nodes : AreNodes net network w all
  nodes = numbered net.site.nodes net.site.nodes (omega arith)

  -- The worlds between the rounds.

  abbrev one : World
  one = after_ticks net w all

  abbrev two : World
  two = after_ticks net one all

  abbrev three : World
  three = after_ticks net two all

  calm0 : IsCalm net w w
  calm0 = record { conserved = c; quiet = quiet; table = record { facts = refl; known = refl; acked = refl }; up = refl; links = refl; awaits = awaits }

  calm1 : IsCalm net w one
  calm1 = calm_round net network w all nodes w calm0 silent.0

  calm2 : IsCalm net w two
  calm2 = calm_round net network w all nodes one calm1 silent.1.0

  calm3 : IsCalm net w three
  calm3 = calm_round net network w all nodes two calm2 silent.1.1.0

  pub calm4 : IsCalm net w after
  calm4 = subst (IsCalm net w) silent.1.1.1.1 (calm_round net network w all nodes three calm3 silent.1.1.1.0)

  -- A lane over a link that is up, whose sender is up.

  module _ (l : Lane) (site : is_lane net.site l ≡ true) (joined : w.link_up l.link ≡ true) (alive : w.up (sender net.site l) ≡ true) where
    listed : list_any (λ x. x == sender net.site l) all ≡ true
    listed =
        let link = network.site.ends l.link (ltb-true l.link net.site.links site) in
        counted net.site.nodes (sender net.site l) (end_below l.way (net.site.low l.link) (net.site.high l.link) net.site.nodes link.order link.within)

    -- Before the fourth round, what is in flight there has seen three plans.
    old : in_flight_for 3 l (three.volatile (sender net.site l)) ≡ true
    old =
        let old1 = ages net network w l site joined alive 0 all nodes listed w calm0 silent.0 (at_first l (w.volatile (sender net.site l)).window) in
        let old2 = ages net network w l site joined alive 1 all nodes listed one calm1 silent.1.0 old1 in
        ages net network w l site joined alive 2 all nodes listed two calm2 silent.1.1.0 old2

    -- Who knows a fact that goes this way has the acknowledgement of the next node.
    paid : IsPaid net network w l site joined alive w.durable
    paid = pays net network w l site joined alive all nodes listed three calm3 silent.1.1.1.0 old

    -- After the fourth round the lane is still.
    pub stills : IsStill net after l
    stills =
        let calm : IsCalm net three three = record {
          conserved = calm3.conserved;
          quiet = calm3.quiet;
          table = record { facts = refl; known = refl; acked = refl };
          up = refl;
          links = refl;
          awaits = calm3.awaits;
        } in
        let idle = idles net network three l site (ap (λ (f : ℕ → Bool). f l.link) calm3.links ∙ joined) (ap (λ (f : ℕ → Bool). f (sender net.site l)) calm3.up ∙ alive) all nodes listed three calm silent.1.1.1.0 refl in
        let flies = none_flies l (three.volatile (sender net.site l)).window idle.due old in
        subst (λ (x : World). IsStill net x l) silent.1.1.1.1 (still_round net network three l all nodes calm silent.1.1.1.0 (idle_still net three l calm3.conserved idle flies))

  answered : (n : Name) (f : Fact) → fact_at w.durable.facts n ≡ Some f → (u v : ℕ) → next_after (route_of f) u ≡ Some v → IsJoined net w u v → w.up u ≡ true →
      has (w.durable.known u) n ≡ true → has (w.durable.acked u) n ≡ true
  answered n f there u v next j alive knows =
      let here : next_after (route_of f) (sender net.site j.lane) ≡ Some (receiver net.site j.lane) = ap (next_after (route_of f)) j.from ∙ next ∙ ap Some (sym j.to) in
      subst (λ (x : ℕ). has (w.durable.acked x) n ≡ true) j.from
      (paid j.lane j.site j.up (ap w.up j.from ∙ alive) n f there here (subst (λ (x : ℕ). has (w.durable.known x) n ≡ true) (sym j.from) knows))

  pub there_after : (n : Name) (f : Fact) → fact_at w.durable.facts n ≡ Some f → fact_at after.durable.facts n ≡ Some f
  there_after n f there = ap (λ (facts : List Fact). fact_at facts n) calm4.table.facts ∙ there

  pub arrives : (n : Name) (f : Fact) → fact_at w.durable.facts n ≡ Some f → IsOpen net w f → IsDelivered after n f
  arrives n f there way =
      arrived net after calm4.conserved n f (there_after n f there)
      (λ u v next knows. ap (λ (acked : ℕ → List Name). has (acked u) n) calm4.table.acked ∙
      answered n f there u v next (way.links u v next) (way.nodes u v next).0 (sym (ap (λ (known : ℕ → List Name). has (known u) n) calm4.table.known) ∙ knows))

  -- The note goes back over the same links.
  turned : (n note : Name) (f : Fact) → fact_at w.durable.facts n ≡ Some f → IsOpen net w f → IsOpen net w (Stored note n (reverse (route_of f)))
  turned n note f there way =
      let differ = route_differs f (c.now.table n f there).ranged in
      record {
        nodes = λ u v next. let x = way.nodes v u (next_reverse (route_of f) differ u v next) in (x.1, x.0);
        links = λ u v next. joined_back net w v u (way.links v u (next_reverse (route_of f) differ u v next));
      }

  pub returns : AreNoted w.durable.facts w.durable.known → (n : Name) (f : Fact) → fact_at w.durable.facts n ≡ Some f → is_secret f ≡ true → IsOpen net w f → IsBack net after n f
  returns noted n f there secret way =
      let noted' : AreNoted after.durable.facts after.durable.known =
      subst (λ (facts : List Fact). AreNoted facts after.durable.known) (sym calm4.table.facts)
      (subst (λ (known : ℕ → List Name). AreNoted w.durable.facts known) (sym calm4.table.known) noted) in
      back net after calm4.conserved noted' n f (there_after n f there) secret (arrives n f there way)
      (λ m at. arrives m (Stored m n (reverse (route_of f))) (sym (ap (λ (facts : List Fact). fact_at facts m) calm4.table.facts) ∙ at) (turned n m f there way))
