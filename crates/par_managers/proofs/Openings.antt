-- The lanes of a state at the beginning of a block.
use Rattle.std.proofs.Common.{◌≡◌, ℕ, zero, suc, ◌+◌, ◌*◌, ◌<◌, ◌≤◌, true, false, List, [], ◌∷◌, ◌++◌, length, take, refl, sym, ap, subst, ◌∙◌, arith, Option, Some}
use Rattle.std.specs.Prelude.{slice_get, get_or, if◌then◌else◌}
use Rattle.std.proofs.lemmas.Bool.{ltb-true}
use Rattle.std.proofs.lemmas.Option.{slice_get_read}
use Rattle.qkd_base.specs.declared.lane.Lane.{Lane}
use Rattle.qkd_base.specs.declared.lane.Way.{Way}
use Rattle.qkd_base.specs.declared.lane.Way.TheVariants.{Up, Down}
use Rattle.net_model.specs.Premises.{IsLink}
use Rattle.net_model.specs.Site.{Site, sender, of_way}
use Rattle.net_model.specs.World.{Network, World, received, needs}
use Rattle.net_model.specs.Events.{is_lane}
use Rattle.declared_site.specs.SiteOf.{site_of}
use Rattle.world_state.specs.Passed.{Post, LaneStands}
use Rattle.lane_shares.specs.declared.share.Share.{Share}
use Rattle.lane_shares.specs.declared.shares.Shares.{Shares}
use Rattle.lane_sender.specs.Lane.{LaneForm}
use Rattle.par_lanes.proofs.Wanting.{taken}
use Rattle.run_ops.specs.Acting.{IsReady}
use Rattle.par_managers.specs.Leases.{lease_at}
use Rattle.world_state.specs.declared.state.State.{State}
use Rattle.world_state.specs.Stands.{Stands}
use Rattle.par_managers.specs.Opening.{issued_by, issued_from, issued_in, AreOpened, AllOpened}
use Rattle.par_managers.specs.Posts.{is_on}
use Rattle.par_managers.proofs.Places.{same_place, lane_at}
use Rattle.par_managers.proofs.Seen.{lease_seen}
use Rattle.world_state.specs.Outside.{Outside}

module _ {K Q E X : Type 0} (s : State K Q E X) where
  -- The shares of one more lane are made.
  pub opened_more : (sides : List (LaneForm X)) (ds : List Shares) (rs us : List Share) (side : LaneForm X) (d : Shares) (r u : Share) → AllOpened s sides ds rs us → AreOpened (issued_in s side) side d r u →
      AllOpened s (sides ++ side ∷ []) (ds ++ d ∷ []) (rs ++ r ∷ []) (us ++ u ∷ [])
  opened_more [] [] [] [] side d r u h one = (one, tt)
  opened_more (x ∷ sides) (e ∷ ds) (q ∷ rs) (t ∷ us) side d r u h one = (h.0, opened_more sides ds rs us side d r u h.1 one)
  opened_more [] [] [] (t ∷ us) side d r u h one = absurd h
  opened_more [] [] (q ∷ rs) us side d r u h one = absurd h
  opened_more [] (e ∷ ds) rs us side d r u h one = absurd h
  opened_more (x ∷ sides) [] rs us side d r u h one = absurd h
  opened_more (x ∷ sides) (e ∷ ds) [] us side d r u h one = absurd h
  opened_more (x ∷ sides) (e ∷ ds) (q ∷ rs) [] side d r u h one = absurd h

  pub opened_next : (sides : List (LaneForm X)) (i : ℕ) (side : LaneForm X) → i < length sides → side ≡ get_or sides i side → (ds : List Shares) (rs us : List Share) (d : Shares) (r u : Share) →
      AllOpened s (take i sides) ds rs us → AreOpened (issued_in s side) side d r u → AllOpened s (take (i + 1) sides) (ds ++ d ∷ []) (rs ++ r ∷ []) (us ++ u ∷ [])
  opened_next sides i side below is ds rs us d r u h one =
      subst (λ (xs : List (LaneForm X)). AllOpened s xs (ds ++ d ∷ []) (rs ++ r ∷ []) (us ++ u ∷ [])) (sym (taken sides i side below is)) (opened_more (take i sides) ds rs us side d r u h one)

  some_is : {A : Type 0} {a b : A} → ◌≡◌ {A = Option A} (Some a) (Some b) → a ≡ b
  some_is h = cc

  -- the shares of the lane at a place
  pub opened_at : (sides : List (LaneForm X)) (ds : List Shares) (rs us : List Share) → AllOpened s sides ds rs us → (i : ℕ) (side : LaneForm X) (d : Shares) (r u : Share) → slice_get sides i ≡ Some side → slice_get ds i ≡ Some d →
      slice_get rs i ≡ Some r → slice_get us i ≡ Some u → AreOpened (issued_in s side) side d r u
  opened_at [] ds rs us h i side d r u a b c e = cc
  opened_at (x ∷ sides) (y ∷ ds) (q ∷ rs) (t ∷ us) h zero side d r u a b c e =
      subst (λ (z : LaneForm X). AreOpened (issued_in s z) z d r u) (some_is a)
      (subst (λ (z : Shares). AreOpened (issued_in s x) x z r u) (some_is b)
      (subst (λ (z : Share). AreOpened (issued_in s x) x y z u) (some_is c) (subst (λ (z : Share). AreOpened (issued_in s x) x y q z) (some_is e) h.0)))
  opened_at (x ∷ sides) (y ∷ ds) (q ∷ rs) (t ∷ us) h (suc i) side d r u a b c e = opened_at sides ds rs us h.1 i side d r u a b c e
  opened_at (x ∷ sides) [] rs us h i side d r u a b c e = cc
  opened_at (x ∷ sides) (y ∷ ds) [] us h i side d r u a b c e = cc
  opened_at (x ∷ sides) (y ∷ ds) (q ∷ rs) [] h i side d r u a b c e = cc

  pub opened_long : (sides : List (LaneForm X)) (ds : List Shares) (rs us : List Share) → AllOpened s sides ds rs us → (length ds ≡ length sides) × (length rs ≡ length sides) × (length us ≡ length sides)
  opened_long [] [] [] [] h = (refl, refl, refl)
  opened_long (x ∷ sides) (y ∷ ds) (q ∷ rs) (t ∷ us) h = let rest = opened_long sides ds rs us h.1 in (ap suc rest.0, ap suc rest.1, ap suc rest.2)
  opened_long [] [] [] (t ∷ us) h = absurd h
  opened_long [] [] (q ∷ rs) us h = absurd h
  opened_long [] (y ∷ ds) rs us h = absurd h
  opened_long (x ∷ sides) [] rs us h = absurd h
  opened_long (x ∷ sides) (y ∷ ds) [] us h = absurd h
  opened_long (x ∷ sides) (y ∷ ds) (q ∷ rs) [] h = absurd h

module _ {K Q E X : Type 0} (outside : Outside K Q E X) (s : State K Q E X) (net : Network) (w : World) (ready : IsReady (Stands outside) s net w)
    (i : ℕ) (side : LaneForm X) (below : i < length s.lanes.items) (is : side ≡ get_or s.lanes.items i side) where
  there : slice_get s.lanes.items i ≡ Some side
  there = slice_get_read s.lanes.items (length s.lanes.items) i side refl below is

  place : i < 2 * net.site.links
  place = let sides = ready.stands.sides in omega (arith, below, sides)

  -- the lane at a place
  record Found : Type 0 where
    l : Lane
    at : is_lane net.site l ≡ true
    stands : LaneStands outside.wire net w l side

  found : Found
  found =
      let x = lane_at net.site i place in
      record { l = x.lane; at = x.at; stands = ready.stands.lanes x.lane side x.at (ap (slice_get s.lanes.items) (same_place x.lane ∙ x.here) ∙ there) }

  its_lane : side.lane ≡ found.l
  its_lane = found.stands.lane

  its_sender : sender (site_of s.site) side.lane ≡ sender net.site found.l
  its_sender = ap (λ (x : Site). sender x side.lane) (sym ready.stands.sited) ∙ ap (sender net.site) its_lane

  node_within : sender net.site found.l < net.site.nodes
  node_within = by found.l.way
    where
      ends : IsLink net.site found.l.link
      ends = ready.stands.running.network.site.ends found.l.link (ltb-true found.l.link net.site.links found.at)

      by : (way : Way) → of_way way (net.site.low found.l.link) (net.site.high found.l.link) < net.site.nodes
      by Up = omega (arith, ends.order, ends.within)
      by Down = omega (arith, ends.within)

  pub sender_there : sender (site_of s.site) side.lane < length s.posts.items
  sender_there = let within = node_within in let nodes = ready.stands.nodes in let same = its_sender in omega (arith, within, nodes, same)

  abbrev room : Type 0
  room = (length (w.durable.own found.l) + needs w.durable.facts (w.unclaimed found.l) ≤ w.durable.lease found.l) × (w.durable.lease found.l ≤ received w.durable found.l)

  its_room : room
  its_room = let x = ready.stands.running.conserved.now.room found.l in (x.planned, x.leased)

  pub used_few : side.ledger.used ≤ side.ledger.received
  used_few = let f = found.stands in let x = its_room in omega (arith, f.used, f.received, x.0, x.1)

  module _ (post : Post K E) (at : slice_get s.posts.items (sender (site_of s.site) side.lane) ≡ Some post) where
    on_case : is_on post ≡ true → (side.ledger.used ≤ lease_at post side.lane) × (lease_at post side.lane ≤ side.ledger.received)
    on_case on =
        let f = found.stands in
        let x = its_room in
        let lease : lease_at post side.lane ≡ w.durable.lease found.l =
        ap (lease_at post) its_lane ∙ lease_seen outside.disk outside.entropy net w (sender net.site found.l) ready.stands.running found.l found.at refl post
        (ready.stands.posts (sender net.site found.l) post (ap (slice_get s.posts.items) (sym its_sender) ∙ at)) on in
        (omega (arith, f.used, x.0, lease), omega (arith, f.received, x.1, lease))

    by_case : (side.ledger.used ≤ issued_by post side) × (issued_by post side ≤ side.ledger.received)
    by_case =
        let used = used_few in
        elim (is_on post) as (λ t. is_on post ≡ t → (side.ledger.used ≤ (if t then lease_at post side.lane else side.ledger.used)) × ((if t then lease_at post side.lane else side.ledger.used) ≤ side.ledger.received)) [
          | true ↦ λ on. on_case on
          | false ↦ λ off. (omega arith, omega (arith, used))
        ] refl

    pub used_issued : side.ledger.used ≤ issued_by post side
    used_issued = by_case.0

    pub issued_received : issued_by post side ≤ side.ledger.received
    issued_received = by_case.1

    pub issued_is : issued_by post side ≡ issued_in s side
    issued_is = sym (ap (λ (o : Option (Post K E)). issued_from o side) at)
