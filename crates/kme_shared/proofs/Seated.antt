-- Managers and lanes at their desks, when a block begins and when it ends.
use Rattle.std.proofs.Common.{◌≡◌, ℕ, ◌+◌, ◌<◌, ◌≤◌, true, List, ◌++◌, length, map, sym, ap, subst, ◌∙◌, arith, length-append, Option, Some}
use Rattle.std.specs.Prelude.{slice_get}
use Rattle.std.proofs.lemmas.List.{length-map}
use Rattle.std.proofs.lemmas.Option.{slice_get_within}
use Rattle.qkd_base.specs.Lane.{lane_place}
use Rattle.net_model.specs.Site.{Site}
use Rattle.net_model.specs.World.{Network, World}
use Rattle.net_model.specs.Events.{is_lane}
use Rattle.world_state.specs.Passed.{Post}
use Rattle.lane_shares.specs.declared.shares.Shares.{Shares}
use Rattle.lane_sender.specs.Lane.{LaneForm}
use Rattle.par_lanes.specs.declared.ask.LaneAsk.{LaneAsk}
use Rattle.par_lanes.specs.declared.ask.LaneAnswer.{LaneAnswer}
use Rattle.shared_objects.specs.declared.either.Either.{Either}
use Rattle.shared_objects.specs.declared.either.Either.TheVariants.{Left, Right}
use Rattle.run_ops.specs.Acting.{IsReady}
use Rattle.shared_objects.proofs.Zips.{item_at}
use Rattle.par_managers.specs.declared.ask.PlanAsk.{PlanAsk}
use Rattle.par_managers.specs.declared.ask.PlanAnswer.{PlanAnswer}
use Rattle.par_managers.proofs.Places.{same_place, lane_within}
use Rattle.par_managers.specs.declared.keep.Keep.{Keep}
use Rattle.par_managers.specs.Together.{HaveWorked}
use Rattle.kme_shared.specs.Working.{AreSeated}
use Rattle.kme_shared.specs.Seats.{HaveSat, IsAtStart, lefts, rights}
use Rattle.kme_shared.specs.WorkSeats.{AreSat, HaveRisen}
use Rattle.world_state.specs.declared.state.State.{State}
use Rattle.world_state.specs.Stands.{Stands}
use Rattle.par_managers.proofs.Histories.{counted_at}
use Rattle.kme_shared.proofs.Places.{made_of, makes, left_at, right_at, right_back, lefts_of, rights_of, AreSplit, split_at}
use Rattle.kme_shared.proofs.BlockReplies.{all_at}
use Rattle.world_state.specs.Outside.{Outside}

pub some_is : {A : Type 0} {a b : A} → ◌≡◌ {A = Option A} (Some a) (Some b) → a ≡ b
some_is h = cc

pub left_is : {M N : Type 0} {a b : M} → ◌≡◌ {A = Either M N} (Left a) (Left b) → a ≡ b
left_is h = cc

module _ {K Q E X D L : Type 0} (opening_of : D → State K Q E X) (node_of up_of : D → ℕ) (post_of : D → Post K E) (shares_in : D → List Shares) (side_of : L → LaneForm X) (shares_of : L → Shares)
    (opening : State K Q E X) (shares : List Shares) (machines : List (Either D L)) (h : HaveSat opening_of node_of up_of post_of shares_in side_of shares_of opening shares machines) where
  abbrev pub first : ℕ
  first = length opening.posts.items

  pub many : length h.managers ≡ first
  many = sym (length-map h.managers post_of) ∙ ap (λ (ps : List (Post K E)). length ps) h.posts

  pub many_lanes : length h.lanes ≡ length opening.lanes.items
  many_lanes = sym (length-map h.lanes side_of) ∙ ap (λ (ps : List (LaneForm X)). length ps) h.sides

  pub start : (v : ℕ) (d : D) → slice_get h.managers v ≡ Some d → IsAtStart opening_of node_of up_of post_of shares_in opening shares d
  start v d at = all_at (IsAtStart opening_of node_of up_of post_of shares_in opening shares) h.managers v d h.each at

  pub its_node : (v : ℕ) (d : D) → slice_get h.managers v ≡ Some d → node_of d ≡ v
  its_node v d at =
      let within = slice_get_within h.managers v d at in
      let below : v < first = (let m = many in omega (arith, within, m)) in
      some_is (sym (makes node_of h.managers v d at) ∙ ap (λ (ns : List ℕ). slice_get ns v) h.nodes ∙ counted_at first v below)

  pub manager_there : (v : ℕ) (d : D) → slice_get h.managers v ≡ Some d → slice_get machines v ≡ Some (Left d)
  manager_there v d at = ap (λ (ms : List (Either D L)). slice_get ms v) h.are ∙ left_at h.managers h.lanes v d at

  shifted : (i : ℕ) → slice_get machines (first + i) ≡ slice_get (map Left h.managers ++ map Right h.lanes) (length h.managers + i)
  shifted i = ap (λ (ms : List (Either D L)). slice_get ms (first + i)) h.are ∙ ap (λ (n : ℕ). slice_get (map Left h.managers ++ map Right h.lanes) (n + i)) (sym many)

  lane_there : (i : ℕ) (d : L) → slice_get h.lanes i ≡ Some d → slice_get machines (first + i) ≡ Some (Right d)
  lane_there i d at = shifted i ∙ right_at h.managers h.lanes i d at

  lane_back : (i : ℕ) (d : L) → slice_get machines (first + i) ≡ Some (Right d) → slice_get h.lanes i ≡ Some d
  lane_back i d at = right_back h.managers h.lanes i d (sym (shifted i) ∙ at)

  pub are_sat : AreSat opening_of node_of up_of post_of side_of opening machines
  are_sat = record {
    managers = λ v post at.
        let r = made_of post_of h.managers v post (ap (λ (ps : List (Post K E)). slice_get ps v) h.posts ∙ at) in
        let s = start v r.x r.at in
        record { desk = r.x; there = manager_there v r.x r.at; opens = s.opens; node = its_node v r.x r.at; up = s.links; is = r.is };
    lanes = λ i side at.
        let r = made_of side_of h.lanes i side (ap (λ (ls : List (LaneForm X)). slice_get ls i) h.sides ∙ at) in
        record { desk = r.x; there = lane_there i r.x r.at; is = r.is };
  }

  -- machines that did not change

  pub still_posts : (after : List (Either D L)) → after ≡ machines → map post_of (lefts after) ≡ opening.posts.items
  still_posts after same = ap (λ (ms : List (Either D L)). map post_of (lefts ms)) (same ∙ h.are) ∙ ap (map post_of) (lefts_of h.managers h.lanes) ∙ h.posts

  pub still_lanes : (after : List (Either D L)) → after ≡ machines → map side_of (rights after) ≡ opening.lanes.items
  still_lanes after same = ap (λ (ms : List (Either D L)). map side_of (rights ms)) (same ∙ h.are) ∙ ap (map side_of) (rights_of h.managers h.lanes) ∙ h.sides

  pub still_many : (after : List (Either D L)) → after ≡ machines → length (lefts after) ≡ first
  still_many after same = sym (length-map (lefts after) post_of) ∙ ap (λ (ps : List (Post K E)). length ps) (still_posts after same)

  pub still_many_lanes : (after : List (Either D L)) → after ≡ machines → length (rights after) ≡ length opening.lanes.items
  still_many_lanes after same = sym (length-map (rights after) side_of) ∙ ap (λ (ls : List (LaneForm X)). length ls) (still_lanes after same)

  module _ (outside : Outside K Q E X)
      (net : Network) (w : World) (ready : IsReady (Stands outside) opening net w) where
    pub are_seated : first ≤ 16 → AreSeated opening_of node_of shares_in side_of shares_of opening first shares machines
    are_seated nodes = record {
      few = omega (arith, nodes);
      many = long;
      managers = λ v below.
          let r = item_at h.managers v (let m = many in omega (arith, below, m)) in
          let s = start v r.0 r.1 in
          record { desk = r.0; there = manager_there v r.0 r.1; opens = s.opens; node = its_node v r.0 r.1; shared = s.shared };
      lanes = λ l is.
          let is' : is_lane net.site l ≡ true = subst (λ (s : Site). is_lane s l ≡ true) (sym ready.stands.sited) is in
          let within = lane_within net.site l is' in
          let r = item_at h.lanes (lane_place l) (let m = many_lanes in let s = ready.stands.sides in omega (arith, within, m, s)) in
          let there = ap (slice_get opening.lanes.items) (same_place l) ∙ ap (λ (ls : List (LaneForm X)). slice_get ls (lane_place l)) (sym h.sides) ∙ makes side_of h.lanes (lane_place l) r.0 r.1 in
          record { desk = r.0; there = lane_there (lane_place l) r.0 r.1; lane = (ready.stands.lanes l (side_of r.0) is' there).lane };
      sides = λ i d at. ap (λ (ls : List (LaneForm X)). slice_get ls i) (sym h.sides) ∙ makes side_of h.lanes i d (lane_back i d at);
      shared = λ i d at. ap (λ (ds : List Shares). slice_get ds i) (sym h.shared) ∙ makes shares_of h.lanes i d (lane_back i d at);
    }
      where
        long : length machines ≡ first + length shares
        long =
            let a = ap (λ (ms : List (Either D L)). length ms) h.are in
            let b = length-append (map Left h.managers) (map Right h.lanes) in
            let c = length-map {B = Either D L} h.managers Left in
            let d = length-map {B = Either D L} h.lanes Right in
            let e = ap (λ (ds : List Shares). length ds) h.shared in
            let f = length-map h.lanes shares_of in
            let m = many in
            omega (arith, a, b, c, d, e, f, m)

  -- after the workers' jobs all are at the same desks
  pub have_stayed : (turn : D → PlanAsk → PlanAnswer → D → Type 0) (other_turn : L → LaneAsk → LaneAnswer → L → Type 0) (keeps nexts : List Keep) (after : List (Either D L)) →
      length after ≡ length machines → HaveWorked turn other_turn opening.lanes.items first keeps machines nexts after → AreSplit first (length opening.lanes.items) after
  have_stayed turn other_turn keeps nexts after same worked =
      split_at first (length opening.lanes.items) after long
      (λ v below.
      let r = item_at h.managers v (let m = many in omega (arith, below, m)) in
      let b = worked.managers v r.0 below (manager_there v r.0 r.1) in
      (b.0, b.1))
      (λ i below.
      let r = item_at h.lanes i (let m = many_lanes in omega (arith, below, m)) in
      let side = ap (λ (ls : List (LaneForm X)). slice_get ls i) (sym h.sides) ∙ makes side_of h.lanes i r.0 r.1 in
      let b = worked.desks i (side_of r.0) r.0 side (lane_there i r.0 r.1) in
      (b.0, b.1))
    where
      long : length after ≡ first + length opening.lanes.items
      long =
          let a = ap (λ (ms : List (Either D L)). length ms) h.are in
          let b = length-append (map Left h.managers) (map Right h.lanes) in
          let c = length-map {B = Either D L} h.managers Left in
          let d = length-map {B = Either D L} h.lanes Right in
          let m = many in
          let n = many_lanes in
          omega (arith, same, a, b, c, d, m, n)

-- managers and lanes leave their desks

module _ {K Q E X D L : Type 0} (opening_of : D → State K Q E X) (node_of up_of : D → ℕ) (post_of : D → Post K E) (side_of : L → LaneForm X) (opening new : State K Q E X) (machines : List (Either D L))
    (split : AreSplit (length opening.posts.items) (length opening.lanes.items) machines) (posts : new.posts.items ≡ map post_of (lefts machines)) (lanes : new.lanes.items ≡ map side_of (rights machines)) where
  new_posts : new.posts.items ≡ map post_of split.first
  new_posts = posts ∙ ap (λ (ms : List (Either D L)). map post_of (lefts ms)) split.are ∙ ap (map post_of) (lefts_of split.first split.second)

  new_lanes : new.lanes.items ≡ map side_of split.second
  new_lanes = lanes ∙ ap (λ (ms : List (Either D L)). map side_of (rights ms)) split.are ∙ ap (map side_of) (rights_of split.first split.second)

  pub have_risen : new.site ≡ opening.site → new.devices.items ≡ opening.devices.items → new.up ≡ opening.up → HaveRisen opening_of node_of up_of post_of side_of opening machines new
  have_risen site devices links = record {
    site = site;
    devices = devices;
    links = links;
    nodes = ap (λ (ps : List (Post K E)). length ps) new_posts ∙ length-map split.first post_of ∙ split.many;
    sides = ap (λ (ls : List (LaneForm X)). length ls) new_lanes ∙ length-map split.second side_of ∙ split.others;
    posts = λ v d below at.
        let r = item_at split.first v (let m = split.many in omega (arith, below, m)) in
        let is : r.0 ≡ d = left_is (some_is (sym (left_at split.first split.second v r.0 r.1) ∙ ap (λ (ms : List (Either D L)). slice_get ms v) (sym split.are) ∙ at)) in
        ap (λ (ps : List (Post K E)). slice_get ps v) new_posts ∙ makes post_of split.first v r.0 r.1 ∙ ap (λ (m : D). Some (post_of m)) is;
    lanes = λ i d at.
        let there = right_back split.first split.second i d
        (ap (λ (n : ℕ). slice_get (map Left split.first ++ map Right split.second) (n + i)) split.many ∙ ap (λ (ms : List (Either D L)). slice_get ms (length opening.posts.items + i)) (sym split.are) ∙ at) in
        ap (λ (ls : List (LaneForm X)). slice_get ls i) new_lanes ∙ makes side_of split.second i d there;
  }
