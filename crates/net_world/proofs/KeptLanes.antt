-- The state that is laid out of a used bench stands for the world at rest.
use Rattle.std.proofs.Common.{◌≡◌, ℕ, zero, suc, ◌+◌, ◌*◌, ◌-◌, ◌<◌, ◌≤◌, Bool, true, false, ◌&&◌, List, [], ◌∷◌, length, map, take, refl, sym, ap, subst, ◌∙◌, arith, Option, Some}
use Rattle.std.specs.Prelude.{slice_get, cond, count_by, nat_lt, IfSome, is_some}
use Rattle.std.specs.List.{flat_map}
use Rattle.std.proofs.lemmas.Bool.Decides.{nat_tests}
use Rattle.std.proofs.lemmas.List.Sums.{sum_by-cons}
use Rattle.std.proofs.lemmas.Bool.{lt-ltb, ltb-true}
use Rattle.qkd_base.specs.declared.lane.Way.{Way}
use Rattle.qkd_base.specs.declared.lane.Way.TheVariants.{Up, Down}
use Rattle.qkd_base.specs.declared.lane.Lane.{Lane}
use Rattle.qkd_base.specs.LaneBytes.{even_places, odd_places, way_blocks, lane_octets, lane_len}
use Rattle.net_model.specs.declared.fact.Fact.{Fact}
use Rattle.net_model.specs.Events.{is_lane}
use Rattle.net_model.specs.Frames.{octets_sent, frame_octets}
use Rattle.net_model.specs.Invariant.{Conserved}
use Rattle.net_model.specs.Ledger.{is_burnt}
use Rattle.net_model.specs.OctetSequence.{first_blocks}
use Rattle.net_model.specs.Ownership.{is_frame, is_key, covers, IsOwned}
use Rattle.net_model.specs.Site.{Site}
use Rattle.net_model.specs.World.{Network, World, Allocation, Owner, HashKey, Frame, Burnt, first, received}
use Rattle.declared_site.specs.SiteOf.{IsDeclared, site_of}
use Rattle.declared_site.specs.declared.site.Site.{Site as Declared}
use Rattle.kme_base.specs.Up.{AreUp}
use Rattle.lane_sender.specs.Lane.{LaneForm}
use Rattle.law_base.proofs.Base.{eq_same}
use Rattle.law_base.proofs.LaneBlocks.{count_blocks}
use Rattle.run_model.specs.Begin.{IsAtRest, MayBegin}
use Rattle.world_state.specs.Passed.{Post, LaneStands, WireStands, spelled_wire, PostStands}
use Rattle.world_state.specs.Stands.{place_of, Stands}
use Rattle.world_state.specs.declared.state.State.{State}
use Rattle.net_world.specs.Laid.{IsLaidOut}
use Rattle.net_world.specs.Kept.{IsKept, blocks_of, leased, going_on, IsKeptLane, AreKeptLanes, IsLaidAgain}
use Rattle.net_world.specs.declared.bench.Bench.{Bench}
use Rattle.net_world.specs.declared.kept_lane.KeptLane.{KeptLane}
use Rattle.net_world.proofs.Bits.{up_when}
use Rattle.net_world.proofs.Firsts.{no_frames, node_first, within_taken, taken_length, unstarted_length}
use Rattle.net_world.proofs.Lists.{mapped, at_take, none_left, within, all_at}
use Rattle.source_devices.specs.declared.wire.Wire as Wire
use Rattle.world_state.specs.Outside.{Outside}

-- ---- the owners of a lane's bytes, if no frame is known: the hash key, and then nobody

fewer_none : (x : ℕ) → nat_lt (suc x) 0 ≡ nat_lt x 0
fewer_none x = grind (arith, nat_tests)

fewer_both : (x k : ℕ) → nat_lt (suc x) (suc k) ≡ nat_lt x k
fewer_both x k = grind (arith, nat_tests)

one_more : (o : Owner) (own : List Owner) → count_by is_burnt (o ∷ own) ≡ cond (is_burnt o) 1 0 + count_by is_burnt own
one_more o own = sum_by-cons (λ (x : Owner). cond (is_burnt x) 1 0) o own

burnt_behind : (k : ℕ) (own : List Owner) → ((x j : ℕ) → is_frame j (slice_get own x) ≡ false) → ((x : ℕ) → x < length own → is_key (slice_get own x) ≡ nat_lt x k) →
    count_by is_burnt own ≡ length own - k
burnt_behind k [] none keys = omega arith
burnt_behind zero (HashKey ∷ own) none keys = absurd (cc (keys 0 (omega arith)))
burnt_behind zero (Frame j ∷ own) none keys = absurd (cc (sym (eq_same j) ∙ none 0 j))
burnt_behind zero (Burnt ∷ own) none keys =
    let rest : count_by is_burnt own ≡ length own - zero = burnt_behind zero own (λ x j. none (suc x) j) (λ x below. keys (suc x) (omega (arith, below)) ∙ fewer_none x) in
    omega (arith, rest, one_more Burnt own)
burnt_behind (suc k) (HashKey ∷ own) none keys =
    let rest : count_by is_burnt own ≡ length own - k = burnt_behind k own (λ x j. none (suc x) j) (λ x below. keys (suc x) (omega (arith, below)) ∙ fewer_both x k) in
    omega (arith, rest, one_more HashKey own)
burnt_behind (suc k) (Frame j ∷ own) none keys = absurd (cc (sym (eq_same j) ∙ none 0 j))
burnt_behind (suc k) (Burnt ∷ own) none keys = absurd (cc (keys 0 (omega arith) ∙ lt-ltb 0 (suc k) (omega arith)))

-- a test that follows one that holds says the same alone
alone : (a b : Bool) → b ≡ true → (a && b) ≡ a
alone true b h = h
alone false b h = refl

burnt_at_rest : (facts : List Fact) (own : List Owner) (frames : List Allocation) (lease received : ℕ) → frames ≡ [] → IsOwned facts own frames received → length own ≡ lease → lease ≤ received →
    count_by is_burnt own ≡ lease - 8
burnt_at_rest facts own frames lease zero none o count low =
    ap (count_by is_burnt) (none_left own (omega (arith, count, low))) ∙ omega (arith, low)
burnt_at_rest facts own frames lease (suc r) none o count low =
    burnt_behind 8 own (λ x j. o.frame x j ∙ ap (λ (fs : List Allocation). covers facts (slice_get fs j) x) none) (λ x below. o.key x ∙ alone (nat_lt x 8) (nat_lt 0 (suc r)) (lt-ltb 0 (suc r) (omega arith))) ∙ ap (λ (n : ℕ). n - 8) count

-- ---- how many bytes the blocks of a lane are

count_up : (bs : List (List ℕ)) → 1024 * length (even_places bs) ≡ lane_len Up (length bs)
count_up [] = refl
count_up (b ∷ []) = refl
count_up (b ∷ c ∷ bs) = let rest : 1024 * length (even_places bs) ≡ lane_len Up (length bs) = count_up bs in omega (arith, rest)

count_down : (bs : List (List ℕ)) → 1024 * length (odd_places bs) ≡ lane_len Down (length bs)
count_down [] = refl
count_down (b ∷ []) = refl
count_down (b ∷ c ∷ bs) = let rest : 1024 * length (odd_places bs) ≡ lane_len Down (length bs) = count_down bs in omega (arith, rest)

count_way : (way : Way) (bs : List (List ℕ)) → 1024 * length (way_blocks way bs) ≡ lane_len way (length bs)
count_way Up bs = count_up bs
count_way Down bs = count_down bs

none_kept : (way : Way) → [] ≡ way_blocks way []
none_kept Up = refl
none_kept Down = refl

pub nothing_kept : (net : Network) → AreKeptLanes net first []
unfolding first first_blocks
nothing_kept net l lane = record { blocks = none_kept l.way; lease = refl }

-- a state with lanes without bytes is one with nothing kept
pub laid_anew : {K Q E X : Type 0} (old stayed : Bench K Q E X) (site : Declared) (s : State K Q E X) → IsLaidOut old stayed site s → IsLaidAgain old stayed site [] s
laid_anew old stayed site s laid = record { fresh = s; laid = laid; sited = refl; posts = refl; devices = refl; up = refl; sides = refl; lanes = λ l below. laid.lanes l below }

-- ---- a lane at rest

module _ {X : Type 0} (wire_says : Wire.Ghosts X) (net : Network) (w : World) (rest : IsAtRest w) (conserved : Conserved net w) (l : Lane) (kept : Option KeptLane)
    (is : IsKeptLane net w l kept) where
  bytes_are : flat_map (λ b. b) (blocks_of kept) ≡ octets_sent net w l
  unfolding lane_octets
  bytes_are = ap (flat_map (λ (b : List ℕ). b)) is.blocks

  received_are : 1024 * length (blocks_of kept) ≡ received w.durable l
  received_are =
      ap (λ (bs : List (List ℕ)). 1024 * length bs) is.blocks ∙ count_way l.way (first_blocks (net.device l.link) (w.durable.blocks l))
      ∙ ap (lane_len l.way) (count_blocks (net.device l.link) (w.durable.blocks l))

  burnt_are : leased kept - 8 ≡ count_by is_burnt (w.durable.own l)
  burnt_are =
      ap (λ (n : ℕ). n - 8) is.lease
      ∙ sym (burnt_at_rest w.durable.facts (w.durable.own l) (w.frames l) (w.durable.lease l) (received w.durable l) (rest.framed l) (conserved.now.owned l) (rest.owned l) (conserved.now.room l).leased)

  wire_rests : (wire : X) → IfSome (wire_says.frames wire) (λ all. length all ≡ wire_says.counted wire) → wire_says.frames wire ≡ Some [] → WireStands wire_says net w l wire
  wire_rests wire all none = record {
    count = no_frames (wire_says.counted wire) (wire_says.frames wire) all none ∙ sym (ap length (rest.wired l));
    tells = ap is_some none;
    told = subst (λ (o : Option (List (List ℕ))). IfSome o (λ all. all ≡ spelled_wire net w l)) (sym none)
        (sym (ap (map (λ (j : ℕ). frame_octets net w l (slice_get (w.frames l) j))) (rest.wired l)));
  }

  lane_rests : (wire : X) → IfSome (wire_says.frames wire) (λ all. length all ≡ wire_says.counted wire) → wire_says.frames wire ≡ Some [] → LaneStands wire_says net w l (going_on l kept wire)
  lane_rests wire all none = record {
    lane = refl;
    bytes = bytes_are;
    received = received_are;
    used = is.lease ∙ sym (rest.owned l);
    burnt = burnt_are;
    end = omega (arith, is.lease);
    wire = wire_rests wire all none;
  }

module _ {K Q E X : Type 0} (outside : Outside K Q E X) (all_counted : (wire : X) → IfSome (outside.wire.frames wire) (λ all. length all ≡ outside.wire.counted wire))
    (old stayed : Bench K Q E X) (site : Declared) (net : Network) (w : World) (kept : IsKept outside old site net w) (may : MayBegin net w) (declared : IsDeclared site)
    (lanes : List KeptLane) (are : AreKeptLanes net w lanes) (s : State K Q E X) (laid : IsLaidAgain old stayed site lanes s) where
  abbrev nodes : ℕ
  nodes = (site_of site).nodes

  abbrev links : ℕ
  links = (site_of site).links

  nodes_few : nodes ≤ 16
  nodes_few = declared.nodes

  links_same : links ≡ net.site.links
  links_same = ap (λ (x : Site). x.links) (sym kept.sited)

  links_few : links ≤ 32
  links_few = let few = kept.network.site.links in omega (arith, links_same, few)

  count_nodes : length s.posts.items ≡ net.site.nodes
  count_nodes =
      ap length laid.posts ∙ ap length laid.laid.posts ∙ unstarted_length (take nodes old.disks.items) (take nodes old.entropies.items) nodes
      (taken_length nodes old.disks.items (omega (arith, nodes_few, kept.whole.disks))) (taken_length nodes old.entropies.items (omega (arith, nodes_few, kept.whole.entropies)))
      ∙ ap (λ (x : Site). x.nodes) (sym kept.sited)

  post_rests : (v : ℕ) (p : Post K E) → slice_get s.posts.items v ≡ Some p → PostStands outside.disk outside.entropy net w v p
  post_rests v p at =
      let u = node_first old stayed site laid.fresh laid.laid v p (ap (λ (ps : List (Post K E)). slice_get ps v) (sym laid.posts) ∙ at) in
      let inside : v < length s.posts.items = within s.posts.items v p at in
      subst (λ (x : Post K E). PostStands outside.disk outside.entropy net w v x) (sym u.is)
      (kept.entropies v u.entropy u.has_entropy, kept.disks v u.disk (omega (arith, inside, count_nodes)) u.has_disk)

  side_rests : (l : Lane) (side : LaneForm X) → is_lane net.site l ≡ true → slice_get s.lanes.items (place_of l) ≡ Some side → LaneStands outside.wire net w l side
  side_rests l side lane at =
      let below : l.link < net.site.links = ltb-true l.link net.site.links lane in
      let o : Option KeptLane = slice_get lanes (place_of l) in
      let m = mapped (going_on l o) (slice_get old.wires.items (place_of l)) side (sym (laid.lanes l (omega (arith, below, links_same))) ∙ at) in
      subst (LaneStands outside.wire net w l) (sym m.2)
      (lane_rests outside.wire net w may.rest may.conserved l o (are l lane) m.0 (all_counted m.0) (all_at (λ x. outside.wire.frames x ≡ Some []) old.wires.items (place_of l) m.0 kept.wires m.1))

  device_there : (link : ℕ) (q : Q) → slice_get s.devices.items link ≡ Some q → outside.device.told q ≡ Some (net.device link)
  device_there link q at =
      let taken = ap (λ (qs : List Q). slice_get qs link) (sym (laid.devices ∙ laid.laid.devices)) ∙ at in
      let below : link < links = within_taken links old.devices.items link q taken in
      kept.devices link q (sym (at_take links old.devices.items link below) ∙ taken)

  pub stands_again : Stands outside s net w
  stands_again = record {
    running = record { network = kept.network; conserved = may.conserved; sealing = kept.sealing };
    sited = kept.sited ∙ sym (ap site_of (laid.sited ∙ laid.laid.sited));
    nodes = count_nodes;
    posts = post_rests;
    sides = laid.sides ∙ laid.laid.sides ∙ ap (λ (n : ℕ). 2 * n) links_same;
    lanes = side_rests;
    links = ap length (laid.devices ∙ laid.laid.devices) ∙ taken_length links old.devices.items (omega (arith, links_few, kept.whole.devices)) ∙ links_same;
    devices = device_there;
    up = subst (λ (n : ℕ). AreUp n w.link_up) (sym (laid.up ∙ laid.laid.up)) (up_when w.link_up may.rest.linked);
  }
