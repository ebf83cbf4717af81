-- What is seen of a bench after a run is what the run says.
use Rattle.std.proofs.Common.{◌≡◌, ◌⊎◌, inl, inr, ℕ, ◌*◌, ◌<◌, ◌≤◌, false, List, [], ◌++◌, map, drop, refl, sym, ap, subst, ◌∙◌, arith, Option, Some, None}
use Rattle.std.specs.Prelude.{slice_get, unwrap_or}
use Rattle.std.proofs.lemmas.Bool.{lt-ltb}
use Rattle.qkd_base.specs.declared.lane.Lane.{Lane}
use Rattle.net_model.specs.declared.record.Record.{Record}
use Rattle.net_model.specs.OctetSequence.{OctetSequence, sequence_of}
use Rattle.net_model.specs.Sealing.{IsSealing}
use Rattle.net_model.specs.Site.{Site}
use Rattle.net_model.specs.World.{Network, World, first}
use Rattle.net_model.specs.Journal.{is_blank}
use Rattle.net_model.specs.Step.{run, IsRun}
use Rattle.net_model.specs.Action.{Action}
use Rattle.net_model.specs.Faults.{is_disk_fault, is_random_fault, is_block_fault, is_wire_fault, disk_faults, entropy_faults, device_faults, wire_faults, armings}
use Rattle.net_model.specs.Premises.{IsNetwork}
use Rattle.declared_site.specs.SiteOf.{IsDeclared}
use Rattle.declared_site.specs.declared.site.Site.{Site as Declared}
use Rattle.disk_model.specs.Images.{Only}
use Rattle.hop_frames.specs.Sealing.{hop_sealing}
use Rattle.source_devices.specs.Telling.{IsRest}
use Rattle.lane_sender.specs.Lane.{LaneForm}
use Rattle.run_model.specs.Left.{wire_octets}
use Rattle.run_model.specs.Bench.{DiskBatches, Seen, Count, RoseWith, Arming, IsArmedWith}
use Rattle.law_run.specs.Seen.{IsKept as IsGiven, IsSeen}
use Rattle.world_state.specs.Passed.{Post, Off, disk_of, entropy_of}
use Rattle.world_state.specs.Stands.{place_of}
use Rattle.world_state.specs.Tallied.{Counted, PostTallied}
use Rattle.world_state.specs.declared.state.State.{State}
use Rattle.net_world.specs.Laid.{without_bytes, IsOnDisk}
use Rattle.net_world.specs.New.{IsNew, zeros, octets_of, network_on, AreKnown}
use Rattle.net_world.specs.Reading.{ReadsDisks}
use Rattle.net_world.specs.Seen.{counted_in, armings_of, armed_between, frames_on, MayLeave, IsSeenOn}
use Rattle.net_world.specs.Ran.{HasRun}
use Rattle.net_world.specs.declared.bench.Bench.{Bench}
use Rattle.net_world.proofs.Lists.{some_is, mapped, there, within, all_at, at_take, in_front, behind}
use Rattle.net_world.proofs.Back.{below_or_past, given_back, stayed_there, gives_back, stays_there}
use Rattle.net_world.proofs.Networks.{is_network}
use Rattle.net_world.proofs.Firsts.{all_left, node_first}
use Rattle.net_world.proofs.Images.{rest_gives}
use Rattle.net_world.proofs.Shown.{seen_risen, seen_still, seen_armed, seen_unarmed}
use Rattle.net_world.proofs.Told.{entropy_there, left_of, pair_place, place_past, no_lane, empty_wire, told_frames}
use Rattle.net_world.proofs.Strangers.{none_drawn, nothing_wired, no_disk_faults, no_entropy_faults, no_armings, no_device_faults, no_wire_faults}
use Rattle.disk_model.specs.declared.disk.Disk as Disk
use Rattle.source_devices.specs.declared.entropy.Entropy as Entropy
use Rattle.world_state.specs.Outside.{Outside}

-- a node after the run: its post, and its disk and its entropy on the bench
record NodeBack {K E : Type 0} (posts : List (Post K E)) (disks : List K) (entropies : List E) (v : ℕ) : Type 0 where
  pub post : Post K E
  pub at : slice_get posts v ≡ Some post
  pub disk : K
  pub has_disk : slice_get disks v ≡ Some disk
  pub is_disk : disk_of post ≡ Some disk
  pub has_entropy : slice_get entropies v ≡ Some (entropy_of post)

-- the same node before the run too, with its counts
record NodeRan {K E : Type 0} (disk_says : Disk.Ghosts K) (entropy_says : Entropy.Ghosts E) (site : Site) (actions : List Action)
    (posts : List (Post K E)) (old_disks new_disks : List K) (old_entropies new_entropies : List E) (v : ℕ) : Type 0 where
  pub back : NodeBack posts new_disks new_entropies v
  pub first_disk : K
  pub first_entropy : E
  pub had_disk : slice_get old_disks v ≡ Some first_disk
  pub had_entropy : slice_get old_entropies v ≡ Some first_entropy
  pub tallied : PostTallied disk_says entropy_says site v actions (Off first_disk first_entropy) back.post

module _ {K Q E X : Type 0} (outside : Outside K Q E X)
    (old new : Bench K Q E X) (site : Declared) (actions : List Action) (w : World) (fresh : IsNew outside old) (declared : IsDeclared site) (sealing : IsSealing hop_sealing)
    (h : HasRun outside old new site (network_on outside.device outside.entropy old site) actions w)
    (may : IsRun (network_on outside.device outside.entropy old site) first actions) (leads : w ≡ run (network_on outside.device outside.entropy old site) first actions) where
  abbrev net : Network
  net = network_on outside.device outside.entropy old site

  abbrev nodes : ℕ
  nodes = net.site.nodes

  abbrev links : ℕ
  links = net.site.links

  network : IsNetwork net
  network = is_network outside old fresh site declared sealing

  abbrev s : State K Q E X
  s = h.end

  abbrev Back : ℕ → Type 0
  Back v = NodeBack s.posts.items new.disks.items new.entropies.items v

  abbrev Ran : ℕ → Type 0
  Ran v = NodeRan outside.disk outside.entropy net.site actions s.posts.items old.disks.items new.disks.items old.entropies.items new.entropies.items v

  node_back : (v : ℕ) → v < nodes → Back v
  node_back v below =
      let post = there s.posts.items v (omega (arith, below, h.rests.nodes)) in
      let disk = given_back disk_of s.posts.items old.disks.items h.stayed.disks.items new.disks.items nodes h.rests.nodes h.laid.other_disks h.back.disks v post.0 below post.1 in
      record {
        post = post.0;
        at = post.1;
        disk = disk.0;
        has_disk = disk.1;
        is_disk = disk.2;
        has_entropy = gives_back entropy_of s.posts.items old.entropies.items h.stayed.entropies.items new.entropies.items nodes h.rests.nodes h.laid.other_entropies h.back.entropies v post.0 below post.1;
      }

  disk_stays : (v : ℕ) → nodes ≤ v → slice_get new.disks.items v ≡ slice_get old.disks.items v
  disk_stays v past = stayed_there disk_of s.posts.items old.disks.items h.stayed.disks.items new.disks.items nodes h.rests.nodes h.laid.other_disks h.back.disks v past

  entropy_stays : (v : ℕ) → nodes ≤ v → slice_get new.entropies.items v ≡ slice_get old.entropies.items v
  entropy_stays v past = stays_there entropy_of s.posts.items old.entropies.items h.stayed.entropies.items new.entropies.items nodes h.rests.nodes h.laid.other_entropies h.back.entropies v past

  node_ran : (v : ℕ) → v < nodes → Ran v
  node_ran v below =
      let back = node_back v below in
      let begin = there h.begin.posts.items v (omega (arith, within s.posts.items v back.post back.at, h.tallied.nodes)) in
      let u = node_first old h.stayed site h.begin h.laid v begin.0 begin.1 in
      record {
        back = back;
        first_disk = u.disk;
        first_entropy = u.entropy;
        had_disk = u.has_disk;
        had_entropy = u.has_entropy;
        tallied = subst (λ (p : Post K E). PostTallied outside.disk outside.entropy net.site v actions p back.post) u.is (h.tallied.posts v begin.0 back.post begin.1 back.at);
      }

  -- the counts of faults rose as the run says

  disks_rose : (v : ℕ) → RoseWith (counted_in outside.disk.faults old.disks.items new.disks.items v) (map (is_disk_fault net.site v) actions)
  unfolding disk_faults
  disks_rose v = by (below_or_past v nodes)
    where
      by : (v < nodes) ⊎ (nodes ≤ v) → RoseWith (counted_in outside.disk.faults old.disks.items new.disks.items v) (map (is_disk_fault net.site v) actions)
      by (inl below) =
          let n = node_ran v below in
          seen_risen outside.disk.faults (is_disk_fault net.site v) actions old.disks.items new.disks.items v n.tallied.before n.tallied.now (n.had_disk ∙ n.tallied.was)
          (n.back.has_disk ∙ sym n.back.is_disk ∙ n.tallied.is) n.tallied.failed
      by (inr past) = seen_still outside.disk.faults (is_disk_fault net.site v) actions old.disks.items new.disks.items v (no_disk_faults net network v past actions may) (disk_stays v past)

  entropies_rose : (v : ℕ) → RoseWith (counted_in outside.entropy.faults old.entropies.items new.entropies.items v) (map (is_random_fault v) actions)
  unfolding entropy_faults
  entropies_rose v = by (below_or_past v nodes)
    where
      by : (v < nodes) ⊎ (nodes ≤ v) → RoseWith (counted_in outside.entropy.faults old.entropies.items new.entropies.items v) (map (is_random_fault v) actions)
      by (inl below) =
          let n = node_ran v below in
          seen_risen outside.entropy.faults (is_random_fault v) actions old.entropies.items new.entropies.items v n.first_entropy (entropy_of n.back.post) n.had_entropy n.back.has_entropy n.tallied.refused
      by (inr past) = seen_still outside.entropy.faults (is_random_fault v) actions old.entropies.items new.entropies.items v (no_entropy_faults net network v past actions may) (entropy_stays v past)

  disks_armed : (v : ℕ) → IsArmedWith (armed_between (armings_of outside.disk (slice_get old.disks.items v)) (armings_of outside.disk (slice_get new.disks.items v))) (armings v actions)
  disks_armed v = by (below_or_past v nodes)
    where
      by : (v < nodes) ⊎ (nodes ≤ v) → IsArmedWith (armed_between (armings_of outside.disk (slice_get old.disks.items v)) (armings_of outside.disk (slice_get new.disks.items v))) (armings v actions)
      by (inl below) =
          let n = node_ran v below in
          seen_armed outside.disk old.disks.items new.disks.items v (armings v actions) n.tallied.before n.tallied.now (n.had_disk ∙ n.tallied.was)
          (n.back.has_disk ∙ sym n.back.is_disk ∙ n.tallied.is) n.tallied.armed_with
      by (inr past) = seen_unarmed outside.disk old.disks.items new.disks.items v (armings v actions) (no_armings net network v past actions may) (disk_stays v past)

  -- the counts of the links' devices

  devices_rose : (link : ℕ) → RoseWith (counted_in outside.device.faults old.devices.items new.devices.items link) (map (is_block_fault link) actions)
  unfolding device_faults
  devices_rose link = by (below_or_past link links)
    where
      are : new.devices.items ≡ s.devices.items ++ drop links old.devices.items
      are = h.back.devices ∙ ap (λ (qs : List Q). s.devices.items ++ qs) h.laid.other_devices

      by : (link < links) ⊎ (links ≤ link) → RoseWith (counted_in outside.device.faults old.devices.items new.devices.items link) (map (is_block_fault link) actions)
      by (inl below) =
          let now = there s.devices.items link (omega (arith, below, h.rests.links)) in
          let before = there h.begin.devices.items link (omega (arith, below, h.rests.links, h.tallied.links)) in
          seen_risen outside.device.faults (is_block_fault link) actions old.devices.items new.devices.items link before.0 now.0
          (sym (at_take links old.devices.items link below) ∙ ap (λ (qs : List Q). slice_get qs link) (sym h.laid.devices) ∙ before.1)
          (in_front s.devices.items old.devices.items new.devices.items links h.rests.links are link below ∙ now.1) (h.tallied.devices link before.0 now.0 before.1 now.1)
      by (inr past) =
          seen_still outside.device.faults (is_block_fault link) actions old.devices.items new.devices.items link (no_device_faults net network link past actions may)
          (behind s.devices.items old.devices.items new.devices.items links h.rests.links are link past)

  -- the wires of the lanes

  wire_back : (l : Lane) (side : LaneForm X) → l.link < links → slice_get s.lanes.items (place_of l) ≡ Some side → slice_get new.wires.items (place_of l) ≡ Some side.wire
  wire_back l side below at =
      gives_back (λ (x : LaneForm X). x.wire) s.lanes.items old.wires.items h.stayed.wires.items new.wires.items (2 * links) h.rests.sides h.laid.other_wires h.back.wires (place_of l) side
      (pair_place links l below) at

  wire_stays : (l : Lane) → links ≤ l.link → slice_get new.wires.items (place_of l) ≡ slice_get old.wires.items (place_of l)
  wire_stays l past =
      stays_there (λ (x : LaneForm X). x.wire) s.lanes.items old.wires.items h.stayed.wires.items new.wires.items (2 * links) h.rests.sides h.laid.other_wires h.back.wires (place_of l)
      (place_past links l past)

  wires_rose : (l : Lane) → RoseWith (counted_in outside.wire.faults old.wires.items new.wires.items (place_of l)) (map (is_wire_fault l) actions)
  unfolding wire_faults
  wires_rose l = by (below_or_past l.link links)
    where
      by : (l.link < links) ⊎ (links ≤ l.link) → RoseWith (counted_in outside.wire.faults old.wires.items new.wires.items (place_of l)) (map (is_wire_fault l) actions)
      by (inl below) =
          let place = pair_place links l below in
          let now = there s.lanes.items (place_of l) (omega (arith, place, h.rests.sides)) in
          let before = there h.begin.lanes.items (place_of l) (omega (arith, place, h.rests.sides, h.tallied.sides)) in
          let m = mapped (without_bytes l) (slice_get old.wires.items (place_of l)) before.0 (sym (h.laid.lanes l below) ∙ before.1) in
          seen_risen outside.wire.faults (is_wire_fault l) actions old.wires.items new.wires.items (place_of l) m.0 now.0.wire m.1 (wire_back l now.0 below now.1)
          (subst (λ (x : LaneForm X). Counted (wire_faults l actions) (outside.wire.faults x.wire) (outside.wire.faults now.0.wire)) m.2 (h.tallied.wires l before.0 now.0 before.1 now.1))
      by (inr past) =
          seen_still outside.wire.faults (is_wire_fault l) actions old.wires.items new.wires.items (place_of l) (no_wire_faults net network l (no_lane net.site l past) actions may) (wire_stays l past)

  wires_hold : (l : Lane) (all : List (List ℕ)) → frames_on outside.wire (slice_get new.wires.items (place_of l)) ≡ Some all → all ≡ wire_octets net w l
  wires_hold l all is = by (below_or_past l.link links)
    where
      untouched : (o : Option X) → ((x : X) → o ≡ Some x → outside.wire.frames x ≡ Some []) → frames_on outside.wire o ≡ Some all → all ≡ []
      untouched None none has = some_is (sym has)
      untouched (Some x) none has = some_is (sym has ∙ none x refl)

      by : (l.link < links) ⊎ (links ≤ l.link) → all ≡ wire_octets net w l
      by (inl below) =
          let now = there s.lanes.items (place_of l) (omega (arith, pair_place links l below, h.rests.sides)) in
          told_frames outside.wire net w l now.0.wire all (h.rests.wires l now.0 (lt-ltb l.link links below) now.1)
          (ap (frames_on outside.wire) (sym (wire_back l now.0 below now.1)) ∙ is)
      by (inr past) =
          untouched (slice_get old.wires.items (place_of l)) (λ x at. all_at (λ y. outside.wire.frames y ≡ Some []) old.wires.items (place_of l) x fresh.wires at)
          (ap (frames_on outside.wire) (sym (wire_stays l past)) ∙ is)
          ∙ sym (empty_wire net w l (ap (λ (x : World). x.wire l) leads ∙ nothing_wired net network l (no_lane net.site l past) actions may))

  -- the disks of the nodes

  disks_give : (batches : DiskBatches) → ReadsDisks batches → (v : ℕ) → v < nodes → is_blank (w.journal v) ≡ false → (octets : List ℕ) →
      MayLeave outside.disk (slice_get new.disks.items v) octets → (story : List (List Record)) × (batches octets ≡ Some story) × IsGiven net w v story
  disks_give batches reads v below started octets may =
      let n = node_back v below in
      rest_gives net w v started batches reads outside.disk outside.entropy n.post (h.rests.posts v n.post n.at)
      (all_at (IsOnDisk outside.disk) s.posts.items v n.post h.back.on_disk n.at) n.disk n.is_disk octets
      (subst (λ (o : Option K). MayLeave outside.disk o octets) n.has_disk may)

  disks_empty : (v : ℕ) → nodes ≤ v → (octets : List ℕ) → MayLeave outside.disk (slice_get new.disks.items v) octets → octets ≡ []
  disks_empty v past octets may =
      empty (slice_get old.disks.items v) (λ k at. all_at (λ x. Only [] (outside.disk.image x (outside.disk.moment x))) old.disks.items v k fresh.empty at)
      (subst (λ (o : Option K). MayLeave outside.disk o octets) (disk_stays v past) may)
    where
      empty : (o : Option K) → ((k : K) → o ≡ Some k → Only [] (outside.disk.image k (outside.disk.moment k))) → MayLeave outside.disk o octets → octets ≡ []
      empty None only is = is
      empty (Some k) only is = only k refl octets is

  -- the entropies of the nodes

  told_of : (o : Option E) (part : E) (octets : List ℕ) → o ≡ Some part → outside.entropy.left part ≡ Some (sequence_of octets) → octets_of outside.entropy.left o ≡ sequence_of octets
  told_of o part octets is tells = ap (octets_of outside.entropy.left) is ∙ ap (λ (t : Option OctetSequence). unwrap_or t zeros) tells

  still_left : (now : ℕ → Option (List ℕ)) → AreKnown outside.entropy.left new.entropies.items now → (v : ℕ) (all rest : List ℕ) → net.entropy v ≡ sequence_of all → now v ≡ Some rest →
      IsRest (sequence_of all) (w.drawn v) (sequence_of rest)
  still_left now after v all rest was is = by (below_or_past v nodes)
    where
      by : (v < nodes) ⊎ (nodes ≤ v) → IsRest (sequence_of all) (w.drawn v) (sequence_of rest)
      by (inl below) =
          let n = node_back v below in
          let at_rest = h.rests.posts v n.post n.at in
          let e = entropy_there outside.disk outside.entropy net at_rest.0 v n.post at_rest.2 in
          let part = after v rest is in
          let same : part.0 ≡ entropy_of n.post = some_is (sym part.1 ∙ n.has_entropy) in
          let left_is : e.rest ≡ sequence_of rest = some_is (sym e.tells ∙ ap outside.entropy.left (sym same) ∙ part.2) in
          subst (λ (t : OctetSequence). IsRest t (w.drawn v) (sequence_of rest)) was
          (subst (λ (n : ℕ). IsRest (net.entropy v) n (sequence_of rest)) (sym at_rest.1.drawn)
          (subst (λ (t : OctetSequence). IsRest (net.entropy v) (at_rest.0.drawn v) t) left_is e.left))
      by (inr past) =
          let part = after v rest is in
          let told_is : sequence_of all ≡ sequence_of rest = sym was ∙ told_of (slice_get old.entropies.items v) part.0 rest (sym (entropy_stays v past) ∙ part.1) part.2 in
          let drawn : w.drawn v ≡ 0 = ap (λ (x : World). x.drawn v) leads ∙ none_drawn net network v past actions may in
          subst (λ (n : ℕ). IsRest (sequence_of all) n (sequence_of rest)) (sym drawn)
          (subst (λ (t : OctetSequence). IsRest (sequence_of all) 0 t) told_is (all_left (sequence_of all)))

  -- all that is seen of the bench

  pub is_seen : (reading : DiskBatches) (seen : Seen) → ReadsDisks reading → IsSeenOn outside old new seen →
      IsSeen reading net w actions seen
  is_seen reading seen reads on = record {
    wires = λ l all is. wires_hold l all (sym (on.wires l) ∙ is);
    disks = λ v below started. disks_give reading reads v below started (seen.disk v) (on.disks v);
    other_disks = λ v past. disks_empty v past (seen.disk v) (on.disks v);
    left = λ v all rest was is. left_of all rest (w.drawn v) (still_left seen.entropy on.entropies v all rest was is);
    disk_faults = λ v. subst (λ (c : Count). RoseWith c (map (is_disk_fault net.site v) actions)) (sym (on.disk_counts v)) (disks_rose v);
    entropy_faults = λ v. subst (λ (c : Count). RoseWith c (map (is_random_fault v) actions)) (sym (on.entropy_counts v)) (entropies_rose v);
    device_faults = λ link. subst (λ (c : Count). RoseWith c (map (is_block_fault link) actions)) (sym (on.device_counts link)) (devices_rose link);
    wire_faults = λ l. subst (λ (c : Count). RoseWith c (map (is_wire_fault l) actions)) (sym (on.wire_counts l)) (wires_rose l);
    armed = λ v. subst (λ (a : Arming). IsArmedWith a (armings v actions)) (sym (on.armings v)) (disks_armed v);
  }
