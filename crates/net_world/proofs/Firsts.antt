-- A state that was laid out of a new bench stands for the world before any start.
use Rattle.std.proofs.Common.{◌≡◌, inl, inr, ℕ, zero, suc, ◌-◌, ◌<◌, ◌≤◌, true, IsTrue, List, [], ◌∷◌, length, take, refl, sym, ap, subst, ◌∙◌, arith, Option, Some, None}
use Rattle.std.specs.Prelude.{slice_get, IfSome, is_some}
use Rattle.std.specs.Option.{option_map}
use Rattle.std.proofs.lemmas.Bool.{ltb-true}
use Rattle.qkd_base.specs.declared.lane.Lane.{Lane}
use Rattle.net_model.specs.OctetSequence.{OctetSequence}
use Rattle.net_model.specs.Sealing.{IsSealing}
use Rattle.net_model.specs.World.{Network, first}
use Rattle.net_model.specs.Needed.{view_of}
use Rattle.net_model.specs.Fold.{view_restarted}
use Rattle.net_model.specs.Events.{is_lane}
use Rattle.declared_site.specs.SiteOf.{IsDeclared, site_of}
use Rattle.declared_site.specs.declared.site.Site.{Site as Declared}
use Rattle.hop_frames.specs.Sealing.{hop_sealing}
use Rattle.disk_model.specs.Images.{Only}
use Rattle.kme_base.specs.Up.{AreUp}
use Rattle.source_devices.specs.Telling.{IsRest}
use Rattle.lane_sender.specs.Lane.{LaneForm}
use Rattle.law_invariant.proofs.Steps.{first_keeps}
use Rattle.law_recovery.proofs.Empty.{first_empty}
use Rattle.law_recovery.specs.GivesBack.{GivesBack}
use Rattle.law_recovery.proofs.Restarting.{recovered_restarts, nothing_given}
use Rattle.world_state.specs.Passed.{Post, Off, IsRunning, LaneStands, EntropyStands, HoldsNothing, DownStands, PostStands}
use Rattle.world_state.proofs.Passed.{begins}
use Rattle.world_state.specs.Stands.{place_of, Stands}
use Rattle.world_state.specs.declared.state.State.{State}
use Rattle.net_world.specs.Laid.{unstarted, without_bytes, IsLaidOut}
use Rattle.net_world.specs.New.{IsNew, network_on}
use Rattle.net_world.specs.declared.bench.Bench.{Bench}
use Rattle.net_world.proofs.Lists.{some_is, mapped, at_take, all_at}
use Rattle.net_world.proofs.Bits.{all_up}
use Rattle.net_world.proofs.Networks.{told_by, is_network}
use Rattle.disk_model.specs.declared.disk.Disk as Disk
use Rattle.source_devices.specs.declared.entropy.Entropy as Entropy
use Rattle.source_devices.specs.declared.wire.Wire as Wire
use Rattle.world_state.specs.Outside.{Outside}

-- a node that was never started has a disk and an entropy

pub record Unstarted {K E : Type 0} (ks : List K) (es : List E) (v : ℕ) (p : Post K E) : Type 0 where
  pub disk : K
  pub entropy : E
  pub has_disk : slice_get ks v ≡ Some disk
  pub has_entropy : slice_get es v ≡ Some entropy
  pub is : p ≡ Off disk entropy

made_of : {K E : Type 0} (ks : List K) (es : List E) (v : ℕ) (p : Post K E) → slice_get (unstarted ks es) v ≡ Some p → Unstarted ks es v p
made_of [] es v p at = absurd (cc at)
made_of (k ∷ ks) [] v p at = absurd (cc at)
made_of (k ∷ ks) (e ∷ es) zero p at = record { disk = k; entropy = e; has_disk = refl; has_entropy = refl; is = sym (some_is at) }
made_of (k ∷ ks) (e ∷ es) (suc v) p at =
    let u = made_of ks es v p at in
    record { disk = u.disk; entropy = u.entropy; has_disk = u.has_disk; has_entropy = u.has_entropy; is = u.is }

pub unstarted_length : {K E : Type 0} (ks : List K) (es : List E) (n : ℕ) → length ks ≡ n → length es ≡ n → length (unstarted ks es) ≡ n
unstarted_length [] es n a b = a
unstarted_length (k ∷ ks) [] n a b = absurd (omega (arith, a, b))
unstarted_length (k ∷ ks) (e ∷ es) zero a b = absurd (omega (arith, a))
unstarted_length (k ∷ ks) (e ∷ es) (suc n) a b = ap suc (unstarted_length ks es n (omega (arith, a)) (omega (arith, b)))

pub taken_length : {A : Type 0} (n : ℕ) (xs : List A) → n ≤ length xs → length (take n xs) ≡ n
taken_length zero xs h = refl
taken_length (suc n) [] h = absurd (omega (arith, h))
taken_length (suc n) (x ∷ xs) h = ap suc (taken_length n xs (omega (arith, h)))

pub within_taken : {A : Type 0} (n : ℕ) (xs : List A) (i : ℕ) (x : A) → slice_get (take n xs) i ≡ Some x → i < n
within_taken zero xs i x at = absurd (cc at)
within_taken (suc n) [] i x at = absurd (cc at)
within_taken (suc n) (y ∷ xs) zero x at = omega arith
within_taken (suc n) (y ∷ xs) (suc i) x at = let rest = within_taken n xs i x at in omega (arith, rest)

-- if no octet was drawn, all are left

same_end : (o : Option ℕ) → o ≡ option_map (λ (e : ℕ). e - 0) o
same_end None = refl
same_end (Some e) = ap Some (omega arith)

pub all_left : (t : OctetSequence) → IsRest t 0 t
all_left t = record { octet = λ i. ap t.octet (omega arith); last = same_end t.end }

nothing_back : (net : Network) (v : ℕ) → GivesBack net.site v [] (view_of net first v)
nothing_back net v = recovered_restarts net.site v [] ∙ ap view_restarted (nothing_given net.site v ∙ sym (first_empty net v))

module _ {K : Type 0} (disk_says : Disk.Ghosts K) (net : Network) (v : ℕ) where
  empty_disk : HoldsNothing net first v []
  unfolding first
  empty_disk = record { blank = refl; certain = refl; empty = nothing_back net v; unused = inl (inl refl) }

  pub down_first : (disk : K) → IsTrue (disk_says.is_honest disk) → Only [] (disk_says.image disk (disk_says.moment disk)) → DownStands disk_says net first v disk
  unfolding first
  down_first disk honest empty = record {
    down = refl;
    honest = honest;
    fits = tt;
    images = λ i is. inr (inr (subst (HoldsNothing net first v) (sym (empty i is)) empty_disk));
  }

pub entropy_first : {E : Type 0} (entropy_says : Entropy.Ghosts E) (net : Network) (v : ℕ) (entropy : E) → entropy_says.left entropy ≡ Some (net.entropy v) → EntropyStands entropy_says net first v entropy
unfolding first
entropy_first entropy_says net v entropy tells = record { rest = net.entropy v; tells = tells; left = all_left (net.entropy v) }

pub no_frames : (n : ℕ) (o : Option (List (List ℕ))) → IfSome o (λ all. length all ≡ n) → o ≡ Some [] → n ≡ 0
no_frames n o counted none = sym (subst (λ (x : Option (List (List ℕ))). IfSome x (λ all. length all ≡ n)) none counted)

lane_first : {X : Type 0} (wire_says : Wire.Ghosts X) (net : Network) (l : Lane) (wire : X) → IfSome (wire_says.frames wire) (λ all. length all ≡ wire_says.counted wire) → wire_says.frames wire ≡ Some [] →
    LaneStands wire_says net first l (without_bytes l wire)
lane_first wire_says net l wire all none =
    begins wire_says net l wire all (no_frames (wire_says.counted wire) (wire_says.frames wire) all none) (ap is_some none) (without_bytes l wire) refl

pub node_first : {K Q E X : Type 0} (old stayed : Bench K Q E X) (site : Declared) (s : State K Q E X) → IsLaidOut old stayed site s → (v : ℕ) (p : Post K E) → slice_get s.posts.items v ≡ Some p →
    Unstarted old.disks.items old.entropies.items v p
node_first old stayed site s laid v p at =
    let nodes = (site_of site).nodes in
    let u = made_of (take nodes old.disks.items) (take nodes old.entropies.items) v p (ap (λ (ps : List (Post _ _)). slice_get ps v) (sym laid.posts) ∙ at) in
    let below : v < nodes = within_taken nodes old.disks.items v u.disk u.has_disk in
    record {
      disk = u.disk;
      entropy = u.entropy;
      has_disk = sym (at_take nodes old.disks.items v below) ∙ u.has_disk;
      has_entropy = sym (at_take nodes old.entropies.items v below) ∙ u.has_entropy;
      is = u.is;
    }

module _ {K Q E X : Type 0} (outside : Outside K Q E X) (all_counted : (wire : X) → IfSome (outside.wire.frames wire) (λ all. length all ≡ outside.wire.counted wire))
    (old stayed : Bench K Q E X) (new : IsNew outside old) (site : Declared) (declared : IsDeclared site) (sealing : IsSealing hop_sealing)
    (s : State K Q E X) (laid : IsLaidOut old stayed site s) where
  abbrev net : Network
  net = network_on outside.device outside.entropy old site

  abbrev nodes : ℕ
  nodes = (site_of site).nodes

  abbrev links : ℕ
  links = (site_of site).links

  -- there are at most 16 nodes and 32 links
  nodes_few : nodes ≤ 16
  nodes_few = declared.nodes

  links_few : links ≤ 32
  links_few = (is_network outside old new site declared sealing).site.links

  post_first : (v : ℕ) (p : Post K E) → slice_get s.posts.items v ≡ Some p → PostStands outside.disk outside.entropy net first v p
  post_first v p at =
      let u = node_first old stayed site s laid v p at in
      subst (λ (x : Post K E). PostStands outside.disk outside.entropy net first v x) (sym u.is) (
        entropy_first outside.entropy net v u.entropy (told_by outside.entropy.left old.entropies.items v u.entropy new.entropies u.has_entropy),
        down_first outside.disk net v u.disk (all_at (λ k. IsTrue (outside.disk.is_honest k)) old.disks.items v u.disk new.honest u.has_disk)
            (all_at (λ k. Only [] (outside.disk.image k (outside.disk.moment k))) old.disks.items v u.disk new.empty u.has_disk),
      )

  side_first : (l : Lane) (side : LaneForm X) → is_lane net.site l ≡ true → slice_get s.lanes.items (place_of l) ≡ Some side → LaneStands outside.wire net first l side
  side_first l side lane at =
      let m = mapped (without_bytes l) (slice_get old.wires.items (place_of l)) side (sym (laid.lanes l (ltb-true l.link links lane)) ∙ at) in
      subst (LaneStands outside.wire net first l) (sym m.2) (lane_first outside.wire net l m.0 (all_counted m.0) (all_at (λ x. outside.wire.frames x ≡ Some []) old.wires.items (place_of l) m.0 new.wires m.1))

  device_first : (link : ℕ) (q : Q) → slice_get s.devices.items link ≡ Some q → outside.device.told q ≡ Some (net.device link)
  device_first link q at =
      let taken = ap (λ (qs : List Q). slice_get qs link) (sym laid.devices) ∙ at in
      let below : link < links = within_taken links old.devices.items link q taken in
      told_by outside.device.told old.devices.items link q new.devices (sym (at_take links old.devices.items link below) ∙ taken)

  pub running_first : IsRunning net first
  running_first = record { network = is_network outside old new site declared sealing; conserved = first_keeps net; sealing = refl }

  pub stands_first : Stands outside s net first
  stands_first = record {
    running = running_first;
    sited = sym (ap site_of laid.sited);
    nodes = ap length laid.posts ∙ unstarted_length (take nodes old.disks.items) (take nodes old.entropies.items) nodes
        (taken_length nodes old.disks.items (omega (arith, nodes_few, new.whole.disks))) (taken_length nodes old.entropies.items (omega (arith, nodes_few, new.whole.entropies)));
    posts = post_first;
    sides = laid.sides;
    lanes = side_first;
    links = ap length laid.devices ∙ taken_length links old.devices.items (omega (arith, links_few, new.whole.devices));
    devices = device_first;
    up = subst (λ (n : ℕ). AreUp n first.link_up) (sym laid.up) all_up;
  }
