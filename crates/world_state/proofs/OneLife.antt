-- A manager's life ends, or a disk is armed: one post changes.
use Rattle.std.proofs.Common.{◌≡◌, ℕ, zero, suc, ◌+◌, ◌<◌, ◌≤◌, Bool, true, false, ◌&&◌, List, [], ◌∷◌, length, refl, sym, ap, subst, ◌∙◌, arith, Option, Some, None}
use Rattle.std.specs.Prelude.{◌==◌, nat_lt, slice_get, slice_set, if◌then◌else◌}
use Rattle.std.specs.List.{list_all, filter_map, cons_option, insert, remove}
use Rattle.std.specs.Option.{option_map}
use Rattle.std.proofs.lemmas.Bool.{ltb-true}
use Rattle.qkd_base.specs.declared.lane.Lane.{Lane}
use Rattle.disk_model.specs.declared.arm.Arm.{Arm as DiskArm}
use Rattle.disk_model.specs.declared.arm.Armings.{Armings}
use Rattle.net_model.specs.Journal.{is_nil}
use Rattle.net_model.specs.Site.{Site, outgoing_lanes}
use Rattle.net_model.specs.World.{Network, World}
use Rattle.net_model.specs.Action.{Fault, Crash, Arm, Armed}
use Rattle.net_model.specs.Faults.{disk_faults, entropy_faults, armings, fault_armed}
use Rattle.net_model.specs.Step.{is_node, is_sent, is_quiet, is_enabled}
use Rattle.declared_site.specs.SiteOf.{site_of}
use Rattle.world_nodes.specs.Passed.{HasDisk, Standing, Up, Down, Between, Post, On, Off}
use Rattle.law_base.proofs.Base.{and_both, eq_same, eq_from, not_false, when_true}
use Rattle.run_ops.specs.Reported.{crashed}
use Rattle.run_ops.specs.Fitting.{is_fit}
use Rattle.run_ops.specs.Quiet.{IsQuiet}
use Rattle.run_ops.specs.Acting.{IsReady, Does, fault_of}
use Rattle.world_nodes.specs.Counts.{disk_in, disk_of, entropy_of}
use Rattle.world_nodes.specs.Handled.{OnDisk}
use Rattle.world_nodes.specs.Lives.{MayCrash, HasCrashed, MayArm, HasArmed, IsArmedWith}
use Rattle.world_nodes.proofs.Counted.{post_disk}
use Rattle.world_state.specs.Armed.{times_of, most_armed}
use Rattle.world_state.specs.Stands.{Stands}
use Rattle.world_state.specs.Tallied.{IsArmedBy, PostTallied, Tallied}
use Rattle.world_state.specs.declared.state.State.{State}
use Rattle.world_state.proofs.Armed.{most_more, below_most}
use Rattle.world_state.proofs.Changes.{OnePost, posts_same}
use Rattle.world_state.proofs.Disks.{has_disks}
use Rattle.world_state.proofs.OnePost.{ChangesOne, done, done_counted}
use Rattle.world_state.proofs.OneTallied.{CountsOne, counted_once, all_tallied, posts_one, devices_still, wires_still}
use Rattle.disk_model.specs.declared.disk.Disk as Disk
use Rattle.source_devices.specs.declared.entropy.Entropy as Entropy
use Rattle.world_state.specs.Outside.{Outside}

some_is : {A : Type 0} {a b : A} → ◌≡◌ {A = Option A} (Some a) (Some b) → a ≡ b
some_is h = cc

-- An item is taken out of a list and put back changed.

pub put_back : {A : Type 0} (xs : List A) (i : ℕ) (x y : A) → slice_get xs i ≡ Some x → insert (remove xs i) i y ≡ slice_set xs i y
put_back [] i x y at = cc
put_back (z ∷ zs) zero x y at = refl
put_back (z ∷ zs) (suc i) x y at = ap (λ rest. z ∷ rest) (put_back zs i x y at)

pub put_in : {A : Type 0} (xs taken now : List A) (i : ℕ) (x y : A) (there : Bool) → slice_get xs i ≡ Some x → taken ≡ remove xs i → now ≡ (if there then insert taken i y else taken) → there ≡ true →
    now ≡ slice_set xs i y
put_in {A} xs taken now i x y there at is new ok =
    new ∙ when_true there (insert taken i y) taken ok ∙ ap (λ (rest : List A). insert rest i y) is ∙ put_back xs i x y at

elsewhere : (v u : ℕ) → (u ≡ v → ⊥) → (v == u) ≡ false
elsewhere v u other = not_false (v == u) (λ e. other (sym (eq_from v u e)))

-- ---- a crash

sent : (w : World) → IsQuiet w → (ls : List Lane) → list_all (λ l. is_nil (w.unclaimed l) && is_nil (w.outgoing l)) ls ≡ true
sent w q [] = refl
sent w q (l ∷ ls) = and_both (is_nil (w.unclaimed l) && is_nil (w.outgoing l)) _ (and_both (is_nil (w.unclaimed l)) (is_nil (w.outgoing l)) (ap is_nil (q.claimed l)) (ap is_nil (q.put l))) (sent w q ls)

pub node_quiet : (net : Network) (w : World) (v : ℕ) → IsQuiet w → is_quiet net w v ≡ true
node_quiet net w v q = and_both (is_sent net w v) (is_nil (w.placings v)) (sent w q (outgoing_lanes net.site v)) (ap is_nil (q.noted v))

may_end : (net : Network) (w : World) (v : ℕ) → is_node net v ≡ true → is_quiet net w v ≡ true → is_enabled net w (Crash v) ≡ true
unfolding is_enabled
may_end net w v node quiet = and_both (is_node net v) (is_quiet net w v) node quiet

crash_one : (s : Site) (v : ℕ) → ChangesOne s (Crash v) v
crash_one s v = record { nodes = λ u other. elsewhere v u other; lanes = λ l. refl; links = λ link. refl; sends = refl }

crash_counted : (s : Site) (v : ℕ) → CountsOne s (Crash v) v false false
crash_counted s v = record { disk = refl; entropy = refl; armed = λ u. refl; disks = λ u other. refl; entropies = λ u other. refl }

pub node_below : {K Q E X : Type 0} (outside : Outside K Q E X) (old : State K Q E X) (net : Network) (w : World) (v : ℕ) → IsReady (Stands outside) old net w →
    nat_lt v (site_of old.site).nodes ≡ true → v < length old.posts.items
node_below outside old net w v ready fit =
    let below = ltb-true v (site_of old.site).nodes fit in
    let nodes = ready.stands.nodes ∙ ap (λ (s : Site). s.nodes) ready.stands.sited in
    omega (arith, below, nodes)

module _ {K Q E X : Type 0} (outside : Outside K Q E X) (old : State K Q E X) (net : Network) (w : World) (v : ℕ)
    (ready : IsReady (Stands outside) old net w) (p : Post K E) (there : slice_get old.posts.items v ≡ Some p) where
  pub may_crash : is_fit (site_of old.site) (Crash v) ≡ true → MayCrash outside.disk outside.entropy net w v p
  may_crash fit = record {
    running = ready.stands.running;
    stands = ready.stands.posts v p there;
    enabled = may_end net w v (subst (λ (s : Site). is_fit s (Crash v) ≡ true) (sym ready.stands.sited) fit) (node_quiet net w v ready.quiet);
  }

  module _ (new : State K Q E X) (q : Post K E) (change : OnePost old new v p q) where
    pub crash_done : (was_up : Bool) → HasCrashed outside.disk outside.entropy net w v p q was_up →
        Does (Stands outside) (Tallied outside) old new net w (Crash v) (crashed was_up)
    crash_done was_up h =
        done_counted outside old new net w v p q change ready
        (Crash v) h.may (crash_one net.site v) h.stands (Crash v) (crashed was_up) refl h.said false false (crash_counted net.site v) (record { devices = λ link. refl; wires = λ l. refl }) h.counts

-- ---- arming a disk

arm_one : (s : Site) (v : ℕ) (fault : Fault) → ChangesOne s (Arm v fault) v
arm_one s v fault = record { nodes = λ u other. refl; lanes = λ l. refl; links = λ link. refl; sends = refl }

may_arm_node : (net : Network) (w : World) (v : ℕ) (fault : Fault) → is_node net v ≡ true → is_enabled net w (Arm v fault) ≡ true
unfolding is_enabled
may_arm_node net w v fault node = node

armed_here : (v : ℕ) (fault : Fault) → filter_map (fault_armed v) (Arm v fault ∷ []) ≡ fault ∷ []
armed_here v fault = ap (λ (t : Bool). cons_option (if t then Some fault else None) []) (eq_same v)

armed_elsewhere : (v u : ℕ) (fault : Fault) → (u ≡ v → ⊥) → fault_armed u (Arm v fault) ≡ None
armed_elsewhere v u fault other = ap (λ (t : Bool). if t then Some fault else None) (elsewhere v u other)

is_armed : (arm : DiskArm) (before now : Armings) → now ≡ record { count = before.count + 1; last = Some arm } → IsArmedBy (fault_of arm ∷ []) before now
is_armed arm before now is = record { times = ap (λ (a : Armings). a.count) is; last = ap (λ (a : Armings). option_map fault_of a.last) is }

on_standing : {K : Type 0} (P : K → Type 0) (s : Standing K) (k : K) → disk_in s ≡ Some k → P k → HasDisk P s
on_standing P (Up journal) k is h = subst P (sym (some_is is)) h
on_standing P (Down disk) k is h = subst P (sym (some_is is)) h
on_standing P Between k is h = cc

on_disk : {K E : Type 0} (P : K → Type 0) (p : Post K E) (k : K) → disk_of p ≡ Some k → P k → OnDisk P p
on_disk P (On m) k is h = on_standing P m.standing k is h
on_disk P (Off disk entropy) k is h = subst P (sym (some_is is)) h

module _ {K E : Type 0} (disk_says : Disk.Ghosts K) (entropy_says : Entropy.Ghosts E) (arm : DiskArm) (p q : Post K E) (h : IsArmedWith disk_says entropy_says arm p q) where
  pub post_armed : (s : Site) (v : ℕ) → PostTallied disk_says entropy_says s v (Arm v (fault_of arm) ∷ []) p q
  unfolding disk_faults entropy_faults armings
  post_armed s v = record {
    before = h.before;
    now = h.now;
    was = h.was;
    is = h.is;
    failed = counted_once false (disk_says.faults h.before) (disk_says.faults h.now) h.disk;
    armed_with = subst (λ (fs : List Fault). IsArmedBy fs (disk_says.armings h.before) (disk_says.armings h.now)) (sym (armed_here v (fault_of arm))) (is_armed arm (disk_says.armings h.before) (disk_says.armings h.now) h.arms);
    refused = counted_once false (entropy_says.faults (entropy_of p)) (entropy_says.faults (entropy_of q)) h.entropy;
  }

  once_more : times_of disk_says (disk_of q) ≡ times_of disk_says (disk_of p) + 1
  once_more = ap (times_of disk_says) h.is ∙ ap (λ (a : Armings). a.count) h.arms ∙ sym (ap (λ (n : ℕ). n + 1) (ap (times_of disk_says) h.was))

  pub most_after : (ps : List (Post K E)) (v : ℕ) → slice_get ps v ≡ Some p → most_armed disk_says (slice_set ps v q) ≤ most_armed disk_says ps + 1
  most_after ps v at = most_more disk_says ps v p q at once_more

module _ {K Q E X : Type 0} (outside : Outside K Q E X) (old : State K Q E X) (net : Network) (w : World) (v : ℕ)
    (ready : IsReady (Stands outside) old net w) (p : Post K E) (there : slice_get old.posts.items v ≡ Some p) where
  pub few_before : (top : ℕ) → most_armed outside.disk old.posts.items < top → OnDisk (λ disk. (outside.disk.armings disk).count < top) p
  few_before top few =
      let disk = post_disk outside.disk net w v outside.entropy p (ready.stands.posts v p there) in
      on_disk (λ k. (outside.disk.armings k).count < top) p disk.0 disk.1
      (subst (λ (o : Option K). times_of outside.disk o < top) disk.1 (below_most outside.disk old.posts.items v p top there few))

  pub may_arm : (fault : Fault) → is_fit (site_of old.site) (Arm v fault) ≡ true → MayArm outside.disk outside.entropy net w v fault p
  may_arm fault fit = record {
    stands = ready.stands.posts v p there;
    enabled = may_arm_node net w v fault (subst (λ (s : Site). is_fit s (Arm v fault) ≡ true) (sym ready.stands.sited) fit);
  }

  pub arm_done : (new : State K Q E X) (q : Post K E) (change : OnePost old new v p q) (arm : DiskArm) →
      IsArmedWith outside.disk outside.entropy arm p q → HasArmed outside.disk outside.entropy net w v (fault_of arm) q →
      Does (Stands outside) (Tallied outside) old new net w (Arm v (fault_of arm)) Armed
  arm_done new q change arm counts h =
      let a = Arm v (fault_of arm) in
      done outside old new net w v p q change ready
      a h.may (arm_one net.site v (fault_of arm)) h.stands a Armed refl h.said
      (all_tallied outside net.site a old new (posts_same old new v p q change) (ap length change.devices) (ap length change.lanes)
      (posts_one outside net.site a old new (has_disks outside old net w ready.stands) v p q change.there change.posts
      (post_armed outside.disk outside.entropy arm p q counts net.site v) (λ u other. (refl, refl, armed_elsewhere v u (fault_of arm) other)))
      (devices_still outside net.site a old new change.devices (λ link. refl))
      (wires_still outside net.site a old new change.lanes (λ l. refl)))
