-- The counts of one action that changes at most one post.
use Rattle.std.proofs.Common.{◌≡◌, ℕ, ◌+◌, Bool, true, false, List, [], ◌∷◌, length, refl, sym, ap, subst, ◌∙◌, arith, Option, Some, None}
use Rattle.std.specs.Prelude.{slice_get, slice_set, cond}
use Rattle.std.specs.List.{filter_map, cons_option}
use Rattle.qkd_base.specs.declared.lane.Lane.{Lane}
use Rattle.disk_model.specs.declared.arm.Armings.{Armings}
use Rattle.net_model.specs.Site.{Site}
use Rattle.net_model.specs.Action.{Action, Fault}
use Rattle.net_model.specs.Faults.{disk_faults, entropy_faults, device_faults, wire_faults, armings, is_disk_fault, is_random_fault, is_block_fault, is_wire_fault, fault_armed}
use Rattle.world_nodes.specs.Passed.{Post}
use Rattle.lane_sender.specs.Lane.{LaneForm}
use Rattle.world_nodes.specs.Counts.{disk_of, entropy_of, IsCounted, Counts}
use Rattle.world_nodes.proofs.Counted.{unchanged}
use Rattle.world_state.specs.Stands.{place_of}
use Rattle.world_state.specs.Tallied.{Counted, IsArmedBy, PostTallied, Tallied}
use Rattle.world_state.specs.declared.state.State.{State}
use Rattle.world_state.proofs.Changes.{OnePost, posts_same}
use Rattle.world_state.proofs.Others.{each_placed}
use Rattle.world_state.proofs.Tallies.{none_counted}
use Rattle.world_state.specs.Outside.{Outside}

some_is : {A : Type 0} {a b : A} → ◌≡◌ {A = Option A} (Some a) (Some b) → a ≡ b
some_is h = cc

-- the counts of one action

abbrev once : Bool → ℕ
once fault = 0 + cond fault 1 0

pub counted_once : (fault : Bool) (before now : ℕ) → IsCounted fault before now → Counted (once fault) before now
counted_once true before now h = record { rose = h.rose refl; calm = λ none. omega (arith, none) }
counted_once false before now h = subst (Counted 0 before) (sym (h.calm refl)) (none_counted before)

pub still_counted : (fault : Bool) (n : ℕ) → fault ≡ false → Counted (once fault) n n
still_counted false n is = none_counted n
still_counted true n is = cc

no_item : {A B : Type 0} (f : A → Option B) (x : A) → f x ≡ None → filter_map f (x ∷ []) ≡ []
no_item f x h = ap (λ o. cons_option o []) h

not_armed : (f : Action → Option Fault) (a : Action) (before now : Armings) → f a ≡ None → now ≡ before → IsArmedBy (filter_map f (a ∷ [])) before now
not_armed f a before now none same =
    subst (λ (fs : List Fault). IsArmedBy fs before now) (sym (no_item f a none)) (subst (λ (n : Armings). IsArmedBy [] before n) (sym same) (record { times = omega arith; last = refl }))

-- The action is one at this post: only parts of this post can fail in it, and just these did. It arms no disk.
pub record CountsOne (site : Site) (a : Action) (v : ℕ) (disk_fault entropy_fault : Bool) : Type 0 where
  pub disk : is_disk_fault site v a ≡ disk_fault
  pub entropy : is_random_fault v a ≡ entropy_fault
  pub armed : (u : ℕ) → fault_armed u a ≡ None
  pub disks : (u : ℕ) → (u ≡ v → ⊥) → is_disk_fault site u a ≡ false
  pub entropies : (u : ℕ) → (u ≡ v → ⊥) → is_random_fault u a ≡ false

-- No device and no wire fails in the action.
pub record CountsNoOther (a : Action) : Type 0 where
  pub devices : (link : ℕ) → is_block_fault link a ≡ false
  pub wires : (l : Lane) → is_wire_fault l a ≡ false

module _ {K Q E X : Type 0} (outside : Outside K Q E X) (site : Site) (a : Action) where
  -- the counts at the post of the action
  pub post_once : (v : ℕ) (disk_fault entropy_fault : Bool) (p q : Post K E) → is_disk_fault site v a ≡ disk_fault → is_random_fault v a ≡ entropy_fault →
      fault_armed v a ≡ None → Counts outside.disk outside.entropy disk_fault entropy_fault p q → PostTallied outside.disk outside.entropy site v (a ∷ []) p q
  unfolding disk_faults entropy_faults armings
  post_once v disk_fault entropy_fault p q disk entropy none c = record {
    before = c.before;
    now = c.now;
    was = c.was;
    is = c.is;
    failed = counted_once (is_disk_fault site v a) (outside.disk.faults c.before) (outside.disk.faults c.now) (subst (λ (f : Bool). IsCounted f (outside.disk.faults c.before) (outside.disk.faults c.now)) (sym disk) c.disk);
    armed_with = not_armed (fault_armed v) a (outside.disk.armings c.before) (outside.disk.armings c.now) none c.arms;
    refused = counted_once (is_random_fault v a) (outside.entropy.faults (entropy_of p)) (outside.entropy.faults (entropy_of q))
        (subst (λ (f : Bool). IsCounted f (outside.entropy.faults (entropy_of p)) (outside.entropy.faults (entropy_of q))) (sym entropy) c.entropy);
  }

  -- the counts at a post that doesn't change
  pub post_still : (v : ℕ) (p : Post K E) → (k : K) × (disk_of p ≡ Some k) → is_disk_fault site v a ≡ false → is_random_fault v a ≡ false → fault_armed v a ≡ None →
      PostTallied outside.disk outside.entropy site v (a ∷ []) p p
  post_still v p k disk entropy none = post_once v false false p p disk entropy none (unchanged outside.disk outside.entropy p k.0 k.1)

  abbrev HasDisks : State K Q E X → Type 0
  HasDisks s = (v : ℕ) (p : Post K E) → slice_get s.posts.items v ≡ Some p → (k : K) × (disk_of p ≡ Some k)

  module _ (old new : State K Q E X) where
    abbrev Devices : Type 0
    Devices = (link : ℕ) (p q : Q) → slice_get old.devices.items link ≡ Some p → slice_get new.devices.items link ≡ Some q → Counted (once (is_block_fault link a)) (outside.device.faults p) (outside.device.faults q)

    abbrev Wires : Type 0
    Wires = (l : Lane) (p q : LaneForm X) → slice_get old.lanes.items (place_of l) ≡ Some p → slice_get new.lanes.items (place_of l) ≡ Some q → Counted (once (is_wire_fault l a)) (outside.wire.faults p.wire) (outside.wire.faults q.wire)

    abbrev Posts : Type 0
    Posts = (v : ℕ) (p q : Post K E) → slice_get old.posts.items v ≡ Some p → slice_get new.posts.items v ≡ Some q → PostTallied outside.disk outside.entropy site v (a ∷ []) p q

    pub devices_still : new.devices.items ≡ old.devices.items → ((link : ℕ) → is_block_fault link a ≡ false) → Devices
    devices_still same none link p q was is =
        let one : p ≡ q = some_is (sym was ∙ ap (λ (xs : List Q). slice_get xs link) (sym same) ∙ is) in
        subst (λ (x : Q). Counted (once (is_block_fault link a)) (outside.device.faults p) (outside.device.faults x)) one (still_counted (is_block_fault link a) (outside.device.faults p) (none link))

    pub wires_still : new.lanes.items ≡ old.lanes.items → ((l : Lane) → is_wire_fault l a ≡ false) → Wires
    wires_still same none l p q was is =
        let one : p ≡ q = some_is (sym was ∙ ap (λ (xs : List (LaneForm X)). slice_get xs (place_of l)) (sym same) ∙ is) in
        subst (λ (x : LaneForm X). Counted (once (is_wire_fault l a)) (outside.wire.faults p.wire) (outside.wire.faults x.wire)) one (still_counted (is_wire_fault l a) (outside.wire.faults p.wire) (none l))

    pub posts_still : HasDisks old → new.posts.items ≡ old.posts.items → ((v : ℕ) → (is_disk_fault site v a ≡ false) × (is_random_fault v a ≡ false) × (fault_armed v a ≡ None)) → Posts
    posts_still disks same none v p q was is =
        let one : p ≡ q = some_is (sym was ∙ ap (λ (xs : List (Post K E)). slice_get xs v) (sym same) ∙ is) in
        subst (λ (x : Post K E). PostTallied outside.disk outside.entropy site v (a ∷ []) p x) one (post_still v p (disks v p was) (none v).0 (none v).1 (none v).2)

    pub posts_one : HasDisks old → (v : ℕ) (p q : Post K E) → slice_get old.posts.items v ≡ Some p → new.posts.items ≡ slice_set old.posts.items v q → PostTallied outside.disk outside.entropy site v (a ∷ []) p q →
        ((u : ℕ) → (u ≡ v → ⊥) → (is_disk_fault site u a ≡ false) × (is_random_fault u a ≡ false) × (fault_armed u a ≡ None)) → Posts
    posts_one disks v p q there set here others u x y was is =
        each_placed old.posts.items new.posts.items v q set (λ n z. (t : Post K E) → slice_get old.posts.items n ≡ Some t → PostTallied outside.disk outside.entropy site n (a ∷ []) t z)
        (λ t at. let same : p ≡ t = some_is (sym there ∙ at) in subst (λ (s : Post K E). PostTallied outside.disk outside.entropy site v (a ∷ []) s q) same here)
        (λ n z other at t stood.
        let same : z ≡ t = some_is (sym at ∙ stood) in
        subst (λ (s : Post K E). PostTallied outside.disk outside.entropy site n (a ∷ []) s z) same (post_still n z (disks n z at) (others n other).0 (others n other).1 (others n other).2))
        u y is x was

    pub all_tallied : length new.posts.items ≡ length old.posts.items → length new.devices.items ≡ length old.devices.items → length new.lanes.items ≡ length old.lanes.items →
        Posts → Devices → Wires → Tallied outside old new site (a ∷ [])
    unfolding device_faults wire_faults
    all_tallied nodes links sides posts devices wires = record { nodes = nodes; posts = posts; links = links; devices = devices; sides = sides; wires = wires }

    -- If only one post changed, its counts give the counts of the whole state.
    pub one_post_tallied : HasDisks old → (v : ℕ) (p q : Post K E) (disk_fault entropy_fault : Bool) → OnePost old new v p q → CountsOne site a v disk_fault entropy_fault → CountsNoOther a →
        Counts outside.disk outside.entropy disk_fault entropy_fault p q → Tallied outside old new site (a ∷ [])
    one_post_tallied disks v p q disk_fault entropy_fault one counts rest c =
        all_tallied (posts_same old new v p q one) (ap length one.devices) (ap length one.lanes)
        (posts_one disks v p q one.there one.posts (post_once v disk_fault entropy_fault p q counts.disk counts.entropy (counts.armed v) c) (λ u other. (counts.disks u other, counts.entropies u other, counts.armed u)))
        (devices_still one.devices rest.devices) (wires_still one.lanes rest.wires)
