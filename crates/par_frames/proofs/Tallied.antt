-- Sequences of actions with the same faults have the same counts of failures.
use Rattle.std.proofs.Common.{◌≡◌, ℕ, Bool, false, List, [], ◌∷◌, ◌++◌, length, map, refl, sym, ◌∙◌, ap, subst, arith, Option, Some, None}
use Rattle.std.specs.Prelude.{slice_get, count_by, filter_map}
use Rattle.std.specs.List.{cons_option}
use Rattle.qkd_base.specs.declared.lane.Lane.{Lane}
use Rattle.net_model.specs.Site.{Site, count_up}
use Rattle.net_model.specs.World.{Network, World}
use Rattle.net_model.specs.Action.{Action, Fault, Complete}
use Rattle.net_model.specs.BlockOrder.{completions}
use Rattle.net_model.specs.Faults.{is_disk_fault, is_random_fault, is_block_fault, is_wire_fault, fault_armed, disk_faults, entropy_faults, device_faults, wire_faults, armings}
use Rattle.run_model.specs.Works.{Work, actions_in, flat, block_run}
use Rattle.run_ops.specs.declared.job.Job.{Job}
use Rattle.lane_sender.specs.Lane.{LaneForm}
use Rattle.law_locality.proofs.Counting.{one_if, count_more}
use Rattle.law_parallel.proofs.Counting.{count-append}
use Rattle.law_parallel.specs.Logs.{Deed}
use Rattle.law_parallel.specs.LaneWorks.{IsLaneBlock, works_of, wire_faults_in}
use Rattle.world_state.specs.Stands.{place_of}
use Rattle.world_state.specs.Passed.{Post, entropy_of}
use Rattle.world_state.specs.Tallied.{Counted, IsArmedBy, PostTallied, Tallied}
use Rattle.world_state.specs.declared.state.State.{State}
use Rattle.world_state.specs.Outside.{Outside}

-- ---- a note counts as no failure

none_noted : (p : Action → Bool) → ((v : ℕ) → p (Complete v) ≡ false) → (vs : List ℕ) → count_by p (map (λ v. Complete v) vs) ≡ 0
none_noted p h [] = refl
none_noted p h (v ∷ vs) =
    let rest = none_noted p h vs in
    let more = count_more p (Complete v) (map (λ u. Complete u) vs) in
    let none : one_if (p (Complete v)) ≡ 0 = ap one_if (h v) in
    omega (arith, rest, more, none)

module _ {A : Type 0} (f : Action → Option A) (h : (v : ℕ) → f (Complete v) ≡ None) where
  none_listed : (vs : List ℕ) → filter_map f (map (λ v. Complete v) vs) ≡ []
  none_listed [] = refl
  none_listed (v ∷ vs) = ap (λ (x : Option A). cons_option x (filter_map f (map (λ u. Complete u) vs))) (h v) ∙ none_listed vs

  listed_before : (xs : List Action) (vs : List ℕ) → filter_map f xs ≡ filter_map f (xs ++ map (λ v. Complete v) vs)
  listed_before [] vs = sym (none_listed vs)
  listed_before (x ∷ xs) vs = ap (cons_option (f x)) (listed_before xs vs)

module _ (net : Network) (xs : List Action) where
  counted_before : (p : Action → Bool) → ((v : ℕ) → p (Complete v) ≡ false) → count_by p xs ≡ count_by p (xs ++ completions net)
  counted_before p h =
      let all = count-append p xs (completions net) in
      let none = none_noted p h (count_up net.site.nodes) in
      omega (arith, all, none)

  disks_before : (v : ℕ) → disk_faults net.site v xs ≡ disk_faults net.site v (xs ++ completions net)
  unfolding disk_faults
  disks_before v = counted_before (is_disk_fault net.site v) (λ u. refl)

  entropies_before : (v : ℕ) → entropy_faults v xs ≡ entropy_faults v (xs ++ completions net)
  unfolding entropy_faults
  entropies_before v = counted_before (is_random_fault v) (λ u. refl)

  devices_before : (link : ℕ) → device_faults link xs ≡ device_faults link (xs ++ completions net)
  unfolding device_faults
  devices_before link = counted_before (is_block_fault link) (λ u. refl)

  wires_before : (l : Lane) → wire_faults l xs ≡ wire_faults l (xs ++ completions net)
  unfolding wire_faults
  wires_before l = counted_before (is_wire_fault l) (λ u. refl)

  armed_before : (v : ℕ) → armings v xs ≡ armings v (xs ++ completions net)
  unfolding armings
  armed_before v = listed_before (fault_armed v) (λ u. refl) xs (count_up net.site.nodes)

-- ---- sequences with the same failures

-- the same failures of all parts except the wires
pub record FailAlike (site : Site) (xs ys : List Action) : Type 0 where
  pub disks : (v : ℕ) → disk_faults site v xs ≡ disk_faults site v ys
  pub entropies : (v : ℕ) → entropy_faults v xs ≡ entropy_faults v ys
  pub devices : (link : ℕ) → device_faults link xs ≡ device_faults link ys
  pub armed : (v : ℕ) → armings v xs ≡ armings v ys

module _ {K Q E X : Type 0} (outside : Outside K Q E X) where
  abbrev All : State K Q E X → State K Q E X → Site → List Action → Type 0
  All a b site actions = Tallied outside a b site actions

  abbrev pub WiresCounted : (Lane → ℕ) → State K Q E X → State K Q E X → Type 0
  WiresCounted failures old new =
      (l : Lane) (p q : LaneForm X) → slice_get old.lanes.items (place_of l) ≡ Some p → slice_get new.lanes.items (place_of l) ≡ Some q →
      Counted (failures l) (outside.wire.faults p.wire) (outside.wire.faults q.wire)

  module _ (site : Site) (xs ys : List Action) (same : FailAlike site xs ys) where
    post_same : (v : ℕ) (p q : Post K E) → PostTallied outside.disk outside.entropy site v ys p q → PostTallied outside.disk outside.entropy site v xs p q
    post_same v p q h = record {
      before = h.before;
      now = h.now;
      was = h.was;
      is = h.is;
      failed = subst (λ (n : ℕ). Counted n (outside.disk.faults h.before) (outside.disk.faults h.now)) (sym (same.disks v)) h.failed;
      armed_with = subst (λ (fs : List Fault). IsArmedBy fs (outside.disk.armings h.before) (outside.disk.armings h.now)) (sym (same.armed v)) h.armed_with;
      refused = subst (λ (n : ℕ). Counted n (outside.entropy.faults (entropy_of p)) (outside.entropy.faults (entropy_of q))) (sym (same.entropies v)) h.refused;
    }

    -- each wire failed as often as it counted
    pub tallied_alike : (old mid new : State K Q E X) → new.posts.items ≡ mid.posts.items → new.devices.items ≡ mid.devices.items → length new.lanes.items ≡ length old.lanes.items →
        WiresCounted (λ l. wire_faults l xs) old new → All old mid site ys → All old new site xs
    tallied_alike old mid new posts devices sides wires h = record {
      nodes = ap length posts ∙ h.nodes;
      posts = λ v p q was is. post_same v p q (h.posts v p q was (ap (λ (ps : List (Post K E)). slice_get ps v) (sym posts) ∙ is));
      links = ap length devices ∙ h.links;
      devices = λ link p q was is.
          subst (λ (n : ℕ). Counted n (outside.device.faults p) (outside.device.faults q)) (sym (same.devices link)) (h.devices link p q was (ap (λ (qs : List Q). slice_get qs link) (sym devices) ∙ is));
      sides = sides;
      wires = wires;
    }

  -- notes at the end change no count
  pub noted_apart : (old new : State K Q E X) (net : Network) (xs : List Action) → All old new net.site (xs ++ completions net) → All old new net.site xs
  noted_apart old new net xs h =
      tallied_alike net.site xs (xs ++ completions net) (record { disks = disks_before net xs; entropies = entropies_before net xs; devices = devices_before net xs; armed = armed_before net xs })
      old new new refl refl h.sides (λ l p q was is. subst (λ (n : ℕ). Counted n (outside.wire.faults p.wire) (outside.wire.faults q.wire)) (sym (wires_before net xs l)) (h.wires l p q was is)) h

  -- If the managers' turns of a block are counted, and each wire's failures are those in its lane's log, then the whole block is counted.
  pub block_tallied : (net : Network) (workers : ℕ) (w : World) (jobs : List Job) (histories : List (List Work)) (logs : Lane → List Deed) → IsLaneBlock net workers w jobs histories logs →
      (old mid new : State K Q E X) → new.posts.items ≡ mid.posts.items → new.devices.items ≡ mid.devices.items → length new.lanes.items ≡ length old.lanes.items →
      WiresCounted (λ l. wire_faults_in (logs l)) old new → All old mid net.site (actions_in (flat histories)) → All old new net.site (block_run net (works_of net w histories logs))
  block_tallied net workers w jobs histories logs b old mid new posts devices sides wires h =
      tallied_alike net.site (block_run net (works_of net w histories logs)) (actions_in (flat histories))
      (record { disks = b.disks; entropies = b.entropies; devices = b.devices; armed = b.armed }) old mid new posts devices sides
      (λ l p q was is. subst (λ (n : ℕ). Counted n (outside.wire.faults p.wire) (outside.wire.faults q.wire)) (sym (b.wires l)) (wires l p q was is)) h
