-- The counts of a block's faults.
use Rattle.std.proofs.Common.{◌≡◌, ℕ, ◌+◌, ◌*◌, ◌<◌, Bool, true, false, List, [], ◌∷◌, ◌++◌, length, map, refl, sym, ◌∙◌, ap, subst, arith, Some}
use Rattle.std.specs.Prelude.{cond, count_by, slice_get, filter_map}
use Rattle.std.proofs.lemmas.Bool.{lt-ltb}
use Rattle.std.proofs.lemmas.List.{append-nil}
use Rattle.std.proofs.lemmas.List.Sums.{sum_by-append}
use Rattle.std.proofs.lemmas.List.Elements.{filter_map-append}
use Rattle.std.proofs.lemmas.Option.{slice_get_within}
use Rattle.qkd_base.specs.declared.lane.Lane.{Lane}
use Rattle.qkd_base.specs.declared.lane.Way.{Way}
use Rattle.qkd_base.specs.declared.lane.Way.TheVariants.{Up, Down}
use Rattle.net_model.specs.Site.{Site, count_up}
use Rattle.net_model.specs.World.{Network, World}
use Rattle.net_model.specs.Events.{is_lane}
use Rattle.net_model.specs.Action.{Action, Complete, Fault}
use Rattle.net_model.specs.BlockOrder.{completions}
use Rattle.net_model.specs.Faults.{disk_faults, entropy_faults, device_faults, wire_faults, armings, is_disk_fault, is_random_fault, is_block_fault, is_wire_fault, fault_armed}
use Rattle.run_model.specs.Works.{Work, actions_in, flat, block_run}
use Rattle.run_ops.specs.declared.job.Job.{Job}
use Rattle.world_state.specs.Passed.{Post, entropy_of}
use Rattle.lane_sender.specs.Lane.{LaneForm}
use Rattle.law_locality.proofs.Counting.{one_if, count_more}
use Rattle.world_state.specs.Stands.{of_way, place_of}
use Rattle.world_state.specs.Tallied.{Counted, IsArmedBy, PostTallied, Tallied}
use Rattle.world_state.specs.declared.state.State.{State}
use Rattle.world_state.proofs.OneSide.{some_same}
use Rattle.world_state.proofs.Tallies.{tallied_more}
use Rattle.law_parallel.specs.LaneWorks.{works_of}
use Rattle.par_frames.specs.Blocks.{LanesWorked, LanesLeft}
use Rattle.par_frames.specs.States.{HasLanes}
use Rattle.world_state.specs.Outside.{Outside}

-- No part fails in a note.

none_failed : (p : Action → Bool) → ((v : ℕ) → p (Complete v) ≡ false) → (vs : List ℕ) → count_by p (map (λ v. Complete v) vs) ≡ 0
none_failed p never [] = refl
none_failed p never (v ∷ vs) =
    let rest = none_failed p never vs in
    let more = count_more p (Complete v) (map (λ n. Complete n) vs) in
    let none : one_if (p (Complete v)) ≡ 0 = ap one_if (never v) in omega (arith, rest, more, none)

none_more : (p : Action → Bool) → ((v : ℕ) → p (Complete v) ≡ false) → (xs : List Action) (vs : List ℕ) → count_by p (xs ++ map (λ v. Complete v) vs) ≡ count_by p xs
none_more p never xs vs =
    let both = sum_by-append (λ a. cond (p a) 1 0) xs (map (λ v. Complete v) vs) in
    let none = none_failed p never vs in omega (arith, both, none)

none_armed : (v : ℕ) (vs : List ℕ) → filter_map (fault_armed v) (map (λ u. Complete u) vs) ≡ []
none_armed v [] = refl
none_armed v (u ∷ vs) = none_armed v vs

-- A lane that has a place is declared.

link_below : (link links n : ℕ) (way : Way) → 2 * link + of_way way < n → n ≡ 2 * links → link < links
link_below link links n Up lt is = omega (arith, lt, is)
link_below link links n Down lt is = omega (arith, lt, is)

module _ {K Q E X : Type 0} (outside : Outside K Q E X) where
  abbrev All : State K Q E X → State K Q E X → Site → List Action → Type 0
  All old new site actions = Tallied outside old new site actions

  abbrev OfPost : Site → ℕ → List Action → Post K E → Post K E → Type 0
  OfPost site v actions p q = PostTallied outside.disk outside.entropy site v actions p q

  -- If two runs have the same faults and armings at a node, the counts of its post hold for both.
  same_post : (site : Site) (v : ℕ) (xs ys : List Action) (p q : Post K E) → disk_faults site v ys ≡ disk_faults site v xs → entropy_faults v ys ≡ entropy_faults v xs → armings v ys ≡ armings v xs →
      OfPost site v xs p q → OfPost site v ys p q
  same_post site v xs ys p q disks entropies arms h = record {
    before = h.before;
    now = h.now;
    was = h.was;
    is = h.is;
    failed = subst (λ (n : ℕ). Counted n (outside.disk.faults h.before) (outside.disk.faults h.now)) (sym disks) h.failed;
    armed_with = subst (λ (fs : List Fault). IsArmedBy fs (outside.disk.armings h.before) (outside.disk.armings h.now)) (sym arms) h.armed_with;
    refused = subst (λ (n : ℕ). Counted n (outside.entropy.faults (entropy_of p)) (outside.entropy.faults (entropy_of q))) (sym entropies) h.refused;
  }

  -- Notes add no faults.
  noted : (net : Network) (old new : State K Q E X) (xs : List Action) → All old new net.site (xs ++ completions net) → All old new net.site xs
  unfolding disk_faults entropy_faults device_faults wire_faults armings
  noted net old new xs h =
      let vs : List ℕ = count_up net.site.nodes in
      record {
        nodes = h.nodes;
        posts = λ v p q was is.
            same_post net.site v (xs ++ completions net) xs p q (sym (none_more (is_disk_fault net.site v) (λ u. refl) xs vs)) (sym (none_more (is_random_fault v) (λ u. refl) xs vs))
            (sym (filter_map-append (fault_armed v) xs (completions net) ∙ ap (λ (fs : List Fault). filter_map (fault_armed v) xs ++ fs) (none_armed v vs) ∙ append-nil (filter_map (fault_armed v) xs)))
            (h.posts v p q was is);
        links = h.links;
        devices = λ link p q was is. subst (λ (n : ℕ). Counted n (outside.device.faults p) (outside.device.faults q)) (none_more (is_block_fault link) (λ u. refl) xs vs) (h.devices link p q was is);
        sides = h.sides;
        wires = λ l p q was is. subst (λ (n : ℕ). Counted n (outside.wire.faults p.wire) (outside.wire.faults q.wire)) (none_more (is_wire_fault l) (λ u. refl) xs vs) (h.wires l p q was is);
      }

  module _ (net : Network) (workers : ℕ) (w : World) (jobs : List Job) (histories : List (List Work)) (lanes : LanesWorked outside.wire net workers w histories)
      (behind : LanesLeft outside.wire net workers w jobs histories lanes) (first old new last : State K Q E X) (h : HasLanes outside.wire net workers w histories lanes old new)
      (turned : All first old net.site (actions_in (flat histories))) (same : old.lanes.items ≡ first.lanes.items) (sides : length first.lanes.items ≡ 2 * net.site.links) where
    abbrev whole : List Action
    whole = block_run net (works_of net w histories behind.logs)

    declared : (l : Lane) (p : LaneForm X) → slice_get first.lanes.items (place_of l) ≡ Some p → is_lane net.site l ≡ true
    declared l p at = lt-ltb l.link net.site.links (link_below l.link net.site.links (length first.lanes.items) l.way (slice_get_within first.lanes.items (place_of l) p at) sides)

    wire_counted : (l : Lane) (p q : LaneForm X) → slice_get first.lanes.items (place_of l) ≡ Some p → slice_get new.lanes.items (place_of l) ≡ Some q → Counted (wire_faults l whole) (outside.wire.faults p.wire) (outside.wire.faults q.wire)
    wire_counted l p q was is =
        let e = declared l p was in
        let before : (lanes l e).old ≡ p = some_same (sym (h.was l e) ∙ ap (λ ls. slice_get ls (place_of l)) same ∙ was) in
        let now : (lanes l e).new ≡ q = some_same (sym (h.is l e) ∙ is) in
        subst (λ (x : LaneForm X). Counted (wire_faults l whole) (outside.wire.faults x.wire) (outside.wire.faults q.wire)) before
        (subst (λ (y : LaneForm X). Counted (wire_faults l whole) (outside.wire.faults (lanes l e).old.wire) (outside.wire.faults y.wire)) now
        (subst (λ (n : ℕ). Counted n (outside.wire.faults (lanes l e).old.wire) (outside.wire.faults (lanes l e).new.wire)) (sym (behind.block.wires l)) (behind.each l e).faulty))

    pub lanes_tallied : All first new net.site whole
    lanes_tallied = record {
      nodes = ap length h.posts ∙ turned.nodes;
      posts = λ v p q was is.
          same_post net.site v (actions_in (flat histories)) whole p q (behind.block.disks v) (behind.block.entropies v) (behind.block.armed v)
          (turned.posts v p q was (ap (λ ps. slice_get ps v) (sym h.posts) ∙ is));
      links = ap length h.devices ∙ turned.links;
      devices = λ link p q was is. subst (λ (n : ℕ). Counted n (outside.device.faults p) (outside.device.faults q)) (sym (behind.block.devices link)) (turned.devices link p q was (ap (λ qs. slice_get qs link) (sym h.devices) ∙ is));
      sides = h.sides ∙ turned.sides;
      wires = wire_counted;
    }

    pub all_tallied : All new last net.site (completions net) → All first last net.site whole
    all_tallied notes = noted net first last whole (tallied_more outside net.site first new last whole (completions net) lanes_tallied notes)
