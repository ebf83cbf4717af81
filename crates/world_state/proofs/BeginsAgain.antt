-- Starting a node's manager changes its post, and then the lanes that leave the node.
use Rattle.std.proofs.Common.{◌≡◌, ℕ, ◌+◌, ◌*◌, ◌/◌, ◌%◌, ◌<◌, Bool, true, false, ◌&&◌, List, [], ◌∷◌, length, refl, sym, ap, subst, ◌∙◌, arith, Some}
use Rattle.std.specs.Prelude.{◌==◌, slice_get, if◌then◌else◌}
use Rattle.std.proofs.lemmas.Bool.{ltb-true, lt-ltb}
use Rattle.std.proofs.lemmas.Bool.Decides.{nat_tests}
use Rattle.std.proofs.lemmas.Option.{slice_get_within}
use Rattle.qkd_base.specs.declared.lane.Way.TheVariants.{Up, Down}
use Rattle.qkd_base.specs.declared.lane.Lane.{Lane}
use Rattle.net_model.specs.Site.{Site, sender}
use Rattle.net_model.specs.World.{Network, World}
use Rattle.net_model.specs.Events.{is_lane}
use Rattle.net_model.specs.Frames.{octets_sent}
use Rattle.net_model.specs.Faults.{is_interrupted, wire_faults}
use Rattle.net_model.specs.Action.{Recovery, Recovers, Action, Start, Started}
use Rattle.net_model.specs.Step.{step}
use Rattle.declared_site.specs.SiteOf.{site_of}
use Rattle.declared_site.specs.declared.site.Site.{Site as Declared}
use Rattle.run_types.specs.declared.start_result.StartResult.{StartResult}
use Rattle.run_types.specs.declared.start_result.StartResult.TheVariants as starts
use Rattle.route_table.specs.Layer.{bit_is_set}
use Rattle.world_nodes.specs.Passed.{ManagerForm, Post, On, Off}
use Rattle.law_base.proofs.Base.{eq_from, eq_same, not_false, not_both}
use Rattle.law_locality.proofs.Links.{step_link}
use Rattle.lane_sender.specs.Lane.{LaneForm}
use Rattle.run_ops.specs.Reported.{started}
use Rattle.run_model.specs.Play.{is_forged}
use Rattle.run_model.specs.Script.{asks}
use Rattle.run_ops.specs.Fitting.{is_fit}
use Rattle.run_ops.specs.Acting.{IsReady, Does, Begins}
use Rattle.world_nodes.specs.LaneStands.{IsRunning, LaneStands, WireStands}
use Rattle.world_nodes.proofs.LaneGoing.{goes_on}
use Rattle.world_nodes.specs.Stands.{PostStands}
use Rattle.world_nodes.specs.Starting.{MayStart, HasStarted}
use Rattle.world_nodes.proofs.Going.{post_on}
use Rattle.world_state.specs.Rests.{Rests}
use Rattle.world_state.specs.Stands.{Stands, of_way, place_of}
use Rattle.world_state.specs.Starting.{is_started, HasBegun, octets_in, lease_in, gone_on, gone_with, MayGoOn, MayAllGoOn, AllWentOn, WiresKept}
use Rattle.world_state.specs.Tallied.{Counted, Tallied}
use Rattle.world_state.specs.declared.state.State.{State}
use Rattle.world_state.proofs.AllGoOn.{gone_wire}
use Rattle.world_state.proofs.Changes.{OnePost, each_post, posts_same}
use Rattle.world_state.proofs.Disks.{has_disks}
use Rattle.world_state.proofs.LanesGoOn.{lane_goes_on}
use Rattle.world_state.proofs.Leases.{manager_lease}
use Rattle.world_state.proofs.OneLife.{node_quiet, node_below}
use Rattle.world_state.proofs.OneTallied.{CountsOne, one_post_tallied}
use Rattle.world_state.proofs.QuietStays.{quiet_stays}
use Rattle.world_state.proofs.Resting.{post_rests, rests_after}
use Rattle.world_state.proofs.Resumed.{IsAgain, started_as, manager_octets, may_go_on, goes_on_there}
use Rattle.world_state.proofs.StateGoesOn.{running_on, enabled_of, manager_on}
use Rattle.world_state.proofs.Takes.{goes_same}
use Rattle.world_state.specs.Outside.{Outside}

elsewhere : (v u : ℕ) → (u ≡ v → ⊥) → (v == u) ≡ false
elsewhere v u other = not_false (v == u) (λ e. other (sym (eq_from v u e)))

-- the outcome of the start

pub started_well : (r : StartResult) → is_started r ≡ true → started r ≡ Started
started_well starts.Started is = refl
started_well starts.WasUp is = cc
started_well starts.Stopped is = cc
started_well (starts.Foreign place) is = cc
started_well starts.Memory is = cc

pub not_started : (r : StartResult) → is_started r ≡ false → started r ≡ Started → ⊥
not_started starts.Started is e = cc
not_started starts.WasUp is e = cc
not_started starts.Stopped is e = cc
not_started (starts.Foreign place) is e = cc
not_started starts.Memory is e = cc

no_forgery : (r : StartResult) → is_forged (started r) ≡ false
no_forgery starts.Started = refl
no_forgery starts.WasUp = refl
no_forgery starts.Stopped = refl
no_forgery (starts.Foreign place) = refl
no_forgery starts.Memory = refl

-- A start adds only to the counts of its own node.
start_counted : (s : Site) (v : ℕ) (recovery : Recovery) → CountsOne s (Start v recovery) v (is_interrupted recovery) false
start_counted s v recovery = record {
  disk = when_same (v == v) (is_interrupted recovery) (eq_same v);
  entropy = refl;
  armed = λ u. refl;
  disks = λ u other. ap (λ (b : Bool). b && is_interrupted recovery) (elsewhere v u other);
  entropies = λ u other. refl;
}
  where
    when_same : (a b : Bool) → a ≡ true → (a && b) ≡ b
    when_same true b h = refl
    when_same false b h = cc

-- the lane at a place

abbrev lane_at : ℕ → Lane
lane_at p = record { link = p / 2; way = if p % 2 == 0 then Up else Down }

place_at : (p : ℕ) → place_of (lane_at p) ≡ p
place_at p = elim (p % 2 == 0) as (λ t. (p % 2 == 0) ≡ t → 2 * (p / 2) + of_way (if t then Up else Down) ≡ p) [
  | true ↦ λ e. let even : p % 2 ≡ 0 = eq_from (p % 2) 0 e in omega (arith, even)
  | false ↦ λ e. let odd : p % 2 ≡ 1 = grind (arith, nat_tests) in omega (arith, odd)
] refl

is_there : (s : Site) (p n : ℕ) → p < n → n ≡ 2 * s.links → is_lane s (lane_at p) ≡ true
is_there s p n below size = lt-ltb (p / 2) s.links (omega (arith, below, size))

module _ {K Q E X : Type 0} (outside : Outside K Q E X) (old : State K Q E X) (net : Network) (w : World) (v : ℕ)
    (ready : IsReady (Stands outside) old net w) where
  abbrev HasDone : State K Q E X → StartResult → Type 0
  HasDone new r =
      Does (Stands outside) (Tallied outside) old new net w (Start v (Recovers false)) (started r)

  -- ---- the post

  module _ (fit : is_fit (site_of old.site) (Start v (Recovers false)) ≡ true) (p : Post K E) (there : slice_get old.posts.items v ≡ Some p) where
    pub may_start : MayStart outside.disk outside.entropy net w v old.site p
    may_start = record {
      running = ready.stands.running;
      stands = ready.stands.posts v p there;
      node = ltb-true v net.site.nodes (subst (λ (s : Site). is_fit s (Start v (Recovers false)) ≡ true) (sym ready.stands.sited) fit);
      quiet = node_quiet net w v ready.quiet;
      sited = sym ready.stands.sited;
    }

  module _ where
    pub begun : (p : Post K E) (new : State K Q E X) (q : Post K E) (one : OnePost old new v p q) (r : StartResult) →
        HasStarted outside.disk outside.entropy net w v p q r →
        HasBegun outside old new net w v r
    begun p new q one r h =
        let a = Start v h.recovery in
        record {
          recovery = h.recovery;
          may = h.may;
          said = h.said;
          site = one.site;
          nodes = posts_same old new v p q one;
          posts = each_post old new v p q one (λ u x. PostStands outside.disk outside.entropy net (step net w a).0 u x) h.stands
              (λ u x other stood.
              post_on outside.disk outside.entropy net w (step net w a).0 u (manager_on net w a u ready.stands.running (enabled_of net w a h.may) (elsewhere v u other)) x (ready.stands.posts u x stood));
          lanes = one.lanes;
          devices = one.devices;
          up = one.up;
          tallied = one_post_tallied outside net.site a old new
              (has_disks outside old net w ready.stands) v p q (is_interrupted h.recovery) false one (start_counted net.site v h.recovery)
              (record { devices = λ link. refl; wires = λ l. refl }) h.counts;
        }

    -- ---- the lanes

    module _ (mid : State K Q E X) (r : StartResult) (h : HasBegun outside old mid net w v r) where
      abbrev a : Action
      a = Start v h.recovery

      abbrev after : World
      after = (step net w a).0

      abbrev Done : State K Q E X → Type 0
      Done new = HasDone new r

      runs_on : IsRunning net after
      runs_on = running_on net w a ready.stands.running h.may

      stood : (k : Lane) (side : LaneForm X) → is_lane net.site k ≡ true → slice_get mid.lanes.items (place_of k) ≡ Some side → LaneStands outside.wire net w k side
      stood k side at there = ready.stands.lanes k side at (ap (λ (xs : List (LaneForm X)). slice_get xs (place_of k)) (sym h.lanes) ∙ there)

      sides_mid : length mid.lanes.items ≡ 2 * net.site.links
      sides_mid = ap length h.lanes ∙ ready.stands.sides

      done : (new : State K Q E X) → new.site ≡ mid.site → new.posts.items ≡ mid.posts.items → new.devices.items ≡ mid.devices.items → new.up ≡ mid.up → length new.lanes.items ≡ length mid.lanes.items →
          ((k : Lane) (side : LaneForm X) → is_lane net.site k ≡ true → slice_get new.lanes.items (place_of k) ≡ Some side → LaneStands outside.wire net after k side) →
          Tallied outside old new net.site (a ∷ []) → Done new
      done new site posts devices up sides lanes tallied = record {
        action = a;
        is = refl;
        may = h.may;
        said = h.said;
        ready = record {
          stands = record {
            running = runs_on;
            sited = ready.stands.sited ∙ sym (ap site_of (site ∙ h.site));
            nodes = ap length posts ∙ h.nodes ∙ ready.stands.nodes;
            posts = λ u p there. h.posts u p (ap (λ (xs : List (Post K E)). slice_get xs u) (sym posts) ∙ there);
            sides = sides ∙ sides_mid;
            lanes = lanes;
            links = ap length devices ∙ ap length h.devices ∙ ready.stands.links;
            devices = λ k q there. ready.stands.devices k q (ap (λ (xs : List Q). slice_get xs k) (sym (devices ∙ h.devices)) ∙ there);
            up = λ k below. step_link net w a k refl ∙ ready.stands.up k below ∙ ap (λ (n : ℕ). bit_is_set n k) (sym (up ∙ h.up));
          };
          quiet = quiet_stays net w a ready.stands.running (enabled_of net w a h.may) refl ready.quiet;
        };
        tallied = tallied;
      }

      pub begun_below : is_fit (site_of old.site) (Start v (Recovers false)) ≡ true → v < length mid.posts.items
      begun_below fit =
          let below = node_below outside old net w v ready fit in
          let nodes = h.nodes in
          omega (arith, below, nodes)

      -- The start didn't bring the manager up.
      pub otherwise_done : is_started r ≡ false → Done mid
      otherwise_done none =
          let same = (started_as net w v h.recovery).1 (λ well. not_started r none (sym h.said ∙ well)) in
          done mid refl refl refl refl refl
          (λ k side at there. goes_on outside.wire net w after k side ready.stands.running at (goes_same w after k same.durable same.frames same.wire) (stood k side at there)) h.tallied

      -- The start brought the manager up.

      module _ (is : is_started r ≡ true) where
        again : IsAgain net w v after
        again = (started_as net w v h.recovery).0 (h.said ∙ started_well r is)

        pub not_off : {A : Type 0} (disk : K) (entropy : E) → slice_get mid.posts.items v ≡ Some (Off disk entropy) → A
        not_off disk entropy there = absurd (not_both (after.up v) again.up (h.posts v (Off disk entropy) there).1.down)

        module _ (m : ManagerForm K E) (there : slice_get mid.posts.items v ≡ Some (On m)) where
          stands_here : PostStands outside.disk outside.entropy net after v (On m)
          stands_here = h.posts v (On m) there

          module _ (l : Lane) (side : LaneForm X) (at : is_lane net.site l ≡ true) (s : LaneStands outside.wire net w l side) where
            octets : sender net.site l ≡ v → octets_in m.view l ≡ octets_sent net after l
            octets from = manager_octets outside.disk outside.entropy net after v l runs_on again.up at from m stands_here

            lease : sender net.site l ≡ v → lease_in m.view l ≡ after.durable.lease l
            lease from = manager_lease outside.disk outside.entropy net after v l runs_on again.up at from m stands_here

          module _ (side : LaneForm X) (at : is_lane net.site side.lane ≡ true) (s : LaneStands outside.wire net w side.lane side) (from : sender net.site side.lane ≡ v) where
            abbrev began : IsAgain net w (sender net.site side.lane) after
            began = subst (λ (u : ℕ). IsAgain net w u after) (sym from) again

            may_side : MayGoOn (octets_in m.view side.lane) (lease_in m.view side.lane) side
            may_side = may_go_on outside.wire net w side ready.stands.running at s after began runs_on (octets_in m.view side.lane) (lease_in m.view side.lane)
                (octets side.lane side at s from) (lease side.lane side at s from)

            side_went : LaneStands outside.wire net after side.lane (gone_on (octets_in m.view side.lane) (lease_in m.view side.lane) side)
            side_went = goes_on_there outside.wire net w side ready.stands.running at s after began runs_on (octets_in m.view side.lane) (lease_in m.view side.lane)
                (octets side.lane side at s from) (lease side.lane side at s from)

          -- A side that stands for a lane stands for the lane that it names.
          itself : (l : Lane) (side : LaneForm X) → is_lane net.site l ≡ true → LaneStands outside.wire net w l side → (is_lane net.site side.lane ≡ true) × LaneStands outside.wire net w side.lane side
          itself l side at s = (ap (is_lane net.site) s.lane ∙ at, subst (λ (k : Lane). LaneStands outside.wire net w k side) (sym s.lane) s)

          pub may_all : (site : Declared) → site ≡ mid.site → MayAllGoOn (site_of site) v m.view mid.lanes.items
          may_all site as_is place side there from =
              let at = is_there net.site place (length mid.lanes.items) (slice_get_within mid.lanes.items place side there) sides_mid in
              let s = stood (lane_at place) side at (ap (slice_get mid.lanes.items) (place_at place) ∙ there) in
              let own = itself (lane_at place) side at s in
              may_side side own.0 own.1 (ap (λ (x : Site). sender x side.lane) (ready.stands.sited ∙ sym (ap site_of (as_is ∙ h.site))) ∙ from)

          -- A lane went on or stayed as it was.
          lane_after : (l : Lane) (side : LaneForm X) → is_lane net.site l ≡ true → LaneStands outside.wire net w l side → LaneStands outside.wire net after l (gone_with net.site v m.view side)
          lane_after l side at s =
              let own = itself l side at s in
              elim (sender net.site side.lane == v) as (λ t. (sender net.site side.lane == v) ≡ t →
              LaneStands outside.wire net after l (if t then gone_on (octets_in m.view side.lane) (lease_in m.view side.lane) side else side)) [
                | true ↦ λ e.
                    subst (λ (k : Lane). LaneStands outside.wire net after k (gone_on (octets_in m.view side.lane) (lease_in m.view side.lane) side)) s.lane
                    (side_went side own.0 own.1 (eq_from (sender net.site side.lane) v e))
                | false ↦ λ e.
                    lane_goes_on net w ready.stands.running l outside.wire a side at (enabled_of net w a h.may)
                    (ap (λ (b : Bool). b && true) (ap (λ (k : Lane). sender net.site k == v) (sym s.lane) ∙ e)) s
              ] refl

          module _ (new : State K Q E X) (site : new.site ≡ mid.site) (posts : new.posts.items ≡ mid.posts.items) (devices : new.devices.items ≡ mid.devices.items) (up : new.up ≡ mid.up)
              (kept : WiresKept mid.lanes.items new.lanes.items) where
            tallied : Tallied outside old new net.site (a ∷ [])
            tallied = record {
              nodes = ap length posts ∙ h.tallied.nodes;
              posts = λ u x y was now. h.tallied.posts u x y was (ap (λ (xs : List (Post K E)). slice_get xs u) (sym posts) ∙ now);
              links = ap length devices ∙ h.tallied.links;
              devices = λ k x y was now. h.tallied.devices k x y was (ap (λ (xs : List Q). slice_get xs k) (sym devices) ∙ now);
              sides = kept.sides ∙ h.tallied.sides;
              wires = λ k x y was now.
                  let before = kept.each (place_of k) y now in
                  subst (λ (z : X). Counted (wire_faults k (a ∷ [])) (outside.wire.faults x.wire) (outside.wire.faults z)) (sym before.2) (h.tallied.wires k x before.0 was before.1);
            }

            pub all_done : AllWentOn (site_of mid.site) v m.view mid.lanes.items new.lanes.items → Done new
            all_done went =
                done new site posts devices up kept.sides
                (λ k side at now.
                let before = went.each (place_of k) side now in
                let sited : site_of mid.site ≡ net.site = ap site_of h.site ∙ sym ready.stands.sited in
                subst (λ (x : LaneForm X). LaneStands outside.wire net after k x) (sym (before.2 ∙ ap (λ (s : Site). gone_with s v m.view before.0) sited))
                (lane_after k before.0 at (stood k before.0 at before.1)))
                tallied

            pub some_left : Begins (Rests outside) (Tallied outside) old new net w (asks (Start v (Recovers false)) (λ o. []))
            some_left =
                rests_after (Rests outside) (Tallied outside) old new net w (Start v (Recovers false)) a refl h.may
                (ap is_forged h.said ∙ no_forgery r) (record {
                  running = runs_on;
                  sited = ready.stands.sited ∙ sym (ap site_of (site ∙ h.site));
                  nodes = ap length posts ∙ h.nodes ∙ ready.stands.nodes;
                  posts = λ u p at. post_rests net u after runs_on outside.disk outside.entropy p (h.posts u p (ap (λ (xs : List (Post K E)). slice_get xs u) (sym posts) ∙ at));
                  sides = kept.sides ∙ sides_mid;
                  wires = λ k x at now.
                      let before = kept.each (place_of k) x now in
                      subst (λ (z : X). WireStands outside.wire net after k z) (gone_wire net.site v m.view mid.lanes.items before.0 ∙ sym before.2) (lane_after k before.0 at (stood k before.0 at before.1)).wire;
                  links = ap length devices ∙ ap length h.devices ∙ ready.stands.links;
                  devices = λ k q at. ready.stands.devices k q (ap (λ (xs : List Q). slice_get xs k) (sym (devices ∙ h.devices)) ∙ at);
                }) tallied
