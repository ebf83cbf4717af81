-- A state that stands for a world before the nodes note rests in the world after their notes, whether they noted or not.
use Rattle.std.proofs.Common.{◌≡◌, ℕ, ◌*◌, Bool, true, false, List, [], ◌∷◌, length, refl, sym, ap, subst, ◌∙◌, Some}
use Rattle.std.specs.Prelude.{slice_get}
use Rattle.qkd_base.specs.declared.lane.Lane.{Lane}
use Rattle.net_model.specs.Site.{Site}
use Rattle.net_model.specs.World.{Network, World}
use Rattle.net_model.specs.Needed.{view_of}
use Rattle.net_model.specs.Fold.{view_batch, view_restarted}
use Rattle.net_model.specs.Events.{is_lane}
use Rattle.net_model.specs.Action.{Complete}
use Rattle.net_model.specs.Step.{step, run, IsStep, IsRun}
use Rattle.declared_site.specs.SiteOf.{site_of}
use Rattle.world_state.specs.Passed.{Post, IsRunning, LaneStands, disk_of}
use Rattle.lane_sender.specs.Lane.{LaneForm}
use Rattle.law_locality.proofs.Runs.{first_step, later_steps, run_none, run_one}
use Rattle.law_recovery.specs.Starting.{resolved_view}
use Rattle.world_state.specs.Rests.{KeepsAs, PostRests, Rests}
use Rattle.world_state.specs.Stands.{Stands, place_of}
use Rattle.world_state.specs.Tallied.{Tallied}
use Rattle.world_state.specs.declared.state.State.{State}
use Rattle.world_state.proofs.LanesGoOn.{lane_goes_on}
use Rattle.world_state.proofs.OneTallied.{all_tallied, posts_still, devices_still, wires_still}
use Rattle.world_state.proofs.Resting.{post_rests}
use Rattle.world_state.proofs.StateGoesOn.{running_on, enabled_of}
use Rattle.world_state.proofs.Tallies.{none_tallied, tallied_more}
use Rattle.par_frames.proofs.Completing.{Keeps, complete_keeps, doubted}
use Rattle.par_frames.proofs.Noted.{notes_of}
use Rattle.world_state.specs.Outside.{Outside}

-- The view that a start of the node would restore stays the same.

given_on : (net : Network) (v : ℕ) (w x : World) → Keeps net v w x → (committed : Bool) → view_restarted (resolved_view net x v committed) ≡ view_restarted (resolved_view net w v committed)
given_on net v w x h true =
    ap (λ d. view_restarted (view_batch (view_of net x v) d.batch)) h.doubt ∙ doubted (view_of net x v) (view_of net w v) (w.in_doubt v).batch h.view
given_on net v w x h false = h.view

keeps_on : (net : Network) (v : ℕ) (u w x : World) → KeepsAs net v u w → Keeps net v w x → KeepsAs net v u x
keeps_on net v u w x h k = record {
  running = h.running;
  drawn = k.drawn ∙ h.drawn;
  journal = k.journal ∙ h.journal;
  doubt = k.doubt ∙ h.doubt;
  given = λ committed. given_on net v w x k committed ∙ h.given committed;
}

module _ {K Q E X : Type 0} (outside : Outside K Q E X) (net : Network) (s : State K Q E X) where
  -- A state that rests in a world, and whose lanes still stand for it.
  record Half (w : World) : Type 0 where
    running : IsRunning net w
    sited : net.site ≡ site_of s.site
    nodes : length s.posts.items ≡ net.site.nodes
    posts : (v : ℕ) (p : Post K E) → slice_get s.posts.items v ≡ Some p → PostRests outside.disk outside.entropy net w v p
    sides : length s.lanes.items ≡ 2 * net.site.links
    lanes : (l : Lane) (side : LaneForm X) → is_lane net.site l ≡ true → slice_get s.lanes.items (place_of l) ≡ Some side → LaneStands outside.wire net w l side
    links : length s.devices.items ≡ net.site.links
    devices : (link : ℕ) (q : Q) → slice_get s.devices.items link ≡ Some q → outside.device.told q ≡ Some (net.device link)

  half_of : (w : World) → Stands outside s net w → Half w
  half_of w h = record {
    running = h.running;
    sited = h.sited;
    nodes = h.nodes;
    posts = λ v p at. post_rests net v w h.running outside.disk outside.entropy p (h.posts v p at);
    sides = h.sides;
    lanes = h.lanes;
    links = h.links;
    devices = h.devices;
  }

  half_on : (w : World) (k : ℕ) → IsStep net w (Complete k) → Half w → Half (step net w (Complete k)).0
  half_on w k may h =
      let enabled = enabled_of net w (Complete k) may in
      record {
        running = running_on net w (Complete k) h.running may;
        sited = h.sited;
        nodes = h.nodes;
        posts = λ v p at.
            let r = h.posts v p at in
            (r.0, keeps_on net v r.0 w (step net w (Complete k)).0 r.1 (complete_keeps net w h.running.network h.running.conserved k v enabled), r.2);
        sides = h.sides;
        lanes = λ l side at there. lane_goes_on net w h.running l outside.wire (Complete k) side at enabled refl (h.lanes l side at there);
        links = h.links;
        devices = h.devices;
      }

  half_over : (vs : List ℕ) (w : World) → IsRun net w (notes_of vs) → Half w → Half (run net w (notes_of vs))
  half_over [] w may h = subst Half (sym (run_none net w)) h
  half_over (v ∷ vs) w may h =
      subst Half (sym (run_one net w (Complete v) (notes_of vs)))
      (half_over vs (step net w (Complete v)).0 (later_steps net w (Complete v) (notes_of vs) may) (half_on w v (first_step net w (Complete v) (notes_of vs) may) h))

  pub rests_over : (vs : List ℕ) (w : World) → IsRun net w (notes_of vs) → Stands outside s net w → Rests outside s net (run net w (notes_of vs))
  rests_over vs w may stands =
      let h = half_over vs w may (half_of w stands) in
      record {
        running = h.running;
        sited = h.sited;
        nodes = h.nodes;
        posts = h.posts;
        sides = h.sides;
        wires = λ l side at there. (h.lanes l side at there).wire;
        links = h.links;
        devices = h.devices;
      }

-- Notes add to no count.

module _ {K Q E X : Type 0} (outside : Outside K Q E X) (site : Site) (s : State K Q E X)
    (disks : (v : ℕ) (p : Post K E) → slice_get s.posts.items v ≡ Some p → (k : K) × (disk_of p ≡ Some k)) where
  one_still : (v : ℕ) → Tallied outside s s site (Complete v ∷ [])
  one_still v =
      all_tallied outside site (Complete v) s s refl refl refl
      (posts_still outside site (Complete v) s s disks refl (λ u. (refl, refl, refl)))
      (devices_still outside site (Complete v) s s refl (λ link. refl))
      (wires_still outside site (Complete v) s s refl (λ l. refl))

  pub notes_still : (vs : List ℕ) → Tallied outside s s site (notes_of vs)
  notes_still [] = none_tallied outside site s disks
  notes_still (v ∷ vs) = tallied_more outside site s s s (Complete v ∷ []) (notes_of vs) (one_still v) (notes_still vs)
