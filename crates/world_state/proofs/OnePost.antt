-- Actions that change only one manager.
use Rattle.std.proofs.Common.{◌≡◌, ◌⊎◌, inl, inr, ℕ, Bool, false, List, [], ◌∷◌, length, sym, ap, ◌∙◌, Some}
use Rattle.std.specs.Prelude.{slice_get}
use Rattle.qkd_base.specs.declared.lane.Lane.{Lane}
use Rattle.net_model.specs.Site.{Site}
use Rattle.net_model.specs.World.{Network, World}
use Rattle.net_model.specs.Action.{Environment, Action, Outcome, is_io_fault}
use Rattle.net_model.specs.Faults.{is_random_fault}
use Rattle.net_model.specs.Step.{step, IsStep}
use Rattle.declared_site.specs.SiteOf.{site_of}
use Rattle.world_nodes.specs.Passed.{Post}
use Rattle.lane_sender.specs.Lane.{LaneForm}
use Rattle.route_table.specs.Layer.{bit_is_set}
use Rattle.run_model.specs.Play.{plain}
use Rattle.run_ops.specs.Acting.{IsReady, Does}
use Rattle.law_locality.specs.Touched.{touches_link}
use Rattle.law_locality.proofs.Links.{step_link}
use Rattle.world_nodes.specs.Stands.{PostStands}
use Rattle.world_nodes.specs.Counts.{Counts}
use Rattle.world_nodes.specs.Handled.{Happens}
use Rattle.world_state.specs.Changed.{changes_node, changes_lane, sends}
use Rattle.world_state.specs.Stands.{Stands, place_of}
use Rattle.world_state.specs.Moving.{Moves}
use Rattle.world_state.specs.Tallied.{Tallied}
use Rattle.world_state.specs.declared.state.State.{State}
use Rattle.world_state.proofs.Changes.{OnePost, each_post, posts_same}
use Rattle.world_state.proofs.Disks.{has_disks}
use Rattle.world_state.proofs.OneTallied.{CountsOne, CountsNoOther, one_post_tallied}
use Rattle.world_state.proofs.QuietStays.{quiet_stays}
use Rattle.world_state.proofs.StateGoesOn.{state_goes_on, enabled_of}
use Rattle.world_state.specs.Outside.{Outside}

-- The action changes only this manager, and no lane and no link.
pub record ChangesPost (site : Site) (a : Action) (v : ℕ) : Type 0 where
  pub nodes : (u : ℕ) → (u ≡ v → ⊥) → changes_node site a u ≡ false
  pub lanes : (l : Lane) → changes_lane site a l ≡ false
  pub links : (link : ℕ) → touches_link a link ≡ false

-- The action changes only this manager, no lane and no link, and sends nothing.
pub record ChangesOne (site : Site) (a : Action) (v : ℕ) : Type 0 where
  pub nodes : (u : ℕ) → (u ≡ v → ⊥) → changes_node site a u ≡ false
  pub lanes : (l : Lane) → changes_lane site a l ≡ false
  pub links : (link : ℕ) → touches_link a link ≡ false
  pub sends : sends a ≡ false

post_changed : (site : Site) (a : Action) (v : ℕ) → ChangesOne site a v → ChangesPost site a v
post_changed site a v one = record { nodes = one.nodes; lanes = one.lanes; links = one.links }

module _ {K Q E X : Type 0} (outside : Outside K Q E X) (old new : State K Q E X) (net : Network) (w : World) (v : ℕ) (p q : Post K E) (change : OnePost old new v p q)
    (stands : Stands outside old net w) where
  module _ (a : Action) (may : IsStep net w a) (one : ChangesPost net.site a v) (there : PostStands outside.disk outside.entropy net (step net w a).0 v q) where
    moves : Moves outside old new net w a
    moves = record {
      site = change.site;
      nodes = posts_same old new v p q change;
      posts = each_post old new v p q change (λ u x. PostStands outside.disk outside.entropy net (step net w a).0 u x ⊎ ((changes_node net.site a u ≡ false) × (slice_get old.posts.items u ≡ Some x)))
          (inl there) (λ u x other at. inr (one.nodes u other, at));
      sides = ap length change.lanes;
      lanes = λ l side at was. inr (one.lanes l, ap (λ (xs : List (LaneForm X)). slice_get xs (place_of l)) (sym change.lanes) ∙ was);
      links = ap length change.devices;
      devices = λ link x at. stands.devices link x (ap (λ (xs : List Q). slice_get xs link) (sym change.devices) ∙ at);
      up = λ link below. step_link net w a link (one.links link) ∙ stands.up link below ∙ ap (λ (n : ℕ). bit_is_set n link) (sym change.up);
    }

    pub stands_after : Stands outside new net (step net w a).0
    stands_after = state_goes_on outside old new net w a may stands moves

  -- If nothing happened, the state with the other post stands for the same world.
  pub stands_still : PostStands outside.disk outside.entropy net w v q → Stands outside new net w
  stands_still there = record {
    running = stands.running;
    sited = stands.sited ∙ sym (ap site_of change.site);
    nodes = posts_same old new v p q change ∙ stands.nodes;
    posts = each_post old new v p q change (λ u x. PostStands outside.disk outside.entropy net w u x) there (λ u x other at. stands.posts u x at);
    sides = ap length change.lanes ∙ stands.sides;
    lanes = λ l side at was. stands.lanes l side at (ap (λ (xs : List (LaneForm X)). slice_get xs (place_of l)) (sym change.lanes) ∙ was);
    links = ap length change.devices ∙ stands.links;
    devices = λ link x at. stands.devices link x (ap (λ (xs : List Q). slice_get xs link) (sym change.devices) ∙ at);
    up = λ link below. stands.up link below ∙ ap (λ (n : ℕ). bit_is_set n link) (sym change.up);
  }

module _ {K Q E X : Type 0} (outside : Outside K Q E X)
    (old new : State K Q E X) (net : Network) (w : World) (v : ℕ) (p q : Post K E) (change : OnePost old new v p q)
    (ready : IsReady (Stands outside) old net w) where
  abbrev Done : Action → Outcome → Type 0
  Done asked outcome = Does (Stands outside) (Tallied outside) old new net w asked outcome

  module _ (a : Action) (may : IsStep net w a) (one : ChangesOne net.site a v) (stands : PostStands outside.disk outside.entropy net (step net w a).0 v q) where
    pub ready_after : IsReady (Stands outside) new net (step net w a).0
    ready_after = record {
      stands = stands_after outside old new net w v p q change ready.stands a may (post_changed net.site a v one) stands;
      quiet = quiet_stays net w a ready.stands.running (enabled_of net w a may) one.sends ready.quiet;
    }

    pub done : (asked : Action) (outcome : Outcome) → plain a ≡ asked → (step net w a).1 ≡ outcome → Tallied outside old new net.site (a ∷ []) → Done asked outcome
    done asked outcome is said tallied = record { action = a; is = is; may = may; said = said; ready = ready_after; tallied = tallied }

    pub done_counted : (asked : Action) (outcome : Outcome) → plain a ≡ asked → (step net w a).1 ≡ outcome → (disk_fault entropy_fault : Bool) → CountsOne net.site a v disk_fault entropy_fault → CountsNoOther a →
        Counts outside.disk outside.entropy disk_fault entropy_fault p q → Done asked outcome
    done_counted asked outcome is said disk_fault entropy_fault counts rest c =
        done asked outcome is said
        (one_post_tallied outside net.site a old new
        (has_disks outside old net w ready.stands) v p q disk_fault entropy_fault change counts rest c)

  -- The action happened at the post, with an answer of the environment.
  pub happened : (action : Environment → Action) (asked : Action) (outcome : Outcome) → ((environment : Environment) → ChangesOne net.site (action environment) v) →
      ((environment : Environment) → CountsOne net.site (action environment) v (is_io_fault environment) (is_random_fault v (action environment))) → ((environment : Environment) → CountsNoOther (action environment)) →
      ((environment : Environment) → plain (action environment) ≡ asked) →
      Happens outside.disk outside.entropy action net w v p q outcome → Done asked outcome
  happened action asked outcome one counts rest is h =
      done_counted (action h.environment) h.may (one h.environment) h.stands asked outcome (is h.environment) h.said (is_io_fault h.environment) (is_random_fault v (action h.environment)) (counts h.environment) (rest h.environment) h.counts
