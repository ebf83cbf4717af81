-- What is left of a run that ends because memory ran out: after an action that was asked for, or before it.
use Rattle.std.proofs.Common.{◌≡◌, ℕ, false, List, [], ◌∷◌, length, refl, sym, ap, subst, ◌∙◌}
use Rattle.std.specs.Prelude.{slice_get}
use Rattle.net_model.specs.Site.{Site}
use Rattle.net_model.specs.World.{Network, World}
use Rattle.net_model.specs.Action.{Action, Outcome}
use Rattle.net_model.specs.Step.{step, IsStep}
use Rattle.declared_site.specs.SiteOf.{site_of}
use Rattle.world_nodes.specs.Passed.{Post}
use Rattle.lane_sender.specs.Lane.{LaneForm}
use Rattle.run_model.specs.Script.{Reports, Ends, asks}
use Rattle.run_model.specs.Play.{Played, plain, play, is_forged}
use Rattle.run_ops.specs.Acting.{Begins}
use Rattle.world_nodes.specs.LaneStands.{IsRunning}
use Rattle.world_nodes.specs.Stands.{PostStands}
use Rattle.world_state.specs.Rests.{KeepsAs, PostRests, Rests}
use Rattle.world_state.specs.Stands.{Stands, place_of}
use Rattle.world_state.specs.Tallied.{Tallied}
use Rattle.world_state.specs.declared.state.State.{State}
use Rattle.world_state.proofs.Changes.{OnePost}
use Rattle.world_state.proofs.Disks.{has_disks}
use Rattle.world_state.proofs.Others.{put_back}
use Rattle.world_state.proofs.Plays.{asks_is, asks_said}
use Rattle.world_state.proofs.Tallies.{none_tallied}
use Rattle.disk_model.specs.declared.disk.Disk as Disk
use Rattle.source_devices.specs.declared.entropy.Entropy as Entropy
use Rattle.world_state.specs.Outside.{Outside}

ended : (net : Network) (w : World) → (play net 0 w (Reports [] Ends) []).world ≡ w
unfolding play
ended net w = refl

stopped : (net : Network) (w : World) (asked : Action) → (play net 0 w (asks asked (λ outcome. [])) []).world ≡ w
unfolding play
stopped net w asked = refl

module _ {S : Type 0} (R : S → Network → World → Type 0) (T : S → S → Site → List Action → Type 0) (old new : S) (net : Network) (w : World) (asked : Action) where
  -- The run ends after the action.
  pub rests_after : (a : Action) → plain a ≡ asked → IsStep net w a → is_forged (step net w a).1 ≡ false → R new net (step net w a).0 → T old new net.site (a ∷ []) →
      Begins R T old new net w (asks asked (λ outcome. []))
  rests_after a is may not_forged rests tallied = record {
    actions = a ∷ [];
    is = asks_is net w asked (λ (outcome : Outcome). Reports [] Ends) a [] not_forged is may refl;
    rests = subst (λ (x : World). R new net x)
        (sym (ap (λ (p : Played). p.world) (asks_said net w asked (λ (outcome : Outcome). Reports [] Ends) a [] not_forged 0) ∙ ended net (step net w a).0)) rests;
    tallied = tallied;
  }

  -- The run ends before the action.
  pub rests_before : R new net w → T old new net.site [] → Begins R T old new net w (asks asked (λ outcome. []))
  rests_before rests tallied = record { actions = []; is = tt; rests = subst (λ (x : World). R new net x) (sym (stopped net w asked)) rests; tallied = tallied }

-- A post that stands for its node also rests there.
module _ (net : Network) (v : ℕ) (w : World) (running : IsRunning net w) where
  pub keeps_itself : KeepsAs net v w w
  keeps_itself = record { running = running; drawn = refl; journal = refl; doubt = refl; given = λ committed. refl }

  pub post_rests : {K E : Type 0} (disk_says : Disk.Ghosts K) (entropy_says : Entropy.Ghosts E) (p : Post K E) →
      PostStands disk_says entropy_says net w v p → PostRests disk_says entropy_says net w v p
  post_rests disk_says entropy_says p stands = (w, keeps_itself, stands)

-- Two states with the same parts.
pub record SameParts {K Q E X : Type 0} (old new : State K Q E X) : Type 0 where
  pub site : new.site ≡ old.site
  pub posts : new.posts.items ≡ old.posts.items
  pub lanes : new.lanes.items ≡ old.lanes.items
  pub devices : new.devices.items ≡ old.devices.items

pub same_parts : {K Q E X : Type 0} (s : State K Q E X) → SameParts s s
same_parts s = record { site = refl; posts = refl; lanes = refl; devices = refl }

-- If the post that was put back is the one that was there, the states have the same parts.
pub one_same : {K Q E X : Type 0} (old new : State K Q E X) (v : ℕ) (p q : Post K E) → OnePost old new v p q → q ≡ p → SameParts old new
one_same old new v p q one is = record {
  site = one.site;
  posts = one.posts ∙ put_back old.posts.items v p q one.there is;
  lanes = one.lanes;
  devices = one.devices;
}

module _ {K Q E X : Type 0} (outside : Outside K Q E X) (net : Network) (w : World) where
  abbrev RestsHere : State K Q E X → Type 0
  RestsHere s = Rests outside s net w

  -- A state with the same parts as one that stands for a world rests in that world.
  pub rests_same : (old new : State K Q E X) → SameParts old new → Stands outside old net w → RestsHere new
  rests_same old new same s = record {
    running = s.running;
    sited = s.sited ∙ sym (ap site_of same.site);
    nodes = ap length same.posts ∙ s.nodes;
    posts = λ v p at. post_rests net v w s.running outside.disk outside.entropy p (s.posts v p (ap (λ (xs : List (Post K E)). slice_get xs v) (sym same.posts) ∙ at));
    sides = ap length same.lanes ∙ s.sides;
    wires = λ l side at there. (s.lanes l side at (ap (λ (xs : List (LaneForm X)). slice_get xs (place_of l)) (sym same.lanes) ∙ there)).wire;
    links = ap length same.devices ∙ s.links;
    devices = λ link q at. s.devices link q (ap (λ (xs : List Q). slice_get xs link) (sym same.devices) ∙ at);
  }

  pub comes_to_rest : (s : State K Q E X) → Stands outside s net w → RestsHere s
  comes_to_rest s stands = rests_same s s (same_parts s) stands

  module _ (old new : State K Q E X) (same : SameParts old new)
      (stands : Stands outside old net w) where
    abbrev none : Tallied outside old old net.site []
    none = none_tallied outside net.site old (has_disks outside old net w stands)

    same_tallied : Tallied outside old new net.site []
    same_tallied = record {
      nodes = ap length same.posts;
      posts = λ v p q was is. none.posts v p q was (ap (λ (xs : List (Post K E)). slice_get xs v) (sym same.posts) ∙ is);
      links = ap length same.devices;
      devices = λ link p q was is. none.devices link p q was (ap (λ (xs : List Q). slice_get xs link) (sym same.devices) ∙ is);
      sides = ap length same.lanes;
      wires = λ l p q was is. none.wires l p q was (ap (λ (xs : List (LaneForm X)). slice_get xs (place_of l)) (sym same.lanes) ∙ is);
    }

    pub rests_still : (asked : Action) → Begins (Rests outside) (Tallied outside) old new net w (asks asked (λ outcome. []))
    rests_still asked =
        rests_before (Rests outside) (Tallied outside) old new net w asked (rests_same old new same stands) same_tallied
