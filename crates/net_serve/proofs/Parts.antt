-- If two states have the same parts, they stand for the same world.
use Rattle.std.proofs.Common.{◌≡◌, ℕ, List, length, sym, ap, subst, ◌∙◌}
use Rattle.std.specs.Prelude.{slice_get}
use Rattle.net_model.specs.World.{Network, World}
use Rattle.net_model.specs.Action.{Action}
use Rattle.declared_site.specs.SiteOf.{site_of}
use Rattle.kme_base.specs.Up.{AreUp}
use Rattle.world_state.specs.Passed.{Post}
use Rattle.world_state.specs.Stands.{Stands, place_of}
use Rattle.world_state.specs.Tallied.{Tallied}
use Rattle.world_state.specs.declared.state.State.{State}
use Rattle.world_state.specs.Outside.{Outside}

pub record SameParts {K Q E X : Type 0} (s t : State K Q E X) : Type 0 where
  pub site : t.site ≡ s.site
  pub posts : t.posts.items ≡ s.posts.items
  pub lanes : t.lanes.items ≡ s.lanes.items
  pub devices : t.devices.items ≡ s.devices.items
  pub links : t.up ≡ s.up

module _ {K Q E X : Type 0} (outside : Outside K Q E X)
    (net : Network) (s t : State K Q E X) (same : SameParts s t) where
  pub same_stands : (w : World) → Stands outside s net w → Stands outside t net w
  same_stands w h = record {
    running = h.running;
    sited = h.sited ∙ ap site_of (sym same.site);
    nodes = ap (λ (ps : List (Post K E)). length ps) same.posts ∙ h.nodes;
    posts = λ v p at. h.posts v p (sym (ap (λ (ps : List (Post K E)). slice_get ps v) same.posts) ∙ at);
    sides = ap (λ ls. length ls) same.lanes ∙ h.sides;
    lanes = λ l side is at. h.lanes l side is (sym (ap (λ ls. slice_get ls (place_of l)) same.lanes) ∙ at);
    links = ap (λ qs. length qs) same.devices ∙ h.links;
    devices = λ link q at. h.devices link q (sym (ap (λ qs. slice_get qs link) same.devices) ∙ at);
    up = subst (λ (n : ℕ). AreUp n w.link_up) (sym same.links) h.up;
  }

  pub same_tallied : (old : State K Q E X) (actions : List Action) → Tallied outside old s net.site actions →
      Tallied outside old t net.site actions
  same_tallied old actions h = record {
    nodes = ap (λ (ps : List (Post K E)). length ps) same.posts ∙ h.nodes;
    posts = λ v p q was is. h.posts v p q was (sym (ap (λ (ps : List (Post K E)). slice_get ps v) same.posts) ∙ is);
    links = ap (λ qs. length qs) same.devices ∙ h.links;
    devices = λ link p q was is. h.devices link p q was (sym (ap (λ qs. slice_get qs link) same.devices) ∙ is);
    sides = ap (λ ls. length ls) same.lanes ∙ h.sides;
    wires = λ l p q was is. h.wires l p q was (sym (ap (λ ls. slice_get ls (place_of l)) same.lanes) ∙ is);
  }
