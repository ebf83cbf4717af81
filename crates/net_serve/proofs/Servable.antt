-- Connections may ask the managers of a state that stands for a world.
use Rattle.std.proofs.Common.{◌≡◌, ℕ, sym, ap, subst, ◌∙◌, arith, Some}
use Rattle.std.specs.Prelude.{slice_get}
use Rattle.std.proofs.lemmas.Option.{slice_get_within}
use Rattle.net_model.specs.World.{Network, World}
use Rattle.declared_site.specs.SiteOf.{site_of}
use Rattle.declared_site.specs.declared.site.Site.{Site as Declared}
use Rattle.kme_base.specs.Up.{AreUp}
use Rattle.world_state.specs.Passed.{Post}
use Rattle.world_state.specs.Stands.{Stands}
use Rattle.world_state.specs.declared.state.State.{State}
use Rattle.net_serve.specs.Serving.{IsServable}
use Rattle.world_state.specs.Outside.{Outside}

pub servable : {K Q E X : Type 0} (outside : Outside K Q E X) (s : State K Q E X) (net : Network) (w : World) → Stands outside s net w →
    (site : Declared) (v : ℕ) (post : Post K E) (up : ℕ) → site ≡ s.site → up ≡ s.up → slice_get s.posts.items v ≡ Some post → IsServable outside.disk outside.entropy site v post up
servable outside s net w stands site v post up sited ups at =
    let within = slice_get_within s.posts.items v post at in
    let many = stands.nodes in
    record {
      net = net;
      now = w;
      sited = stands.sited ∙ ap site_of (sym sited);
      node = omega (arith, within, many);
      running = stands.running;
      stands = stands.posts v post at;
      links = subst (λ (n : ℕ). AreUp n w.link_up) (sym ups) stands.up;
    }
