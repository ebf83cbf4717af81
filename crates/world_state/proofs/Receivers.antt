-- The post of the node that receives on a lane.
use Rattle.std.proofs.Common.{◌≡◌, ℕ, ◌<◌, Bool, true, false, ◌&&◌, length, refl, sym, ap, subst, arith}
use Rattle.std.specs.Prelude.{◌==◌}
use Rattle.std.proofs.lemmas.Bool.{ltb-true}
use Rattle.qkd_base.specs.declared.lane.Lane.{Lane}
use Rattle.qkd_base.specs.declared.lane.Way.{Way}
use Rattle.qkd_base.specs.declared.lane.Way.TheVariants.{Up, Down}
use Rattle.net_model.specs.Site.{Site, receiver, of_way}
use Rattle.net_model.specs.World.{Network, World}
use Rattle.net_model.specs.Premises.{IsLink}
use Rattle.net_model.specs.Events.{is_lane}
use Rattle.declared_site.specs.SiteOf.{site_of}
use Rattle.law_base.proofs.Base.{eq_from, not_false}
use Rattle.run_ops.specs.Acting.{IsReady}
use Rattle.world_state.specs.Stands.{Stands}
use Rattle.world_state.specs.declared.state.State.{State}
use Rattle.world_state.specs.Outside.{Outside}

pub elsewhere : (v u : ℕ) → (u ≡ v → ⊥) → (v == u) ≡ false
elsewhere v u other = not_false (v == u) (λ e. other (sym (eq_from v u e)))

pub no_part : (b : Bool) → (b && false) ≡ false
no_part true = refl
no_part false = refl

module _ {K Q E X : Type 0} (outside : Outside K Q E X) (old : State K Q E X) (net : Network) (w : World) (l : Lane)
    (ready : IsReady (Stands outside) old net w) (fit : is_lane (site_of old.site) l ≡ true) where
  pub lane_at : is_lane net.site l ≡ true
  lane_at = subst (λ (s : Site). is_lane s l ≡ true) (sym ready.stands.sited) fit

  link : IsLink net.site l.link
  link = ready.stands.running.network.site.ends l.link (ltb-true l.link net.site.links lane_at)

  end_below : (way : Way) → of_way way (net.site.high l.link) (net.site.low l.link) < net.site.nodes
  end_below Up = link.within
  end_below Down = let order = link.order in let within = link.within in omega (arith, order, within)

  pub post_below : receiver net.site l < length old.posts.items
  post_below = let below = end_below l.way in let nodes = ready.stands.nodes in omega (arith, below, nodes)

  pub same_receiver : receiver (site_of old.site) l ≡ receiver net.site l
  same_receiver = ap (λ (s : Site). receiver s l) (sym ready.stands.sited)
