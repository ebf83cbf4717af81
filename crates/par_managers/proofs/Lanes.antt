-- The number of lanes.
use Rattle.std.proofs.Common.{◌≡◌, ℕ, ◌*◌, ◌≤◌, length, subst, arith}
use Rattle.std.specs.Coded.{coded_ℕ, Coded-set}
use Rattle.std.proofs.Math.Logic.{∥∥₁_elim}
use Rattle.net_model.specs.Site.{Site}
use Rattle.declared_site.specs.SiteOf.{site_of}
use Rattle.world_state.specs.Passed.{Post}
use Rattle.par_managers.specs.Going.{IsOnItsWay}
use Rattle.par_managers.proofs.Going.{few_links}
use Rattle.world_state.specs.declared.state.State.{State}
use Rattle.world_state.specs.Outside.{Outside}

module _ {K Q E X : Type 0} (outside : Outside K Q E X) (opening : State K Q E X) (v : ℕ) (post : Post K E) (up : ℕ) (way : ∥ IsOnItsWay outside opening v post up ∥₁) where
  -- Each link has two lanes.
  pub lanes_there : length opening.lanes.items ≡ 2 * (site_of opening.site).links
  lanes_there = ∥∥₁_elim way (Coded-set coded_ℕ _ _) (λ x. subst (λ (s : Site). length opening.lanes.items ≡ 2 * s.links) x.ready.stands.sited x.ready.stands.sides)

  pub few_lanes : length opening.lanes.items ≤ 64
  few_lanes =
      let links = few_links outside opening v post up way in
      let lanes = lanes_there in
      omega (arith, links, lanes)
