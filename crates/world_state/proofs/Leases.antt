-- The lease that a manager's view has of a lane that leaves its node.
use Rattle.std.proofs.Common.{◌≡◌, ℕ, true, sym, ap, subst, ◌∙◌}
use Rattle.std.specs.Prelude.{◌==◌}
use Rattle.std.proofs.lemmas.Bool.{ltb-true}
use Rattle.qkd_base.specs.declared.lane.Lane.{Lane}
use Rattle.qkd_base.specs.declared.lane.Way.TheVariants.{Up, Down}
use Rattle.net_model.specs.Site.{Site, sender, of_way, is_incident, outgoing_lane}
use Rattle.net_model.specs.World.{Network, World}
use Rattle.net_model.specs.Needed.{view_of}
use Rattle.net_model.specs.View.{View, port_of}
use Rattle.net_model.specs.Events.{is_lane}
use Rattle.law_base.proofs.Base.{eq_same, or_left, or_right, not_both}
use Rattle.world_nodes.specs.Passed.{ManagerForm, lease_of, Standing, On, Off}
use Rattle.world_nodes.specs.Standings as standings
use Rattle.world_nodes.specs.LaneStands.{IsRunning}
use Rattle.world_nodes.proofs.Taking.{own_lane}
use Rattle.world_nodes.specs.Stands.{StandingStands, PostStands}
use Rattle.world_nodes.proofs.Ports.{port_there}
use Rattle.disk_model.specs.declared.disk.Disk as Disk
use Rattle.source_devices.specs.declared.entropy.Entropy as Entropy

pub incident_of : (s : Site) (l : Lane) → is_incident s (sender s l) l.link ≡ true
incident_of s l = elim l.way as (λ way. is_incident s (of_way way (s.low l.link) (s.high l.link)) l.link ≡ true) [
  | Up ↦ or_left (s.low l.link == s.low l.link) _ (eq_same (s.low l.link))
  | Down ↦ or_right (s.low l.link == s.high l.link) _ (eq_same (s.high l.link))
]

module _ {K E : Type 0} (disk_says : Disk.Ghosts K) (entropy_says : Entropy.Ghosts E) (net : Network) (w : World) (v : ℕ) (l : Lane)
    (running : IsRunning net w) (up : w.up v ≡ true) (at : is_lane net.site l ≡ true) (from : sender net.site l ≡ v) where
  seen_lease : lease_of (port_of (view_of net w v) l.link) ≡ w.durable.lease l
  seen_lease =
      ap lease_of (port_there net w v l.link (subst (λ (u : ℕ). is_incident net.site u l.link ≡ true) from (incident_of net.site l)) (ltb-true l.link net.site.links at))
      ∙ ap w.durable.lease (ap (λ (u : ℕ). outgoing_lane net.site u l.link) (sym from) ∙ own_lane net.site running.network.site l at)

  standing_lease : (m : ManagerForm K E) (s : Standing K) → StandingStands disk_says net w v m.site m.view s → lease_of (port_of m.view l.link) ≡ w.durable.lease l
  standing_lease m (standings.Up journal) stands = ap (λ (x : View). lease_of (port_of x l.link)) stands.sees ∙ seen_lease
  standing_lease m (standings.Down disk) stands = absurd (not_both (w.up v) up stands.down)
  standing_lease m standings.Between stands = absurd stands

  pub manager_lease : (m : ManagerForm K E) → PostStands disk_says entropy_says net w v (On m) → lease_of (port_of m.view l.link) ≡ w.durable.lease l
  manager_lease m stands = standing_lease m m.standing stands.standing

  pub no_manager : {A : Type 0} (disk : K) (entropy : E) → PostStands disk_says entropy_says net w v (Off disk entropy) → A
  no_manager disk entropy stands = absurd (not_both (w.up v) up stands.1.down)
