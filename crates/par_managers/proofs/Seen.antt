-- What a manager's view has of a lane that leaves its node is what the network has.
use Rattle.std.proofs.Common.{◌≡◌, ℕ, true, sym, ap, subst, ◌∙◌, Some}
use Rattle.std.proofs.lemmas.Bool.{ltb-true}
use Rattle.qkd_base.specs.LaneBytes.{lane_len}
use Rattle.qkd_base.specs.declared.lane.Lane.{Lane}
use Rattle.net_model.specs.Site.{is_incident, sender, outgoing_lane}
use Rattle.net_model.specs.World.{Network, World, planned, received}
use Rattle.net_model.specs.Needed.{view_of, port_at}
use Rattle.net_model.specs.View.{View, port_of}
use Rattle.net_model.specs.Events.{is_lane}
use Rattle.law_base.proofs.LaneBlocks.{count_blocks}
use Rattle.world_state.specs.Passed.{ManagerForm, is_up, lease_of, Standing, Up as StandingUp, Down as StandingDown, Between as StandingBetween, Post, On, Off, IsRunning, StandingStands, PostStands}
use Rattle.world_state.proofs.Passed.{own_lane, port_there}
use Rattle.world_state.proofs.Leases.{incident_of}
use Rattle.par_managers.specs.Leases.{lease_at}
use Rattle.par_managers.specs.Posts.{is_on, planned_of, received_on, planned_at, received_at}
use Rattle.disk_model.specs.declared.disk.Disk as Disk
use Rattle.source_devices.specs.declared.entropy.Entropy as Entropy

module _ {K E : Type 0} (disk_says : Disk.Ghosts K) (entropy_says : Entropy.Ghosts E) (net : Network) (w : World) (v : ℕ) where
  abbrev StandsHere : Post K E → Type 0
  StandsHere post = PostStands disk_says entropy_says net w v post

  -- The program's manager is up exactly if the network's manager is up.

  standing_up : (m : ManagerForm K E) (s : Standing K) → StandingStands disk_says net w v m.site m.view s → is_up s ≡ w.up v
  standing_up m (StandingUp journal) stands = sym stands.up
  standing_up m (StandingDown disk) stands = sym stands.down
  standing_up m StandingBetween stands = absurd stands

  pub on_is : (post : Post K E) → StandsHere post → is_on post ≡ w.up v
  on_is (On m) stands = standing_up m m.standing stands.standing
  on_is (Off disk entropy) stands = sym stands.1.down

  module _ (r : IsRunning net w) (l : Lane) (at : is_lane net.site l ≡ true) (from : sender net.site l ≡ v) where
    seen_port : port_of (view_of net w v) l.link ≡ Some (port_at net w l)
    seen_port =
        port_there net w v l.link (subst (λ (u : ℕ). is_incident net.site u l.link ≡ true) from (incident_of net.site l)) (ltb-true l.link net.site.links at)
        ∙ ap (λ (k : Lane). Some (port_at net w k)) (ap (λ (u : ℕ). outgoing_lane net.site u l.link) (sym from) ∙ own_lane net.site r.network.site l at)

    standing_port : (m : ManagerForm K E) (s : Standing K) → StandingStands disk_says net w v m.site m.view s → is_up s ≡ true → port_of m.view l.link ≡ Some (port_at net w l)
    standing_port m (StandingUp journal) stands up = ap (λ (x : View). port_of x l.link) stands.sees ∙ seen_port
    standing_port m (StandingDown disk) stands up = cc
    standing_port m StandingBetween stands up = absurd stands

    manager_port : (m : ManagerForm K E) → StandsHere (On m) → is_up m.standing ≡ true → port_of m.view l.link ≡ Some (port_at net w l)
    manager_port m stands up = standing_port m m.standing stands.standing up

    pub lease_seen : (post : Post K E) → StandsHere post → is_on post ≡ true → lease_at post l ≡ w.durable.lease l
    lease_seen (On m) stands up = ap lease_of (manager_port m stands up)
    lease_seen (Off disk entropy) stands up = cc

    pub planned_seen : (post : Post K E) → StandsHere post → is_on post ≡ true → planned_at post l ≡ planned w l
    planned_seen (On m) stands up = ap planned_of (manager_port m stands up)
    planned_seen (Off disk entropy) stands up = cc

    pub received_seen : (post : Post K E) → StandsHere post → is_on post ≡ true → received_at post l ≡ received w.durable l
    received_seen (On m) stands up = ap received_on (manager_port m stands up) ∙ ap (lane_len l.way) (count_blocks (net.device l.link) (w.durable.blocks l))
    received_seen (Off disk entropy) stands up = cc
