-- The lanes that leave a manager's node, after a turn at the manager's desk.
use Rattle.std.proofs.Common.{◌≡◌, ℕ, zero, suc, ◌+◌, ◌^◌, ◌<◌, ◌≤◌, true, List, [], ◌∷◌, ◌++◌, map, sym, ap, subst, ◌∙◌, arith, Option, Some, None}
use Rattle.std.specs.List.{AllByRecursion}
use Rattle.std.specs.Coded.{le_prop, coded_bool, coded_ℕ, Coded-set}
use Rattle.std.proofs.Math.Logic.{∥∥₁_elim}
use Rattle.qkd_base.specs.Lane.{lane_place}
use Rattle.qkd_base.specs.declared.lane.Lane.{Lane}
use Rattle.net_model.specs.declared.event.Event.{Event}
use Rattle.net_model.specs.declared.order.Order.{Order}
use Rattle.net_model.specs.declared.repeat.Repeat.{Repeat}
use Rattle.net_model.specs.declared.reply.Reply.{Reply}
use Rattle.net_model.specs.Ownership.{HasRoom}
use Rattle.net_model.specs.Site.{Site, sender}
use Rattle.net_model.specs.World.{Network, World, received}
use Rattle.net_model.specs.Events.{is_lane}
use Rattle.net_model.specs.Action.{Replies}
use Rattle.net_model.specs.Step.{step, is_enabled}
use Rattle.net_model.specs.Tick.{Emission, Again, New}
use Rattle.run_model.specs.Works.{wanted_put}
use Rattle.run_ops.specs.declared.job.Job.{Job}
use Rattle.run_ops.specs.declared.job.Job.TheVariants as jobs
use Rattle.declared_site.specs.SiteOf.{site_of}
use Rattle.law_base.proofs.LaneBlocks.{lane_small}
use Rattle.world_state.specs.Passed.{Post, IsRunning}
use Rattle.par_lanes.specs.Wants.{turns_at, bytes_at}
use Rattle.par_lanes.specs.Granting.{need_at}
use Rattle.par_managers.specs.Going.{IsOnItsWay}
use Rattle.par_managers.specs.Leases.{lease_at}
use Rattle.par_managers.specs.Taking.{MayCome, MayTurnAt, HappensAt, IsTurnAt}
use Rattle.par_managers.proofs.Going.{may_turn}
use Rattle.par_managers.proofs.Takes.{asked_node, planned_node}
use Rattle.world_state.specs.declared.state.State.{State}
use Rattle.par_managers.specs.Turning.{asked_with, planner}
use Rattle.world_state.proofs.StateGoesOn.{enabled_of, running_on}
use Rattle.par_managers.proofs.Turning.{wants_none, up_after}
use Rattle.par_managers.specs.Posts.{is_on, planned_at, received_at}
use Rattle.par_managers.specs.Wanted.{orders_replied, CanLeave}
use Rattle.par_managers.proofs.Props.{all_prop, can_prop}
use Rattle.par_managers.proofs.Replies.{repeats_replied, wanted_is, turn_can, turn_few, turn_up}
use Rattle.par_managers.proofs.Seen.{on_is, lease_seen, planned_seen, received_seen}
use Rattle.par_managers.proofs.Turns.{lane_keeps, plans_more}
use Rattle.par_managers.proofs.Wants.{orders_take, plan_few, order_there}
use Rattle.disk_model.specs.declared.disk.Disk as Disk
use Rattle.source_devices.specs.declared.entropy.Entropy as Entropy
use Rattle.world_state.specs.Outside.{Outside}

-- A lane's lease is no lower, its new orders are planned after the earlier ones, and it receives no byte.
pub record LaneTold {K E : Type 0} (l : Lane) (old new : Post K E) (bytes : ℕ) : Type 0 where
  pub lease : lease_at old l ≤ lease_at new l
  pub more : planned_at old l + bytes ≤ planned_at new l
  pub planned' : planned_at new l ≤ lease_at new l
  pub leased : lease_at new l ≤ received_at new l
  pub received' : received_at new l ≡ received_at old l

pub record Told {K E : Type 0} (s : Site) (v : ℕ) (old new : Post K E) (job : Job) (reply : Reply) : Type 0 where
  pub on : is_on new ≡ true → is_on old ≡ true
  pub lanes : (l : Lane) → is_lane s l ≡ true → sender s l ≡ v → is_on new ≡ true → LaneTold l old new (bytes_at (lane_place l) (wanted_put (Replies reply)))
  pub planned' : (u : ℕ) → planner job reply ≡ Some u → is_on new ≡ true
  pub none : planner job reply ≡ None → (i : ℕ) → bytes_at i (wanted_put (Replies reply)) ≡ 0
  pub can : AllByRecursion (CanLeave s v) (wanted_put (Replies reply))
  pub few : (i : ℕ) → turns_at i (wanted_put (Replies reply)) ≤ 2 ^ 21

all_can : (s : Site) (v : ℕ) (es : List Emission) → IsProp (AllByRecursion (CanLeave s v) es)
all_can s v es = all_prop (CanLeave s v) (can_prop s v) es

none_or : (n : ℕ) → (0 < n → n ≤ 524288) → n ≤ 524288
none_or zero h = omega arith
none_or (suc n) h = h (omega arith)

module _ {K E : Type 0} where
  lane_prop : (l : Lane) (old new : Post K E) (bytes : ℕ) → IsProp (LaneTold l old new bytes)
  lane_prop l old new bytes = hlevel (le_prop, coded_ℕ, Coded-set)

  told_prop : (s : Site) (v : ℕ) (old new : Post K E) (job : Job) (reply : Reply) → IsProp (Told s v old new job reply)
  told_prop s v old new job reply = hlevel (le_prop, coded_ℕ, coded_bool, Coded-set, lane_prop, all_can)

-- Each order of a reply is on a lane that leaves the node.

orders_can : (s : Site) (v : ℕ) (rs : List Repeat) (os : List Order) → AllByRecursion (CanLeave s v) (map Again rs ++ map New os) → AllByRecursion (λ (o : Order). CanLeave s v (New o)) os
orders_can s v [] [] h = tt
orders_can s v [] (o ∷ os) h = (h.0, orders_can s v [] os h.1)
orders_can s v (r ∷ rs) os h = orders_can s v rs os h.1

module _ (s : Site) (v : ℕ) (reply : Reply) (can : AllByRecursion (CanLeave s v) (wanted_put (Replies reply))) where
  pub replied_can : AllByRecursion (λ (o : Order). CanLeave s v (New o)) (orders_replied reply)
  replied_can = orders_can s v (repeats_replied reply) (orders_replied reply) (subst (AllByRecursion (CanLeave s v)) (wanted_is reply) can)

pub bytes_replied : (i : ℕ) (reply : Reply) → bytes_at i (wanted_put (Replies reply)) ≡ need_at i (orders_replied reply)
bytes_replied i reply = ap (bytes_at i) (wanted_is reply) ∙ orders_take i (repeats_replied reply) (orders_replied reply)

-- ---- in a world in which the turn may be taken

module _ {K E : Type 0} (disk_says : Disk.Ghosts K) (entropy_says : Entropy.Ghosts E) (net : Network) (w : World) (v place : ℕ) (old new : Post K E) (job : Job)
    (octets : Option (List ℕ)) (up : ℕ) (may : MayTurnAt disk_says entropy_says net w v place old job octets up) (reply : Reply) (h : HappensAt disk_says entropy_says net w v old new job reply) where
  abbrev after : World
  after = (step net w (asked_with job h.environment)).0

  abbrev es : List Emission
  es = wanted_put (Replies reply)

  running : IsRunning net after
  running = running_on net w (asked_with job h.environment) may.running h.may

  enabled : is_enabled net w (asked_with job h.environment) ≡ true
  enabled = enabled_of net w (asked_with job h.environment) h.may

  on_before : is_on new ≡ true → is_on old ≡ true
  on_before on =
      on_is disk_says entropy_says net w v old may.stands
      ∙ turn_up net w v job h.environment (sym (on_is disk_says entropy_says net after v new h.stands) ∙ on)

  mine : (node : ℕ) (event : Event) → job ≡ jobs.Ask node event → node ≡ v
  mine node event is = asked_node net.site v place node event (subst (IsTurnAt net.site v place) is may.mine)

  module _ (l : Lane) (at : is_lane net.site l ≡ true) (from : sender net.site l ≡ v) where
    -- What is planned lies below the lease, which is at most the number of received bytes.
    room : HasRoom after.durable.facts (after.durable.own l) (after.unclaimed l) (after.durable.lease l) (received after.durable l)
    room = running.conserved.now.room l

    lane_told : is_on new ≡ true → LaneTold l old new (bytes_at (lane_place l) es)
    lane_told on =
        let was = on_before on in
        let kept = lane_keeps net w may.running job h.environment enabled l at in
        let more = plans_more net w may.running h.environment l at job reply may.fit enabled h.said in
        let old_lease = lease_seen disk_says entropy_says net w v may.running l at from old may.stands was in
        let old_planned = planned_seen disk_says entropy_says net w v may.running l at from old may.stands was in
        let old_received = received_seen disk_says entropy_says net w v may.running l at from old may.stands was in
        let new_lease = lease_seen disk_says entropy_says net after v running l at from new h.stands on in
        let new_planned = planned_seen disk_says entropy_says net after v running l at from new h.stands on in
        let new_received = received_seen disk_says entropy_says net after v running l at from new h.stands on in
        let under = room in
        record {
          lease = omega (arith, kept.lease, old_lease, new_lease);
          more = omega (arith, more, old_planned, new_planned);
          planned' = omega (arith, under.planned, new_planned, new_lease);
          leased = omega (arith, under.leased, new_lease, new_received);
          received' = new_received ∙ kept.received' ∙ sym old_received;
        }

    -- The orders take at most as many bytes of a lane as it can ever receive.
    few_bytes : bytes_at (lane_place l) es ≤ 524288
    few_bytes =
        let more = plans_more net w may.running h.environment l at job reply may.fit enabled h.said in
        let under = room in
        let small = lane_small l.way (after.durable.blocks l) (running.conserved.few_blocks l) in
        omega (arith, more, under.planned, under.leased, small)

  can : AllByRecursion (CanLeave net.site v) es
  can = turn_can net w may.running h.environment job v reply mine may.fit h.said

  bytes_case : (i : ℕ) → 0 < bytes_at i es → bytes_at i es ≤ 524288
  bytes_case i some =
      let there = order_there i (λ (o : Order). CanLeave net.site v (New o)) (orders_replied reply) (replied_can net.site v reply can) (subst (λ (n : ℕ). 0 < n) (bytes_replied i reply) some) in
      subst (λ (k : ℕ). bytes_at k es ≤ 524288) there.here (few_bytes there.order.lane there.holds.0 there.holds.1)

  bytes_few : (i : ℕ) → bytes_at i es ≤ 524288
  bytes_few i = none_or (bytes_at i es) (bytes_case i)

  few : (i : ℕ) → turns_at i es ≤ 2 ^ 21
  few i =
      let turns = ap (turns_at i) (wanted_is reply) in
      let most = plan_few i (repeats_replied reply) (orders_replied reply) in
      let repeats = turn_few net w may.running h.environment job v reply mine may.fit h.said in
      let bytes = bytes_few i in
      let same = bytes_replied i reply in
      let links = may.running.network.site.links in
      omega (arith, turns, most, repeats, bytes, same, links)

  planned_on : (u : ℕ) → planner job reply ≡ Some u → is_on new ≡ true
  planned_on u is =
      on_is disk_says entropy_says net after v new h.stands
      ∙ subst (λ (x : ℕ). after.up x ≡ true) (planned_node net.site v place u job reply may.mine is) (up_after net w may.running.network may.running.conserved u job h.environment reply is h.said)

  no_bytes : planner job reply ≡ None → (i : ℕ) → bytes_at i es ≡ 0
  no_bytes none i = ap (bytes_at i) (wants_none net w may.running.network may.running.conserved job h.environment reply may.fit none h.said)

  pub told_there : Told net.site v old new job reply
  told_there = record { on = on_before; lanes = lane_told; planned' = planned_on; none = no_bytes; can = can; few = few }

-- ---- at a desk

module _ {K Q E X : Type 0} (outside : Outside K Q E X) (opening : State K Q E X) (v : ℕ) (old new : Post K E) (up place : ℕ) (job : Job) (octets : Option (List ℕ))
    (way : ∥ IsOnItsWay outside opening v old up ∥₁) (come : MayCome outside opening v place job octets) (reply : Reply)
    (took : (net : Network) (w : World) (u place : ℕ) → MayTurnAt outside.disk outside.entropy net w u place old job octets up → HappensAt outside.disk outside.entropy net w u old new job reply) where
  told_in : IsOnItsWay outside opening v old up → Told (site_of opening.site) v old new job reply
  told_in x =
      let may = may_turn outside opening v old up place job octets x come in
      subst (λ (s : Site). Told s v old new job reply) x.ready.stands.sited
      (told_there outside.disk outside.entropy x.net x.now v place old new job octets up may reply (took x.net x.now v place may))

  pub told_at : Told (site_of opening.site) v old new job reply
  told_at = ∥∥₁_elim way (told_prop (site_of opening.site) v old new job reply) told_in
