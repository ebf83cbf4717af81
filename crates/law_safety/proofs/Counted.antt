-- A manager's own count of a lane: the received bytes are unused, spent, or given up at its last start.
use Rattle.std.proofs.Common.{◌≡◌, ℕ, ◌+◌, ◌-◌, true, false, cond, List, [], ◌∷◌, refl, ap, subst, arith, Some, map}
use Rattle.std.specs.Prelude.{◌==◌, find}
use Rattle.qkd_base.specs.LaneBytes.{lane_len}
use Rattle.qkd_base.specs.declared.lane.Lane.{Lane}
use Rattle.net_model.specs.declared.counts.Counts4.{Counts4}
use Rattle.net_model.specs.declared.reply.Reply.TheVariants.{Counted}
use Rattle.net_model.specs.Site.{outgoing_lanes}
use Rattle.net_model.specs.World.{Network, World, received}
use Rattle.net_model.specs.View.{Port, port_of, received_of}
use Rattle.net_model.specs.Needed.{masked, view_of, port_at}
use Rattle.net_model.specs.Show.{counted_of}
use Rattle.net_model.specs.Invariant.{Conserved}
use Rattle.law_base.proofs.LaneBlocks.{count_blocks}

abbrev AddsUp : Counts4 → Type 0
AddsUp c = c.received ≡ c.unused + c.spent + c.burnt

module _ (net : Network) (w : World) (c : Conserved net w) where
  port_adds_up : (l : Lane) (counts : Counts4) → counted_of (Some (port_at net w l)) ≡ Counted counts → AddsUp counts
  port_adds_up l counts h =
      let p : Port = port_at net w l in
      let own : Counts4 = record { received = received_of p; unused = received_of p - p.planned; spent = p.planned - (p.recovered - 8); burnt = p.recovered - 8 } in
      let same : own ≡ counts = cc in
      let all : received_of p ≡ received w.durable l = ap (lane_len l.way) (count_blocks (net.device l.link) (w.durable.blocks l)) in
      let room = c.now.room l in
      let up : AddsUp own = omega (arith, room.planned, room.leased, all, c.recovered l) in
      subst AddsUp same up

  any_port : (link : ℕ) (counts : Counts4) (ls : List Lane) → counted_of (find (λ (p : Port). p.lane.link == link) (map (port_at net w) ls)) ≡ Counted counts → AddsUp counts
  any_port link counts [] h =
      let none : record { received = 0; unused = 0; spent = 0; burnt = 0 } ≡ counts = cc in subst AddsUp none refl
  any_port link counts (l ∷ ls) h =
      elim (l.link == link) as (λ t. counted_of (cond t (Some (port_at net w l)) (find (λ (p : Port). p.lane.link == link) (map (port_at net w) ls))) ≡ Counted counts → AddsUp counts) [
        | true ↦ λ e. port_adds_up l counts e
        | false ↦ λ e. any_port link counts ls e
      ] h

  pub own_count : (v link : ℕ) (counts : Counts4) → counted_of (port_of (view_of net w v) link) ≡ Counted counts → AddsUp counts
  unfolding view_of masked
  own_count v link counts h = any_port link counts (outgoing_lanes net.site v) h
