-- The frames of a block's plans that are still to be sent.
use Rattle.std.specs.Prelude.{◌≡◌, ℕ, ◌<◌, true, List, map, filter}
use Rattle.std.specs.List.{AllByRecursion}
use Rattle.net_model.specs.BlockOrder.{is_turn_of}
use Rattle.run_model.specs.Works.{Work}
use Rattle.qkd_base.specs.Lane.{lane_eq}
use Rattle.qkd_base.specs.declared.lane.Lane.{Lane}
use Rattle.net_model.specs.declared.order.Order.{Order}
use Rattle.net_model.specs.declared.repeat.Repeat.{Repeat}
use Rattle.net_model.specs.Site.{sender}
use Rattle.net_model.specs.World.{Network, World}
use Rattle.net_model.specs.Tick.{Emission, ordered}
use Rattle.law_locality.specs.Sending.{orders_in, repeats_in, repeated, IsEmission}
use Rattle.law_parallel.specs.Putting.{lane_of}

-- Just these frames are still to be sent, on each lane in this order, and each by its lane's sender. New orders wait
-- for their bytes, repeats wait for the wire.
pub record Remains (net : Network) (w : World) (es : List Emission) : Type 0 where
  pub each : AllByRecursion (λ (e : Emission). IsEmission net w (sender net.site (lane_of e)) e) es
  pub unclaimed : (l : Lane) → w.unclaimed l ≡ map ordered (filter (λ (o : Order). lane_eq o.lane l) (orders_in es))
  pub outgoing : (l : Lane) → w.outgoing l ≡ map (repeated (w.frames l)) (filter (λ (r : Repeat). lane_eq r.lane l) (repeats_in es))

-- The two lists have the same frames on each lane, in the same order.
abbrev pub AreTheSame : List (ℕ × Emission) → List (ℕ × Emission) → Type 0
AreTheSame xs ys = (l : Lane) → filter (λ (x : ℕ × Emission). lane_eq (lane_of x.1) l) xs ≡ filter (λ (x : ℕ × Emission). lane_eq (lane_of x.1) l) ys

-- Each work is a turn that a block may have, of a declared node's manager.
abbrev pub AreTurns : Network → List Work → Type 0
AreTurns net works = AllByRecursion (λ (x : Work). (v : ℕ) × (v < net.site.nodes) × (is_turn_of net.site v x.action ≡ true)) works
