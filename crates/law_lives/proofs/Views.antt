-- At rest each node sees what a start would give it back.
use Rattle.std.proofs.Common.{◌≡◌, ℕ, ◌+◌, List, [], ◌∷◌, length, map, refl, arith, Bool}
use Rattle.qkd_base.specs.declared.lane.Lane.{Lane}
use Rattle.net_model.specs.Site.{count_up, outgoing_lanes}
use Rattle.net_model.specs.World.{Network, World, Durable, Journal}
use Rattle.net_model.specs.Needed.{is_needed, masked, view_of, port_at}
use Rattle.net_model.specs.Fold.{view_restarted}
use Rattle.net_model.specs.Invariant.{Invariant, with_doubts}
use Rattle.law_recovery.specs.Saved.{saved}
use Rattle.law_recovery.proofs.Starting.{at_lease}
use Rattle.law_lives.specs.AtRest.{durable_at_rest, at_rest}
use Rattle.law_lives.proofs.Owners.{length_at_rest}

module _ (net : Network) (w : World) (made : ℕ → Bool) (journals : ℕ → Journal)
    (now : Invariant net.site (with_doubts net.site w made (count_up net.site.nodes) w.durable) w.frames w.unclaimed) where
  abbrev settled : Durable
  settled = with_doubts net.site w made (count_up net.site.nodes) w.durable

  abbrev rest : World
  rest = at_rest net.site made journals w

  port_rests : (l : Lane) → port_at net rest l ≡ at_lease (port_at net (record w { durable = settled }) l)
  unfolding at_rest
  port_rests l =
      let all : length ((durable_at_rest net.site made w).own l) + 0 ≡ settled.lease l =
      omega (arith, length_at_rest settled.facts (settled.own l) (w.unclaimed l) (settled.lease l) _ (now.room l)) in
      λ i. record (port_at net rest l) { planned = all i }

  ports_rest : (ls : List Lane) → map (port_at net rest) ls ≡ map at_lease (map (port_at net (record w { durable = settled })) ls)
  ports_rest [] = refl
  ports_rest (l ∷ ls) = let one = port_rests l in let others = ports_rest ls in λ i. one i ∷ others i

  pub rest_sees : (v : ℕ) → view_of net rest v ≡ saved net (record w { durable = settled }) v
  unfolding view_of masked view_restarted is_needed at_rest
  rest_sees v = let ports = ports_rest (outgoing_lanes net.site v) in λ i. record (view_of net rest v) { ports = ports i }
