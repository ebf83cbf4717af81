-- Taking the next block of a link's device keeps the conserved properties.
use Rattle.std.proofs.Common.{◌≡◌, ℕ, zero, suc, ◌+◌, ◌*◌, ◌<◌, ◌≤◌, true, false, not, List, [], ◌∷◌, refl, arith, Some}
use Rattle.std.specs.Prelude.{◌==◌, slice_get}
use Rattle.std.proofs.lemmas.Bool.Decides.{nat_tests}
use Rattle.net_model.specs.declared.event.Event.TheVariants.{Block}
use Rattle.net_model.specs.declared.record.Record.TheVariants.{Block as Block', Learned}
use Rattle.net_model.specs.declared.reply.Reply.TheVariants.{LinkFull, Took}
use Rattle.net_model.specs.declared.fact.Fact.{Fact}
use Rattle.net_model.specs.Premises.{IsNetwork}
use Rattle.net_model.specs.Site.{outgoing_lane, is_incident}
use Rattle.net_model.specs.OctetSequence.{has_octets, block_at}
use Rattle.net_model.specs.World.{Network, World}
use Rattle.net_model.specs.View.{port_of, blocks_of}
use Rattle.net_model.specs.Needed.{masked, view_of}
use Rattle.net_model.specs.Decision.{Refuses, makes}
use Rattle.net_model.specs.Decide.{decide, random_need}
use Rattle.net_model.specs.Invariant.{Conserved}
use Rattle.net_model.specs.Action.{Environment, Outcome, is_device_fault}
use Rattle.net_model.specs.Handle.{blocks_at, take_block}
use Rattle.law_base.proofs.Base.{below_from, by_test}
use Rattle.law_base.proofs.Walks.{take_block_walk}
use Rattle.law_invariant.specs.May.{decided}
use Rattle.law_invariant.proofs.Deciding.{MayResolve, handle_keeps, plain_takes}

module _ (net : Network) (w : World) (network : IsNetwork net) (c : Conserved net w) (v link : ℕ) (incident : is_incident net.site v link ≡ true) where
  no_fact : (number : ℕ) (bytes : List ℕ) (n : ℕ) (f : Fact) → slice_get (Block' link number bytes ∷ []) n ≡ Some (Learned f) → ⊥
  no_fact number bytes zero f h = cc
  no_fact number bytes (suc n) f h = cc

  block_decided : (bytes : List ℕ) → (blocks_at net w v link == 1024) ≡ false →
      MayResolve net w v (random_need (view_of net w v) (Block link (blocks_at net w v link) bytes)) (decided net w v (Block link (blocks_at net w v link) bytes))
  unfolding decide random_need view_of masked
  block_decided bytes not_full =
      let number : ℕ = blocks_at net w v link in
      by_test (MayResolve net w v 0) (blocks_of (port_of (view_of net w v) link) == 1024) (Refuses LinkFull) (makes (view_of net w v) (Block' link number bytes ∷ []) (Took number))
      (λ full. tt)
      (λ x numbered. plain_takes net w network c v 0 (Block' link number bytes ∷ []) (Took number)
      ((incident, refl, below_from (w.durable.blocks (outgoing_lane net.site v link)) 1024 (c.few_blocks (outgoing_lane net.site v link)) not_full), tt)
      (λ n f at secret. absurd (no_fact number bytes n f at)))

  pub take_block_keeps : (environment : Environment) → Conserved net (take_block net w v link environment).0
  take_block_keeps environment =
      take_block_walk net w (Conserved net) c v link environment
      (λ not_full. handle_keeps net w network c v (Block link (blocks_at net w v link) (block_at (net.device link) (blocks_at net w v link))) environment
      (λ up. block_decided (block_at (net.device link) (blocks_at net w v link)) not_full))
