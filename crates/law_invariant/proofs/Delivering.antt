-- Passing a frame to its receiver, unchanged or changed, keeps the conserved properties.
use Rattle.std.proofs.Common.{◌≡◌, ℕ, true, List, refl, Some}
use Rattle.std.specs.Prelude.{slice_get}
use Rattle.qkd_base.specs.declared.lane.Lane.{Lane}
use Rattle.net_model.specs.Item.{payload}
use Rattle.net_model.specs.Premises.{IsNetwork}
use Rattle.net_model.specs.Site.{receiver}
use Rattle.net_model.specs.World.{Network, World, Allocation}
use Rattle.net_model.specs.Invariant.{Conserved}
use Rattle.net_model.specs.Action.{Environment}
use Rattle.net_model.specs.Frames.{receive_item, deliver, tampered, flip}
use Rattle.law_base.proofs.Walks.{deliver_walk, tampered_walk, flip_walk}
use Rattle.law_invariant.proofs.Receiving.{item_keeps}

module _ (net : Network) (w : World) (network : IsNetwork net) (c : Conserved net w) (l : Lane) (environment : Environment) where
  received_keeps : (j : ℕ) (a : Allocation) → slice_get (w.frames l) j ≡ Some a → w.up (receiver net.site l) ≡ true →
      Conserved net (receive_item net w l a.offset environment (payload w.durable.facts a.item)).0
  received_keeps j a at up = item_keeps net w network c l a.offset environment a.item up ((c.now.carried l).framed j a at) (payload w.durable.facts a.item) refl

  pub deliver_keeps : (number : ℕ) → Conserved net (deliver net w l number environment).0
  deliver_keeps number = deliver_walk net w (Conserved net) c l environment received_keeps number

  pub tampered_keeps : (octets : List ℕ) → Conserved net (tampered net w l octets environment).0
  tampered_keeps octets = tampered_walk net w (Conserved net) c l environment received_keeps octets

  pub flip_keeps : (number bit : ℕ) → Conserved net (flip net w l number bit environment).0
  flip_keeps number bit = flip_walk net w (Conserved net) c l environment received_keeps number bit
