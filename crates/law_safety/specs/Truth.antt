-- True replies: what they hand out is marked, is for applications at home there, and has the bytes of its name.
use Rattle.std.specs.Prelude.{◌≡◌, ℕ, List, ◌++◌, length, map, drop, slice_get, Some}
use Rattle.qkd_base.specs.Name.{Name}
use Rattle.net_model.specs.declared.fact.Fact.{Fact}
use Rattle.net_model.specs.declared.reply.Reply.TheVariants.{Handed}
use Rattle.net_model.specs.World.{Network, World}
use Rattle.net_model.specs.Action.{Outcome, Replies}
use Rattle.net_model.specs.Handings.{PairsDiffer}
use Rattle.net_model.specs.Deliveries.{Delivery, to_one, IsTrueDelivery, pairs_of, IsWithin}

-- The new marks are the pairs handed out, in order. Each name has its own bytes, and each application is at home at
-- the node.
pub record IsTrueReply (net : Network) (w new : World) (v : ℕ) (ds : List Delivery) : Type 0 where
  pub marked : new.durable.handed ≡ w.durable.handed ++ pairs_of ds
  pub bytes : (n : ℕ) (d : Delivery) → slice_get ds n ≡ Some d → IsTrueDelivery w.durable.facts d
  pub home : (n : ℕ) (d : Delivery) → slice_get ds n ≡ Some d → net.site.home d.sae ≡ v

-- The application gets just these keys, in order, each with its own bytes.
pub record IsAnswered (facts : List Fact) (sae : ℕ) (ns : List Name) (outcome : Outcome) : Type 0 where
  pub keys : List (Name × List ℕ)
  pub is : outcome ≡ Replies (Handed keys)
  pub names : map (λ (key : Name × List ℕ). key.0) keys ≡ ns
  pub bytes : (n : ℕ) (key : Name × List ℕ) → slice_get keys n ≡ Some key → IsTrueDelivery facts (to_one sae key)

-- All that was handed out since the earlier world is marked behind the earlier marks, in order. No pair was marked before,
-- or is handed out twice.
pub record AreNew (earlier w : World) (ds : List Delivery) : Type 0 where
  pub marked : IsWithin (pairs_of ds) (drop (length earlier.durable.handed) w.durable.handed)
  pub once : PairsDiffer (earlier.durable.handed ++ pairs_of ds)
