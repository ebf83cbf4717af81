-- Durable changes: how each record of a batch changes the world.
use Rattle.std.specs.Prelude.{ℕ, ◌+◌, ◌==◌, ◌&&◌, nat_lt, Bool, List, [], ◌∷◌, ◌++◌, if◌then◌else◌, replicate}
use Rattle.qkd_base.specs.Family.{number_set, lane_set}
use Rattle.qkd_base.specs.declared.lane.Lane.{Lane}
use Rattle.net_model.specs.declared.record.Record.{Record}
use Rattle.net_model.specs.declared.record.Record.TheVariants.{Block, Lease, Learned, Acked, Handed, Closed, Bare}
use Rattle.net_model.specs.Table.{learned, name_of}
use Rattle.net_model.specs.Site.{Site, outgoing_lane}
use Rattle.qkd_base.specs.LaneBytes.{lane_len}
use Rattle.net_model.specs.World.{Durable, Owner, HashKey}

-- the sender takes the first block of a lane, whose first 8 bytes are the hash key
abbrev pub is_first : ℕ → ℕ → Bool
is_first before after = (before == 0) && nat_lt 0 after

abbrev pub keyed_own : ℕ → ℕ → List Owner → List Owner
keyed_own before after own = if is_first before after then replicate 8 HashKey else own

abbrev pub keyed_lease : ℕ → ℕ → ℕ → ℕ
keyed_lease before after lease = if is_first before after then 8 else lease

-- the sender of the lane takes one more block
unfoldable pub block_taken : Lane → Durable → Durable
block_taken l d =
    record d {
      blocks = lane_set d.blocks l (d.blocks l + 1);
      own = lane_set d.own l (keyed_own (lane_len l.way (d.blocks l)) (lane_len l.way (d.blocks l + 1)) (d.own l));
      lease = lane_set d.lease l (keyed_lease (lane_len l.way (d.blocks l)) (lane_len l.way (d.blocks l + 1)) (d.lease l));
    }

-- a node makes one durable change
unfoldable pub apply_record : Site → ℕ → Record → Durable → Durable
apply_record s v (Block link number bytes) d = block_taken (outgoing_lane s v link) d
apply_record s v (Lease lane end) d = record d { lease = lane_set d.lease lane end }
apply_record s v (Learned f) d = record d { facts = learned d.facts f; known = number_set d.known v (d.known v ++ name_of f ∷ []) }
apply_record s v (Acked n) d = record d { acked = number_set d.acked v (d.acked v ++ n ∷ []) }
apply_record s v (Handed n sae) d = record d { handed = d.handed ++ (n, sae) ∷ [] }
apply_record s v (Closed n sae) d = record d { closed = number_set d.closed v (d.closed v ++ (n, sae) ∷ []) }
apply_record s v (Bare f) d = record d { facts = learned d.facts f; known = number_set d.known v (d.known v ++ name_of f ∷ []) }

-- a node makes the durable changes of a batch, in order
unfoldable pub replay : Site → ℕ → List Record → Durable → Durable
replay s v [] d = d
replay s v (r ∷ rs) d = replay s v rs (apply_record s v r d)
