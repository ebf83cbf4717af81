-- Journals: the octets of batches in both versions of records, and how a checkpoint changes a journal.
use Rattle.std.specs.Prelude.{ℕ, zero, suc, ◌+◌, ◌-◌, ◌/◌, ◌^◌, ◌==◌, ◌&&◌, ◌||◌, not, nat_lt, nat_le, max, Bool, true, false, List, [], ◌∷◌, ◌++◌, length, map, take, drop, sum_by, if◌then◌else◌}
use Rattle.std.specs.List.{flat_map}
use Rattle.net_model.specs.declared.fact.Fact.{Fact}
use Rattle.net_model.specs.declared.record.Record.{Record}
use Rattle.net_model.specs.declared.record.Record.TheVariants.{Block, Lease, Learned, Acked, Handed, Closed, Bare}
use Rattle.net_model.specs.Facts.{fact_len}
use Rattle.net_model.specs.Table.{is_secret, bytes_of}
use Rattle.net_model.specs.World.{Journal}
use Rattle.net_model.specs.View.{View, Port}
use Rattle.net_model.specs.Needed.{is_needed}

-- the octets of a record; a name takes 16 of them in version 1, and 7 in version 2
abbrev pub record_len : ℕ → Record → ℕ
record_len names (Block link number bytes) = 6 + length bytes
record_len names (Lease lane end) = 11
record_len names (Learned f) = 3 + fact_len f
record_len names (Acked n) = 1 + names
record_len names (Handed n sae) = 3 + names
record_len names (Closed n sae) = 3 + names
record_len names (Bare f) = 3 + (fact_len f - length (bytes_of f))

-- The octets of records in version 2. They follow a run of `names` Handed records for the application `sae`. The
-- records of a run share one kind octet, one application and one count of names, which is at most 128.
unfoldable pub spelled_after : ℕ → ℕ → List Record → ℕ
spelled_after sae names [] = 0
spelled_after sae names (Handed n s ∷ rs) =
    if nat_lt 0 names && nat_lt names 128 && (s == sae) then 7 + spelled_after sae (names + 1) rs else 12 + spelled_after s 1 rs
spelled_after sae names (r ∷ rs) = record_len 7 r + spelled_after 0 0 rs

-- the octets of a batch's body: the number of its records, and the records
unfoldable pub body_len : ℕ → List Record → ℕ
body_len version batch = 2 + (if version == 1 then sum_by (record_len 16) batch else spelled_after 0 0 batch)

-- the octets of a batch in a journal: its gate, its length and its body
abbrev pub batch_len : ℕ → List Record → ℕ
batch_len version batch = 5 + body_len version batch

abbrev pub is_nil : {A : Type 0} → List A → Bool
is_nil [] = true
is_nil (x ∷ xs) = false

-- the octets that an event adds to a journal: none if nothing is written
abbrev pub added_len : ℕ → List Record → ℕ
added_len version batch = if is_nil batch then 0 else batch_len version batch

-- the greatest length of a journal, in octets
abbrev pub journal_limit : ℕ
journal_limit = 33554432

-- the journal that a first start makes: a header and one closed gate
abbrev pub new_journal : Journal
new_journal = record { length' = 17; start = 16; generation = 0; moved = false; version = 2 }

-- an empty disk, or one that has only the header and the closed gate of version 1; a start makes a new journal on it
abbrev pub is_blank : Journal → Bool
is_blank j = (j.length' == 0) || ((j.version == 1) && (j.length' == 17))

-- the journal with this many octets appended
abbrev pub extended : Journal → ℕ → Journal
extended j octets = record j { length' = j.length' + octets }

-- The records of a checkpoint: the shortest list that gives back a manager's state.

abbrev pub block_records : ℕ → ℕ → List (List ℕ) → List Record
block_records link number [] = []
block_records link number (b ∷ bs) = Block link number b ∷ block_records link (number + 1) bs

abbrev pub lease_records : Port → List Record
lease_records p = if nat_lt 8 p.lease then Lease p.lane p.lease ∷ [] else []

-- a fact whose bytes the node no longer needs is written without them
abbrev pub fact_record : View → Fact → Record
fact_record v f = if is_secret f && not (is_needed v f) then Bare f else Learned f

-- The records of a checkpoint: blocks in order of link and number, leases above the hash key in order of lane, facts in
-- the order in which they were learned, and marks in their order.
unfoldable pub checkpoint_records : View → List Record
checkpoint_records v =
    flat_map (λ (p : Port). block_records p.lane.link 0 p.blocks) v.ports ++ flat_map lease_records v.ports ++
    map (fact_record v) v.facts ++ map (λ n. Acked n) v.acked ++ map (λ h. Handed h.0 h.1) v.handed ++ map (λ h. Closed h.0 h.1) v.closed

-- the records in n batches of at most 65,535 records each
unfoldable pub batches_of : ℕ → List Record → List (List Record)
batches_of zero rs = []
batches_of (suc n) rs = take 65535 rs ∷ batches_of n (drop 65535 rs)

abbrev pub checkpoint_batches : View → List (List Record)
checkpoint_batches v = let rs = checkpoint_records v in batches_of ((length rs + 65534) / 65535) rs

-- the octets of a checkpoint, its closed gate included; it is written in version 2
unfoldable pub checkpoint_need : View → ℕ
checkpoint_need v = 1 + sum_by (batch_len 2) (checkpoint_batches v)

-- The place of a checkpoint: after the moved header, if it fits between that and the live area, and otherwise after the
-- live area.
unfoldable pub checkpoint_place : Journal → ℕ → ℕ
checkpoint_place j octets = if j.moved && nat_le (50 + octets) j.start then 50 else max j.length' 50

unfoldable pub is_checkpoint_due : Journal → ℕ → Bool
is_checkpoint_due j octets =
    not (is_blank j) && (nat_le 65536 j.length' || (j.version == 1)) && nat_le (checkpoint_place j octets + octets) journal_limit && nat_lt j.generation (2 ^ 64 - 1)

-- The journal after a checkpoint of this many octets. The first checkpoint that moves a journal gets generation 0,
-- and each later one the next generation.
unfoldable pub checkpointed : Journal → ℕ → Journal
checkpointed j octets =
    record {
      length' = checkpoint_place j octets + octets;
      start = checkpoint_place j octets;
      generation = if j.moved then j.generation + 1 else 0;
      moved = true;
      version = 2;
    }

-- the journal after a start that read it
abbrev pub recovered_journal : Journal → ℕ → Journal
recovered_journal j octets = if is_checkpoint_due j octets then checkpointed j octets else j
