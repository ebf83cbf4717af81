-- The marks of a batch: which application gets which key.
use Rattle.std.proofs.Common.{◌≡◌, ℕ, zero, suc, ◌+◌, List, [], ◌∷◌, ◌++◌, map, refl, sym, ◌∙◌, ap, append_assoc, take, drop, length}
use Rattle.std.specs.List.{flat_map}
use Rattle.std.proofs.lemmas.List.{append-nil}
use Rattle.std.specs.Prelude.{nat_lt, if◌then◌else◌, true, false}
use Rattle.qkd_base.specs.Name.{Name}
use Rattle.qkd_base.specs.declared.lane.Lane.{Lane}
use Rattle.net_model.specs.declared.record.Record.{Record}
use Rattle.net_model.specs.declared.record.Record.TheVariants.{Block, Lease, Learned, Acked, Handed, Closed, Bare}
use Rattle.net_model.specs.Site.{Site, outgoing_lane}
use Rattle.net_model.specs.World.{Durable}
use Rattle.net_model.specs.Records.{block_taken, apply_record, replay}
use Rattle.net_model.specs.Pools.{new_keys, hand_to}
use Rattle.net_model.specs.Streams.{new_chunks}
use Rattle.net_model.specs.Groups.{new_parts, new_groups}
use Rattle.net_model.specs.Plan.{end_on, raise, leases_on}
use Rattle.net_model.specs.View.{View, Port, received_of}

abbrev pub marks : List Record → List (Name × ℕ)
marks [] = []
marks (Handed n sae ∷ rs) = (n, sae) ∷ marks rs
marks (r ∷ rs) = marks rs

pub marks_append : (xs ys : List Record) → marks (xs ++ ys) ≡ marks xs ++ marks ys
marks_append [] ys = refl
marks_append (Handed n sae ∷ rs) ys = ap (λ (hs : List (Name × ℕ)). (n, sae) ∷ hs) (marks_append rs ys)
marks_append (Block link number bytes ∷ rs) ys = marks_append rs ys
marks_append (Lease lane end' ∷ rs) ys = marks_append rs ys
marks_append (Learned f ∷ rs) ys = marks_append rs ys
marks_append (Acked n ∷ rs) ys = marks_append rs ys
marks_append (Closed n sae ∷ rs) ys = marks_append rs ys
marks_append (Bare f ∷ rs) ys = marks_append rs ys

block_handed : (l : Lane) (d : Durable) → (block_taken l d).handed ≡ d.handed
unfolding block_taken
block_handed l d = refl

-- One record adds its own mark, if any.
record_marks : (s : Site) (v : ℕ) (r : Record) (d : Durable) → (apply_record s v r d).handed ≡ d.handed ++ marks (r ∷ [])
unfolding apply_record
record_marks s v (Block link number bytes) d = block_handed (outgoing_lane s v link) d ∙ sym (append-nil d.handed)
record_marks s v (Lease lane end') d = sym (append-nil d.handed)
record_marks s v (Learned f) d = sym (append-nil d.handed)
record_marks s v (Acked n) d = sym (append-nil d.handed)
record_marks s v (Handed n sae) d = refl
record_marks s v (Closed n sae) d = sym (append-nil d.handed)
record_marks s v (Bare f) d = sym (append-nil d.handed)

pub replay_marks : (s : Site) (v : ℕ) (rs : List Record) (d : Durable) → (replay s v rs d).handed ≡ d.handed ++ marks rs
unfolding replay
replay_marks s v [] d = sym (append-nil d.handed)
replay_marks s v (r ∷ rs) d =
    replay_marks s v rs (apply_record s v r d) ∙ ap (λ (hs : List (Name × ℕ)). hs ++ marks rs) (record_marks s v r d) ∙
    append_assoc d.handed (marks (r ∷ [])) (marks rs) ∙ ap (λ (hs : List (Name × ℕ)). d.handed ++ hs) (sym (marks_append (r ∷ []) rs))

pub marks_hands : (sae : ℕ) (ns : List Name) → marks (hand_to sae ns) ≡ map (λ n. (n, sae)) ns
marks_hands sae [] = refl
marks_hands sae (n ∷ ns) = ap (λ (hs : List (Name × ℕ)). (n, sae) ∷ hs) (marks_hands sae ns)

-- Making new keys, chunks or parts marks nothing.

pub marks_keys : (v : View) (m t : ℕ) (nodes : List ℕ) (size : ℕ) (random : List ℕ) (more k : ℕ) → marks (new_keys v m t nodes size random more k) ≡ []
marks_keys v m t nodes size random more zero = refl
marks_keys v m t nodes size random more (suc k) = marks_keys v m t nodes size (drop size random) (more + 1) k

pub marks_chunks : (v : View) (stream : Name) (nodes : List ℕ) (size next : ℕ) (random : List ℕ) (more k : ℕ) → marks (new_chunks v stream nodes size next random more k) ≡ []
marks_chunks v stream nodes size next random more zero = refl
marks_chunks v stream nodes size next random more (suc k) = marks_chunks v stream nodes size next (drop size random) (more + 1) k

marks_parts : (v : View) (key : Name) (m : ℕ) (slaves : List (ℕ × List ℕ)) (bytes : List ℕ) (more : ℕ) → marks (new_parts v key m slaves bytes more) ≡ []
marks_parts v key m [] bytes more = refl
marks_parts v key m (x ∷ xs) bytes more = marks_parts v key m xs bytes (more + 1)

pub marks_groups : (v : View) (m : ℕ) (slaves : List (ℕ × List ℕ)) (size : ℕ) (random : List ℕ) (more k : ℕ) → marks (new_groups v m slaves size random more k) ≡ []
marks_groups v m slaves size random more zero = refl
marks_groups v m slaves size random more (suc k) =
    marks_append (new_parts v _ m slaves (take size random) (more + 1)) _ ∙
    ap (λ (hs : List (Name × ℕ)). hs ++ marks (new_groups v m slaves size (drop size random) (more + 1 + length slaves) k)) (marks_parts v _ m slaves (take size random) (more + 1)) ∙
    marks_groups v m slaves size (drop size random) (more + 1 + length slaves) k

marks_lease : (s : Site) (v : View) (p : Port) → marks (leases_on s v p) ≡ []
marks_lease s v p = elim (nat_lt p.lease (end_on s v p)) as (λ t. marks (if t then Lease p.lane (raise (end_on s v p) (received_of p)) ∷ [] else []) ≡ []) [ true ↦ refl | false ↦ refl ]

pub marks_leases : (s : Site) (v : View) (ps : List Port) → marks (flat_map (leases_on s v) ps) ≡ []
marks_leases s v [] = refl
marks_leases s v (p ∷ ps) =
    marks_append (leases_on s v p) (flat_map (leases_on s v) ps) ∙ ap (λ (hs : List (Name × ℕ)). hs ++ marks (flat_map (leases_on s v) ps)) (marks_lease s v p) ∙ marks_leases s v ps
