-- Replaying well-formed records gives a manager that can be written as records.
use Rattle.std.proofs.Common.{◌≡◌, ℕ, Bool, true, false, ◌&&◌, List, [], ◌∷◌, ◌++◌, length, sym, subst}
use Rattle.std.specs.Prelude.{if◌then◌else◌}
use Rattle.std.specs.List.{All, list_any}
use Rattle.std.proofs.lemmas.List.{length-replicate}
use Rattle.std.proofs.lemmas.List.Elements.{All-head, All-tail, All-push, All-nil, All-map, All-weaker}
use Rattle.qkd_base.specs.Name.{Name}
use Rattle.qkd_base.specs.declared.key_name.NameKind.TheVariants.{Stream as StreamKind}
use Rattle.net_model.specs.declared.fact.Fact.{Fact}
use Rattle.net_model.specs.declared.fact.Fact.TheVariants.{Key, Chunk, Stored, Open, Joined, Part}
use Rattle.net_model.specs.declared.record.Record.{Record}
use Rattle.net_model.specs.declared.record.Record.TheVariants.{Block, Lease, Learned, Acked, Handed, Closed, Bare}
use Rattle.net_model.specs.Facts.{IsSize, IsWellFormedFact}
use Rattle.net_model.specs.Formed.{IsWellFormedRecord}
use Rattle.net_model.specs.Site.{Site}
use Rattle.net_model.specs.Table.{name_of, has_fact, learned, was_handed, without_bytes, zeros_for}
use Rattle.net_model.specs.View.{View}
use Rattle.net_model.specs.Needed.{is_needed, masked, masked_fact}
use Rattle.net_model.specs.Fold.{owes, is_end_of, is_handed_by, is_stream_of, marked, view_record, view_records, view_batch, view_batches, view_restarted, empty_view, recovered_view}
use Rattle.net_model.specs.declared.payload.Payload.TheVariants.{Data}
use Rattle.frame_codec.proofs.Writes.{is_formed}
use Rattle.journal_records.specs.Grammar.{IsRecord, IsBatch}
use Rattle.journal_records.specs.declared.version.Version.{Version}
use Rattle.kme_journal.specs.Formed.{IsFormed, IsOfStream}

-- well-formed records

one_formed : (r : Record) → IsRecord r → IsWellFormedRecord r
one_formed (Block link number bytes) is = is.2
one_formed (Lease lane end) is = tt
one_formed (Learned f) is = is_formed (Data f) is
one_formed (Acked n) is = tt
one_formed (Handed n sae) is = tt
one_formed (Closed n sae) is = is.0.1
one_formed (Bare f) is = is.1

batch_formed : (version : Version) (batch : List Record) → IsBatch version batch → All IsWellFormedRecord batch
batch_formed version batch is = All-weaker IsRecord IsWellFormedRecord one_formed batch is.each

-- facts and marks

facts_learned : (facts : List Fact) (f : Fact) → All IsWellFormedFact facts → IsWellFormedFact f → All IsWellFormedFact (learned facts f)
facts_learned facts f all one =
    elim (has_fact facts (name_of f)) as (λ (t : Bool). All IsWellFormedFact (if t then facts else facts ++ f ∷ [])) [ true ↦ all | false ↦ All-push IsWellFormedFact facts f all one ]

marks_marked : (pairs : List (Name × ℕ)) (n : Name) (sae : ℕ) → All IsOfStream pairs → n.kind ≡ StreamKind → All IsOfStream (marked pairs n sae)
marks_marked pairs n sae all one =
    elim (was_handed pairs n sae) as (λ (t : Bool). All IsOfStream (if t then pairs else pairs ++ (n, sae) ∷ [])) [ true ↦ all | false ↦ All-push IsOfStream pairs (n, sae) all one ]

-- the view that a test chooses
either : (t : Bool) (a b : View) → IsFormed a → IsFormed b → IsFormed (if t then a else b)
either true a b left right = left
either false a b left right = right

record_keeps : (r : Record) (v : View) → IsFormed v → IsWellFormedRecord r → IsFormed (view_record r v)
unfolding view_record
record_keeps (Block link number bytes) v formed is = record { facts = formed.facts; closed = formed.closed }
record_keeps (Lease lane end) v formed is = record { facts = formed.facts; closed = formed.closed }
record_keeps (Learned f) v formed is = record { facts = facts_learned v.facts f formed.facts is; closed = formed.closed }
record_keeps (Acked n) v formed is = either (owes v n) (record v { acked = v.acked ++ n ∷ [] }) v (record { facts = formed.facts; closed = formed.closed }) formed
record_keeps (Handed n sae) v formed is =
    either (list_any (λ f. is_end_of v f && is_handed_by n sae f) v.facts) (record v { handed = marked v.handed n sae }) v (record { facts = formed.facts; closed = formed.closed }) formed
record_keeps (Closed n sae) v formed is =
    either (list_any (λ f. is_end_of v f && is_stream_of n f) v.facts) (record v { closed = marked v.closed n sae }) v
    (record { facts = formed.facts; closed = marks_marked v.closed n sae formed.closed is }) formed
record_keeps (Bare f) v formed is = record { facts = facts_learned v.facts f formed.facts is.formed; closed = formed.closed }

records_keep : (rs : List Record) (v : View) → IsFormed v → All IsWellFormedRecord rs → IsFormed (view_records rs v)
unfolding view_records
records_keep [] v formed all = formed
records_keep (r ∷ rs) v formed all =
    records_keep rs (view_record r v) (record_keeps r v formed (All-head IsWellFormedRecord r rs all)) (All-tail IsWellFormedRecord r rs all)

-- bytes and the zeros in their place have the same size

same_size : (bytes : List ℕ) → IsSize (length bytes) → IsSize (length (zeros_for bytes))
same_size bytes is = subst IsSize (sym (length-replicate (length bytes) 0)) is

wiped : (f : Fact) → IsWellFormedFact f → IsWellFormedFact (without_bytes f)
wiped (Key name master slave route bytes) is = (is.0, same_size bytes is.1)
wiped (Chunk name stream index route bytes) is = (is.0, is.1, same_size bytes is.2)
wiped (Part name key master slave route bytes) is = (is.0, is.1, same_size bytes is.2)
wiped (Stored note about route) is = is
wiped (Open stream source peer size route) is = is
wiped (Joined note about route) is = is

mask_keeps : (v : View) (f : Fact) → IsWellFormedFact f → IsWellFormedFact (masked_fact v f)
mask_keeps v f is = elim (is_needed v f) as (λ (t : Bool). IsWellFormedFact (if t then f else without_bytes f)) [ true ↦ is | false ↦ wiped f is ]

masked_formed : (v : View) → IsFormed v → IsFormed (masked v)
unfolding masked
masked_formed v formed = record {
  facts = All-map IsWellFormedFact (masked_fact v) v.facts (All-weaker IsWellFormedFact (λ f. IsWellFormedFact (masked_fact v f)) (mask_keeps v) v.facts formed.facts);
  closed = formed.closed;
}

batch_keeps : (v : View) (batch : List Record) → IsFormed v → All IsWellFormedRecord batch → IsFormed (view_batch v batch)
batch_keeps v batch formed all = masked_formed (view_records batch v) (records_keep batch v formed all)

batches_keep : (version : Version) (v : View) (story : List (List Record)) → IsFormed v → All (IsBatch version) story → IsFormed (view_batches v story)
batches_keep version v [] formed all = formed
batches_keep version v (b ∷ bs) formed all =
    batches_keep version (view_batch v b) bs (batch_keeps v b formed (batch_formed version b (All-head (IsBatch version) b bs all))) (All-tail (IsBatch version) b bs all)

empty_formed : (site : Site) (me : ℕ) → IsFormed (empty_view site me)
empty_formed site me = record { facts = All-nil IsWellFormedFact; closed = All-nil IsOfStream }

pub recovered_formed : (site : Site) (me : ℕ) (version : Version) (story : List (List Record)) → All (IsBatch version) story → IsFormed (recovered_view site me story)
unfolding recovered_view view_restarted
recovered_formed site me version story all =
    let read = batches_keep version (empty_view site me) story (empty_formed site me) all in
    record { facts = read.facts; closed = read.closed }
