-- What is read from a journal.
use Rattle.std.proofs.Common.{◌≡◌, ℕ, Bool, false, List, [], ◌∷◌, ◌++◌, map, refl, sym, ap, subst, ◌∙◌}
use Rattle.std.specs.Prelude.{◌==◌, Ok, Err, if◌then◌else◌}
use Rattle.std.specs.List.{All}
use Rattle.std.proofs.lemmas.List.{map-append}
use Rattle.std.proofs.lemmas.List.Elements.{All-head, All-tail, All-push, All-nil}
use Rattle.net_model.specs.declared.record.Record.{Record}
use Rattle.net_model.specs.declared.record.Record.TheVariants.{Block, Lease, Learned, Acked, Handed, Closed, Bare}
use Rattle.net_model.specs.Formed.{IsWellFormedRecord}
use Rattle.net_model.specs.View.{View}
use Rattle.net_model.specs.Fold.{view_batch, view_batches}
use Rattle.journal_records.specs.Answers.{Reads}
use Rattle.journal_records.specs.Grammar.{IsBatch, body_octets}
use Rattle.journal_records.specs.declared.version.Version.{Version}
use Rattle.journal_records.specs.declared.version.Version.TheVariants.{First, Second}
use Rattle.journal_records.specs.declared.record_refusal.RecordRefusal.{RecordRefusal}
use Rattle.journal_records.specs.declared.record_refusal.RecordRefusal.TheVariants as refusals
use Rattle.kme_node.specs.Replayed.{IsWhole, AreWhole}
use Rattle.kme_journal.specs.Spelled.{body, version_named}
use Rattle.kme_journal.specs.BatchRecovery.{IsReadAs, IsNoBatch, AreReadAs}

whole_one : (r : Record) → IsWellFormedRecord r → IsWhole r
whole_one (Block link number bytes) is = is
whole_one (Lease lane end) is = tt
whole_one (Learned f) is = tt
whole_one (Acked n) is = tt
whole_one (Handed n sae) is = tt
whole_one (Closed n sae) is = tt
whole_one (Bare f) is = tt

pub whole : (rs : List Record) → All IsWellFormedRecord rs → AreWhole rs
whole [] all = tt
whole (r ∷ rs) all = (whole_one r (All-head IsWellFormedRecord r rs all), whole rs (All-tail IsWellFormedRecord r rs all))

-- octets in a version with this name

pub read_as : (version : ℕ) (v : Version) (octets : List ℕ) (batch : List Record) → version_named version ≡ v → IsBatch v batch → octets ≡ body_octets v batch → IsReadAs version octets batch
read_as version v octets batch named grammar is = record {
  is = is ∙ ap (λ (w : Version). body_octets w batch) (sym named);
  grammar = subst (λ (w : Version). IsBatch w batch) (sym named) grammar;
}

pub no_batch : (version : ℕ) (v : Version) (octets : List ℕ) (why : RecordRefusal) → version_named version ≡ v →
    ((batch : List Record) → IsBatch v batch → octets ≡ body_octets v batch → Reads (Err why) (Ok batch)) → IsNoBatch version octets why
no_batch version v octets (refusals.NotARecord place) named only = λ batch is.
    let grammar : IsBatch v batch = subst (λ (w : Version). IsBatch w batch) named is.grammar in
    let spelled : octets ≡ body_octets v batch = is.is ∙ ap (λ (w : Version). body_octets w batch) named in
    let no : Ok batch ≡ Err place = only batch grammar spelled in
    absurd (cc no)
no_batch version v octets refusals.Memory named only = tt

pub named_first : (version : ℕ) → version ≡ 1 → version_named version ≡ First
named_first version is = ap (λ (n : ℕ). if n == 1 then First else Second) is

pub named_second : (version : ℕ) → (version == 1) ≡ false → version_named version ≡ Second
named_second version is = ap (λ (t : Bool). if t then First else Second) is

-- one more batch

pub nothing_read : (version : ℕ) → AreReadAs version [] []
nothing_read version = record { spelled = refl; each = All-nil (IsBatch (version_named version)) }

pub read_more : (version : ℕ) (bodies : List (List ℕ)) (octets : List ℕ) (story : List (List Record)) (batch : List Record) → AreReadAs version bodies story → IsReadAs version octets batch →
    AreReadAs version (bodies ++ octets ∷ []) (story ++ batch ∷ [])
read_more version bodies octets story batch are is = record {
  spelled =
      ap (λ (bs : List (List ℕ)). bs ++ octets ∷ []) are.spelled ∙ ap (λ (os : List ℕ). map (body version) story ++ os ∷ []) is.is
      ∙ sym (map-append (body version) story (batch ∷ []));
  each = All-push (IsBatch (version_named version)) story batch are.each is.grammar;
}

pub fold_more : (v : View) (story : List (List Record)) (batch : List Record) → view_batches v (story ++ batch ∷ []) ≡ view_batch (view_batches v story) batch
fold_more v [] batch = refl
fold_more v (b ∷ story) batch = fold_more (view_batch v b) story batch
