-- What the octets of a batch say about it.
use Rattle.std.proofs.Common.{◌≡◌, ℕ, ◌+◌, ◌<◌, ◌≤◌, ◌^◌, Bool, true, false, ◌&&◌, List, [], ◌∷◌, ◌++◌, length, refl, sym, ap, subst, ◌∙◌, arith}
use Rattle.std.specs.Prelude.{◌==◌, nat_lt, sum_by, IsSome, Option, Some, None, Result, Ok, Err, IfOk, if◌then◌else◌}
use Rattle.std.specs.List.{All, list_all}
use Rattle.std.proofs.lemmas.Bool.Decides.{nat_tests}
use Rattle.std.proofs.lemmas.List.Elements.{All-nil, All-cons, All-head, All-tail}
use Rattle.net_model.specs.declared.fact.Fact.TheVariants.{Key, Chunk, Stored, Open, Joined, Part}
use Rattle.net_model.specs.declared.record.Record.{Record}
use Rattle.net_model.specs.declared.record.Record.TheVariants.{Block, Lease, Learned, Acked, Handed, Closed, Bare}
use Rattle.net_model.specs.Journal.{record_len, spelled_after, body_len, is_nil, added_len}
use Rattle.net_model.specs.Formed.{IsWellFormedRecord}
use Rattle.net_model.specs.Handle.{is_numbered}
use Rattle.journal_records.specs.declared.version.Version.{Version}
use Rattle.journal_records.specs.declared.version.Version.TheVariants.{First, Second}
use Rattle.journal_records.specs.Grammar.{IsRecord, IsLearned, IsBatch, body_octets, version_number}
use Rattle.kme_base.specs.Random.{with_random}
use Rattle.kme_base.specs.declared.step.Step.{Step}
use Rattle.kme_journal.specs.Spelled.{IsMade, with_batch, batch_in_doubt, version_named, IsSpelling, IsBody, HasBody, IsAsLong, MayRespell, added}
use Rattle.kme_journal.specs.Drafts.{HasOctets, with_octets, octets_in_doubt}
use Rattle.kme_journal.proofs.Drawn.{drawn_length, drawn_body, drawn_made, drawn_learned, drawn_nothing, learned_body}

below : (n m : ℕ) → n < m → nat_lt n m ≡ true
below n m h = grind (arith, nat_tests)

one_numbered : (r : Record) → IsRecord r → is_numbered r ≡ true
one_numbered (Learned (Key name master slave route bytes)) is = below name.count (2 ^ 48) is.0.0.count
one_numbered (Learned (Chunk name stream index route bytes)) is =
    ap (λ (b : Bool). b && nat_lt index (2 ^ 32)) (below name.count (2 ^ 48) is.0.0.count) ∙ ap (λ (b : Bool). true && b) (below index (2 ^ 32) is.2)
one_numbered (Learned (Stored note about route)) is = below note.count (2 ^ 48) is.0.0.count
one_numbered (Learned (Open stream source peer size route)) is = below stream.count (2 ^ 48) is.0.0.count
one_numbered (Learned (Joined note about route)) is = below note.count (2 ^ 48) is.0.0.count
one_numbered (Learned (Part name key master slave route bytes)) is = below name.count (2 ^ 48) is.0.0.count
one_numbered (Block link number bytes) is = refl
one_numbered (Lease lane end) is = refl
one_numbered (Acked n) is = refl
one_numbered (Handed n sae) is = refl
one_numbered (Closed n sae) is = refl
one_numbered (Bare f) is = refl

all_numbered : (rs : List Record) → All IsRecord rs → list_all is_numbered rs ≡ true
all_numbered [] all = refl
all_numbered (r ∷ rs) all =
    ap (λ (b : Bool). b && list_all is_numbered rs) (one_numbered r (All-head IsRecord r rs all)) ∙ ap (λ (b : Bool). true && b) (all_numbered rs (All-tail IsRecord r rs all))

pub body_numbered : (version : ℕ) (batch : List Record) (octets : Option (List ℕ)) → IsBody version batch octets → list_all is_numbered batch ≡ true
body_numbered version batch None is = subst (λ (rs : List Record). list_all is_numbered rs ≡ true) (sym is) refl
body_numbered version batch (Some octets) is = all_numbered batch is.grammar.each

not_nil : (rs : List Record) → 1 ≤ length rs → is_nil rs ≡ false
not_nil [] some = absurd (omega (arith, some))
not_nil (r ∷ rs) some = refl

spelled_added : (version : ℕ) (batch : List Record) (octets : List ℕ) → IsSpelling version batch octets → added (Some octets) ≡ added_len version batch
spelled_added version [] octets is = absurd (omega (arith, is.some))
spelled_added version (r ∷ rs) octets is = omega (arith, is.size)

pub body_added : (version : ℕ) (batch : List Record) (octets : Option (List ℕ)) → IsBody version batch octets → added octets ≡ added_len version batch
body_added version batch None is = subst (λ (rs : List Record). 0 ≡ added_len version rs) (sym is) refl
body_added version batch (Some octets) is = spelled_added version batch octets is

pub body_written : (version : ℕ) (batch : List Record) (octets : List ℕ) → IsBody version batch (Some octets) → is_nil batch ≡ false
body_written version batch octets is = not_nil batch is.some

pub body_is_written : (version : ℕ) (batch : List Record) (octets : Option (List ℕ)) → IsBody version batch octets → IsSome octets → is_nil batch ≡ false
body_is_written version batch None is some = absurd (cc some)
body_is_written version batch (Some octets) is some = body_written version batch octets is

spelled_with : (version : ℕ) (bodies : List (List ℕ)) (batch : List Record) (octets : List ℕ) → IsSpelling version batch octets → with_octets bodies (Some octets) ≡ with_batch version bodies batch
spelled_with version bodies [] octets is = absurd (omega (arith, is.some))
spelled_with version bodies (r ∷ rs) octets is = ap (λ (os : List ℕ). bodies ++ os ∷ []) is.is

pub body_with : (version : ℕ) (bodies : List (List ℕ)) (batch : List Record) (octets : Option (List ℕ)) → IsBody version batch octets → with_octets bodies octets ≡ with_batch version bodies batch
body_with version bodies batch None is = subst (λ (rs : List Record). bodies ≡ with_batch version bodies rs) (sym is) refl
body_with version bodies batch (Some octets) is = spelled_with version bodies batch octets is

spelled_in_doubt : (version : ℕ) (batch : List Record) (octets : List ℕ) → IsSpelling version batch octets → octets_in_doubt (Some octets) ≡ batch_in_doubt version batch
spelled_in_doubt version [] octets is = absurd (omega (arith, is.some))
spelled_in_doubt version (r ∷ rs) octets is = ap (λ (os : List ℕ). os ∷ []) is.is

pub body_in_doubt : (version : ℕ) (batch : List Record) (octets : Option (List ℕ)) → IsBody version batch octets → octets_in_doubt octets ≡ batch_in_doubt version batch
body_in_doubt version batch None is = subst (λ (rs : List Record). [] ≡ batch_in_doubt version rs) (sym is) refl
body_in_doubt version batch (Some octets) is = spelled_in_doubt version batch octets is

some_octets : (version : ℕ) (batch : List Record) → 0 < body_len version batch
unfolding body_len
some_octets version batch = omega arith

pub body_some : (version : ℕ) (batch : List Record) (octets : Option (List ℕ)) → IsBody version batch octets → HasOctets octets
body_some version batch None is = tt
body_some version batch (Some octets) is = omega (arith, is.size, some_octets version batch)

formed_one : (r : Record) → IsMade r → IsWellFormedRecord r
formed_one (Block link number bytes) is = is
formed_one (Lease lane end) is = is
formed_one (Learned f) is = is
formed_one (Acked n) is = is
formed_one (Handed n sae) is = is
formed_one (Closed n sae) is = is
formed_one (Bare f) is = absurd is

pub formed : (rs : List Record) → All IsMade rs → All IsWellFormedRecord rs
formed [] all = All-nil IsWellFormedRecord
formed (r ∷ rs) all = All-cons IsWellFormedRecord r rs (formed_one r (All-head IsMade r rs all)) (formed rs (All-tail IsMade r rs all))

-- drawn octets in a batch of learned facts

pub may_respell : (random : List ℕ) (batch : List Record) (octets : Option (List ℕ)) → HasBody batch octets → All IsLearned batch → MayRespell (with_random random batch) octets
may_respell random batch None is all = ap (with_random random) is.1
may_respell random batch (Some octets) is all =
    let spelled : IsSpelling is.0 batch octets = is.1 in
    record {
      some = subst (λ (n : ℕ). 1 ≤ n) (sym (drawn_length random batch)) spelled.some;
      few = subst (λ (n : ℕ). n ≤ 65535) (sym (drawn_length random batch)) spelled.few;
      formed = drawn_made random batch spelled.formed;
      learned = drawn_learned random batch all;
      as_long = spelled.size ∙ learned_body is.0 batch all ∙ sym (drawn_body 1 random batch);
    }

named_by : (version : ℕ) (P : Version → Type 0) → P First → P Second → P (version_named version)
named_by version P a b = elim (version == 1) as (λ (t : Bool). P (if t then First else Second)) [ true ↦ a | false ↦ b ]

pub respelled : ((v : Version) (batch : List Record) → length (body_octets v batch) ≡ body_len (version_number v) batch) → (batch : List Record) (octets now : List ℕ) → IsAsLong batch octets →
    now ≡ body_octets First batch → now ≡ body_octets Second batch → IsBatch First batch × IsBatch Second batch → (version : ℕ) → IsSpelling version batch now
respelled lengths batch octets now is first second grammar version = record {
  some = is.some;
  few = is.few;
  formed = is.formed;
  is = named_by version (λ (v : Version). now ≡ body_octets v batch) first second;
  size = ap length first ∙ lengths First batch ∙ sym (learned_body version batch is.learned);
  grammar = named_by version (λ (v : Version). IsBatch v batch) grammar.0 grammar.1;
}

pub same_length : ((v : Version) (batch : List Record) → length (body_octets v batch) ≡ body_len (version_number v) batch) → (batch : List Record) (octets now : List ℕ) → IsAsLong batch octets →
    now ≡ body_octets First batch → length now ≡ length octets
same_length lengths batch octets now is first = ap length first ∙ lengths First batch ∙ sym is.as_long

pub nothing_drawn : (s : Step) (random : List ℕ) → (length random == 0) ≡ true → s ≡ record s { batch = with_random random s.batch }
nothing_drawn s [] none = ap (λ (rs : List Record). record s { batch = rs }) (sym (drawn_nothing s.batch))
nothing_drawn s (x ∷ xs) none = absurd (grind (arith, nat_tests))

second_named : (version : ℕ) → (version ≡ 1 → ⊥) → (version == 1) ≡ false
second_named version not = grind (arith, nat_tests, not)

second_length : (version : ℕ) (batch : List Record) → (version == 1) ≡ false → body_len 2 batch ≡ body_len version batch
unfolding body_len
second_length version batch not = ap (λ (t : Bool). 2 + (if t then sum_by (record_len 16) batch else spelled_after 0 0 batch)) (sym not)

-- in all versions but the first, a batch is written as in the second
pub spelled_second : {E : Type 0} (version : ℕ) (batch : List Record) (result : Result (List ℕ) E) → (version ≡ 1 → ⊥) → 1 ≤ length batch → length batch ≤ 65535 → All IsMade batch →
    IfOk result (λ o. o ≡ body_octets Second batch) → IfOk result (λ o. length o ≡ body_len 2 batch) → IfOk result (λ o. IsBatch Second batch) → IfOk result (IsSpelling version batch)
spelled_second version batch (Ok o) not some few made is size grammar =
    let named : version_named version ≡ Second = ap (λ (t : Bool). if t then First else Second) (second_named version not) in
    record {
      some = some;
      few = few;
      formed = made;
      is = is ∙ ap (λ (v : Version). body_octets v batch) (sym named);
      size = size ∙ second_length version batch (second_named version not);
      grammar = subst (λ (v : Version). IsBatch v batch) (sym named) grammar;
    }
spelled_second version batch (Err e) not some few made is size grammar = tt
