-- Laws of bodies: what decoding and encoding give.
use Rattle.std.proofs.Common.{◌≡◌, ℕ, ◌+◌, ◌-◌, ◌<◌, ◌≤◌, Bool, true, false, List, [], ◌∷◌, ◌++◌, length, map, Option, None, Result, Ok, Err, refl, sym, ap, subst, ◌∙◌, arith, length-append}
use Rattle.std.specs.Prelude.{IfOk, sum_by}
use Rattle.std.specs.List.{All, flat_map}
use Rattle.std.proofs.lemmas.List.{append-nil, nil_from_length, length-map}
use Rattle.std.proofs.lemmas.List.Concat.{length-flat_map}
use Rattle.std.proofs.lemmas.List.Elements.{All-nil, All-cons, All-head, All-tail, All-append}
use Rattle.qkd_base.specs.Name.{Name, IsName}
use Rattle.net_model.specs.declared.fact.Fact.{Fact}
use Rattle.net_model.specs.declared.payload.Payload.TheVariants.{Data}
use Rattle.net_model.specs.Facts.{IsWellFormedFact}
use Rattle.net_model.specs.Formed.{IsWellFormedRecord}
use Rattle.net_model.specs.declared.record.Record.{Record}
use Rattle.net_model.specs.declared.record.Record.TheVariants.{Block, Lease, Learned, Acked, Handed, Closed, Bare}
use Rattle.net_model.specs.Journal.{record_len, spelled_after, body_len}
use Rattle.frame_codec.specs.Payload.{IsSae, IsFact, AreOctets, short}
use Rattle.frame_codec.proofs.Writes.{is_formed}
use Rattle.frame_codec.specs.Reading.{◌>>=◌, last, place_in}
use Rattle.frame_codec.proofs.FieldLaws.{bind_ok, ok_is, last_takes, last_again}
use Rattle.journal_records.specs.declared.version.Version.{Version}
use Rattle.journal_records.specs.declared.version.Version.TheVariants.{First, Second}
use Rattle.journal_records.specs.declared.record_refusal.RecordRefusal.{RecordRefusal}
use Rattle.journal_records.specs.Answers.{Reads}
use Rattle.journal_records.specs.Grammar.{IsRecord, IsLearned, record_octets, Item, item_octets, records_in, grouped, begun, items, IsBatch, body_octets, version_number}
use Rattle.journal_records.specs.Grammar.Item.{One, Run}
use Rattle.journal_records.specs.Layout.{within, many, records_left, batch_of}
use Rattle.journal_records.proofs.FieldLaws.{within_takes, within_again}
use Rattle.journal_records.proofs.RecordLaws.{record_length}
use Rattle.journal_records.proofs.ItemLaws.{to_one, IsItem, AreItems, next_shut, texts, flat, many_takes, many_again}
use Rattle.journal_records.proofs.Groups.{grouped_back, grouped_fits, regrouped, grouped_count, grouped_long, begun_some, begun_few}

-- ---- the spelled records of a list, in both versions

abbrev ones : List Record → List Item
ones rs = map (λ r. One r) rs

flat_ones : (rs : List Record) → flat (ones rs) ≡ rs
flat_ones [] = refl
flat_ones (r ∷ rs) = ap (λ (l : List Record). r ∷ l) (flat_ones rs)

ones_fit : (rs : List Record) → All IsRecord rs → AreItems First None (ones rs)
ones_fit [] each = tt
ones_fit (r ∷ rs) each = ((All-head IsRecord r rs each, refl), ones_fit rs (All-tail IsRecord r rs each))

no_version : First ≡ Second → ⊥
no_version e = cc

ones_again : (shut : Option ℕ) (is : List Item) → AreItems First shut is → ones (flat is) ≡ is
ones_again shut [] fits = refl
ones_again shut (One r ∷ is) fits = ap (λ (l : List Item). One r ∷ l) (ones_again None is fits.1)
ones_again shut (Run to names ∷ is) fits = absurd (no_version fits.0.0)

items_back : (v : Version) (rs : List Record) → flat (items v rs) ≡ rs
items_back First rs = flat_ones rs
items_back Second rs = grouped_back rs

items_fit : (v : Version) (rs : List Record) → All IsRecord rs → AreItems v None (items v rs)
items_fit First rs each = ones_fit rs each
items_fit Second rs each = grouped_fits rs each

items_again : (v : Version) (is : List Item) → AreItems v None is → items v (flat is) ≡ is
items_again First is fits = ones_again None is fits
items_again Second is fits = regrouped None is fits

-- Each handing of a well-formed run is a well-formed record.
run_records : (to : ℕ) (names : List Name) → IsSae to → All IsName names → All IsRecord (to_one to names)
run_records to [] a ns = All-nil IsRecord
run_records to (n ∷ names) a ns = All-cons IsRecord (Handed n to) (to_one to names) (All-head IsName n names ns, a) (run_records to names a (All-tail IsName n names ns))

flat_records : (v : Version) (shut : Option ℕ) (is : List Item) → AreItems v shut is → All IsRecord (flat is)
flat_records v shut [] fits = All-nil IsRecord
flat_records v shut (One r ∷ is) fits = All-cons IsRecord r (flat is) fits.0.0 (flat_records v None is fits.1)
flat_records v shut (Run to names ∷ is) fits =
    All-append IsRecord (to_one to names) (flat is) (run_records to names fits.0.1 fits.0.2) (flat_records v (next_shut (Run to names)) is fits.1)

-- ---- bodies

left_takes : (v : Version) (octets : List ℕ) (rs : List Record) → AreOctets octets → records_left v octets ≡ Ok rs → IsBatch v rs × (octets ≡ body_octets v rs)
unfolding records_left body_octets
left_takes v octets rs fits e =
    let b0 = bind_ok (within 1 65535 octets) (λ n. many v n.0 None [] n.1 >>= λ more. last 0 more.1 >>= λ end. Ok more.0) rs e in
    let t0 = within_takes 1 65535 octets b0.0 fits b0.1 in
    let n : ℕ = b0.0.0 in
    let b1 = bind_ok (many v n None [] b0.0.1) (λ more. last 0 more.1 >>= λ end. Ok more.0) rs b0.2 in
    let t1 = many_takes v n None [] b0.0.1 b1.0 t0.0.rest_fits b1.1 in
    let b2 = bind_ok (last 0 b1.0.1) (λ end. Ok b1.0.0) rs b1.2 in
    let t2 = last_takes 0 b1.0.1 b2.0 b2.1 in
    let none : b1.0.1 ≡ [] = nil_from_length b1.0.1 (ap length t2.0 ∙ t2.1) in
    let same : rs ≡ flat t1.items = sym (ok_is b1.0.0 rs b2.2) ∙ t1.more in
    let its : items v rs ≡ t1.items = ap (items v) same ∙ items_again v t1.items t1.fits in
    let count : length (items v rs) ≡ n = ap length its ∙ t1.count in
    let whole : octets ≡ short n ++ texts v t1.items =
    t0.0.parts ∙ ap (λ (l : List ℕ). short n ++ l) (t1.is ∙ ap (λ (l : List ℕ). texts v t1.items ++ l) none ∙ append-nil (texts v t1.items)) in (
      record { some = omega (arith, count, t0.1.0); few = omega (arith, count, t0.1.1); each = subst (All IsRecord) (sym same) (flat_records v None t1.items t1.fits) },
      whole ∙ ap (λ (k : ℕ). short k ++ texts v t1.items) (sym count) ∙ ap (λ (l : List Item). short (length (items v rs)) ++ texts v l) (sym its),
    )

left_again : (v : Version) (rs : List Record) → IsBatch v rs → records_left v (body_octets v rs) ≡ Ok rs
unfolding records_left body_octets
left_again v rs h =
    let is : List Item = items v rs in
    let n : ℕ = length is in
    let read : many v n None [] (texts v is) ≡ Ok (flat is, []) =
    ap (λ (l : List ℕ). many v n None [] l) (sym (append-nil (texts v is))) ∙ many_again v is None [] [] (items_fit v rs h.each) in
    let end : last 0 [] ≡ Ok [] = last_again [] in
    rw (within_again 1 65535 n (texts v is) (omega (arith, h.few)) h.some h.few, read, end) (ap (λ (l : List Record). Ok l) (items_back v rs))

placed_ok : {A : Type 0} (total : ℕ) (r : Result A ℕ) (x : A) → place_in total r ≡ Ok x → r ≡ Ok x
placed_ok total (Ok y) x e = e
placed_ok total (Err n) x e = absurd cc

pub batch_takes : (v : Version) (octets : List ℕ) (rs : List Record) → AreOctets octets → batch_of v octets ≡ Ok rs → IsBatch v rs × (octets ≡ body_octets v rs)
unfolding batch_of
batch_takes v octets rs fits e = left_takes v octets rs fits (placed_ok (length octets) (records_left v octets) rs e)

pub batch_again : (v : Version) (rs : List Record) → IsBatch v rs → batch_of v (body_octets v rs) ≡ Ok rs
unfolding batch_of
batch_again v rs h = rw (left_again v rs h) refl

pub is_found : (v : Version) (octets : List ℕ) (r : Result (List Record) RecordRefusal) → AreOctets octets → Reads r (batch_of v octets) → IfOk r (λ rs. IsBatch v rs × (octets ≡ body_octets v rs))
is_found v octets (Ok rs) fits read = batch_takes v octets rs fits read
is_found v octets (Err e) fits read = tt

-- ---- lengths

pub first_texts : (rs : List Record) → texts First (ones rs) ≡ flat_map (record_octets First) rs
first_texts [] = refl
first_texts (r ∷ rs) = ap (λ (l : List ℕ). record_octets First r ++ l) (first_texts rs)

pub first_long : (rs : List Record) → length (flat_map (record_octets First) rs) ≡ sum_by (record_len 16) rs
first_long rs = length-flat_map (record_octets First) rs ∙ (λ i. sum_by (λ r. record_length First r i) rs)

pub body_long : (v : Version) (rs : List Record) → length (body_octets v rs) ≡ body_len (version_number v) rs
unfolding body_octets body_len
body_long First rs = omega (arith, length-append (short (length (ones rs))) (texts First (ones rs)), ap length (first_texts rs), first_long rs)
body_long Second rs = omega (arith, length-append (short (length (grouped 0 [] rs))) (texts Second (grouped 0 [] rs)), grouped_long rs)

-- ---- batches

pub first_count : (rs : List Record) → length (items First rs) ≡ length rs
first_count rs = length-map rs (λ r. One r)

pub first_batch : (rs : List Record) → 1 ≤ length rs → length rs ≤ 65535 → All IsRecord rs → IsBatch First rs
first_batch rs some few each = record { some = omega (arith, first_count rs, some); few = omega (arith, first_count rs, few); each = each }

pub second_batch : (rs : List Record) → 1 ≤ length rs → begun 0 0 rs ≤ 65535 → All IsRecord rs → IsBatch Second rs
second_batch rs some few each = record { some = omega (arith, grouped_count rs, begun_some rs some); few = omega (arith, grouped_count rs, few); each = each }

pub second_short : (rs : List Record) → length rs ≤ 65535 → begun 0 0 rs ≤ 65535
second_short rs few = omega (arith, begun_few 0 0 rs)

-- If an answer has a property, it also has each weaker property.
pub if_ok : {T E : Type 0} (r : Result T E) (P Q : T → Type 0) → ((x : T) → P x → Q x) → IfOk r P → IfOk r Q
if_ok (Ok x) P Q f p = f x p
if_ok (Err e) P Q f p = p

pub answer_long : {E : Type 0} (v : Version) (rs batch : List Record) → rs ≡ batch → (r : Result (List ℕ) E) → IfOk r (λ o. o ≡ body_octets v rs) → IfOk r (λ o. length o ≡ body_len (version_number v) batch)
answer_long v rs batch same (Ok o) p = ap length p ∙ body_long v rs ∙ ap (λ (l : List Record). body_len (version_number v) l) same
answer_long v rs batch same (Err e) p = p

pub answer_second : {E : Type 0} (rs batch : List Record) → rs ≡ batch → 1 ≤ length batch → length batch ≤ 65535 → (r : Result (List ℕ) E) → IfOk r (λ o. All IsRecord rs) → IfOk r (λ o. IsBatch Second batch)
answer_second rs batch same some few (Ok o) p = second_batch batch some (second_short batch few) (subst (All IsRecord) same p)
answer_second rs batch same some few (Err e) p = p

pub answer_first : {E : Type 0} (rs batch : List Record) → rs ≡ batch → 1 ≤ length batch → length batch ≤ 65535 → (r : Result (List ℕ) E) → IfOk r (λ o. All IsRecord rs) → IfOk r (λ o. IsBatch First batch)
answer_first rs batch same some few (Ok o) p = first_batch batch some few (subst (All IsRecord) same p)
answer_first rs batch same some few (Err e) p = p

pub first_whole : (rs : List Record) (size : ℕ) → size ≡ sum_by (record_len 16) rs → 2 + size ≡ length (body_octets First rs)
unfolding body_len
first_whole rs size e = ap (λ (k : ℕ). 2 + k) e ∙ sym (body_long First rs)

pub second_whole : (rs : List Record) (size : ℕ) → size ≡ spelled_after 0 0 rs → 2 + size ≡ length (body_octets Second rs)
unfolding body_len
second_whole rs size e = ap (λ (k : ℕ). 2 + k) e ∙ sym (body_long Second rs)

pub second_count : (rs : List Record) (count : ℕ) → count ≡ begun 0 0 rs → count ≡ length (items Second rs)
second_count rs count e = e ∙ sym (grouped_count rs)

-- A fact that has an encoding is well formed.
fact_formed : (f : Fact) → IsFact f → IsWellFormedFact f
fact_formed f h = is_formed (Data f) h

record_formed : (r : Record) → IsRecord r → IsWellFormedRecord r
record_formed (Block link number bytes) h = h.2
record_formed (Lease lane end) h = tt
record_formed (Learned f) h = fact_formed f h
record_formed (Acked n) h = tt
record_formed (Handed n to) h = tt
record_formed (Closed n by) h = h.0.1
record_formed (Bare f) h = h.1

pub batch_formed : (v : Version) (octets : List ℕ) (r : Result (List Record) RecordRefusal) → AreOctets octets → Reads r (batch_of v octets) → IfOk r (λ rs. All IsWellFormedRecord rs)
batch_formed v octets (Ok rs) fits read = λ k d lt. record_formed _ ((batch_takes v octets rs fits read).0.each k d lt)
batch_formed v octets (Err e) fits read = tt
