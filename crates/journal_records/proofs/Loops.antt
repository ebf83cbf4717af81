-- One step of each loop that reads, counts or writes.
use Rattle.std.proofs.Common.{◌≡◌, ℕ, zero, suc, ◌+◌, ◌-◌, ◌<◌, ◌≤◌, Bool, true, false, cond, eqb, List, [], ◌∷◌, ◌++◌, length, get_or, take, drop, Option, None, Some, Result, Ok, Err, refl, sym, ap, subst, ◌∙◌, arith, inl, inr, append_assoc, length-append}
use Rattle.std.specs.List.{All, flat_map}
use Rattle.std.proofs.lemmas.Bool.{cases_lt, cases_Bool, eqb-true}
use Rattle.std.proofs.lemmas.List.{drop_more, take_at, take_all, take-take, get_or-take, get_or-drop, length-take, length-take-le, length-drop, append-nil}
use Rattle.std.proofs.lemmas.List.Elements.{All-nil, All-cons}
use Rattle.qkd_base.specs.Name.{Name}
use Rattle.net_model.specs.declared.fact.Fact.{Fact}
use Rattle.net_model.specs.declared.record.Record.{Record}
use Rattle.net_model.specs.declared.record.Record.TheVariants.{Handed}
use Rattle.net_model.specs.Facts.{fact_len}
use Rattle.net_model.specs.Journal.{record_len, spelled_after}
use Rattle.net_model.specs.Table.{bytes_of}
use Rattle.frame_codec.specs.Payload.{short, fact_octets}
use Rattle.frame_codec.specs.Writing.{Puts}
use Rattle.frame_codec.specs.Reading.{◌>>=◌, any_kind}
use Rattle.frame_codec.specs.declared.fault.Fault.{Fault}
use Rattle.frame_codec.specs.declared.fault.Fault.TheVariants as faults
use Rattle.journal_records.specs.declared.version.Version.{Version}
use Rattle.journal_records.specs.declared.version.Version.TheVariants.{First, Second}
use Rattle.journal_records.specs.Answers.{Stops}
use Rattle.journal_records.specs.Grammar.{IsRecord, short_name, name_size, record_octets, goes_on, begun, run_len, run_head, octets_left, rest_octets, items, body_octets, bare_octets}
use Rattle.journal_records.specs.Layout.{short_named, handings, item, many}
use Rattle.journal_records.proofs.FactLaws.{bare_length, whole_is_bare}
use Rattle.journal_records.proofs.Groups.{is_handing, cases_handing, spelled_more, spelled_new, spelled_other, begun_more, begun_new, begun_other}
use Rattle.journal_records.proofs.ItemLaws.{texts}
use Rattle.journal_records.proofs.RecordLaws.{record_length}
use Rattle.journal_records.proofs.Texts.{run_none, run_first, run_more, run_other, run_end, left_more, left_new, left_other, left_end, texts_are}

-- ---- reading

pub stops_on : {X Y : Type 0} (why : Fault) (first : Result X ℕ) (whole : Result Y ℕ) → ((n : ℕ) → first ≡ Err n → whole ≡ Err n) → Stops why first → Stops why whole
stops_on faults.Memory first whole on s = tt
stops_on (faults.Left n) first whole on s = on n s

left_of : (n i : ℕ) → i < n → n - i ≡ suc (n - (i + 1))
left_of n i lt = omega (arith, lt)

handings_first : (to m : ℕ) (rs : List Record) (octets : List ℕ) → handings to (suc m) rs octets ≡ (short_named any_kind octets >>= λ name. handings to m (rs ++ Handed name.0 to ∷ []) name.1)
unfolding handings
handings_first to m rs octets = refl

pub handings_end : (to m : ℕ) (rs : List Record) (octets : List ℕ) → m ≡ 0 → handings to m rs octets ≡ Ok (rs, octets)
unfolding handings
handings_end to m rs octets e = ap (λ (k : ℕ). handings to k rs octets) e

module _ (to n i : ℕ) (rs : List Record) (octets : List ℕ) (lt : i < n) where
  handings_now : handings to (n - i) rs octets ≡ (short_named any_kind octets >>= λ name. handings to (n - (i + 1)) (rs ++ Handed name.0 to ∷ []) name.1)
  handings_now = ap (λ (k : ℕ). handings to k rs octets) (left_of n i lt) ∙ handings_first to (n - (i + 1)) rs octets

  pub handings_next : (name : Name) (rest : List ℕ) → short_named any_kind octets ≡ Ok (name, rest) → handings to (n - i) rs octets ≡ handings to (n - (i + 1)) (rs ++ Handed name to ∷ []) rest
  handings_next name rest e = handings_now ∙ ap (λ r. r >>= λ m. handings to (n - (i + 1)) (rs ++ Handed m.0 to ∷ []) m.1) e

  pub handings_stop : (k : ℕ) → short_named any_kind octets ≡ Err k → handings to (n - i) rs octets ≡ Err k
  handings_stop k e = handings_now ∙ ap (λ r. r >>= λ m. handings to (n - (i + 1)) (rs ++ Handed m.0 to ∷ []) m.1) e

many_first : (v : Version) (m : ℕ) (shut : Option ℕ) (rs : List Record) (octets : List ℕ) → many v (suc m) shut rs octets ≡ (item v shut rs octets >>= λ x. many v m x.0.0 x.0.1 x.1)
unfolding many
many_first v m shut rs octets = refl

pub many_end : (v : Version) (m : ℕ) (shut : Option ℕ) (rs : List Record) (octets : List ℕ) → m ≡ 0 → many v m shut rs octets ≡ Ok (rs, octets)
unfolding many
many_end v m shut rs octets e = ap (λ (k : ℕ). many v k shut rs octets) e

module _ (v : Version) (n i : ℕ) (shut : Option ℕ) (rs : List Record) (octets : List ℕ) (lt : i < n) where
  many_now : many v (n - i) shut rs octets ≡ (item v shut rs octets >>= λ x. many v (n - (i + 1)) x.0.0 x.0.1 x.1)
  many_now = ap (λ (k : ℕ). many v k shut rs octets) (left_of n i lt) ∙ many_first v (n - (i + 1)) shut rs octets

  pub many_next : (s : Option ℕ) (more : List Record) (rest : List ℕ) → item v shut rs octets ≡ Ok ((s, more), rest) → many v (n - i) shut rs octets ≡ many v (n - (i + 1)) s more rest
  many_next s more rest e = many_now ∙ ap (λ r. r >>= λ x. many v (n - (i + 1)) x.0.0 x.0.1 x.1) e

  pub many_stop : (k : ℕ) → item v shut rs octets ≡ Err k → many v (n - i) shut rs octets ≡ Err k
  many_stop k e = many_now ∙ ap (λ r. r >>= λ x. many v (n - (i + 1)) x.0.0 x.0.1 x.1) e

-- ---- counting

pub tally_more : (octets items sae names : ℕ) (n : Name) (to : ℕ) (change : Record) → change ≡ Handed n to → goes_on sae names to ≡ true → (rs : List Record)
    → (octets + 7 + spelled_after sae (names + 1) rs ≡ octets + spelled_after sae names (change ∷ rs)) × (items + begun sae (names + 1) rs ≡ items + begun sae names (change ∷ rs))
tally_more octets items sae names n to change is on rs =
    subst (λ c. (octets + 7 + spelled_after sae (names + 1) rs ≡ octets + spelled_after sae names (c ∷ rs)) × (items + begun sae (names + 1) rs ≡ items + begun sae names (c ∷ rs))) (sym is)
    (omega (arith, spelled_more sae names n to rs on), omega (arith, begun_more sae names n to rs on))

pub tally_new : (octets items sae names : ℕ) (n : Name) (to : ℕ) (change : Record) → change ≡ Handed n to → goes_on sae names to ≡ false → (rs : List Record)
    → (octets + 12 + spelled_after to 1 rs ≡ octets + spelled_after sae names (change ∷ rs)) × (items + 1 + begun to 1 rs ≡ items + begun sae names (change ∷ rs))
tally_new octets items sae names n to change is off rs =
    subst (λ c. (octets + 12 + spelled_after to 1 rs ≡ octets + spelled_after sae names (c ∷ rs)) × (items + 1 + begun to 1 rs ≡ items + begun sae names (c ∷ rs))) (sym is)
    (omega (arith, spelled_new sae names n to rs off), omega (arith, begun_new sae names n to rs off))

pub tally_other : (octets items size sae names : ℕ) (change : Record) → is_handing change ≡ false → size ≡ record_len 7 change → (rs : List Record)
    → (octets + size + spelled_after 0 0 rs ≡ octets + spelled_after sae names (change ∷ rs)) × (items + 1 + begun 0 0 rs ≡ items + begun sae names (change ∷ rs))
tally_other octets items size sae names change plain is rs =
    (omega (arith, is, spelled_other sae names change rs plain), omega (arith, begun_other sae names change rs plain))

-- ---- the length of a run, counted in advance

pub run_on : (sae count i : ℕ) (rs : List Record) (d : Record) (n : Name) → i < length rs → get_or rs i d ≡ Handed n sae → count < 128
    → count + run_len sae (128 - count) (drop i rs) ≡ count + 1 + run_len sae (128 - (count + 1)) (drop (i + 1) rs)
run_on sae count i rs d n lt is few =
    let left : 128 - count ≡ suc (128 - (count + 1)) = omega (arith, few) in
    let same : eqb sae sae ≡ true = grind arith in
    let next : run_len sae (128 - count) (drop i rs) ≡ 1 + run_len sae (128 - (count + 1)) (drop (i + 1) rs) =
    ap (λ (k : ℕ). run_len sae k (drop i rs)) left ∙ ap (λ l. run_len sae (suc (128 - (count + 1))) l) (drop_more rs i d lt ∙ ap (λ q. q ∷ drop (i + 1) rs) is)
    ∙ run_first sae (128 - (count + 1)) n sae (drop (i + 1) rs) ∙ ap (λ b. cond b (1 + run_len sae (128 - (count + 1)) (drop (i + 1) rs)) 0) same in
    omega (arith, next)

pub run_off : (sae to most i : ℕ) (rs : List Record) (d : Record) (n : Name) → i < length rs → get_or rs i d ≡ Handed n to → eqb to sae ≡ false → run_len sae most (drop i rs) ≡ 0
run_off sae to zero i rs d n lt is other = run_none sae (drop i rs)
run_off sae to (suc most) i rs d n lt is other =
    ap (λ l. run_len sae (suc most) l) (drop_more rs i d lt ∙ ap (λ q. q ∷ drop (i + 1) rs) is) ∙ run_first sae most n to (drop (i + 1) rs)
    ∙ ap (λ b. cond b (1 + run_len sae most (drop (i + 1) rs)) 0) other

pub run_past : (sae most i : ℕ) (rs : List Record) (d : Record) → i < length rs → is_handing (get_or rs i d) ≡ false → run_len sae most (drop i rs) ≡ 0
run_past sae most i rs d lt plain = ap (λ l. run_len sae most l) (drop_more rs i d lt) ∙ run_other sae most (get_or rs i d) (drop (i + 1) rs) plain

-- ---- facts without their bytes

pub cut_is : (f : Fact) (size bytes : ℕ) → size ≡ fact_len f → bytes ≡ length (bytes_of f) → size - bytes ≡ fact_len f - length (bytes_of f)
cut_is f size bytes a b = omega (arith, a, b)

pub bare_prefix : (f : Fact) (room : List ℕ) (end : ℕ) → end ≡ length (fact_octets f) → take end room ≡ fact_octets f → take (fact_len f - length (bytes_of f)) room ≡ bare_octets f
bare_prefix f room end is whole =
    let size : ℕ = fact_len f - length (bytes_of f) in
    let long : length (bare_octets f) ≡ size = bare_length f in
    let within : size ≤ end = omega (arith, is, ap length (whole_is_bare f), length-append (bare_octets f) (bytes_of f), long) in
    sym (take-take size end room within) ∙ ap (λ (l : List ℕ). take size l) (whole ∙ whole_is_bare f) ∙ take_at (bare_octets f) (bytes_of f) size long

-- ---- writing

pub puts_on : {old new : List ℕ} {at end : ℕ} {text : List ℕ} → Puts old new at end text → (rest : List ℕ) → take end new ++ rest ≡ take at old ++ (text ++ rest)
puts_on {old} {new} {at} {end} {text} p rest = ap (λ (l : List ℕ). l ++ rest) p.prefix ∙ append_assoc (take at old) text rest

module _ (records : List Record) (n : Name) (to : ℕ) (first : records ≡ Handed n to ∷ drop 1 records) where
  pub more_left : (left : ℕ) → 0 < left → octets_left left records ≡ short_name n ++ octets_left (left - 1) (drop 1 records)
  more_left left some = ap (λ l. octets_left left l) first ∙ left_more left n to (drop 1 records) some

  pub run_some : 1 ≤ run_len to 128 records
  run_some = omega (arith, ap (λ l. run_len to 128 l) first, run_more to 127 n (drop 1 records))

  pub new_left : octets_left 0 records ≡ run_head to (run_len to 128 records) ++ (short_name n ++ octets_left (run_len to 128 records - 1) (drop 1 records))
  new_left =
      ap (λ l. octets_left 0 l) first ∙ left_new n to (drop 1 records)
      ∙ ap (λ (k : ℕ). run_head to k ++ (short_name n ++ octets_left (k - 1) (drop 1 records))) (ap (λ l. run_len to 128 l) (sym first))

  pub more_long : (left : ℕ) → 0 < left → 7 ≤ length (octets_left left records)
  more_long left some = omega (arith, ap length (more_left left some), length-append (short_name n) (octets_left (left - 1) (drop 1 records)))

  pub new_long : 12 ≤ length (octets_left 0 records)
  new_long =
      let k : ℕ = run_len to 128 records in
      omega (arith, ap length new_left, length-append (run_head to k) (short_name n ++ octets_left (k - 1) (drop 1 records)), length-append (short_name n) (octets_left (k - 1) (drop 1 records)))

pub first_is : (records : List Record) (r d : Record) → 0 < length records → r ≡ get_or records 0 d → records ≡ r ∷ drop 1 records
first_is [] r d some e = absurd (omega (arith, some))
first_is (x ∷ records) r d some e = ap (λ q. q ∷ records) (sym e)

pub first_all : (records : List Record) (r : Record) → records ≡ r ∷ drop 1 records → IsRecord r → All IsRecord (take 1 records)
first_all records r is fits = subst (λ l. All IsRecord (take 1 l)) (sym is) (All-cons IsRecord r [] fits (All-nil IsRecord))

pub other_left : (records : List Record) (r : Record) (left : ℕ) → records ≡ r ∷ drop 1 records → is_handing r ≡ false → octets_left left records ≡ record_octets Second r ++ octets_left 0 (drop 1 records)
other_left records r left is plain = ap (λ l. octets_left left l) is ∙ left_other left r (drop 1 records) plain

pub plain_left : (records : List Record) (r : Record) → records ≡ r ∷ drop 1 records → flat_map (record_octets First) records ≡ record_octets First r ++ flat_map (record_octets First) (drop 1 records)
plain_left records r is = ap (λ l. flat_map (record_octets First) l) is

-- A record that is no part of a run fits into the room for all.
pub record_fits : (v : Version) (r : Record) (rest whole : List ℕ) (at size : ℕ) → whole ≡ record_octets v r ++ rest → at + length whole ≤ size → at + record_len (name_size v) r ≤ size
record_fits v r rest whole at size is fits = omega (arith, fits, ap length is, length-append (record_octets v r) rest, record_length v r)

-- The octets that are left fit after those that were written.
pub rest_fits : (old now before left : List ℕ) (at end : ℕ) → take end now ++ left ≡ take at old ++ before → end ≤ length now → at + length before ≤ length old → length now ≡ length old → end + length left ≤ length now
rest_fits old now before left at end is within fits same =
    omega (arith, ap length is, length-append (take end now) left, length-append (take at old) before, length-take-le end now within, length-take at old, fits, same)

pub more_records : (records : List Record) (i : ℕ) → i < length records → All IsRecord (take i records) → All IsRecord (take 1 (drop i records)) → All IsRecord (take (i + 1) records)
more_records records i lt each one =
    λ k d within. elim (cases_lt k i) [
      | inl before ↦
          let it : IsRecord (get_or (take i records) k d) = each k d (omega (arith, before, length-take i records, lt)) in
          subst IsRecord (get_or-take i records k d before ∙ sym (get_or-take (i + 1) records k d (omega (arith, before)))) it
      | inr after ↦
          let here : k ≡ i = omega (arith, after, within, length-take (i + 1) records) in
          let it : IsRecord (get_or (take 1 (drop i records)) 0 d) = one 0 d (omega (arith, length-take 1 (drop i records), length-drop i records, lt)) in
          let at : get_or (take 1 (drop i records)) 0 d ≡ get_or records i d = get_or-take 1 (drop i records) 0 d (omega arith) ∙ get_or-drop i records 0 d ∙ ap (λ (j : ℕ). get_or records j d) (omega arith) in
          subst IsRecord (at ∙ ap (λ (j : ℕ). get_or records j d) (sym here) ∙ sym (get_or-take (i + 1) records k d (omega (arith, here)))) it
    ]

-- ---- bodies

pub body_written : (v : Version) (rs : List Record) (old mid new : List ℕ) (count at end : ℕ) → count ≡ length (items v rs) → length old ≡ length (body_octets v rs) → length new ≡ length old
    → Puts old mid 0 at (short count) → Puts mid new at end (rest_octets v 0 rs) → new ≡ body_octets v rs
unfolding body_octets
body_written v rs old mid new count at end is long same p q =
    let body : List ℕ = short (length (items v rs)) ++ texts v (items v rs) in
    let text : texts v (items v rs) ≡ rest_octets v 0 rs = texts_are v rs in
    let whole : take end new ≡ body =
    q.prefix ∙ ap (λ (l : List ℕ). l ++ rest_octets v 0 rs) p.prefix ∙ ap (λ (k : ℕ). short k ++ rest_octets v 0 rs) is ∙ ap (λ (l : List ℕ). short (length (items v rs)) ++ l) (sym text) in
    sym (take_all end new (omega (arith, same, long, q.end_is, p.end_is, length-append (short (length (items v rs))) (texts v (items v rs)), ap length text))) ∙ whole

pub body_fits : (v : Version) (rs : List Record) (size at : ℕ) → size ≡ length (body_octets v rs) → at ≡ 2 → at + length (rest_octets v 0 rs) ≤ size
unfolding body_octets
body_fits v rs size at long two = omega (arith, long, two, length-append (short (length (items v rs))) (texts v (items v rs)), ap length (texts_are v rs))

pub body_some : (v : Version) (rs : List Record) → 2 ≤ length (body_octets v rs)
unfolding body_octets
body_some v rs = omega (arith, length-append (short (length (items v rs))) (texts v (items v rs)))

pub plain_of : (r : Record) → ((n : Name) (to : ℕ) → r ≡ Handed n to → ⊥) → is_handing r ≡ false
plain_of r not = elim (cases_handing r) [
  | inl h ↦ absurd (not h.name h.to h.is)
  | inr plain ↦ plain
]

pub differ : (a b : ℕ) → (a ≡ b → ⊥) → eqb a b ≡ false
differ a b not = elim (cases_Bool (eqb a b)) [
  | inl same ↦ absurd (not (eqb-true a b same))
  | inr other ↦ other
]

pub rest_end : (v : Version) (left : ℕ) (rs : List Record) → rs ≡ [] → rest_octets v left rs ≡ []
rest_end First left rs none = ap (λ l. flat_map (record_octets First) l) none
rest_end Second left rs none = ap (λ l. octets_left left l) none ∙ left_end left

pub all_written : (old now rest whole : List ℕ) (at end : ℕ) → take end now ++ rest ≡ take at old ++ whole → rest ≡ [] → end ≤ length now → at + length whole ≤ length old → Puts old now at end whole
all_written old now rest whole at end is none within fits =
    let front : take end now ≡ take at old ++ whole = sym (append-nil (take end now)) ∙ ap (λ (l : List ℕ). take end now ++ l) (sym none) ∙ is in
    record {
      end_is = omega (arith, ap length front, length-append (take at old) whole, length-take-le end now within, length-take at old, fits);
      prefix = front;
    }

pub end_within : (v : Version) (r : Record) (rest whole : List ℕ) (at size end : ℕ) → whole ≡ record_octets v r ++ rest → at + length whole ≤ size → end ≡ at + length (record_octets v r) → end ≤ size
end_within v r rest whole at size end is fits e = omega (arith, fits, e, ap length is, length-append (record_octets v r) rest)
