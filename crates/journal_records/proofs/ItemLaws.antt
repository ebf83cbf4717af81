-- Laws of consecutive spelled records: what decoding and encoding give.
use Rattle.std.proofs.Common.{◌≡◌, ℕ, zero, suc, ◌+◌, ◌<◌, ◌≤◌, Bool, true, false, cond, eqb, List, [], ◌∷◌, ◌++◌, length, map, Option, Some, None, Result, Ok, Err, refl, sym, ap, subst, ◌∙◌, arith, append_assoc, length-append}
use Rattle.std.specs.List.{All, flat_map}
use Rattle.std.proofs.lemmas.Bool.{cases_Bool, eqb-true}
use Rattle.std.proofs.lemmas.List.{append-nil}
use Rattle.std.proofs.lemmas.List.Elements.{All-nil, All-cons, All-head, All-tail}
use Rattle.qkd_base.specs.Name.{Name, IsName}
use Rattle.net_model.specs.declared.record.Record.{Record}
use Rattle.net_model.specs.declared.record.Record.TheVariants.{Block, Lease, Learned, Acked, Handed, Closed, Bare}
use Rattle.frame_codec.specs.Payload.{IsSae, AreOctets, fields, short}
use Rattle.frame_codec.specs.Reading.{◌>>=◌, any_kind, sae}
use Rattle.frame_codec.proofs.FieldLaws.{Takes, bind_ok, guard_ok, ok_is, sae_takes, sae_again}
use Rattle.journal_records.specs.declared.version.Version.{Version}
use Rattle.journal_records.specs.declared.version.Version.TheVariants.{First, Second}
use Rattle.journal_records.specs.Grammar.{IsRecord, short_name, record_kind, record_fields, record_octets, Item, item_octets, records_in}
use Rattle.journal_records.specs.Grammar.Item.{One, Run}
use Rattle.journal_records.specs.Layout.{octet, within, short_named, one_of, is_shut, shut_after, handings, run_of, is_run, alone, item, many}
use Rattle.journal_records.proofs.FieldLaws.{fields_then, octet_takes, octet_again, within_takes, within_again, short_takes, short_again}
use Rattle.journal_records.proofs.RecordLaws.{Tells, one_takes, one_again}

-- ---- which spelled record may follow which

abbrev pub to_one : ℕ → List Name → List Record
to_one to names = map (λ n. Handed n to) names

abbrev pub IsItem : Version → Option ℕ → Item → Type 0
IsItem v shut (One r) = IsRecord r × (is_run v (record_kind r) ≡ false)
IsItem v shut (Run to names) = (v ≡ Second) × IsSae to × All IsName names × (1 ≤ length names) × (length names ≤ 128) × (is_shut shut to ≡ false)

-- the application to which the next run may not be
abbrev pub next_shut : Item → Option ℕ
next_shut (One r) = None
next_shut (Run to names) = shut_after to (length names)

abbrev pub AreItems : Version → Option ℕ → List Item → Type 0
AreItems v shut [] = Unit {0}
AreItems v shut (i ∷ is) = IsItem v shut i × AreItems v (next_shut i) is

abbrev pub texts : Version → List Item → List ℕ
texts v is = flat_map (item_octets v) is

abbrev pub flat : List Item → List Record
flat is = flat_map records_in is

-- ---- the names of a run

record Names (to : ℕ) (n : ℕ) (rs : List Record) (octets : List ℕ) (x : List Record × List ℕ) : Type 0 where
  names : List Name
  is : octets ≡ flat_map short_name names ++ x.1
  more : x.0 ≡ rs ++ to_one to names
  count : length names ≡ n
  each : All IsName names
  rest_fits : AreOctets x.1

handings_takes : (to n : ℕ) (rs : List Record) (octets : List ℕ) (x : List Record × List ℕ) → AreOctets octets → handings to n rs octets ≡ Ok x → Names to n rs octets x
unfolding handings
handings_takes to zero rs octets x fits e =
    subst (Names to zero rs octets) (ok_is (rs, octets) x e) (record { names = []; is = refl; more = sym (append-nil rs); count = refl; each = All-nil IsName; rest_fits = fits })
handings_takes to (suc n) rs octets x fits e =
    let b = bind_ok (short_named any_kind octets) (λ name. handings to n (rs ++ Handed name.0 to ∷ []) name.1) x e in
    let t = short_takes octets b.0 fits b.1 in
    let k = handings_takes to n (rs ++ Handed b.0.0 to ∷ []) b.0.1 x t.0.rest_fits b.2 in
    record {
      names = b.0.0 ∷ k.names;
      is = t.0.parts ∙ ap (λ (l : List ℕ). short_name b.0.0 ++ l) k.is ∙ sym (append_assoc (short_name b.0.0) (flat_map short_name k.names) x.1);
      more = k.more ∙ append_assoc rs (Handed b.0.0 to ∷ []) (to_one to k.names);
      count = ap (λ (m : ℕ). suc m) k.count;
      each = All-cons IsName b.0.0 k.names t.1 k.each;
      rest_fits = k.rest_fits;
    }

handings_again : (to : ℕ) (names : List Name) (rs : List Record) (rest : List ℕ) → All IsName names → handings to (length names) rs (flat_map short_name names ++ rest) ≡ Ok (rs ++ to_one to names, rest)
unfolding handings
handings_again to [] rs rest each = ap (λ (l : List Record). Ok (l, rest)) (sym (append-nil rs))
handings_again to (n ∷ names) rs rest each =
    let first : short_named any_kind (short_name n ++ (flat_map short_name names ++ rest)) ≡ Ok (n, flat_map short_name names ++ rest) =
    short_again n (flat_map short_name names ++ rest) (All-head IsName n names each) in
    let later = handings_again to names (rs ++ Handed n to ∷ []) rest (All-tail IsName n names each) in
    ap (λ (l : List ℕ). short_named any_kind l >>= λ name. handings to (length names) (rs ++ Handed name.0 to ∷ []) name.1) (append_assoc (short_name n) (flat_map short_name names) rest)
    ∙ ap (λ r. r >>= λ name. handings to (length names) (rs ++ Handed name.0 to ∷ []) name.1) first
    ∙ later ∙ ap (λ (l : List Record). Ok (l, rest)) (append_assoc rs (Handed n to ∷ []) (to_one to names))

-- ---- one spelled record

pub record Reads (v : Version) (shut : Option ℕ) (rs : List Record) (octets : List ℕ) (x : (Option ℕ × List Record) × List ℕ) : Type 0 where
  pub item : Item
  pub is : octets ≡ item_octets v item ++ x.1
  pub fits : IsItem v shut item
  pub more : x.0.1 ≡ rs ++ records_in item
  pub next : x.0.0 ≡ next_shut item
  pub rest_fits : AreOctets x.1

run_takes : (left : ℕ) (shut : Option ℕ) (rs : List Record) (octets : List ℕ) (x : (Option ℕ × List Record) × List ℕ) → AreOctets octets → run_of left shut rs octets ≡ Ok x → Reads Second shut rs (5 ∷ octets) x
unfolding run_of
run_takes left shut rs octets x fits e =
    let b0 = bind_ok (sae octets) (λ to. (cond (is_shut shut to.0) (Err left) (within 1 128 to.1)) >>= λ n. handings to.0 n.0 rs n.1 >>= λ more. Ok ((shut_after to.0 n.0, more.0), more.1)) x e in
    let t0 = sae_takes octets b0.0 fits b0.1 in
    let to : ℕ = b0.0.0 in
    let b1 = bind_ok (cond (is_shut shut to) (Err left) (within 1 128 b0.0.1)) (λ n. handings to n.0 rs n.1 >>= λ more. Ok ((shut_after to n.0, more.0), more.1)) x b0.2 in
    let g = guard_ok (is_shut shut to) left (within 1 128 b0.0.1) b1.0 b1.1 in
    let t1 = within_takes 1 128 b0.0.1 b1.0 t0.0.rest_fits g.1 in
    let n : ℕ = b1.0.0 in
    let b2 = bind_ok (handings to n rs b1.0.1) (λ more. Ok ((shut_after to n, more.0), more.1)) x b1.2 in
    let t2 = handings_takes to n rs b1.0.1 b2.0 t1.0.rest_fits b2.1 in
    let whole : octets ≡ short to ++ (short (length t2.names) ++ (flat_map short_name t2.names ++ b2.0.1)) =
    t0.0.parts ∙ ap (λ (l : List ℕ). short to ++ l) (t1.0.parts ∙ ap (λ (l : List ℕ). short n ++ l) t2.is ∙ ap (λ (k : ℕ). short k ++ (flat_map short_name t2.names ++ b2.0.1)) (sym t2.count)) in
    subst (Reads Second shut rs (5 ∷ octets)) (ok_is ((shut_after to n, b2.0.0), b2.0.1) x b2.2) (record {
      item = Run to t2.names;
      is = ap (λ (l : List ℕ). 5 ∷ l) (whole ∙ sym (fields_then (short to ∷ short (length t2.names) ∷ flat_map short_name t2.names ∷ []) b2.0.1));
      fits = (refl, t0.1, t2.each, omega (arith, t1.1.0, t2.count), omega (arith, t1.1.1, t2.count), g.0);
      more = t2.more;
      next = ap (shut_after to) (sym t2.count);
      rest_fits = t2.rest_fits;
    })

run_again : (left : ℕ) (shut : Option ℕ) (rs : List Record) (to : ℕ) (names : List Name) (rest : List ℕ) → IsItem Second shut (Run to names)
    → run_of left shut rs (fields (short to ∷ short (length names) ∷ flat_map short_name names ∷ []) ++ rest) ≡ Ok ((shut_after to (length names), rs ++ to_one to names), rest)
unfolding run_of
run_again left shut rs to names rest h =
    let n : ℕ = length names in
    let r1 = flat_map short_name names ++ rest in
    rw (fields_then (short to ∷ short n ∷ flat_map short_name names ∷ []) rest, sae_again to (short n ++ r1) h.1, h.5, within_again 1 128 n r1 (omega (arith, h.4)) h.3 h.4, handings_again to names rs rest h.2) refl

abbrev kind_is : ℕ → List ℕ → List ℕ
kind_is kind octets = kind ∷ octets

-- a record that is no part of a run
alone_takes : (v : Version) (shut : Option ℕ) (rs : List Record) (left kind : ℕ) (octets : List ℕ) (x : (Option ℕ × List Record) × List ℕ) → is_run v kind ≡ false → AreOctets octets → alone rs (one_of v left kind octets) ≡ Ok x → Reads v shut rs (kind ∷ octets) x
alone_takes v shut rs left kind octets x plain fits e =
    let b = bind_ok (one_of v left kind octets) (λ r. Ok ((None, rs ++ r.0 ∷ []), r.1)) x e in
    let t = one_takes v left kind octets b.0 fits b.1 in
    let same : kind ≡ record_kind b.0.0 = first_is kind (record_kind b.0.0) octets (fields (record_fields v b.0.0) ++ b.0.1) t.is in
    subst (Reads v shut rs (kind ∷ octets)) (ok_is ((None, rs ++ b.0.0 ∷ []), b.0.1) x b.2) (record {
      item = One b.0.0;
      is = t.is;
      fits = (t.fits, ap (is_run v) (sym same) ∙ plain);
      more = refl;
      next = refl;
      rest_fits = t.rest_fits;
    })
  where
    first_is : (a b : ℕ) (xs ys : List ℕ) → a ∷ xs ≡ b ∷ ys → a ≡ b
    first_is a b xs ys h = cc

run_kind : (v : Version) (kind : ℕ) → is_run v kind ≡ true → (v ≡ Second) × (kind ≡ 5)
run_kind First kind e = absurd cc
run_kind Second kind e = (refl, eqb-true kind 5 e)

pub item_takes : (v : Version) (shut : Option ℕ) (rs : List Record) (octets : List ℕ) (x : (Option ℕ × List Record) × List ℕ) → AreOctets octets → item v shut rs octets ≡ Ok x → Reads v shut rs octets x
unfolding item
item_takes v shut rs octets x fits e =
    let b = bind_ok (octet octets) (λ kind. cond (is_run v kind.0) (run_of (length octets) shut rs kind.1) (alone rs (one_of v (length octets) kind.0 kind.1))) x e in
    let t = octet_takes octets b.0 fits b.1 in
    subst (λ (l : List ℕ). Reads v shut rs l x) (sym t.0.parts) (by_kind (is_run v b.0.0) refl b.2 t.0.rest_fits)
  where
    by_kind : {kind : ℕ × List ℕ} (run : Bool) → is_run v kind.0 ≡ run → cond (is_run v kind.0) (run_of (length octets) shut rs kind.1) (alone rs (one_of v (length octets) kind.0 kind.1)) ≡ Ok x → AreOctets kind.1 → Reads v shut rs (kind.0 ∷ kind.1) x
    by_kind {kind} true is h ok =
        let k = run_kind v kind.0 is in
        let read : run_of (length octets) shut rs kind.1 ≡ Ok x = ap (λ c. cond c (run_of (length octets) shut rs kind.1) (alone rs (one_of v (length octets) kind.0 kind.1))) (sym is) ∙ h in
        subst (λ w. Reads w shut rs (kind.0 ∷ kind.1) x) (sym k.0) (subst (λ n. Reads Second shut rs (n ∷ kind.1) x) (sym k.1) (run_takes (length octets) shut rs kind.1 x ok read))
    by_kind {kind} false is h ok =
        let read : alone rs (one_of v (length octets) kind.0 kind.1) ≡ Ok x = ap (λ c. cond c (run_of (length octets) shut rs kind.1) (alone rs (one_of v (length octets) kind.0 kind.1))) (sym is) ∙ h in
        alone_takes v shut rs (length octets) kind.0 kind.1 x is ok read

pub item_again : (v : Version) (shut : Option ℕ) (rs : List Record) (i : Item) (rest : List ℕ) → IsItem v shut i → item v shut rs (item_octets v i ++ rest) ≡ Ok ((next_shut i, rs ++ records_in i), rest)
unfolding item
item_again v shut rs (One r) rest h =
    rw (octet_again (record_kind r) (fields (record_fields v r) ++ rest), h.1, one_again v (length (record_octets v r ++ rest)) r rest h.0) refl
item_again First shut rs (Run to names) rest h = absurd (other h.0)
  where
    other : First ≡ Second → ⊥
    other e = cc
item_again Second shut rs (Run to names) rest h =
    let body = fields (short to ∷ short (length names) ∷ flat_map short_name names ∷ []) in
    rw (octet_again 5 (body ++ rest)) (run_again (length (5 ∷ (body ++ rest))) shut rs to names rest h)

-- ---- n spelled records

pub record ReadsAll (v : Version) (n : ℕ) (shut : Option ℕ) (rs : List Record) (octets : List ℕ) (x : List Record × List ℕ) : Type 0 where
  pub items : List Item
  pub is : octets ≡ texts v items ++ x.1
  pub fits : AreItems v shut items
  pub more : x.0 ≡ rs ++ flat items
  pub count : length items ≡ n
  pub rest_fits : AreOctets x.1

pub many_takes : (v : Version) (n : ℕ) (shut : Option ℕ) (rs : List Record) (octets : List ℕ) (x : List Record × List ℕ) → AreOctets octets → many v n shut rs octets ≡ Ok x → ReadsAll v n shut rs octets x
unfolding many
many_takes v zero shut rs octets x fits e =
    subst (ReadsAll v zero shut rs octets) (ok_is (rs, octets) x e) (record { items = []; is = refl; fits = tt; more = sym (append-nil rs); count = refl; rest_fits = fits })
many_takes v (suc n) shut rs octets x fits e =
    let b = bind_ok (item v shut rs octets) (λ y. many v n y.0.0 y.0.1 y.1) x e in
    let t = item_takes v shut rs octets b.0 fits b.1 in
    let k = many_takes v n b.0.0.0 b.0.0.1 b.0.1 x t.rest_fits b.2 in
    record {
      items = t.item ∷ k.items;
      is = t.is ∙ ap (λ (l : List ℕ). item_octets v t.item ++ l) k.is ∙ sym (append_assoc (item_octets v t.item) (texts v k.items) x.1);
      fits = (t.fits, subst (λ s. AreItems v s k.items) t.next k.fits);
      more = k.more ∙ ap (λ (l : List Record). l ++ flat k.items) t.more ∙ append_assoc rs (records_in t.item) (flat k.items);
      count = ap (λ (m : ℕ). suc m) k.count;
      rest_fits = k.rest_fits;
    }

pub many_again : (v : Version) (is : List Item) (shut : Option ℕ) (rs : List Record) (rest : List ℕ) → AreItems v shut is → many v (length is) shut rs (texts v is ++ rest) ≡ Ok (rs ++ flat is, rest)
unfolding many
many_again v [] shut rs rest h = ap (λ (l : List Record). Ok (l, rest)) (sym (append-nil rs))
many_again v (i ∷ is) shut rs rest h =
    let first = item_again v shut rs i (texts v is ++ rest) h.0 in
    let later = many_again v is (next_shut i) (rs ++ records_in i) rest h.1 in
    ap (λ (l : List ℕ). item v shut rs l >>= λ y. many v (length is) y.0.0 y.0.1 y.1) (append_assoc (item_octets v i) (texts v is) rest)
    ∙ ap (λ r. r >>= λ y. many v (length is) y.0.0 y.0.1 y.1) first
    ∙ later ∙ ap (λ (l : List Record). Ok (l, rest)) (append_assoc rs (records_in i) (flat is))
