-- Consecutive handings to one application form runs.
use Rattle.std.proofs.Common.{◌≡◌, ℕ, zero, suc, ◌+◌, ◌-◌, ◌*◌, ◌<◌, ◌≤◌, ◌⊎◌, inl, inr, Bool, true, false, cond, eqb, ltb, ◌&&◌, List, [], ◌∷◌, ◌++◌, length, map, Option, Some, None, refl, sym, ap, subst, ◌∙◌, arith, append_assoc, length-append}
use Rattle.std.specs.List.{All, flat_map}
use Rattle.std.proofs.lemmas.Bool.{cases_Bool, eqb-true}
use Rattle.std.proofs.lemmas.Bool.Decides.{nat_tests}
use Rattle.std.proofs.lemmas.List.{append-nil}
use Rattle.std.proofs.lemmas.List.Elements.{All-nil, All-cons, All-head, All-tail, All-push}
use Rattle.qkd_base.specs.Name.{Name, IsName}
use Rattle.net_model.specs.declared.record.Record.{Record}
use Rattle.net_model.specs.declared.record.Record.TheVariants.{Block, Lease, Learned, Acked, Handed, Closed, Bare}
use Rattle.net_model.specs.Journal.{record_len, spelled_after}
use Rattle.frame_codec.specs.Payload.{IsSae}
use Rattle.journal_records.specs.declared.version.Version.TheVariants.{Second}
use Rattle.journal_records.specs.Grammar.{IsRecord, short_name, record_kind, Item, item_octets, records_in, goes_on, closing, grouped, begun}
use Rattle.journal_records.specs.Grammar.Item.{One, Run}
use Rattle.journal_records.specs.Layout.{is_run, is_shut, shut_after}
use Rattle.journal_records.proofs.RecordLaws.{record_length}
use Rattle.journal_records.proofs.ItemLaws.{to_one, IsItem, next_shut, AreItems, texts, flat}

-- ---- handings and other records

abbrev pub is_handing : Record → Bool
is_handing (Handed n to) = true
is_handing (Block link number bytes) = false
is_handing (Lease lane end) = false
is_handing (Learned f) = false
is_handing (Acked n) = false
is_handing (Closed n by) = false
is_handing (Bare f) = false

pub record IsHanding (r : Record) : Type 0 where
  pub name : Name
  pub to : ℕ
  pub is : r ≡ Handed name to

pub cases_handing : (r : Record) → IsHanding r ⊎ (is_handing r ≡ false)
cases_handing (Handed n to) = inl (record { name = n; to = to; is = refl })
cases_handing (Block link number bytes) = inr refl
cases_handing (Lease lane end) = inr refl
cases_handing (Learned f) = inr refl
cases_handing (Acked n) = inr refl
cases_handing (Closed n by) = inr refl
cases_handing (Bare f) = inr refl

no_handing : {A : Type 0} → true ≡ false → A
no_handing e = absurd cc

pub grouped_other : (sae : ℕ) (names : List Name) (r : Record) (rs : List Record) → is_handing r ≡ false → grouped sae names (r ∷ rs) ≡ closing sae names ++ One r ∷ grouped 0 [] rs
unfolding grouped
grouped_other sae names (Handed n to) rs e = no_handing e
grouped_other sae names (Block link number bytes) rs e = refl
grouped_other sae names (Lease lane end) rs e = refl
grouped_other sae names (Learned f) rs e = refl
grouped_other sae names (Acked n) rs e = refl
grouped_other sae names (Closed n by) rs e = refl
grouped_other sae names (Bare f) rs e = refl

pub begun_other : (sae names : ℕ) (r : Record) (rs : List Record) → is_handing r ≡ false → begun sae names (r ∷ rs) ≡ 1 + begun 0 0 rs
unfolding begun
begun_other sae names (Handed n to) rs e = no_handing e
begun_other sae names (Block link number bytes) rs e = refl
begun_other sae names (Lease lane end) rs e = refl
begun_other sae names (Learned f) rs e = refl
begun_other sae names (Acked n) rs e = refl
begun_other sae names (Closed n by) rs e = refl
begun_other sae names (Bare f) rs e = refl

pub spelled_other : (sae names : ℕ) (r : Record) (rs : List Record) → is_handing r ≡ false → spelled_after sae names (r ∷ rs) ≡ record_len 7 r + spelled_after 0 0 rs
unfolding spelled_after
spelled_other sae names (Handed n to) rs e = no_handing e
spelled_other sae names (Block link number bytes) rs e = refl
spelled_other sae names (Lease lane end) rs e = refl
spelled_other sae names (Learned f) rs e = refl
spelled_other sae names (Acked n) rs e = refl
spelled_other sae names (Closed n by) rs e = refl
spelled_other sae names (Bare f) rs e = refl

other_kind : (r : Record) → is_handing r ≡ false → is_run Second (record_kind r) ≡ false
other_kind (Handed n to) e = no_handing e
other_kind (Block link number bytes) e = refl
other_kind (Lease lane end) e = refl
other_kind (Learned f) e = refl
other_kind (Acked n) e = refl
other_kind (Closed n by) e = refl
other_kind (Bare f) e = refl

pub kind_other : (r : Record) → is_run Second (record_kind r) ≡ false → is_handing r ≡ false
kind_other (Handed n to) e = no_handing e
kind_other (Block link number bytes) e = refl
kind_other (Lease lane end) e = refl
kind_other (Learned f) e = refl
kind_other (Acked n) e = refl
kind_other (Closed n by) e = refl
kind_other (Bare f) e = refl

pub grouped_more : (sae : ℕ) (names : List Name) (n : Name) (to : ℕ) (rs : List Record) → goes_on sae (length names) to ≡ true → grouped sae names (Handed n to ∷ rs) ≡ grouped sae (names ++ n ∷ []) rs
unfolding grouped
grouped_more sae names n to rs e = ap (λ b. cond b (grouped sae (names ++ n ∷ []) rs) (closing sae names ++ grouped to (n ∷ []) rs)) e

pub grouped_new : (sae : ℕ) (names : List Name) (n : Name) (to : ℕ) (rs : List Record) → goes_on sae (length names) to ≡ false → grouped sae names (Handed n to ∷ rs) ≡ closing sae names ++ grouped to (n ∷ []) rs
unfolding grouped
grouped_new sae names n to rs e = ap (λ b. cond b (grouped sae (names ++ n ∷ []) rs) (closing sae names ++ grouped to (n ∷ []) rs)) e

pub grouped_end : (sae : ℕ) (names : List Name) → grouped sae names [] ≡ closing sae names
unfolding grouped
grouped_end sae names = refl

-- A handing continues a run of these names.
pub record GoesOn (sae names to : ℕ) : Type 0 where
  pub same : to ≡ sae
  pub some : 0 < names
  pub few : names < 128

pub on_true : (sae names to : ℕ) → goes_on sae names to ≡ true → GoesOn sae names to
on_true sae names to e =
    let a = parts (ltb 0 names && ltb names 128) (eqb to sae) e in
    let b = parts (ltb 0 names) (ltb names 128) a.0 in
    record { same = eqb-true to sae a.1; some = low names b.0; few = high names b.1 }
  where
    parts : (a b : Bool) → (a && b) ≡ true → (a ≡ true) × (b ≡ true)
    parts true true h = (refl, refl)
    parts true false h = absurd cc
    parts false b h = absurd cc

    low : (n : ℕ) → ltb 0 n ≡ true → 0 < n
    low n h = grind arith

    high : (n : ℕ) → ltb n 128 ≡ true → n < 128
    high n h = grind arith

pub on_again : (sae names : ℕ) → 0 < names → names < 128 → goes_on sae names sae ≡ true
on_again sae names some few =
    let a : ltb 0 names ≡ true = grind arith in
    let b : ltb names 128 ≡ true = grind arith in
    let c : eqb sae sae ≡ true = grind arith in
    rw (a, b, c) refl

-- If a handing can't continue a run, then a new run to the handing's application may follow that run.
shut_fits : (sae to names : ℕ) → 0 < names → goes_on sae names to ≡ false → is_shut (shut_after sae names) to ≡ false
shut_fits sae to names some e = elim (cases_Bool (ltb names 128)) [
  | inl few ↦ ap (λ b. is_shut (cond b (Some sae) None) to) few ∙ differ few
  | inr many ↦ ap (λ b. is_shut (cond b (Some sae) None) to) many
]
  where
    high : ltb names 128 ≡ true → names < 128
    high h = grind arith

    differ : ltb names 128 ≡ true → eqb sae to ≡ false
    differ few = elim (cases_Bool (eqb sae to)) [
      | inl same ↦
          let is : sae ≡ to = eqb-true sae to same in
          let on : goes_on sae names sae ≡ true = on_again sae names some (high few) in
          no_handing (sym on ∙ ap (λ t. goes_on sae names t) is ∙ e)
      | inr other ↦ other
    ]

fits_shut : (sae to names : ℕ) → is_shut (shut_after sae names) to ≡ false → goes_on sae names to ≡ false
fits_shut sae to names e = elim (cases_Bool (goes_on sae names to)) [
  | inl on ↦
      let g = on_true sae names to on in
      let few : ltb names 128 ≡ true = low names g.few in
      let same : eqb sae to ≡ true = equal sae to (sym g.same) in
      no_handing (sym same ∙ ap (λ b. is_shut (cond b (Some sae) None) to) (sym few) ∙ e)
  | inr off ↦ off
]
  where
    low : (n : ℕ) → n < 128 → ltb n 128 ≡ true
    low n h = grind arith

    equal : (a b : ℕ) → a ≡ b → eqb a b ≡ true
    equal a b h = grind arith

-- ---- the records of the runs

flat-append : (xs ys : List Item) → flat (xs ++ ys) ≡ flat xs ++ flat ys
flat-append [] ys = refl
flat-append (x ∷ xs) ys = ap (λ (l : List Record). records_in x ++ l) (flat-append xs ys) ∙ sym (append_assoc (records_in x) (flat xs) (flat ys))

flat_closing : (sae : ℕ) (names : List Name) → flat (closing sae names) ≡ to_one sae names
flat_closing sae [] = refl
flat_closing sae (n ∷ names) = append-nil (to_one sae (n ∷ names))

to_one_more : (sae : ℕ) (names : List Name) (n : Name) → to_one sae (names ++ n ∷ []) ≡ to_one sae names ++ Handed n sae ∷ []
to_one_more sae [] n = refl
to_one_more sae (m ∷ names) n = ap (λ (l : List Record). Handed m sae ∷ l) (to_one_more sae names n)

flat_grouped : (sae : ℕ) (names : List Name) (rs : List Record) → flat (grouped sae names rs) ≡ to_one sae names ++ rs
flat_grouped sae names [] = ap flat (grouped_end sae names) ∙ flat_closing sae names ∙ sym (append-nil (to_one sae names))
flat_grouped sae names (r ∷ rs) = elim (cases_handing r) [
  | inl h ↦ subst (λ q. flat (grouped sae names (q ∷ rs)) ≡ to_one sae names ++ q ∷ rs) (sym h.is) (elim (cases_Bool (goes_on sae (length names) h.to)) [
    | inl on ↦
        let same : h.to ≡ sae = (on_true sae (length names) h.to on).same in
        ap flat (grouped_more sae names h.name h.to rs on) ∙ flat_grouped sae (names ++ h.name ∷ []) rs
        ∙ ap (λ (l : List Record). l ++ rs) (to_one_more sae names h.name) ∙ append_assoc (to_one sae names) (Handed h.name sae ∷ []) rs
        ∙ ap (λ (t : ℕ). to_one sae names ++ Handed h.name t ∷ rs) (sym same)
    | inr off ↦
        ap flat (grouped_new sae names h.name h.to rs off) ∙ flat-append (closing sae names) (grouped h.to (h.name ∷ []) rs)
        ∙ ap (λ (l : List Record). l ++ flat (grouped h.to (h.name ∷ []) rs)) (flat_closing sae names)
        ∙ ap (λ (l : List Record). to_one sae names ++ l) (flat_grouped h.to (h.name ∷ []) rs)
  ])
  | inr plain ↦
      ap flat (grouped_other sae names r rs plain) ∙ flat-append (closing sae names) (One r ∷ grouped 0 [] rs)
      ∙ ap (λ (l : List Record). l ++ (r ∷ flat (grouped 0 [] rs))) (flat_closing sae names)
      ∙ ap (λ (l : List Record). to_one sae names ++ r ∷ l) (flat_grouped 0 [] rs)
]

pub grouped_back : (rs : List Record) → flat (grouped 0 [] rs) ≡ rs
grouped_back rs = flat_grouped 0 [] rs

-- ---- the runs are well formed

record Fitting (rs : List Record) : Type 0 where
  none : AreItems Second None (grouped 0 [] rs)
  run : (sae : ℕ) (n : Name) (names : List Name) (shut : Option ℕ) → IsSae sae → All IsName (n ∷ names) → length (n ∷ names) ≤ 128 → is_shut shut sae ≡ false → AreItems Second shut (grouped sae (n ∷ names) rs)

fitting : (rs : List Record) → All IsRecord rs → Fitting rs
fitting [] each = record {
  none = subst (λ is. AreItems Second None is) (sym (grouped_end 0 [])) tt;
  run = λ sae n names shut a ns few free. subst (λ is. AreItems Second shut is) (sym (grouped_end sae (n ∷ names))) ((refl, a, ns, omega arith, few, free), tt);
}
fitting (r ∷ rs) each = elim (cases_handing r) [
  | inl h ↦
      let later = fitting rs (All-tail IsRecord r rs each) in
      let it : IsRecord (Handed h.name h.to) = subst IsRecord h.is (All-head IsRecord r rs each) in
      let alone : All IsName (h.name ∷ []) = All-cons IsName h.name [] it.0 (All-nil IsName) in
      subst (λ q. Fitting (q ∷ rs)) (sym h.is) (record {
        none = subst (λ is. AreItems Second None is) (sym (grouped_new 0 [] h.name h.to rs refl)) (later.run h.to h.name [] None it.1 alone (omega arith) refl);
        run = λ sae n names shut a ns few free. elim (cases_Bool (goes_on sae (length (n ∷ names)) h.to)) [
          | inl on ↦
              subst (λ is. AreItems Second shut is) (sym (grouped_more sae (n ∷ names) h.name h.to rs on))
              (later.run sae n (names ++ h.name ∷ []) shut a (All-push IsName (n ∷ names) h.name ns it.0)
              (omega (arith, (on_true sae (length (n ∷ names)) h.to on).few, length-append names (h.name ∷ []))) free)
          | inr off ↦
              subst (λ is. AreItems Second shut is) (sym (grouped_new sae (n ∷ names) h.name h.to rs off))
              ((refl, a, ns, omega arith, few, free), later.run h.to h.name [] (shut_after sae (length (n ∷ names))) it.1 alone (omega arith) (shut_fits sae h.to (length (n ∷ names)) (omega arith) off))
        ];
      })
  | inr plain ↦
      let later = fitting rs (All-tail IsRecord r rs each) in
      let it : IsItem Second None (One r) = (All-head IsRecord r rs each, other_kind r plain) in
      record {
        none = subst (λ is. AreItems Second None is) (sym (grouped_other 0 [] r rs plain)) (it, later.none);
        run = λ sae n names shut a ns few free. subst (λ is. AreItems Second shut is) (sym (grouped_other sae (n ∷ names) r rs plain)) ((refl, a, ns, omega arith, few, free), (it, later.none));
      }
]

pub grouped_fits : (rs : List Record) → All IsRecord rs → AreItems Second None (grouped 0 [] rs)
grouped_fits rs each = (fitting rs each).none

-- ---- runs that were read are the runs of their records

absorbed : (sae : ℕ) (n : Name) (names more : List Name) (rs : List Record) → length (n ∷ names) + length more ≤ 128 → grouped sae (n ∷ names) (to_one sae more ++ rs) ≡ grouped sae ((n ∷ names) ++ more) rs
absorbed sae n names [] rs few = ap (λ (l : List Name). grouped sae l rs) (sym (append-nil (n ∷ names)))
absorbed sae n names (m ∷ more) rs few =
    let on : goes_on sae (length (n ∷ names)) sae ≡ true = on_again sae (length (n ∷ names)) (omega arith) (omega (arith, few)) in
    grouped_more sae (n ∷ names) m sae (to_one sae more ++ rs) on
    ∙ absorbed sae n (names ++ m ∷ []) more rs (omega (arith, few, length-append names (m ∷ [])))
    ∙ ap (λ (l : List Name). grouped sae (n ∷ l) rs) (append_assoc names (m ∷ []) more)

shut_run : (sae : ℕ) (n : Name) (names : List Name) (is : List Item) → AreItems Second (shut_after sae (length (n ∷ names))) is → grouped sae (n ∷ names) (flat is) ≡ Run sae (n ∷ names) ∷ grouped 0 [] (flat is)
shut_run sae n names [] fits = grouped_end sae (n ∷ names) ∙ ap (λ (l : List Item). Run sae (n ∷ names) ∷ l) (sym (grouped_end 0 []))
shut_run sae n names (One r ∷ is) fits =
    let plain = kind_other r fits.0.1 in
    grouped_other sae (n ∷ names) r (flat is) plain ∙ ap (λ (l : List Item). Run sae (n ∷ names) ∷ l) (sym (grouped_other 0 [] r (flat is) plain))
shut_run sae n names (Run to [] ∷ is) fits = absurd (omega (arith, fits.0.3))
shut_run sae n names (Run to (m ∷ more) ∷ is) fits =
    grouped_new sae (n ∷ names) m to (to_one to more ++ flat is) (fits_shut sae to (length (n ∷ names)) fits.0.5)
    ∙ ap (λ (l : List Item). Run sae (n ∷ names) ∷ l) (sym (grouped_new 0 [] m to (to_one to more ++ flat is) refl))

pub regrouped : (shut : Option ℕ) (is : List Item) → AreItems Second shut is → grouped 0 [] (flat is) ≡ is
regrouped shut [] fits = grouped_end 0 []
regrouped shut (One r ∷ is) fits = grouped_other 0 [] r (flat is) (kind_other r fits.0.1) ∙ ap (λ (l : List Item). One r ∷ l) (regrouped None is fits.1)
regrouped shut (Run to [] ∷ is) fits = absurd (omega (arith, fits.0.3))
regrouped shut (Run to (m ∷ more) ∷ is) fits =
    grouped_new 0 [] m to (to_one to more ++ flat is) refl
    ∙ absorbed to m [] more (flat is) (omega (arith, fits.0.4))
    ∙ shut_run to m more is fits.1
    ∙ ap (λ (l : List Item). Run to (m ∷ more) ∷ l) (regrouped (shut_after to (length (m ∷ more))) is fits.1)

-- ---- how many spelled records, and how many octets

open_run : List Name → ℕ
open_run [] = 0
open_run (n ∷ names) = 1

closing_count : (sae : ℕ) (names : List Name) → length (closing sae names) ≡ open_run names
unfolding open_run
closing_count sae [] = refl
closing_count sae (n ∷ names) = refl

open_some : (names : List Name) → 0 < length names → open_run names ≡ 1
unfolding open_run
open_some [] some = absurd (omega (arith, some))
open_some (n ∷ names) some = refl

pub begun_more : (sae k : ℕ) (n : Name) (to : ℕ) (rs : List Record) → goes_on sae k to ≡ true → begun sae k (Handed n to ∷ rs) ≡ begun sae (k + 1) rs
unfolding begun
begun_more sae k n to rs e = ap (λ b. cond b (begun sae (k + 1) rs) (1 + begun to 1 rs)) e

pub begun_new : (sae k : ℕ) (n : Name) (to : ℕ) (rs : List Record) → goes_on sae k to ≡ false → begun sae k (Handed n to ∷ rs) ≡ 1 + begun to 1 rs
unfolding begun
begun_new sae k n to rs e = ap (λ b. cond b (begun sae (k + 1) rs) (1 + begun to 1 rs)) e

pub begun_end : (sae k : ℕ) → begun sae k [] ≡ 0
unfolding begun
begun_end sae k = refl

open_one : (n : Name) → open_run (n ∷ []) ≡ 1
unfolding open_run
open_one n = refl

open_none : open_run [] ≡ 0
unfolding open_run
open_none = refl

counted : (sae : ℕ) (names : List Name) (rs : List Record) → length (grouped sae names rs) ≡ open_run names + begun sae (length names) rs
counted sae names [] = omega (arith, ap length (grouped_end sae names), closing_count sae names, begun_end sae (length names))
counted sae names (r ∷ rs) = elim (cases_handing r) [
  | inl h ↦ subst (λ q. length (grouped sae names (q ∷ rs)) ≡ open_run names + begun sae (length names) (q ∷ rs)) (sym h.is) (elim (cases_Bool (goes_on sae (length names) h.to)) [
    | inl on ↦
        let long : length (names ++ h.name ∷ []) ≡ length names + 1 = length-append names (h.name ∷ []) in
        let one = open_some names (on_true sae (length names) h.to on).some in
        let other = open_some (names ++ h.name ∷ []) (omega (arith, long)) in
        ap length (grouped_more sae names h.name h.to rs on) ∙ counted sae (names ++ h.name ∷ []) rs
        ∙ ap (λ (k : ℕ). open_run (names ++ h.name ∷ []) + begun sae k rs) long
        ∙ ap (λ (k : ℕ). k + begun sae (length names + 1) rs) (other ∙ sym one)
        ∙ ap (λ (k : ℕ). open_run names + k) (sym (begun_more sae (length names) h.name h.to rs on))
    | inr off ↦
        omega (arith, ap length (grouped_new sae names h.name h.to rs off), length-append (closing sae names) (grouped h.to (h.name ∷ []) rs), closing_count sae names, counted h.to (h.name ∷ []) rs, open_one h.name, begun_new sae (length names) h.name h.to rs off)
  ])
  | inr plain ↦
      omega (arith, ap length (grouped_other sae names r rs plain), length-append (closing sae names) (One r ∷ grouped 0 [] rs), closing_count sae names, counted 0 [] rs, open_none, begun_other sae (length names) r rs plain)
]

pub grouped_count : (rs : List Record) → length (grouped 0 [] rs) ≡ begun 0 0 rs
grouped_count rs = omega (arith, counted 0 [] rs, open_none)

pub begun_some : (rs : List Record) → 1 ≤ length rs → 1 ≤ begun 0 0 rs
begun_some [] some = absurd (omega (arith, some))
begun_some (r ∷ rs) some = elim (cases_handing r) [
  | inl h ↦ subst (λ q. 1 ≤ begun 0 0 (q ∷ rs)) (sym h.is) (omega (arith, begun_new 0 0 h.name h.to rs refl))
  | inr plain ↦ omega (arith, begun_other 0 0 r rs plain)
]

pub begun_few : (sae k : ℕ) (rs : List Record) → begun sae k rs ≤ length rs
begun_few sae k [] = omega (arith, begun_end sae k)
begun_few sae k (r ∷ rs) = elim (cases_handing r) [
  | inl h ↦ subst (λ q. begun sae k (q ∷ rs) ≤ length (q ∷ rs)) (sym h.is) (elim (cases_Bool (goes_on sae k h.to)) [
    | inl on ↦ omega (arith, begun_more sae k h.name h.to rs on, begun_few sae (k + 1) rs)
    | inr off ↦ omega (arith, begun_new sae k h.name h.to rs off, begun_few h.to 1 rs)
  ])
  | inr plain ↦ omega (arith, begun_other sae k r rs plain, begun_few 0 0 rs)
]

-- the octets of spelled records

text-append : (xs ys : List Item) → texts Second (xs ++ ys) ≡ texts Second xs ++ texts Second ys
text-append [] ys = refl
text-append (x ∷ xs) ys = ap (λ (l : List ℕ). item_octets Second x ++ l) (text-append xs ys) ∙ sym (append_assoc (item_octets Second x) (texts Second xs) (texts Second ys))

names_long : (names : List Name) → length (flat_map short_name names) ≡ 7 * length names
names_long [] = refl
names_long (n ∷ names) = omega (arith, names_long names, length-append (short_name n) (flat_map short_name names))

run_long : List Name → ℕ
run_long [] = 0
run_long (n ∷ names) = 5 + 7 * length (n ∷ names)

closing_long : (sae : ℕ) (names : List Name) → length (texts Second (closing sae names)) ≡ run_long names
unfolding run_long
closing_long sae [] = refl
closing_long sae (n ∷ names) = omega (arith, names_long (n ∷ names), ap length (append-nil (item_octets Second (Run sae (n ∷ names)))))

run_some : (names : List Name) → 0 < length names → run_long names ≡ 5 + 7 * length names
unfolding run_long
run_some [] some = absurd (omega (arith, some))
run_some (n ∷ names) some = refl

run_none : run_long [] ≡ 0
unfolding run_long
run_none = refl

pub spelled_more : (sae k : ℕ) (n : Name) (to : ℕ) (rs : List Record) → goes_on sae k to ≡ true → spelled_after sae k (Handed n to ∷ rs) ≡ 7 + spelled_after sae (k + 1) rs
unfolding spelled_after
spelled_more sae k n to rs e = ap (λ b. cond b (7 + spelled_after sae (k + 1) rs) (12 + spelled_after to 1 rs)) e

pub spelled_new : (sae k : ℕ) (n : Name) (to : ℕ) (rs : List Record) → goes_on sae k to ≡ false → spelled_after sae k (Handed n to ∷ rs) ≡ 12 + spelled_after to 1 rs
unfolding spelled_after
spelled_new sae k n to rs e = ap (λ b. cond b (7 + spelled_after sae (k + 1) rs) (12 + spelled_after to 1 rs)) e

pub spelled_end : (sae k : ℕ) → spelled_after sae k [] ≡ 0
unfolding spelled_after
spelled_end sae k = refl

measured : (sae : ℕ) (names : List Name) (rs : List Record) → length (texts Second (grouped sae names rs)) ≡ run_long names + spelled_after sae (length names) rs
measured sae names [] = omega (arith, ap (λ is. length (texts Second is)) (grouped_end sae names), closing_long sae names, spelled_end sae (length names))
measured sae names (r ∷ rs) = elim (cases_handing r) [
  | inl h ↦ subst (λ q. length (texts Second (grouped sae names (q ∷ rs))) ≡ run_long names + spelled_after sae (length names) (q ∷ rs)) (sym h.is) (elim (cases_Bool (goes_on sae (length names) h.to)) [
    | inl on ↦
        let long : length (names ++ h.name ∷ []) ≡ length names + 1 = length-append names (h.name ∷ []) in
        let one = run_some names (on_true sae (length names) h.to on).some in
        let other = run_some (names ++ h.name ∷ []) (omega (arith, long)) in
        let later = measured sae (names ++ h.name ∷ []) rs ∙ ap (λ (k : ℕ). run_long (names ++ h.name ∷ []) + spelled_after sae k rs) long in
        ap (λ is. length (texts Second is)) (grouped_more sae names h.name h.to rs on) ∙ later
        ∙ omega (arith, one, other, long, spelled_more sae (length names) h.name h.to rs on)
    | inr off ↦
        omega (
          arith,
          ap (λ is. length (texts Second is)) (grouped_new sae names h.name h.to rs off),
          ap length (text-append (closing sae names) (grouped h.to (h.name ∷ []) rs)),
          length-append (texts Second (closing sae names)) (texts Second (grouped h.to (h.name ∷ []) rs)),
          closing_long sae names,
          measured h.to (h.name ∷ []) rs,
          run_some (h.name ∷ []) (omega arith),
          spelled_new sae (length names) h.name h.to rs off,
        )
  ])
  | inr plain ↦
      omega (
        arith,
        ap (λ is. length (texts Second is)) (grouped_other sae names r rs plain),
        ap length (text-append (closing sae names) (One r ∷ grouped 0 [] rs)),
        length-append (texts Second (closing sae names)) (texts Second (One r ∷ grouped 0 [] rs)),
        length-append (item_octets Second (One r)) (texts Second (grouped 0 [] rs)),
        record_length Second r,
        closing_long sae names,
        measured 0 [] rs,
        run_none,
        spelled_other sae (length names) r rs plain,
      )
]

pub grouped_long : (rs : List Record) → length (texts Second (grouped 0 [] rs)) ≡ spelled_after 0 0 rs
grouped_long rs = omega (arith, measured 0 [] rs, run_none)
