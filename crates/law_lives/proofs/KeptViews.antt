-- What the views are that journals give back.
use Rattle.std.proofs.Common.{◌≡◌, ℕ, zero, suc, ◌<◌, Bool, true, false, not, ◌||◌, List, [], ◌∷◌, ◌++◌, length, map, arith, append_assoc, refl, sym, ◌∙◌, ap, subst, Option, Some, None}
use Rattle.std.specs.Prelude.{is_some, slice_get, if◌then◌else◌, ◌==◌, ◌&&◌}
use Rattle.std.specs.List.{AllByRecursion}
use Rattle.qkd_base.specs.Name.{Name, name_eq, has}
use Rattle.net_model.specs.declared.fact.Fact.{Fact}
use Rattle.net_model.specs.declared.record.Record.{Record}
use Rattle.net_model.specs.Table.{name_of, fact_at, has_fact, was_handed}
use Rattle.net_model.specs.Site.{Site}
use Rattle.net_model.specs.View.{View}
use Rattle.net_model.specs.Needed.{is_needed, masked, masked_fact}
use Rattle.net_model.specs.Fold.{view_batch, view_batches, view_restarted, empty_view, recovered_view, view_records}
use Rattle.net_model.specs.Knowledge.{AllDiffer}
use Rattle.net_model.specs.Handings.{PairsDiffer}
use Rattle.law_base.proofs.Base.{name_eq_from, name_eq_same, eq_same, eq_from, and_left, and_right, or_left, not_both, was_not}
use Rattle.law_base.proofs.Tables.{at_back}
use Rattle.law_base.proofs.Blind.{masked_twice}
use Rattle.law_recovery.proofs.Accumulating.{Accumulates}
use Rattle.law_recovery.proofs.Kept.{IsPort, new_fact, may_hand, recovered_kept}
use Rattle.law_lives.specs.Belongs.{view_or, view_in, names_of, AreRead}

-- ---- lists that were built item by item

-- Each fact is the one of its name.
abbrev pub AreFound : List Fact → List Fact → Type 0
AreFound fs gs = AllByRecursion (λ (f : Fact). fact_at fs (name_of f) ≡ Some f) gs

found_here : (f : Fact) (fs : List Fact) → fact_at (f ∷ fs) (name_of f) ≡ Some f
found_here f fs = ap (λ (t : Bool). if t then Some f else fact_at fs (name_of f)) (name_eq_same (name_of f))

none_of : {A : Type 0} (o : Option A) → is_some o ≡ false → o ≡ None
none_of None h = refl
none_of (Some a) h = cc

all_found : (done fs : List Fact) → Accumulates new_fact done fs → AreFound (done ++ fs) fs
all_found done [] h = tt
all_found done (f ∷ fs) h = (
  at_back done (f ∷ fs) (name_of f) (none_of (fact_at done (name_of f)) (was_not (has_fact done (name_of f)) h.0)) ∙ found_here f fs,
  subst (λ (gs : List Fact). AreFound gs fs) (append_assoc done (f ∷ []) fs) (all_found (done ++ f ∷ []) fs h.1),
)

has_more : (done : List Fact) (f : Fact) (n : Name) → has_fact done n ≡ true → has_fact (done ++ f ∷ []) n ≡ true
has_more [] f n h = cc
has_more (x ∷ done) f n h =
    elim (name_eq (name_of x) n) as (λ t. is_some (if t then Some x else fact_at done n) ≡ true → is_some (if t then Some x else fact_at (done ++ f ∷ []) n) ≡ true) [
      | true ↦ λ e. refl
      | false ↦ λ e. has_more done f n e
    ] h

has_pushed : (done : List Fact) (f : Fact) → has_fact (done ++ f ∷ []) (name_of f) ≡ true
has_pushed [] f = ap is_some (found_here f [])
has_pushed (x ∷ done) f =
    elim (name_eq (name_of x) (name_of f)) as (λ t. is_some (if t then Some x else fact_at (done ++ f ∷ []) (name_of f)) ≡ true) [
      | true ↦ refl
      | false ↦ has_pushed done f
    ]

none_later : (done fs : List Fact) (n : Name) → has_fact done n ≡ true → Accumulates new_fact done fs → has (names_of fs) n ≡ false
none_later done [] n h k = refl
none_later done (f ∷ fs) n h k =
    elim (name_eq (name_of f) n) as (λ t. name_eq (name_of f) n ≡ t → (t || has (names_of fs) n) ≡ false) [
      | true ↦ λ e. let is : name_of f ≡ n = name_eq_from (name_of f) n e in absurd (not_both (has_fact done n) h (ap (has_fact done) (sym is) ∙ was_not (has_fact done (name_of f)) k.0))
      | false ↦ λ e. none_later (done ++ f ∷ []) fs n (has_more done f n h) k.1
    ] refl

names_differ : (done fs : List Fact) → Accumulates new_fact done fs → AllDiffer (names_of fs)
names_differ done [] h = tt
names_differ done (f ∷ fs) h = (none_later (done ++ f ∷ []) fs (name_of f) (has_pushed done f) h.1, names_differ (done ++ f ∷ []) fs h.1)

handed_more : (done : List (Name × ℕ)) (h : Name × ℕ) (n : Name) (sae : ℕ) → was_handed done n sae ≡ true → was_handed (done ++ h ∷ []) n sae ≡ true
handed_more [] h n sae k = cc
handed_more (x ∷ done) h n sae k =
    elim (name_eq x.0 n && (x.1 == sae)) as (λ t. (t || was_handed done n sae) ≡ true → (t || was_handed (done ++ h ∷ []) n sae) ≡ true) [
      | true ↦ λ e. refl
      | false ↦ λ e. handed_more done h n sae e
    ] k

pub same_pair : (h : Name × ℕ) → (name_eq h.0 h.0 && (h.1 == h.1)) ≡ true
same_pair h = let name = name_eq_same h.0 in let sae = eq_same h.1 in λ i. name i && sae i

handed_pushed : (done : List (Name × ℕ)) (h : Name × ℕ) → was_handed (done ++ h ∷ []) h.0 h.1 ≡ true
handed_pushed [] h = or_left (name_eq h.0 h.0 && (h.1 == h.1)) false (same_pair h)
handed_pushed (x ∷ done) h =
    elim (name_eq x.0 h.0 && (x.1 == h.1)) as (λ t. (t || was_handed (done ++ h ∷ []) h.0 h.1) ≡ true) [ true ↦ refl | false ↦ handed_pushed done h ]

module _ (me : ℕ) (facts : List Fact) where
  abbrev may : List (Name × ℕ) → Name × ℕ → Bool
  may = may_hand me facts

  none_again : (done hs : List (Name × ℕ)) (n : Name) (sae : ℕ) → was_handed done n sae ≡ true → Accumulates may done hs → was_handed hs n sae ≡ false
  none_again done [] n sae h k = refl
  none_again done (x ∷ hs) n sae h k =
      elim (name_eq x.0 n && (x.1 == sae)) as (λ t. (name_eq x.0 n && (x.1 == sae)) ≡ t → (t || was_handed hs n sae) ≡ false) [
        | true ↦ λ e.
            let name : x.0 ≡ n = name_eq_from x.0 n (and_left (name_eq x.0 n) (x.1 == sae) e) in
            let to : x.1 ≡ sae = eq_from x.1 sae (and_right (name_eq x.0 n) (x.1 == sae) e) in
            let fresh : was_handed done x.0 x.1 ≡ false = was_not (was_handed done x.0 x.1) (and_right _ (not (was_handed done x.0 x.1)) k.0) in
            let same : was_handed done x.0 x.1 ≡ was_handed done n sae = λ i. was_handed done (name i) (to i) in
            absurd (not_both (was_handed done n sae) h (sym same ∙ fresh))
        | false ↦ λ e. none_again (done ++ x ∷ []) hs n sae (handed_more done x n sae h) k.1
      ] refl

  pairs_differ : (done hs : List (Name × ℕ)) → Accumulates may done hs → PairsDiffer hs
  pairs_differ done [] h = tt
  pairs_differ done (x ∷ hs) h = (none_again (done ++ x ∷ []) hs x.0 x.1 (handed_pushed done x) h.1, pairs_differ (done ++ x ∷ []) hs h.1)

-- ---- views

-- What every view is that a journal gives back. The node's names and handings differ, and bytes that aren't needed are
-- zeros. A lease is between the hash key and what was received.
pub record IsRead (view : View) : Type 0 where
  pub found : AreFound view.facts view.facts
  pub names : AllDiffer (names_of view.facts)
  pub masked : masked view ≡ view
  pub handed : PairsDiffer view.handed
  pub ports : AllByRecursion IsPort view.ports

batch_masked : (v : View) (batch : List Record) → masked (view_batch v batch) ≡ view_batch v batch
batch_masked v batch = masked_twice (view_records batch v)

batches_masked : (batches : List (List Record)) (v : View) → masked v ≡ v → masked (view_batches v batches) ≡ view_batches v batches
batches_masked [] v h = h
batches_masked (b ∷ batches) v h = batches_masked batches (view_batch v b) (batch_masked v b)

restarted_masked : (v : View) → masked v ≡ v → masked (view_restarted v) ≡ view_restarted v
unfolding view_restarted masked is_needed
restarted_masked v h =
    let facts : map (masked_fact v) v.facts ≡ v.facts = ap (λ (x : View). x.facts) h in
    λ i. record (view_restarted v) { facts = facts i }

recovered_masked : (s : Site) (v : ℕ) (batches : List (List Record)) → masked (recovered_view s v batches) ≡ recovered_view s v batches
unfolding recovered_view masked
recovered_masked s v batches = restarted_masked (view_batches (empty_view s v) batches) (batches_masked batches (empty_view s v) refl)

recovered_read : (s : Site) (v : ℕ) (batches : List (List Record)) → IsRead (recovered_view s v batches)
recovered_read s v batches =
    let view : View = recovered_view s v batches in
    let k = recovered_kept s v batches in
    record {
      found = all_found [] view.facts k.lists.names;
      names = names_differ [] view.facts k.lists.names;
      masked = recovered_masked s v batches;
      handed = pairs_differ view.me view.facts [] view.handed k.lists.hands;
      ports = k.ports;
    }

nothing_read : IsRead (view_or None)
unfolding masked
nothing_read = record { found = tt; names = tt; masked = refl; handed = tt; ports = tt }

found_view : (views : List View) (v : ℕ) → v < length views → (view : View) × (slice_get views v ≡ Some view)
found_view [] v h = absurd (omega arith)
found_view (view ∷ views) zero h = (view, refl)
found_view (view ∷ views) (suc v) h = found_view views v (omega arith)

module _ (s : Site) (batches : ℕ → List (List Record)) (views : List View) (read : AreRead s batches views) where
  pub is_read : (v : ℕ) → IsRead (view_in views v)
  is_read v = elim (slice_get views v) as (λ o. slice_get views v ≡ o → IsRead (view_or o)) [
    | None ↦ λ e. nothing_read
    | Some view ↦ λ e. subst IsRead (sym (read.each v view e)) (recovered_read s v (batches v))
  ] refl

  pub view_read : (v : ℕ) → v < s.nodes → view_in views v ≡ recovered_view s v (batches v)
  view_read v less =
      let count = read.all in
      let found = found_view views v (omega (arith, less, count)) in
      ap view_or found.1 ∙ read.each v found.0 found.1
