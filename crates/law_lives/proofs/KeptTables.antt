-- The merged table: its fact of a name is that of each node that has one, but for bytes.
use Rattle.std.proofs.Common.{◌≡◌, ℕ, zero, suc, Bool, true, false, cond, not, ◌||◌, List, [], ◌∷◌, refl, sym, ◌∙◌, ap, Option, Some, None}
use Rattle.std.specs.Prelude.{is_some, if◌then◌else◌, find, filter}
use Rattle.std.specs.List.{AllByRecursion}
use Rattle.qkd_base.specs.Name.{Name, name_eq, has}
use Rattle.net_model.specs.declared.fact.Fact.{Fact}
use Rattle.net_model.specs.Table.{name_of, fact_at}
use Rattle.net_model.specs.View.{View}
use Rattle.law_base.proofs.Base.{name_eq_from, name_eq_same, not_both, not_false, was_not}
use Rattle.law_base.proofs.Lists.{found_at, all_at, all_kept}
use Rattle.law_base.proofs.Tables.{at_prefix, at_back}
use Rattle.law_lives.specs.Belongs.{view_in, names_of, known_in, facts_in, firsts, table_in}

-- Lemmas on the first fact of each name.

find_kept : (p q : Fact → Bool) → ((x : Fact) → p x ≡ true → q x ≡ true) → (xs : List Fact) → find p (filter q xs) ≡ find p xs
find_kept p q h [] = refl
find_kept p q h (x ∷ xs) =
    elim (q x) as (λ t. q x ≡ t → find p (cond t (x ∷ filter q xs) (filter q xs)) ≡ cond (p x) (Some x) (find p xs)) [
      | true ↦ λ e. ap (λ (o : Option Fact). cond (p x) (Some x) o) (find_kept p q h xs)
      | false ↦ λ e. elim (p x) as (λ t. p x ≡ t → find p (filter q xs) ≡ cond t (Some x) (find p xs)) [
        | true ↦ λ k. absurd (not_both (q x) (h x k) e)
        | false ↦ λ k. find_kept p q h xs
      ] refl
    ] refl

pub firsts_at : (fs : List Fact) (n : Name) → fact_at (firsts fs) n ≡ fact_at fs n
firsts_at [] n = refl
firsts_at (f ∷ fs) n =
    elim (name_eq (name_of f) n) as (λ t. name_eq (name_of f) n ≡ t →
    (if t then Some f else fact_at (filter (λ g. not (name_eq (name_of g) (name_of f))) (firsts fs)) n) ≡ (if t then Some f else fact_at fs n)) [
      | true ↦ λ e. refl
      | false ↦ λ e. find_kept (λ g. name_eq (name_of g) n) (λ g. not (name_eq (name_of g) (name_of f)))
          (λ x k. other x (name_eq_from (name_of x) n k) e) (firsts fs) ∙ firsts_at fs n
    ] refl
  where
    other : (x : Fact) → name_of x ≡ n → name_eq (name_of f) n ≡ false → not (name_eq (name_of x) (name_of f)) ≡ true
    other x is e =
        elim (name_eq (name_of x) (name_of f)) as (λ t. name_eq (name_of x) (name_of f) ≡ t → not t ≡ true) [
          | true ↦ λ k. let same : name_of f ≡ n = sym (name_eq_from (name_of x) (name_of f) k) ∙ is in
              absurd (not_both (name_eq (name_of f) n) (ap (name_eq (name_of f)) (sym same) ∙ name_eq_same (name_of f)) e)
          | false ↦ λ k. refl
        ] refl

-- Each fact of the table is some node's.
pub record IsKnownBy (views : List View) (n : Name) (f : Fact) : Type 0 where
  pub node : ℕ
  pub there : fact_at (view_in views node).facts n ≡ Some f

known_by : (views : List View) (n : Name) (f : Fact) → fact_at (facts_in views) n ≡ Some f → IsKnownBy views n f
known_by [] n f h = cc
known_by (view ∷ views) n f h =
    elim (fact_at view.facts n) as (λ o. fact_at view.facts n ≡ o → IsKnownBy (view ∷ views) n f) [
      | None ↦ λ e. let r = known_by views n f (sym (at_back view.facts (facts_in views) n e) ∙ h) in record { node = suc r.node; there = r.there }
      | Some g ↦ λ e. let same : Some g ≡ Some f = sym (at_prefix view.facts (facts_in views) n g e) ∙ h in record { node = zero; there = e ∙ same }
    ] refl

pub table_known : (views : List View) (n : Name) (f : Fact) → fact_at (table_in views) n ≡ Some f → IsKnownBy views n f
table_known views n f h = known_by views n f (sym (firsts_at (facts_in views) n) ∙ h)

-- A node's names are those of its facts.
pub has_found : (fs : List Fact) (n : Name) → has (names_of fs) n ≡ is_some (fact_at fs n)
has_found [] n = refl
has_found (f ∷ fs) n = elim (name_eq (name_of f) n) as (λ t. (t || has (names_of fs) n) ≡ is_some (if t then Some f else fact_at fs n)) [
  | true ↦ refl
  | false ↦ has_found fs n
]

pub some_of : {A : Type 0} (o : Option A) → is_some o ≡ true → (a : A) × (o ≡ Some a)
some_of None h = cc
some_of (Some a) h = (a, refl)

-- Whoever knows a name has its fact.
pub known_fact : (views : List View) (v : ℕ) (n : Name) → has (known_in views v) n ≡ true → (f : Fact) × (fact_at (view_in views v).facts n ≡ Some f)
known_fact views v n h = some_of (fact_at (view_in views v).facts n) (sym (has_found (view_in views v).facts n) ∙ h)

-- Each fact of the merged table is the one of its name.
kept_pass : (q : Fact → Bool) (xs : List Fact) → AllByRecursion (λ (x : Fact). q x ≡ true) (filter q xs)
kept_pass q [] = tt
kept_pass q (x ∷ xs) = elim (q x) as (λ t. q x ≡ t → AllByRecursion (λ (y : Fact). q y ≡ true) (cond t (x ∷ filter q xs) (filter q xs))) [
  | true ↦ λ e. (e, kept_pass q xs)
  | false ↦ λ e. kept_pass q xs
] refl

pub all_two : {A : Type 0} (P Q R : A → Type 0) → ((x : A) → P x → Q x → R x) → (xs : List A) → AllByRecursion P xs → AllByRecursion Q xs → AllByRecursion R xs
all_two P Q R both [] h k = tt
all_two P Q R both (x ∷ xs) h k = (both x h.0 k.0, all_two P Q R both xs h.1 k.1)

pub firsts_found : (fs : List Fact) → AllByRecursion (λ (x : Fact). fact_at (firsts fs) (name_of x) ≡ Some x) (firsts fs)
firsts_found [] = tt
firsts_found (f ∷ fs) =
    let q : Fact → Bool = λ g. not (name_eq (name_of g) (name_of f)) in (
      ap (λ (t : Bool). if t then Some f else fact_at (filter (λ g. not (name_eq (name_of g) (name_of f))) (firsts fs)) (name_of f)) (name_eq_same (name_of f)),
      all_two (λ (x : Fact). fact_at (firsts fs) (name_of x) ≡ Some x) (λ (x : Fact). not (name_eq (name_of x) (name_of f)) ≡ true)
          (λ (x : Fact). fact_at (firsts (f ∷ fs)) (name_of x) ≡ Some x) later (filter (λ g. not (name_eq (name_of g) (name_of f))) (firsts fs))
          (all_kept (λ (x : Fact). fact_at (firsts fs) (name_of x) ≡ Some x) (λ g. not (name_eq (name_of g) (name_of f))) (firsts fs) (firsts_found fs))
          (kept_pass (λ g. not (name_eq (name_of g) (name_of f))) (firsts fs)),
    )
  where
    swapped : (a c : Name) → name_eq a c ≡ false → name_eq c a ≡ false
    swapped a c h = not_false (name_eq c a) (λ e. let is : c ≡ a = name_eq_from c a e in not_both (name_eq a c) (ap (name_eq a) is ∙ name_eq_same a) h)

    later : (x : Fact) → fact_at (firsts fs) (name_of x) ≡ Some x → not (name_eq (name_of x) (name_of f)) ≡ true → fact_at (firsts (f ∷ fs)) (name_of x) ≡ Some x
    later x found apart =
        ap (λ (t : Bool). if t then Some f else fact_at (filter (λ g. not (name_eq (name_of g) (name_of f))) (firsts fs)) (name_of x))
        (swapped (name_of x) (name_of f) (was_not (name_eq (name_of x) (name_of f)) apart)) ∙
        find_kept (λ g. name_eq (name_of g) (name_of x)) (λ g. not (name_eq (name_of g) (name_of f)))
        (λ y k. ap (λ (m : Name). not (name_eq m (name_of f))) (name_eq_from (name_of y) (name_of x) k) ∙ apart) (firsts fs) ∙ found

-- What is found in the merged table is the fact of its name.
pub table_found : (views : List View) (p : Fact → Bool) (x : Fact) → find p (table_in views) ≡ Some x → fact_at (table_in views) (name_of x) ≡ Some x
table_found views p x h =
    let at = found_at p (table_in views) x h in
    all_at (λ (y : Fact). fact_at (table_in views) (name_of y) ≡ Some y) (table_in views) at.0 x (firsts_found (facts_in views)) at.1

-- The merged table has a fact of each name that some node has.
pub in_table : (views : List View) (v : ℕ) (n : Name) (f : Fact) → fact_at (view_in views v).facts n ≡ Some f → (g : Fact) × (fact_at (table_in views) n ≡ Some g)
in_table views v n f h = let r = in_facts views v f h in (r.0, firsts_at (facts_in views) n ∙ r.1)
  where
    here : (view : View) (vs : List View) (o : Option Fact) → fact_at view.facts n ≡ o → (g : Fact) × (fact_at (facts_in vs) n ≡ Some g) → (g : Fact) × (fact_at (facts_in (view ∷ vs)) n ≡ Some g)
    here view vs None e later = (later.0, at_back view.facts (facts_in vs) n e ∙ later.1)
    here view vs (Some g) e later = (g, at_prefix view.facts (facts_in vs) n g e)

    in_facts : (vs : List View) (u : ℕ) (g : Fact) → fact_at (view_in vs u).facts n ≡ Some g → (x : Fact) × (fact_at (facts_in vs) n ≡ Some x)
    in_facts [] u g k = cc
    in_facts (view ∷ vs) zero g k = (g, at_prefix view.facts (facts_in vs) n g k)
    in_facts (view ∷ vs) (suc u) g k = here view vs (fact_at view.facts n) refl (in_facts vs u g k)
