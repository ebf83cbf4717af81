-- Lemmas on tables of facts and lists of names that get one more at their end.
use Rattle.std.proofs.Common.{◌≡◌, Bool, true, false, ◌||◌, List, [], ◌∷◌, ◌++◌, refl, sym, ◌∙◌, ap, Option, Some, None, ◌⊎◌, inl, inr}
use Rattle.std.specs.Prelude.{is_some, if◌then◌else◌}
use Rattle.std.proofs.lemmas.List.Folds.{find-append}
use Rattle.std.proofs.lemmas.List.Elements.{filter_map-append}
use Rattle.qkd_base.specs.Name.{Name, IsName, name_eq, has}
use Rattle.net_model.specs.declared.fact.Fact.{Fact}
use Rattle.net_model.specs.declared.fact.Fact.TheVariants.{Key, Chunk, Stored, Open, Joined, Part}
use Rattle.net_model.specs.Ranges.{IsRangedFact}
use Rattle.net_model.specs.Table.{name_of, fact_at, has_fact, learned, facts_of}
use Rattle.law_base.proofs.Base.{name_eq_from, name_eq_same, or_right}

-- The fact that is found for a name has this name.
pub found_name : (facts : List Fact) (n : Name) (f : Fact) → fact_at facts n ≡ Some f → name_of f ≡ n
found_name [] n f h = cc
found_name (x ∷ xs) n f h =
    elim (name_eq (name_of x) n) as (λ t. name_eq (name_of x) n ≡ t → (if t then Some x else fact_at xs n) ≡ Some f → name_of f ≡ n) [
      | true ↦ λ e h2. let same : x ≡ f = cc in ap name_of (sym same) ∙ name_eq_from (name_of x) n e
      | false ↦ λ e h2. found_name xs n f h2
    ] refl h

-- A fact that is found is still found when more facts follow.
pub at_prefix : (facts more : List Fact) (n : Name) (f : Fact) → fact_at facts n ≡ Some f → fact_at (facts ++ more) n ≡ Some f
at_prefix facts more n f h = rw (find-append, h) refl

pub at_back : (facts more : List Fact) (n : Name) → fact_at facts n ≡ None → fact_at (facts ++ more) n ≡ fact_at more n
at_back facts more n h = rw (find-append, h) refl

pub has-push : (ns : List Name) (m n : Name) → has (ns ++ m ∷ []) n ≡ (has ns n || name_eq m n)
has-push [] m n = elim (name_eq m n) as (λ t. (t || false) ≡ t) [ true ↦ refl | false ↦ refl ]
has-push (x ∷ ns) m n = elim (name_eq x n) as (λ t. (t || has (ns ++ m ∷ []) n) ≡ ((t || has ns n) || name_eq m n)) [ true ↦ refl | false ↦ has-push ns m n ]

pub has_last : (ns : List Name) (n : Name) → has (ns ++ n ∷ []) n ≡ true
has_last ns n = has-push ns n n ∙ or_right (has ns n) (name_eq n n) (name_eq_same n)

-- Lemmas on a fact that is new and on one that the table has already.

pub is_some_of_some : {A : Type 0} (o : Option A) (a : A) → o ≡ Some a → is_some o ≡ true
is_some_of_some None a h = cc
is_some_of_some (Some b) a h = refl

pub is_some_of_none : {A : Type 0} (o : Option A) → o ≡ None → is_some o ≡ false
is_some_of_none None h = refl
is_some_of_none (Some b) h = cc

pub learned_there : (facts : List Fact) (f : Fact) → fact_at facts (name_of f) ≡ Some f → learned facts f ≡ facts
learned_there facts f h = rw (is_some_of_some (fact_at facts (name_of f)) f h) refl

pub learned_new : (facts : List Fact) (f : Fact) → fact_at facts (name_of f) ≡ None → learned facts f ≡ facts ++ f ∷ []
learned_new facts f h = rw (is_some_of_none (fact_at facts (name_of f)) h) refl

pub one_at : (f : Fact) (n : Name) (g : Fact) → fact_at (f ∷ []) n ≡ Some g → (n ≡ name_of f) × (g ≡ f)
one_at f n g h =
    elim (name_eq (name_of f) n) as (λ t. name_eq (name_of f) n ≡ t → (if t then Some f else None) ≡ Some g → (n ≡ name_of f) × (g ≡ f)) [
      | true ↦ λ e h2. (sym (name_eq_from (name_of f) n e), cc)
      | false ↦ λ e h2. cc
    ] refl h

pub push_cases : (facts : List Fact) (f : Fact) (n : Name) (g : Fact) → fact_at (facts ++ f ∷ []) n ≡ Some g →
    (fact_at facts n ≡ Some g) ⊎ ((n ≡ name_of f) × (g ≡ f))
push_cases facts f n g h =
    elim (fact_at facts n) as (λ o. fact_at facts n ≡ o → (o ≡ Some g) ⊎ ((n ≡ name_of f) × (g ≡ f))) [
      | Some x ↦ λ e. inl (sym (at_prefix facts (f ∷ []) n x e) ∙ h)
      | None ↦ λ e. inr (one_at f n g (sym (at_back facts (f ∷ []) n e) ∙ h))
    ] refl

pub push_there : (facts : List Fact) (f : Fact) → fact_at facts (name_of f) ≡ None → fact_at (facts ++ f ∷ []) (name_of f) ≡ Some f
push_there facts f h = at_back facts (f ∷ []) (name_of f) h ∙ ap (λ (t : Bool). if t then Some f else None) (name_eq_same (name_of f))

-- A fact that was found is found again after one more was learned.
pub learned_keeps : (facts : List Fact) (g : Fact) (n : Name) (f : Fact) → fact_at facts n ≡ Some f → fact_at (learned facts g) n ≡ Some f
learned_keeps facts g n f h =
    elim (has_fact facts (name_of g)) as (λ t. fact_at (if t then facts else facts ++ g ∷ []) n ≡ Some f) [
      | true ↦ h
      | false ↦ at_prefix facts (g ∷ []) n f h
    ]

-- A fact that is found after the learning was there before, or is the new one.
pub learned_cases : (facts : List Fact) (g : Fact) (n : Name) (f : Fact) → fact_at (learned facts g) n ≡ Some f →
    (fact_at facts n ≡ Some f) ⊎ ((n ≡ name_of g) × (f ≡ g))
learned_cases facts g n f h =
    elim (has_fact facts (name_of g)) as (λ t. fact_at (if t then facts else facts ++ g ∷ []) n ≡ Some f →
    (fact_at facts n ≡ Some f) ⊎ ((n ≡ name_of g) × (f ≡ g))) [
      | true ↦ λ x. inl x
      | false ↦ λ x. push_cases facts g n f x
    ] h

-- One more known name adds its fact at the end.
pub facts_of-push : (facts : List Fact) (ns : List Name) (n : Name) → facts_of facts (ns ++ n ∷ []) ≡ facts_of facts ns ++ facts_of facts (n ∷ [])
facts_of-push facts ns n = filter_map-append (fact_at facts) ns (n ∷ [])

pub facts_of_one : (facts : List Fact) (n : Name) (f : Fact) → fact_at facts n ≡ Some f → facts_of facts (n ∷ []) ≡ f ∷ []
facts_of_one facts n f h = rw h refl

-- A fact whose parts are in range has a valid name.
pub ranged_name : (f : Fact) → IsRangedFact f → IsName (name_of f)
ranged_name (Key name master slave route bytes) h = h.0
ranged_name (Chunk name stream index route bytes) h = h.0
ranged_name (Stored note about route) h = h.0
ranged_name (Open stream source peer size route) h = h.0
ranged_name (Joined note about route) h = h.0
ranged_name (Part name key master slave route bytes) h = h.0
