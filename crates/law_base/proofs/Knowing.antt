-- What a node knows after it learned one more name.
use Rattle.std.proofs.Common.{◌≡◌, ℕ, true, false, List, [], ◌∷◌, ◌++◌, refl, sym, ◌∙◌, ap, Option, Some, ◌⊎◌, inl, inr}
use Rattle.std.specs.Prelude.{if◌then◌else◌}
use Rattle.std.specs.List.{cons_option}
use Rattle.qkd_base.specs.Name.{Name, name_eq, has}
use Rattle.qkd_base.specs.Family.{number_set}
use Rattle.net_model.specs.declared.fact.Fact.{Fact}
use Rattle.net_model.specs.Table.{fact_at, facts_of}
use Rattle.net_model.specs.Knowledge.{AllDiffer}
use Rattle.law_base.proofs.Base.{name_eq_from, name_eq_same, by_number, number_set_same, or_cases, or_left, or_right, or_first, or_second, or_both}
use Rattle.law_base.proofs.Tables.{has-push, has_last}
use Rattle.law_base.proofs.Grow.{Grows, KnownGrows}

differ_sym : (x m : Name) → name_eq x m ≡ false → name_eq m x ≡ false
differ_sym x m h = elim (name_eq m x) as (λ t. name_eq m x ≡ t → t ≡ false) [
  | true ↦ λ e. let is : m ≡ x = name_eq_from m x e in sym (name_eq_same x) ∙ ap (name_eq x) (sym is) ∙ h
  | false ↦ λ e. refl
] refl

pub differ_push : (ns : List Name) (m : Name) → AllDiffer ns → has ns m ≡ false → AllDiffer (ns ++ m ∷ [])
differ_push [] m d h = (refl, tt)
differ_push (x ∷ ns) m d h = (
  has-push ns m x ∙ or_both (has ns x) (name_eq m x) d.0 (differ_sym x m (or_first (name_eq x m) (has ns m) h)),
  differ_push ns m d.1 (or_second (name_eq x m) (has ns m) h),
)

abbrev pub known_with : (ℕ → List Name) → ℕ → Name → ℕ → List Name
known_with known v n = number_set known v (known v ++ n ∷ [])

pub known_with_grows : (known : ℕ → List Name) (v : ℕ) (m : Name) → KnownGrows known (known_with known v m)
known_with_grows known v m u n h =
    by_number (λ k t. has (known k) n ≡ true → has (if t then known v ++ m ∷ [] else known k) n ≡ true) v
    (λ p. rw has-push (or_left (has (known v) n) (name_eq m n) p)) (λ k ne p. p) u h

pub known_with_here : (known : ℕ → List Name) (v : ℕ) (m : Name) → known_with known v m v ≡ known v ++ m ∷ []
known_with_here known v m = number_set_same known v (known v ++ m ∷ [])

pub known_with_new : (known : ℕ → List Name) (v : ℕ) (m : Name) → has (known_with known v m v) m ≡ true
known_with_new known v m = ap (λ (ns : List Name). has ns m) (known_with_here known v m) ∙ has_last (known v) m

pub known_with_cases : (known : ℕ → List Name) (v : ℕ) (m : Name) (u : ℕ) (n : Name) → has (known_with known v m u) n ≡ true →
    (has (known u) n ≡ true) ⊎ ((u ≡ v) × (m ≡ n))
known_with_cases known v m u n h =
    by_number (λ k t. has (if t then known v ++ m ∷ [] else known k) n ≡ true → (has (known k) n ≡ true) ⊎ ((k ≡ v) × (m ≡ n))) v
    (λ p. elim (or_cases (has (known v) n) (name_eq m n) (rw has-push at p)) [ inl a ↦ inl a | inr b ↦ inr (refl, name_eq_from m n b) ])
    (λ k ne p. inl p) u h

-- Lemmas on the facts of known names.

-- The table has a fact for each of these names.
abbrev pub AreThere : List Fact → List Name → Type 0
AreThere facts ns = (n : Name) → has ns n ≡ true → (f : Fact) × (fact_at facts n ≡ Some f)

-- The facts of these names stay the same when the table grows.
pub facts_stay : (facts facts' : List Fact) → Grows facts facts' → (ns : List Name) → AreThere facts ns → facts_of facts' ns ≡ facts_of facts ns
facts_stay facts facts' grows [] h = refl
facts_stay facts facts' grows (n ∷ ns) h =
    let x = h n (or_left (name_eq n n) (has ns n) (name_eq_same n)) in
    let first : fact_at facts' n ≡ fact_at facts n = grows n x.0 x.1 ∙ sym x.1 in
    ap (λ (o : Option Fact). cons_option o (facts_of facts' ns)) first ∙
    ap (cons_option (fact_at facts n)) (facts_stay facts facts' grows ns (λ m k. h m (or_right (name_eq n m) (has ns m) k)))
