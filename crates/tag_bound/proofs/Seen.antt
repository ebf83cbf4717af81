-- The set of the keys that were seen.
use Rattle.std.proofs.Common.{◌≡◌, ℕ, ◌+◌, ◌<◌, ◌≤◌, Bool, true, false, cond, List, length, get_or, refl, sym, ap, ◌∙◌, arith, inl, inr}
use Rattle.std.specs.Ordering.{nat_cmp, is_eq}
use Rattle.std.specs.Cmp.{nat_cmp_is}
use Rattle.std.specs.declared.cmp.Ordering.TheVariants.{Less, Equal, Greater}
use Rattle.std.specs.BTreeMap.{is_at}
use Rattle.std.proofs.lemmas.Bool.{cases_eq, cases_lt}
use Rattle.tag_bound.specs.Keys.{IsRepeat, IsFirstRepeat, AreDistinct}

-- the set holds exactly the keys before this place, and none of these is a repeat
pub record IsSeen (has : ℕ → Bool) (keys : List ℕ) (place : ℕ) : Type 0 where
  pub all : (k : ℕ) → k < place → has (get_or keys k 0) ≡ true
  pub only : (q : ℕ) → has q ≡ true → (k : ℕ) × (k < place) × (get_or keys k 0 ≡ q)
  pub apart : (k : ℕ) → k < place → IsRepeat keys k → ⊥

pub seen_none : (has : ℕ → Bool) (keys : List ℕ) → ((q : ℕ) → has q ≡ false) → IsSeen has keys 0
seen_none has keys none = record {
  all = λ k lt. absurd (omega arith);
  only = λ q h. absurd (let e : true ≡ false = sym h ∙ none q in (cc));
  apart = λ k lt repeat. absurd (omega arith);
}

repeat_at : (has : ℕ → Bool) (keys : List ℕ) (place : ℕ) → IsSeen has keys place → place < length keys → has (get_or keys place 0) ≡ true → IsRepeat keys place
repeat_at has keys place seen lt h = let e = seen.only (get_or keys place 0) h in (lt, (e.0, e.1, e.2))

pub first_repeat_at : (has : ℕ → Bool) (keys : List ℕ) (place : ℕ) → IsSeen has keys place → place < length keys → has (get_or keys place 0) ≡ true → IsFirstRepeat keys place
first_repeat_at has keys place seen lt h = (repeat_at has keys place seen lt h, seen.apart)

pub distinct_at_end : (has : ℕ → Bool) (keys : List ℕ) (place : ℕ) → IsSeen has keys place → length keys ≤ place → AreDistinct keys
distinct_at_end has keys place seen le = λ k repeat. seen.apart k (omega (arith, repeat.0)) repeat

other : (key q : ℕ) → (key ≡ q → ⊥) → is_at (nat_cmp key) q ≡ false
other key q apart = elim (cases_lt key q) [
  | inl less ↦ ap is_eq (sym (nat_cmp_is key q Less less))
  | inr le ↦
      let greater : q < key = omega (arith, apart) in
      ap is_eq (sym (nat_cmp_is key q Greater greater))
]

same : (key : ℕ) → is_at (nat_cmp key) key ≡ true
same key = ap is_eq (sym (nat_cmp_is key key Equal refl))

whichever : (b : Bool) → cond b true true ≡ true
whichever true = refl
whichever false = refl

pub seen_more : (has more : ℕ → Bool) (keys : List ℕ) (place : ℕ) → IsSeen has keys place → place < length keys → has (get_or keys place 0) ≡ false →
    ((q : ℕ) → more q ≡ cond (is_at (nat_cmp (get_or keys place 0)) q) true (has q)) → IsSeen more keys (place + 1)
seen_more has more keys place seen lt new put = record { all = all; only = only; apart = apart }
  where
    key : ℕ
    key = get_or keys place 0

    all : (k : ℕ) → k < place + 1 → more (get_or keys k 0) ≡ true
    all k before = elim (cases_lt k place) [
      | inl less ↦ put (get_or keys k 0) ∙ ap (cond (is_at (nat_cmp key) (get_or keys k 0)) true) (seen.all k less) ∙ whichever (is_at (nat_cmp key) (get_or keys k 0))
      | inr here ↦
          let e : k ≡ place = omega arith in
          ap (λ (n : ℕ). more (get_or keys n 0)) e ∙ put key ∙ ap (λ (b : Bool). cond b true (has key)) (same key)
    ]

    only : (q : ℕ) → more q ≡ true → (k : ℕ) × (k < place + 1) × (get_or keys k 0 ≡ q)
    only q h = elim (cases_eq key q) [
      | inl e ↦ (place, omega arith, e)
      | inr apart_q ↦
          let old : has q ≡ true = sym (put q ∙ ap (λ (b : Bool). cond b true (has q)) (other key q apart_q)) ∙ h in
          let at = seen.only q old in
          (at.0, omega (arith, at.1), at.2)
    ]

    apart : (k : ℕ) → k < place + 1 → IsRepeat keys k → ⊥
    apart k before repeat = elim (cases_lt k place) [
      | inl less ↦ seen.apart k less repeat
      | inr here ↦
          let e : k ≡ place = omega arith in
          let earlier : repeat.1.0 < place = omega (arith, repeat.1.1) in
          let is_key : get_or keys repeat.1.0 0 ≡ key = repeat.1.2 ∙ ap (λ (n : ℕ). get_or keys n 0) e in
          let had : true ≡ false = sym (seen.all repeat.1.0 earlier) ∙ ap has is_key ∙ new in
          (cc)
    ]

-- there is only one first repeat
pub only_first : (keys : List ℕ) (place another : ℕ) → IsFirstRepeat keys place → IsFirstRepeat keys another → place ≡ another
only_first keys place another first too = elim (cases_lt place another) [
  | inl less ↦ absurd (too.1 place less first.0)
  | inr le ↦ elim (cases_lt another place) [
    | inl less ↦ absurd (first.1 another less too.0)
    | inr ge ↦ omega arith
  ]
]
