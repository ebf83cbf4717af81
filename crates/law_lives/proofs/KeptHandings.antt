-- The kept world's handings: each node's are its own, each once, and each is permitted.
use Rattle.std.proofs.Common.{◌≡◌, ℕ, zero, suc, ◌+◌, Bool, true, false, ◌&&◌, ◌||◌, List, [], ◌∷◌, ◌++◌, append-nil, refl, sym, ◌∙◌, ap, arith, inl, inr}
use Rattle.std.specs.Prelude.{◌==◌, if◌then◌else◌}
use Rattle.std.specs.List.{flat_map}
use Rattle.std.proofs.lemmas.List.Folds.{list_any-append}
use Rattle.std.proofs.lemmas.List.Elements.{filter-append}
use Rattle.std.proofs.lemmas.Bool.Decides.{nat_tests}
use Rattle.qkd_base.specs.Name.{Name, name_eq}
use Rattle.net_model.specs.Table.{was_handed}
use Rattle.net_model.specs.OctetSequence.{OctetSequence}
use Rattle.net_model.specs.Site.{Site}
use Rattle.net_model.specs.View.{View, handed_at}
use Rattle.net_model.specs.Handings.{PairsDiffer, MayHave, IsHanded}
use Rattle.law_base.proofs.Base.{or_cases, or_left, or_right, or_both, not_false}
use Rattle.law_lives.specs.Belongs.{view_in, known_in, table_in, Belongs}
use Rattle.law_lives.specs.KeptWorld.{kept_table}
use Rattle.law_lives.proofs.KeptFacts.{AllRead, kept_tabled, kept_of}
use Rattle.law_lives.proofs.KeptViews.{same_pair}
use Rattle.law_lives.proofs.LikeTables.{HasAll, part_moves, have_moves}

-- ---- lists of handings

abbrev pub all_handed : List View → List (Name × ℕ)
all_handed views = flat_map (λ (view : View). view.handed) views

handed-append : (xs ys : List (Name × ℕ)) (n : Name) (sae : ℕ) → was_handed (xs ++ ys) n sae ≡ (was_handed xs n sae || was_handed ys n sae)
handed-append xs ys n sae = list_any-append (λ h. name_eq h.0 n && (h.1 == sae)) xs ys

pairs_both : (xs ys : List (Name × ℕ)) → PairsDiffer xs → PairsDiffer ys → ((n : Name) (sae : ℕ) → was_handed xs n sae ≡ true → was_handed ys n sae ≡ false) → PairsDiffer (xs ++ ys)
pairs_both [] ys h k apart = k
pairs_both (x ∷ xs) ys h k apart = (
  handed-append xs ys x.0 x.1 ∙ or_both (was_handed xs x.0 x.1) (was_handed ys x.0 x.1) h.0 (apart x.0 x.1 (or_left _ (was_handed xs x.0 x.1) (same_pair x))),
  pairs_both xs ys h.1 k (λ n sae e. apart n sae (or_right (name_eq x.0 n && (x.1 == sae)) (was_handed xs n sae) e)),
)

-- What any node handed out, some node did.
handed_by : (views : List View) (n : Name) (sae : ℕ) → was_handed (all_handed views) n sae ≡ true → (v : ℕ) × (was_handed (view_in views v).handed n sae ≡ true)
handed_by [] n sae h = cc
handed_by (view ∷ views) n sae h = elim (or_cases (was_handed view.handed n sae) (was_handed (all_handed views) n sae) (sym (handed-append view.handed (all_handed views) n sae) ∙ h)) [
  | inl here ↦ (zero, here)
  | inr later ↦ let r = handed_by views n sae later in (suc r.0, r.1)
]

none_at : (s : Site) (v : ℕ) (hs : List (Name × ℕ)) → ((n : Name) (sae : ℕ) → was_handed hs n sae ≡ true → (s.home sae == v) ≡ false) → handed_at s v hs ≡ []
none_at s v [] h = refl
none_at s v (x ∷ hs) h =
    ap (λ (t : Bool). if t then x ∷ handed_at s v hs else handed_at s v hs) (h x.0 x.1 (or_left _ (was_handed hs x.0 x.1) (same_pair x))) ∙
    none_at s v hs (λ n sae e. h n sae (or_right (name_eq x.0 n && (x.1 == sae)) (was_handed hs n sae) e))

all_at_home : (s : Site) (v : ℕ) (hs : List (Name × ℕ)) → ((n : Name) (sae : ℕ) → was_handed hs n sae ≡ true → (s.home sae == v) ≡ true) → handed_at s v hs ≡ hs
all_at_home s v [] h = refl
all_at_home s v (x ∷ hs) h =
    ap (λ (t : Bool). if t then x ∷ handed_at s v hs else handed_at s v hs) (h x.0 x.1 (or_left _ (was_handed hs x.0 x.1) (same_pair x))) ∙
    ap (λ (ys : List (Name × ℕ)). x ∷ ys) (all_at_home s v hs (λ n sae e. h n sae (or_right (name_eq x.0 n && (x.1 == sae)) (was_handed hs n sae) e)))

same_number : (a c : ℕ) → a ≡ c → (a == c) ≡ true
same_number a c h = grind (arith, nat_tests)

other_number : (a c : ℕ) → (a ≡ c → ⊥) → (a == c) ≡ false
other_number a c h = grind (arith, nat_tests)

module _ (s : Site) where
  -- What these nodes handed out was handed to applications at home there. The first of them is node k.
  AreHome : ℕ → List View → Type 0
  AreHome k views = (v : ℕ) (n : Name) (sae : ℕ) → was_handed (view_in views v).handed n sae ≡ true → s.home sae ≡ k + v

  home_later : (k : ℕ) (view : View) (views : List View) → AreHome k (view ∷ views) → AreHome (suc k) views
  unfolding AreHome
  home_later k view views h v n sae e = let at = h (suc v) n sae e in omega (arith, at)

  home_behind : (k : ℕ) (views : List View) → AreHome k views → (n : Name) (sae : ℕ) → was_handed (all_handed views) n sae ≡ true → (v : ℕ) × (s.home sae ≡ k + v)
  unfolding AreHome
  home_behind k views h n sae e = let r = handed_by views n sae e in (r.0, h r.0 n sae r.1)

  pairs_kept : (k : ℕ) (views : List View) → ((v : ℕ) → PairsDiffer (view_in views v).handed) → AreHome k views → PairsDiffer (all_handed views)
  unfolding AreHome
  pairs_kept k [] differ h = tt
  pairs_kept k (view ∷ views) differ h =
      pairs_both view.handed (all_handed views) (differ zero) (pairs_kept (suc k) views (λ v. differ (suc v)) (home_later k view views h))
      (λ n sae e. not_false (was_handed (all_handed views) n sae) (λ e2.
      let here = h zero n sae e in
      let behind = home_behind (suc k) views (home_later k view views h) n sae e2 in
      let at = behind.1 in
      absurd (omega (arith, here, at))))

  -- Each node gets its own handings back.
  handed_back : (k : ℕ) (views : List View) → AreHome k views → (v : ℕ) → handed_at s (k + v) (all_handed views) ≡ (view_in views v).handed
  unfolding AreHome
  handed_back k [] h v = refl
  handed_back k (view ∷ views) h zero =
      let mine = all_at_home s (k + 0) view.handed (λ n sae e. same_number (s.home sae) (k + 0) (h zero n sae e)) in
      let others = none_at s (k + 0) (all_handed views) (λ n sae e.
      let behind = home_behind (suc k) views (home_later k view views h) n sae e in
      let at = behind.1 in
      other_number (s.home sae) (k + 0) (λ same. absurd (omega (arith, at, same)))) in
      filter-append (λ x. s.home x.1 == (k + 0)) view.handed (all_handed views) ∙ (λ i. mine i ++ others i) ∙ append-nil view.handed
  handed_back k (view ∷ views) h (suc v) =
      let mine = none_at s (k + suc v) view.handed (λ n sae e. let at = h zero n sae e in other_number (s.home sae) (k + suc v) (λ same. absurd (omega (arith, at, same)))) in
      let place : k + suc v ≡ suc k + v = omega arith in
      let others = ap (λ (u : ℕ). handed_at s u (all_handed views)) place ∙ handed_back (suc k) views (home_later k view views h) v in
      filter-append (λ x. s.home x.1 == (k + suc v)) view.handed (all_handed views) ∙ (λ i. mine i ++ others i)

-- ---- handings that are permitted

module _ (s : Site) (devices : ℕ → OctetSequence) (views : List View) (read : AllRead views) (b : Belongs s devices views) where
  all_there : HasAll (table_in views) (kept_table views)
  all_there = kept_tabled s devices views read b

  all_from : HasAll (kept_table views) (table_in views)
  all_from n f h = let k = kept_of s devices views read b n f h in record { fact = k.fact; there = k.there; alike = sym k.alike }

  may_have : (n : Name) (sae : ℕ) → MayHave s (table_in views) (known_in views) n sae → MayHave s (kept_table views) (known_in views) n sae
  may_have n sae h =
      have_moves (table_in views) (kept_table views) all_there (known_in views) (known_in views) (λ v m k. k) s n sae (part_moves (kept_table views) (table_in views) all_from n) h

  are_home : AreHome s 0 views
  unfolding AreHome
  are_home v n sae h = let at = (b.handings v n sae h).0 in omega (arith, at)

  pub handings_kept : IsHanded s (kept_table views) (known_in views) (all_handed views)
  handings_kept = record {
    differ = pairs_kept s 0 views (λ v. (read v).handed) are_home;
    entitled = λ n sae h. let r = handed_by views n sae h in may_have n sae (b.handings r.0 n sae r.1).1;
  }

  pub handed_here : (v : ℕ) → handed_at s v (all_handed views) ≡ (view_in views v).handed
  handed_here v = let place : v ≡ 0 + v = omega arith in ap (λ (u : ℕ). handed_at s u (all_handed views)) place ∙ handed_back s 0 views are_home v
