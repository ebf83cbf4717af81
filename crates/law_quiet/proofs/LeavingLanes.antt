-- Each lane of the site is among those that leave its sender.
use Rattle.std.proofs.Common.{◌≡◌, ℕ, zero, suc, ◌<◌, Bool, true, false, ◌||◌, List, [], ◌∷◌, refl, ◌∙◌, ap, arith, map, inl, inr}
use Rattle.std.specs.Prelude.{◌==◌, filter, if◌then◌else◌}
use Rattle.std.specs.List.{list_any}
use Rattle.std.proofs.lemmas.Bool.{ltb-true}
use Rattle.std.proofs.lemmas.Bool.Decides.{nat_tests}
use Rattle.std.proofs.lemmas.List.Folds.{list_any-append}
use Rattle.qkd_base.specs.Lane.{lane_eq}
use Rattle.qkd_base.specs.declared.lane.Way.{Way}
use Rattle.qkd_base.specs.declared.lane.Way.TheVariants.{Up, Down}
use Rattle.qkd_base.specs.declared.lane.Lane.{Lane}
use Rattle.net_model.specs.Premises.{IsSite}
use Rattle.net_model.specs.Events.{is_lane}
use Rattle.net_model.specs.Site.{Site, of_way, sender, count_up, outgoing_lane, is_incident, outgoing_lanes}
use Rattle.law_base.proofs.Base.{eq_from, eq_same, lane_same, lane_eq_from, or_cases, or_left, or_right, not_false, when_true, when_false}

pub any_kept : {A : Type 0} (p q : A → Bool) (xs : List A) → ((x : A) → q x ≡ true → p x ≡ true) → list_any q xs ≡ true → list_any q (filter p xs) ≡ true
any_kept p q [] passes h = h
any_kept {A} p q (x ∷ xs) passes h =
    elim (p x) as (λ t. p x ≡ t → list_any q (if t then x ∷ filter p xs else filter p xs) ≡ true) [
      | true ↦ λ e. elim (or_cases (q x) (list_any q xs) h) [ inl here ↦ or_left (q x) _ here | inr later ↦ or_right (q x) _ (any_kept p q xs passes later) ]
      | false ↦ λ e. elim (or_cases (q x) (list_any q xs) h) [ inl here ↦ let yes = passes x here in cc | inr later ↦ any_kept p q xs passes later ]
    ] refl

any_mapped : {A B : Type 0} (f : A → B) (q : B → Bool) (xs : List A) → list_any (λ (x : A). q (f x)) xs ≡ true → list_any q (map f xs) ≡ true
any_mapped f q [] h = h
any_mapped f q (x ∷ xs) h = elim (or_cases (q (f x)) _ h) [ inl here ↦ or_left (q (f x)) _ here | inr later ↦ or_right (q (f x)) _ (any_mapped f q xs later) ]

any_so : {A : Type 0} (p q : A → Bool) (xs : List A) → ((x : A) → p x ≡ true → q x ≡ true) → list_any p xs ≡ true → list_any q xs ≡ true
any_so p q [] so h = h
any_so p q (x ∷ xs) so h = elim (or_cases (p x) _ h) [ inl here ↦ or_left (q x) _ (so x here) | inr later ↦ or_right (q x) _ (any_so p q xs so later) ]

-- Each number below n is counted.
pub counted : (n x : ℕ) → x < n → list_any (λ y. y == x) (count_up n) ≡ true
counted zero x h = absurd (omega (arith, h))
counted (suc n) x h =
    list_any-append (λ y. y == x) (count_up n) (n ∷ []) ∙ (elim (n == x) as (λ t. (n == x) ≡ t → (list_any (λ y. y == x) (count_up n) || (t || false)) ≡ true) [
      | true ↦ λ e. or_right (list_any (λ y. y == x) (count_up n)) true refl
      | false ↦ λ e. or_left (list_any (λ y. y == x) (count_up n)) _ (counted n x (below n x h e))
    ] refl)
  where
    below : (n x : ℕ) → x < suc n → (n == x) ≡ false → x < n
    below n x h e = grind (arith, nat_tests)

-- A lane is the one by which its link leaves its sender.

way_back : (d : Way) (a b v : ℕ) → a < b → of_way d a b ≡ v → (if a == v then Up else Down) ≡ d
way_back Up a b v less is = when_true (a == v) Up Down (ap (λ (x : ℕ). x == v) is ∙ eq_same v)
way_back Down a b v less is = when_false (a == v) Up Down (not_false (a == v) (λ e. let same : a ≡ v = eq_from a v e in absurd (omega (arith, same, is, less))))

end_of : (d : Way) (a b v : ℕ) → of_way d a b ≡ v → ((a == v) || (b == v)) ≡ true
end_of Up a b v is = or_left (a == v) (b == v) (ap (λ (x : ℕ). x == v) is ∙ eq_same v)
end_of Down a b v is = or_right (a == v) (b == v) (ap (λ (x : ℕ). x == v) is ∙ eq_same v)

module _ (s : Site) (site : IsSite s) (v : ℕ) (l : Lane) (within : is_lane s l ≡ true) (from : sender s l ≡ v) where
  here : l.link < s.links
  here = ltb-true l.link s.links within

  leaves_so : outgoing_lane s v l.link ≡ l
  leaves_so = let way = way_back l.way (s.low l.link) (s.high l.link) v (site.ends l.link here).order from in λ i. record { link = l.link; way = way i }

  same_link : (x : ℕ) → lane_eq (outgoing_lane s v x) l ≡ true → x ≡ l.link
  same_link x e = ap (λ (k : Lane). k.link) (lane_eq_from (outgoing_lane s v x) l e)

  pub is_listed : list_any (λ k. lane_eq k l) (outgoing_lanes s v) ≡ true
  unfolding outgoing_lanes
  is_listed =
      any_mapped (outgoing_lane s v) (λ k. lane_eq k l) (filter (is_incident s v) (count_up s.links))
      (any_kept (is_incident s v) (λ x. lane_eq (outgoing_lane s v x) l) (count_up s.links)
      (λ x e. ap (is_incident s v) (same_link x e) ∙ end_of l.way (s.low l.link) (s.high l.link) v from)
      (any_so (λ y. y == l.link) (λ x. lane_eq (outgoing_lane s v x) l) (count_up s.links)
      (λ x e. ap (λ (y : ℕ). lane_eq (outgoing_lane s v y) l) (eq_from x l.link e) ∙ ap (λ (k : Lane). lane_eq k l) leaves_so ∙ lane_same l) (counted s.links l.link here)))

  -- So it is among those whose links are up, if its own is.
  pub is_listed_up : (up : ℕ → Bool) → up l.link ≡ true → list_any (λ k. lane_eq k l) (filter (λ (k : Lane). up k.link) (outgoing_lanes s v)) ≡ true
  is_listed_up up h = any_kept (λ (k : Lane). up k.link) (λ k. lane_eq k l) (outgoing_lanes s v) (λ k e. ap (λ (m : Lane). up m.link) (lane_eq_from k l e) ∙ h) is_listed
