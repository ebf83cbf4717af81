-- All lanes in order of place.
use Rattle.std.proofs.Common.{◌≡◌, ℕ, zero, suc, ◌+◌, ◌-◌, ◌*◌, ◌<◌, ◌≤◌, true, false, List, [], ◌∷◌, ◌++◌, refl, sym, ◌∙◌, ap, arith}
use Rattle.std.specs.Prelude.{◌/◌, ◌%◌, ◌==◌, if◌then◌else◌}
use Rattle.std.specs.List.{flat_map}
use Rattle.std.proofs.lemmas.Bool.Decides.{nat_tests}
use Rattle.std.proofs.lemmas.Grind.{flat_map-append}
use Rattle.qkd_base.specs.Lane.{way_number}
use Rattle.qkd_base.specs.declared.lane.Way.{Way}
use Rattle.qkd_base.specs.declared.lane.Way.TheVariants.{Up, Down}
use Rattle.qkd_base.specs.declared.lane.Lane.{Lane}
use Rattle.net_model.specs.Site.{Site, lane_of, count_up}
use Rattle.net_model.specs.BlockOrder.{lane_number}
use Rattle.net_model.specs.Events.{is_lane}
use Rattle.run_model.specs.Lines.{all_lanes}
use Rattle.law_base.proofs.Base.{when_true, when_false}

abbrev pub way_at : ℕ → Way
way_at n = if n % 2 == 0 then Up else Down

abbrev pub lane_at : ℕ → Lane
lane_at n = record { link = n / 2; way = way_at n }

-- k lanes from a place on
abbrev pub row : ℕ → ℕ → List Lane
row n zero = []
row n (suc k) = lane_at n ∷ row (n + 1) k

even_test : (k : ℕ) → ((2 * k) % 2 == 0) ≡ true
even_test k = let e : (2 * k) % 2 ≡ 0 = omega arith in grind (arith, nat_tests)

odd_test : (k : ℕ) → ((2 * k + 1) % 2 == 0) ≡ false
odd_test k = let e : (2 * k + 1) % 2 ≡ 1 = omega arith in grind (arith, nat_tests)

up_at : (k : ℕ) → lane_at (2 * k) ≡ lane_of k Up
up_at k =
    let link : 2 * k / 2 ≡ k = omega arith in
    let way = when_true ((2 * k) % 2 == 0) Up Down (even_test k) in
    λ i. record { link = link i; way = way i }

down_at : (k : ℕ) → lane_at (2 * k + 1) ≡ lane_of k Down
down_at k =
    let link : (2 * k + 1) / 2 ≡ k = omega arith in
    let way = when_false ((2 * k + 1) % 2 == 0) Up Down (odd_test k) in
    λ i. record { link = link i; way = way i }

pub number_at : (n : ℕ) → lane_number (lane_at n) ≡ n
number_at n = elim (n % 2 == 0) as (λ t. (n % 2 == 0) ≡ t → lane_number (record { link = n / 2; way = if t then Up else Down }) ≡ n) [
  | true ↦ λ e. let z : n % 2 ≡ 0 = grind (arith, nat_tests) in omega arith
  | false ↦ λ e. let z : n % 2 ≡ 1 = odd n e in omega arith
] refl
  where
    odd : (n : ℕ) → (n % 2 == 0) ≡ false → n % 2 ≡ 1
    odd n e = let not_zero : n % 2 ≡ 0 → ⊥ = (λ z. grind (arith, nat_tests)) in not_none n not_zero
      where
        not_none : (n : ℕ) → (n % 2 ≡ 0 → ⊥) → n % 2 ≡ 1
        not_none n h = elim (n % 2) as (λ r. n % 2 ≡ r → r ≡ 1) [ zero ↦ λ e. absurd (h e) | suc r ↦ λ e. omega arith ] refl

pub number_is : (l : Lane) → lane_at (lane_number l) ≡ l
number_is l = elim l.way as (λ way. lane_at (2 * l.link + way_number way) ≡ record { link = l.link; way = way }) [
  | Up ↦ ap lane_at (none_more (2 * l.link)) ∙ up_at l.link
  | Down ↦ down_at l.link
]
  where
    none_more : (n : ℕ) → n + 0 ≡ n
    none_more n = omega arith

pub within : (s : Site) (n : ℕ) → n < 2 * s.links → is_lane s (lane_at n) ≡ true
within s n below = let less : n / 2 < s.links = omega (arith, below) in grind (arith, nat_tests)

-- A row of k + 1 lanes is a row of k lanes and one more.

pub row_more : (n k : ℕ) → row n (k + 1) ≡ row n k ++ lane_at (n + k) ∷ []
row_more n zero = let same : n + 0 ≡ n = omega arith in ap (λ (m : ℕ). lane_at m ∷ []) (sym same)
row_more n (suc k) =
    let same : n + 1 + k ≡ n + suc k = omega arith in
    let one : suc k + 1 ≡ suc (k + 1) = omega arith in
    ap (row n) one ∙ ap (λ (ls : List Lane). lane_at n ∷ ls) (row_more (n + 1) k) ∙ ap (λ (m : ℕ). lane_at n ∷ (row (n + 1) k ++ lane_at m ∷ [])) same

pub row_next : (n size : ℕ) → n < size → row n (size - n) ≡ lane_at n ∷ row (n + 1) (size - (n + 1))
row_next n size below = let one : size - n ≡ suc (size - (n + 1)) = omega (arith, below) in ap (row n) one

pub row_end : (n size : ℕ) → size ≤ n → row n (size - n) ≡ []
row_end n size above = let none : size - n ≡ 0 = omega (arith, above) in ap (row n) none

abbrev pair : ℕ → List Lane
pair link = lane_of link Up ∷ lane_of link Down ∷ []

row_pair : (k : ℕ) → row 0 (2 * k) ++ pair k ≡ row 0 (2 * suc k)
row_pair k =
    let one : 2 * suc k ≡ 2 * k + 1 + 1 = omega arith in
    let first : 0 + 2 * k ≡ 2 * k = omega arith in
    let second : 0 + (2 * k + 1) ≡ 2 * k + 1 = omega arith in
    sym (ap (row 0) one ∙ row_more 0 (2 * k + 1) ∙ ap (λ (ls : List Lane). ls ++ lane_at (0 + (2 * k + 1)) ∷ []) (row_more 0 (2 * k))
    ∙ assoc (row 0 (2 * k)) (lane_at (0 + 2 * k)) (lane_at (0 + (2 * k + 1)))
    ∙ λ i. row 0 (2 * k) ++ ((ap lane_at first ∙ up_at k) i) ∷ ((ap lane_at second ∙ down_at k) i) ∷ [])
  where
    assoc : (xs : List Lane) (a b : Lane) → (xs ++ a ∷ []) ++ b ∷ [] ≡ xs ++ a ∷ b ∷ []
    assoc [] a b = refl
    assoc (x ∷ xs) a b = ap (λ (ys : List Lane). x ∷ ys) (assoc xs a b)

lanes_to : (n : ℕ) → flat_map pair (count_up n) ≡ row 0 (2 * n)
lanes_to zero = refl
lanes_to (suc n) =
    flat_map-append pair (count_up n) (n ∷ []) ∙ ap (λ (ls : List Lane). ls ++ pair n) (lanes_to n) ∙ row_pair n

pub all_lanes_are : (s : Site) → all_lanes s ≡ row 0 (2 * s.links)
all_lanes_are s = lanes_to s.links
