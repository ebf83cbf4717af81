-- Frames in order of lane, one at a time.
use Rattle.std.proofs.Common.{◌≡◌, ℕ, zero, suc, ◌+◌, ◌<◌, ◌≤◌, true, List, [], ◌∷◌, ◌++◌, length, take, drop, map, refl, sym, ◌∙◌, ap, subst, arith}
use Rattle.std.specs.Prelude.{◌*◌, get_or, nat_le}
use Rattle.std.specs.List.{AllByRecursion}
use Rattle.std.proofs.lemmas.Bool.Decides.{nat_tests}
use Rattle.qkd_base.specs.declared.lane.Way.TheVariants.{Up, Down}
use Rattle.qkd_base.specs.declared.lane.Lane.{Lane}
use Rattle.net_model.specs.BlockOrder.{lane_number, is_by_lane}
use Rattle.law_base.proofs.Base.{and_left, and_right}
use Rattle.law_locality.proofs.Lists.{all_weaker}
use Rattle.par_lanes.specs.declared.emitted.Emitted.{Emitted}
use Rattle.world_state.specs.Stands.{of_way, place_of}
use Rattle.qkd_base.specs.Lane.{way_number}
use Rattle.world_state.proofs.Drops.{drop_next}

abbrev pub lane_in : Emitted → Lane
lane_in e = e.lane

pub number_of : (l : Lane) → lane_number l ≡ place_of l
number_of l = elim l.way as (λ way. 2 * l.link + way_number way ≡ 2 * l.link + of_way way) [ Up ↦ refl | Down ↦ refl ]

le_from : (a b : ℕ) → nat_le a b ≡ true → a ≤ b
le_from a b h = grind (arith, nat_tests)

abbrev pub AllFrom : ℕ → List Emitted → Type 0
AllFrom n es = AllByRecursion (λ (e : Emitted). n ≤ lane_number e.lane) es

-- all frames are on lanes from a place on, in order of lane
pub record Rises (place : ℕ) (es : List Emitted) : Type 0 where
  pub from : AllFrom place es
  pub order : is_by_lane (map lane_in es) ≡ true

all_from_zero : (es : List Emitted) → AllFrom 0 es
all_from_zero [] = tt
all_from_zero (e ∷ es) = (omega arith, all_from_zero es)

pub rises : (es : List Emitted) → is_by_lane (map lane_in es) ≡ true → Rises 0 es
rises es h = record { from = all_from_zero es; order = h }

pub later_order : (e : Emitted) (es : List Emitted) → is_by_lane (map lane_in (e ∷ es)) ≡ true → is_by_lane (map lane_in es) ≡ true
later_order e [] h = refl
later_order e (x ∷ es) h = and_right (nat_le (lane_number e.lane) (lane_number x.lane)) (is_by_lane (map lane_in (x ∷ es))) h

pub later_from : (e : Emitted) (es : List Emitted) → is_by_lane (map lane_in (e ∷ es)) ≡ true → AllFrom (lane_number e.lane) es
later_from e [] h = tt
later_from e (x ∷ es) h =
    let first : lane_number e.lane ≤ lane_number x.lane = le_from (lane_number e.lane) (lane_number x.lane) (and_left (nat_le (lane_number e.lane) (lane_number x.lane)) (is_by_lane (map lane_in (x ∷ es))) h) in
    let rest = later_from x es (later_order e (x ∷ es) h) in
    (first, all_weaker (λ (y : Emitted). lane_number x.lane ≤ lane_number y.lane) (λ (y : Emitted). lane_number e.lane ≤ lane_number y.lane) (λ y k. omega (arith, first, k)) es rest)

module _ (es : List Emitted) (i : ℕ) (e : Emitted) (below : i < length es) (is : e ≡ get_or es i e) (place : ℕ) (h : Rises place (drop i es)) where
  here : Rises place (e ∷ drop (i + 1) es)
  here = subst (Rises place) (drop_next es i e below is) h

  pub next_from : place ≤ lane_number e.lane
  next_from = here.from.0

  pub next_rises : Rises (lane_number e.lane) (drop (i + 1) es)
  next_rises = record { from = later_from e (drop (i + 1) es) here.order; order = later_order e (drop (i + 1) es) here.order }

-- a prefix of a list, and the next item

more_taken : {A : Type 0} (xs : List A) (i : ℕ) (x : A) → i < length xs → x ≡ get_or xs i x → take (suc i) xs ≡ take i xs ++ x ∷ []
more_taken [] i x below is = absurd (omega (arith, below))
more_taken (y ∷ ys) zero x below is = ap (λ (z : _). z ∷ []) (sym is)
more_taken (y ∷ ys) (suc i) x below is = ap (λ (zs : _). y ∷ zs) (more_taken ys i x (omega (arith, below)) is)

pub take_next : {A : Type 0} (xs : List A) (i : ℕ) (x : A) → i < length xs → x ≡ get_or xs i x → take (i + 1) xs ≡ take i xs ++ x ∷ []
take_next xs i x below is = let same : i + 1 ≡ suc i = omega arith in ap (λ (n : ℕ). take n xs) same ∙ more_taken xs i x below is

pub take_all : {A : Type 0} (xs : List A) (i : ℕ) → length xs ≤ i → take i xs ≡ xs
take_all [] zero above = refl
take_all [] (suc i) above = refl
take_all (y ∷ ys) zero above = absurd (omega (arith, above))
take_all (y ∷ ys) (suc i) above = ap (λ (zs : _). y ∷ zs) (take_all ys i (omega (arith, above)))
