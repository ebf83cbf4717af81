-- Sorting different applications gives rising numbers.
use Rattle.std.proofs.Common.{◌≡◌, ◌∙◌, ℕ, suc, ◌+◌, ◌==◌, Bool, true, false, ◌&&◌, ◌||◌, List, [], ◌∷◌, ◌++◌, length, Some, refl, sym, ap, subst, arith, length-append}
use Rattle.std.specs.Prelude.{if◌then◌else◌, nat_lt, nat_le}
use Rattle.std.specs.List.{list_any}
use Rattle.std.proofs.lemmas.Bool.{and_parts, and_from, or_parts, or_from, eqb-false, ne_eqb, lt-ltb, leb-true, leb-false}
use Rattle.std.proofs.lemmas.List.Folds.{list_any-append}
use Rattle.net_model.specs.Events.{is_rising, are_slaves}
use Rattle.run_model.specs.Turn.{placed_in, in_order}
use Rattle.declared_site.specs.declared.site.Site.{Site}
use Rattle.scenario_text.specs.Words.{Word}
use Rattle.scenario_text.specs.Fields.{sae_of}
use Rattle.scenario_text.specs.Commanding.{slaves_after, group_of}
use Rattle.law_run.proofs.FitGiven.{same_some, bound, asserted, excluded}

abbrev among : ℕ → List ℕ → Bool
among s ss = list_any (λ other. other == s) ss

-- Each number differs from those after it.
abbrev AreDifferent : List ℕ → Type 0
AreDifferent [] = Unit {0}
AreDifferent (s ∷ ss) = (among s ss ≡ false) × AreDifferent ss

other_way : (a b : ℕ) → (a == b) ≡ false → (b == a) ≡ false
other_way a b h = ne_eqb b a (λ e. eqb-false a b h (sym e))

different_push : (ss : List ℕ) (x : ℕ) → AreDifferent ss → among x ss ≡ false → AreDifferent (ss ++ x ∷ [])
different_push [] x h new = (refl, tt)
different_push (s ∷ ss) x h new =
    let parts = or_parts (s == x) (among x ss) new in (
      list_any-append (λ other. other == s) ss (x ∷ []) ∙ or_from (among s ss) ((x == s) || false) h.0 (or_from (x == s) false (other_way s x parts.0) refl),
      different_push ss x h.1 parts.1,
    )

record Read (before after : List ℕ) (words : List Word) : Type 0 where
  different : AreDifferent after
  long : length after ≡ length before + length words

read_slaves : (d : Site) (ws : List Word) (before after : List ℕ) → AreDifferent before → slaves_after d before ws ≡ Some after → Read before after ws
read_slaves d [] before after h e =
    let same = same_some before after e in
    let long = ap length same in
    record { different = subst AreDifferent same h; long = omega (arith, long) }
read_slaves d (w ∷ ws) before after h e =
    let sae = bound (sae_of d w) _ after e in
    let new = excluded (among sae.0 before) (slaves_after d (before ++ sae.0 ∷ []) ws) after sae.2 in
    let rest = read_slaves d ws (before ++ sae.0 ∷ []) after (different_push before sae.0 h new.0) new.1 in
    let long = rest.long in
    let pushed = length-append before (sae.0 ∷ []) in
    record { different = rest.different; long = omega (arith, long, pushed) }

-- Lemmas on sorting.

of_either : (b : Bool) (xs ys : List ℕ) (P : List ℕ → Type 0) → (b ≡ true → P xs) → (b ≡ false → P ys) → P (if b then xs else ys)
of_either true xs ys P first other = first refl
of_either false xs ys P first other = other refl

placed_long : (s : ℕ) (xs : List ℕ) → length (placed_in s xs) ≡ suc (length xs)
placed_long s [] = refl
placed_long s (t ∷ ts) = of_either (nat_le s t) (s ∷ t ∷ ts) (t ∷ placed_in s ts) (λ xs. length xs ≡ suc (suc (length ts))) (λ is. refl) (λ is. ap suc (placed_long s ts))

order_long : (ss : List ℕ) → length (in_order ss) ≡ length ss
order_long [] = refl
order_long (s ∷ ss) = placed_long s (in_order ss) ∙ ap suc (order_long ss)

-- A number that isn't in a list isn't in the sorted list.
placed_none : (x s : ℕ) (xs : List ℕ) → (s == x) ≡ false → among x xs ≡ false → among x (placed_in s xs) ≡ false
placed_none x s [] h none = or_from (s == x) false h refl
placed_none x s (t ∷ ts) h none =
    let parts = or_parts (t == x) (among x ts) none in
    of_either (nat_le s t) (s ∷ t ∷ ts) (t ∷ placed_in s ts) (λ xs. among x xs ≡ false) (λ is. or_from (s == x) (among x (t ∷ ts)) h none)
    (λ is. or_from (t == x) (among x (placed_in s ts)) parts.0 (placed_none x s ts h parts.1))

order_none : (x : ℕ) (ss : List ℕ) → among x ss ≡ false → among x (in_order ss) ≡ false
order_none x [] none = refl
order_none x (s ∷ ss) none =
    let parts = or_parts (s == x) (among x ss) none in
    placed_none x s (in_order ss) parts.0 (order_none x ss parts.1)

-- The list is empty or begins above this number.
abbrev begins_above : ℕ → List ℕ → Bool
begins_above t [] = true
begins_above t (x ∷ xs) = nat_lt t x

rising_cons : (t : ℕ) (xs : List ℕ) → begins_above t xs ≡ true → is_rising xs ≡ true → is_rising (t ∷ xs) ≡ true
rising_cons t [] above h = refl
rising_cons t (x ∷ xs) above h = and_from (nat_lt t x) (is_rising (x ∷ xs)) above h

rising_rest : (t : ℕ) (xs : List ℕ) → is_rising (t ∷ xs) ≡ true → (begins_above t xs ≡ true) × (is_rising xs ≡ true)
rising_rest t [] h = (refl, refl)
rising_rest t (x ∷ xs) h = and_parts (nat_lt t x) (is_rising (x ∷ xs)) h

placed_above : (t s : ℕ) (xs : List ℕ) → nat_lt t s ≡ true → begins_above t xs ≡ true → begins_above t (placed_in s xs) ≡ true
placed_above t s [] low above = low
placed_above t s (x ∷ xs) low above =
    of_either (nat_le s x) (s ∷ x ∷ xs) (x ∷ placed_in s xs) (λ ys. begins_above t ys ≡ true) (λ is. low) (λ is. above)

below_other : (s t : ℕ) → nat_le s t ≡ true → (t == s) ≡ false → nat_lt s t ≡ true
below_other s t le other =
    let bound = leb-true s t le in
    let differ = eqb-false t s other in
    lt-ltb s t (omega (arith, bound, differ))

placed_rises : (s : ℕ) (xs : List ℕ) → is_rising xs ≡ true → among s xs ≡ false → is_rising (placed_in s xs) ≡ true
placed_rises s [] h none = refl
placed_rises s (t ∷ ts) h none =
    let parts = or_parts (t == s) (among s ts) none in
    let rest = rising_rest t ts h in
    of_either (nat_le s t) (s ∷ t ∷ ts) (t ∷ placed_in s ts) (λ xs. is_rising xs ≡ true) (λ is. rising_cons s (t ∷ ts) (below_other s t is parts.0) h)
    (λ is. rising_cons t (placed_in s ts) (placed_above t s ts (lt-ltb t s (leb-false s t is)) rest.0) (placed_rises s ts rest.1 parts.1))

order_rises : (ss : List ℕ) → AreDifferent ss → is_rising (in_order ss) ≡ true
order_rises [] h = refl
order_rises (s ∷ ss) h = placed_rises s (in_order ss) (order_rises ss h.1) (order_none s ss h.0)

pub group_right : (d : Site) (ws : List Word) (ss : List ℕ) → group_of d ws ≡ Some ss → are_slaves (in_order ss) ≡ true
unfolding group_of
group_right d ws ss e =
    let few = asserted (nat_le 2 (length ws) && nat_le (length ws) 5) (slaves_after d [] ws) ss e in
    let read = read_slaves d ws [] ss tt few.1 in
    let long = read.long in
    let size : length ws ≡ length (in_order ss) = omega (arith, long, order_long ss) in
    and_from (nat_le 2 (length (in_order ss)) && nat_le (length (in_order ss)) 5) (is_rising (in_order ss))
    (subst (λ (n : ℕ). (nat_le 2 n && nat_le n 5) ≡ true) size few.0) (order_rises ss read.different)
