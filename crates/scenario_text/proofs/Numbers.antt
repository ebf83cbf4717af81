-- The number that digits write, read from the front.
use Rattle.std.proofs.Common.{◌≡◌, ℕ, ◌+◌, ◌*◌, ◌-◌, ◌≤◌, ◌<◌, Bool, true, false, ◌&&◌, List, [], ◌∷◌, length, get_or, drop, Some, None, refl, ap, arith, rules}
use Rattle.std.specs.Prelude.{if◌then◌else◌, nat_lt}
use Rattle.std.proofs.lemmas.List.{drop_more}
use Rattle.scenario_text.specs.Words.{number_on}

pub number_on-grows : (n : ℕ) (cs : List ℕ) → n ≤ number_on n cs
number_on-grows n [] = omega arith
number_on-grows n (c ∷ cs) = omega (arith, number_on-grows (10 * n + (c - 48)) cs)

not_below : (all : Bool) (n limit : ℕ) → limit ≤ n → (all && nat_lt n limit) ≡ false
not_below true n limit le = search (rules, le)
not_below false n limit le = refl

-- a number that is too large stays too large with each further digit
pub too_large : (all : Bool) (value limit total : ℕ) (word : List ℕ) (i : ℕ) → i < length word → number_on value (drop i word) ≡ total → limit ≤ 10 * value + (get_or word i 0 - 48)
    → None ≡ (if all && nat_lt total limit then Some total else None)
too_large all value limit total word i lt e le =
    let here : number_on value (drop i word) ≡ number_on (10 * value + (get_or word i 0 - 48)) (drop (i + 1) word) = ap (number_on value) (drop_more word i 0 lt) in
    let big : limit ≤ total = omega (arith, e, here, number_on-grows (10 * value + (get_or word i 0 - 48)) (drop (i + 1) word)) in
    rw (not_below all total limit big) refl
