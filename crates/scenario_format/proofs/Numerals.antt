-- A number in decimal digits is read as that number.
use Rattle.std.proofs.Common.{◌≡◌, ℕ, zero, suc, ◌≤◌, ◌<◌, ◌^◌, true, false, not, ◌&&◌, ◌||◌, eqb, [], ◌∷◌, length, get_or, Some, refl, ap, arith, rules, inl, inr}
use Rattle.std.specs.Prelude.{◌⊎◌, nat_le, nat_lt}
use Rattle.std.specs.List.{list_all}
use Rattle.std.specs.Fmt.{decimal}
use Rattle.std.proofs.lemmas.Fmt.{digits_decimal, digits_value-decimal, decimal_digit, decimal_nonempty, first_decimal}
use Rattle.std.proofs.lemmas.Str.Parse.{IsNumeralModel, numerals_by_fold}
use Rattle.scenario_text.specs.Words.{Word, is_digit, number_on, is_numeral, number_of, number_in}
use Rattle.scenario_format.proofs.Clean.{is_inner, is_clean, and_left, and_right, and_both}

own : IsNumeralModel (λ ds. list_all is_digit ds ≡ true) (number_on 0)
own = numerals_by_fold _ (search rules) number_on (search rules)

pub number_back : (n : ℕ) → n < 2 ^ 64 → number_on 0 (decimal n) ≡ n
number_back n h = digits_value-decimal own n h

pub digits_back : (n : ℕ) → n < 2 ^ 64 → list_all is_digit (decimal n) ≡ true
digits_back n h = digits_decimal own n h

other : (c : ℕ) → 48 < c → eqb c 48 ≡ false
other c lt = grind arith

suc_no : (k : ℕ) → eqb (suc k) 0 ≡ false
suc_no k = search rules

numeral_by : (ds : Word) → list_all is_digit ds ≡ true → 0 < length ds → (length ds ≡ 1) ⊎ (48 < get_or ds 0 0) → is_numeral ds ≡ true
numeral_by [] all some h = absurd (omega arith)
numeral_by (c ∷ []) all some h = and_both (list_all is_digit (c ∷ [])) true all refl
numeral_by (c ∷ d ∷ cs) all some (inl e) = absurd (omega arith)
numeral_by (c ∷ d ∷ cs) all some (inr lt) = and_both (list_all is_digit (c ∷ d ∷ cs)) (eqb (length (d ∷ cs)) 0 || not (eqb c 48)) all (rw (suc_no (length cs), other c lt) refl)

starts_well : (n : ℕ) → n < 2 ^ 64 → (length (decimal n) ≡ 1) ⊎ (48 < get_or (decimal n) 0 0)
starts_well zero h = inl (ap length (decimal_digit 0 (omega arith)))
starts_well (suc n) h = inr (first_decimal (suc n) (omega arith) h)

below : (n limit : ℕ) → n < limit → nat_lt n limit ≡ true
below n limit lt = grind arith

at_least : (n m : ℕ) → n ≤ m → nat_le n m ≡ true
at_least n m le = grind arith

pub number_is : (n : ℕ) → n < 2 ^ 32 → number_of (decimal n) ≡ Some n
unfolding number_of
number_is n h =
    let small : n < 2 ^ 64 = omega arith in
    let numeral : is_numeral (decimal n) ≡ true = numeral_by (decimal n) (digits_back n small) (decimal_nonempty n small) (starts_well n small) in
    rw (numeral, number_back n small, below n (2 ^ 32) h) refl

pub number_in_is : (least most n : ℕ) → least ≤ n → n ≤ most → most < 2 ^ 32 → number_in least most (decimal n) ≡ Some n
unfolding number_in
number_in_is least most n low high limit =
    rw (number_is n (omega arith)) (let h : (nat_le least n && nat_le n most) ≡ true = and_both (nat_le least n) (nat_le n most) (at_least least n low) (at_least n most high) in rw h refl)

digit_inner : (b : ℕ) → is_digit b ≡ true → is_inner b ≡ true
digit_inner b h = grind arith

digits_inner : (ds : Word) → list_all is_digit ds ≡ true → list_all is_inner ds ≡ true
digits_inner [] h = refl
digits_inner (d ∷ ds) h = and_both (is_inner d) (list_all is_inner ds) (digit_inner d (and_left (is_digit d) (list_all is_digit ds) h)) (digits_inner ds (and_right (is_digit d) (list_all is_digit ds) h))

clean_by : (ds : Word) → 0 < length ds → list_all is_inner ds ≡ true → is_clean ds ≡ true
clean_by [] some h = absurd (omega arith)
clean_by (d ∷ ds) some h = h

pub number_clean : (n : ℕ) → n < 2 ^ 64 → is_clean (decimal n) ≡ true
number_clean n h = clean_by (decimal n) (decimal_nonempty n h) (digits_inner (decimal n) (digits_back n h))
