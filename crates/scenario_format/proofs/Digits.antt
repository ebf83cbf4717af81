-- Octets that were read from hexadecimal digits are spelled by the same digits, in lower case.
use Rattle.std.proofs.Common.{◌≡◌, ◌∙◌, ℕ, zero, suc, ◌+◌, ◌*◌, ◌-◌, ◌/◌, ◌<◌, ◌≤◌, ◌%◌, ◌==◌, Bool, true, false, ◌&&◌, List, [], ◌∷◌, length, Option, Some, None, Result, Ok, Err, refl, sym, ap, arith}
use Rattle.std.specs.Prelude.{if◌then◌else◌, nat_lt, nat_le, map, slice_index, unwrap_or}
use Rattle.std.specs.Result.{result_ok, result_unwrap_or}
use Rattle.std.proofs.lemmas.Bool.{and_parts, leb-true, le-ltb, lt-ltb}
use Rattle.hex.specs.Hex.{◌>>=◌, hex_digit_value, digit_or_error, value_at, pair_value, decode_pairs, decode_of, lower_digits, encode_with, encode_lower}
use Rattle.hex.specs.declared.error.FromHexError.{FromHexError}
use Rattle.hex.specs.declared.error.FromHexError.TheVariants.{OddLength}
use Rattle.scenario_text.specs.Words.{Word}
use Rattle.scenario_text.specs.Fields.{octets_of_hex}
use Rattle.scenario_format.specs.Form.{low}
use Rattle.scenario_format.proofs.Given.{same_some, bound, guarded}

-- The lower-case digit of v is `0` to `9` below ten, and `a` to `f` from ten on.
digit_is : (v : ℕ) → v < 16 → slice_index lower_digits v ≡ (if nat_lt v 10 then v + 48 else v + 87)
digit_is zero h = refl
digit_is (suc zero) h = refl
digit_is (suc (suc zero)) h = refl
digit_is (suc (suc (suc zero))) h = refl
digit_is (suc (suc (suc (suc zero)))) h = refl
digit_is (suc (suc (suc (suc (suc zero))))) h = refl
digit_is (suc (suc (suc (suc (suc (suc zero)))))) h = refl
digit_is (suc (suc (suc (suc (suc (suc (suc zero))))))) h = refl
digit_is (suc (suc (suc (suc (suc (suc (suc (suc zero)))))))) h = refl
digit_is (suc (suc (suc (suc (suc (suc (suc (suc (suc zero))))))))) h = refl
digit_is (suc (suc (suc (suc (suc (suc (suc (suc (suc (suc zero)))))))))) h = refl
digit_is (suc (suc (suc (suc (suc (suc (suc (suc (suc (suc (suc zero))))))))))) h = refl
digit_is (suc (suc (suc (suc (suc (suc (suc (suc (suc (suc (suc (suc zero)))))))))))) h = refl
digit_is (suc (suc (suc (suc (suc (suc (suc (suc (suc (suc (suc (suc (suc zero))))))))))))) h = refl
digit_is (suc (suc (suc (suc (suc (suc (suc (suc (suc (suc (suc (suc (suc (suc zero)))))))))))))) h = refl
digit_is (suc (suc (suc (suc (suc (suc (suc (suc (suc (suc (suc (suc (suc (suc (suc zero))))))))))))))) h = refl
digit_is (suc (suc (suc (suc (suc (suc (suc (suc (suc (suc (suc (suc (suc (suc (suc (suc k)))))))))))))))) h = absurd (omega arith)

letter_is : (v c : ℕ) → 10 ≤ v → v + 87 ≡ c → (if nat_lt v 10 then v + 48 else v + 87) ≡ c
letter_is v c least e = let t : nat_lt v 10 ≡ false = le-ltb v 10 least in rw t e

numeral_is : (v c : ℕ) → v < 10 → v + 48 ≡ c → (if nat_lt v 10 then v + 48 else v + 87) ≡ c
numeral_is v c most e = let t : nat_lt v 10 ≡ true = lt-ltb v 10 most in rw t e

between : (a b c : ℕ) → (nat_le a c && nat_le c b) ≡ true → (a ≤ c) × (c ≤ b)
between a b c h = let parts = and_parts (nat_le a c) (nat_le c b) h in (leb-true a c parts.0, leb-true c b parts.1)

digit_by : (c v : ℕ) (upper small number : Bool) → (nat_le 65 c && nat_le c 70) ≡ upper → (nat_le 97 c && nat_le c 102) ≡ small → (nat_le 48 c && nat_le c 57) ≡ number
    → (if upper then Some (c - 55) else if small then Some (c - 87) else if number then Some (c - 48) else None) ≡ Some v
    → (v < 16) × ((if nat_lt v 10 then v + 48 else v + 87) ≡ (if upper then c + 32 else c))
digit_by c v true small number is other another e =
    let in_range = between 65 70 c is in
    let least = in_range.0 in
    let most = in_range.1 in
    let value = same_some (c - 55) v e in
    (omega (arith, value, least, most), letter_is v (c + 32) (omega (arith, value, least, most)) (omega (arith, value, least, most)))
digit_by c v false true number other is another e =
    let in_range = between 97 102 c is in
    let least = in_range.0 in
    let most = in_range.1 in
    let value = same_some (c - 87) v e in
    (omega (arith, value, least, most), letter_is v c (omega (arith, value, least, most)) (omega (arith, value, least, most)))
digit_by c v false false true other another is e =
    let in_range = between 48 57 c is in
    let least = in_range.0 in
    let most = in_range.1 in
    let value = same_some (c - 48) v e in
    (omega (arith, value, least, most), numeral_is v c (omega (arith, value, least, most)) (omega (arith, value, least, most)))
digit_by c v false false false other another more e = absurd cc

digit_told : (c v : ℕ) → hex_digit_value c ≡ Some v → (v < 16) × ((if nat_lt v 10 then v + 48 else v + 87) ≡ low c)
digit_told c v h = digit_by c v (nat_le 65 c && nat_le c 70) (nat_le 97 c && nat_le c 102) (nat_le 48 c && nat_le c 57) refl refl refl h

digit_spelled : (c v : ℕ) → hex_digit_value c ≡ Some v → slice_index lower_digits v ≡ low c
digit_spelled c v h = let told = digit_told c v h in digit_is v told.0 ∙ told.1

bound_ok : {A B : Type 0} (r : Result A FromHexError) (f : A → Result B FromHexError) (y : B) → (r >>= f) ≡ Ok y → (x : A) × (r ≡ Ok x) × (f x ≡ Ok y)
bound_ok (Ok x) f y e = (x, refl, e)
bound_ok (Err x) f y e = absurd cc

read_digit : (c i : ℕ) (o : Option ℕ) (v : ℕ) → digit_or_error c i o ≡ Ok v → o ≡ Some v
read_digit c i (Some w) v e = ap (λ (r : Result ℕ FromHexError). Some (result_unwrap_or r 0)) e
read_digit c i None v e = absurd cc

high_of : (h l : ℕ) → l < 16 → (h * 16 + l) / 16 ≡ h
high_of h l small = omega arith

low_of : (h l : ℕ) → l < 16 → (h * 16 + l) % 16 ≡ l
low_of h l small = omega arith

pairs_spelled : (i : ℕ) (text octets : List ℕ) → decode_pairs i text ≡ Ok octets → encode_with lower_digits octets ≡ map low text
unfolding decode_pairs encode_with
pairs_spelled i [] octets e = ap (λ (r : Result (List ℕ) FromHexError). encode_with lower_digits (result_unwrap_or r [])) (sym e)
pairs_spelled i (a ∷ []) octets e = absurd cc
pairs_spelled i (a ∷ b ∷ text) octets e =
    let byte = bound_ok (pair_value a b i) _ octets e in
    let high = bound_ok (value_at a i) _ byte.0 byte.1 in
    let last = bound_ok (value_at b (i + 1)) _ byte.0 high.2 in
    let others = bound_ok (decode_pairs (i + 2) text) _ octets byte.2 in
    let h = read_digit a i (hex_digit_value a) high.0 high.1 in
    let l = read_digit b (i + 1) (hex_digit_value b) last.0 last.1 in
    let small = (digit_told b last.0 l).0 in
    let is : high.0 * 16 + last.0 ≡ byte.0 = ap (λ (r : Result ℕ FromHexError). result_unwrap_or r 0) last.2 in
    let all : byte.0 ∷ others.0 ≡ octets = ap (λ (r : Result (List ℕ) FromHexError). result_unwrap_or r []) others.2 in
    let first : slice_index lower_digits (byte.0 / 16) ≡ low a = ap (λ (n : ℕ). slice_index lower_digits (n / 16)) (sym is) ∙ ap (slice_index lower_digits) (high_of high.0 last.0 small) ∙ digit_spelled a high.0 h in
    let second : slice_index lower_digits (byte.0 % 16) ≡ low b = ap (λ (n : ℕ). slice_index lower_digits (n % 16)) (sym is) ∙ ap (slice_index lower_digits) (low_of high.0 last.0 small) ∙ digit_spelled b last.0 l in
    ap (encode_with lower_digits) (sym all)
    ∙ ap (λ (c : ℕ). c ∷ slice_index lower_digits (byte.0 % 16) ∷ encode_with lower_digits others.0) first
    ∙ ap (λ (c : ℕ). low a ∷ c ∷ encode_with lower_digits others.0) second
    ∙ ap (λ (cs : List ℕ). low a ∷ low b ∷ cs) (pairs_spelled (i + 2) text others.0 others.1)

decoded : (r : Result (List ℕ) FromHexError) (os : List ℕ) → result_ok r ≡ Some os → r ≡ Ok os
decoded (Ok x) os e = ap (λ (o : Option (List ℕ)). Ok (unwrap_or o [])) e
decoded (Err x) os e = absurd cc

even_only : (odd : Bool) (r : Result (List ℕ) FromHexError) (os : List ℕ) → (if odd then Err OddLength else r) ≡ Ok os → r ≡ Ok os
even_only true r os e = absurd cc
even_only false r os e = e

pub hex_spelled : (most : ℕ) (w : Word) (os : List ℕ) → octets_of_hex most w ≡ Some os → encode_lower os ≡ map low w
unfolding octets_of_hex
hex_spelled most w os e =
    let octets = bound (result_ok (decode_of w)) _ os e in
    let kept = guarded (nat_le 1 (length octets.0) && nat_le (length octets.0) most) octets.0 os octets.2 in
    let read = even_only (length w % 2 == 1) (decode_pairs 0 w) octets.0 (decoded (decode_of w) octets.0 octets.1) in
    ap encode_lower (sym kept.1) ∙ pairs_spelled 0 w octets.0 read
