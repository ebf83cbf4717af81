-- When a disk isn't blank.
use Rattle.std.proofs.Common.{◌≡◌, ◌≤◌, ◌<◌, inl, inr, ℕ, Bool, true, false, List, length, take, refl, sym, ◌∙◌, ap, arith}
use Rattle.std.specs.Prelude.{nat_le, not, ◌&&◌, ◌==◌}
use Rattle.std.specs.Str.{bytes_eq}
use Rattle.std.proofs.lemmas.Bool.{cases_lt}
use Rattle.std.proofs.lemmas.Bool.Decides.{nat_tests}
use Rattle.std.proofs.lemmas.List.{take-take}
use Rattle.std.proofs.lemmas.Slice.Eq.{bytes_eq-Decides}
use Rattle.range_journal.specs.Header.{new_header, is_new, is_blank}

sure_of : (b : Bool) → not b ≡ false → b ≡ true
sure_of true e = refl
sure_of false e = absurd cc

and_first : (a b : Bool) → (a && b) ≡ true → a ≡ true
and_first true b e = refl
and_first false b e = absurd cc

and_second : (a b : Bool) → (a && b) ≡ true → b ≡ true
and_second true b e = e
and_second false b e = absurd cc

pub long_plain : (i : List ℕ) → 17 < length i → is_blank i ≡ false
long_plain i more =
    let over : nat_le (length i) 17 ≡ false = grind (arith, nat_tests) in
    ap (λ (b : Bool). b && not (is_new i)) over

-- A disk with the head of a new journal and at least one more octet isn't blank.
pub new_plain : (i : List ℕ) → 17 ≤ length i → take 16 i ≡ new_header → is_blank i ≡ false
new_plain i some head = elim (cases_lt 17 (length i)) [
  | inl more ↦ long_plain i more
  | inr few ↦
      let is : length i ≡ 17 = omega (arith, some, few) in
      let within : nat_le (length i) 17 ≡ true = grind (arith, nat_tests) in
      let named : bytes_eq (take 16 i) new_header ≡ true = (bytes_eq-Decides (take 16 i) new_header).1 head in
      λ j. within j && not ((is j == 17) && named j)
]

-- A disk of at most 17 octets that isn't blank has exactly 17 octets, and begins with the head of a new journal.
pub short_new : (i : List ℕ) → length i ≤ 17 → is_blank i ≡ false → (length i ≡ 17) × (take 16 i ≡ new_header)
short_new i few plain =
    let within : nat_le (length i) 17 ≡ true = grind (arith, nat_tests) in
    let sure : is_new i ≡ true = sure_of (is_new i) (ap (λ (b : Bool). b && not (is_new i)) (sym within) ∙ plain) in
    let long : (length i == 17) ≡ true = and_first (length i == 17) (bytes_eq (take 16 i) new_header) sure in
    (grind (arith, nat_tests), (bytes_eq-Decides (take 16 i) new_header).0 (and_second (length i == 17) (bytes_eq (take 16 i) new_header) sure))

-- A disk isn't blank if it has the head of another disk that isn't blank, and is no shorter.
pub plain_on : (c i : List ℕ) → length c ≤ length i → take 16 i ≡ take 16 c → is_blank c ≡ false → is_blank i ≡ false
plain_on c i le head plain = elim (cases_lt 17 (length i)) [
  | inl more ↦ long_plain i more
  | inr few ↦ let was = short_new c (omega (arith, le, few)) plain in new_plain i (omega (arith, was.0, le)) (head ∙ was.1)
]

-- Disks whose first n octets are the same have the same head, if n is at least 16.
pub head_in : (n : ℕ) (c i : List ℕ) → 16 ≤ n → take n i ≡ take n c → take 16 i ≡ take 16 c
head_in n c i le same = sym (take-take 16 n i le) ∙ ap (λ (l : List ℕ). take 16 l) same ∙ take-take 16 n c le
