-- 0 and 1 are the only elements equal to their squares.
use Rattle.std.proofs.Common.{◌≡◌, ℕ, ◌/◌, ◌^◌, ◌<◌, Bool, true, false, eqb, List, [], ◌∷◌, refl, sym, ap, ◌∙◌, lit≤, inl, inr}
use Rattle.std.specs.Prelude.{bit_xor, ◌⊎◌}
use Rattle.std.proofs.lemmas.Bool.{eqb-true}
use Rattle.std.specs.Int.Bits.{xor_assoc, xor_self, xor_zero_l, xor_zero_r, xor_shr}
use Rattle.gf64.specs.Field.{coefficient, part, poly_times, remainder, product}
use Rattle.gf64.specs.Laws.{HasTwoIdempotents}
use Rattle.gf64.proofs.Sums.{swap_middle, part_differ, coefficient_xor}
use Rattle.gf64.proofs.Maps.{all_below, passes, KeepsSums, same_map}
use Rattle.gf64.proofs.Squares.{square_xor}

-- the sum of an element and its square
gap : ℕ → ℕ
gap a = bit_xor (product a a) a

gap_xor : KeepsSums gap
unfolding gap
gap_xor a b la lb = ap (λ (x : ℕ). bit_xor x (bit_xor a b)) (square_xor a b la lb) ∙ swap_middle (product a a) (product b b) a b

-- the sum of those numbers of the list at whose index the element has a term
combined : List ℕ → ℕ → ℕ
combined [] a = 0
combined (t ∷ ts) a = bit_xor (part (coefficient 0 a) t) (combined ts (a / 2))

combined_xor : (ts : List ℕ) (a b : ℕ) → combined ts (bit_xor a b) ≡ bit_xor (combined ts a) (combined ts b)
unfolding combined
combined_xor [] a b = refl
combined_xor (t ∷ ts) a b =
    let half : bit_xor a b / 2 ≡ bit_xor (a / 2) (b / 2) = xor_shr a b 1 in
    ap (λ (n : ℕ). bit_xor (part (coefficient 0 (bit_xor a b)) t) (combined ts n)) half
    ∙ ap (bit_xor (part (coefficient 0 (bit_xor a b)) t)) (combined_xor ts (a / 2) (b / 2))
    ∙ ap (λ (n : ℕ). bit_xor n (bit_xor (combined ts (a / 2)) (combined ts (b / 2)))) (ap (λ (c : Bool). part c t) (coefficient_xor 0 a b) ∙ part_differ (coefficient 0 a) (coefficient 0 b) t)
    ∙ swap_middle (part (coefficient 0 a) t) (part (coefficient 0 b) t) (combined ts (a / 2)) (combined ts (b / 2))

-- a map from the gap of an element to the element without its lowest term, found by solving 64 linear equations
table : List ℕ
table =
    0x19c9369f278adc02 ∷ 0x84b2b22ab2383ee4 ∷ 0x84b2b22ab2383ee6 ∷ 0x9d7b84b495b3e3f6 ∷
    0x84b2b22ab2383ee2 ∷ 0x37c470b49213f790 ∷ 0x9d7b84b495b3e3fe ∷ 0x0001000a0105137c ∷
    0x84b2b22ab2383ef2 ∷ 0x368e964a8edce1fc ∷ 0x37c470b49213f7b0 ∷ 0x19c9368e278fdf4c ∷
    0x9d7b84b495b3e3be ∷ 0x2e4da23cbc7d4570 ∷ 0x0001000a010513fc ∷ 0x84f35772bac24232 ∷
    0x84b2b22ab2383ff2 ∷ 0x37c570ba9314e4fc ∷ 0x368e964a8edce3fc ∷ 0xb377c390213cdb0e ∷
    0x37c470b49213f3b0 ∷ 0x85ed5a3aa99c24f2 ∷ 0x19c9368e278fd74c ∷ 0xaabff0000780000e ∷
    0x9d7b84b495b3f3be ∷ 0x84b6b3dab03038f2 ∷ 0x2e4da23cbc7d6570 ∷ 0x000511ea03494ffc ∷
    0x0001000a010553fc ∷ 0xae0c0220343c6c0e ∷ 0x84f35772bac2c232 ∷ 0x800000008000000e ∷
    0x84b2b22ab2393ff2 ∷ 0xb376c29c202bc97e ∷ 0x37c570ba9316e4fc ∷ 0x9c3062488879e6ce ∷
    0x368e964a8ed8e3fc ∷ 0x0041e42c08e47e70 ∷ 0xb377c3902134db0e ∷ 0x85b9b108a60f56ce ∷
    0x37c470b49203f3b0 ∷ 0x19dd3b6e21f3cb4c ∷ 0x85ed5a3aa9bc24f2 ∷ 0x198ddf682c428ac0 ∷
    0x19c9368e27cfd74c ∷ 0x04b7c68431ca84b0 ∷ 0xaabff0000700000e ∷ 0x8040655489ffefbe ∷
    0x9d7b84b494b3f3be ∷ 0x18c1354e32bfa74c ∷ 0x84b6b3dab23038f2 ∷ 0xaaf613cc0f74627e ∷
    0x2e4da23cb87d6570 ∷ 0x3248b3d6b3342a8c ∷ 0x000511ea0b494ffc ∷ 0xb60813c00e70700e ∷
    0x0001000a110553fc ∷ 0x1e0d022a05393ffc ∷ 0xae0c0220143c6c0e ∷ 0x0e0c0220143c6c00 ∷
    0x84f35772fac2c232 ∷ 0x0000000000000000 ∷ 0x800000000000000e ∷ 0xc041e55948fbfdce ∷ []

without_lowest : ℕ → ℕ
without_lowest a = bit_xor a (part (coefficient 0 a) 1)

without_lowest_xor : KeepsSums without_lowest
unfolding without_lowest
without_lowest_xor a b la lb =
    ap (bit_xor (bit_xor a b)) (ap (λ (c : Bool). part c 1) (coefficient_xor 0 a b) ∙ part_differ (coefficient 0 a) (coefficient 0 b) 1)
    ∙ swap_middle a b (part (coefficient 0 a) 1) (part (coefficient 0 b) 1)

table_undoes : all_below 64 (λ i. eqb (combined table (gap (2 ^ i))) (without_lowest (2 ^ i))) ≡ true
unfolding all_below table combined gap without_lowest product remainder poly_times
table_undoes = refl

undone_xor : KeepsSums (λ a. combined table (gap a))
undone_xor a b la lb = ap (combined table) (gap_xor a b la lb) ∙ combined_xor table (gap a) (gap b)

undone : (a : ℕ) → a < 2 ^ 64 → combined table (gap a) ≡ without_lowest a
undone a lt =
    same_map (λ a. combined table (gap a)) without_lowest undone_xor without_lowest_xor 64 (lit≤ tt)
    (λ (i : ℕ) (below : i < 64). eqb-true (combined table (gap (2 ^ i))) (without_lowest (2 ^ i)) (passes 64 i (λ i. eqb (combined table (gap (2 ^ i))) (without_lowest (2 ^ i))) table_undoes below)) a lt

only_lowest : (c : Bool) (a : ℕ) → bit_xor a (part c 1) ≡ 0 → (a ≡ 0) ⊎ (a ≡ 1)
only_lowest true a e = inr (sym (xor_assoc a 1 1 ∙ ap (bit_xor a) (xor_self 1) ∙ xor_zero_r a) ∙ ap (λ (x : ℕ). bit_xor x 1) e ∙ xor_zero_l 1)
only_lowest false a e = inl (sym (xor_zero_r a) ∙ e)

pub two_idempotents : HasTwoIdempotents
unfolding gap without_lowest
two_idempotents a lt e =
    let none : gap a ≡ 0 = ap (λ (x : ℕ). bit_xor x a) e ∙ xor_self a in
    let nothing : combined table 0 ≡ 0 = ap (combined table) (sym (xor_self 0)) ∙ combined_xor table 0 0 ∙ xor_self (combined table 0) in
    only_lowest (coefficient 0 a) a (sym (undone a lt) ∙ ap (combined table) none ∙ nothing)
