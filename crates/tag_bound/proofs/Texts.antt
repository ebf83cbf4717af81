-- Different texts have different blocks. So the difference of their hashes is a polynomial in the key other than zero.
use Rattle.std.proofs.Common.{◌≡◌, ℕ, zero, suc, ◌+◌, ◌-◌, ◌*◌, ◌/◌, ◌^◌, ◌<◌, List, [], ◌∷◌, ◌++◌, length, take, drop, replicate, get_or, refl, sym, ap, subst, ◌∙◌, arith, lit<, length-append, length-drop}
use Rattle.std.specs.Prelude.{bit_xor, reverse}
use Rattle.std.specs.List.{AllByRecursion}
use Rattle.std.specs.Int.{w64, from_be_bytes}
use Rattle.std.proofs.Math.Seq.{take-append_seam}
use Rattle.std.proofs.lemmas.Nat.{be_bytes_8, xor_comm}
use Rattle.std.proofs.lemmas.List.{take-append-drop, length-take-le, length-replicate, length-reverse, reverse-reverse, reverse-append}
use Rattle.std.proofs.lemmas.Grind.{reverse_onto}
use Rattle.gf64.specs.Field.{product, power}
use Rattle.gf64.proofs.Ring.{product_below, commutes}
use Rattle.gf64.proofs.Powers.{power_below, power_more}
use Rattle.wc_tags.specs.Tag.{block_count, padded, numbers, blocks_of, weighed, hash}
use Rattle.wc_tags.proofs.Horner.{AreElements}
use Rattle.tag_bound.proofs.Polynomials.{value, value_none, value_below, value_last, times_zero, times_xor, times_exchange, same_from_xor, sums, sums_more}
use Rattle.tag_bound.proofs.FewRoots.{AreZero}

-- ---- octets

abbrev pub AreOctets : List ℕ → Type 0
AreOctets octets = AllByRecursion (λ octet. octet < 256) octets

pub octets_from : (octets : List ℕ) → ((i : ℕ) → get_or octets i 0 < 256) → AreOctets octets
octets_from [] small = tt
octets_from (b ∷ bs) small = (small 0, octets_from bs (λ i. small (suc i)))

octet_at : (octets : List ℕ) → AreOctets octets → (i : ℕ) → get_or octets i 0 < 256
octet_at [] all i = lit< tt
octet_at (b ∷ bs) all zero = all.0
octet_at (b ∷ bs) all (suc i) = octet_at bs all.1 i

octets_append : (xs ys : List ℕ) → AreOctets xs → AreOctets ys → AreOctets (xs ++ ys)
octets_append [] ys a b = b
octets_append (x ∷ xs) ys a b = (a.0, octets_append xs ys a.1 b)

octets_zeros : (n : ℕ) → AreOctets (replicate n 0)
octets_zeros zero = tt
octets_zeros (suc n) = (lit< tt, octets_zeros n)

octets_take : (n : ℕ) (xs : List ℕ) → AreOctets xs → AreOctets (take n xs)
octets_take zero xs a = tt
octets_take (suc n) [] a = tt
octets_take (suc n) (x ∷ xs) a = (a.0, octets_take n xs a.1)

octets_drop : (n : ℕ) (xs : List ℕ) → AreOctets xs → AreOctets (drop n xs)
octets_drop zero xs a = a
octets_drop (suc n) [] a = tt
octets_drop (suc n) (x ∷ xs) a = octets_drop n xs a.1

padded_octets : (text : List ℕ) → AreOctets text → AreOctets (padded text)
padded_octets text all = octets_append text (replicate (8 * block_count text - length text) 0) all (octets_zeros (8 * block_count text - length text))

padded_length : (text : List ℕ) → length (padded text) ≡ 8 * block_count text
padded_length text =
    length-append text (replicate (8 * block_count text - length text) 0) ∙ ap (λ (n : ℕ). length text + n) (length-replicate (8 * block_count text - length text) 0) ∙ omega arith

-- ---- blocks

number_below : (octets : List ℕ) → AreOctets octets → from_be_bytes w64 octets < 2 ^ 64
number_below octets all = by_octet (octet_at octets all)
  where
    by_octet : ((i : ℕ) → get_or octets i 0 < 256) → from_be_bytes w64 octets < 2 ^ 64
    by_octet small = omega (arith, small 0, small 1, small 2, small 3, small 4, small 5, small 6, small 7)

elements : (n size : ℕ) (octets : List ℕ) → AreOctets octets → size < 2 ^ 64 → AreElements (numbers n octets ++ size ∷ [])
elements zero size octets all lt = (lt, tt)
elements (suc n) size octets all lt = (number_below (take 8 octets) (octets_take 8 octets all), elements n size (drop 8 octets) (octets_drop 8 octets all) lt)

pub blocks_elements : (text : List ℕ) → AreOctets text → length text < 2 ^ 64 → AreElements (blocks_of text)
unfolding blocks_of
blocks_elements text all lt = elements (block_count text) (length text) (padded text) (padded_octets text all) lt

numbers_length : (n : ℕ) (octets : List ℕ) → length (numbers n octets) ≡ n
numbers_length zero octets = refl
numbers_length (suc n) octets = ap suc (numbers_length n (drop 8 octets))

pub blocks_length : (text : List ℕ) → length (blocks_of text) ≡ block_count text + 1
unfolding blocks_of
blocks_length text =
    length-append (numbers (block_count text) (padded text)) (length text ∷ []) ∙ ap (λ (n : ℕ). n + 1) (numbers_length (block_count text) (padded text))

-- a block determines its octets
octets_of_number : (xs ys : List ℕ) → AreOctets xs → AreOctets ys → length xs ≡ 8 → length ys ≡ 8 → from_be_bytes w64 xs ≡ from_be_bytes w64 ys → xs ≡ ys
octets_of_number xs ys ax ay lx ly e =
    sym (be_bytes_8 xs (from_be_bytes w64 xs) lx (octet_at xs ax) refl) ∙ be_bytes_8 ys (from_be_bytes w64 xs) ly (octet_at ys ay) e

empty : (xs : List ℕ) → length xs ≡ 0 → xs ≡ []
empty [] e = refl
empty (x ∷ xs) e = absurd (omega arith)

head_of : List ℕ → ℕ
head_of [] = 0
head_of (x ∷ xs) = x

tail_of : List ℕ → List ℕ
tail_of [] = []
tail_of (x ∷ xs) = xs

same_head : (x y : ℕ) (xs ys : List ℕ) → x ∷ xs ≡ y ∷ ys → x ≡ y
unfolding head_of
same_head x y xs ys e = ap head_of e

same_tail : (x y : ℕ) (xs ys : List ℕ) → x ∷ xs ≡ y ∷ ys → xs ≡ ys
unfolding tail_of
same_tail x y xs ys e = ap tail_of e

octets_of_numbers : (n : ℕ) (xs ys : List ℕ) → AreOctets xs → AreOctets ys → length xs ≡ 8 * n → length ys ≡ 8 * n → numbers n xs ≡ numbers n ys → xs ≡ ys
octets_of_numbers zero xs ys ax ay lx ly e = empty xs (omega arith) ∙ sym (empty ys (omega arith))
octets_of_numbers (suc n) xs ys ax ay lx ly e =
    let first : take 8 xs ≡ take 8 ys =
    octets_of_number (take 8 xs) (take 8 ys) (octets_take 8 xs ax) (octets_take 8 ys ay) (length-take-le 8 xs (omega arith)) (length-take-le 8 ys (omega arith))
    (same_head (from_be_bytes w64 (take 8 xs)) (from_be_bytes w64 (take 8 ys)) (numbers n (drop 8 xs)) (numbers n (drop 8 ys)) e) in
    let rest : drop 8 xs ≡ drop 8 ys =
    octets_of_numbers n (drop 8 xs) (drop 8 ys) (octets_drop 8 xs ax) (octets_drop 8 ys ay) (omega (arith, length-drop 8 xs)) (omega (arith, length-drop 8 ys))
    (same_tail (from_be_bytes w64 (take 8 xs)) (from_be_bytes w64 (take 8 ys)) (numbers n (drop 8 xs)) (numbers n (drop 8 ys)) e) in
    sym (take-append-drop 8 xs) ∙ ap (λ (f : List ℕ). f ++ drop 8 xs) first ∙ ap (λ (r : List ℕ). take 8 ys ++ r) rest ∙ take-append-drop 8 ys

-- the length of a text and the blocks before the length block determine the text
text_of_numbers : (a b : List ℕ) → AreOctets a → AreOctets b → length a ≡ length b → numbers (block_count a) (padded a) ≡ numbers (block_count b) (padded b) → a ≡ b
text_of_numbers a b aa ab size e =
    let count : block_count a ≡ block_count b = ap (λ (n : ℕ). (n + 7) / 8) size in
    let whole : padded a ≡ padded b =
    octets_of_numbers (block_count b) (padded a) (padded b) (padded_octets a aa) (padded_octets b ab) (padded_length a ∙ ap (λ (n : ℕ). 8 * n) count) (padded_length b)
    (ap (λ (n : ℕ). numbers n (padded a)) (sym count) ∙ e) in
    sym (take-append_seam a (replicate (8 * block_count a - length a) 0)) ∙ ap (take (length a)) whole ∙ ap (λ (n : ℕ). take n (padded b)) size ∙ take-append_seam b (replicate (8 * block_count b - length b) 0)

-- ---- coefficients

-- the coefficients of the hash, from that of the key's first power on: the length, then the blocks from the last to the
-- first
pub coefficients : List ℕ → List ℕ
coefficients text = reverse (blocks_of text)

coefficients_are : (text : List ℕ) → coefficients text ≡ length text ∷ reverse (numbers (block_count text) (padded text))
unfolding coefficients blocks_of
coefficients_are text = reverse-append (numbers (block_count text) (padded text)) (length text ∷ [])

pub coefficients_length : (text : List ℕ) → length (coefficients text) ≡ length (blocks_of text)
unfolding coefficients
coefficients_length text = length-reverse (blocks_of text)

-- lists of equal length whose sums are all 0 are equal
same_from_sums : (xs ys : List ℕ) → length xs ≡ length ys → AreZero (sums xs ys) → xs ≡ ys
same_from_sums [] [] size none = refl
same_from_sums [] (y ∷ ys) size none = absurd (omega arith)
same_from_sums (x ∷ xs) [] size none = absurd (omega arith)
same_from_sums (x ∷ xs) (y ∷ ys) size none =
    let terms : AreZero (bit_xor x y ∷ sums xs ys) = subst (λ (cs : List ℕ). AreZero cs) (sums_more x y xs ys) none in
    ap (λ (z : ℕ). z ∷ xs) (same_from_xor x y terms.0) ∙ ap (λ (zs : List ℕ). y ∷ zs) (same_from_sums xs ys (omega arith) terms.1)

told : (a b : List ℕ) → AreOctets a → AreOctets b → AreZero (bit_xor (length a) (length b) ∷ sums (reverse (numbers (block_count a) (padded a))) (reverse (numbers (block_count b) (padded b)))) → a ≡ b
told a b aa ab none =
    let size : length a ≡ length b = same_from_xor (length a) (length b) none.0 in
    let na : List ℕ = numbers (block_count a) (padded a) in
    let nb : List ℕ = numbers (block_count b) (padded b) in
    let count : length (reverse na) ≡ length (reverse nb) =
    length-reverse na ∙ numbers_length (block_count a) (padded a) ∙ ap (λ (n : ℕ). (n + 7) / 8) size ∙ sym (length-reverse nb ∙ numbers_length (block_count b) (padded b)) in
    let same : reverse na ≡ reverse nb = same_from_sums (reverse na) (reverse nb) count none.1 in
    text_of_numbers a b aa ab size (sym (reverse-reverse na) ∙ ap reverse same ∙ reverse-reverse nb)

pub not_zero : (a b : List ℕ) → AreOctets a → AreOctets b → (a ≡ b → ⊥) → AreZero (sums (coefficients a) (coefficients b)) → ⊥
not_zero a b aa ab apart none =
    apart (told a b aa ab (subst (λ (cs : List ℕ). AreZero cs)
    (ap (λ (cs : List ℕ). sums cs (coefficients b)) (coefficients_are a) ∙ ap (sums (length a ∷ reverse (numbers (block_count a) (padded a)))) (coefficients_are b)
    ∙ sums_more (length a) (length b) (reverse (numbers (block_count a) (padded a))) (reverse (numbers (block_count b) (padded b)))) none))

-- ---- the hash is the key times the value of the coefficients

reversed_elements : (ms : List ℕ) → AreElements ms → AreElements (reverse ms)
reversed_elements [] all = tt
reversed_elements (m ∷ ms) all = subst (λ (cs : List ℕ). AreElements cs) (sym (reverse_onto ms m [])) (appended (reverse ms) (reversed_elements ms all.1))
  where
    appended : (cs : List ℕ) → AreElements cs → AreElements (cs ++ m ∷ [])
    appended [] ac = (all.0, tt)
    appended (c ∷ cs) ac = (ac.0, appended cs ac.1)

pub coefficients_elements : (text : List ℕ) → AreOctets text → length text < 2 ^ 64 → AreElements (coefficients text)
unfolding coefficients
coefficients_elements text all lt = reversed_elements (blocks_of text) (blocks_elements text all lt)

weighed_value : (k : ℕ) (ms : List ℕ) → k < 2 ^ 64 → AreElements ms → weighed k ms ≡ product k (value k (reverse ms))
unfolding weighed
weighed_value k [] lk all = sym (ap (product k) (value_none k) ∙ times_zero k lk)
weighed_value k (m ∷ ms) lk all =
    let rs : List ℕ = reverse ms in
    let p : ℕ = power k (length rs) in
    let lp : p < 2 ^ 64 = power_below k (length rs) lk in
    let ers : AreElements rs = reversed_elements ms all.1 in
    let count : length rs + 1 ≡ length ms + 1 = ap (λ (n : ℕ). n + 1) (length-reverse ms) in
    let first : product k (product m p) ≡ product m (power k (length ms + 1)) =
    times_exchange k m p lk all.0 lp ∙ ap (product m) (commutes k p lk lp ∙ sym (power_more k (length rs)) ∙ ap (power k) count) in
    ap (bit_xor (product m (power k (length ms + 1)))) (weighed_value k ms lk all.1)
    ∙ xor_comm (product m (power k (length ms + 1))) (product k (value k rs)) ∙ ap (bit_xor (product k (value k rs))) (sym first)
    ∙ sym (ap (λ (cs : List ℕ). product k (value k cs)) (reverse_onto ms m [])
    ∙ ap (product k) (value_last k m rs lk all.0 ers)
    ∙ times_xor k (value k rs) (product m p) lk (value_below k rs lk ers) (product_below m p all.0))

pub hash_value : (k : ℕ) (text : List ℕ) → k < 2 ^ 64 → AreOctets text → length text < 2 ^ 64 → hash k text ≡ product k (value k (coefficients text))
unfolding hash coefficients
hash_value k text lk all lt = weighed_value k (blocks_of text) lk (blocks_elements text all lt)
