-- The blocks of a text, in order.
use Rattle.std.proofs.Common.{◌≡◌, ℕ, zero, suc, ◌+◌, ◌-◌, ◌*◌, ◌^◌, ◌<◌, ◌≤◌, List, [], ◌∷◌, ◌++◌, length, take, drop, replicate, get_or, refl, sym, ap, ◌∙◌, arith, lit<}
use Rattle.std.specs.Prelude.{bit_xor}
use Rattle.std.specs.List.{AllByRecursion}
use Rattle.std.specs.Int.{w64, from_be_bytes}
use Rattle.std.proofs.lemmas.Nat.{xor_lt}
use Rattle.std.proofs.lemmas.List.{take_all, drop-append-le, drop-drop, drop-replicate, length-drop, length-append, length-replicate}
use Rattle.gf64.specs.Field.{product}
use Rattle.gf64.proofs.Ring.{commutes}
use Rattle.wc_tags.specs.Tag.{block_count, padded, numbers, blocks_of, hash}
use Rattle.wc_tags.proofs.Horner.{horner, AreElements, from_zero, first_one, last_one}

-- ---- lists of octets

abbrev AreOctets : List ℕ → Type 0
AreOctets octets = AllByRecursion (λ b. b < 256) octets

octets_from : (octets : List ℕ) → ((i : ℕ) → get_or octets i 0 < 256) → AreOctets octets
octets_from [] small = tt
octets_from (b ∷ bs) small = (small 0, octets_from bs (λ i. small (suc i)))

octet_at : (octets : List ℕ) → AreOctets octets → (i : ℕ) → get_or octets i 0 < 256
octet_at [] all i = lit< tt
octet_at (b ∷ bs) all zero = all.0
octet_at (b ∷ bs) all (suc i) = octet_at bs all.1 i

octets_append : (xs ys : List ℕ) → AreOctets xs → AreOctets ys → AreOctets (xs ++ ys)
octets_append [] ys a b = b
octets_append (x ∷ xs) ys a b = (a.0, octets_append xs ys a.1 b)

octets_zeros : (n : ℕ) → AreOctets (replicate n 0)
octets_zeros zero = tt
octets_zeros (suc n) = (lit< tt, octets_zeros n)

octets_take : (n : ℕ) (xs : List ℕ) → AreOctets xs → AreOctets (take n xs)
octets_take zero xs a = tt
octets_take (suc n) [] a = tt
octets_take (suc n) (x ∷ xs) a = (a.0, octets_take n xs a.1)

octets_drop : (n : ℕ) (xs : List ℕ) → AreOctets xs → AreOctets (drop n xs)
octets_drop zero xs a = a
octets_drop (suc n) [] a = tt
octets_drop (suc n) (x ∷ xs) a = octets_drop n xs a.1

-- ---- each block is an element of the field

number_below : (octets : List ℕ) → AreOctets octets → from_be_bytes w64 octets < 2 ^ 64
number_below octets all = by_octet (octet_at octets all)
  where
    by_octet : ((i : ℕ) → get_or octets i 0 < 256) → from_be_bytes w64 octets < 2 ^ 64
    by_octet small = omega (arith, small 0, small 1, small 2, small 3, small 4, small 5, small 6, small 7)

elements : (n size : ℕ) (octets : List ℕ) → AreOctets octets → size < 2 ^ 64 → AreElements (numbers n octets ++ size ∷ [])
elements zero size octets all lt = (lt, tt)
elements (suc n) size octets all lt = (number_below (take 8 octets) (octets_take 8 octets all), elements n size (drop 8 octets) (octets_drop 8 octets all) lt)

-- ---- the blocks of a text that are not hashed yet

pub rest_of : ℕ → List ℕ → List ℕ
rest_of i text = numbers (block_count text - i) (drop (8 * i) (padded text)) ++ length text ∷ []

rest_whole : (text : List ℕ) → rest_of 0 text ≡ blocks_of text
unfolding rest_of blocks_of
rest_whole text =
    let none : block_count text - 0 ≡ block_count text = omega arith in
    ap (λ (n : ℕ). numbers n (padded text) ++ length text ∷ []) none

rest_end : (i : ℕ) (text : List ℕ) → block_count text ≤ i → rest_of i text ≡ length text ∷ []
unfolding rest_of
rest_end i text le =
    let none : block_count text - i ≡ 0 = omega (arith, le) in
    rw none refl

drop_padded : (i : ℕ) (text : List ℕ) → 8 * i ≤ length text → drop (8 * i) (padded text) ≡ padded (drop (8 * i) text)
drop_padded i text le =
    let rest : length (drop (8 * i) text) ≡ length text - 8 * i = length-drop (8 * i) text in
    let same : 8 * block_count text - length text ≡ 8 * block_count (drop (8 * i) text) - length (drop (8 * i) text) = rw rest (omega (arith, le)) in
    drop-append-le (8 * i) text (replicate (8 * block_count text - length text) 0) le ∙ ap (λ (n : ℕ). drop (8 * i) text ++ replicate n 0) same

rest_more : (i : ℕ) (text : List ℕ) → i < block_count text → rest_of i text ≡ from_be_bytes w64 (take 8 (padded (drop (8 * i) text))) ∷ rest_of (i + 1) text
unfolding rest_of
rest_more i text lt =
    let k : block_count text - i ≡ suc (block_count text - (i + 1)) = omega (arith, lt) in
    let within : 8 * i ≤ length text = omega (arith, lt) in
    let j : 8 * i + 8 ≡ 8 * (i + 1) = omega arith in
    let next : drop 8 (drop (8 * i) (padded text)) ≡ drop (8 * (i + 1)) (padded text) = drop-drop 8 (8 * i) (padded text) ∙ ap (λ (n : ℕ). drop n (padded text)) j in
    ap (λ (n : ℕ). numbers n (drop (8 * i) (padded text)) ++ length text ∷ []) k
    ∙ ap (λ (o : List ℕ). from_be_bytes w64 (take 8 o) ∷ (numbers (block_count text - (i + 1)) (drop 8 (drop (8 * i) (padded text))) ++ length text ∷ [])) (drop_padded i text within)
    ∙ ap (λ (o : List ℕ). from_be_bytes w64 (take 8 (padded (drop (8 * i) text))) ∷ (numbers (block_count text - (i + 1)) o ++ length text ∷ [])) next

-- ---- the loop over the blocks

pub to_the_end : (n : ℕ) (text : List ℕ) → take (length text - n) (drop n text) ≡ drop n text
to_the_end n text = take_all (length text - n) (drop n text) (omega (arith, length-drop n text))

pub start : (key : ℕ) (text : List ℕ) → key < 2 ^ 64 → length text < 2 ^ 64 → ((i : ℕ) → get_or text i 0 < 256) → horner key 0 (rest_of 0 text) ≡ hash key text
unfolding hash blocks_of
start key text lk lt small =
    let octets : AreOctets (padded text) = octets_append text (replicate (8 * block_count text - length text) 0) (octets_from text small) (octets_zeros (8 * block_count text - length text)) in
    ap (horner key 0) (rest_whole text) ∙ from_zero key (numbers (block_count text) (padded text) ++ length text ∷ []) lk (elements (block_count text) (length text) (padded text) octets lt)

-- multiplying by the table of the key gives the product with the key
turned : (key table x : ℕ) → key < 2 ^ 64 → x < 2 ^ 64 → table ≡ key → product table x ≡ product x key
turned key table x lk lx e = ap (λ (k : ℕ). product k x) e ∙ commutes key x lk lx

pub step : (key table sum next block i total : ℕ) (text : List ℕ) → key < 2 ^ 64 → sum < 2 ^ 64 → block < 2 ^ 64 → table ≡ key → i < block_count text
    → block ≡ from_be_bytes w64 (take 8 (padded (drop (8 * i) text))) → next ≡ product table (bit_xor sum block)
    → horner key sum (rest_of i text) ≡ total → horner key next (rest_of (i + 1) text) ≡ total
step key table sum next block i total text lk ls lb t lt b e h =
    ap (λ (s : ℕ). horner key s (rest_of (i + 1) text)) (e ∙ turned key table (bit_xor sum block) lk (xor_lt 64 sum block ls lb) t ∙ ap (λ (m : ℕ). product (bit_xor sum m) key) b)
    ∙ sym (first_one key sum (from_be_bytes w64 (take 8 (padded (drop (8 * i) text)))) (rest_of (i + 1) text))
    ∙ ap (horner key sum) (sym (rest_more i text lt)) ∙ h

pub done : (key table sum last i total : ℕ) (text : List ℕ) → key < 2 ^ 64 → sum < 2 ^ 64 → length text < 2 ^ 64 → table ≡ key → block_count text ≤ i → last ≡ product table (bit_xor sum (length text))
    → horner key sum (rest_of i text) ≡ total → last ≡ total
done key table sum last i total text lk ls ll t le e h =
    e ∙ turned key table (bit_xor sum (length text)) lk (xor_lt 64 sum (length text) ls ll) t ∙ sym (last_one key sum (length text)) ∙ ap (horner key sum) (sym (rest_end i text le)) ∙ h

-- ---- the first block

pub short_octets : (text : List ℕ) → 0 < length text → length text < 8 → text ++ drop (length text) (replicate 8 0) ≡ take 8 (padded text)
short_octets text pos lt =
    let one : block_count text ≡ 1 = omega (arith, pos, lt) in
    let fill : ℕ = 8 * block_count text - length text in
    let fill_is : 8 - length text ≡ fill = omega (arith, one) in
    let whole : length (padded text) ≡ 8 = length-append text (replicate fill 0) ∙ ap (λ (n : ℕ). length text + n) (length-replicate fill 0) ∙ omega (arith, one, lt) in
    ap (λ (l : List ℕ). text ++ l) (drop-replicate {X = ℕ} (length text) 8 0 ∙ ap (λ (n : ℕ). replicate n 0) fill_is) ∙ sym (take_all 8 (padded text) (omega (arith, whole)))
