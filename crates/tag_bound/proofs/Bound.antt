-- Only few keys give a chosen difference of hashes.
use Rattle.std.proofs.Common.{◌≡◌, ℕ, suc, ◌^◌, ◌<◌, ◌≤◌, Bool, true, false, cond, eqb, inl, inr, List, [], ◌∷◌, length, get_or, sym, ap, subst, ◌∙◌, arith}
use Rattle.std.specs.Prelude.{bit_xor}
use Rattle.std.specs.List.{All, AllByRecursion, IsDistinct, filter}
use Rattle.std.proofs.lemmas.Nat.{xor_lt}
use Rattle.std.proofs.lemmas.Bool.{ne_eqb, eqb-true, cases_lt}
use Rattle.std.proofs.lemmas.List.{get_or_default}
use Rattle.std.proofs.lemmas.Map.Keys.{IsDistinct-from_apart, IsDistinct-head, IsDistinct-tail, IsDistinct-cons}
use Rattle.std.proofs.lemmas.List.Elements.{recursion_from_All, All-weaker, filter_passes}
use Rattle.std.proofs.lemmas.List.Sums.{length-filter}
use Rattle.std.specs.Int.Bits.{xor_self}
use Rattle.gf64.specs.Field.{product}
use Rattle.gf64.proofs.Ring.{product_below}
use Rattle.wc_tags.specs.Tag.{blocks_of, hash}
use Rattle.wc_tags.proofs.Horner.{AreElements}
use Rattle.tag_bound.specs.Keys.{AreDistinct}
use Rattle.tag_bound.specs.Differences.{difference_under, count_giving, most_blocks, AreCompared}
use Rattle.tag_bound.specs.Laws.{FewKeys, FrameBlocks}
use Rattle.tag_bound.proofs.Polynomials.{value, value_more, value_below, times_xor, sums, sums_elements, sums_length, value_sums}
use Rattle.tag_bound.proofs.FewRoots.{AreRoots, few_roots}
use Rattle.tag_bound.proofs.Texts.{AreOctets, blocks_length, coefficients, coefficients_length, coefficients_elements, hash_value, not_zero}

hash_below : (k : ℕ) (text : List ℕ) → k < 2 ^ 64 → AreOctets text → length text < 2 ^ 64 → hash k text < 2 ^ 64
hash_below k text lk all lt = subst (λ (h : ℕ). h < 2 ^ 64) (sym (hash_value k text lk all lt)) (product_below k (value k (coefficients text)) lk)

-- A key that gives the difference is a root of the polynomial that has the difference as its constant term.
root_of_difference : (a b : List ℕ) (difference k : ℕ) → AreOctets a → AreOctets b → length a < 2 ^ 64 → length b < 2 ^ 64 → k < 2 ^ 64 → difference_under a b k ≡ difference →
    value k (difference ∷ sums (coefficients a) (coefficients b)) ≡ 0
root_of_difference a b difference k aa ab la lb lk gives =
    let ca : List ℕ = coefficients a in
    let cb : List ℕ = coefficients b in
    let ea : AreElements ca = coefficients_elements a aa la in
    let eb : AreElements cb = coefficients_elements b ab lb in
    value_more k difference (sums ca cb)
    ∙ ap (λ (v : ℕ). bit_xor difference (product k v)) (value_sums k ca cb lk ea eb)
    ∙ ap (bit_xor difference) (times_xor k (value k ca) (value k cb) lk (value_below k ca lk ea) (value_below k cb lk eb)
    ∙ ap (λ (h : ℕ). bit_xor h (product k (value k cb))) (sym (hash_value k a lk aa la)) ∙ ap (bit_xor (hash k a)) (sym (hash_value k b lk ab lb)) ∙ gives)
    ∙ xor_self difference

roots_of_difference : (a b : List ℕ) (difference : ℕ) (keys : List ℕ) → AreOctets a → AreOctets b → length a < 2 ^ 64 → length b < 2 ^ 64 → AreElements keys →
    AllByRecursion (λ k. difference_under a b k ≡ difference) keys → AreRoots keys (difference ∷ sums (coefficients a) (coefficients b))
roots_of_difference a b difference [] aa ab la lb ek gives = tt
roots_of_difference a b difference (k ∷ ks) aa ab la lb ek gives =
    (root_of_difference a b difference k aa ab la lb ek.0 gives.0, roots_of_difference a b difference ks aa ab la lb ek.1 gives.1)

pub few_keys : (a b : List ℕ) (n difference : ℕ) (keys : List ℕ) → AreOctets a → AreOctets b → length a < 2 ^ 64 → length b < 2 ^ 64 → (a ≡ b → ⊥) →
    length (blocks_of a) ≤ n → length (blocks_of b) ≤ n → AreElements keys → IsDistinct eqb keys → AllByRecursion (λ k. difference_under a b k ≡ difference) keys → length keys ≤ n
few_keys a b n difference [] aa ab la lb apart na nb ek distinct gives = omega arith
few_keys a b n difference (k ∷ ks) aa ab la lb apart na nb ek distinct gives =
    let ca : List ℕ = coefficients a in
    let cb : List ℕ = coefficients b in
    let lh : difference < 2 ^ 64 =
    subst (λ (d : ℕ). d < 2 ^ 64) gives.0 (xor_lt 64 (hash k a) (hash k b) (hash_below k a ek.0 aa la) (hash_below k b ek.0 ab lb)) in
    let es : AreElements (sums ca cb) = sums_elements ca cb (coefficients_elements a aa la) (coefficients_elements b ab lb) in
    let fewer : length (k ∷ ks) < length (difference ∷ sums ca cb) =
    few_roots (k ∷ ks) (difference ∷ sums ca cb) ek (lh, es) distinct (roots_of_difference a b difference (k ∷ ks) aa ab la lb ek gives) (λ none. not_zero a b aa ab apart none.1) in
    let most : length (sums ca cb) ≤ n = sums_length n ca cb (omega (arith, coefficients_length a)) (omega (arith, coefficients_length b)) in
    omega (arith, fewer, most)

-- ---- the law of few keys

pub distinct_is : (keys : List ℕ) → AreDistinct keys → IsDistinct eqb keys
distinct_is keys apart = IsDistinct-from_apart eqb keys (λ i j d before within.
    let first : get_or keys i 0 ≡ get_or keys i d = get_or_default keys i 0 d (omega arith) in
    let second : get_or keys j d ≡ get_or keys j 0 = get_or_default keys j d 0 within in
    ne_eqb (get_or keys i d) (get_or keys j d) (λ same. apart j (within, (i, before, first ∙ same ∙ second))))

pub few_keys_law : FewKeys
few_keys_law a b n difference keys ta tb apart na nb ks gives =
    few_keys a b n difference keys (recursion_from_All (λ o. o < 256) a ta.octets) (recursion_from_All (λ o. o < 256) b tb.octets) ta.length_fits tb.length_fits apart na nb
    (recursion_from_All (λ k. k < 2 ^ 64) keys ks.elements) (distinct_is keys ks.distinct) (recursion_from_All (λ k. difference_under a b k ≡ difference) keys gives)

pub frame_blocks : FrameBlocks
frame_blocks text fits = omega (arith, blocks_length text)

-- ---- the count of keys

-- what holds of all keys holds of those that pass a test
kept : (P : ℕ → Type 0) (passes : Bool) (key : ℕ) (rest : List ℕ) → P key → AllByRecursion P rest → AllByRecursion P (cond passes (key ∷ rest) rest)
kept P true key rest here all = (here, all)
kept P false key rest here all = all

all_kept : (P : ℕ → Type 0) (test : ℕ → Bool) (keys : List ℕ) → AllByRecursion P keys → AllByRecursion P (filter test keys)
all_kept P test [] all = tt
all_kept P test (k ∷ ks) all = kept P (test k) k (filter test ks) all.0 (all_kept P test ks all.1)

distinct_more : (passes : Bool) (key : ℕ) (rest : List ℕ) → AllByRecursion (λ k. eqb key k ≡ false) rest → IsDistinct eqb rest → IsDistinct eqb (cond passes (key ∷ rest) rest)
distinct_more true key rest apart distinct = IsDistinct-cons eqb key rest apart distinct
distinct_more false key rest apart distinct = distinct

distinct_kept : (test : ℕ → Bool) (keys : List ℕ) → IsDistinct eqb keys → IsDistinct eqb (filter test keys)
distinct_kept test [] distinct = distinct
distinct_kept test (k ∷ ks) distinct =
    distinct_more (test k) k (filter test ks) (all_kept (λ q. eqb k q ≡ false) test ks (IsDistinct-head eqb k ks distinct)) (distinct_kept test ks (IsDistinct-tail eqb k ks distinct))

within : (size : ℕ) → (600 < size → ⊥) → size ≤ 600
within size short = elim (cases_lt 600 size) [
  | inl long ↦ absurd (short long)
  | inr fits ↦ fits
]

pub elements_from : (keys : List ℕ) → ((i : ℕ) → get_or keys i 0 < 2 ^ 64) → AreElements keys
elements_from [] small = tt
elements_from (k ∷ ks) small = (small 0, elements_from ks (λ i. small (suc i)))

blocks_within : (text : List ℕ) → length text ≤ 600 → length (blocks_of text) ≤ 76
blocks_within text le = omega (arith, blocks_length text)

pub most_within : (a b : List ℕ) → AreCompared a b → most_blocks a b ≤ 76
most_within a b compared =
    omega (arith, blocks_within a (within (length a) (λ long. compared.0 (inl long))), blocks_within b (within (length b) (λ long. compared.0 (inr long))))

pub count_bounded : (a b : List ℕ) (difference : ℕ) (keys : List ℕ) → AreOctets a → AreOctets b → AreCompared a b → AreElements keys → AreDistinct keys →
    count_giving a b difference keys ≤ most_blocks a b
count_bounded a b difference keys aa ab compared ek distinct =
    let test : ℕ → Bool = λ k. eqb (difference_under a b k) difference in
    let gives : All (λ k. difference_under a b k ≡ difference) (filter test keys) =
    All-weaker (λ k. test k ≡ true) (λ k. difference_under a b k ≡ difference) (λ k passes. eqb-true (difference_under a b k) difference passes) (filter test keys) (filter_passes test keys) in
    let la : length a ≤ 600 = within (length a) (λ long. compared.0 (inl long)) in
    let lb : length b ≤ 600 = within (length b) (λ long. compared.0 (inr long)) in
    let few : length (filter test keys) ≤ most_blocks a b =
    few_keys a b (most_blocks a b) difference (filter test keys) aa ab (omega arith) (omega arith) compared.1 (omega arith) (omega arith)
    (all_kept (λ k. k < 2 ^ 64) test keys ek) (distinct_kept test keys (distinct_is keys distinct)) (recursion_from_All (λ k. difference_under a b k ≡ difference) (filter test keys) gives) in
    omega (arith, few, length-filter test keys)
