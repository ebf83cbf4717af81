-- A list of octets in memory as the sequence that a device or an entropy gives.
use Rattle.std.proofs.Common.{◌≡◌, ℕ, zero, suc, ◌+◌, ◌-◌, ◌*◌, ◌≤◌, ◌<◌, List, [], ◌∷◌, length, get_or, take, drop, refl, sym, ap, ap₂, ◌∙◌, arith, add-one, add-zero, le-leb, true, drop-cons, get_or-drop, length-drop, Some, option_map}
use Rattle.net_model.specs.OctetSequence.{OctetSequence, octets_from, sequence_of, has_octets, block_at}
use Rattle.source_devices.specs.Telling.{IsRest}

-- The octets from a place on are a part of the list.
pub part_of : (xs : List ℕ) (place n : ℕ) → place + n ≤ length xs → octets_from (sequence_of xs).octet place n ≡ take n (drop place xs)
unfolding octets_from
part_of xs place zero le = refl
part_of xs place (suc n) le =
    let lt : place < length xs = omega arith in
    let rest = part_of xs (place + 1) n (omega arith) in
    ap (λ (r : List ℕ). get_or xs place 0 ∷ r) rest ∙ rw (add-one, drop-cons xs place 0) refl

-- If a list has the sequence's octet at each place from `place` on, it is the sequence's octets from there.
pub octets_are : (octet : ℕ → ℕ) (place : ℕ) (xs : List ℕ) → ((k : ℕ) → k < length xs → get_or xs k 0 ≡ octet (place + k)) → xs ≡ octets_from octet place (length xs)
unfolding octets_from
octets_are octet place [] each = refl
octets_are octet place (x ∷ xs) each =
    let first : x ≡ octet place = each 0 (omega arith) ∙ ap octet (add-zero place) in
    let after : (k : ℕ) → k < length xs → get_or xs k 0 ≡ octet (place + 1 + k) = λ k lt. each (suc k) (omega arith) ∙ ap octet (omega arith) in
    ap₂ (λ (y : ℕ) (ys : List ℕ). y ∷ ys) first (octets_are octet (place + 1) xs after)

-- The rest of a list behind its first n octets is the rest of its sequence.
pub rest_of : (xs : List ℕ) (n : ℕ) → IsRest (sequence_of xs) n (sequence_of (drop n xs))
rest_of xs n = record { octet = λ i. get_or-drop n xs i 0; last = ap (λ (k : ℕ). Some k) (length-drop n xs) }

-- A block that is copied from a list is the sequence's block.
pub block_given : (xs into : List ℕ) (n : ℕ) → 1024 + 1024 * n ≤ length xs → into ≡ take 1024 (drop (1024 * n) xs) → (has_octets (sequence_of xs) (1024 + 1024 * n) ≡ true) × (into ≡ block_at (sequence_of xs) n)
block_given xs into n le is = (le-leb _ _ le, is ∙ sym (part_of xs (1024 * n) 1024 (omega arith)))

-- Octets that are drawn from a list are the sequence's first ones, and the rest stays.
pub draw_given : (xs rest into : List ℕ) (n : ℕ) → n ≤ length xs → into ≡ take n xs → rest ≡ drop n xs →
    (has_octets (sequence_of xs) n ≡ true) × (into ≡ octets_from (sequence_of xs).octet 0 n) × ((left : OctetSequence) × (Some (sequence_of rest) ≡ Some left) × IsRest (sequence_of xs) n left)
draw_given xs rest into n le is left =
    (le-leb _ _ le, is ∙ sym (part_of xs 0 n (omega arith)), (sequence_of (drop n xs), ap (λ (r : List ℕ). Some (sequence_of r)) left, rest_of xs n))
