-- Bytes that a read moved from the front of those that were left.
use Rattle.std.proofs.Common.{◌≡◌, ℕ, ◌+◌, ◌≤◌, ◌<◌, min, List, [], ◌++◌, length, take, drop, refl, sym, ap, ◌∙◌, arith, take-append-drop, drop-drop, drop_of_length-le, length-drop}

-- the bytes after the first at + n are those after the first n of what was left
behind : (bytes left : List ℕ) (at n : ℕ) → drop at bytes ≡ left → drop (at + n) bytes ≡ drop n left
behind bytes left at n is = sym (drop-drop n at bytes) ∙ ap (drop n) is

-- What was left is the bytes that were moved, and then what is left now. If none were moved and the buffer isn't empty,
-- nothing was left.
pub moved : (bytes left slice into : List ℕ) (at n room : ℕ) → drop at bytes ≡ left → slice ≡ left → n ≡ min (length slice) room → length into ≡ room → take n into ≡ take n slice →
    (left ≡ take n into ++ drop (at + n) bytes) × (n ≡ 0 → 0 < length into → drop (at + n) bytes ≡ [])
moved bytes left slice into at n room is same count size front =
    let rest = behind bytes left at n is in
    let whole : left ≡ take n into ++ drop n left = sym (take-append-drop n left) ∙ ap (λ (x : List ℕ). x ++ drop n left) (ap (take n) (sym same) ∙ sym front) in
    (whole ∙ ap (λ (x : List ℕ). take n into ++ x) (sym rest), λ none some. rest ∙ drop_of_length-le left (omega (arith, ap length same)))
