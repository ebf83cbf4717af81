-- The parts of a text, read from the front.
use Rattle.std.proofs.Common.{◌≡◌, ℕ, ◌+◌, ◌<◌, ◌≤◌, Bool, true, false, not, eqb, List, [], ◌∷◌, length, take, drop, refl, arith}
use Rattle.std.proofs.lemmas.List.Splits.{slice_split_first, slice_split_none}
use Rattle.std.proofs.lemmas.List.Sums.{prefix_len_passes}
use Rattle.scenario_text.specs.Words.{len_to}
use Rattle.scenario_text.specs.Text.{parts_of}

pub parts_first : (bytes : List ℕ) → len_to 10 bytes < length bytes → parts_of bytes ≡ take (len_to 10 bytes) bytes ∷ parts_of (drop (len_to 10 bytes + 1) bytes)
parts_first bytes lt = slice_split_first (λ b. eqb b 10) bytes 0 lt

not_true : (b : Bool) → not b ≡ true → b ≡ false
not_true true h = absurd cc
not_true false h = refl

pub parts_at : (bytes : List ℕ) (len : ℕ) → len ≡ len_to 10 bytes → len < length bytes → parts_of bytes ≡ take len bytes ∷ parts_of (drop (len + 1) bytes)
parts_at bytes len e lt = rw e (parts_first bytes (omega (arith, e, lt)))

pub parts_last : (bytes : List ℕ) → length bytes ≤ len_to 10 bytes → parts_of bytes ≡ bytes ∷ []
parts_last bytes le = slice_split_none (λ b. eqb b 10) bytes (λ k d lt. not_true _ (prefix_len_passes (λ b. not (eqb b 10)) bytes k d (omega (arith, le, lt))))
