-- Octet sequences, which devices and entropies give.
use Rattle.std.specs.Prelude.{ℕ, zero, suc, ◌+◌, ◌*◌, nat_le, Bool, true, List, [], ◌∷◌, ◌++◌, length, slice_index_or, Option, Some, None}

-- Octets in order, and how many there are if the sequence ends. A source whose octets contracts don't know still has
-- some sequence, without an end.
pub record OctetSequence : Type 0 where
  pub octet : ℕ → ℕ
  pub end : Option ℕ

-- the sequence has at least n octets
abbrev pub reaches : Option ℕ → ℕ → Bool
reaches None n = true
reaches (Some end) n = nat_le n end

abbrev pub has_octets : OctetSequence → ℕ → Bool
has_octets t n = reaches t.end n

-- the n octets from a place on
unfoldable pub octets_from : (ℕ → ℕ) → ℕ → ℕ → List ℕ
octets_from octet place zero = []
octets_from octet place (suc n) = octet place ∷ octets_from octet (place + 1) n

-- the sequence of a list's octets
abbrev pub sequence_of : List ℕ → OctetSequence
sequence_of xs = record { octet = λ i. slice_index_or xs i 0; end = Some (length xs) }

-- block n of a device: 1,024 octets
abbrev pub block_at : OctetSequence → ℕ → List ℕ
block_at t n = octets_from t.octet (1024 * n) 1024

unfoldable pub first_blocks : OctetSequence → ℕ → List (List ℕ)
first_blocks t zero = []
first_blocks t (suc n) = first_blocks t n ++ block_at t n ∷ []
