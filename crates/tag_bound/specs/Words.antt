-- Texts and numbers in hexadecimal words, with digits of either case.
use Rattle.std.specs.Prelude.{ℕ, ◌/◌, ◌&&◌, nat_le, Bool, if◌then◌else◌, List, length, Option, None}
use Rattle.std.specs.Int.{w64, from_be_bytes}
use Rattle.std.specs.Option.{option_map}
use Rattle.std.specs.Result.{result_ok}
use Rattle.hex.specs.Hex.{decode_of, decode_sized}

-- the number of 64 bits that 16 digits write, the highest digit first
unfoldable pub number_of : List ℕ → Option ℕ
number_of word = option_map (from_be_bytes w64) (result_ok (decode_sized word 8))

-- a text has at least 1 and at most 600 octets
abbrev pub are_few : ℕ → Bool
are_few n = nat_le 1 n && nat_le n 600

-- the octets that pairs of digits write
unfoldable pub text_of : List ℕ → Option (List ℕ)
text_of word = if are_few (length word / 2) then result_ok (decode_of word) else None
