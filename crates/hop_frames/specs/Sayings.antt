-- What a refusal says.
use Rattle.std.specs.Prelude.{ℕ, ◌^◌, ◌-◌, false, List, [], ◌++◌, codes}
use Rattle.std.specs.Fmt.{decimal, digits, padded_integral, format_spec}
use Rattle.hop_frames.specs.declared.open_refusal.OpenRefusal.{OpenRefusal}
use Rattle.hop_frames.specs.declared.open_refusal.OpenRefusal.TheVariants.{NotAFrame, WrongLane, NoBits, BadTag, NotAPayload, Memory}

-- a tag in 16 hexadecimal digits
abbrev pub hex_of : ℕ → List ℕ
hex_of n = padded_integral (format_spec 32 0 4 16 (2 ^ 64 - 1)) false [] (digits 16 false n)

abbrev pub said_of : OpenRefusal → List ℕ
said_of (NotAFrame place) = codes "no frame, from octet " ++ decimal place ++ codes " on"
said_of (WrongLane link way) = codes "of link " ++ (decimal link ++ (codes " and way " ++ decimal way))
said_of (NoBits have) = codes "no bits past " ++ decimal have
said_of (BadTag given computed) = codes "tag " ++ (hex_of given ++ (codes " in place of " ++ hex_of computed))
said_of (NotAPayload place) = codes "no payload, from octet " ++ decimal place ++ codes " on"
said_of Memory = codes "out of memory"
