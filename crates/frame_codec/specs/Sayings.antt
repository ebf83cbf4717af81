-- What a refusal says.
use Rattle.std.specs.Prelude.{ℕ, List, ◌++◌, codes}
use Rattle.std.specs.Fmt.{decimal}
use Rattle.frame_codec.specs.declared.payload_refusal.PayloadRefusal.{PayloadRefusal}
use Rattle.frame_codec.specs.declared.payload_refusal.PayloadRefusal.TheVariants.{NotAPayload, Memory}

abbrev pub said_of : PayloadRefusal → List ℕ
said_of (NotAPayload place) = codes "no payload, from octet " ++ decimal place ++ codes " on"
said_of Memory = codes "out of memory"
