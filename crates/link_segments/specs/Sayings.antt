-- What a refusal says.
use Rattle.std.specs.Prelude.{ℕ, List, ◌++◌, codes}
use Rattle.std.specs.Fmt.{decimal}
use Rattle.link_segments.specs.declared.no_bits.NoBits.{NoBits as Lack}
use Rattle.link_segments.specs.declared.take_refusal.TakeRefusal.{TakeRefusal}
use Rattle.link_segments.specs.declared.take_refusal.TakeRefusal.TheVariants.{Full, OutOfOrder, Memory}

abbrev pub lack_said : Lack → List ℕ
lack_said lack = codes "no bits past " ++ decimal lack.have

abbrev pub said_of : TakeRefusal → List ℕ
said_of Full = codes "the link has 1024 blocks"
said_of (OutOfOrder expected) = codes "block " ++ decimal expected ++ codes " is the next"
said_of Memory = codes "out of memory"
