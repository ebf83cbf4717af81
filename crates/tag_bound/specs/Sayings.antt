-- What a refusal says.
use Rattle.std.specs.Prelude.{ℕ, List, ◌++◌, codes}
use Rattle.std.specs.Fmt.{decimal}
use Rattle.tag_bound.specs.declared.refusal.RootRefusal.{RootRefusal}
use Rattle.tag_bound.specs.declared.refusal.RootRefusal.TheVariants.{TooLong, Equal, Repeated, Memory}

abbrev pub said_of : RootRefusal → List ℕ
said_of TooLong = codes "a text has more than 600 octets"
said_of Equal = codes "the texts are equal"
said_of (Repeated place) = codes "the key at place " ++ decimal place ++ codes " is repeated"
said_of Memory = codes "out of memory"
