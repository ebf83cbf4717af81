-- What a refusal says.
use Rattle.std.specs.Prelude.{ℕ, List, ◌++◌, codes}
use Rattle.std.specs.Fmt.{decimal}
use Rattle.kme_journal.specs.declared.refusal.RecoverRefusal.{RecoverRefusal}
use Rattle.kme_journal.specs.declared.refusal.RecoverRefusal.TheVariants.{Stopped, Foreign, Memory}

abbrev pub said_of : RecoverRefusal → List ℕ
said_of Stopped = codes "the disk failed"
said_of (Foreign place) = codes "no journal at octet " ++ decimal place
said_of Memory = codes "out of memory"
