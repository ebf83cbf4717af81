-- What a refusal says.
use Rattle.std.specs.Prelude.{ℕ, List, ◌++◌, codes}
use Rattle.std.specs.Fmt.{decimal}
use Rattle.range_journal.specs.declared.refusal.JournalRefusal.{JournalRefusal}
use Rattle.range_journal.specs.declared.refusal.JournalRefusal.TheVariants.{Disk, JournalFull, Foreign, Memory}

abbrev pub said_of : JournalRefusal → List ℕ
said_of Disk = codes "the disk failed"
said_of (JournalFull length need) = codes "a journal of " ++ (decimal length ++ (codes " octets has no room for " ++ (decimal need ++ codes " more")))
said_of (Foreign place) = codes "no journal at octet " ++ decimal place
said_of Memory = codes "out of memory"
