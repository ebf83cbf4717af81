-- What a refusal says.
use Rattle.std.specs.Prelude.{ℕ, List, ◌++◌, codes}
use Rattle.std.specs.Fmt.{decimal}
use Rattle.journal_records.specs.declared.record_refusal.RecordRefusal.{RecordRefusal}
use Rattle.journal_records.specs.declared.record_refusal.RecordRefusal.TheVariants.{NotARecord, Memory}

abbrev pub said_of : RecordRefusal → List ℕ
said_of (NotARecord place) = codes "no records, from octet " ++ decimal place ++ codes " on"
said_of Memory = codes "out of memory"
