-- What a refusal says.
use Rattle.std.specs.Prelude.{ℕ, List, ◌++◌, codes}
use Rattle.std.specs.Fmt.{decimal}
use Rattle.pad_ledger.specs.declared.short.Short.{Short}

abbrev pub said_of : Short → List ℕ
said_of short = codes "short of bytes: " ++ (decimal short.used ++ (codes " of " ++ decimal short.end ++ codes " are used"))
