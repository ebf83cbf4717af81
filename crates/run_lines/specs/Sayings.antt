-- What is said of a run that stopped.
use Rattle.std.specs.Prelude.{ℕ, List, ◌++◌, codes}
use Rattle.std.specs.Fmt.{decimal}
use Rattle.run_lines.specs.declared.stop.Stop.{Stop}
use Rattle.run_lines.specs.declared.stop.Stop.TheVariants.{WriteFault, Memory, Forged}

abbrev pub said_of : Stop → List ℕ
said_of WriteFault = codes "the report could not be written"
said_of Memory = codes "out of memory"
said_of (Forged line) = codes "a forged frame has a right tag at line " ++ decimal line
