-- The connections that a listener in memory has finished.
use Rattle.std.specs.Prelude.{List, map, Some}
use Rattle.edge_io.specs.Connections.{Finished}
use Rattle.edge_io.specs.declared.mem_connection.MemFinished.{MemFinished}

abbrev pub finished_of : MemFinished → Finished
finished_of f = record { left = Some f.source.left; taken = Some f.sink.taken; read_faults = f.source.faults; write_faults = f.sink.faults; ended = f.ended }

abbrev pub done_of : List MemFinished → List Finished
done_of fs = map finished_of fs
