-- Blocks in well-formed records have 1,024 octets.
use Rattle.std.proofs.Common.{List, [], ◌∷◌}
use Rattle.std.specs.List.{All}
use Rattle.std.proofs.lemmas.List.Elements.{All-head, All-tail}
use Rattle.net_model.specs.declared.record.Record.{Record}
use Rattle.net_model.specs.declared.record.Record.TheVariants.{Block, Lease, Learned, Acked, Handed, Closed, Bare}
use Rattle.net_model.specs.Formed.{IsWellFormedRecord}
use Rattle.kme_node.specs.Replayed.{IsWhole, AreWhole}

one_whole : (r : Record) → IsWellFormedRecord r → IsWhole r
one_whole (Block link number bytes) formed = formed
one_whole (Lease lane end) formed = tt
one_whole (Learned f) formed = tt
one_whole (Acked n) formed = tt
one_whole (Handed n sae) formed = tt
one_whole (Closed n sae) formed = tt
one_whole (Bare f) formed = tt

pub formed_whole : (batch : List Record) → All IsWellFormedRecord batch → AreWhole batch
formed_whole [] formed = tt
formed_whole (r ∷ rs) formed = (one_whole r (All-head IsWellFormedRecord r rs formed), formed_whole rs (All-tail IsWellFormedRecord r rs formed))
