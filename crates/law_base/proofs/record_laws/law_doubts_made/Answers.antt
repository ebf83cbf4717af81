use Rattle.law_base.proofs.Doubts.{doubts_made}
use Rattle.law_base.proofs.record_laws.law_doubts_made.Goals as goal

pub returns : goal.returns
returns c s w now may made = doubts_made s w made w.frames w.unclaimed w.durable now may
