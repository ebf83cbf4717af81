use Rattle.law_base.proofs.Views.{chunks_counted}
use Rattle.law_base.proofs.view_laws.law_chunks_counted.Goals as goal

pub returns : goal.returns
returns c = chunks_counted
