use Rattle.law_base.proofs.Adding.{records_add}
use Rattle.law_base.proofs.need_laws.law_view_grows.Goals as goal

pub returns : goal.returns
returns c v records = records_add records v
