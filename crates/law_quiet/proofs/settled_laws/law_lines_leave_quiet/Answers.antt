use Rattle.law_quiet.proofs.Settles.{between}
use Rattle.law_quiet.proofs.settled_laws.law_lines_leave_quiet.Goals as goal

pub returns : goal.returns
returns c = λ http net workers tasks done network requests plays whole. let b = between http net workers network tasks requests done plays whole in (b.quiet, b.awaits)
