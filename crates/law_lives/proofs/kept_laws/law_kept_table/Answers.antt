use Rattle.std.proofs.Common.{sym, subst}
use Rattle.law_lives.specs.Belongs.{IsLike}
use Rattle.law_lives.proofs.KeptFacts.{kept_here, kept_needed}
use Rattle.law_lives.proofs.KeptViews.{is_read}
use Rattle.law_lives.proofs.kept_laws.law_kept_table.Goals as goal

pub returns-clause-like : goal.returns-clause-like
returns-clause-like c = λ s batches devices views read b v n f h.
    let k = kept_here s devices views (is_read s batches views read) b v n f h in subst (IsLike f) (sym k.there) (sym k.alike)

pub returns-clause-needed : goal.returns-clause-needed
returns-clause-needed c = λ s batches devices views read b v n f h secret need. kept_needed s devices views (is_read s batches views read) b v n f h secret need
