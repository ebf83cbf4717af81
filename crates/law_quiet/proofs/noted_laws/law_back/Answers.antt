use Rattle.std.specs.Prelude.{reverse}
use Rattle.net_model.specs.declared.fact.Fact.TheVariants.{Stored}
use Rattle.net_model.specs.Table.{route_of}
use Rattle.law_base.proofs.Base.{name_eq_same}
use Rattle.law_quiet.proofs.Delivering.{delivered}
use Rattle.law_quiet.proofs.Returning.{back}
use Rattle.law_quiet.proofs.noted_laws.law_back.Goals as goal

pub returns : goal.returns
returns c = λ net w n f conserved noted there secret came paid.
    back net w conserved noted.table n f there secret came
    (λ m at. delivered net w conserved m (Stored m n (reverse (route_of f))) at (paid m (Stored m n (reverse (route_of f))) at (name_eq_same n)))
