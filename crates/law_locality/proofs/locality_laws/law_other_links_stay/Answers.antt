use Rattle.law_locality.proofs.Links.{step_link}
use Rattle.law_locality.proofs.locality_laws.law_other_links_stay.Goals as goal

pub returns : goal.returns
returns c = step_link
