use Rattle.declared_site.proofs.Sites.{is_site}
use Rattle.declared_site.proofs.law_declared_site_is_site.Goals as goal

pub returns : goal.returns
returns c = is_site
