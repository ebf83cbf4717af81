use Rattle.world_nodes.proofs.Going.{post_on}
use Rattle.world_nodes.proofs.laws.law_post_goes_on.Goals as goal

pub returns : goal.returns
returns g c net w w' v post s h = post_on g.K.Disk g.E.Entropy net w w' v s post h
