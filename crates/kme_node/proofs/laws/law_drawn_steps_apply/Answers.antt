use Rattle.kme_node.proofs.Drawn.{drawn_fits, drawn_has_room}
use Rattle.kme_node.proofs.laws.law_drawn_steps_apply.Goals as goal

pub returns-clause-room : goal.returns-clause-room
returns-clause-room c h s random = drawn_has_room h s random

pub returns-clause-fits : goal.returns-clause-fits
returns-clause-fits c h s random = drawn_fits h s random
