use Rattle.law_lives.proofs.Worlds.{images_have_one_world, one_begins}
use Rattle.law_lives.proofs.world_laws.law_images_give_one_world.Goals as goal

pub returns-clause-world : goal.returns-clause-world
returns-clause-world c = λ net w images journals conserved fits read sized. images_have_one_world net w images journals conserved fits read sized

pub returns-clause-begins : goal.returns-clause-begins
returns-clause-begins c = λ net w images journals made one. one_begins net w images journals made one
