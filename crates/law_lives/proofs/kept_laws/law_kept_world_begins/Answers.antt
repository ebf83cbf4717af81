use Rattle.law_lives.specs.KeptWorld.{spelled, kept_table}
use Rattle.law_lives.proofs.KeptGiven.{given_back, kept_current}
use Rattle.law_lives.proofs.KeptPlaces.{are_placed}
use Rattle.law_lives.proofs.KeptSecrets.{network_kept, lists_behind}
use Rattle.law_lives.proofs.KeptViews.{is_read}
use Rattle.law_lives.proofs.KeptWorlds.{kept_begins}
use Rattle.law_lives.proofs.kept_laws.law_kept_world_begins.Goals as goal

pub returns-clause-begins : goal.returns-clause-begins
returns-clause-begins c = λ s sealing devices entropies batches views journals read b sized. kept_begins s sealing devices entropies batches views journals read b sized

pub returns-clause-given : goal.returns-clause-given
returns-clause-given c = λ s sealing devices entropies batches views journals read b v less. given_back s sealing devices entropies batches views read b journals v less

pub returns-clause-network : goal.returns-clause-network
returns-clause-network c = λ s sealing devices entropies batches views read b site seals given told.
    network_kept s devices views (is_read s batches views read) b sealing entropies site seals given told

pub returns-clause-entropies : goal.returns-clause-entropies
returns-clause-entropies c = λ s sealing devices told views v. lists_behind (spelled v (kept_table views)) (told v)

pub returns-clause-placed : goal.returns-clause-placed
returns-clause-placed c = λ s sealing devices entropies batches views journals read b. are_placed s devices views (is_read s batches views read) b sealing entropies journals

pub returns-clause-current : goal.returns-clause-current
returns-clause-current c = λ s sealing devices entropies batches views journals read b versions blank. kept_current s sealing devices entropies batches views read b journals versions blank
