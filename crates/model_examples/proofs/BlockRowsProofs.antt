-- Proofs of the rows of blocks, by computation.
use Rattle.std.proofs.Common.{refl}
use Rattle.std.specs.Prelude.{[], ◌∷◌}
use Rattle.net_model.specs.declared.event.Event.TheVariants.{Fill, Plan, Status}
use Rattle.net_model.specs.Action.{Ok, Ask}
use Rattle.net_model.specs.BlockOrder.{Next, Done}
use Rattle.run_model.specs.Works.{Work}
use Rattle.model_examples.specs.BlockRows.{TwoWorkers, MergedHistory, Parts, PutByLine, NoMemoryInBlock, RefusedInBlock, ThreeManagers, InBlocks, ShortRun, BatchesFold, FoundBatches, Left, work}
use Rattle.model_examples.proofs.Opened.{opened}

pub two_workers : TwoWorkers
unfolding opened
two_workers = refl

pub parts : Parts
unfolding opened
parts = refl

pub put_by_line : PutByLine
unfolding opened
put_by_line = refl

pub no_memory_in_block : NoMemoryInBlock
unfolding opened
no_memory_in_block = refl

pub refused_in_block : RefusedInBlock
unfolding opened
refused_in_block = refl

pub three_managers : ThreeManagers
unfolding opened
three_managers = refl

pub in_blocks : InBlocks
unfolding opened
in_blocks = refl

pub short_run : ShortRun
unfolding opened
short_run = ((refl, refl, refl), ((refl, refl, refl), ((refl, refl, refl), ((refl, refl, refl), tt))))

pub batches_fold : BatchesFold
unfolding opened
batches_fold = (refl, refl, refl)

pub found_batches : FoundBatches
unfolding opened
found_batches = refl

pub left : Left
unfolding opened
left = (refl, refl, refl, refl, refl)

abbrev filled : Work
filled = work 1 (Ask 0 (Fill 0 1 256 1) Ok)

abbrev ticked : Work
ticked = work 0 (Ask 0 Plan Ok)

abbrev asked : Work
asked = work 3 (Ask 0 (Status 0 1) Ok)

pub merged_history : MergedHistory
unfolding opened
merged_history = Next ((ticked ∷ []) ∷ []) [] filled (asked ∷ []) (ticked ∷ asked ∷ []) (Next [] ((asked ∷ []) ∷ []) ticked [] (asked ∷ []) (Next ([] ∷ []) [] asked [] [] (Done ([] ∷ [] ∷ []) refl)))
