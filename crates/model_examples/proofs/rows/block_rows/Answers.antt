use Rattle.model_examples.proofs.BlockRowsProofs.{two_workers, merged_history, parts, put_by_line, no_memory_in_block, refused_in_block, three_managers, in_blocks, short_run, batches_fold, found_batches, left}
use Rattle.model_examples.proofs.rows.block_rows.Goals as goal

pub returns-clause-two_workers : goal.returns-clause-two_workers
returns-clause-two_workers c = two_workers

pub returns-clause-merged_history : goal.returns-clause-merged_history
returns-clause-merged_history c = merged_history

pub returns-clause-parts : goal.returns-clause-parts
returns-clause-parts c = parts

pub returns-clause-put_by_line : goal.returns-clause-put_by_line
returns-clause-put_by_line c = put_by_line

pub returns-clause-no_memory_in_block : goal.returns-clause-no_memory_in_block
returns-clause-no_memory_in_block c = no_memory_in_block

pub returns-clause-refused_in_block : goal.returns-clause-refused_in_block
returns-clause-refused_in_block c = refused_in_block

pub returns-clause-three_managers : goal.returns-clause-three_managers
returns-clause-three_managers c = three_managers

pub returns-clause-in_blocks : goal.returns-clause-in_blocks
returns-clause-in_blocks c = in_blocks

pub returns-clause-short_run : goal.returns-clause-short_run
returns-clause-short_run c = short_run

pub returns-clause-batches_fold : goal.returns-clause-batches_fold
returns-clause-batches_fold c = batches_fold

pub returns-clause-found_batches : goal.returns-clause-found_batches
returns-clause-found_batches c = found_batches

pub returns-clause-left : goal.returns-clause-left
returns-clause-left c = left
