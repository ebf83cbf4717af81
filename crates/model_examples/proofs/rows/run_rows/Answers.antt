use Rattle.model_examples.proofs.RunRowsProofs.{stopped_start, foreign_start, no_memory_at_start, down_in_settle, refused_in_settle, loss_in_settle, refusals, full_link, forged_refusals, refused_replies, forged_run, group_order, requests}
use Rattle.model_examples.proofs.rows.run_rows.Goals as goal

pub returns-clause-stopped_start : goal.returns-clause-stopped_start
returns-clause-stopped_start c = stopped_start

pub returns-clause-foreign_start : goal.returns-clause-foreign_start
returns-clause-foreign_start c = foreign_start

pub returns-clause-no_memory_at_start : goal.returns-clause-no_memory_at_start
returns-clause-no_memory_at_start c = no_memory_at_start

pub returns-clause-down_in_settle : goal.returns-clause-down_in_settle
returns-clause-down_in_settle c = down_in_settle

pub returns-clause-refused_in_settle : goal.returns-clause-refused_in_settle
returns-clause-refused_in_settle c = refused_in_settle

pub returns-clause-loss_in_settle : goal.returns-clause-loss_in_settle
returns-clause-loss_in_settle c = loss_in_settle

pub returns-clause-refusals : goal.returns-clause-refusals
returns-clause-refusals c = refusals

pub returns-clause-full_link : goal.returns-clause-full_link
returns-clause-full_link c = full_link

pub returns-clause-forged_refusals : goal.returns-clause-forged_refusals
returns-clause-forged_refusals c = forged_refusals

pub returns-clause-refused_replies : goal.returns-clause-refused_replies
returns-clause-refused_replies c = refused_replies

pub returns-clause-forged_run : goal.returns-clause-forged_run
returns-clause-forged_run c = forged_run

pub returns-clause-group_order : goal.returns-clause-group_order
returns-clause-group_order c = group_order

pub returns-clause-requests : goal.returns-clause-requests
returns-clause-requests c = requests
