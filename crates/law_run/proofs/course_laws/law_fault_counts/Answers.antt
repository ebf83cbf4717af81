use Rattle.std.specs.Prelude.{cond}
use Rattle.std.proofs.lemmas.List.Sums.{sum_by-append}
use Rattle.std.proofs.lemmas.List.Elements.{filter_map-append}
use Rattle.net_model.specs.Faults.{disk_faults, entropy_faults, device_faults, wire_faults, armings, is_disk_fault, is_random_fault, is_block_fault, is_wire_fault, fault_armed}
use Rattle.law_run.proofs.Counts.{rises}
use Rattle.law_run.proofs.course_laws.law_fault_counts.Goals as goal

pub returns-clause-rose : goal.returns-clause-rose
returns-clause-rose c = λ n before now below least. rises n before now below least

pub returns-clause-disk : goal.returns-clause-disk
unfolding disk_faults
returns-clause-disk c = λ s v xs ys. sum_by-append (λ a. cond (is_disk_fault s v a) 1 0) xs ys

pub returns-clause-entropy : goal.returns-clause-entropy
unfolding entropy_faults
returns-clause-entropy c = λ v xs ys. sum_by-append (λ a. cond (is_random_fault v a) 1 0) xs ys

pub returns-clause-device : goal.returns-clause-device
unfolding device_faults
returns-clause-device c = λ link xs ys. sum_by-append (λ a. cond (is_block_fault link a) 1 0) xs ys

pub returns-clause-wire : goal.returns-clause-wire
unfolding wire_faults
returns-clause-wire c = λ l xs ys. sum_by-append (λ a. cond (is_wire_fault l a) 1 0) xs ys

pub returns-clause-armed : goal.returns-clause-armed
unfolding armings
returns-clause-armed c = λ v xs ys. filter_map-append (fault_armed v) xs ys
