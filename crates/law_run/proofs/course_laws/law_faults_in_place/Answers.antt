use Rattle.net_model.specs.Faults.{disk_faults, entropy_faults, device_faults, wire_faults, is_disk_fault, is_random_fault, is_block_fault, is_wire_fault}
use Rattle.run_model.specs.Report.{actions_for}
use Rattle.law_run.proofs.Places.{split, joined, placed, totals, calm, task_apart}
use Rattle.law_run.proofs.course_laws.law_faults_in_place.Goals as goal

pub returns-clause-disk : goal.returns-clause-disk
unfolding disk_faults
returns-clause-disk g = λ s v c actions within h. totals (is_disk_fault s v) c.greatest actions c.old c.new within h

pub returns-clause-entropy : goal.returns-clause-entropy
unfolding entropy_faults
returns-clause-entropy g = λ v c actions within h. totals (is_random_fault v) c.greatest actions c.old c.new within h

pub returns-clause-device : goal.returns-clause-device
unfolding device_faults
returns-clause-device g = λ link c actions within h. totals (is_block_fault link) c.greatest actions c.old c.new within h

pub returns-clause-wire : goal.returns-clause-wire
unfolding wire_faults
returns-clause-wire g = λ l c actions within h. totals (is_wire_fault l) c.greatest actions c.old c.new within h

pub returns-clause-calm : goal.returns-clause-calm
returns-clause-calm g = λ p c actions h none. calm p c.greatest actions c.old c.new h none

pub returns-clause-places : goal.returns-clause-places
returns-clause-places g = λ p c actions rose still. placed p c.greatest actions c.old c.new rose still

pub returns-clause-apart : goal.returns-clause-apart
returns-clause-apart g = λ greatest xs ys before now h. split greatest xs ys before now h

pub returns-clause-together : goal.returns-clause-together
returns-clause-together g = λ greatest xs ys before mid now h k. joined greatest xs ys before mid now h k

pub returns-clause-task : goal.returns-clause-task
returns-clause-task g = λ net p greatest earlier task later before now h.
    let r = task_apart net p greatest earlier task later before now h in
    (r.0, r.1, r.2, r.3, r.4, λ none. calm p greatest (actions_for net task) r.0 r.1 r.3 none)
