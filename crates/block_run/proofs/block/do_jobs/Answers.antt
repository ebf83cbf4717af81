use Rattle.std.proofs.Common.{◌≡◌, ◌≤◌, ◌<◌, ◌++◌, ℕ, List, [], All, length, map, reverse, drop, take, vec_len, vec_capacity, refl, sym, ap, subst, ◌∙◌, arith}
use Rattle.std.specs.List.{flat_map}
use Rattle.block_run.specs.Jobs.{job_count}
use Rattle.block_run.specs.Done.{IsDone}
use Rattle.block_run.proofs.Whole.{DidAll, whole, once, as_many_answers, seated, written}
use Rattle.block_run.proofs.block.do_jobs.Goals as goal

pub work_all-requires-clause-seated : goal.work_all-requires-clause-seated
work_all-requires-clause-seated g c κs within =
    seated (g.T.Work.fits c.args.work.now) (λ s. s.pass) (λ s. s.answers.items) (λ s. vec_capacity s.answers) c.args.passes.items c.deref_mut.result.now c.args.jobs
    (ap (map (λ s. s.pass)) c.deref_mut.ensures.value ∙ c.sit.ensures.seats) c.requires.few
    c.requires.fits
    (subst (λ (xs : List _). All (λ s. (s.answers.items ≡ []) × (job_count 0 (length c.args.passes.items) c.args.jobs ≤ vec_capacity s.answers)) xs) (sym c.deref_mut.ensures.value)
    (c.sit.ensures.room (job_count 0 (length c.args.passes.items) c.args.jobs) c.requires.empty))

pub leave-requires-clause-answers : goal.leave-requires-clause-answers
leave-requires-clause-answers g c κs within =
    let done = whole (g.T.Work.gives c.args.work.now) (λ s. s.pass) (λ s. s.answers.items) c.args.passes.items c.deref_mut.result.now c.work_all.new.seats c.args.jobs
    (record { seated = ap (map (λ s. s.pass)) c.deref_mut.ensures.value ∙ c.sit.ensures.seats; same = c.work_all.ensures.length; chains = c.work_all.ensures.done }) in
    let left = written c.sit.new.seats.len c.work_all.new.seats (drop (length c.work_all.new.seats) c.sit.new.seats.items) (c.work_all.ensures.length ∙ c.deref_mut.ensures.len) in
    let many = as_many_answers (g.T.Work.gives c.args.work.now) c.args.passes.items (reverse (map (λ s. s.pass) c.work_all.new.seats)) (flat_map (λ s. s.answers.items) (reverse c.work_all.new.seats)) c.args.jobs c.requires.some done in
    subst (λ (xs : List _). length (flat_map (λ s. s.answers.items) (reverse xs)) ≤ vec_capacity c.args.rooms.answers) (sym left) (subst (λ (n : ℕ). n ≤ vec_capacity c.args.rooms.answers) (sym many) c.requires.answers.1)

pub returns-clause-done : goal.returns-clause-done
returns-clause-done g c =
    let done = whole (g.T.Work.gives c.args.work.now) (λ s. s.pass) (λ s. s.answers.items) c.args.passes.items c.deref_mut.result.now c.work_all.new.seats c.args.jobs
    (record { seated = ap (map (λ s. s.pass)) c.deref_mut.ensures.value ∙ c.sit.ensures.seats; same = c.work_all.ensures.length; chains = c.work_all.ensures.done }) in
    let left = written c.sit.new.seats.len c.work_all.new.seats (drop (length c.work_all.new.seats) c.sit.new.seats.items) (c.work_all.ensures.length ∙ c.deref_mut.ensures.len) in
    subst (λ (ps : List _). IsDone (g.T.Work.gives c.args.work.now) c.args.passes.items c.args.jobs ps c.leave.new.answers.items) (sym (c.leave.ensures.passes ∙ ap (λ (xs : List _). reverse (map (λ s. s.pass) xs)) left))
    (subst (λ (xs : List _). IsDone (g.T.Work.gives c.args.work.now) c.args.passes.items c.args.jobs (reverse (map (λ s. s.pass) c.work_all.new.seats)) xs) (sym (c.leave.ensures.answers ∙ ap (λ (xs : List _). flat_map (λ s. s.answers.items) (reverse xs)) left)) done)

pub returns-clause-once : goal.returns-clause-once
returns-clause-once g c = once (g.T.Work.gives c.args.work.now) c.args.passes.items c.leave.new.passes.items c.leave.new.answers.items c.args.jobs c.requires.some (returns-clause-done g c)
