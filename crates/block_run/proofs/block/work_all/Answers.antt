use Rattle.std.proofs.Common.{rules, ◌≡◌, ◌-◌, ℕ, length, slice_get, Some, refl, sym, subst, ◌∙◌}
use Rattle.std.proofs.lemmas.Option.{slice_get_read, slice_get_within, get_or_from_slice_get}
use Rattle.block_run.specs.Jobs.{jobs_of, Chains}
use Rattle.block_run.proofs.block.work_all.Goals as goal

pub for_each_mut-requires-clause-accepts : goal.for_each_mut-requires-clause-accepts
for_each_mut-requires-clause-accepts g c κs within = λ i p lt is.
    (c.requires.seated i p.now (slice_get_read c.args.seats.now (length c.args.seats.now) i p.now refl lt is), search rules)

pub returns-clause-done : goal.returns-clause-done
returns-clause-done g c = λ place s t here there.
    let change = (c.for_each_mut.ensures place s (slice_get_within c.args.seats.now place s here)).1 in
    let from = change.argument_is ∙ get_or_from_slice_get c.args.seats.now place s s here in
    let to = change.left ∙ get_or_from_slice_get c.for_each_mut.new.s place t s there in
    let gives = g.T.Work.gives c.args.work.now in
    let jobs = jobs_of (length c.args.seats.now - 1 - place) (length c.args.seats.now) c.args.jobs in
    subst (λ (x : _). Chains gives jobs x.pass t.answers.items t.pass) from (subst (λ (y : _). Chains gives jobs change.argument.now.pass y.answers.items y.pass) to change.call)
