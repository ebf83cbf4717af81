use Rattle.std.proofs.Common.{rules, ◌∷◌, ◌∙◌, ◌<◌, List, Option, length, get_or, refl, sym, subst, ap, arith}
use Rattle.std.proofs.lemmas.Option.{slice_get_read, slice_get-get_or}
use Rattle.shared_objects.specs.Shares.{HasGone}
use Rattle.shared_objects.proofs.Ready.{in_posts, in_turnstiles, may_sit, may_call, may_ask, goes, ready_on, ready_past}
use Rattle.shared_objects.proofs.Going.{gone_past}
use Rattle.shared_objects.proofs.stations.StationsWork.run.Goals as goal

pub index_mut-post-requires : goal.index_mut-post-requires
index_mut-post-requires g c = let l = in_posts g.M.Machine.takes g.M.Machine.charter c.args.self.now.turnstiles.now c.args.pass.now.posts.items c.args.pass.now.shift.items (length (c.args._job ∷ c.requires.fits.0)) c.requires.fits.1
    c.in-Some-Some.field-0-0 c.pop_front.new.self.items (c.in-Some-Some.ensures.items ∙ ap (λ e. e ∷ c.pop_front.new.self.items) c.in-Some-Some.field-0-is) in omega (arith, l, c.args.pass.now.posts.ok.0)

pub bounds-self-machine : goal.bounds-self-machine
bounds-self-machine g c = in_turnstiles g.M.Machine.takes g.M.Machine.charter c.args.self.now.turnstiles.now c.args.pass.now.posts.items c.args.pass.now.shift.items (length (c.args._job ∷ c.requires.fits.0)) c.requires.fits.1
    c.in-Some-Some.field-0-0 c.pop_front.new.self.items (c.in-Some-Some.ensures.items ∙ ap (λ e. e ∷ c.pop_front.new.self.items) c.in-Some-Some.field-0-is)

pub call-requires-clause-fits : goal.call-requires-clause-fits
call-requires-clause-fits g c = (may_sit g.M.Machine.takes g.M.Machine.charter c.args.self.now.turnstiles.now c.args.pass.now.posts.items c.args.pass.now.shift.items (length (c.args._job ∷ c.requires.fits.0)) c.requires.fits.1
    c.in-Some-Some.field-0-0 c.pop_front.new.self.items (c.in-Some-Some.ensures.items ∙ ap (λ e. e ∷ c.pop_front.new.self.items) c.in-Some-Some.field-0-is)
    (get_or c.args.self.now.turnstiles.now c.in-Some-Some.field-0-0.machine c.index-self-machine.result) c.index_mut-post.result.now
    (slice_get-get_or c.args.self.now.turnstiles.now c.in-Some-Some.field-0-0.machine c.index-self-machine.result (in_turnstiles g.M.Machine.takes g.M.Machine.charter c.args.self.now.turnstiles.now c.args.pass.now.posts.items c.args.pass.now.shift.items (length (c.args._job ∷ c.requires.fits.0)) c.requires.fits.1 c.in-Some-Some.field-0-0 c.pop_front.new.self.items (c.in-Some-Some.ensures.items ∙ ap (λ e. e ∷ c.pop_front.new.self.items) c.in-Some-Some.field-0-is)))
    (slice_get_read c.args.pass.now.posts.items (length c.args.pass.now.posts.items) c.in-Some-Some.field-0-0.machine c.index_mut-post.result.now refl (in_posts g.M.Machine.takes g.M.Machine.charter c.args.self.now.turnstiles.now c.args.pass.now.posts.items c.args.pass.now.shift.items (length (c.args._job ∷ c.requires.fits.0)) c.requires.fits.1 c.in-Some-Some.field-0-0 c.pop_front.new.self.items (c.in-Some-Some.ensures.items ∙ ap (λ e. e ∷ c.pop_front.new.self.items) c.in-Some-Some.field-0-is)) c.index_mut-post.ensures.value)).fits

pub call-requires-clause-budget : goal.call-requires-clause-budget
call-requires-clause-budget g c = may_call g.M.Machine.takes g.M.Machine.charter c.args.self.now.turnstiles.now c.args.pass.now.posts.items c.args.pass.now.shift.items (length (c.args._job ∷ c.requires.fits.0)) c.requires.fits.1
    c.in-Some-Some.field-0-0 c.pop_front.new.self.items (c.in-Some-Some.ensures.items ∙ ap (λ e. e ∷ c.pop_front.new.self.items) c.in-Some-Some.field-0-is)
    (get_or c.args.self.now.turnstiles.now c.in-Some-Some.field-0-0.machine c.index-self-machine.result) c.index_mut-post.result.now
    (slice_get-get_or c.args.self.now.turnstiles.now c.in-Some-Some.field-0-0.machine c.index-self-machine.result (in_turnstiles g.M.Machine.takes g.M.Machine.charter c.args.self.now.turnstiles.now c.args.pass.now.posts.items c.args.pass.now.shift.items (length (c.args._job ∷ c.requires.fits.0)) c.requires.fits.1 c.in-Some-Some.field-0-0 c.pop_front.new.self.items (c.in-Some-Some.ensures.items ∙ ap (λ e. e ∷ c.pop_front.new.self.items) c.in-Some-Some.field-0-is)))
    (slice_get_read c.args.pass.now.posts.items (length c.args.pass.now.posts.items) c.in-Some-Some.field-0-0.machine c.index_mut-post.result.now refl (in_posts g.M.Machine.takes g.M.Machine.charter c.args.self.now.turnstiles.now c.args.pass.now.posts.items c.args.pass.now.shift.items (length (c.args._job ∷ c.requires.fits.0)) c.requires.fits.1 c.in-Some-Some.field-0-0 c.pop_front.new.self.items (c.in-Some-Some.ensures.items ∙ ap (λ e. e ∷ c.pop_front.new.self.items) c.in-Some-Some.field-0-is)) c.index_mut-post.ensures.value) (omega arith)

pub call-requires-clause-takes : goal.call-requires-clause-takes
call-requires-clause-takes g c = may_ask g.M.Machine.takes g.M.Machine.charter c.args.self.now.turnstiles.now c.args.pass.now.posts.items c.args.pass.now.shift.items (length (c.args._job ∷ c.requires.fits.0)) c.requires.fits.1
    c.in-Some-Some.field-0-0 c.pop_front.new.self.items (c.in-Some-Some.ensures.items ∙ ap (λ e. e ∷ c.pop_front.new.self.items) c.in-Some-Some.field-0-is)
    (get_or c.args.self.now.turnstiles.now c.in-Some-Some.field-0-0.machine c.index-self-machine.result) c.index_mut-post.result.now
    (slice_get-get_or c.args.self.now.turnstiles.now c.in-Some-Some.field-0-0.machine c.index-self-machine.result (in_turnstiles g.M.Machine.takes g.M.Machine.charter c.args.self.now.turnstiles.now c.args.pass.now.posts.items c.args.pass.now.shift.items (length (c.args._job ∷ c.requires.fits.0)) c.requires.fits.1 c.in-Some-Some.field-0-0 c.pop_front.new.self.items (c.in-Some-Some.ensures.items ∙ ap (λ e. e ∷ c.pop_front.new.self.items) c.in-Some-Some.field-0-is)))
    (slice_get_read c.args.pass.now.posts.items (length c.args.pass.now.posts.items) c.in-Some-Some.field-0-0.machine c.index_mut-post.result.now refl (in_posts g.M.Machine.takes g.M.Machine.charter c.args.self.now.turnstiles.now c.args.pass.now.posts.items c.args.pass.now.shift.items (length (c.args._job ∷ c.requires.fits.0)) c.requires.fits.1 c.in-Some-Some.field-0-0 c.pop_front.new.self.items (c.in-Some-Some.ensures.items ∙ ap (λ e. e ∷ c.pop_front.new.self.items) c.in-Some-Some.field-0-is)) c.index_mut-post.ensures.value)

pub returns-in-Some-Some-clause-gives : goal.returns-in-Some-Some-clause-gives
returns-in-Some-Some-clause-gives g c = goes g.M.Machine.takes g.M.Machine.charter c.args.self.now.turnstiles.now c.args.pass.now.posts.items c.args.pass.now.shift.items (length (c.args._job ∷ c.requires.fits.0)) c.requires.fits.1
    c.in-Some-Some.field-0-0 c.pop_front.new.self.items (c.in-Some-Some.ensures.items ∙ ap (λ e. e ∷ c.pop_front.new.self.items) c.in-Some-Some.field-0-is)
    (get_or c.args.self.now.turnstiles.now c.in-Some-Some.field-0-0.machine c.index-self-machine.result) c.index_mut-post.result.now
    (slice_get-get_or c.args.self.now.turnstiles.now c.in-Some-Some.field-0-0.machine c.index-self-machine.result (in_turnstiles g.M.Machine.takes g.M.Machine.charter c.args.self.now.turnstiles.now c.args.pass.now.posts.items c.args.pass.now.shift.items (length (c.args._job ∷ c.requires.fits.0)) c.requires.fits.1 c.in-Some-Some.field-0-0 c.pop_front.new.self.items (c.in-Some-Some.ensures.items ∙ ap (λ e. e ∷ c.pop_front.new.self.items) c.in-Some-Some.field-0-is)))
    (slice_get_read c.args.pass.now.posts.items (length c.args.pass.now.posts.items) c.in-Some-Some.field-0-0.machine c.index_mut-post.result.now refl (in_posts g.M.Machine.takes g.M.Machine.charter c.args.self.now.turnstiles.now c.args.pass.now.posts.items c.args.pass.now.shift.items (length (c.args._job ∷ c.requires.fits.0)) c.requires.fits.1 c.in-Some-Some.field-0-0 c.pop_front.new.self.items (c.in-Some-Some.ensures.items ∙ ap (λ e. e ∷ c.pop_front.new.self.items) c.in-Some-Some.field-0-is)) c.index_mut-post.ensures.value)
    (record { place = c.index_mut-post.result.now.place; seat = c.call.new.seat }) c.call.result.0 c.call.result.1
    (record { fits = c.call.ensures.fits; history = (c.call.ensures.history.0, c.call.ensures.history.1, c.call.ensures.history.2); own = c.call.ensures.own; stands = c.call.ensures.stands; budget = c.call.ensures.budget })

pub returns-in-Some-Some-clause-rest : goal.returns-in-Some-Some-clause-rest
returns-in-Some-Some-clause-rest g c = λ rest ready. ready_on g.M.Machine.takes g.M.Machine.charter c.args.self.now.turnstiles.now c.args.pass.now.posts.items c.args.pass.now.shift.items (length (c.args._job ∷ rest)) ready
    c.in-Some-Some.field-0-0 c.pop_front.new.self.items (c.in-Some-Some.ensures.items ∙ ap (λ e. e ∷ c.pop_front.new.self.items) c.in-Some-Some.field-0-is)
    (get_or c.args.self.now.turnstiles.now c.in-Some-Some.field-0-0.machine c.index-self-machine.result) c.index_mut-post.result.now
    (slice_get-get_or c.args.self.now.turnstiles.now c.in-Some-Some.field-0-0.machine c.index-self-machine.result (in_turnstiles g.M.Machine.takes g.M.Machine.charter c.args.self.now.turnstiles.now c.args.pass.now.posts.items c.args.pass.now.shift.items (length (c.args._job ∷ rest)) ready c.in-Some-Some.field-0-0 c.pop_front.new.self.items (c.in-Some-Some.ensures.items ∙ ap (λ e. e ∷ c.pop_front.new.self.items) c.in-Some-Some.field-0-is)))
    (slice_get_read c.args.pass.now.posts.items (length c.args.pass.now.posts.items) c.in-Some-Some.field-0-0.machine c.index_mut-post.result.now refl (in_posts g.M.Machine.takes g.M.Machine.charter c.args.self.now.turnstiles.now c.args.pass.now.posts.items c.args.pass.now.shift.items (length (c.args._job ∷ rest)) ready c.in-Some-Some.field-0-0 c.pop_front.new.self.items (c.in-Some-Some.ensures.items ∙ ap (λ e. e ∷ c.pop_front.new.self.items) c.in-Some-Some.field-0-is)) c.index_mut-post.ensures.value)
    (record { place = c.index_mut-post.result.now.place; seat = c.call.new.seat }) c.call.result.0 c.call.result.1
    (record { fits = c.call.ensures.fits; history = (c.call.ensures.history.0, c.call.ensures.history.1, c.call.ensures.history.2); own = c.call.ensures.own; stands = c.call.ensures.stands; budget = c.call.ensures.budget }) (length rest) (omega arith)

pub returns-in-Some-None-clause-gives : goal.returns-in-Some-None-clause-gives
returns-in-Some-None-clause-gives g c = subst (λ (s : List (Option _)). HasGone c.args.self.now.turnstiles.now 1 c.args.pass.now.posts.items s c.args.pass.now.posts.items c.pop_front.new.self.items) (sym (c.in-Some-None.ensures.items ∙ ap (λ e. e ∷ c.pop_front.new.self.items) c.in-Some-None.field-0-is)) (gone_past c.args.self.now.turnstiles.now c.args.pass.now.posts.items c.pop_front.new.self.items)

pub returns-in-Some-None-clause-rest : goal.returns-in-Some-None-clause-rest
returns-in-Some-None-clause-rest g c = λ rest ready. ready_past g.M.Machine.takes g.M.Machine.charter c.args.self.now.turnstiles.now c.args.pass.now.posts.items c.args.pass.now.shift.items (length (c.args._job ∷ rest)) ready (length rest) c.pop_front.new.self.items (omega arith)
    (c.in-Some-None.ensures.items ∙ ap (λ e. e ∷ c.pop_front.new.self.items) c.in-Some-None.field-0-is)

pub returns-in-None-clause-gives : goal.returns-in-None-clause-gives
returns-in-None-clause-gives g c = absurd (omega (arith, c.in-None.ensures.cases.0, c.args.pass.now.shift.ok.0, c.requires.fits.1.entries))

pub returns-in-None-clause-rest : goal.returns-in-None-clause-rest
returns-in-None-clause-rest g c = λ rest ready. absurd (omega (arith, c.in-None.ensures.cases.0, c.args.pass.now.shift.ok.0, ready.entries))

pub offset_bounds-self-machine : goal.offset_bounds-self-machine
offset_bounds-self-machine g c =
    let l : c.in-Some-Some.field-0-0.machine < length c.args.self.now.turnstiles.now = in_turnstiles g.M.Machine.takes g.M.Machine.charter c.args.self.now.turnstiles.now c.args.pass.now.posts.items c.args.pass.now.shift.items (length (c.args._job ∷ c.requires.fits.0)) c.requires.fits.1
    c.in-Some-Some.field-0-0 c.pop_front.new.self.items (c.in-Some-Some.ensures.items ∙ ap (λ e. e ∷ c.pop_front.new.self.items) c.in-Some-Some.field-0-is) in search rules
