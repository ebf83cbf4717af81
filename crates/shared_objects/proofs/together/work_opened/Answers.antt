use Rattle.std.proofs.Common.{◌≡◌, ◌∙◌, ℕ, ◌*◌, List, [], map, length, is_ok, vec_len, sym, ap, ap₂, subst}
use Rattle.std.specs.List.{AllZip}
use Rattle.std.proofs.lemmas.List.{length-map}
use Rattle.net_model.specs.BlockOrder.{IsMerge}
use Rattle.turnstile.specs.Views.{IsWhole}
use Rattle.shared_objects.specs.Asked.{requests_on}
use Rattle.shared_objects.specs.Seats.{calls_at}
use Rattle.shared_objects.specs.Shares.{HasWorked}
use Rattle.shared_objects.proofs.Opening.{fresh_budget, opened_fresh, opened_belong, ready_all}
use Rattle.shared_objects.proofs.Merging.{all_belong, when_ok, when_err}
use Rattle.shared_objects.proofs.Kept.{kept_whole, kept_merged, kept_unmade, by_shift}
use Rattle.shared_objects.proofs.together.work_opened.Goals as goal

pub seat_workers-requires-clause-fits : goal.seat_workers-requires-clause-fits
seat_workers-requires-clause-fits g c = opened_belong (vec_len c.args.shifts * c.args.jobs) c.args.turnstiles.now c.args.kept.now c.requires.opened

pub seat_workers-requires-clause-budget : goal.seat_workers-requires-clause-budget
seat_workers-requires-clause-budget g c i lt =
    ap (λ (n : ℕ). vec_len c.args.shifts * n) c.from.ensures
    ∙ sym (fresh_budget (vec_len c.args.shifts * c.args.jobs) c.args.turnstiles.now i c.args.kept.now (opened_fresh (vec_len c.args.shifts * c.args.jobs) c.args.turnstiles.now c.args.kept.now c.requires.opened) lt)

pub work_seated-ended-requires-clause-ready : goal.work_seated-ended-requires-clause-ready
work_seated-ended-requires-clause-ready g c κs within =
    ready_all g.M.Machine.takes g.M.Machine.charter c.args.turnstiles.now (λ p. p.posts.items) (λ p. p.shift) (λ s. s.items) c.seat_workers.new.passes.items c.args.shifts.items c.args.jobs c.from.result
    c.from.ensures c.seat_workers.ensures.shifts c.requires.some c.seat_workers.ensures.fresh c.requires.entries c.requires.taken

pub join_workers-requires-clause-rows : goal.join_workers-requires-clause-rows
join_workers-requires-clause-rows g c =
    all_belong c.args.turnstiles.now (λ p. p.posts.items) (λ p. p.shift.items) (is_ok c.work_seated-ended.result.0) c.seat_workers.new.passes.items c.work_seated-ended.result.1.items c.work_seated-ended.ensures

pub returns-clause-whole : goal.returns-clause-whole
returns-clause-whole g c =
    kept_whole c.args.turnstiles.now (λ p. p.posts.items) (λ p. p.shift.items) c.from.result (vec_len c.args.shifts * c.args.jobs) c.seat_workers.new.passes.items c.work_seated-ended.result.1.items
    c.args.kept.now c.seat_workers.new.kept c.join_workers.new.kept c.requires.opened c.seat_workers.ensures.fresh c.seat_workers.ensures.own c.join_workers.ensures.own
    (is_ok c.work_seated-ended.result.0) c.work_seated-ended.ensures c.seat_workers.ensures.budget c.join_workers.ensures.budget
    (ap₂ (λ (n m : ℕ). n * m) (sym (length-map c.seat_workers.new.passes.items (λ p. p.shift)) ∙ ap length c.seat_workers.ensures.shifts ∙ sym c.args.shifts.ok.0) c.from.ensures)
    c.join_workers.ensures.kept

pub returns-clause-ok : goal.returns-clause-ok
returns-clause-ok g c =
    when_ok c.work_seated-ended.result.0
    (λ well. AllZip (λ before after. HasWorked {g = g.M.Machine} c.args.turnstiles.now well before.posts.items before.shift.items after.posts.items) c.seat_workers.new.passes.items c.work_seated-ended.result.1.items)
    ((i : ℕ) (log : List _) → IsWhole (calls_at i c.join_workers.new.kept) log → IsMerge (map (requests_on i) (map (λ shift. shift.items) c.args.shifts.items)) (map (λ e. e.0) log))
    (λ did i log whole.
    subst (λ (asked : List (List _)). IsMerge asked (map (λ e. e.0) log)) (by_shift i (λ p. p.shift) (λ s. s.items) c.seat_workers.new.passes.items c.args.shifts.items c.seat_workers.ensures.shifts)
    (kept_merged c.args.turnstiles.now (λ p. p.posts.items) (λ p. p.shift.items) c.from.result (vec_len c.args.shifts * c.args.jobs) c.seat_workers.new.passes.items c.work_seated-ended.result.1.items
    c.args.kept.now c.seat_workers.new.kept c.join_workers.new.kept c.requires.opened c.seat_workers.ensures.fresh c.seat_workers.ensures.own c.join_workers.ensures.own did i log whole))
    c.work_seated-ended.ensures

pub returns-clause-err : goal.returns-clause-err
returns-clause-err g c =
    when_err c.work_seated-ended.result.0
    (λ well. AllZip (λ before after. HasWorked {g = g.M.Machine} c.args.turnstiles.now well before.posts.items before.shift.items after.posts.items) c.seat_workers.new.passes.items c.work_seated-ended.result.1.items)
    ((i : ℕ) (log : List _) → IsWhole (calls_at i c.join_workers.new.kept) log → log ≡ [])
    (kept_unmade c.args.turnstiles.now (λ p. p.posts.items) (λ p. p.shift.items) c.from.result (vec_len c.args.shifts * c.args.jobs) c.seat_workers.new.passes.items c.work_seated-ended.result.1.items
    c.args.kept.now c.seat_workers.new.kept c.join_workers.new.kept c.requires.opened c.seat_workers.ensures.fresh c.seat_workers.ensures.own c.join_workers.ensures.own)
    c.work_seated-ended.ensures
