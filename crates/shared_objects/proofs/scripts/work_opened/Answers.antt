use Rattle.std.proofs.Common.{◌≡◌, ◌∙◌, ℕ, ◌*◌, List, [], map, length, vec_len, refl, sym, ap, subst, arith}
use Rattle.std.specs.List.{AllZip, AllByRecursion}
use Rattle.std.proofs.lemmas.List.{length-map}
use Rattle.net_model.specs.BlockOrder.{IsMerge}
use Rattle.shared_objects.specs.Rising.{placed_from}
use Rattle.turnstile.specs.Views.{IsWhole}
use Rattle.shared_objects.specs.Seats.{calls_at, Belongs}
use Rattle.shared_objects.proofs.Opening.{fresh_budget, opened_fresh, opened_belong}
use Rattle.shared_objects.proofs.Merging.{when_ok, when_err}
use Rattle.shared_objects.specs.Said.{said_on, all_said}
use Rattle.shared_objects.specs.Working.{HaveWorked}
use Rattle.shared_objects.specs.Done.{HaveTalked}
use Rattle.shared_objects.proofs.Telling.{all_belong, told_same}
use Rattle.shared_objects.proofs.Working.{ready_all}
use Rattle.shared_objects.proofs.ScriptsKept.{from_map, all_nothing, kept_whole, kept_merged, kept_unmade}
use Rattle.shared_objects.proofs.scripts.work_opened.Goals as goal

pub seat_workers-requires-clause-fits : goal.seat_workers-requires-clause-fits
seat_workers-requires-clause-fits g c = opened_belong (vec_len c.args.keeps * c.args.calls) c.args.rounds.now.turnstiles.now c.args.kept.now c.requires.opened

pub seat_workers-requires-clause-budget : goal.seat_workers-requires-clause-budget
seat_workers-requires-clause-budget g c i lt =
    sym (fresh_budget (vec_len c.args.keeps * c.args.calls) c.args.rounds.now.turnstiles.now i c.args.kept.now (opened_fresh (vec_len c.args.keeps * c.args.calls) c.args.rounds.now.turnstiles.now c.args.kept.now c.requires.opened) lt)

pub work_seated-ended-requires-clause-ready : goal.work_seated-ended-requires-clause-ready
work_seated-ended-requires-clause-ready g c κs within =
    ready_all (g.T.Errands.may c.args.rounds.now.errands.now) (g.T.Errands.most c.args.rounds.now.errands.now) c.args.rounds.now.turnstiles.now (λ p. p.posts.items) (λ p. p.keep) c.seat_workers.new.passes.items c.args.keeps.items c.args.jobs c.args.calls
    c.seat_workers.ensures.keeps c.requires.some c.requires.calls c.seat_workers.ensures.fresh c.requires.may

pub join_workers-requires-clause-rows : goal.join_workers-requires-clause-rows
join_workers-requires-clause-rows g c =
    from_map (λ p. p.posts.items) (AllZip (Belongs {g = g.M.Machine}) c.args.rounds.now.turnstiles.now) c.work_seated-ended.result.1.items
    (all_belong c.args.rounds.now.turnstiles.now (map all_said c.work_seated-ended.ensures.talks) (map (λ p. p.posts.items) c.seat_workers.new.passes.items) (map (λ p. p.posts.items) c.work_seated-ended.result.1.items) c.work_seated-ended.ensures.told)

pub join_workers-requires-clause-room : goal.join_workers-requires-clause-room
join_workers-requires-clause-room g c =
    let same = told_same c.args.rounds.now.turnstiles.now (map all_said c.work_seated-ended.ensures.talks) (map (λ p. p.posts.items) c.seat_workers.new.passes.items) (map (λ p. p.posts.items) c.work_seated-ended.result.1.items) c.work_seated-ended.ensures.told in
    omega (arith, same, length-map c.seat_workers.new.passes.items (λ p. p.posts.items), length-map c.work_seated-ended.result.1.items (λ p. p.posts.items), length-map c.seat_workers.new.passes.items (λ p. p.keep), ap length c.seat_workers.ensures.keeps, c.requires.room.1, c.args.keeps.ok.0, c.work_seated-ended.result.1.ok.0)

pub returns-clause-whole : goal.returns-clause-whole
returns-clause-whole g c =
    kept_whole c.args.rounds.now.turnstiles.now (λ p. p.posts.items) c.args.calls (vec_len c.args.keeps * c.args.calls) c.seat_workers.new.passes.items c.work_seated-ended.result.1.items
    c.args.kept.now c.seat_workers.new.kept c.join_workers.new.kept c.requires.opened c.seat_workers.ensures.fresh c.seat_workers.ensures.own c.join_workers.ensures.own (map all_said c.work_seated-ended.ensures.talks) c.work_seated-ended.ensures.told
    c.seat_workers.ensures.budget c.join_workers.ensures.budget
    (ap (λ (n : ℕ). n * c.args.calls) (sym (length-map c.seat_workers.new.passes.items (λ p. p.keep)) ∙ ap length c.seat_workers.ensures.keeps ∙ sym c.args.keeps.ok.0))
    c.join_workers.ensures.kept

pub returns-clause-ok : goal.returns-clause-ok
returns-clause-ok g c =
    when_ok c.work_seated-ended.result.0
    (λ well. HaveWorked {g = g.M.Machine} (g.T.Errands.does c.args.rounds.now.errands.now) c.args.rounds.now.turnstiles.now well c.args.jobs (map (λ p. p.posts.items) c.seat_workers.new.passes.items) (map (λ p. p.keep) c.seat_workers.new.passes.items)
    (map (λ p. p.posts.items) c.work_seated-ended.result.1.items) (map (λ p. p.keep) c.work_seated-ended.result.1.items))
    ((talks : List (List (ℕ × List _))) × HaveTalked (g.T.Errands.does c.args.rounds.now.errands.now) c.args.jobs c.args.keeps.items talks c.join_workers.new.keeps.items
    × ((i : ℕ) (log : List _) → IsWhole (calls_at i c.join_workers.new.kept) log → IsMerge (map (said_on i) (map all_said talks)) (placed_from 0 log)))
    (λ w. (
      w.talks,
      subst (λ (ls : List _). HaveTalked (g.T.Errands.does c.args.rounds.now.errands.now) c.args.jobs c.args.keeps.items w.talks ls) (sym c.join_workers.ensures.keeps)
          (subst (λ (ks : List _). HaveTalked (g.T.Errands.does c.args.rounds.now.errands.now) c.args.jobs ks w.talks (map (λ p. p.keep) c.work_seated-ended.result.1.items)) c.seat_workers.ensures.keeps (w.well refl)),
      λ i log whole.
          kept_merged c.args.rounds.now.turnstiles.now (λ p. p.posts.items) c.args.calls (vec_len c.args.keeps * c.args.calls) c.seat_workers.new.passes.items c.work_seated-ended.result.1.items
          c.args.kept.now c.seat_workers.new.kept c.join_workers.new.kept c.requires.opened c.seat_workers.ensures.fresh c.seat_workers.ensures.own c.join_workers.ensures.own (map all_said w.talks) w.told i log whole,
    ))
    c.work_seated-ended.ensures

pub returns-clause-err : goal.returns-clause-err
returns-clause-err g c =
    when_err c.work_seated-ended.result.0
    (λ well. HaveWorked {g = g.M.Machine} (g.T.Errands.does c.args.rounds.now.errands.now) c.args.rounds.now.turnstiles.now well c.args.jobs (map (λ p. p.posts.items) c.seat_workers.new.passes.items) (map (λ p. p.keep) c.seat_workers.new.passes.items)
    (map (λ p. p.posts.items) c.work_seated-ended.result.1.items) (map (λ p. p.keep) c.work_seated-ended.result.1.items))
    ((c.join_workers.new.keeps.items ≡ c.args.keeps.items) × ((i : ℕ) (log : List _) → IsWhole (calls_at i c.join_workers.new.kept) log → log ≡ []))
    (λ w. (
      c.join_workers.ensures.keeps ∙ (w.idle refl).0 ∙ c.seat_workers.ensures.keeps,
      λ i log whole.
          kept_unmade c.args.rounds.now.turnstiles.now (λ p. p.posts.items) c.args.calls (vec_len c.args.keeps * c.args.calls) c.seat_workers.new.passes.items c.work_seated-ended.result.1.items
          c.args.kept.now c.seat_workers.new.kept c.join_workers.new.kept c.requires.opened c.seat_workers.ensures.fresh c.seat_workers.ensures.own c.join_workers.ensures.own (map all_said w.talks) w.told
          (subst (λ (saids : List (List _)). AllByRecursion (λ said. said ≡ []) saids) (sym (w.idle refl).1) (all_nothing _ (map (λ p. p.keep) c.seat_workers.new.passes.items))) i log whole,
    ))
    c.work_seated-ended.ensures
