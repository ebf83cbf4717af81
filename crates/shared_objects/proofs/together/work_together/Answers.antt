use Rattle.std.proofs.Common.{◌≡◌, ◌∙◌, ◌*◌, ℕ, List, [], map, reverse, sym, ap, subst, arith}
use Rattle.std.proofs.lemmas.List.{reverse-reverse}
use Rattle.std.proofs.lemmas.Result.{IfOk-at_ok, IfErr-at_err}
use Rattle.std.specs.List.{AllZip}
use Rattle.net_model.specs.BlockOrder.{IsMerge}
use Rattle.turnstile.specs.Turns.{turn_of}
use Rattle.turnstile.specs.Views.{IsWhole}
use Rattle.shared_objects.specs.Asked.{requests_on}
use Rattle.shared_objects.specs.Seats.{calls_at, HoldsAll}
use Rattle.shared_objects.proofs.Ending.{opened_hold, opened_unmade, written_over, come_back, have_served, as_many}
use Rattle.shared_objects.proofs.together.work_together.Goals as goal
use Rattle.shared_objects.proofs.together.work_together.Goals.{in-Ok-open_all, in-Err}

pub close_all-requires-clause-whole : goal.close_all-requires-clause-whole
close_all-requires-clause-whole g c =
    elim c.match-open_all.branch [
      | in-Ok-open_all w ↦
          let whole = subst (λ (ts : List _). AllZip (HoldsAll {g = g.M.Machine}) ts w.work_opened-ended.new.kept) w.deref.ensures.value w.work_opened-ended.ensures.whole in
          let is = ap (λ v. v.items) w.kept-is ∙ written_over (c.len-3.result * c.from.result) c.open_all.new.turnstiles.items c.open_all.new.kept.items w.work_opened-ended.new.kept c.open_all.new.kept.len c.open_all.ensures.opened whole c.open_all.new.kept.ok.0 in
          subst (λ (ps : List _). AllZip (HoldsAll {g = g.M.Machine}) c.open_all.new.turnstiles.items ps) (sym is) whole
      | in-Err w ↦
          subst (λ (ps : List _). AllZip (HoldsAll {g = g.M.Machine}) c.open_all.new.turnstiles.items ps) (sym (ap (λ v. v.items) w.kept-is))
          (opened_hold (c.len-3.result * c.from.result) c.open_all.new.turnstiles.items c.open_all.new.kept.items c.open_all.ensures.opened)
    ]

pub close_all-requires-clause-room : goal.close_all-requires-clause-room
close_all-requires-clause-room g c =
    let n = as_many c.open_all.new.turnstiles.items c.reverse.new.self.items c.open_all.new.machines.items c.open_all.ensures.machines in
    omega (arith, n, c.open_all.ensures.room, c.reverse.ensures.len, c.reverse.ensures.capacity, c.open_all.new.machines.ok.0, c.open_all.new.turnstiles.ok.0, c.reverse.new.self.ok, c.args.machines.ok)

pub returns-in-Ok-ended-clause-ok : goal.returns-in-Ok-ended-clause-ok
returns-in-Ok-ended-clause-ok g c =
    elim c.match-open_all.branch [
      | in-Ok-open_all w ↦
          let holds = subst (λ (ts : List _). AllZip (HoldsAll {g = g.M.Machine}) ts w.work_opened-ended.new.kept) w.deref.ensures.value w.work_opened-ended.ensures.whole in
          let is = ap (λ v. v.items) w.kept-is ∙ written_over (c.len-3.result * c.from.result) c.open_all.new.turnstiles.items c.open_all.new.kept.items w.work_opened-ended.new.kept c.open_all.new.kept.len c.open_all.ensures.opened holds c.open_all.new.kept.ok.0 in
          have_served (turn_of g.M.Machine.charter g.M.Machine.takes g.M.Machine.turns) c.open_all.new.turnstiles.items c.match-open_all.kept.items c.args.machines.items c.open_all.new.machines.items c.close_all.new.machines.items
          c.reverse-2.new.self.items (map (λ shift. shift.items) c.args.shifts.items)
          (c.open_all.ensures.machines ∙ ap reverse c.reverse.ensures.items ∙ reverse-reverse c.args.machines.items) w.in-Ok-open_all.ensures.ok c.close_all.ensures c.reverse-2.ensures.items
          (λ i log whole.
          IfOk-at_ok (λ _. (i : ℕ) (log : List _) → IsWhole (calls_at i w.work_opened-ended.new.kept) log → IsMerge (map (requests_on i) (map (λ shift. shift.items) c.args.shifts.items)) (map (λ e. e.0) log))
          (sym w.ended-is ∙ c.in-Ok-ended.is) w.work_opened-ended.ensures.ok i log (subst (λ (ps : List _). IsWhole (calls_at {g = g.M.Machine} i ps) log) is whole))
      | in-Err w ↦ let no = sym w.ended-is ∙ c.in-Ok-ended.is in cc
    ]

pub returns-clause-err : goal.returns-clause-err
returns-clause-err g c =
    come_back (turn_of g.M.Machine.charter g.M.Machine.takes g.M.Machine.turns) c.open_all.new.turnstiles.items c.match-open_all.kept.items c.args.machines.items c.open_all.new.machines.items c.close_all.new.machines.items
    c.reverse-2.new.self.items
    (c.open_all.ensures.machines ∙ ap reverse c.reverse.ensures.items ∙ reverse-reverse c.args.machines.items) c.close_all.ensures c.reverse-2.ensures.items
    (λ i log whole.
    elim c.match-open_all.branch [
      | in-Ok-open_all w ↦
          let holds = subst (λ (ts : List _). AllZip (HoldsAll {g = g.M.Machine}) ts w.work_opened-ended.new.kept) w.deref.ensures.value w.work_opened-ended.ensures.whole in
          let is = ap (λ v. v.items) w.kept-is ∙ written_over (c.len-3.result * c.from.result) c.open_all.new.turnstiles.items c.open_all.new.kept.items w.work_opened-ended.new.kept c.open_all.new.kept.len c.open_all.ensures.opened holds c.open_all.new.kept.ok.0 in
          IfErr-at_err (λ _. (i : ℕ) (log : List _) → IsWhole (calls_at i w.work_opened-ended.new.kept) log → log ≡ [])
          (sym w.ended-is ∙ c.in-Err-ended.is) w.work_opened-ended.ensures.err i log (subst (λ (ps : List _). IsWhole (calls_at {g = g.M.Machine} i ps) log) is whole)
      | in-Err w ↦
          opened_unmade (c.len-3.result * c.from.result) c.open_all.new.turnstiles.items c.open_all.new.kept.items c.open_all.ensures.opened i log
          (subst (λ (ps : List _). IsWhole (calls_at {g = g.M.Machine} i ps) log) (ap (λ v. v.items) w.kept-is) whole)
    ])
