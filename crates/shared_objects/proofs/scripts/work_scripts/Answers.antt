use Rattle.std.proofs.Common.{rules, ◌≡◌, ◌∙◌, ◌*◌, ◌≤◌, ◌<◌, ◌^◌, ℕ, List, [], map, length, reverse, sym, ap, subst, arith, mul_comm, le-mul_of_pos_right}
use Rattle.std.proofs.lemmas.List.{reverse-reverse}
use Rattle.std.proofs.lemmas.Result.{IfOk-at_ok, IfErr-at_err}
use Rattle.std.specs.List.{AllZip}
use Rattle.block_run.specs.Jobs.{jobs_of}
use Rattle.net_model.specs.BlockOrder.{IsMerge}
use Rattle.shared_objects.specs.Rising.{placed_from}
use Rattle.turnstile.specs.Names.{opening}
use Rattle.turnstile.specs.Turns.{turn_of}
use Rattle.turnstile.specs.Views.{IsWhole}
use Rattle.shared_objects.specs.Seats.{calls_at, HoldsAll}
use Rattle.shared_objects.proofs.Ending.{opened_hold, opened_unmade, written_over, come_back, as_many}
use Rattle.shared_objects.specs.Said.{said_on, all_said}
use Rattle.shared_objects.specs.Done.{HaveTalked}
use Rattle.shared_objects.proofs.ScriptsEnding.{all_opened, have_answered}
use Rattle.shared_objects.proofs.scripts.work_scripts.Goals as goal
use Rattle.shared_objects.proofs.scripts.work_scripts.Goals.{in-Ok-open_all, in-Err}

pub overflow_mul-each : goal.overflow_mul-each
overflow_mul-each g c =
    let same : c.from.result * c.args.most ≡ c.args.jobs * c.args.most = ap (λ (n : ℕ). n * c.args.most) c.from.ensures in
    let more : c.args.jobs * c.args.most ≤ c.args.jobs * c.args.most * length c.args.keeps.items = le-mul_of_pos_right (c.args.jobs * c.args.most) c.requires.some in
    let turned = mul_comm (c.args.jobs * c.args.most) (length c.args.keeps.items) in
    let few : c.from.result * c.args.most < 2 ^ 63 = omega (arith, same, more, turned, c.requires.calls) in
    search rules

pub work_opened-requires-clause-may : goal.work_opened-requires-clause-may
work_opened-requires-clause-may g c κs within = λ w keep e.
    subst (λ (ms : List _). g.T.Errands.may c.args.errands.now ms keep (jobs_of w (length c.args.keeps.items) c.args.jobs))
    (sym (ap (map opening) c.deref.ensures.value
    ∙ all_opened c.open_all.new.turnstiles.items c.open_all.new.machines.items c.args.machines.items (c.open_all.ensures.machines ∙ ap reverse c.reverse.ensures.items ∙ reverse-reverse c.args.machines.items) c.in-Ok-open_all.ensures.ok))
    (c.requires.may w keep e)

pub work_opened-requires-clause-empty : goal.work_opened-requires-clause-empty
work_opened-requires-clause-empty g c κs within = λ k d lt.
    let e = c.in-Ok-new.ensures.empty k d lt in
    let n = as_many c.open_all.new.turnstiles.items c.reverse.new.self.items c.open_all.new.machines.items c.open_all.ensures.machines in
    (e.0, omega (arith, e.1, n, ap length c.deref.ensures.value, c.reverse.ensures.len, c.len-3.ensures, c.args.machines.ok.0, c.reverse.new.self.ok.0))

pub close_all-requires-clause-whole : goal.close_all-requires-clause-whole
close_all-requires-clause-whole g c =
    elim c.match-open_all.branch [
      | in-Ok-open_all w ↦
          let whole = subst (λ (ts : List _). AllZip (HoldsAll {g = g.M.Machine}) ts w.work_opened.new.kept) w.deref.ensures.value w.work_opened.ensures.whole in
          let is = ap (λ v. v.items) w.kept-is
          ∙ written_over (c.len-4.result * (c.from.result * c.args.most)) c.open_all.new.turnstiles.items c.open_all.new.kept.items w.work_opened.new.kept c.open_all.new.kept.len c.open_all.ensures.opened whole c.open_all.new.kept.ok.0 in
          subst (λ (ps : List _). AllZip (HoldsAll {g = g.M.Machine}) c.open_all.new.turnstiles.items ps) (sym is) whole
      | in-Err w ↦
          subst (λ (ps : List _). AllZip (HoldsAll {g = g.M.Machine}) c.open_all.new.turnstiles.items ps) (sym (ap (λ v. v.items) w.kept-is))
          (opened_hold (c.len-4.result * (c.from.result * c.args.most)) c.open_all.new.turnstiles.items c.open_all.new.kept.items c.open_all.ensures.opened)
    ]

pub close_all-requires-clause-room : goal.close_all-requires-clause-room
close_all-requires-clause-room g c =
    let n = as_many c.open_all.new.turnstiles.items c.reverse.new.self.items c.open_all.new.machines.items c.open_all.ensures.machines in
    omega (arith, n, c.open_all.ensures.room, c.reverse.ensures.len, c.reverse.ensures.capacity, c.open_all.new.machines.ok.0, c.open_all.new.turnstiles.ok.0, c.reverse.new.self.ok, c.args.machines.ok)

pub returns-in-Ok-ended-clause-ok : goal.returns-in-Ok-ended-clause-ok
returns-in-Ok-ended-clause-ok g c =
    elim c.match-open_all.branch [
      | in-Ok-open_all w ↦
          let holds = subst (λ (ts : List _). AllZip (HoldsAll {g = g.M.Machine}) ts w.work_opened.new.kept) w.deref.ensures.value w.work_opened.ensures.whole in
          let is = ap (λ v. v.items) w.kept-is
          ∙ written_over (c.len-4.result * (c.from.result * c.args.most)) c.open_all.new.turnstiles.items c.open_all.new.kept.items w.work_opened.new.kept c.open_all.new.kept.len c.open_all.ensures.opened holds c.open_all.new.kept.ok.0 in
          let well = IfOk-at_ok (λ _. (talks : List (List (ℕ × List _))) × HaveTalked (g.T.Errands.does c.args.errands.now) c.args.jobs c.args.keeps.items talks w.work_opened.result.1.items
          × ((i : ℕ) (log : List _) → IsWhole (calls_at i w.work_opened.new.kept) log → IsMerge (map (said_on i) (map all_said talks)) (placed_from 0 log)))
          (sym (ap (λ r. r.0) w.ended-is) ∙ c.in-Ok-ended.is) w.work_opened.ensures.ok in
          record {
            talks = well.0;
            talked = subst (λ (r : _). HaveTalked (g.T.Errands.does c.args.errands.now) c.args.jobs c.args.keeps.items well.0 r.1.items) (sym w.ended-is) well.1;
            answered = have_answered (turn_of g.M.Machine.charter g.M.Machine.takes g.M.Machine.turns) c.open_all.new.turnstiles.items c.match-open_all.kept.items (map all_said well.0)
                (λ i log whole. well.2 i log (subst (λ (ps : List _). IsWhole (calls_at {g = g.M.Machine} i ps) log) is whole))
                c.args.machines.items c.open_all.new.machines.items c.close_all.new.machines.items c.reverse-2.new.self.items
                (c.open_all.ensures.machines ∙ ap reverse c.reverse.ensures.items ∙ reverse-reverse c.args.machines.items) w.in-Ok-open_all.ensures.ok c.close_all.ensures c.reverse-2.ensures.items;
          }
      | in-Err w ↦ let no = sym (ap (λ r. r.0) w.ended-is) ∙ c.in-Ok-ended.is in cc
    ]

pub returns-clause-err : goal.returns-clause-err
returns-clause-err g c = (
  come_back (turn_of g.M.Machine.charter g.M.Machine.takes g.M.Machine.turns) c.open_all.new.turnstiles.items c.match-open_all.kept.items c.args.machines.items c.open_all.new.machines.items c.close_all.new.machines.items
      c.reverse-2.new.self.items
      (c.open_all.ensures.machines ∙ ap reverse c.reverse.ensures.items ∙ reverse-reverse c.args.machines.items) c.close_all.ensures c.reverse-2.ensures.items
      (λ i log whole.
      elim c.match-open_all.branch [
        | in-Ok-open_all w ↦
            let holds = subst (λ (ts : List _). AllZip (HoldsAll {g = g.M.Machine}) ts w.work_opened.new.kept) w.deref.ensures.value w.work_opened.ensures.whole in
            let is = ap (λ v. v.items) w.kept-is
            ∙ written_over (c.len-4.result * (c.from.result * c.args.most)) c.open_all.new.turnstiles.items c.open_all.new.kept.items w.work_opened.new.kept c.open_all.new.kept.len c.open_all.ensures.opened holds c.open_all.new.kept.ok.0 in
            (IfErr-at_err (λ _. (w.work_opened.result.1.items ≡ c.args.keeps.items) × ((i : ℕ) (log : List _) → IsWhole (calls_at i w.work_opened.new.kept) log → log ≡ []))
            (sym (ap (λ r. r.0) w.ended-is) ∙ c.in-Err-ended.is) w.work_opened.ensures.err).1 i log (subst (λ (ps : List _). IsWhole (calls_at {g = g.M.Machine} i ps) log) is whole)
        | in-Err w ↦
            opened_unmade (c.len-4.result * (c.from.result * c.args.most)) c.open_all.new.turnstiles.items c.open_all.new.kept.items c.open_all.ensures.opened i log
            (subst (λ (ps : List _). IsWhole (calls_at {g = g.M.Machine} i ps) log) (ap (λ v. v.items) w.kept-is) whole)
      ]),
  elim c.match-open_all.branch [
    | in-Ok-open_all w ↦
        ap (λ r. r.1.items) w.ended-is
        ∙ (IfErr-at_err (λ _. (w.work_opened.result.1.items ≡ c.args.keeps.items) × ((i : ℕ) (log : List _) → IsWhole (calls_at i w.work_opened.new.kept) log → log ≡ []))
        (sym (ap (λ r. r.0) w.ended-is) ∙ c.in-Err-ended.is) w.work_opened.ensures.err).0
    | in-Err w ↦ ap (λ r. r.1.items) w.ended-is
  ],
)
