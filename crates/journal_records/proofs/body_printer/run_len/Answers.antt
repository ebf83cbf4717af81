use Rattle.std.proofs.Common.{◌≡◌, ℕ, ◌<◌, ◌+◌, ◌-◌, List, [], false, sym, ◌∙◌, ap, arith, drop, length}
use Rattle.std.proofs.lemmas.List.{drop_all}
use Rattle.net_model.specs.declared.record.Record.{Record}
use Rattle.net_model.specs.declared.record.Record.TheVariants.{Handed}
use Rattle.journal_records.specs.Grammar.{run_len}
use Rattle.journal_records.proofs.Groups.{is_handing}
use Rattle.journal_records.proofs.Loops.{run_on, run_off, run_past, plain_of, differ}
use Rattle.journal_records.proofs.Texts.{run_end, run_none}
use Rattle.journal_records.proofs.body_printer.run_len.Goals as goal
use Rattle.journal_records.proofs.body_printer.run_len.Goals.{then-to-wanted-via-then-to-wanted, then-to-wanted-via-else-to-wanted+then-count-ge128}

pub returns-then-to-wanted-clause-len : goal.returns-then-to-wanted-clause-len
returns-then-to-wanted-clause-len c =
    let v = c.loop-change.invariant in
    let here : c.loop-change.change-index < length c.args.records.now = c.loop-change-test.true in
    elim c.then-to-wanted.branch [
      | then-to-wanted-via-then-to-wanted w ↦
          omega (
            arith,
            v.run,
            run_off c.args.sae c.in-Handed.other (128 - c.loop-change.count) c.loop-change.change-index c.args.records.now c.change-item.result c.in-Handed.name here (sym c.change-item.is ∙ c.in-Handed.is)
                (differ c.in-Handed.other c.args.sae (λ e. w.if-to-wanted.true (c.get-to.ensures.number ∙ e ∙ sym c.get-wanted.ensures.number))),
          )
      | then-to-wanted-via-else-to-wanted+then-count-ge128 w ↦
          let none : 128 - c.loop-change.count ≡ 0 = omega (arith, w.if-count-ge128.true) in
          omega (arith, v.run, ap (λ (k : ℕ). run_len c.args.sae k (drop c.loop-change.change-index c.args.records.now)) none, run_none c.args.sae (drop c.loop-change.change-index c.args.records.now))
    ]

pub returns-in_default : goal.returns-in_default
returns-in_default c =
    let v = c.loop-change.invariant in
    let plain : is_handing c.change-item.result ≡ false = plain_of c.change-item.result (λ n to e. c.in_default.not-Handed n to e) in
    let past = run_past c.args.sae (128 - c.loop-change.count) c.loop-change.change-index c.args.records.now c.change-item.result c.loop-change-test.true (ap is_handing (sym c.change-item.is) ∙ plain) in
    record { len = omega (arith, v.run, past); few = v.few }

pub loop-change-preserved : goal.loop-change-preserved
loop-change-preserved c =
    let v = c.loop-change.invariant in
    let same : c.in-Handed.other ≡ c.args.sae = sym c.get-to.ensures.number ∙ c.if-to-wanted.false ∙ c.get-wanted.ensures.number in
    let few : c.loop-change.count < 128 = omega (arith, c.if-count-ge128.false) in
    let here : c.loop-change.change-index < length c.args.records.now = c.loop-change-test.true in
    let on = run_on c.args.sae c.loop-change.count c.loop-change.change-index c.args.records.now c.change-item.result c.in-Handed.name here (sym c.change-item.is ∙ c.in-Handed.is ∙ ap (λ t. Handed c.in-Handed.name t) same) few in
    record { run = sym on ∙ v.run; few = omega (arith, few) }

pub returns-clause-len : goal.returns-clause-len
returns-clause-len c =
    let v = c.loop-change.invariant in
    let none : drop c.loop-change.change-index c.args.records.now ≡ [] = drop_all c.loop-change.change-index c.args.records.now c.loop-change-test.false in
    omega (arith, v.run, ap (λ (l : List Record). run_len c.args.sae (128 - c.loop-change.count) l) none, run_end c.args.sae (128 - c.loop-change.count))
