use Rattle.std.proofs.Common.{Ok, ap, sym, refl, ◌∙◌, arith}
use Rattle.run_types.specs.declared.scenario.Scenario.{Scenario}
use Rattle.std.proofs.lemmas.List.{take_all}
use Rattle.scenario_text.proofs.Lines.{at_line, at_last, goes_on, ended, ended_early, refused_at, last_refused, last_ended, last_other}
use Rattle.scenario_text.proofs.scenario.read_parts.Goals as goal

pub loop-line-init : goal.loop-line-init
loop-line-init c = record {
  so_far = rw (c.new-reading.ensures, take_all 4194305 c.args.bytes.now c.requires) refl;
  number = omega arith;
}

pub returns-in-Err : goal.returns-in-Err
returns-in-Err c = rw c.refused.ensures (refused_at c.loop-line.number c.in-Err.refusal _ c.loop-line.reading c.take_line.new.reading _ _ _ c.in-Err.ensures.takes (at_line c.loop-line.left c.loop-line.number c.loop-line.reading c.in-Some.line.now c.without_return-own.result.now c.in-Some.behind.now c.loop-line.rest.now _ c.without_return-own.ensures c.in-Some.ensures.0 c.loop-line.invariant.so_far))

pub returns-then-is_empty : goal.returns-then-is_empty
returns-then-is_empty c = ended c.loop-line.number _ c.loop-line.reading c.take_line.new.reading _ _ _ (rw c.in-Ok-true.field-0-test at c.in-Ok-true.ensures.takes) (sym c.is_empty.ensures ∙ c.if-is_empty.true) (at_line c.loop-line.left c.loop-line.number c.loop-line.reading c.in-Some.line.now c.without_return-own.result.now c.in-Some.behind.now c.loop-line.rest.now _ c.without_return-own.ensures c.in-Some.ensures.0 c.loop-line.invariant.so_far) ∙ ap (λ (given : Scenario). Ok given) (sym c.into_scenario.ensures)

pub returns-else-is_empty : goal.returns-else-is_empty
returns-else-is_empty c = ended_early c.loop-line.number _ c.loop-line.reading c.take_line.new.reading _ _ _ (rw c.in-Ok-true.field-0-test at c.in-Ok-true.ensures.takes) (sym c.is_empty.ensures ∙ c.if-is_empty.false) (at_line c.loop-line.left c.loop-line.number c.loop-line.reading c.in-Some.line.now c.without_return-own.result.now c.in-Some.behind.now c.loop-line.rest.now _ c.without_return-own.ensures c.in-Some.ensures.0 c.loop-line.invariant.so_far)

pub loop-line-preserved : goal.loop-line-preserved
loop-line-preserved c = record {
  so_far = goes_on c.loop-line.number _ c.loop-line.reading c.take_line.new.reading _ _ _ (rw c.in-Ok-false.field-0-test at c.in-Ok-false.ensures.takes) (at_line c.loop-line.left c.loop-line.number c.loop-line.reading c.in-Some.line.now c.without_return-own.result.now c.in-Some.behind.now c.loop-line.rest.now _ c.without_return-own.ensures c.in-Some.ensures.0 c.loop-line.invariant.so_far);
  number = omega (arith, c.in-Some.ensures.1);
}

pub returns-in-Err-take_line : goal.returns-in-Err-take_line
returns-in-Err-take_line c = rw c.refused-in-Err-take_line.ensures (last_refused c.loop-line.number c.in-Err-take_line.refusal _ c.loop-line.reading c.take_line-2.new.reading _ c.in-Err-take_line.ensures.takes (at_last c.loop-line.left c.loop-line.number c.loop-line.reading c.loop-line.rest.now _ c.in_default.ensures c.loop-line.invariant.so_far))

pub returns-in-Ok-true-take_line : goal.returns-in-Ok-true-take_line
returns-in-Ok-true-take_line c = last_ended c.loop-line.number _ c.loop-line.reading c.take_line-2.new.reading _ (rw c.in-Ok-true-take_line.field-0-test at c.in-Ok-true-take_line.ensures.takes) (at_last c.loop-line.left c.loop-line.number c.loop-line.reading c.loop-line.rest.now _ c.in_default.ensures c.loop-line.invariant.so_far) ∙ ap (λ (given : Scenario). Ok given) (sym c.into_scenario-in-Ok-true-take_line.ensures)

pub returns-in-Ok-false-take_line : goal.returns-in-Ok-false-take_line
returns-in-Ok-false-take_line c = last_other c.loop-line.number _ c.loop-line.reading c.take_line-2.new.reading _ (rw c.in-Ok-false-take_line.field-0-test at c.in-Ok-false-take_line.ensures.takes) (at_last c.loop-line.left c.loop-line.number c.loop-line.reading c.loop-line.rest.now _ c.in_default.ensures c.loop-line.invariant.so_far)
