use Rattle.std.proofs.Common.{◌^◌, arith, ◌∙◌}
use Rattle.std.specs.List.{list_all}
use Rattle.scenario_text.specs.Words.{is_digit}
use Rattle.scenario_text.proofs.Numbers.{too_large}
use Rattle.report_grammar.specs.Fields.{long_of}
use Rattle.report_grammar.proofs.fields.long.Goals as goal

pub returns-in_err-checked_mul : goal.returns-in_err-checked_mul
unfolding long_of
returns-in_err-checked_mul c =
    c.from_residual.ensures ∙ too_large (list_all is_digit c.args.word.now) c.loop-b.value (2 ^ 64) _ c.args.word.now c.loop-b.b-index (omega arith) c.loop-b.invariant.rest (omega (arith, c.in_err-checked_mul.ensures {u = tt}))

pub returns-in_err-value : goal.returns-in_err-value
unfolding long_of
returns-in_err-value c =
    c.from_residual-in_err-value.ensures
    ∙ too_large (list_all is_digit c.args.word.now) c.loop-b.value (2 ^ 64) _ c.args.word.now c.loop-b.b-index (omega arith) c.loop-b.invariant.rest (omega (arith, c.in_err-value.ensures {u = tt}))
