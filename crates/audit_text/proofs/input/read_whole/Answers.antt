use Rattle.std.proofs.Common.{ℕ, ◌+◌, ◌-◌, List, take, drop, length, ap, arith}
use Rattle.std.proofs.lemmas.List.{take_rest, length-drop}
use Rattle.std.proofs.lemmas.Result.{err_from_is_err_and}
use Rattle.scenario_text.specs.Text.{parts_of}
use Rattle.audit_text.proofs.Cuts.{total_parts}
use Rattle.audit_text.proofs.Counting.{few_in_report}
use Rattle.audit_text.proofs.Inputs.{scenario_refused, report_refused}
use Rattle.audit_text.proofs.input.read_whole.Goals as goal

pub returns-in-Err-clause-input : goal.returns-in-Err-clause-input
returns-in-Err-clause-input c = rw c.refused.ensures (scenario_refused c.args.text.now c.scenario_end-size.result.0 c.in-Err.refusal c.scenario_end-size.ensures.octets c.in-Err.ensures)

pub returns-in_err-items-clause-input : goal.returns-in_err-items-clause-input
returns-in_err-items-clause-input c =
    let size = c.scenario_end-size.result.0 in
    let rest : List ℕ = take (length c.args.text.now - size) (drop size c.args.text.now) in
    let err = err_from_is_err_and c.from_residual.result c.from_residual.ensures.1 in
    rw (err.1, err.2)
    (report_refused c.args.text.now rest c.in-Ok.scenario size c.saturating_sub-left.result (c.scenario_end-size.result.1 + 1) c.in_err-items.field-0.0 c.scenario_end-size.ensures.octets c.in-Ok.ensures
    c.saturating_sub-left.ensures (ap (λ (n : ℕ). n + 1) c.scenario_end-size.ensures.lines) (take_rest c.args.text.now size) c.in_err-items.ensures)

pub returns-clause-few : goal.returns-clause-few
returns-clause-few c =
    let size = c.scenario_end-size.result.0 in
    let rest : List ℕ = take (length c.args.text.now - size) (drop size c.args.text.now) in
    let few = few_in_report c.in-Ok.scenario c.saturating_sub-left.result (parts_of rest) c.in_ok-items.items c.in_ok-items.ensures in
    omega (arith, few, total_parts rest, ap length (take_rest c.args.text.now size), length-drop size c.args.text.now, c.scenario_end-size.ensures.within.1, c.requires)
