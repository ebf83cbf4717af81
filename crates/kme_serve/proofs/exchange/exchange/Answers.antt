use Rattle.std.proofs.Common.{◌≡◌, ℕ, List, Option, Bool, true, false, ◌||◌, ap, subst, ◌∙◌, sym}
use Rattle.std.proofs.lemmas.Result.{err_from_is_err_and}
use Rattle.kme_serve.specs.Owed.{IsUnpaid}
use Rattle.kme_serve.proofs.Ending.{next_ends, memory_ends, fault_ends, response_closes, response_fails, response_stays}
use Rattle.kme_serve.proofs.exchange.exchange.Goals as goal
use Rattle.kme_serve.proofs.exchange.exchange.Goals.{then-request, else-request}

either_left : (a b c : Bool) → a ≡ true → c ≡ a → c ≡ (a || b)
either_left a b c left is = is ∙ left ∙ ap (λ (x : Bool). x || b) (sym left)

either_right : (a b c : Bool) → a ≡ false → c ≡ b → c ≡ (a || b)
either_right a b c left is = is ∙ ap (λ (x : Bool). x || b) (sym left)

-- No write failed in between.
unpaid_since : (before after : Option (List ℕ)) (first second third : ℕ) (owed : List ℕ) → second ≡ first → IsUnpaid before after second third owed → IsUnpaid before after first third owed
unpaid_since before after first second third owed same unpaid = subst (λ (n : ℕ). IsUnpaid before after n third owed) same unpaid

pub returns-in_err-request-clause-goes : goal.returns-in_err-request-clause-goes
returns-in_err-request-clause-goes g c =
    let err = err_from_is_err_and c.from_residual.result c.from_residual.ensures.1 in
    rw (err.1, err.2)
    (next_ends _ _ _ _ _ _ _ c.next.new.kept _ c.next.new.owed _ _ _ c.in_err-request.field-0.0 c.requires.few c.requires.owed c.in_err-request.ensures)

pub returns-in-Err-clause-goes : goal.returns-in-Err-clause-goes
returns-in-Err-clause-goes g c =
    memory_ends _ _ _ _ _ _ _ _ _ _ _ _ _ _ _ _ c.in_ok-request.request c.requires.few c.requires.owed c.in_ok-request.ensures _ _ _ c.in-Err.ensures.answered c.give_up.ensures

pub returns-in-Err-owe-clause-goes : goal.returns-in-Err-owe-clause-goes
returns-in-Err-owe-clause-goes g c =
    fault_ends _ _ _ _ _ _ _ _ _ _ _ _ _ _ _ _ c.in_ok-request.request c.requires.few c.requires.owed c.in_ok-request.ensures c.in-Ok.text _ c.in-Ok.ensures.answered
    (elim c.if-request.branch [
      | then-request w ↦ either_left _ _ _ w.if-request.true w.close-is
      | else-request w ↦ either_right _ _ _ w.if-request.false w.close-is
    ]) c.in-Err-owe.ensures

pub returns-then-not-close-clause-goes : goal.returns-then-not-close-clause-goes
returns-then-not-close-clause-goes g c =
    response_stays _ _ _ _ _ _ _ _ _ _ _ _ _ _ _ _ c.in_ok-request.request c.requires.few c.requires.owed c.in_ok-request.ensures c.in-Ok.text _ c.in-Ok.ensures.answered
    (elim c.if-request.branch [
      | then-request w ↦ either_left _ _ _ w.if-request.true w.close-is
      | else-request w ↦ either_right _ _ _ w.if-request.false w.close-is
    ]) c.owe.new.owed c.in-Ok-owe.ensures.0 c.if-not-close.true c.in-Ok-owe.ensures.1

pub returns-in-Ok-pay-clause-goes : goal.returns-in-Ok-pay-clause-goes
returns-in-Ok-pay-clause-goes g c =
    response_closes _ _ _ _ _ _ _ _ _ _ _ _ _ _ _ _ c.in_ok-request.request c.requires.few c.requires.owed c.in_ok-request.ensures c.in-Ok.text _ c.in-Ok.ensures.answered
    (elim c.if-request.branch [
      | then-request w ↦ either_left _ _ _ w.if-request.true w.close-is
      | else-request w ↦ either_right _ _ _ w.if-request.false w.close-is
    ]) c.owe.new.owed (g.W.Sink.taken c.owe.new.sink) c.in-Ok-owe.ensures.0 c.if-not-close.false c.in-Ok-pay.ensures.0 (c.in-Ok-pay.ensures.2 ∙ c.in-Ok-owe.ensures.1)

pub returns-clause-goes : goal.returns-clause-goes
returns-clause-goes g c =
    response_fails _ _ _ _ _ _ _ _ _ _ _ _ _ _ _ _ c.in_ok-request.request c.requires.few c.requires.owed c.in_ok-request.ensures c.in-Ok.text _ c.in-Ok.ensures.answered
    (elim c.if-request.branch [
      | then-request w ↦ either_left _ _ _ w.if-request.true w.close-is
      | else-request w ↦ either_right _ _ _ w.if-request.false w.close-is
    ]) c.owe.new.owed (g.W.Sink.taken c.owe.new.sink) c.in-Ok-owe.ensures.0
    (unpaid_since _ _ _ _ _ _ c.in-Ok-owe.ensures.1 c.in-Err-pay.ensures)
