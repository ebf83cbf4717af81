use Rattle.std.proofs.Common.{sym, ◌∙◌}
use Rattle.kme_relay.proofs.Receipts.{ack_again, ack_taken}
use Rattle.kme_relay.proofs.acknowledgement.heard_acknowledgement.Goals as goal

pub returns-then-not-is_owed : goal.returns-then-not-is_owed
returns-then-not-is_owed c = λ v h.
    ack_again v c.args.lane c.args.from c.args.name c.new.result c.answer.result (sym (c.is_owed.ensures v h) ∙ c.if-not-is_owed.true) c.new.ensures c.answer.ensures

pub returns-in-Ok : goal.returns-in-Ok
returns-in-Ok c = λ v h.
    ack_taken v c.args.lane c.args.from c.args.name c.in-Ok.batch c.answer-in-Ok.result (sym (c.is_owed.ensures v h) ∙ c.if-not-is_owed.false) c.in-Ok.ensures c.answer-in-Ok.ensures
