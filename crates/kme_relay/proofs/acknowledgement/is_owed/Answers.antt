use Rattle.std.proofs.Common.{sym, ap, ◌∙◌}
use Rattle.qkd_base.specs.Name.{has}
use Rattle.kme_relay.proofs.Receipts.{owed_is}
use Rattle.kme_relay.proofs.acknowledgement.is_owed.Goals as goal

pub returns-in-None : goal.returns-in-None
returns-in-None c = λ v h.
    sym (ap (λ ns. has ns c.args.name) (owed_is v c.args.known.now c.args.to h) ∙ c.in-None.ensures.owed c.args.to)

pub returns-in-Some : goal.returns-in-Some
returns-in-Some c = λ v h.
    c.eq.ensures ∙ sym (ap (λ ns. has ns c.args.name) (owed_is v c.args.known.now c.args.to h) ∙ c.in-Some.ensures.owed c.args.to)
