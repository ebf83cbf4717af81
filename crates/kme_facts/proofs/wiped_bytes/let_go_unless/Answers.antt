use Rattle.std.proofs.Common.{◌∙◌, sym}
use Rattle.kme_facts.proofs.Settling.{forgets, forgets_settled}
use Rattle.kme_facts.proofs.wiped_bytes.let_go_unless.Goals as goal

pub returns-then-not-needed-clause-lets : goal.returns-then-not-needed-clause-lets
returns-then-not-needed-clause-lets c =
    let known = c.forget.ensures.known in
    let marks = c.forget.ensures.marks in
    forgets c.args.streams.now c.forget.new.self c.args.place c.forget.ensures.facts
    (record { me = known.0; acked = known.1; facts_spare = known.2; acked_spare = known.3; handed = marks.0; handed_spare = marks.1; closed = marks.2; closed_spare = marks.3 })
    (sym c.requires ∙ c.if-not-needed.true)

pub returns-then-not-needed-clause-settled : goal.returns-then-not-needed-clause-settled
returns-then-not-needed-clause-settled c =
    let known = c.forget.ensures.known in
    let marks = c.forget.ensures.marks in
    forgets_settled c.args.streams.now c.forget.new.self c.args.place c.forget.ensures.facts
    (record { me = known.0; acked = known.1; facts_spare = known.2; acked_spare = known.3; handed = marks.0; handed_spare = marks.1; closed = marks.2; closed_spare = marks.3 })
