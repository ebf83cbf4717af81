use Rattle.std.proofs.Common.{refl}
use Rattle.net_model.specs.declared.event.Event.TheVariants as events
use Rattle.net_model.specs.Action.{Ok as Fine, Ask}
use Rattle.run_types.specs.declared.command.Command.TheVariants as commands
use Rattle.declared_site.specs.SiteOf.{site_of}
use Rattle.run_model.specs.Turn.{turn_of}
use Rattle.run_model.specs.Outcomes.{handed_items}
use Rattle.run_model.specs.Headline.{given_to}
use Rattle.run_lines.specs.Commands.{any_texts}
use Rattle.run_tasks.proofs.Hearing.{asked_finishes, ready_after}
use Rattle.run_tasks.proofs.lines.load_line.Goals as goal

pub ask_for_keys-masters-requires-clause-fit : goal.ask_for_keys-masters-requires-clause-fit
unfolding turn_of
ask_for_keys-masters-requires-clause-fit g c = let fit = c.requires.fit in (rw c.in-Enc.is at fit) any_texts

pub ask_for_keys-slaves-requires-clause-fit : goal.ask_for_keys-slaves-requires-clause-fit
unfolding turn_of
ask_for_keys-slaves-requires-clause-fit g c = let fit = c.requires.fit in (rw c.in-Dec.is at fit) any_texts

pub returns-in-Enc-clause-runs : goal.returns-in-Enc-clause-runs
unfolding turn_of
returns-in-Enc-clause-runs g c = λ http net w ready.
    let done = c.ask_for_keys-masters.ensures.done net w ready in
    let command = commands.Enc c.in-Enc.node c.in-Enc.master c.in-Enc.slave c.in-Enc.count c.in-Enc.bits in
    let action = Ask c.in-Enc.node (events.Enc c.in-Enc.master c.in-Enc.slave c.in-Enc.count c.in-Enc.bits) Fine in
    rw c.in-Enc.is
    (asked_finishes g.S.Acts.stands g.S.Acts.rests g.S.Acts.tallied _ _ _ c.args.number net w _ http (site_of (g.S.Acts.site c.args.net.now)) command action done.0 handed_items _ refl refl done.2 done.1 refl)

pub returns-in-Dec-clause-runs : goal.returns-in-Dec-clause-runs
unfolding turn_of
returns-in-Dec-clause-runs g c = λ http net w ready.
    let done = c.ask_for_keys-slaves.ensures.done net w ready in
    let command = commands.Dec c.in-Dec.node c.in-Dec.slave c.in-Dec.master c.in-Dec.names in
    let action = Ask c.in-Dec.node (events.Dec c.in-Dec.slave c.in-Dec.master c.in-Dec.names) Fine in
    rw c.in-Dec.is
    (asked_finishes g.S.Acts.stands g.S.Acts.rests g.S.Acts.tallied _ _ _ c.args.number net w _ http (site_of (g.S.Acts.site c.args.net.now)) command action done.0 handed_items _ refl refl done.2 refl done.1)

pub returns-in-Ledger-clause-runs : goal.returns-in-Ledger-clause-runs
returns-in-Ledger-clause-runs g c = λ http. rw c.in-Ledger.is (c.ledger_line.ensures.runs http)

pub returns-in-Ledger-clause-ready : goal.returns-in-Ledger-clause-ready
returns-in-Ledger-clause-ready g c = ready_after _ _ _ _ _ _ _ _ _ _ c.ledger_line.result (c.ledger_line.ensures.runs any_texts) c.requires.ready

pub returns-in_default-clause-runs : goal.returns-in_default-clause-runs
returns-in_default-clause-runs g c = λ http. c.silent_line.ensures.runs http _

pub returns-in_default-clause-ready : goal.returns-in_default-clause-ready
returns-in_default-clause-ready g c = ready_after _ _ _ _ _ _ _ (given_to g.W.Sink.taken g.W.Sink.pieces c.args.sink.now) _ _ c.silent_line.result (c.silent_line.ensures.runs any_texts (given_to g.W.Sink.taken g.W.Sink.pieces c.args.sink.now)) c.requires.ready
