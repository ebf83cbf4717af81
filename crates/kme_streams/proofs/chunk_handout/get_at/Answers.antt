use Rattle.std.proofs.Common.{true, false, Some, None, refl, ◌∙◌, sym}
use Rattle.std.specs.Prelude.{◌==◌}
use Rattle.net_model.specs.Decision.{answers}
use Rattle.net_model.specs.Streams.{only_status, gives_chunk, chunk_at}
use Rattle.kme_streams.specs.Calls.{gets}
use Rattle.kme_streams.proofs.Deciding.{decided, gets_shown}
use Rattle.kme_streams.proofs.chunk_handout.get_at.Goals as goal

pub returns-then-is_early : goal.returns-then-is_early
returns-then-is_early c v seen =
    decided v (gets v c.args.caller c.args.index c.args.opened.now) (answers v (only_status 3)) c.answer.result
    (gets_shown v c.args.caller c.args.index c.args.opened.now true (c.args.caller == c.args.opened.now.source) (chunk_at v c.args.opened.now.stream c.args.index) (sym c.if-is_early.true ∙ c.is_early.ensures v seen) refl refl)
    (c.answer.ensures v)

pub returns-in-None : goal.returns-in-None
returns-in-None c v seen =
    decided v (gets v c.args.caller c.args.index c.args.opened.now) (answers v (only_status 2)) c.answer-in-None.result
    (gets_shown v c.args.caller c.args.index c.args.opened.now false (c.args.caller == c.args.opened.now.source) None (sym c.if-is_early.false ∙ c.is_early.ensures v seen) refl (c.in-None.ensures v seen))
    (c.answer-in-None.ensures v)

pub returns-in-Some : goal.returns-in-Some
returns-in-Some c v seen =
    decided v (gets v c.args.caller c.args.index c.args.opened.now) (gives_chunk v c.args.caller c.args.index c.eq-at_source.result (Some c.in-Some.fact.now)) c.give.result
    (gets_shown v c.args.caller c.args.index c.args.opened.now false c.eq-at_source.result (Some c.in-Some.fact.now) (sym c.if-is_early.false ∙ c.is_early.ensures v seen) c.eq-at_source.ensures (c.in-Some.ensures v seen))
    (c.give.ensures v seen)
