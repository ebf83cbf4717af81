use Rattle.std.proofs.Common.{[], ◌∷◌, ◌&&◌, not, true, false, Some, None, refl, ◌∙◌, sym}
use Rattle.net_model.specs.declared.record.Record.TheVariants.{Handed}
use Rattle.net_model.specs.declared.reply.Reply.TheVariants.{Stream}
use Rattle.net_model.specs.Table.{name_of, bytes_of}
use Rattle.net_model.specs.Decision.{answers, makes, is_confirmed}
use Rattle.net_model.specs.Streams.{only_status, gives_chunk}
use Rattle.kme_streams.proofs.Deciding.{decided, gives_shown}
use Rattle.kme_streams.proofs.chunk_handout.give.Goals as goal

pub returns-then-has_got : goal.returns-then-has_got
returns-then-has_got c v seen =
    decided v (gives_chunk v c.args.caller c.args.index c.args.at_source (Some c.args.fact.now)) (answers v (only_status 10)) c.answer.result
    (gives_shown v c.args.caller c.args.index c.args.at_source c.args.fact.now true (c.args.at_source && not (is_confirmed v (name_of c.args.fact.now))) (sym c.if-has_got.true ∙ c.has_got.ensures v seen) refl)
    (c.answer.ensures v)

pub returns-then-is_held_back : goal.returns-then-is_held_back
returns-then-is_held_back c v seen =
    decided v (gives_chunk v c.args.caller c.args.index c.args.at_source (Some c.args.fact.now)) (answers v (only_status 2)) c.answer-then-is_held_back.result
    (gives_shown v c.args.caller c.args.index c.args.at_source c.args.fact.now false true (sym c.if-has_got.false ∙ c.has_got.ensures v seen) (sym c.if-is_held_back.true ∙ c.is_held_back.ensures v seen))
    (c.answer-then-is_held_back.ensures v)

pub returns : goal.returns
returns c v seen =
    decided v (gives_chunk v c.args.caller c.args.index c.args.at_source (Some c.args.fact.now))
    (makes v (Handed (name_of c.args.fact.now) c.args.caller ∷ []) (Stream 0 None c.args.index (bytes_of c.args.fact.now))) c.hand.result
    (gives_shown v c.args.caller c.args.index c.args.at_source c.args.fact.now false false (sym c.if-has_got.false ∙ c.has_got.ensures v seen) (sym c.if-is_held_back.false ∙ c.is_held_back.ensures v seen))
    (c.hand.ensures v)
