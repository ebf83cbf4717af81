use Rattle.kme_serve.proofs.Responding.{answers_turn, answers_refusal}
use Rattle.kme_serve.proofs.Reasons.{refusal_has}
use Rattle.kme_serve.proofs.request_answer.answer.Goals as goal

pub returns-in_ok-ready-in-Ok-clause-answered : goal.returns-in_ok-ready-in-Ok-clause-answered
returns-in_ok-ready-in-Ok-clause-answered g c =
    answers_turn _ _ _ _ _ _ _ _ _ c.in-Ok.event c.ask-turn.result _ c.in-Ok.ensures c.ask-turn.ensures.event c.ask-turn.ensures.answers c.ask-turn.ensures.place c.text_of.ensures.ok c.text_of.ensures.err

pub at_once-requires : goal.at_once-requires
at_once-requires g c = refusal_has _ _ c.in-Err.refusal c.in-Err.ensures

pub returns-in-Err-clause-answered : goal.returns-in-Err-clause-answered
returns-in-Err-clause-answered g c = answers_refusal _ _ _ _ _ _ _ _ c.in-Err.refusal _ c.in-Err.ensures c.at_once.ensures
