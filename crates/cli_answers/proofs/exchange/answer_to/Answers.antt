use Rattle.std.proofs.Common.{ℕ, List, refl, subst}
use Rattle.std.specs.Io.KnownBytes.{Appends}
use Rattle.edge_io.specs.Writes.{AppendsPrefix}
use Rattle.cli_answers.specs.Answers.{asked_of, IsAnswer, IsRefused}
use Rattle.cli_answers.proofs.Wholes.{whole_of}
use Rattle.cli_answers.proofs.exchange.answer_to.Goals as goal

pub returns-in-Err-BadLine-clause-answered : goal.returns-in-Err-BadLine-clause-answered
returns-in-Err-BadLine-clause-answered g c =
    let asked = asked_of c.args.question.now in
    let all = whole_of c.law_long_texts.ensures asked (g.S.Source.left c.args.source.now) (g.S.Source.left c.read_all.new.source) c.in-Ok.bytes c.in-Ok.ensures.whole in
    let said = c.in-Err-BadLine.ensures in
    let refused : IsRefused asked c.as_slice.result.now c.in-Err-BadLine.line = rw c.in-Err-BadLine.field-0-is at said in (
      (c.in-Ok.bytes, c.in-Ok.ensures.whole),
      record {
        input = all.input;
        input_is = all.input_is;
        refused = all.refused c.in-Err-BadLine.line (subst (λ (t : List ℕ). IsRefused asked t c.in-Err-BadLine.line) c.as_slice.ensures refused);
      },
      refl,
    )

pub returns-in-Ok-write_all-clause-answered : goal.returns-in-Ok-write_all-clause-answered
returns-in-Ok-write_all-clause-answered g c =
    let asked = asked_of c.args.question.now in
    let all = whole_of c.law_long_texts.ensures asked (g.S.Source.left c.args.source.now) (g.S.Source.left c.read_all.new.source) c.in-Ok.bytes c.in-Ok.ensures.whole in
    record {
      read = (c.in-Ok.bytes, c.in-Ok.ensures.whole);
      input = all.input;
      input_is = all.input_is;
      answer = c.in-Ok-answer.answer;
      is = all.answered c.in-Ok-answer.answer (subst (λ (t : List ℕ). IsAnswer asked t c.in-Ok-answer.answer) c.as_slice.ensures c.in-Ok-answer.ensures);
      comes_to = refl;
      took = subst (Appends (g.W.Sink.taken c.args.sink.now) (g.W.Sink.taken c.write_all.new.self)) c.as_slice-in-Ok-answer.ensures c.in-Ok-write_all.ensures.bytes;
    }

pub returns-clause-answered : goal.returns-clause-answered
returns-clause-answered g c =
    let asked = asked_of c.args.question.now in
    let all = whole_of c.law_long_texts.ensures asked (g.S.Source.left c.args.source.now) (g.S.Source.left c.read_all.new.source) c.in-Ok.bytes c.in-Ok.ensures.whole in (
      c.in-Ok-answer.answer.verdict,
      record {
        read = (c.in-Ok.bytes, c.in-Ok.ensures.whole);
        input = all.input;
        input_is = all.input_is;
        answer = c.in-Ok-answer.answer;
        is = all.answered c.in-Ok-answer.answer (subst (λ (t : List ℕ). IsAnswer asked t c.in-Ok-answer.answer) c.as_slice.ensures c.in-Ok-answer.ensures);
        comes_to = refl;
        took = subst (AppendsPrefix (g.W.Sink.taken c.args.sink.now) (g.W.Sink.taken c.write_all.new.self)) c.as_slice-in-Ok-answer.ensures c.in-Err.ensures.bytes;
      },
    )
