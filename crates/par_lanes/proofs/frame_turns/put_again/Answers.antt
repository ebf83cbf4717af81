use Rattle.std.proofs.Common.{◌≡◌, [], ◌∷◌, refl, sym, ap, ◌∙◌}
use Rattle.lane_sender.specs.Sending.{sent, answer_of}
use Rattle.lane_sender.proofs.Sents.{same_answer}
use Rattle.par_lanes.specs.declared.ask.LaneAsk.TheVariants.{Again}
use Rattle.par_lanes.specs.declared.ask.LaneAnswer.TheVariants as answers
use Rattle.par_lanes.specs.Saying.{turn_said}
use Rattle.par_lanes.proofs.frame_turns.put_again.Goals as goal

pub returns-clause-goes : goal.returns-clause-goes
returns-clause-goes g c =
    let r = c.args.repeat.now in
    let at = c.put-at.result.0 in
    let answer = c.put-at.result.1 in
    let same : answer_of c.answered.result ≡ answer = ap answer_of c.answered.ensures ∙ same_answer r.offset r.length r.frame answer in
    record {
      said = turn_said c.args.machine at (Again r.number r.frame r.length) (answers.Placed answer) ∷ [];
      went = c.put-at.ensures.went;
      by = record {
        desk = c.requires.desk.0;
        there = c.requires.desk.1;
        calls = (at, (Again r.number r.frame r.length, answers.Placed answer)) ∷ [];
        are = refl;
        by = record {
          are = ap (λ a. (at, (Again r.number r.frame r.length, answers.Placed a)) ∷ []) (sym same);
          says = c.answered.ensures ∙ ap (sent r.offset r.length r.frame) (sym same);
        };
      };
    }

pub returns-clause-told : goal.returns-clause-told
returns-clause-told g c = record { line = refl; lane = refl; name = refl; ack_of = refl; fresh = refl; size = c.saturating_sub.ensures }
