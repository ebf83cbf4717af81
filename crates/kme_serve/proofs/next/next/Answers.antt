use Rattle.std.proofs.Common.{ℕ, List, ◌++◌, Err, subst, inr}
use Rattle.http_front.specs.Reading.{IsAnswer}
use Rattle.kme_serve.specs.Steps.{IsRefusedBy}
use Rattle.kme_serve.proofs.next.next.Goals as goal

pub returns-in-Err-read_request : goal.returns-in-Err-read_request
returns-in-Err-read_request g c =
    let read = c.in-Err-read_request.ensures.read in
    let cause = c.in-Err-read_request.refusal in
    inr (record {
      paid = g.W.Sink.taken c.pay.new.sink;
      wrote = c.in-Ok.ensures.0;
      octets = read.taken;
      consumed = read.consumed;
      cause = cause;
      answer = subst (λ (kept : List ℕ). IsAnswer (kept ++ read.taken) c.read_request.new.kept (g.S.Source.left c.read_request.new.source) (Err cause)) c.in_default.ensures.none read.answer;
      faults = c.in-Err-read_request.ensures.faults;
      refused = subst (λ (n : ℕ). IsRefusedBy cause (g.W.Sink.taken c.pay.new.sink) (g.W.Sink.taken c.refuse.new.sink) n (g.W.Sink.faults c.refuse.new.sink) c.refuse.result) c.in-Ok.ensures.2
          c.refuse.ensures;
    })
