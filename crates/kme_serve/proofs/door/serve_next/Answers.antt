use Rattle.kme_serve.proofs.Visits.{one_served}
use Rattle.kme_serve.proofs.door.serve_next.Goals as goal

pub returns-clause-served : goal.returns-clause-served
returns-clause-served g c =
    let came = c.in_ok-source.ensures in
    let gone = c.finish.ensures in
    one_served _ _ _ _ _ _
    (record { port = g.D.Listener.port c.accept.new.self; accepted = g.D.Listener.accepted c.accept.new.self; finished = g.D.Listener.finished c.accept.new.self; waiting = g.D.Listener.waiting c.accept.new.self; done = g.D.Listener.done c.accept.new.self })
    _ (record { left = _; taken = _; finished = _ }) _ _ _ _ tt came.fresh.0 came.fresh.1 came.next.1 c.serve_connection-ended.ensures.served
    came.next.0 came.same.1 came.same.3 came.same.0 gone.finished gone.done gone.same.0 gone.same.1 gone.same.2
