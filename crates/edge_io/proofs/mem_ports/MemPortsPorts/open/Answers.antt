use Rattle.std.proofs.Common.{◌≡◌, ℕ, ◌==◌, true, false, List, Option, Some, ap, ◌∙◌, arith}
use Rattle.std.proofs.lemmas.Bool.Decides.{nat_tests}
use Rattle.edge_io.specs.Doors.{SocketForm, PortsForm, has_port, socket_at, sockets_without, queues_in, queues_told}
use Rattle.edge_io.proofs.Sockets.{found_without}
use Rattle.edge_io.proofs.mem_ports.MemPortsPorts.open.Goals as goal

not_both : (own port other : ℕ) → ¬ (other ≡ port) → (own == port) ≡ true → (own == other) ≡ false
not_both own port other apart here = grind (arith, nat_tests)

-- an opening leaves what waits at other ports
kept : (port other : ℕ) (old new : List SocketForm) → new ≡ sockets_without port old → ¬ (other ≡ port) → queues_told new other ≡ queues_told old other
kept port other old new rest apart =
    ap (λ (o : Option SocketForm). Some (queues_in o)) (ap (socket_at other) rest ∙ found_without (has_port port) (has_port other) old (λ s. not_both s.port port other apart))

pub returns-in-Some-clause-others : goal.returns-in-Some-clause-others
returns-in-Some-clause-others c = λ other. kept c.args.port other c.args.self.now.sockets c.take_socket.new.sockets.items (c.take_socket.ensures.rest ∙ ap (λ (p : PortsForm). sockets_without c.args.port p.sockets) c.self.view_is)
