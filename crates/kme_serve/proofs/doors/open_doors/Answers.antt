use Rattle.std.proofs.Common.{◌+◌, ℕ, length, take, sym, subst, inl, inr}
use Rattle.qkd_base.specs.Faults.{Rose}
use Rattle.kme_serve.specs.Doors.{ports_of}
use Rattle.kme_serve.proofs.Rooms.{adds_to, adds_same, room_same, room_less}
use Rattle.kme_serve.proofs.doors.open_doors.Goals as goal

pub returns-in-Ok-open_all-clause-room : goal.returns-in-Ok-open_all-clause-room
returns-in-Ok-open_all-clause-room g c = room_same g.P.Ports.back c.args.ports.now c.open_all.new.ports c.args.workers c.open_all.ensures.same c.requires.back

pub shut_doors-requires : goal.shut_doors-requires
shut_doors-requires g c = record {
  room = room_less g.P.Ports.back c.open_all.new.ports c.args.workers (length c.open_all.new.doors.items)
      (room_same g.P.Ports.back c.args.ports.now c.open_all.new.ports c.args.workers c.open_all.ensures.same c.requires.back) c.in-Err-open_all.ensures.came.0;
}

pub returns-in-Err-open_all-clause-listen : goal.returns-in-Err-open_all-clause-listen
returns-in-Err-open_all-clause-listen g c = λ e. record {
  doors = c.open_all.new.doors.items;
  few = c.in-Err-open_all.ensures.came.0;
  unused = c.in-Err-open_all.ensures.came.1;
  asked = adds_to (g.P.Ports.asked c.args.ports.now) (g.P.Ports.asked c.open_all.new.ports) (g.P.Ports.asked c.shut_doors.new.ports) (take (length c.open_all.new.doors.items + 1) (ports_of c.args.port c.args.workers c.args.nodes))
      c.in-Err-open_all.ensures.asked c.shut_doors.ensures.same.0;
  given = adds_same (g.P.Ports.back c.args.ports.now) (g.P.Ports.back c.open_all.new.ports) (g.P.Ports.back c.shut_doors.new.ports) c.open_all.new.doors.items c.open_all.ensures.same c.shut_doors.ensures.back;
}

pub returns-in-Err-open_all-clause-fault : goal.returns-in-Err-open_all-clause-fault
returns-in-Err-open_all-clause-fault g c = λ e. elim c.in-Err-open_all.ensures.faults [
  | inl rose ↦ inl (subst (λ (n : ℕ). Rose (g.P.Ports.faults c.args.ports.now) n) (sym c.shut_doors.ensures.same.1) rose)
  | inr failed ↦ inr (
    c.open_all.new.doors.items,
    adds_same (g.P.Ports.back c.args.ports.now) (g.P.Ports.back c.open_all.new.ports) (g.P.Ports.back c.shut_doors.new.ports) c.open_all.new.doors.items c.open_all.ensures.same c.shut_doors.ensures.back,
    failed,
  )
]
