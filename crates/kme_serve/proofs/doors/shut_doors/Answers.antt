use Rattle.std.proofs.Common.{◌++◌, ◌∷◌, [], ◌∙◌, List, length, sym, ap, subst, refl, arith}
use Rattle.edge_io.specs.Writes.{Adds}
use Rattle.std.proofs.lemmas.List.{nil_from_length}
use Rattle.kme_serve.specs.Doors.{HasRoom}
use Rattle.kme_serve.proofs.Rooms.{adds_none, adds_more, few, room_more}
use Rattle.kme_serve.proofs.Listeners.{moved_on, all_moved}
use Rattle.kme_serve.proofs.doors.shut_doors.Goals as goal

pub loop-door-init : goal.loop-door-init
loop-door-init g c = record {
  next = tt;
  finite = tt;
  room = subst (λ (ds : List _). HasRoom g.P.Ports.back c.args.ports.now (length ds)) (sym c.into_iter-door-iterator.ensures.into_iter_gives.0) c.requires.room;
  back = ([], adds_none (g.P.Ports.back c.args.ports.now), c.into_iter-door-iterator.ensures.into_iter_gives.0);
  same = (refl, refl);
}

pub loop-door-preserved : goal.loop-door-preserved
loop-door-preserved g c =
    record {
      next = tt;
      finite = tt;
      room = room_more g.P.Ports.back c.loop-door.ports c.shut.new.self (c.in-Some.door ∷ []) (length c.loop-door.door-iterator.rest.items) (length c.next.new.self.rest.items) c.loop-door.invariant.room c.shut.ensures.back
          (let l = ap length c.in-Some.ensures.steps.0 in omega (arith, l));
      back = (
        c.loop-door.invariant.back.0 ++ c.in-Some.door ∷ [],
        adds_more (g.P.Ports.back c.args.ports.now) (g.P.Ports.back c.loop-door.ports) (g.P.Ports.back c.shut.new.self) c.loop-door.invariant.back.0 (c.in-Some.door ∷ []) (c.loop-door.invariant.back.0 ++ c.in-Some.door ∷ [])
            c.loop-door.invariant.back.1 c.shut.ensures.back refl,
        moved_on c.loop-door.invariant.back.0 c.loop-door.door-iterator.rest.items c.next.new.self.rest.items c.args.doors.items c.in-Some.door c.in-Some.ensures.steps.0 c.loop-door.invariant.back.2,
      );
      same = (c.shut.ensures.same.0 ∙ c.loop-door.invariant.same.0, c.shut.ensures.same.2 ∙ c.loop-door.invariant.same.1);
    }

pub shut-requires : goal.shut-requires
shut-requires g c =
    let l = ap length c.in-Some.ensures.steps.0 in
    record { few = few g.P.Ports.back c.loop-door.ports (length c.loop-door.door-iterator.rest.items) c.loop-door.invariant.room (omega (arith, l)) }

pub returns-clause-back : goal.returns-clause-back
returns-clause-back g c =
    subst (λ (ds : List _). Adds (g.P.Ports.back c.args.ports.now) (g.P.Ports.back c.loop-door.ports) ds)
    (all_moved c.loop-door.invariant.back.0 c.loop-door.door-iterator.rest.items c.args.doors.items
    (nil_from_length c.loop-door.door-iterator.rest.items (omega (arith, c.in-None.ensures.steps.0, c.loop-door.door-iterator.rest.ok.0))) c.loop-door.invariant.back.2)
    c.loop-door.invariant.back.1

pub returns-clause-same : goal.returns-clause-same
returns-clause-same g c = c.loop-door.invariant.same
