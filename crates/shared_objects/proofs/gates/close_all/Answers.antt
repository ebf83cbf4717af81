use Rattle.std.proofs.Common.{arith}
use Rattle.turnstile.specs.Turns.{turn_of}
use Rattle.shared_objects.specs.Seats.{HoldsAll}
use Rattle.shared_objects.proofs.Zips.{zip_same, zip_last}
use Rattle.shared_objects.proofs.Closing.{none_closed, one_closed, all_closed}
use Rattle.shared_objects.proofs.gates.close_all.Goals as goal

pub loop-init : goal.loop-init
loop-init g c = record {
  turns = omega (arith, c.len-end.ensures);
  whole = c.requires.whole;
  far = none_closed (turn_of g.M.Machine.charter g.M.Machine.takes g.M.Machine.turns) c.args.turnstiles.items c.args.kept.items c.args.machines.now.items;
  room = c.requires.room;
}

pub take_last-turnstile-requires : goal.take_last-turnstile-requires
take_last-turnstile-requires g c = omega (arith, c.loop.invariant.turns, c.loop-test.true)

pub take_last-seat-requires : goal.take_last-seat-requires
take_last-seat-requires g c =
    let same = zip_same (HoldsAll {g = g.M.Machine}) c.loop.turnstiles.items c.loop.kept.items c.loop.invariant.whole in
    omega (arith, c.loop.invariant.turns, c.loop-test.true, same, c.loop.kept.ok.0, c.loop.turnstiles.ok.0)

pub close-requires-clause-fits : goal.close-requires-clause-fits
close-requires-clause-fits g c =
    (zip_last (HoldsAll {g = g.M.Machine}) _ _ _ _ _ _ c.loop.invariant.whole c.take_last-turnstile.ensures.items c.take_last-seat.ensures.items).1.fits

pub close-requires-clause-whole : goal.close-requires-clause-whole
close-requires-clause-whole g c =
    (zip_last (HoldsAll {g = g.M.Machine}) _ _ _ _ _ _ c.loop.invariant.whole c.take_last-turnstile.ensures.items c.take_last-seat.ensures.items).1.whole

pub push_reserved-requires : goal.push_reserved-requires
push_reserved-requires g c = omega (arith, c.loop.invariant.turns, c.loop-test.true, c.loop.invariant.room)

pub loop-preserved : goal.loop-preserved
loop-preserved g c = record {
  turns = omega (arith, c.take_last-turnstile.ensures.len, c.loop.invariant.turns);
  whole = (zip_last (HoldsAll {g = g.M.Machine}) _ _ _ _ _ _ c.loop.invariant.whole c.take_last-turnstile.ensures.items c.take_last-seat.ensures.items).0;
  far = one_closed (turn_of g.M.Machine.charter g.M.Machine.takes g.M.Machine.turns) c.args.turnstiles.items c.args.kept.items c.args.machines.now.items
      c.loop.turnstiles.items c.take_last-turnstile.new.self.items c.loop.kept.items c.take_last-seat.new.self.items c.loop.machines.items c.push_reserved.new.self.items
      c.take_last-turnstile.result c.take_last-seat.result c.close.result c.loop.invariant.far c.take_last-turnstile.ensures.items c.take_last-seat.ensures.items c.push_reserved.ensures.items
      (record { log = _; leads = c.close.ensures.machine; whole = c.close.ensures.whole });
  room = omega (arith, c.push_reserved.ensures.len, c.push_reserved.ensures.capacity, c.take_last-turnstile.ensures.len, c.loop.invariant.room);
}

pub destroy_empty-requires : goal.destroy_empty-requires
destroy_empty-requires g c = omega (arith, c.loop.invariant.turns, c.loop-test.false)

pub returns : goal.returns
returns g c =
    all_closed (turn_of g.M.Machine.charter g.M.Machine.takes g.M.Machine.turns) c.args.turnstiles.items c.args.kept.items c.args.machines.now.items c.loop.machines.items c.loop.turnstiles.items c.loop.kept.items
    (omega (arith, c.loop.invariant.turns, c.loop-test.false, c.loop.turnstiles.ok.0)) c.loop.invariant.whole c.loop.invariant.far
