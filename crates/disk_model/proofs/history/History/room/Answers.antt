use Rattle.std.proofs.Common.{refl}
use Rattle.disk_model.specs.declared.history.History.{History}
use Rattle.disk_model.proofs.Histories.{grown}
use Rattle.disk_model.proofs.history.History.room.Goals as goal

pub returns-in_err-reserve-2-clause-sound : goal.returns-in_err-reserve-2-clause-sound
returns-in_err-reserve-2-clause-sound c =
    let old = c.args.self.now in
    let new : History = record old { content = c.reserve.new.self; log = c.reserve-2.new.self } in
    (grown old new c.requires refl c.reserve.ensures.capacity refl refl c.reserve.ensures.items c.reserve-2.ensures.items refl refl).0

pub returns-in_err-reserve-3-clause-sound : goal.returns-in_err-reserve-3-clause-sound
returns-in_err-reserve-3-clause-sound c =
    let old = c.args.self.now in
    let new : History = record old { content = c.reserve.new.self; log = c.reserve-2.new.self; saved = c.reserve-3.new.self } in
    (grown old new c.requires refl c.reserve.ensures.capacity refl refl c.reserve.ensures.items c.reserve-2.ensures.items c.reserve-3.ensures.items refl).0

pub returns-in_err-reserve-4-clause-sound : goal.returns-in_err-reserve-4-clause-sound
returns-in_err-reserve-4-clause-sound c =
    let old = c.args.self.now in
    let new : History = record old { content = c.reserve.new.self; log = c.reserve-2.new.self; saved = c.reserve-3.new.self; writes = c.reserve-4.new.self } in
    (grown old new c.requires refl c.reserve.ensures.capacity refl refl c.reserve.ensures.items c.reserve-2.ensures.items c.reserve-3.ensures.items c.reserve-4.ensures.items).0

pub returns-clause-sound : goal.returns-clause-sound
returns-clause-sound c =
    let old = c.args.self.now in
    let new : History = record old { content = c.reserve.new.self; log = c.reserve-2.new.self; saved = c.reserve-3.new.self; writes = c.reserve-4.new.self } in
    (grown old new c.requires refl c.reserve.ensures.capacity refl refl c.reserve.ensures.items c.reserve-2.ensures.items c.reserve-3.ensures.items c.reserve-4.ensures.items).0
