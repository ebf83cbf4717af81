use Rattle.std.proofs.Common.{◌≡◌, take, map}
use Rattle.resend_window.specs.Kept.{somes}
use Rattle.resend_window.specs.Lists.{renewed_by}
use Rattle.resend_window.proofs.held_list.HeldList.renew_all.Given as goal

abbrev pub invariant-loop-repeat : goal.invariant-loop-repeat
invariant-loop-repeat l = record {
  items : somes l.self.items ≡ map (renewed_by l.tick (take l.repeat-index l.repeats)) (somes l.fn.self.items);
  spare : l.self.spare ≡ l.fn.self.spare;
}
