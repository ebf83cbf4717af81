use Rattle.std.proofs.Common.{◌≡◌, ◌+◌, ◌++◌, take, map}
use Rattle.kme_base.specs.Steps.{transmission_of_order}
use Rattle.resend_window.specs.Held.{transmission}
use Rattle.resend_window.specs.Kept.{somes}
use Rattle.resend_window.proofs.awaited_list.AwaitedList.push_all.Given as goal

abbrev pub invariant-loop-order : goal.invariant-loop-order
invariant-loop-order l = record {
  items : map transmission (somes l.self.items) ≡ map transmission (somes l.fn.self.items) ++ map transmission_of_order (take l.order-index l.orders);
  spare : l.fn.self.spare ≡ l.self.spare + l.order-index;
}
