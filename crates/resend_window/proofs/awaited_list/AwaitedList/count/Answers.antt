use Rattle.std.proofs.Common.{◌≤◌, length, arith, sym, ap, subst, ◌∙◌}
use Rattle.resend_window.specs.Kept.{somes}
use Rattle.resend_window.specs.Groups.{AwaitedItems}
use Rattle.resend_window.proofs.Lists.{length_somes}
use Rattle.resend_window.proofs.awaited_list.AwaitedList.count.Goals as goal

pub returns-clause-count : goal.returns-clause-count
returns-clause-count c =
    let few = length_somes c.self.inside.items.items in
    let ok = c.self.inside.items.ok.0 in
    let e = ap (λ (l : AwaitedItems). length (somes l.items)) c.self.view_is in
    omega arith
