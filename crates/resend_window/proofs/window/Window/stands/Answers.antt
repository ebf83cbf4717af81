use Rattle.std.proofs.Common.{ap, sym, ◌∙◌}
use Rattle.std.specs.Prelude.{filter}
use Rattle.qkd_base.specs.Lane.{lane_eq}
use Rattle.net_model.specs.World.{PendingAck}
use Rattle.resend_window.specs.Held.{pending_ack}
use Rattle.resend_window.specs.Kept.{Kept, pending_from}
use Rattle.resend_window.proofs.Placings.{somes_mapped}
use Rattle.resend_window.proofs.window.Window.stands.Goals as goal

pub returns : goal.returns
returns c lane =
    ap (λ (k : Kept). filter (λ a. lane_eq a.lane lane) k.volatile.pending_acks) (sym c.self.view_is)
    ∙ ap (filter (λ (a : PendingAck). lane_eq a.lane lane)) (sym (somes_mapped pending_ack c.self.inside.pending.items 0))
    ∙ ap (λ (k : Kept). pending_from k lane 0) c.self.view_is
