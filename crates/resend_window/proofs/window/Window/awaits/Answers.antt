use Rattle.std.proofs.Common.{sym, ap, ◌∙◌, ◌&&◌, List}
use Rattle.std.specs.Prelude.{map}
use Rattle.std.specs.List.{list_any}
use Rattle.net_model.specs.Item.{item_of}
use Rattle.net_model.specs.World.{Transmission}
use Rattle.net_model.specs.Window.{transmission_eq}
use Rattle.resend_window.specs.Held.{transmission}
use Rattle.resend_window.specs.Kept.{Kept, somes}
use Rattle.resend_window.specs.Lists.{is_same}
use Rattle.resend_window.proofs.Lists.{any_map}
use Rattle.resend_window.proofs.window.Window.awaits.Goals as goal

pub returns : goal.returns
returns c =
    let wanted : Transmission = record { lane = c.args.lane; item = item_of c.args.ack_of c.args.name; received_offset = c.args.ack_of } in
    c.has.ensures
    ∙ sym (any_map transmission (transmission_eq (transmission c.new.result)) (somes c.self.inside.awaiting.items))
    ∙ ap (λ (t : Transmission). list_any (transmission_eq t) (map transmission (somes c.self.inside.awaiting.items))) c.new.ensures
    ∙ ap (λ (k : Kept). list_any (transmission_eq wanted) k.volatile.awaiting) c.self.view_is
