use Rattle.std.proofs.Common.{sym, ap, ◌∙◌, ◌&&◌, List}
use Rattle.std.specs.List.{list_any}
use Rattle.qkd_base.specs.Lane.{lane_eq}
use Rattle.net_model.specs.Item.{is_data_of}
use Rattle.net_model.specs.World.{Entry}
use Rattle.resend_window.specs.declared.held.Held.{Held}
use Rattle.resend_window.specs.declared.edit.Query.TheVariants.{DataOf}
use Rattle.resend_window.specs.Held.{entry_at}
use Rattle.resend_window.specs.Kept.{Kept, somes}
use Rattle.resend_window.specs.Slots.{is_asked}
use Rattle.resend_window.proofs.Lists.{any_map}
use Rattle.resend_window.proofs.window.Window.holds.Goals as goal

pub returns : goal.returns
returns c =
    let t = λ (e : Entry). lane_eq e.transmission.lane c.args.lane && is_data_of c.args.name e.transmission.item in
    c.has.ensures
    ∙ sym (any_map (entry_at c.self.inside.tick) t (somes c.self.inside.slots.items))
    ∙ ap (λ (k : Kept). list_any t k.volatile.window) c.self.view_is
