use Rattle.std.proofs.Common.{◌≡◌, ◌+◌, List, Result, Option, ap, sym, subst, ◌∙◌}
use Rattle.std.specs.Prelude.{map, IfOk}
use Rattle.net_model.specs.declared.repeat.Repeat.{Repeat}
use Rattle.net_model.specs.World.{Entry}
use Rattle.net_model.specs.Window.{repeats_on, repeat_of, age}
use Rattle.resend_window.specs.declared.held.Held.{Held}
use Rattle.resend_window.specs.Held.{entries_at}
use Rattle.resend_window.specs.Kept.{Kept, somes}
use Rattle.resend_window.proofs.Windows.{entries_older}
use Rattle.resend_window.proofs.window.Window.repeats.Goals as goal

pub returns : goal.returns
returns c =
    let older = entries_older c.self.inside.tick (somes c.self.inside.slots.items) c.self.invariant.held
    ∙ ap (λ (k : Kept). map age k.volatile.window) c.self.view_is in
    subst (λ (es : List Entry). IfOk c.repeats_of.result (λ rs. rs ≡ map repeat_of (repeats_on es c.args.lane))) older c.repeats_of.ensures
