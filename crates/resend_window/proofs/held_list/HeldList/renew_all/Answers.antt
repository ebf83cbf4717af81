use Rattle.std.proofs.Common.{◌≡◌, ◌+◌, ap, sym, ◌∙◌, take, List, refl}
use Rattle.std.specs.Prelude.{map}
use Rattle.net_model.specs.declared.repeat.Repeat.{Repeat}
use Rattle.resend_window.specs.Kept.{somes}
use Rattle.resend_window.specs.Lists.{renewed_by}
use Rattle.relay_core.proofs.Firsts.{got}
use Rattle.resend_window.proofs.Edits.{take_more, renewed_more, renewed_none}
use Rattle.resend_window.proofs.held_list.HeldList.renew_all.Goals as goal

pub loop-repeat-init : goal.loop-repeat-init
loop-repeat-init c = record { items = renewed_none c.args.tick (somes c.args.self.now.items); spare = refl }

pub loop-repeat-preserved : goal.loop-repeat-preserved
loop-repeat-preserved c =
    let there = got c.args.repeats.now c.loop-repeat.repeat-index c.repeat-item.result c.loop-repeat-test.true c.repeat-item.is in
    record {
      items = renewed_more c.args.tick c.loop-repeat.self.items c.args.self.now.items c.change.new.self.items (take c.loop-repeat.repeat-index c.args.repeats.now) c.repeat-item.result
          c.loop-repeat.invariant.items c.change.ensures.items
          ∙ ap (λ (rs : List Repeat). map (renewed_by c.args.tick rs) (somes c.args.self.now.items)) (sym (take_more c.args.repeats.now c.loop-repeat.repeat-index c.repeat-item.result there));
      spare = c.change.ensures.spare ∙ c.loop-repeat.invariant.spare;
    }
