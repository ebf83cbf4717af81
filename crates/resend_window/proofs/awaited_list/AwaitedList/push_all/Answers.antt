use Rattle.std.proofs.Common.{◌≡◌, ◌+◌, ◌++◌, ◌∷◌, [], ap, sym, ◌∙◌, take, List, Option, map, arith, append_assoc}
use Rattle.net_model.specs.World.{Transmission}
use Rattle.kme_base.specs.Steps.{transmission_of_order}
use Rattle.resend_window.specs.Held.{transmission}
use Rattle.resend_window.specs.Kept.{somes}
use Rattle.relay_core.proofs.Firsts.{got}
use Rattle.resend_window.proofs.Lists.{somes_push, map_append}
use Rattle.resend_window.proofs.Edits.{take_more}
use Rattle.resend_window.proofs.awaited_list.AwaitedList.push_all.Goals as goal

pub loop-order-preserved : goal.loop-order-preserved
loop-order-preserved c =
    let there = got c.args.orders.now c.loop-order.order-index c.order-item.result c.loop-order-test.true c.order-item.is in
    let before = take c.loop-order.order-index c.args.orders.now in
    record {
      items = ap (λ xs. map transmission (somes xs)) c.push.ensures.items
          ∙ ap (map transmission) (somes_push c.loop-order.self.items c.of.result)
          ∙ map_append transmission (somes c.loop-order.self.items) c.of.result
          ∙ ap (λ (ts : List Transmission). ts ++ transmission c.of.result ∷ []) c.loop-order.invariant.items
          ∙ append_assoc (map transmission (somes c.args.self.now.items)) (map transmission_of_order before) (transmission c.of.result ∷ [])
          ∙ ap (λ (t : Transmission). map transmission (somes c.args.self.now.items) ++ (map transmission_of_order before ++ t ∷ [])) c.of.ensures
          ∙ ap (λ (ts : List Transmission). map transmission (somes c.args.self.now.items) ++ ts)
          (sym (ap (map transmission_of_order) (take_more c.args.orders.now c.loop-order.order-index c.order-item.result there) ∙ map_append transmission_of_order before c.order-item.result));
      spare = (let s = c.push.ensures.spare in let i = c.loop-order.invariant.spare in omega arith);
    }
