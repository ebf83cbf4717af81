use Rattle.std.proofs.Common.{ap, subst, sym, ◌∙◌, ◌-◌, ◌+◌, ◌≡◌, ◌≤◌, true, false, length, arith, List, Option}
use Rattle.std.specs.Prelude.{filter, not}
use Rattle.std.specs.List.{list_any}
use Rattle.qkd_base.specs.declared.lane.Lane.{Lane}
use Rattle.net_model.specs.Window.{transmission_of, transmission_eq, stands_at}
use Rattle.resend_window.specs.Held.{transmission, entries_at}
use Rattle.resend_window.specs.Kept.{Kept, somes}
use Rattle.resend_window.specs.Lists.{is_some_from}
use Rattle.resend_window.specs.Placed.{placed}
use Rattle.resend_window.proofs.Placings.{fewer_awaited, kept_window, gone_window, order_kept, order_gone}
use Rattle.resend_window.proofs.window.Window.place_order.Goals as goal

pub invariant_of-self : goal.invariant_of-self
invariant_of-self c =
    let awaited = ap (λ (k : Kept). list_any (transmission_eq (transmission_of c.args.placing.now)) k.volatile.awaiting) c.self.view_is ∙ c.requires.awaited in
    let free = ap (λ (k : Kept). list_any (stands_at c.args.placing.now) k.volatile.window) c.self.view_is ∙ c.requires.free in
    let fewer = fewer_awaited c.self.inside.awaiting.items c.remove.new.self.items c.args.wanted.now (transmission_of c.args.placing.now) c.requires.wanted awaited c.remove.ensures.items in
    kept_window c.self.inside.tick c.self.inside.slots.items c.push.new.self.items c.self.inside.awaiting.items c.remove.new.self.items c.args.placing.now c.held_of.result _ _ c.self.invariant
    c.push.ensures.items c.held_of.ensures.held c.held_of.ensures.place free fewer (omega arith)

pub invariant_of-self-else-not-is_acked : goal.invariant_of-self-else-not-is_acked
invariant_of-self-else-not-is_acked c =
    let awaited = ap (λ (k : Kept). list_any (transmission_eq (transmission_of c.args.placing.now)) k.volatile.awaiting) c.self.view_is ∙ c.requires.awaited in
    let fewer = fewer_awaited c.self.inside.awaiting.items c.remove.new.self.items c.args.wanted.now (transmission_of c.args.placing.now) c.requires.wanted awaited c.remove.ensures.items in
    gone_window c.self.inside.tick (somes c.self.inside.slots.items) c.self.inside.awaiting.items c.remove.new.self.items _ c.self.invariant fewer

pub push-requires : goal.push-requires
push-requires c =
    let awaited = ap (λ (k : Kept). list_any (transmission_eq (transmission_of c.args.placing.now)) k.volatile.awaiting) c.self.view_is ∙ c.requires.awaited in
    let fewer = fewer_awaited c.self.inside.awaiting.items c.remove.new.self.items c.args.wanted.now (transmission_of c.args.placing.now) c.requires.wanted awaited c.remove.ensures.items in
    let room = c.self.invariant.room in
    omega arith

pub returns-then-not-is_acked-clause-volatile : goal.returns-then-not-is_acked-clause-volatile
returns-then-not-is_acked-clause-volatile c =
    order_kept c.self.inside.tick c.self.inside.slots.items c.push.new.self.items c.self.inside.pending.items c.remove_sent.new.self.items c.self.inside.awaiting.items c.remove.new.self.items
    c.args.placing.now c.args.wanted.now c.held_of.result c.args.is_acked c.requires.wanted c.remove.ensures.items
    (c.remove_sent.ensures.items ∙ ap (λ (l : Lane). filter (λ a. not (is_some_from l c.args.placing.now.ack_of a)) (somes c.self.inside.pending.items)) c.reversed.ensures)
    c.push.ensures.items c.held_of.ensures.entry c.if-not-is_acked.true
    ∙ ap (λ (k : Kept). placed c.args.is_acked k.volatile c.args.placing.now) c.self.view_is

pub returns-then-not-is_acked-clause-rooms : goal.returns-then-not-is_acked-clause-rooms
returns-then-not-is_acked-clause-rooms c =
    let awaited = ap (λ (k : Kept). list_any (transmission_eq (transmission_of c.args.placing.now)) k.volatile.awaiting) c.self.view_is ∙ c.requires.awaited in
    let fewer = fewer_awaited c.self.inside.awaiting.items c.remove.new.self.items c.args.wanted.now (transmission_of c.args.placing.now) c.requires.wanted awaited c.remove.ensures.items in
    let r = ap (λ (k : Kept). k.received_spare) c.self.view_is in
    let o = ap (λ (k : Kept). k.orders_spare) c.self.view_is in
    let t = ap (λ (k : Kept). k.ticks_spare) c.self.view_is in
    let a = c.remove.ensures.spare in
    let b = c.remove_sent.ensures.spare in
    record { received = omega arith; orders = omega arith; ticks = omega arith }

pub returns-else-not-is_acked-clause-volatile : goal.returns-else-not-is_acked-clause-volatile
returns-else-not-is_acked-clause-volatile c =
    order_gone c.self.inside.tick c.self.inside.slots.items c.self.inside.pending.items c.remove_sent.new.self.items c.self.inside.awaiting.items c.remove.new.self.items
    c.args.placing.now c.args.wanted.now c.args.is_acked c.requires.wanted c.remove.ensures.items
    (c.remove_sent.ensures.items ∙ ap (λ (l : Lane). filter (λ a. not (is_some_from l c.args.placing.now.ack_of a)) (somes c.self.inside.pending.items)) c.reversed.ensures)
    c.if-not-is_acked.false
    ∙ ap (λ (k : Kept). placed c.args.is_acked k.volatile c.args.placing.now) c.self.view_is

pub returns-else-not-is_acked-clause-rooms : goal.returns-else-not-is_acked-clause-rooms
returns-else-not-is_acked-clause-rooms c =
    let awaited = ap (λ (k : Kept). list_any (transmission_eq (transmission_of c.args.placing.now)) k.volatile.awaiting) c.self.view_is ∙ c.requires.awaited in
    let fewer = fewer_awaited c.self.inside.awaiting.items c.remove.new.self.items c.args.wanted.now (transmission_of c.args.placing.now) c.requires.wanted awaited c.remove.ensures.items in
    let r = ap (λ (k : Kept). k.received_spare) c.self.view_is in
    let o = ap (λ (k : Kept). k.orders_spare) c.self.view_is in
    let t = ap (λ (k : Kept). k.ticks_spare) c.self.view_is in
    let a = c.remove.ensures.spare in
    let b = c.remove_sent.ensures.spare in
    record { received = omega arith; orders = omega arith; ticks = omega arith }
