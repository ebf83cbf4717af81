use Rattle.std.proofs.Common.{◌≡◌, ℕ, suc, ◌+◌, List, length, refl, ◌∙◌, sym, ap, subst, arith, rules}
use Rattle.std.specs.Vec.Iter.{into_iter_items, into_iter_len}
use Rattle.net_model.specs.declared.record.Record.{Record}
use Rattle.net_model.specs.Fold.{view_records}
use Rattle.kme_facts.specs.Needs.{kept_view}
use Rattle.kme_facts.specs.Taken.{HasRoom}
use Rattle.kme_facts.proofs.Taken.{room_for_one, one_taken, all_taken, taking_start}
use Rattle.kme_facts.proofs.record_effects.take_all.Goals as goal

pub loop-change-init : goal.loop-change-init
loop-change-init c =
    let e = c.into_iter-change-iterator.ensures.into_iter_gives in
    let is = e.0 ∙ c.into_vec-change-items.ensures in
    taking_start c.args.streams.now c.args.streams.now (into_iter_items c.into_iter-change-iterator.result) (into_iter_items c.into_iter-change-iterator.result) c.args.records
    (into_iter_len c.into_iter-change-iterator.result) refl refl is (search rules) c.requires.room

pub take-requires : goal.take-requires
take-requires c = record {
  room = room_for_one c.args.streams.now c.loop-change.streams (into_iter_items c.into_iter-change-iterator.result) (into_iter_items c.loop-change.change-iterator) (into_iter_len c.loop-change.change-iterator)
      c.in-Some.change (into_iter_items c.next.new.self) c.loop-change.invariant c.in-Some.ensures.steps.0;
}

pub loop-change-preserved : goal.loop-change-preserved
loop-change-preserved c =
    let at = c.loop-change in
    let gone = c.in-Some.ensures.steps in
    one_taken c.args.streams.now at.streams c.take.new.streams (into_iter_items c.into_iter-change-iterator.result) (into_iter_items at.change-iterator) (into_iter_items c.next.new.self)
    (into_iter_len at.change-iterator) (into_iter_len c.next.new.self) c.in-Some.change at.invariant gone.0
    (short (into_iter_len c.next.new.self) (into_iter_len at.change-iterator) (length (into_iter_items at.change-iterator)) (length (into_iter_items c.next.new.self)) gone.1 at.invariant.long (ap (λ (rs : List Record). length rs) gone.0))
    c.take.ensures.view c.take.ensures.left
  where
    short : (a b x y : ℕ) → a + 1 ≡ b → b ≡ x → x ≡ suc y → a ≡ y
    short a b x y e f g = omega arith

pub returns-clause-view : goal.returns-clause-view
returns-clause-view c =
    let is = c.into_iter-change-iterator.ensures.into_iter_gives.0 ∙ c.into_vec-change-items.ensures in
    (all_taken c.args.streams.now c.loop-change.streams (into_iter_items c.into_iter-change-iterator.result) (into_iter_items c.loop-change.change-iterator) (into_iter_len c.loop-change.change-iterator)
    c.loop-change.invariant c.in-None.ensures.steps.0).0
    ∙ ap (λ (rs : List Record). view_records rs (kept_view c.args.streams.now)) is

pub returns-clause-left : goal.returns-clause-left
returns-clause-left c n room =
    let is = c.into_iter-change-iterator.ensures.into_iter_gives.0 ∙ c.into_vec-change-items.ensures in
    (all_taken c.args.streams.now c.loop-change.streams (into_iter_items c.into_iter-change-iterator.result) (into_iter_items c.loop-change.change-iterator) (into_iter_len c.loop-change.change-iterator)
    c.loop-change.invariant c.in-None.ensures.steps.0).1 n (subst (λ (rs : List Record). HasRoom c.args.streams.now (n + length rs)) (sym is) room)
