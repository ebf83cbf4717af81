use Rattle.std.proofs.Common.{[], ◌∷◌, ◌++◌, take, sym, ap, ◌∙◌, arith, append_assoc}
use Rattle.net_world.proofs.Lists.{take_next, drop_next}
use Rattle.net_world.proofs.parts.take_some.Goals as goal

pub loop-preserved : goal.loop-preserved
loop-preserved g c =
    let item = c.take_first-item.result in
    let from = c.args.from.now.items in
    let next = sym c.loop.invariant.rest ∙ c.take_first-item.ensures.items in
    record {
      items = c.push_reserved.ensures.items ∙ ap (λ xs. xs ++ item ∷ []) c.loop.invariant.items ∙ append_assoc c.args.into.now.items (take c.loop.counter from) (item ∷ [])
          ∙ ap (λ xs. c.args.into.now.items ++ xs) (sym (take_next c.loop.counter from item c.take_first-item.new.from.items next));
      rest = sym (drop_next c.loop.counter from item c.take_first-item.new.from.items next);
      left = omega (arith, c.take_first-item.ensures.len, c.loop.invariant.left);
      taken = omega (arith, c.push_reserved.ensures.len, c.loop.invariant.taken);
      room = c.push_reserved.ensures.capacity ∙ c.loop.invariant.room;
      kept = c.take_first-item.ensures.room ∙ c.loop.invariant.kept;
    }
