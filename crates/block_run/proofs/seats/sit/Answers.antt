use Rattle.std.proofs.Common.{◌≡◌, ◌≤◌, ◌<◌, ◌+◌, ℕ, [], ◌∷◌, ◌++◌, List, map, reverse, length, vec_len, vec_capacity, slice_index_or, refl, sym, ap, subst, ◌∙◌, arith, append_assoc}
use Rattle.block_run.proofs.Lasts.{moved, all_but_last, the_last, all_more}
use Rattle.block_run.proofs.seats.sit.Goals as goal

pub loop-preserved : goal.loop-preserved
loop-preserved g c = record {
  lists = omega (arith, c.take_last-answers.ensures.len, c.take_last-pass.ensures.len, c.loop.invariant.lists);
  turns = omega (arith, c.take_last-pass.ensures.len, c.loop.invariant.turns);
  seats = moved (λ s. s.pass) c.loop.seats.items _ c.take_last-pass.result c.push_reserved.new.self.items c.loop.passes.items c.take_last-pass.new.self.items
      c.push_reserved.ensures.items refl c.take_last-pass.ensures.items ∙ c.loop.invariant.seats;
  room = omega (arith, c.push_reserved.ensures.len, c.push_reserved.ensures.capacity, c.take_last-pass.ensures.len, c.loop.invariant.room);
  kept = c.take_last-pass.ensures.capacity ∙ c.loop.invariant.kept;
  empty = λ each all.
      let now = c.loop.invariant.empty each all in (
        all_but_last (λ list. (list.items ≡ []) × (each ≤ vec_capacity list)) c.loop.lists.items c.take_last-answers.new.self.items c.take_last-answers.result c.take_last-answers.ensures.items now.0,
        all_more (λ s. (s.answers.items ≡ []) × (each ≤ vec_capacity s.answers)) c.loop.seats.items c.push_reserved.new.self.items _ c.push_reserved.ensures.items now.1
            (the_last (λ list. (list.items ≡ []) × (each ≤ vec_capacity list)) c.loop.lists.items c.take_last-answers.new.self.items c.take_last-answers.result c.take_last-answers.ensures.items now.0),
      );
}

pub returns-clause-room : goal.returns-clause-room
returns-clause-room g c = λ each all. (c.loop.invariant.empty each all).1
