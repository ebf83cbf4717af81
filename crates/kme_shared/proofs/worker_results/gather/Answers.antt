use Rattle.std.proofs.Common.{◌≡◌, true, List, [], ◌∷◌, ◌++◌, length, sym, ap, subst, ◌∙◌, append-nil, refl}
use Rattle.std.specs.List.{AllByRecursion, flat_map}
use Rattle.std.specs.List.Sorted.{IsPermutation}
use Rattle.kme_shared.proofs.worker_results.gather.Goals as goal

no_items : {A : Type 0} (xs : List A) → length xs ≡ 0 → xs ≡ []
no_items [] h = refl
no_items (x ∷ xs) h = cc

pub returns : goal.returns
returns c =
    let i = c.loop-keep.invariant in
    let replied = c.loop-keep.room.replied.items in
    let frames = c.loop-keep.room.frames.items in
    let empty = no_items c.loop-keep.keep-iterator.rest.items (sym c.loop-keep.keep-iterator.rest.ok.0 ∙ c.in-None.ensures.steps.0) in
    let all = sym (append-nil replied) ∙ ap (λ xs. replied ++ flat_map (λ k. k.replies.items) xs) (sym empty) ∙ i.replied in
    let put = c.by_lane.result.items in
    record {
      replied = c.by_node.result.items;
      turns = c.turns_of.ensures;
      replies = subst (λ xs. IsPermutation xs c.by_node.result.items) all c.by_node.ensures.just;
      order = c.by_node.ensures.order;
      whole = λ whole. i.whole whole (subst (AllByRecursion (λ k. k.log.is_whole ≡ true)) (sym empty) tt);
      frames = λ whole. subst (λ xs. IsPermutation xs put) (sym (append-nil frames) ∙ ap (λ xs. frames ++ flat_map (λ k. k.log.frames.items) xs) (sym empty) ∙ i.frames whole) c.by_lane.ensures.just;
      lanes = λ whole. c.by_lane.ensures.order;
    }
