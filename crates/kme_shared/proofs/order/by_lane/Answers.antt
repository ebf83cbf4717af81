use Rattle.std.proofs.Common.{◌≡◌, ℕ, ◌+◌, ◌*◌, refl, subst, rules}
use Rattle.std.proofs.lemmas.List.Sorted.{answers_always}
use Rattle.qkd_base.specs.Lane.{lane_place, way_number}
use Rattle.qkd_base.specs.declared.lane.Lane.{Lane}
use Rattle.qkd_base.specs.declared.lane.Way.{Way}
use Rattle.qkd_base.specs.declared.lane.Way.TheVariants.{Up, Down}
use Rattle.par_frames.specs.Sorting.{IsSortedByBoth}
use Rattle.world_state.specs.Stands.{of_way, place_of}
use Rattle.kme_shared.proofs.order.by_lane.Goals as goal

same_place : (l : Lane) → place_of l ≡ lane_place l
same_place l = by l.way
  where
    by : (way : Way) → 2 * l.link + of_way way ≡ 2 * l.link + way_number way
    by Up = refl
    by Down = refl

pub returns-clause-order : goal.returns-clause-order
returns-clause-order c =
    subst (λ (place : _ → ℕ). IsSortedByBoth place (λ e. e.at) c.sort_unstable_by_key.new.self.items) (λ i e. same_place e.lane i)
    (c.sort_unstable_by_key.ensures.sorted (λ e. (place_of e.lane, e.at)) (answers_always _ _ _ (λ f a r g h. search rules)))
