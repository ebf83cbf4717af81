use Rattle.std.proofs.Common.{◌≡◌, ℕ, List, ◌*◌, refl, sym, ◌∙◌, ap}
use Rattle.qkd_base.specs.Name.{Name}
use Rattle.net_model.specs.declared.event.Event.{Event}
use Rattle.net_model.specs.declared.event.Event.TheVariants.{Fill, Feed, FillGroup}
use Rattle.net_model.specs.View.{View}
use Rattle.net_model.specs.Table.{fact_at}
use Rattle.net_model.specs.Streams.{chunk_size}
use Rattle.net_model.specs.Decide.{random_need}
use Rattle.kme_keys.proofs.drawn.random_need.Goals as goal

pub returns-in-Fill : goal.returns-in-Fill
unfolding random_need
returns-in-Fill c v e = sym (ap (random_need v) c.in-Fill.is)

pub returns-in-FillGroup : goal.returns-in-FillGroup
unfolding random_need
returns-in-FillGroup c v e = sym (ap (random_need v) c.in-FillGroup.is)

pub returns-in-Feed : goal.returns-in-Feed
unfolding random_need
returns-in-Feed c v e = sym (ap (random_need v) c.in-Feed.is ∙ (λ i. chunk_size (fact_at (e i) c.in-Feed.stream) * c.in-Feed.count) ∙ ap (λ (k : ℕ). k * c.in-Feed.count) (sym c.chunk_size.ensures))

none_drawn : (v : View) (e : Event) → ((m s bits count : ℕ) → e ≡ Fill m s bits count → ⊥) → ((stream : Name) (count : ℕ) → e ≡ Feed stream count → ⊥) →
    ((m : ℕ) (slaves : List ℕ) (bits count : ℕ) → e ≡ FillGroup m slaves bits count → ⊥) → 0 ≡ random_need v e
unfolding random_need
none_drawn v (Fill m s bits count) fill feed group = absurd (fill m s bits count refl)
none_drawn v (Feed stream count) fill feed group = absurd (feed stream count refl)
none_drawn v (FillGroup m slaves bits count) fill feed group = absurd (group m slaves bits count refl)
none_drawn v e fill feed group = refl

pub returns-in_default : goal.returns-in_default
returns-in_default c v e = none_drawn v c.args.event.now c.in_default.not-Fill c.in_default.not-Feed c.in_default.not-FillGroup
