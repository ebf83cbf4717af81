-- Each step keeps all facts, and adds marks at the end of the list.
use Rattle.std.proofs.Common.{◌≡◌, ℕ, List, [], ◌∷◌, ◌++◌, sym, ◌∙◌, ap, append_assoc, Some}
use Rattle.std.proofs.lemmas.List.{append-nil}
use Rattle.qkd_base.specs.Name.{Name}
use Rattle.net_model.specs.declared.fact.Fact.{Fact}
use Rattle.net_model.specs.Table.{fact_at}
use Rattle.net_model.specs.World.{Network, World}
use Rattle.net_model.specs.Action.{Action}
use Rattle.net_model.specs.Step.{step}
use Rattle.law_base.proofs.Growing.{replay_grows}
use Rattle.law_base.proofs.Grow.{Grows}
use Rattle.law_safety.proofs.Marks.{marks, replay_marks}
use Rattle.law_safety.proofs.HandingSteps.{keeps_step}

-- A fact of the table stays in the table.

pub grows_step : (net : Network) (w : World) (action : Action) → Grows w.durable.facts (step net w action).0.durable.facts
grows_step net w action n f h = keeps_step (λ facts handed. fact_at facts n ≡ Some f) (λ s v rs d e. (replay_grows s v rs d).facts n f e) net w action h

-- The new list of marks is the old one with further marks at its end.

pub record IsLonger (old new : List (Name × ℕ)) : Type 0 where
  pub more : List (Name × ℕ)
  pub is : new ≡ old ++ more

pub longer_step : (net : Network) (w : World) (action : Action) → IsLonger w.durable.handed (step net w action).0.durable.handed
longer_step net w action =
    keeps_step (λ facts handed. IsLonger w.durable.handed handed)
    (λ s v rs d h. record { more = h.more ++ marks rs; is = replay_marks s v rs d ∙ ap (λ (hs : List (Name × ℕ)). hs ++ marks rs) h.is ∙ append_assoc w.durable.handed h.more (marks rs) })
    net w action (record { more = []; is = sym (append-nil w.durable.handed) })
