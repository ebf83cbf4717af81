-- The workers' calls of a manager.
use Rattle.std.proofs.Common.{◌≡◌, ℕ, List, map}
use Rattle.std.specs.Prelude.{◌==◌, filter}
use Rattle.std.specs.List.{AllByRecursion}
use Rattle.net_model.specs.Site.{Site}
use Rattle.net_model.specs.Action.{Outcome, Replies}
use Rattle.net_model.specs.BlockOrder.{IsMerge}
use Rattle.run_model.specs.Works.{wanted_put}
use Rattle.shared_objects.specs.Rising.{placed_from}
use Rattle.shared_objects.specs.Asked.{requests_on}
use Rattle.par_managers.specs.declared.ask.PlanAsk.{PlanAsk}
use Rattle.par_managers.specs.declared.ask.PlanAnswer.{PlanAnswer}
use Rattle.par_managers.specs.Wanted.{CanLeave}
use Rattle.par_managers.specs.declared.keep.Replied.{Replied}
use Rattle.par_managers.specs.declared.keep.Keep.{Keep}
use Rattle.par_managers.specs.Talking.{line_asked, line_of, reply_kept}

-- A manager's history is a merge of the workers' calls of it. Each worker asks what its shift asks, and keeps the replies with their places.
pub record IsCalled (v : ℕ) (keeps : List Keep) (mines : List (List Replied)) (log : List (PlanAsk × PlanAnswer)) : Type 0 where
  pub calls : List (List (ℕ × (PlanAsk × PlanAnswer)))
  pub merged : IsMerge calls (placed_from 0 log)
  pub asked : map (map line_asked) calls ≡ map (λ (keep : Keep). map line_of (requests_on v keep.shift.items)) keeps
  pub replied : map (map (reply_kept v)) calls ≡ map (filter (λ (r : Replied). r.node == v)) mines

-- a turn as a pair of the line's place and the outcome

abbrev pub said : PlanAsk × PlanAnswer → ℕ × Outcome
said e = (e.0.place, Replies e.1.reply)

abbrev pub told : Replied → ℕ × Outcome
told r = (r.turned.place, Replies r.turned.reply)

-- what the reply wants put can leave its node
abbrev pub Leaves : Site → Replied → Type 0
Leaves s r = AllByRecursion (CanLeave s r.node) (wanted_put (Replies r.turned.reply))
