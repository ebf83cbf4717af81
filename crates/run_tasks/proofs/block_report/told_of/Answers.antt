use Rattle.std.proofs.Common.{◌∙◌}
use Rattle.std.specs.Prelude.{Result, Ok, Err, IfOk}
use Rattle.run_tasks.proofs.block_report.told_of.Goals as goal

pub returns-in-Passed : goal.returns-in-Passed
returns-in-Passed g c = rw c.in-Passed.is (as_said _ _ c.listed.result (λ items is http speaks. is ∙ c.passed_item.ensures) c.listed.ensures)
  where
    as_said : {A E : Type 0} (P Q : A → Type 0) (r : Result A E) → ((x : A) → P x → Q x) → IfOk r P → IfOk r Q
    as_said P Q (Ok x) f h = f x h
    as_said P Q (Err e) f h = tt
