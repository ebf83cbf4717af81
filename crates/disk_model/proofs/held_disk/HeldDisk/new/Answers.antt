use Rattle.std.proofs.Common.{◌≡◌, ℕ, List, length, ap}
use Rattle.disk_model.specs.Record.{Used}
use Rattle.disk_model.specs.MemForm.{MemForm}
use Rattle.disk_model.specs.Plan.{PlanForm}
use Rattle.disk_model.specs.declared.allowance.Allowance.{Allowance}
use Rattle.disk_model.specs.declared.arm.Armings.{Armings}
use Rattle.disk_model.proofs.held_disk.HeldDisk.new.Goals as goal

same_forms : (f f' : List ℕ) (u u' : List Used) (s s' : ℕ) (p p' : PlanForm) (a a' : Allowance) (r r' : Armings) → f ≡ f' → u ≡ u' → s ≡ s' → p ≡ p' → a ≡ a' → r ≡ r'
    → let x : MemForm = record { first = f; used = u; synced = s; plan = p; allowance = a; armings = r } in
    let y : MemForm = record { first = f'; used = u'; synced = s'; plan = p'; allowance = a'; armings = r' } in x ≡ y
same_forms f f' u u' s s' p p' a a' r r' ef eu es ep ea er = λ i. record { first = ef i; used = eu i; synced = es i; plan = ep i; allowance = ea i; armings = er i }

pub returns : goal.returns
returns c =
    let e = c.in_ok-new.ensures in
    same_forms _ _ _ _ _ _ _ _ _ _ _ _ e.first e.calls (ap length e.past) c.new-2.ensures c.new-3.ensures c.new-4.ensures
