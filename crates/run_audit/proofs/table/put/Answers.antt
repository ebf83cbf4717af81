use Rattle.std.proofs.Common.{◌≡◌, ℕ, Bool, List, Option, Some, cond, ap, ◌∙◌}
use Rattle.std.specs.Ordering.{nat_cmp}
use Rattle.std.specs.Cmp.Lexicographic.{slice_cmp}
use Rattle.std.specs.BTreeMap.{BTreeMap, Updates}
use Rattle.std.specs.Str.{bytes_eq}
use Rattle.std.proofs.lemmas.Map.Text.{is_eq-slice_cmp}
use Rattle.run_audit.specs.Table.{at}
use Rattle.run_audit.proofs.table.put.Goals as goal

put_at : {X : Type 0} (old new : BTreeMap (List ℕ) X) (key : List ℕ) (value : X) → Updates (slice_cmp nat_cmp) old new key (Some value) → (k : List ℕ) → at new k ≡ cond (bytes_eq key k) (Some value) (at old k)
put_at old new key value updates k = updates.0 k ∙ ap (λ (b : Bool). cond b (Some value) (at old k)) (is_eq-slice_cmp key k)

pub returns : goal.returns
returns g c = put_at c.args.table.now c.insert.new.self c.args.key c.args.value c.in_ok-insert.ensures.updates
