use Rattle.std.proofs.Common.{ℕ, List, subst}
use Rattle.std.specs.BTreeMap.{Updates, get}
use Rattle.std.specs.Ordering.{nat_cmp}
use Rattle.std.specs.Cmp.Lexicographic.{slice_cmp}
use Rattle.std.specs.Prelude.{◌≡◌, Some, None}
use Rattle.end_store.specs.Stocked.{IsPut}
use Rattle.end_store.proofs.Stocked.{was_put, was_not_put}
use Rattle.end_store.proofs.stocks.Stocks.put.Goals as goal
use Rattle.end_store.proofs.stocks.Stocks.put.Goals.{in-Ok, in-Err}

pub returns : goal.returns
returns c =
    subst (λ (es : List (List ℕ × ℕ)). IsPut es c.insert.new.self.entries c.args.pool.now c.args.number) c.self.view_is
    (elim c.match-insert.branch [
      | in-Ok w ↦
          was_put c.self.inside.numbers c.insert.new.self c.args.pool.now c.args.number
          (subst (λ (key : List ℕ). Updates (slice_cmp nat_cmp) c.self.inside.numbers c.insert.new.self key (Some c.args.number)) c.pool_key.ensures w.in-Ok.ensures.updates)
      | in-Err w ↦
          was_not_put c.self.inside.numbers c.insert.new.self c.args.pool.now c.args.number
          (subst (λ (key : List ℕ). get (slice_cmp nat_cmp) c.self.inside.numbers key ≡ None) c.pool_key.ensures w.in-Err.ensures.absent)
          w.in-Err.ensures.err
    ])
