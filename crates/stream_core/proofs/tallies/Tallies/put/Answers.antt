use Rattle.std.proofs.Common.{ℕ, List, subst}
use Rattle.std.specs.BTreeMap.{Updates, get}
use Rattle.std.specs.Ordering.{nat_cmp}
use Rattle.std.specs.Cmp.Lexicographic.{slice_cmp}
use Rattle.std.specs.Prelude.{◌≡◌, Some, None}
use Rattle.stream_core.specs.declared.tallies.Tally.{Tally}
use Rattle.stream_core.specs.Tallied.{IsPut}
use Rattle.stream_core.proofs.Keyed.{was_put, was_not_put}
use Rattle.stream_core.proofs.tallies.Tallies.put.Goals as goal
use Rattle.stream_core.proofs.tallies.Tallies.put.Goals.{in-Ok, in-Err}

pub returns : goal.returns
returns c =
    subst (λ (es : List (List ℕ × Tally)). IsPut es c.insert.new.self.entries c.args.stream c.args.tally) c.self.view_is
    (elim c.match-insert.branch [
      | in-Ok w ↦
          was_put c.self.inside.tallies c.insert.new.self c.args.stream c.args.tally
          (subst (λ (key : List ℕ). Updates (slice_cmp nat_cmp) c.self.inside.tallies c.insert.new.self key (Some c.args.tally)) c.stream_key.ensures w.in-Ok.ensures.updates)
      | in-Err w ↦
          was_not_put c.self.inside.tallies c.insert.new.self c.args.stream c.args.tally
          (subst (λ (key : List ℕ). get (slice_cmp nat_cmp) c.self.inside.tallies key ≡ None) c.stream_key.ensures w.in-Err.ensures.absent)
          w.in-Err.ensures.err
    ])
