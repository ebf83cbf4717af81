use Rattle.std.proofs.Common.{ℕ, ◌<◌, get_or}
use Rattle.net_model.specs.declared.record.Record.{Record}
use Rattle.journal_records.specs.Grammar.{IsLearned}
use Rattle.format_tests.proofs.records.is_learned.Given as goal

abbrev pub invariant-loop-change : goal.invariant-loop-change
invariant-loop-change l = (k : ℕ) (d : Record) → k < l.change-index → IsLearned (get_or l.records k d)
