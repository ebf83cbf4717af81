use Rattle.std.proofs.Common.{List, ◌++◌, map, take}
use Rattle.net_model.specs.declared.record.Record.{Record}
use Rattle.net_model.specs.Journal.{fact_record}
use Rattle.net_model.specs.View.{View}
use Rattle.stream_core.specs.Kept.{Sees}
use Rattle.kme_journal.specs.Batches.{Gathers}
use Rattle.kme_journal.proofs.facts.list_facts.Given as goal

abbrev pub invariant-loop-place : goal.invariant-loop-place
invariant-loop-place l = (v : View) (rs : List Record) → Sees v l.kept → Gathers l.initial.batches rs → Gathers l.batches (rs ++ map (fact_record v) (take l.place l.kept.ends.known.facts))
