use Rattle.std.proofs.Common.{length, take, sym, ap}
use Rattle.disk_model.specs.Record.{replayed}
use Rattle.disk_model.proofs.Histories.{lost_behind, kept_behind}
use Rattle.disk_model.proofs.laws.what_a_cut_leaves.Goals as goal

pub returns-clause-lost : goal.returns-clause-lost
returns-clause-lost c = λ d. sym (lost_behind d.first (length (replayed d.first (take d.synced d.used))) d.synced d.used)

pub returns-clause-kept : goal.returns-clause-kept
returns-clause-kept c = λ d. ap (λ u. replayed d.first u) (sym (kept_behind (length (replayed d.first (take d.synced d.used))) d.synced d.used))
