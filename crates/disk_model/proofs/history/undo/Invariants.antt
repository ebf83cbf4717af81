use Rattle.std.proofs.Common.{◌≡◌, ◌≤◌, take, length, vec_capacity}
use Rattle.disk_model.specs.History.{octets_of, undone}
use Rattle.disk_model.proofs.history.undo.Given as goal

abbrev pub invariant-back : goal.invariant-back
invariant-back l = record {
  content : undone (take l.place l.writes) l.saved l.content.items ≡ undone l.writes l.saved l.initial.content.items;
  place : l.place ≤ length l.writes;
  end : l.end ≡ octets_of (take l.place l.writes);
  room : vec_capacity l.initial.content ≤ vec_capacity l.content;
}

abbrev pub decreases-back : goal.decreases-back
decreases-back l = l.place
