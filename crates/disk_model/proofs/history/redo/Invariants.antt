use Rattle.std.proofs.Common.{◌≡◌, ◌≤◌, take, vec_capacity, vec_len}
use Rattle.disk_model.specs.History.{octets_of, EndWithin}
use Rattle.disk_model.proofs.Redoing.{IsRedone}
use Rattle.disk_model.proofs.history.redo.Given as goal

abbrev pub invariant-again : goal.invariant-again
invariant-again l = record {
  redone : IsRedone l.initial.content.items l.log l.initial.writes l.write-index l.writes l.saved.items l.content.items l.rest;
  size : vec_len l.saved ≡ octets_of (take l.write-index l.writes);
  ends : EndWithin (vec_capacity l.content) l.writes;
  room : vec_capacity l.initial.content ≤ vec_capacity l.content;
  saved_room : vec_capacity l.initial.saved ≤ vec_capacity l.saved;
}
