use Rattle.std.proofs.Common.{◌≡◌, ◌≤◌, length, take, drop}
use Rattle.std.specs.List.{All}
use Rattle.pad_veil.specs.Faults.{end_of, Marks, fault_after, first_fault}
use Rattle.pad_veil.proofs.faults.first_fault.Given as goal

abbrev pub invariant-loop-place : goal.invariant-loop-place
invariant-loop-place l = record {
  marks : Marks (take l.place l.frames) l.spent;
  size : length l.spent ≡ length l.fn.spent;
  high : All (λ f. end_of f ≤ length l.spent) (take l.place l.frames);
  rest : fault_after (length l.spent) (take l.place l.frames) (drop l.place l.frames) ≡ first_fault (length l.fn.spent) l.frames;
}
