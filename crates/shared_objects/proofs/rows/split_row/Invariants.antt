use Rattle.std.proofs.Common.{◌≡◌, ◌≤◌, ◌<◌, ◌+◌, ℕ, take, vec_len, vec_capacity}
use Rattle.std.specs.List.{AllZip}
use Rattle.shared_objects.specs.Seats.{calls_at, budget_at, Belongs, IsFresh}
use Rattle.shared_objects.proofs.rows.split_row.Given as goal

abbrev pub invariant-loop-place : goal.invariant-loop-place
invariant-loop-place g l = record {
  kept : AllZip Belongs l.turnstiles l.kept;
  own : (i : ℕ) → calls_at i l.kept ≡ calls_at i l.fn.kept;
  done : (i : ℕ) → i < l.place → budget_at i l.kept + l.fn.calls ≡ budget_at i l.fn.kept;
  left : (i : ℕ) → l.place ≤ i → budget_at i l.kept ≡ budget_at i l.fn.kept;
  row : AllZip (IsFresh l.fn.calls) (take l.place l.turnstiles) l.row.items;
  room : vec_len l.row ≡ l.place;
  spare : vec_capacity l.row ≡ vec_capacity l.fn.row;
}
