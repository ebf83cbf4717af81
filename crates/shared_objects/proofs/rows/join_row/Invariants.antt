use Rattle.std.proofs.Common.{◌≡◌, ◌≤◌, ◌<◌, ◌+◌, ℕ, ◌++◌, List, vec_len}
use Rattle.std.specs.List.{AllZip}
use Rattle.shared_objects.specs.Seats.{calls_at, budget_at, Belongs}
use Rattle.shared_objects.proofs.rows.join_row.Given as goal

abbrev pub invariant-loop : goal.invariant-loop
invariant-loop g l = record {
  turns : l.counter + vec_len l.row ≡ l.end;
  kept : AllZip Belongs l.turnstiles l.kept;
  row : (rest : List _) × (l.row.items ++ rest ≡ l.fn.row.items);
  done : (i : ℕ) → vec_len l.row ≤ i → calls_at i l.kept ≡ calls_at i l.fn.kept ++ calls_at i l.fn.row.items;
  spent : (i : ℕ) → vec_len l.row ≤ i → budget_at i l.kept ≡ budget_at i l.fn.kept + budget_at i l.fn.row.items;
  left : (i : ℕ) → i < vec_len l.row → calls_at i l.kept ≡ calls_at i l.fn.kept;
  budget : (i : ℕ) → i < vec_len l.row → budget_at i l.kept ≡ budget_at i l.fn.kept;
}
