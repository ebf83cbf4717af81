use Rattle.std.proofs.Common.{◌≡◌, ℕ, ◌≤◌, ◌+◌, Some, vec_len, vec_capacity}
use Rattle.std.specs.Prelude.{slice_get}
use Rattle.std.specs.Vec.{vec_ptr}
use Rattle.kme_shared.specs.Seats.{SitManagers}
use Rattle.kme_shared.specs.Sheets.{IsDealt}
use Rattle.kme_shared.proofs.block_desks.seat_managers.Given as goal

abbrev pub invariant-loop : goal.invariant-loop
invariant-loop g l = record {
  turns : l.counter + vec_len l.posts ≡ l.end;
  count : vec_len l.sheets ≡ vec_len l.posts;
  few : vec_len l.posts ≤ vec_len l.fn.posts;
  dealt : (v : ℕ) (sheet : _) → slice_get l.sheets.items v ≡ Some sheet → IsDealt l.opening.value l.shares v sheet.issuers.items sheet.opening.value;
  ptr : vec_ptr l.posts ≡ vec_ptr l.fn.posts;
  kept : vec_capacity l.posts ≡ vec_capacity l.fn.posts;
  seated : SitManagers (λ d. d.opening.value) (λ d. d.node) (λ d. d.up) (λ d. d.post) (λ d. d.shares.now) l.opening.value l.shares l.fn.posts.items l.fn.machines.items l.posts.items l.machines.items;
  room : vec_capacity l.machines ≡ vec_capacity l.fn.machines;
  long : vec_len l.machines + vec_len l.posts ≡ vec_len l.fn.machines + vec_len l.fn.posts;
}
