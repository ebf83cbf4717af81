use Rattle.std.proofs.Common.{◌≡◌, ◌≤◌, length, map, take, vec_len, vec_capacity}
use Rattle.std.specs.List.{AllZip}
use Rattle.lane_shares.specs.Names.{knows, Fits}
use Rattle.par_lanes.specs.Grants.{IsShareOf}
use Rattle.kme_shared.proofs.rows.bare_row.Given as goal

abbrev pub invariant-loop-place : goal.invariant-loop-place
invariant-loop-place l = record {
  fits : AllZip Fits l.shares l.issuers;
  same : map knows l.issuers ≡ map knows l.fn.issuers;
  bare : AllZip (λ d s. IsShareOf d 0 s) (take l.place l.shares) l.row.items;
  taken : vec_len l.row ≡ l.place;
  room : length l.shares ≤ vec_capacity l.row;
}
