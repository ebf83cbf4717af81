use Rattle.std.proofs.Common.{◌≡◌, ℕ, ◌≤◌, length, Some, vec_len, vec_capacity}
use Rattle.std.specs.Prelude.{slice_get}
use Rattle.std.specs.List.{AllZip}
use Rattle.net_model.specs.Site.{sender}
use Rattle.declared_site.specs.SiteOf.{site_of}
use Rattle.lane_shares.specs.Names.{Fits}
use Rattle.par_lanes.specs.Emitting.{grant_at}
use Rattle.kme_shared.specs.Sheets.{IsDealt}
use Rattle.kme_shared.proofs.node_sheets.sheets.Given as goal

abbrev pub invariant-loop-number : goal.invariant-loop-number
invariant-loop-number g l = record {
  nodes : length l.state.posts.items ≤ 16;
  made : vec_len l.sheets ≡ l.number;
  below : l.number ≤ length l.state.posts.items;
  room : length l.state.posts.items ≤ vec_capacity l.sheets;
  fits : AllZip Fits l.shares l.issuers;
  left : (i : ℕ) (side : _) → slice_get l.state.lanes.items i ≡ Some side → l.number ≤ sender (site_of l.state.site) side.lane → grant_at i l.issuers ≡ grant_at i l.fn.issuers;
  dealt : (v : ℕ) (sheet : _) → slice_get l.sheets.items v ≡ Some sheet → IsDealt l.state l.shares v sheet.issuers.items sheet.opening.value;
}
