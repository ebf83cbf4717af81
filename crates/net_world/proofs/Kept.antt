-- A new bench is kept.
use Rattle.std.proofs.Common.{◌≡◌, ℕ, IsTrue, [], refl, Some}
use Rattle.std.specs.Prelude.{slice_get}
use Rattle.net_model.specs.Sealing.{IsSealing}
use Rattle.net_model.specs.World.{Network, first}
use Rattle.declared_site.specs.SiteOf.{IsDeclared}
use Rattle.declared_site.specs.declared.site.Site.{Site as Declared}
use Rattle.disk_model.specs.Images.{Only}
use Rattle.hop_frames.specs.Sealing.{hop_sealing}
use Rattle.net_world.specs.New.{IsNew, network_on}
use Rattle.net_world.specs.Kept.{IsKept}
use Rattle.net_world.specs.declared.bench.Bench.{Bench}
use Rattle.net_world.proofs.Lists.{all_at}
use Rattle.net_world.proofs.Networks.{told_by, is_network}
use Rattle.net_world.proofs.Firsts.{down_first, entropy_first}
use Rattle.world_state.specs.Outside.{Outside}

module _ {K Q E X : Type 0} (outside : Outside K Q E X) (b : Bench K Q E X) (new : IsNew outside b) (site : Declared) (declared : IsDeclared site) (sealing : IsSealing hop_sealing) where
  abbrev net : Network
  net = network_on outside.device outside.entropy b site

  honest_at : (v : ℕ) (k : K) → slice_get b.disks.items v ≡ Some k → IsTrue (outside.disk.is_honest k)
  honest_at v k at = all_at (λ k. IsTrue (outside.disk.is_honest k)) b.disks.items v k new.honest at

  empty_at : (v : ℕ) (k : K) → slice_get b.disks.items v ≡ Some k → Only [] (outside.disk.image k (outside.disk.moment k))
  empty_at v k at = all_at (λ k. Only [] (outside.disk.image k (outside.disk.moment k))) b.disks.items v k new.empty at

  pub new_is_kept : IsKept outside b site net first
  new_is_kept = record {
    network = is_network outside b new site declared sealing;
    sited = refl;
    sealing = refl;
    whole = new.whole;
    disks = λ v k below at. down_first outside.disk net v k (honest_at v k at) (empty_at v k at);
    other_disks = λ v k past at. (honest_at v k at, empty_at v k at);
    entropies = λ v e at. entropy_first outside.entropy net v e (told_by outside.entropy.left b.entropies.items v e new.entropies at);
    devices = λ link q at. told_by outside.device.told b.devices.items link q new.devices at;
    wires = new.wires;
  }
