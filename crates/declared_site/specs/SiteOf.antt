-- The conditions on a declared site, and the network's site that it stands for.
use Rattle.std.specs.Prelude.{◌≡◌, ◌≢◌, ℕ, ◌<◌, ◌≤◌, nat_lt, true, List, length, slice_get, count_by, is_some, unwrap_or, Some}
use Rattle.net_model.specs.Site.{Site}
use Rattle.route_table.specs.Table.{Table, IsTable, ends_of}
use Rattle.sae_entitlements.specs.Grants.{Sae, Grants, home_of, is_allowed, HasDistinctIds}
use Rattle.declared_site.specs.declared.site.Site.{Site as Declared}

-- how many links there are
abbrev pub links_in : Table → ℕ
links_in t = count_by is_some t

abbrev pub ends_or_none : Table → ℕ → ℕ × ℕ
ends_or_none t link = unwrap_or (ends_of t link) (0, 0)

abbrev pub home_or_none : Grants → ℕ → ℕ
home_or_none g sae = unwrap_or (home_of g sae) 0

-- the site of the network that a declared site stands for
abbrev pub site_of : Declared → Site
site_of d =
    record {
      nodes = length d.nodes;
      links = links_in d.routes;
      low = λ link. (ends_or_none d.routes link).0;
      high = λ link. (ends_or_none d.routes link).1;
      home = λ sae. home_or_none d.entitlements sae;
      allowed = λ master slave. is_allowed d.entitlements master slave;
    }

-- a pair of declared applications that have different homes
pub record IsDeclaredPair (g : Grants) (master slave : ℕ) : Type 0 where
  pub master_there : master < length g.saes
  pub slave_there : slave < length g.saes
  pub apart : home_or_none g master ≢ home_or_none g slave

-- At most 16 nodes, 32 links and 256 applications. No two nodes have the same name, and no two applications the same
-- ID. Links are numbered from 0 without a gap, and a pair of nodes has at most one. The two applications of an allowed
-- pair have different homes.
pub record IsDeclared (d : Declared) : Type 0 where
  pub nodes : length d.nodes ≤ 16
  pub names : (i j : ℕ) (name : List ℕ) → slice_get d.nodes i ≡ Some name → slice_get d.nodes j ≡ Some name → i ≡ j
  pub table : IsTable d.routes
  pub numbers : (link : ℕ) → is_some (ends_of d.routes link) ≡ nat_lt link (links_in d.routes)
  pub ends : (link low high : ℕ) → ends_of d.routes link ≡ Some (low, high) → high < length d.nodes
  pub saes : length d.entitlements.saes ≤ 256
  pub ids : HasDistinctIds d.entitlements.saes
  pub homes : (n : ℕ) (sae : Sae) → slice_get d.entitlements.saes n ≡ Some sae → sae.home < length d.nodes
  pub pairs : (master slave : ℕ) → is_allowed d.entitlements master slave ≡ true → IsDeclaredPair d.entitlements master slave
