-- The premises of the promises: a site within its limits, frames that open as they were sealed, and devices and
-- entropies that give octets.
use Rattle.std.specs.Prelude.{◌≡◌, ◌≢◌, ℕ, ◌<◌, ◌≤◌, true}
use Rattle.net_model.specs.OctetSequence.{OctetSequence}
use Rattle.net_model.specs.Sealing.{IsSealing}
use Rattle.net_model.specs.Site.{Site}
use Rattle.net_model.specs.World.{Network}

-- the two nodes of a link
pub record IsLink (s : Site) (l : ℕ) : Type 0 where
  pub order : s.low l < s.high l
  pub within : s.high l < s.nodes

-- a pair that may share keys is at home at two nodes
pub record IsAllowed (s : Site) (first last : ℕ) : Type 0 where
  pub first_number : first < 256
  pub last_number : last < 256
  pub first_home : s.home first < s.nodes
  pub last_home : s.home last < s.nodes
  pub apart : s.home first ≢ s.home last

-- at most 16 nodes and 32 links, with at most one link for each pair of nodes
pub record IsSite (s : Site) : Type 0 where
  pub nodes : s.nodes ≤ 16
  pub links : s.links ≤ 32
  pub ends : (l : ℕ) → l < s.links → IsLink s l
  pub single : (l k : ℕ) → l < s.links → k < s.links → s.low l ≡ s.low k → s.high l ≡ s.high k → l ≡ k
  pub pairs : (first last : ℕ) → s.allowed first last ≡ true → IsAllowed s first last

abbrev pub IsOctetSequence : OctetSequence → Type 0
IsOctetSequence t = (i : ℕ) → t.octet i < 256

pub record IsNetwork (net : Network) : Type 0 where
  pub site : IsSite net.site
  pub sealing : IsSealing net.sealing
  pub devices : (l : ℕ) → IsOctetSequence (net.device l)
  pub entropies : (v : ℕ) → IsOctetSequence (net.entropy v)
