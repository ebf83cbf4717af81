-- The lines that declare nodes, links, applications and entitlements.
use Rattle.std.specs.Prelude.{ℕ, Bool, false, not, nat_lt, ◌&&◌, ◌==◌, if◌then◌else◌, List, [], ◌∷◌, ◌++◌, length, Option, Some, None, is_none}
use Rattle.std.specs.List.{position_from, list_any}
use Rattle.std.specs.Str.{bytes_eq}
use Rattle.route_table.specs.Table.{Table, lower_then_higher, with_link}
use Rattle.sae_entitlements.specs.Grants.{find_sae, home_of, with_sae, with_pair}
use Rattle.declared_site.specs.declared.site.Site.{Site}
use Rattle.scenario_text.specs.Words.{◌>>=◌, Word, one_of, two_of, is_name}
use Rattle.scenario_text.specs.Fields.{node_of, sae_of}

-- `node NAME`: at most 16 nodes, each with a name of its own
unfoldable pub declared_node : Site → List Word → Option Site
declared_node site ws = do
  name ← one_of ws
  if is_name 32 name && is_none (position_from (λ other. bytes_eq other name) 0 site.nodes) && nat_lt (length site.nodes) 16
      then Some (record site { nodes = site.nodes ++ name ∷ [] }) else None

-- a link between these two nodes
abbrev pub is_between : ℕ × ℕ → Option (ℕ × ℕ) → Bool
is_between pair None = false
is_between pair (Some ends) = (ends.0 == pair.0) && (ends.1 == pair.1)

abbrev pub is_joined : Table → ℕ → ℕ → Bool
is_joined t a b = list_any (is_between (lower_then_higher a b)) t

-- the first of the 32 link numbers that no link has yet
abbrev pub free_link : Table → Option ℕ
free_link t = position_from is_none 0 t

-- `link NAME NAME`: two different nodes that no link joins yet
unfoldable pub declared_link : Site → List Word → Option Site
declared_link site ws = do
  w ← two_of ws
  a ← node_of site w.0
  b ← node_of site w.1
  link ← free_link site.routes
  if not (a == b) && not (is_joined site.routes a b) then Some (record site { routes = with_link site.routes link a b }) else None

-- `sae ID NAME`: at most 256 applications, each with an ID of its own
unfoldable pub declared_sae : Site → List Word → Option Site
declared_sae site ws = do
  w ← two_of ws
  home ← node_of site w.1
  if is_name 64 w.0 && is_none (find_sae site.entitlements.saes w.0) && nat_lt (length site.entitlements.saes) 256
      then Some (record site { entitlements = with_sae site.entitlements w.0 home }) else None

-- `allow ID ID`: master and slave, which must have different homes
unfoldable pub declared_pair : Site → List Word → Option Site
declared_pair site ws = do
  w ← two_of ws
  master ← sae_of site w.0
  slave ← sae_of site w.1
  m ← home_of site.entitlements master
  s ← home_of site.entitlements slave
  if not (m == s) then Some (record site { entitlements = with_pair site.entitlements master slave }) else None
