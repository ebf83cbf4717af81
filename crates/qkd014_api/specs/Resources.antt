-- The resources of the interface (ETSI GS QKD 014 V1.1.1, section 5), as routes of the library matchit.
use Rattle.std.specs.Prelude.{ℕ, ◌+◌, ◌-◌, Bool, ◌&&◌, ◌||◌, ◌==◌, not, if◌then◌else◌, List, [], ◌∷◌, length, take, drop, Option, Some, None, Result, Ok, Err, codes}
use Rattle.std.specs.Option.{option_map, option_and_then}
use Rattle.std.specs.List.{prefix_len}
use Rattle.std.specs.Str.{bytes_eq, is_utf8}
use Rattle.matchit.specs.Route.{Scan, parse_route}
use Rattle.matchit.specs.Router.{RouteOf, route_from}
use Rattle.matchit.specs.Order.{placed}
use Rattle.matchit.specs.Rows.{RowsOf}
use Rattle.matchit.specs.Seek.{first}
use Rattle.matchit.specs.declared.error.InsertError.{InsertError}
use Rattle.qkd014_api.specs.declared.resource.Resource.{Resource}
use Rattle.qkd014_api.specs.declared.resource.Resource.TheVariants.{Status, EncKeys, DecKeys}

-- ---- targets

-- the index of the `?` in a target, or the target's length
abbrev pub mark_of : List ℕ → ℕ
mark_of target = prefix_len (λ b. not (b == 63)) target

abbrev pub path_in : List ℕ → List ℕ
path_in target = take (mark_of target) target

abbrev pub query_in : List ℕ → List ℕ
query_in target = drop (mark_of target + 1) target

-- how many octets of a path follow the application's ID
abbrev pub tail_len : Resource → ℕ
tail_len Status = 7
tail_len EncKeys = 9
tail_len DecKeys = 9

-- the part of a path between `/api/v1/keys/` and the resource's own part
abbrev pub sae_part : List ℕ → Resource → List ℕ
sae_part path resource = take (length path - (13 + tail_len resource)) (drop 13 path)

-- ---- routes

abbrev pub Routes : Type 0
Routes = RowsOf (RouteOf Resource)

-- the routes with one more route inserted
abbrev pub routed : Result Scan InsertError → Resource → Routes → Routes
routed (Ok s) resource rows = placed (s.pattern, route_from s resource) rows
routed (Err e) resource rows = rows

unfoldable pub routes : Routes
routes =
    routed (parse_route (codes "/api/v1/keys/{sae}/dec_keys")) DecKeys
    (routed (parse_route (codes "/api/v1/keys/{sae}/enc_keys")) EncKeys
    (routed (parse_route (codes "/api/v1/keys/{sae}/status")) Status []))

-- the resource of a path
abbrev pub route_of : List ℕ → Option Resource
route_of path = if is_utf8 path then option_map (λ (r : RouteOf Resource). r.value) (first routes path) else None

-- the methods that a resource serves
abbrev pub serves : Resource → List ℕ → Bool
serves Status method = bytes_eq method (codes "GET")
serves EncKeys method = bytes_eq method (codes "GET") || bytes_eq method (codes "POST")
serves DecKeys method = bytes_eq method (codes "GET") || bytes_eq method (codes "POST")

abbrev pub served_by : List ℕ → Resource → Option Resource
served_by method resource = if serves resource method then Some resource else None

abbrev pub resource_at : (path method : List ℕ) → Option Resource
resource_at path method = option_and_then (served_by method) (route_of path)
