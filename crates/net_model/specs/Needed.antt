-- Which bytes a node still needs: those of facts that it owes to a next node, or that its own application hasn't got.
use Rattle.std.specs.Prelude.{ℕ, ◌==◌, ◌&&◌, ◌||◌, not, Bool, true, false, map, is_some, Option, Some, None, if◌then◌else◌}
use Rattle.std.specs.List.{list_any}
use Rattle.qkd_base.specs.Name.{Name, has}
use Rattle.qkd_base.specs.Route.{next_after}
use Rattle.net_model.specs.declared.fact.Fact.{Fact}
use Rattle.net_model.specs.Table.{PartOf, part_of, parts_of, name_of, route_of, origin, target, without_bytes, was_handed, sae_at, facts_of}
use Rattle.net_model.specs.Site.{outgoing_lanes}
use Rattle.qkd_base.specs.declared.lane.Lane.{Lane}
use Rattle.net_model.specs.OctetSequence.{first_blocks}
use Rattle.net_model.specs.World.{World, Network, planned}
use Rattle.net_model.specs.View.{View, Port, handed_at}

-- the next node of the fact's route has not acknowledged it
abbrev pub is_owed : View → Fact → Bool
is_owed v f = is_some (next_after (route_of f) v.me) && not (has v.acked (name_of f))

-- the application, if there is one, has got the key or chunk of this name
abbrev pub has_it : View → Name → Option ℕ → Bool
has_it v n None = false
has_it v n (Some sae) = was_handed v.handed n sae

-- Whether an end of a key or chunk needs its bytes: it does until its application has got it. The origin of a group key
-- needs the bytes of the parts until the master has got the key and none of the parts is owed.
abbrev pub end_needs : View → Bool → Fact → Option PartOf → Bool
end_needs v at_first f None = not (has_it v (name_of f) (sae_at v.facts at_first f))
end_needs v true f (Some p) = not (was_handed v.handed p.key p.master) || list_any (is_owed v) (parts_of v.facts p.key)
end_needs v false f (Some p) = not (was_handed v.handed p.key p.slave)

unfoldable pub is_needed : View → Fact → Bool
is_needed v f =
    is_owed v f || (if origin f == v.me then end_needs v true f (part_of f) else if target f == v.me then end_needs v false f (part_of f) else false)

abbrev pub masked_fact : View → Fact → Fact
masked_fact v f = if is_needed v f then f else without_bytes f

-- Bytes that are no longer needed are replaced by zeros. They are never needed again.
unfoldable pub masked : View → View
masked v = record v { facts = map (masked_fact v) v.facts }

abbrev pub port_at : Network → World → Lane → Port
port_at net w l =
    record {
      lane = l;
      blocks = first_blocks (net.device l.link) (w.durable.blocks l);
      lease = w.durable.lease l;
      planned = planned w l;
      recovered = w.recovered l;
    }

-- the view of a node's manager in this world
unfoldable pub view_of : Network → World → ℕ → View
view_of net w v =
    masked (record {
      me = v;
      facts = facts_of w.durable.facts (w.durable.known v);
      acked = w.durable.acked v;
      handed = handed_at net.site v w.durable.handed;
      closed = w.durable.closed v;
      ports = map (port_at net w) (outgoing_lanes net.site v);
      volatile = w.volatile v;
    })
