-- The world for which the views of a folder's journals stand, and its network.
use Rattle.std.specs.Prelude.{ℕ, ◌+◌, ◌-◌, ◌==◌, ◌&&◌, nat_lt, min, true, false, List, [], length, map, find, replicate, slice_index_or, Option, Some, None, if◌then◌else◌}
use Rattle.std.specs.List.{flat_map}
use Rattle.qkd_base.specs.Lane.{lane_eq}
use Rattle.qkd_base.specs.declared.lane.Lane.{Lane}
use Rattle.net_model.specs.declared.fact.Fact.{Fact}
use Rattle.net_model.specs.declared.fact.Fact.TheVariants.{Key, Chunk, Part}
use Rattle.net_model.specs.Table.{origin, is_secret, bytes_of, without_bytes}
use Rattle.net_model.specs.OctetSequence.{OctetSequence}
use Rattle.net_model.specs.Sealing.{Sealing}
use Rattle.net_model.specs.Site.{Site, sender}
use Rattle.net_model.specs.World.{Network, World, Durable, Owner, HashKey, Journal, no_doubt, no_volatile}
use Rattle.net_model.specs.Start.{burnt_to}
use Rattle.net_model.specs.View.{View, Port}
use Rattle.net_model.specs.Fold.{empty_port}
use Rattle.law_lives.specs.Belongs.{view_in, known_in, table_in, needed_in}
use Rattle.law_invariant.specs.HandedName.{handed_name}

-- the fact with other bytes, if it has any
abbrev pub with_bytes : Fact → List ℕ → Fact
with_bytes (Key name master slave route bytes) more = Key name master slave route more
with_bytes (Chunk name stream index route bytes) more = Chunk name stream index route more
with_bytes (Part name key master slave route bytes) more = Part name key master slave route more
with_bytes f more = f

abbrev pub with_found : Fact → Option Fact → Fact
with_found f None = without_bytes f
with_found f (Some g) = with_bytes f (bytes_of g)

-- the fact with the bytes that some node needs, or with zeros
abbrev pub kept_fact : List View → Fact → Fact
kept_fact views f = with_found f (needed_in views (handed_name f))

unfoldable pub kept_table : List View → List Fact
kept_table views = map (kept_fact views) (table_in views)

abbrev pub port_or : Lane → Option Port → Port
port_or l None = empty_port l
port_or l (Some p) = p

-- the port at which a lane leaves its sender
unfoldable pub kept_port : Site → List View → Lane → Port
kept_port s views l = port_or l (find (λ (p : Port). lane_eq p.lane l) (view_in views (sender s l)).ports)

-- The first 8 leased bytes are the hash key's. All others count as burnt, since frames are forgotten.
abbrev pub kept_owners : (lease : ℕ) → List Owner
kept_owners lease = burnt_to lease (replicate (min 8 lease) HashKey)

unfoldable pub kept_durable : Site → List View → Durable
kept_durable s views =
    record {
      blocks = λ l. length (kept_port s views l).blocks;
      own = λ l. kept_owners (kept_port s views l).lease;
      lease = λ l. (kept_port s views l).lease;
      facts = kept_table views;
      handed = flat_map (λ (view : View). view.handed) views;
      known = known_in views;
      acked = λ v. (view_in views v).acked;
      closed = λ v. (view_in views v).closed;
    }

abbrev pub bytes_from : ℕ → Fact → List ℕ
bytes_from v f = if is_secret f && (origin f == v) then bytes_of f else []

-- the bytes of all secrets that this node made, one behind the other
abbrev pub spelled : ℕ → List Fact → List ℕ
spelled v facts = flat_map (bytes_from v) facts

abbrev pub end_behind : ℕ → Option ℕ → Option ℕ
end_behind n None = None
end_behind n (Some end) = Some (n + end)

-- the octets of a list, and behind them those of a sequence
abbrev pub goes_on : List ℕ → OctetSequence → OctetSequence
goes_on xs t = record { octet = λ i. if nat_lt i (length xs) then slice_index_or xs i 0 else t.octet (i - length xs); end = end_behind (length xs) t.end }

-- The devices give the links' octets. An entropy gives the bytes of the secrets that its node made, and then what it is
-- told to give.
abbrev pub kept_network : Site → Sealing → (devices entropies : ℕ → OctetSequence) → List View → Network
kept_network s sealing devices entropies views =
    record { site = s; sealing = sealing; device = devices; entropy = λ v. goes_on (spelled v (kept_table views)) (entropies v) }

-- The world with these journals, at rest. Nothing is in doubt, in memory or on its way, since no journal has it.
unfoldable pub kept_world : Site → List View → (journals : ℕ → Journal) → World
kept_world s views journals =
    record {
      durable = kept_durable s views;
      link_up = λ link. true;
      frames = λ l. [];
      wire = λ l. [];
      unclaimed = λ l. [];
      outgoing = λ l. [];
      recovered = λ l. (kept_durable s views).lease l;
      up = λ v. false;
      drawn = λ v. length (spelled v (kept_table views));
      journal = journals;
      interrupted = λ v. false;
      in_doubt = λ v. no_doubt;
      volatile = λ v. no_volatile;
      placings = λ v. [];
    }
