-- The facts that a manager keeps, and which of their bytes are needed.
use Rattle.std.specs.Prelude.{◌≡◌, ℕ, ◌==◌, ◌&&◌, not, is_some, Bool, true, false, List, [], Option, Some, None, if◌then◌else◌}
use Rattle.net_model.specs.declared.fact.Fact.{Fact}
use Rattle.net_model.specs.declared.fact.Fact.TheVariants.{Key, Chunk, Part}
use Rattle.net_model.specs.Relay.{is_some_of}
use Rattle.net_model.specs.Table.{part_of, origin, target, sae_at}
use Rattle.net_model.specs.World.{no_volatile}
use Rattle.net_model.specs.View.{View}
use Rattle.net_model.specs.Needed.{end_needs, is_needed, masked}
use Rattle.stream_core.specs.Kept.{StreamEnds}

-- the kept state as a view, without lanes and without what a crash loses
abbrev pub kept_view : StreamEnds → View
kept_view s =
    record {
      me = s.ends.known.me;
      facts = s.ends.known.facts;
      acked = s.ends.known.acked;
      handed = s.ends.handed;
      closed = s.closed;
      ports = [];
      volatile = no_volatile;
    }

-- if the fact isn't owed: the node is an end of its route and needs it
abbrev pub is_needed_here : View → Fact → Bool
is_needed_here v f = if origin f == v.me then end_needs v true f (part_of f) else if target f == v.me then end_needs v false f (part_of f) else false

-- the node is the end of the fact's route at which this application gets the key or chunk
abbrev pub is_for : ℕ → List Fact → ℕ → Fact → Bool
is_for me facts sae f =
    not (is_some (part_of f)) && (if origin f == me then is_some_of (sae_at facts true f) sae else (target f == me) && is_some_of (sae_at facts false f) sae)

abbrev pub needs_at : View → Option Fact → Bool
needs_at v None = false
needs_at v (Some f) = is_needed v f

-- the kinds of facts that have bytes
abbrev pub has_bytes : Fact → Bool
has_bytes (Key name master slave route bytes) = true
has_bytes (Chunk name stream index route bytes) = true
has_bytes (Part name key master slave route bytes) = true
has_bytes f = false

abbrev pub has_bytes_at : Option Fact → Bool
has_bytes_at None = false
has_bytes_at (Some f) = has_bytes f

-- bytes that aren't needed are zeros
pub record IsMasked (s : StreamEnds) : Type 0 where
  pub same : masked (kept_view s) ≡ kept_view s
