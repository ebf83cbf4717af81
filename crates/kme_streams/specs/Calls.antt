-- Calls at a stream that is open at this node, step by step.
use Rattle.std.specs.Prelude.{ℕ, ◌==◌, ◌&&◌, ◌||◌, not, Bool, Option, Some, None, if◌then◌else◌}
use Rattle.net_model.specs.declared.fact.Fact.{Fact}
use Rattle.net_model.specs.declared.fact.Fact.TheVariants.{Open}
use Rattle.net_model.specs.Site.{Site}
use Rattle.net_model.specs.View.{View}
use Rattle.net_model.specs.Decision.{Decision, answers}
use Rattle.net_model.specs.Streams.{only_status, has_end, has_joined, gives_chunk, chunk_at}
use Rattle.stream_core.specs.declared.opened.Opened.{Opened}

-- the fact that opens a stream
abbrev pub opening : Opened → Fact
opening o = Open o.stream o.source o.peer o.octets o.route

-- one of the stream's ends is at this node and isn't closed
abbrev pub has_open_end : Site → View → Opened → Bool
has_open_end site v o = has_end site v o.stream o.source || has_end site v o.stream o.peer

-- the caller is the peer and has joined
abbrev pub is_joined_peer : View → ℕ → Opened → Bool
is_joined_peer v caller o = (caller == o.peer) && has_joined v o.stream

-- the caller is the source, or is the peer and has joined
abbrev pub takes_part : View → ℕ → Opened → Bool
takes_part v caller o = (caller == o.source) || is_joined_peer v caller o

-- the caller is the peer, names the source, and is at home at this node
abbrev pub may_join : Site → View → ℕ → ℕ → Opened → Bool
may_join site v caller other o = (caller == o.peer) && (other == o.source) && (site.home o.peer == v.me)

-- the peer is at home at this node and hasn't joined
abbrev pub awaits_peer : Site → View → Opened → Bool
awaits_peer site v o = (site.home o.peer == v.me) && not (has_joined v o.stream)

-- the caller is the source or the peer of the stream, and at home at this node
abbrev pub is_end : Site → View → ℕ → Opened → Bool
is_end site v caller o = ((caller == o.source) && (site.home o.source == v.me)) || ((caller == o.peer) && (site.home o.peer == v.me))

-- the status that get and close answer if the caller has no end at this node that it may use
abbrev pub end_status : Site → View → ℕ → Opened → Option ℕ
end_status site v caller o = if awaits_peer site v o then Some 9 else if not (is_end site v caller o) then Some 8 else None

-- the caller is the source, and this node doesn't know yet that the peer has joined
abbrev pub is_early : View → ℕ → Opened → Bool
is_early v caller o = (caller == o.source) && not (has_joined v o.stream)

-- getting a chunk at an end
abbrev pub gets : View → ℕ → ℕ → Opened → Decision
gets v caller index o =
    if is_early v caller o then answers v (only_status 3)
    else gives_chunk v caller index (caller == o.source) (chunk_at v o.stream index)
