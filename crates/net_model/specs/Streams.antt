-- Streams of chunks between a source and a peer (ETSI GS QKD 004: OPEN_CONNECT, GET_KEY, CLOSE).
use Rattle.std.specs.Prelude.{ℕ, zero, suc, ◌+◌, ◌*◌, ◌/◌, ◌%◌, ◌==◌, ◌&&◌, ◌||◌, not, nat_lt, nat_le, Bool, false, List, [], ◌∷◌, find, take, drop, reverse, count_by, Option, Some, None, if◌then◌else◌}
use Rattle.std.specs.List.{list_any}
use Rattle.qkd_base.specs.Name.{Name, name_eq}
use Rattle.qkd_base.specs.declared.key_name.NameKind.TheVariants.{Key as KeyKind, Stream as StreamKind, Note as NoteKind}
use Rattle.net_model.specs.declared.fact.Fact.{Fact}
use Rattle.net_model.specs.declared.fact.Fact.TheVariants.{Chunk, Open, Joined}
use Rattle.net_model.specs.declared.record.Record.{Record}
use Rattle.net_model.specs.declared.record.Record.TheVariants.{Learned, Handed, Closed}
use Rattle.net_model.specs.declared.reply.Reply.{Reply}
use Rattle.net_model.specs.declared.reply.Reply.TheVariants.{Stream, MadeKeys, NoRoute, PoolFull, UnknownStream}
use Rattle.net_model.specs.Table.{name_of, bytes_of, fact_at, was_handed, is_joined_about}
use Rattle.net_model.specs.Site.{Site}
use Rattle.net_model.specs.Routes.{route}
use Rattle.net_model.specs.View.{View}
use Rattle.net_model.specs.Decision.{Decision, Refuses, answers, makes, fresh_name, is_confirmed}
use Rattle.net_model.specs.Pools.{is_entitled}

-- the size of a key: 64 to 4,096 bits in steps of 8
abbrev pub is_size : ℕ → Bool
is_size bits = nat_le 64 bits && nat_le bits 4096 && (bits % 8 == 0)

-- a reply that is only a status
abbrev pub only_status : ℕ → Reply
only_status n = Stream n None 0 []

-- the application's end of a stream is at this node and isn't closed
abbrev pub has_end : Site → View → Name → ℕ → Bool
has_end site v stream sae = (site.home sae == v.me) && not (was_handed v.closed stream sae)

-- the stream, if one of its ends is at this node and isn't closed
abbrev pub open_end : Site → View → Option Fact → Option Fact
open_end site v (Some (Open stream source peer size route)) =
    if has_end site v stream source || has_end site v stream peer then Some (Open stream source peer size route) else None
open_end site v _ = None

abbrev pub stream_here : Site → View → Name → Option Fact
stream_here site v n = open_end site v (fact_at v.facts n)

-- this node knows the peer's Joined note
abbrev pub has_joined : View → Name → Bool
has_joined v n = list_any (is_joined_about n) v.facts

-- Open, at the home of the source. Status 8: not allowed, or not at home here. 7: a wrong size. 4: no route. 1: the
-- stream is open, and its peer hasn't joined yet.

abbrev pub opened : View → ℕ → ℕ → ℕ → Option (List ℕ) → Decision
opened v source peer bits None = answers v (only_status 4)
opened v source peer bits (Some route) =
    makes v (Learned (Open (fresh_name v StreamKind 0) source peer (bits / 8) route) ∷ []) (Stream 1 (Some (fresh_name v StreamKind 0)) 0 [])

unfoldable pub open_stream : Site → (ℕ → Bool) → View → ℕ → ℕ → ℕ → Decision
open_stream site up v source peer bits =
    if not (is_entitled site v source source peer) then answers v (only_status 8)
    else if not (is_size bits) then answers v (only_status 7)
    else opened v source peer bits (route site up v.me (site.home peer))

-- Join. Status 9: no such stream is open here. 5: the caller is the source, or a peer that has joined already. 8: the
-- caller is neither, or the peer is not at home here. 7: another size than the stream's. 0: joined.
abbrev pub joins : Site → View → ℕ → ℕ → ℕ → Option Fact → Decision
joins site v caller other bits (Some (Open stream source peer size route)) =
    if (caller == source) || ((caller == peer) && has_joined v stream) then answers v (only_status 5)
    else if not ((caller == peer) && (other == source) && (site.home peer == v.me)) then answers v (only_status 8)
    else if not (8 * size == bits) then answers v (only_status 7)
    else makes v (Learned (Joined (fresh_name v NoteKind 0) stream (reverse route)) ∷ []) (Stream 0 (Some stream) 0 [])
joins site v caller other bits _ = answers v (only_status 9)

unfoldable pub join_stream : Site → View → ℕ → ℕ → Name → ℕ → Decision
join_stream site v caller other stream bits = joins site v caller other bits (stream_here site v stream)

-- What get and close have in common. Status 9: no such stream is open here, or its peer, at home here, hasn't joined.
-- 8: the caller is not an end of the stream that is at home here.
abbrev pub at_end : Site → View → ℕ → Option Fact → (Name → ℕ → Decision) → Decision
at_end site v caller (Some (Open stream source peer size route)) then' =
    if (site.home peer == v.me) && not (has_joined v stream) then answers v (only_status 9)
    else if not (((caller == source) && (site.home source == v.me)) || ((caller == peer) && (site.home peer == v.me))) then answers v (only_status 8)
    else then' stream source
at_end site v caller _ then' = answers v (only_status 9)

abbrev pub is_chunk_of : Name → Fact → Bool
is_chunk_of s (Chunk name stream index route bytes) = name_eq stream s
is_chunk_of s _ = false

abbrev pub is_chunk_at : Name → ℕ → Fact → Bool
is_chunk_at s i (Chunk name stream index route bytes) = name_eq stream s && (index == i)
is_chunk_at s i _ = false

abbrev pub chunk_at : View → Name → ℕ → Option Fact
chunk_at v s i = find (is_chunk_at s i) v.facts

-- Status 10: the chunk was already given. 2: it isn't confirmed to the source, or the peer's node doesn't know it. 0:
-- the chunk's bytes are given.
abbrev pub gives_chunk : View → ℕ → ℕ → Bool → Option Fact → Decision
gives_chunk v caller index at_source None = answers v (only_status 2)
gives_chunk v caller index at_source (Some f) =
    if was_handed v.handed (name_of f) caller then answers v (only_status 10)
    else if at_source && not (is_confirmed v (name_of f)) then answers v (only_status 2)
    else makes v (Handed (name_of f) caller ∷ []) (Stream 0 None index (bytes_of f))

-- status 3: the source's node doesn't know yet that the peer joined
unfoldable pub get_chunk : Site → View → ℕ → Name → ℕ → Decision
get_chunk site v caller stream index =
    at_end site v caller (stream_here site v stream) (λ s source.
    if (caller == source) && not (has_joined v s) then answers v (only_status 3)
    else gives_chunk v caller index (caller == source) (chunk_at v s index))

unfoldable pub close_stream : Site → View → ℕ → Name → Decision
close_stream site v caller stream =
    at_end site v caller (stream_here site v stream) (λ s source. makes v (Closed s caller ∷ []) (only_status 0))

-- Feed: new chunks of a stream, with consecutive indexes from 0.

abbrev pub new_chunks : View → Name → List ℕ → ℕ → ℕ → List ℕ → ℕ → ℕ → List Record
new_chunks v stream route size next random more zero = []
new_chunks v stream route size next random more (suc k) =
    Learned (Chunk (fresh_name v KeyKind more) stream (next + more) route (take size random)) ∷ new_chunks v stream route size next (drop size random) (more + 1) k

-- how many chunks the source hasn't got
abbrev pub waiting : View → Name → ℕ → ℕ
waiting v stream source = count_by (λ f. is_chunk_of stream f && not (was_handed v.handed (name_of f) source)) v.facts

abbrev pub fed : View → Name → ℕ → ℕ → ℕ → List ℕ → Option (List ℕ) → Decision
fed v stream source size count random None = Refuses NoRoute
fed v stream source size count random (Some route) =
    if nat_lt 4096 (waiting v stream source + count) then Refuses PoolFull
    else makes v (new_chunks v stream route size (count_by (is_chunk_of stream) v.facts) random 0 count) (MadeKeys count (fresh_name v KeyKind 0))

abbrev pub fed_stream : Site → (ℕ → Bool) → View → ℕ → List ℕ → Option Fact → Decision
fed_stream site up v count random (Some (Open stream source peer size nodes)) =
    if has_end site v stream source then fed v stream source size count random (route site up v.me (site.home peer)) else Refuses UnknownStream
fed_stream site up v count random _ = Refuses UnknownStream

unfoldable pub feed : Site → (ℕ → Bool) → View → Name → ℕ → List ℕ → Decision
feed site up v stream count random = fed_stream site up v count random (fact_at v.facts stream)

-- the octets of each chunk of a stream
abbrev pub chunk_size : Option Fact → ℕ
chunk_size (Some (Open stream source peer size route)) = size
chunk_size _ = 0
