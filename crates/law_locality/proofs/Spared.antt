-- Events other than plans, and frames that come, make no record of a lane.
use Rattle.std.proofs.Common.{◌≡◌, ℕ, zero, suc, ◌+◌, ◌*◌, ◌/◌, Bool, true, false, not, ◌&&◌, ◌||◌, List, [], ◌∷◌, ◌++◌, length, take, drop, Option, Some, None}
use Rattle.std.specs.Prelude.{◌==◌, nat_lt, reverse, count_by, if◌then◌else◌}
use Rattle.qkd_base.specs.Name.{Name, has}
use Rattle.qkd_base.specs.declared.key_name.NameKind.TheVariants.{Key as KeyKind, Note as NoteKind}
use Rattle.qkd_base.specs.declared.lane.Lane.{Lane}
use Rattle.net_model.specs.declared.event.Event.{Event}
use Rattle.net_model.specs.declared.event.Event.TheVariants.{Block as BlockEvent, Fill, Feed, Plan, Heard, Enc, Dec, Status, Open as OpenEvent, Join, Get, Close, Show, Ledger, FillGroup, EncGroup, Note}
use Rattle.net_model.specs.declared.fact.Fact.{Fact}
use Rattle.net_model.specs.declared.fact.Fact.TheVariants.{Open, Stored}
use Rattle.net_model.specs.declared.payload.Payload.{Payload}
use Rattle.net_model.specs.declared.payload.Payload.TheVariants.{Data, Ack}
use Rattle.net_model.specs.declared.record.Record.{Record}
use Rattle.net_model.specs.declared.record.Record.TheVariants.{Block, Lease, Learned, Acked}
use Rattle.net_model.specs.declared.reply.Reply.{Reply}
use Rattle.net_model.specs.Table.{fact_at, name_of, route_of, is_secret, target, was_handed}
use Rattle.net_model.specs.Site.{Site, sender}
use Rattle.net_model.specs.Sealing.{Sealing}
use Rattle.net_model.specs.Routes.{route}
use Rattle.net_model.specs.View.{View}
use Rattle.net_model.specs.Decision.{Decision, Refuses, Does, fresh_name, knows, is_confirmed}
use Rattle.net_model.specs.Decide.{decide}
use Rattle.net_model.specs.Pools.{is_entitled, pool, unhanded, hand_to, new_keys, filled, fill, enc, dec, dec_fault, decs, status}
use Rattle.net_model.specs.Groups.{new_parts, new_groups, routes_to, unhanded_group, filled_group, is_entitled_group, fill_group, group, enc_group}
use Rattle.net_model.specs.Streams.{is_size, has_end, stream_here, has_joined, opened, open_stream, joins, join_stream, at_end, gives_chunk, chunk_at, get_chunk, close_stream, new_chunks, waiting, fed, fed_stream, feed, is_chunk_of}
use Rattle.net_model.specs.Relay.{owed, stored_note, receive_fact, receive_ack, receive}
use Rattle.net_model.specs.Step.{is_asked}
use Rattle.law_base.proofs.Base.{by_test}
use Rattle.law_invariant.specs.May.{is_plan}

-- The record concerns no lane.
abbrev pub SparesLanes : Record → Type 0
SparesLanes (Block link number bytes) = ⊥
SparesLanes (Lease lane end) = ⊥
SparesLanes _ = Unit {0}

abbrev pub AllSpare : List Record → Type 0
AllSpare [] = Unit {0}
AllSpare (r ∷ rs) = SparesLanes r × AllSpare rs

abbrev pub DecisionSpares : Decision → Type 0
DecisionSpares (Refuses reply) = Unit {0}
DecisionSpares (Does e) = AllSpare e.batch

-- Lemmas on batches.

both_spare : (rs qs : List Record) → AllSpare rs → AllSpare qs → AllSpare (rs ++ qs)
both_spare [] qs h k = k
both_spare (r ∷ rs) qs h k = (h.0, both_spare rs qs h.1 k)

hands_spare : (sae : ℕ) (ns : List Name) → AllSpare (hand_to sae ns)
hands_spare sae [] = tt
hands_spare sae (n ∷ ns) = (tt, hands_spare sae ns)

keys_spare : (v : View) (m t : ℕ) (nodes : List ℕ) (size : ℕ) (random : List ℕ) (more k : ℕ) → AllSpare (new_keys v m t nodes size random more k)
keys_spare v m t nodes size random more zero = tt
keys_spare v m t nodes size random more (suc k) = (tt, keys_spare v m t nodes size (drop size random) (more + 1) k)

chunks_spare : (v : View) (stream : Name) (nodes : List ℕ) (size next : ℕ) (random : List ℕ) (more k : ℕ) → AllSpare (new_chunks v stream nodes size next random more k)
chunks_spare v stream nodes size next random more zero = tt
chunks_spare v stream nodes size next random more (suc k) = (tt, chunks_spare v stream nodes size next (drop size random) (more + 1) k)

parts_spare : (v : View) (key : Name) (m : ℕ) (slaves : List (ℕ × List ℕ)) (bytes : List ℕ) (more : ℕ) → AllSpare (new_parts v key m slaves bytes more)
parts_spare v key m [] bytes more = tt
parts_spare v key m (t ∷ slaves) bytes more = (tt, parts_spare v key m slaves bytes (more + 1))

groups_spare : (v : View) (m : ℕ) (slaves : List (ℕ × List ℕ)) (size : ℕ) (random : List ℕ) (more k : ℕ) → AllSpare (new_groups v m slaves size random more k)
groups_spare v m slaves size random more zero = tt
groups_spare v m slaves size random more (suc k) =
    both_spare (new_parts v (fresh_name v KeyKind more) m slaves (take size random) (more + 1)) (new_groups v m slaves size (drop size random) (more + 1 + length slaves) k)
    (parts_spare v (fresh_name v KeyKind more) m slaves (take size random) (more + 1)) (groups_spare v m slaves size (drop size random) (more + 1 + length slaves) k)

-- Lemmas on frames that come.

note_spares : (v : View) (f : Fact) → AllSpare (stored_note v f)
note_spares v f = by_test AllSpare (is_secret f && (target f == v.me)) (Learned (Stored (fresh_name v NoteKind 0) (name_of f) (reverse (route_of f))) ∷ []) [] (λ e. (tt, tt)) (λ e. tt)

pub received_spares : (site : Site) (v : View) (l : Lane) (offset : ℕ) (p : Payload) → AllSpare (receive site v l offset p).batch
unfolding receive_fact receive_ack
received_spares site v l offset (Data f) = by_test AllSpare (not (knows v (name_of f))) (Learned f ∷ stored_note v f) [] (λ e. (tt, note_spares v f)) (λ e. tt)
received_spares site v l offset (Ack n) = by_test AllSpare (has (owed v (sender site l)) n) (Acked n ∷ []) [] (λ e. (tt, tt)) (λ e. tt)

-- Lemmas on decisions.

either : (b : Bool) (x y : Decision) → DecisionSpares x → DecisionSpares y → DecisionSpares (if b then x else y)
either b x y h k = by_test DecisionSpares b x y (λ e. h) (λ e. k)

module _ (s : Site) (up : ℕ → Bool) (v : View) where
  filled_spares : (m t bits count : ℕ) (random : List ℕ) (o : Option (List ℕ)) → DecisionSpares (filled v m t bits count random o)
  filled_spares m t bits count random None = tt
  filled_spares m t bits count random (Some nodes) = either (nat_lt 4096 (unhanded v m t bits + count)) _ _ tt (keys_spare v m t nodes (bits / 8) random 0 count)

  fill_spares : (m t bits count : ℕ) (random : List ℕ) → DecisionSpares (fill s up v m t bits count random)
  unfolding fill
  fill_spares m t bits count random = either (not (is_entitled s v m m t)) _ _ tt (filled_spares m t bits count random (route s up v.me (s.home t)))

  enc_spares : (m t n bits : ℕ) → DecisionSpares (enc s v m t n bits)
  unfolding enc
  enc_spares m t n bits =
      either (not (is_entitled s v m m t)) _ _ tt (either (nat_lt (length (pool v m t bits)) n) _ _ tt (hands_spare m (take n (pool v m t bits))))

  decs_spares : (m t : ℕ) (ns : List Name) (o : Option Reply) → DecisionSpares (decs v m t ns o)
  decs_spares m t ns (Some fault) = tt
  decs_spares m t ns None = hands_spare t ns

  dec_spares : (t m : ℕ) (ns : List Name) → DecisionSpares (dec s v t m ns)
  unfolding dec
  dec_spares t m ns = either (not (is_entitled s v t m t)) _ _ tt (decs_spares m t ns (dec_fault v m t [] ns))

  status_spares : (m t : ℕ) → DecisionSpares (status s v m t)
  unfolding status
  status_spares m t = either (not (is_entitled s v m m t)) _ _ tt tt

  fed_spares : (stream : Name) (source size count : ℕ) (random : List ℕ) (o : Option (List ℕ)) → DecisionSpares (fed v stream source size count random o)
  fed_spares stream source size count random None = tt
  fed_spares stream source size count random (Some nodes) =
      either (nat_lt 4096 (waiting v stream source + count)) _ _ tt (chunks_spare v stream nodes size (count_by (is_chunk_of stream) v.facts) random 0 count)

  fed_stream_spares : (count : ℕ) (random : List ℕ) (o : Option Fact) → DecisionSpares (fed_stream s up v count random o)
  fed_stream_spares count random (Some (Open stream source peer size nodes)) =
      either (has_end s v stream source) _ _ (fed_spares stream source size count random (route s up v.me (s.home peer))) tt
  fed_stream_spares count random _ = tt

  feed_spares : (stream : Name) (count : ℕ) (random : List ℕ) → DecisionSpares (feed s up v stream count random)
  unfolding feed
  feed_spares stream count random = fed_stream_spares count random (fact_at v.facts stream)

  filled_group_spares : (m : ℕ) (slaves : List ℕ) (bits count : ℕ) (random : List ℕ) (o : Option (List (ℕ × List ℕ))) → DecisionSpares (filled_group v m slaves bits count random o)
  filled_group_spares m slaves bits count random None = tt
  filled_group_spares m slaves bits count random (Some routes) =
      either (nat_lt 4096 (unhanded_group v m slaves bits + count)) _ _ tt (groups_spare v m routes (bits / 8) random 0 count)

  fill_group_spares : (m : ℕ) (slaves : List ℕ) (bits count : ℕ) (random : List ℕ) → DecisionSpares (fill_group s up v m slaves bits count random)
  unfolding fill_group
  fill_group_spares m slaves bits count random =
      either (not (is_entitled_group s v m slaves)) _ _ tt (filled_group_spares m slaves bits count random (routes_to s up v.me slaves))

  enc_group_spares : (m : ℕ) (slaves : List ℕ) (n bits : ℕ) → DecisionSpares (enc_group s v m slaves n bits)
  unfolding enc_group
  enc_group_spares m slaves n bits =
      either (not (is_entitled_group s v m slaves)) _ _ tt (either (nat_lt (length (group v m slaves bits)) n) _ _ tt (hands_spare m (take n (group v m slaves bits))))

  opened_spares : (source peer bits : ℕ) (o : Option (List ℕ)) → DecisionSpares (opened v source peer bits o)
  opened_spares source peer bits None = tt
  opened_spares source peer bits (Some nodes) = (tt, tt)

  open_spares : (source peer bits : ℕ) → DecisionSpares (open_stream s up v source peer bits)
  unfolding open_stream
  open_spares source peer bits =
      either (not (is_entitled s v source source peer)) _ _ tt (either (not (is_size bits)) _ _ tt (opened_spares source peer bits (route s up v.me (s.home peer))))

  joins_spares : (caller other bits : ℕ) (o : Option Fact) → DecisionSpares (joins s v caller other bits o)
  joins_spares caller other bits (Some (Open stream source peer size nodes)) =
      either ((caller == source) || ((caller == peer) && has_joined v stream)) _ _ tt
      (either (not ((caller == peer) && (other == source) && (s.home peer == v.me))) _ _ tt (either (not (8 * size == bits)) _ _ tt (tt, tt)))
  joins_spares caller other bits _ = tt

  join_spares : (caller other : ℕ) (stream : Name) (bits : ℕ) → DecisionSpares (join_stream s v caller other stream bits)
  unfolding join_stream
  join_spares caller other stream bits = joins_spares caller other bits (stream_here s v stream)

  end_spares : (caller : ℕ) (o : Option Fact) (next : Name → ℕ → Decision) → ((n : Name) (source : ℕ) → DecisionSpares (next n source)) → DecisionSpares (at_end s v caller o next)
  end_spares caller (Some (Open stream source peer size nodes)) next h =
      either ((s.home peer == v.me) && not (has_joined v stream)) _ _ tt
      (either (not (((caller == source) && (s.home source == v.me)) || ((caller == peer) && (s.home peer == v.me)))) _ _ tt (h stream source))
  end_spares caller _ next h = tt

  gives_spares : (caller index : ℕ) (at_source : Bool) (o : Option Fact) → DecisionSpares (gives_chunk v caller index at_source o)
  gives_spares caller index at_source None = tt
  gives_spares caller index at_source (Some f) =
      either (was_handed v.handed (name_of f) caller) _ _ tt (either (at_source && not (is_confirmed v (name_of f))) _ _ tt (tt, tt))

  get_spares : (caller : ℕ) (stream : Name) (index : ℕ) → DecisionSpares (get_chunk s v caller stream index)
  unfolding get_chunk
  get_spares caller stream index =
      end_spares caller (stream_here s v stream) _ (λ n source.
      either ((caller == source) && not (has_joined v n)) _ _ tt (gives_spares caller index (caller == source) (chunk_at v n index)))

  close_spares : (caller : ℕ) (stream : Name) → DecisionSpares (close_stream s v caller stream)
  unfolding close_stream
  close_spares caller stream = end_spares caller (stream_here s v stream) _ (λ n source. (tt, tt))

  pub asked_spares : (sealing : Sealing) (random : List ℕ) (event : Event) → is_asked event ≡ true → is_plan event ≡ false → DecisionSpares (decide s sealing up v random event)
  unfolding decide
  asked_spares sealing random (Fill m t bits count) asked other = fill_spares m t bits count random
  asked_spares sealing random (Feed stream count) asked other = feed_spares stream count random
  asked_spares sealing random (Enc m t n bits) asked other = enc_spares m t n bits
  asked_spares sealing random (Dec t m names) asked other = dec_spares t m names
  asked_spares sealing random (Status m t) asked other = status_spares m t
  asked_spares sealing random (OpenEvent source peer bits) asked other = open_spares source peer bits
  asked_spares sealing random (Join caller from stream bits) asked other = join_spares caller from stream bits
  asked_spares sealing random (Get caller stream index) asked other = get_spares caller stream index
  asked_spares sealing random (Close caller stream) asked other = close_spares caller stream
  asked_spares sealing random (Show name) asked other = tt
  asked_spares sealing random (Ledger lane) asked other = tt
  asked_spares sealing random (FillGroup m slaves bits count) asked other = fill_group_spares m slaves bits count random
  asked_spares sealing random (EncGroup m slaves n bits) asked other = enc_group_spares m slaves n bits
  asked_spares sealing random Plan asked other = cc
  asked_spares sealing random (BlockEvent link number bytes) asked other = cc
  asked_spares sealing random (Heard lane bytes) asked other = cc
  asked_spares sealing random (Note placings) asked other = cc
