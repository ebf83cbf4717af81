-- The batches that a manager decides on fit its view.
use Rattle.std.proofs.Common.{ℕ, ◌+◌, ◌*◌, ◌/◌, Bool, true, false, not, ◌&&◌, ◌||◌, List, [], ◌∷◌, ◌++◌, length, zero, suc, take, drop, Option, Some, None}
use Rattle.std.specs.Prelude.{nat_lt, ◌==◌, if◌then◌else◌, count_by, reverse}
use Rattle.qkd_base.specs.Name.{Name}
use Rattle.qkd_base.specs.declared.key_name.NameKind.TheVariants.{Key as KeyKind, Note as NoteKind}
use Rattle.net_model.specs.declared.fact.Fact.{Fact}
use Rattle.net_model.specs.declared.fact.Fact.TheVariants.{Open, Joined}
use Rattle.net_model.specs.declared.record.Record.{Record}
use Rattle.net_model.specs.declared.record.Record.TheVariants.{Learned, Handed}
use Rattle.net_model.specs.declared.reply.Reply.{Reply}
use Rattle.net_model.specs.declared.reply.Reply.TheVariants.{NotAllowed, PoolFull, UnknownStream, Few, Handed as HandedReply, MadeKeys, ReadyCount, Stream}
use Rattle.net_model.specs.Table.{name_of, bytes_of, fact_at, was_handed}
use Rattle.net_model.specs.Site.{Site}
use Rattle.net_model.specs.Routes.{route}
use Rattle.net_model.specs.View.{View}
use Rattle.net_model.specs.Decision.{Decision, Refuses, Does, answers, makes, fresh_name, is_confirmed}
use Rattle.net_model.specs.Pools.{is_entitled, pool, unhanded, hand_to, with_bytes, new_keys, filled, fill, enc, dec, dec_fault, decs, status}
use Rattle.net_model.specs.Streams.{is_size, only_status, has_end, stream_here, has_joined, opened, open_stream, joins, join_stream, at_end, gives_chunk, chunk_at, get_chunk, new_chunks, waiting, fed, fed_stream, feed, is_chunk_of}
use Rattle.net_model.specs.Groups.{new_parts, new_groups, routes_to, filled_group, is_entitled_group, fill_group, enc_group, group, group_bytes, unhanded_group}
use Rattle.net_model.specs.Fold.{view_record}
use Rattle.law_recovery.proofs.Batches.{AllFitHere}

abbrev pub DecisionFits : View → Decision → Type 0
DecisionFits v (Refuses reply) = Unit {0}
DecisionFits v (Does effect) = AllFitHere v effect.batch

-- The batch has only learned facts, or only handings.

abbrev IsLearned : Record → Type 0
IsLearned (Learned f) = Unit {0}
IsLearned _ = ⊥

abbrev AreLearned : List Record → Type 0
AreLearned [] = Unit {0}
AreLearned (r ∷ rs) = IsLearned r × AreLearned rs

learned_fit : (rs : List Record) → AreLearned rs → (a : View) → AllFitHere a rs
learned_fit [] h a = tt
learned_fit (Learned f ∷ rs) h a = (tt, learned_fit rs h.1 (view_record (Learned f) a))
learned_fit (_ ∷ rs) h a = absurd h.0

both_learned : (rs qs : List Record) → AreLearned rs → AreLearned qs → AreLearned (rs ++ qs)
both_learned [] qs h k = k
both_learned (r ∷ rs) qs h k = (h.0, both_learned rs qs h.1 k)

hand_fit : (sae : ℕ) (ns : List Name) (a : View) → AllFitHere a (hand_to sae ns)
hand_fit sae [] a = tt
hand_fit sae (n ∷ ns) a = (tt, hand_fit sae ns (view_record (Handed n sae) a))

keys_learned : (v : View) (m s : ℕ) (nodes : List ℕ) (size : ℕ) (random : List ℕ) (more k : ℕ) → AreLearned (new_keys v m s nodes size random more k)
keys_learned v m s nodes size random more zero = tt
keys_learned v m s nodes size random more (suc k) = (tt, keys_learned v m s nodes size (drop size random) (more + 1) k)

chunks_learned : (v : View) (stream : Name) (nodes : List ℕ) (size next : ℕ) (random : List ℕ) (more k : ℕ) → AreLearned (new_chunks v stream nodes size next random more k)
chunks_learned v stream nodes size next random more zero = tt
chunks_learned v stream nodes size next random more (suc k) = (tt, chunks_learned v stream nodes size next (drop size random) (more + 1) k)

parts_learned : (v : View) (key : Name) (m : ℕ) (slaves : List (ℕ × List ℕ)) (bytes : List ℕ) (more : ℕ) → AreLearned (new_parts v key m slaves bytes more)
parts_learned v key m [] bytes more = tt
parts_learned v key m (s ∷ slaves) bytes more = (tt, parts_learned v key m slaves bytes (more + 1))

groups_learned : (v : View) (m : ℕ) (slaves : List (ℕ × List ℕ)) (size : ℕ) (random : List ℕ) (more k : ℕ) → AreLearned (new_groups v m slaves size random more k)
groups_learned v m slaves size random more zero = tt
groups_learned v m slaves size random more (suc k) =
    both_learned (new_parts v (fresh_name v KeyKind more) m slaves (take size random) (more + 1)) (new_groups v m slaves size (drop size random) (more + 1 + length slaves) k)
    (parts_learned v (fresh_name v KeyKind more) m slaves (take size random) (more + 1)) (groups_learned v m slaves size (drop size random) (more + 1 + length slaves) k)

-- Lemmas on decisions.

test_fits : (v : View) (t : Bool) (x y : Decision) → DecisionFits v x → DecisionFits v y → DecisionFits v (if t then x else y)
test_fits v true x y h k = h
test_fits v false x y h k = k

filled_fits : (v : View) (m s bits count : ℕ) (random : List ℕ) (o : Option (List ℕ)) → DecisionFits v (filled v m s bits count random o)
filled_fits v m s bits count random None = tt
filled_fits v m s bits count random (Some nodes) =
    test_fits v (nat_lt 4096 (unhanded v m s bits + count)) (Refuses PoolFull) (makes v (new_keys v m s nodes (bits / 8) random 0 count) (MadeKeys count (fresh_name v KeyKind 0))) tt
    (learned_fit (new_keys v m s nodes (bits / 8) random 0 count) (keys_learned v m s nodes (bits / 8) random 0 count) v)

pub fill_fits : (site : Site) (up : ℕ → Bool) (v : View) (m s bits count : ℕ) (random : List ℕ) → DecisionFits v (fill site up v m s bits count random)
unfolding fill
fill_fits site up v m s bits count random =
    test_fits v (not (is_entitled site v m m s)) (Refuses NotAllowed) (filled v m s bits count random (route site up v.me (site.home s))) tt
    (filled_fits v m s bits count random (route site up v.me (site.home s)))

handing_fits : (v : View) (t : Bool) (ready : ℕ) (few : Bool) (m : ℕ) (ns : List Name) (reply : Reply) →
    DecisionFits v (if t then Refuses NotAllowed else if few then Refuses (Few ready) else makes v (hand_to m ns) reply)
handing_fits v true ready few m ns reply = tt
handing_fits v false ready true m ns reply = tt
handing_fits v false ready false m ns reply = hand_fit m ns v

pub enc_fits : (site : Site) (v : View) (m s n bits : ℕ) → DecisionFits v (enc site v m s n bits)
unfolding enc
enc_fits site v m s n bits =
    handing_fits v (not (is_entitled site v m m s)) (length (pool v m s bits)) (nat_lt (length (pool v m s bits)) n) m (take n (pool v m s bits))
    (HandedReply (with_bytes v (take n (pool v m s bits))))

decs_fits : (v : View) (m s : ℕ) (ns : List Name) (o : Option Reply) → DecisionFits v (decs v m s ns o)
decs_fits v m s ns None = hand_fit s ns v
decs_fits v m s ns (Some fault) = tt

pub dec_fits : (site : Site) (v : View) (s m : ℕ) (ns : List Name) → DecisionFits v (dec site v s m ns)
unfolding dec
dec_fits site v s m ns =
    test_fits v (not (is_entitled site v s m s)) (Refuses NotAllowed) (decs v m s ns (dec_fault v m s [] ns)) tt (decs_fits v m s ns (dec_fault v m s [] ns))

pub status_fits : (site : Site) (v : View) (m s : ℕ) → DecisionFits v (status site v m s)
unfolding status
status_fits site v m s =
    test_fits v (not (is_entitled site v m m s)) (Refuses NotAllowed) (answers v (ReadyCount (length (pool v m s 256)))) tt tt

opened_fits : (v : View) (source peer bits : ℕ) (o : Option (List ℕ)) → DecisionFits v (opened v source peer bits o)
opened_fits v source peer bits None = tt
opened_fits v source peer bits (Some nodes) = (tt, tt)

pub open_fits : (site : Site) (up : ℕ → Bool) (v : View) (source peer bits : ℕ) → DecisionFits v (open_stream site up v source peer bits)
unfolding open_stream
open_fits site up v source peer bits =
    let last = opened_fits v source peer bits (route site up v.me (site.home peer)) in
    test_fits v (not (is_entitled site v source source peer)) (answers v (only_status 8))
    (if not (is_size bits) then answers v (only_status 7) else opened v source peer bits (route site up v.me (site.home peer))) tt
    (test_fits v (not (is_size bits)) (answers v (only_status 7)) (opened v source peer bits (route site up v.me (site.home peer))) tt last)

joins_fits : (site : Site) (v : View) (caller other bits : ℕ) (o : Option Fact) → DecisionFits v (joins site v caller other bits o)
joins_fits site v caller other bits (Some (Open stream source peer size nodes)) =
    let last : Decision = makes v (Learned (Joined (fresh_name v NoteKind 0) stream (reverse nodes)) ∷ []) (Stream 0 (Some stream) 0 []) in
    let third : Decision = if not (8 * size == bits) then answers v (only_status 7) else last in
    let second : Decision = if not ((caller == peer) && (other == source) && (site.home peer == v.me)) then answers v (only_status 8) else third in
    test_fits v ((caller == source) || ((caller == peer) && has_joined v stream)) (answers v (only_status 5)) second tt
    (test_fits v (not ((caller == peer) && (other == source) && (site.home peer == v.me))) (answers v (only_status 8)) third tt
    (test_fits v (not (8 * size == bits)) (answers v (only_status 7)) last tt (tt, tt)))
joins_fits site v caller other bits _ = tt

pub join_fits : (site : Site) (v : View) (caller other : ℕ) (stream : Name) (bits : ℕ) → DecisionFits v (join_stream site v caller other stream bits)
unfolding join_stream
join_fits site v caller other stream bits = joins_fits site v caller other bits (stream_here site v stream)

gives_fits : (v : View) (caller index : ℕ) (at_source : Bool) (o : Option Fact) → DecisionFits v (gives_chunk v caller index at_source o)
gives_fits v caller index at_source None = tt
gives_fits v caller index at_source (Some f) =
    let last : Decision = makes v (Handed (name_of f) caller ∷ []) (Stream 0 None index (bytes_of f)) in
    test_fits v (was_handed v.handed (name_of f) caller) (answers v (only_status 10)) (if at_source && not (is_confirmed v (name_of f)) then answers v (only_status 2) else last) tt
    (test_fits v (at_source && not (is_confirmed v (name_of f))) (answers v (only_status 2)) last tt (tt, tt))

end_fits : (site : Site) (v : View) (caller : ℕ) (o : Option Fact) (then' : Name → ℕ → Decision) → ((s : Name) (source : ℕ) → DecisionFits v (then' s source)) →
    DecisionFits v (at_end site v caller o then')
end_fits site v caller (Some (Open stream source peer size nodes)) then' h =
    let here : Bool = ((caller == source) && (site.home source == v.me)) || ((caller == peer) && (site.home peer == v.me)) in
    test_fits v ((site.home peer == v.me) && not (has_joined v stream)) (answers v (only_status 9)) (if not here then answers v (only_status 8) else then' stream source) tt
    (test_fits v (not here) (answers v (only_status 8)) (then' stream source) tt (h stream source))
end_fits site v caller _ then' h = tt

pub get_fits : (site : Site) (v : View) (caller : ℕ) (stream : Name) (index : ℕ) → DecisionFits v (get_chunk site v caller stream index)
unfolding get_chunk
get_fits site v caller stream index =
    end_fits site v caller (stream_here site v stream) (λ s source. if (caller == source) && not (has_joined v s) then answers v (only_status 3)
    else gives_chunk v caller index (caller == source) (chunk_at v s index)) (λ s source.
    test_fits v ((caller == source) && not (has_joined v s)) (answers v (only_status 3)) (gives_chunk v caller index (caller == source) (chunk_at v s index)) tt
    (gives_fits v caller index (caller == source) (chunk_at v s index)))

fed_fits : (v : View) (stream : Name) (source size count : ℕ) (random : List ℕ) (o : Option (List ℕ)) → DecisionFits v (fed v stream source size count random o)
fed_fits v stream source size count random None = tt
fed_fits v stream source size count random (Some nodes) =
    let next : ℕ = count_by (is_chunk_of stream) v.facts in
    test_fits v (nat_lt 4096 (waiting v stream source + count)) (Refuses PoolFull)
    (makes v (new_chunks v stream nodes size next random 0 count) (MadeKeys count (fresh_name v KeyKind 0))) tt
    (learned_fit (new_chunks v stream nodes size next random 0 count) (chunks_learned v stream nodes size next random 0 count) v)

fed_stream_fits : (site : Site) (up : ℕ → Bool) (v : View) (count : ℕ) (random : List ℕ) (o : Option Fact) → DecisionFits v (fed_stream site up v count random o)
fed_stream_fits site up v count random (Some (Open stream source peer size nodes)) =
    test_fits v (has_end site v stream source) (fed v stream source size count random (route site up v.me (site.home peer))) (Refuses UnknownStream)
    (fed_fits v stream source size count random (route site up v.me (site.home peer))) tt
fed_stream_fits site up v count random _ = tt

pub feed_fits : (site : Site) (up : ℕ → Bool) (v : View) (stream : Name) (count : ℕ) (random : List ℕ) → DecisionFits v (feed site up v stream count random)
unfolding feed
feed_fits site up v stream count random = fed_stream_fits site up v count random (fact_at v.facts stream)

filled_group_fits : (v : View) (m : ℕ) (slaves : List ℕ) (bits count : ℕ) (random : List ℕ) (o : Option (List (ℕ × List ℕ))) →
    DecisionFits v (filled_group v m slaves bits count random o)
filled_group_fits v m slaves bits count random None = tt
filled_group_fits v m slaves bits count random (Some ways) =
    test_fits v (nat_lt 4096 (unhanded_group v m slaves bits + count)) (Refuses PoolFull)
    (makes v (new_groups v m ways (bits / 8) random 0 count) (MadeKeys count (fresh_name v KeyKind 0))) tt
    (learned_fit (new_groups v m ways (bits / 8) random 0 count) (groups_learned v m ways (bits / 8) random 0 count) v)

pub fill_group_fits : (site : Site) (up : ℕ → Bool) (v : View) (m : ℕ) (slaves : List ℕ) (bits count : ℕ) (random : List ℕ) →
    DecisionFits v (fill_group site up v m slaves bits count random)
unfolding fill_group
fill_group_fits site up v m slaves bits count random =
    test_fits v (not (is_entitled_group site v m slaves)) (Refuses NotAllowed) (filled_group v m slaves bits count random (routes_to site up v.me slaves)) tt
    (filled_group_fits v m slaves bits count random (routes_to site up v.me slaves))

pub enc_group_fits : (site : Site) (v : View) (m : ℕ) (slaves : List ℕ) (n bits : ℕ) → DecisionFits v (enc_group site v m slaves n bits)
unfolding enc_group
enc_group_fits site v m slaves n bits =
    let ready : List Name = group v m slaves bits in
    handing_fits v (not (is_entitled_group site v m slaves)) (length ready) (nat_lt (length ready) n) m (take n ready) (HandedReply (group_bytes v (take n ready)))
