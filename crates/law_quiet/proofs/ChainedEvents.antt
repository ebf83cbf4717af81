-- Each decision of a manager teaches only facts whose routes go over links.
use Rattle.std.proofs.Common.{◌≡◌, ℕ, zero, suc, ◌+◌, ◌*◌, ◌/◌, Bool, true, false, not, ◌&&◌, ◌||◌, List, [], ◌∷◌, map, length, take, drop, refl, sym, subst, Option, Some, None}
use Rattle.std.specs.Prelude.{◌==◌, nat_lt, count_by, reverse, if◌then◌else◌}
use Rattle.std.specs.List.{cons_option, AllByRecursion}
use Rattle.qkd_base.specs.Name.{Name, has}
use Rattle.qkd_base.specs.declared.key_name.NameKind.TheVariants.{Key as KeyKind, Stream as StreamKind, Note as NoteKind}
use Rattle.qkd_base.specs.declared.lane.Lane.{Lane}
use Rattle.net_model.specs.declared.event.Event.{Event}
use Rattle.net_model.specs.declared.event.Event.TheVariants as events
use Rattle.net_model.specs.declared.fact.Fact.{Fact}
use Rattle.net_model.specs.declared.fact.Fact.TheVariants.{Key, Chunk, Stored, Open, Joined, Part}
use Rattle.net_model.specs.declared.payload.Payload.{Payload}
use Rattle.net_model.specs.declared.payload.Payload.TheVariants.{Data, Ack}
use Rattle.net_model.specs.declared.record.Record.{Record}
use Rattle.net_model.specs.declared.record.Record.TheVariants.{Lease, Learned, Acked, Handed, Closed}
use Rattle.net_model.specs.declared.reply.Reply.{Reply}
use Rattle.net_model.specs.declared.reply.Reply.TheVariants.{Stream}
use Rattle.net_model.specs.Table.{name_of, route_of, bytes_of, fact_at, facts_of, is_secret, target, was_handed}
use Rattle.net_model.specs.Site.{Site, sender}
use Rattle.net_model.specs.World.{Network, World}
use Rattle.net_model.specs.View.{View}
use Rattle.net_model.specs.Needed.{masked_fact, masked, view_of}
use Rattle.net_model.specs.Routes.{route}
use Rattle.net_model.specs.Decision.{Decision, Refuses, Does, fresh_name, knows, is_confirmed, makes, answers}
use Rattle.net_model.specs.Pools.{is_entitled, unhanded, new_keys, filled, fill, hand_to, pool, enc, decs, dec_fault, dec, status}
use Rattle.net_model.specs.Groups.{with_route, routes_to, new_parts, new_groups, unhanded_group, filled_group, is_entitled_group, fill_group, group, enc_group}
use Rattle.net_model.specs.Streams.{only_status, is_size, has_end, open_end, stream_here, has_joined, opened, open_stream, joins, join_stream, at_end, gives_chunk, get_chunk, chunk_at, close_stream, new_chunks, waiting, fed, fed_stream, feed, is_chunk_of}
use Rattle.net_model.specs.Plan.{plan}
use Rattle.net_model.specs.Relay.{owed, stored_note, receive_fact, receive_ack, receive}
use Rattle.net_model.specs.Sealing.{Sealing}
use Rattle.net_model.specs.Decide.{decide}
use Rattle.net_model.specs.Step.{is_asked}
use Rattle.law_base.proofs.Base.{by_test}
use Rattle.law_base.proofs.Lists.{all_both, all_at, found_at}
use Rattle.law_base.proofs.Masked.{masked_same, route_blind}
use Rattle.law_quiet.specs.Chains.{IsChain, GoesOverLinks, TeachesChains}
use Rattle.law_quiet.proofs.Chains.{route_chain, reverse_chain}
use Rattle.law_quiet.proofs.IdlePlans.{IsLease, only_leases}

-- What a node sees of the table goes over links if all of the table does.

module _ (s : Site) (facts : List Fact) (all : AllByRecursion (GoesOverLinks s) facts) where
  found_all : (ns : List Name) → AllByRecursion (GoesOverLinks s) (facts_of facts ns)
  found_all [] = tt
  found_all (n ∷ ns) = one (fact_at facts n) refl (found_all ns)
    where
      one : (o : Option Fact) → fact_at facts n ≡ o → AllByRecursion (GoesOverLinks s) (facts_of facts ns) → AllByRecursion (GoesOverLinks s) (cons_option o (facts_of facts ns))
      one None is rest = rest
      one (Some f) is rest = let there = found_at _ facts f is in (all_at (GoesOverLinks s) facts there.0 f all there.1, rest)

  masked_all : (bare : View) (fs : List Fact) → AllByRecursion (GoesOverLinks s) fs → AllByRecursion (GoesOverLinks s) (map (masked_fact bare) fs)
  masked_all bare [] h = tt
  masked_all bare (f ∷ fs) h = (subst (IsChain s) (sym (masked_same route_of route_blind bare f)) h.0, masked_all bare fs h.1)

pub seen_all : (net : Network) (w : World) (v : ℕ) → AllByRecursion (GoesOverLinks net.site) w.durable.facts → AllByRecursion (GoesOverLinks net.site) (view_of net w v).facts
unfolding view_of masked
seen_all net w v all = masked_all net.site w.durable.facts all _ (facts_of w.durable.facts (w.durable.known v)) (found_all net.site w.durable.facts all (w.durable.known v))

-- Each record of the batch is such a one.
abbrev pub AllRecords : (Record → Type 0) → Decision → Type 0
AllRecords P (Refuses reply) = Unit {0}
AllRecords P (Does e) = AllByRecursion P e.batch

-- Events teach facts whose routes go over links, hand out and close, and plans take leases.
pub record IsOfEvents (s : Site) (P : Record → Type 0) : Type 0 where
  pub learned : (f : Fact) → GoesOverLinks s f → P (Learned f)
  pub handed : (n : Name) (sae : ℕ) → P (Handed n sae)
  pub closed : (n : Name) (sae : ℕ) → P (Closed n sae)
  pub lease : (l : Lane) (end : ℕ) → P (Lease l end)

module _ (s : Site) (P : Record → Type 0) (may : IsOfEvents s P) where
  abbrev Teaches : List Record → Type 0
  Teaches rs = AllByRecursion P rs

  abbrev DecidesChains : Decision → Type 0
  DecidesChains x = AllRecords P x

  abbrev Routed : Option (List ℕ) → Type 0
  Routed o = (r : List ℕ) → o ≡ Some r → IsChain s r

  hands : (sae : ℕ) (ns : List Name) → Teaches (hand_to sae ns)
  hands sae [] = tt
  hands sae (n ∷ ns) = (may.handed n sae, hands sae ns)

  module _ (v : View) (known : AllByRecursion (GoesOverLinks s) v.facts) where
    known_route : (n : Name) (f : Fact) → fact_at v.facts n ≡ Some f → GoesOverLinks s f
    known_route n f at = let there = found_at _ v.facts f at in all_at (GoesOverLinks s) v.facts there.0 f known there.1

    keys : (m t : ℕ) (nodes : List ℕ) (size : ℕ) (random : List ℕ) (more count : ℕ) → IsChain s nodes → Teaches (new_keys v m t nodes size random more count)
    keys m t nodes size random more zero chain = tt
    keys m t nodes size random more (suc k) chain = (may.learned (Key (fresh_name v KeyKind more) m t nodes (take size random)) chain, keys m t nodes size (drop size random) (more + 1) k chain)

    chunks : (stream : Name) (nodes : List ℕ) (size next : ℕ) (random : List ℕ) (more count : ℕ) → IsChain s nodes → Teaches (new_chunks v stream nodes size next random more count)
    chunks stream nodes size next random more zero chain = tt
    chunks stream nodes size next random more (suc k) chain = (may.learned (Chunk (fresh_name v KeyKind more) stream (next + more) nodes (take size random)) chain, chunks stream nodes size next (drop size random) (more + 1) k chain)

    abbrev AreRouted : List (ℕ × List ℕ) → Type 0
    AreRouted rs = AllByRecursion (λ (r : ℕ × List ℕ). IsChain s r.1) rs

    parts : (key : Name) (m : ℕ) (slaves : List (ℕ × List ℕ)) (bytes : List ℕ) (more : ℕ) → AreRouted slaves → Teaches (new_parts v key m slaves bytes more)
    parts key m [] bytes more h = tt
    parts key m (slave ∷ slaves) bytes more h = (may.learned (Part (fresh_name v KeyKind more) key m slave.0 slave.1 bytes) h.0, parts key m slaves bytes (more + 1) h.1)

    groups : (m : ℕ) (slaves : List (ℕ × List ℕ)) (size : ℕ) (random : List ℕ) (more count : ℕ) → AreRouted slaves → Teaches (new_groups v m slaves size random more count)
    groups m slaves size random more zero h = tt
    groups m slaves size random more (suc k) h =
        all_both P _ (new_groups v m slaves size (drop size random) (more + 1 + length slaves) k) (parts _ m slaves (take size random) (more + 1) h)
        (groups m slaves size (drop size random) (more + 1 + length slaves) k h)

    either : (b : Bool) (x y : Decision) → DecidesChains x → DecidesChains y → DecidesChains (if b then x else y)
    either b x y h k = by_test DecidesChains b x y (λ t. h) (λ t. k)

    -- Keys.

    filled_chains : (m t bits count : ℕ) (random : List ℕ) (o : Option (List ℕ)) → Routed o → DecidesChains (filled v m t bits count random o)
    filled_chains m t bits count random None h = tt
    filled_chains m t bits count random (Some nodes) h =
        either (nat_lt 4096 (unhanded v m t bits + count)) _ _ tt (keys m t nodes (bits / 8) random 0 count (h nodes refl))

    fill_chains : (up : ℕ → Bool) (m t bits count : ℕ) (random : List ℕ) → DecidesChains (fill s up v m t bits count random)
    unfolding fill
    fill_chains up m t bits count random =
        either (not (is_entitled s v m m t)) _ _ tt (filled_chains m t bits count random (route s up v.me (s.home t)) (route_chain s up v.me (s.home t)))

    enc_chains : (m t n bits : ℕ) → DecidesChains (enc s v m t n bits)
    unfolding enc
    enc_chains m t n bits = either (not (is_entitled s v m m t)) _ _ tt (either (nat_lt (length (pool v m t bits)) n) _ _ tt (hands m _))

    decs_chains : (m t : ℕ) (ns : List Name) (o : Option Reply) → DecidesChains (decs v m t ns o)
    decs_chains m t ns (Some fault) = tt
    decs_chains m t ns None = hands t ns

    dec_chains : (t m : ℕ) (ns : List Name) → DecidesChains (dec s v t m ns)
    unfolding dec
    dec_chains t m ns = either (not (is_entitled s v t m t)) _ _ tt (decs_chains m t ns (dec_fault v m t [] ns))

    status_chains : (m t : ℕ) → DecidesChains (status s v m t)
    unfolding status
    status_chains m t = either (not (is_entitled s v m m t)) _ _ tt tt

    -- Group keys.

    two_routed : (t : ℕ) (o : Option (List ℕ)) (p : Option (List (ℕ × List ℕ))) → Routed o → ((rs : List (ℕ × List ℕ)) → p ≡ Some rs → AreRouted rs) →
        (rs : List (ℕ × List ℕ)) → with_route t o p ≡ Some rs → AreRouted rs
    two_routed t None p h k rs e = cc
    two_routed t (Some r) None h k rs e = cc
    two_routed t (Some r) (Some rest) h k rs e = let is : (t, r) ∷ rest ≡ rs = cc in subst AreRouted is (h r refl, k rest refl)

    all_routed : (up : ℕ → Bool) (ts : List ℕ) (rs : List (ℕ × List ℕ)) → routes_to s up v.me ts ≡ Some rs → AreRouted rs
    all_routed up [] rs e = let is : [] ≡ rs = cc in subst AreRouted is tt
    all_routed up (t ∷ ts) rs e = two_routed t (route s up v.me (s.home t)) (routes_to s up v.me ts) (route_chain s up v.me (s.home t)) (all_routed up ts) rs e

    filled_group_chains : (m : ℕ) (slaves : List ℕ) (bits count : ℕ) (random : List ℕ) (o : Option (List (ℕ × List ℕ))) →
        ((rs : List (ℕ × List ℕ)) → o ≡ Some rs → AreRouted rs) → DecidesChains (filled_group v m slaves bits count random o)
    filled_group_chains m slaves bits count random None h = tt
    filled_group_chains m slaves bits count random (Some rs) h =
        either (nat_lt 4096 (unhanded_group v m slaves bits + count)) _ _ tt (groups m rs (bits / 8) random 0 count (h rs refl))

    fill_group_chains : (up : ℕ → Bool) (m : ℕ) (slaves : List ℕ) (bits count : ℕ) (random : List ℕ) → DecidesChains (fill_group s up v m slaves bits count random)
    unfolding fill_group
    fill_group_chains up m slaves bits count random =
        either (not (is_entitled_group s v m slaves)) _ _ tt (filled_group_chains m slaves bits count random (routes_to s up v.me slaves) (all_routed up slaves))

    enc_group_chains : (m : ℕ) (slaves : List ℕ) (n bits : ℕ) → DecidesChains (enc_group s v m slaves n bits)
    unfolding enc_group
    enc_group_chains m slaves n bits = either (not (is_entitled_group s v m slaves)) _ _ tt (either (nat_lt (length (group v m slaves bits)) n) _ _ tt (hands m _))

    -- Streams.

    opened_chains : (source peer bits : ℕ) (o : Option (List ℕ)) → Routed o → DecidesChains (opened v source peer bits o)
    opened_chains source peer bits None h = tt
    opened_chains source peer bits (Some nodes) h = (may.learned (Open (fresh_name v StreamKind 0) source peer (bits / 8) nodes) (h nodes refl), tt)

    open_chains : (up : ℕ → Bool) (source peer bits : ℕ) → DecidesChains (open_stream s up v source peer bits)
    unfolding open_stream
    open_chains up source peer bits =
        either (not (is_entitled s v source source peer)) _ _ tt
        (either (not (is_size bits)) _ _ tt (opened_chains source peer bits (route s up v.me (s.home peer)) (route_chain s up v.me (s.home peer))))

    -- A stream whose end is here is one that is known.
    end_known : (o : Option Fact) → ((f : Fact) → o ≡ Some f → GoesOverLinks s f) → (f : Fact) → open_end s v o ≡ Some f → GoesOverLinks s f
    end_known None h f e = cc
    end_known (Some (Open stream source peer size nodes)) h f e =
        elim (has_end s v stream source || has_end s v stream peer) as (λ t. (if t then Some (Open stream source peer size nodes) else None) ≡ Some f → GoesOverLinks s f) [
          | true ↦ λ k. h f k
          | false ↦ λ k. cc
        ] e
    end_known (Some (Key name master slave nodes bytes)) h f e = cc
    end_known (Some (Chunk name stream index nodes bytes)) h f e = cc
    end_known (Some (Stored note about nodes)) h f e = cc
    end_known (Some (Joined note about nodes)) h f e = cc
    end_known (Some (Part name key master slave nodes bytes)) h f e = cc

    here_known : (n : Name) (f : Fact) → stream_here s v n ≡ Some f → GoesOverLinks s f
    here_known n f e = end_known (fact_at v.facts n) (known_route n) f e

    joins_chains : (caller other bits : ℕ) (o : Option Fact) → ((f : Fact) → o ≡ Some f → GoesOverLinks s f) → DecidesChains (joins s v caller other bits o)
    joins_chains caller other bits (Some (Open stream source peer size nodes)) h =
        either ((caller == source) || ((caller == peer) && has_joined v stream)) _ _ tt
        (either (not ((caller == peer) && (other == source) && (s.home peer == v.me))) _ _ tt
        (either (not (8 * size == bits)) _ _ tt
        (may.learned (Joined (fresh_name v NoteKind 0) stream (reverse nodes)) (reverse_chain s nodes (h (Open stream source peer size nodes) refl)), tt)))
    joins_chains caller other bits _ h = tt

    join_chains : (caller other : ℕ) (stream : Name) (bits : ℕ) → DecidesChains (join_stream s v caller other stream bits)
    unfolding join_stream
    join_chains caller other stream bits = joins_chains caller other bits (stream_here s v stream) (here_known stream)

    end_chains : (caller : ℕ) (o : Option Fact) (then' : Name → ℕ → Decision) → ((n : Name) (source : ℕ) → DecidesChains (then' n source)) → DecidesChains (at_end s v caller o then')
    end_chains caller (Some (Open stream source peer size nodes)) then' h =
        either ((s.home peer == v.me) && not (has_joined v stream)) _ _ tt
        (either (not (((caller == source) && (s.home source == v.me)) || ((caller == peer) && (s.home peer == v.me)))) _ _ tt (h stream source))
    end_chains caller _ then' h = tt

    gives_chains : (caller index : ℕ) (at_source : Bool) (o : Option Fact) → DecidesChains (gives_chunk v caller index at_source o)
    gives_chains caller index at_source None = tt
    gives_chains caller index at_source (Some f) =
        let gives : Decision = makes v (hand_to caller (name_of f ∷ [])) (Stream 0 None index (bytes_of f)) in
        either (was_handed v.handed (name_of f) caller) (answers v (only_status 10)) _ tt
        (either (at_source && not (is_confirmed v (name_of f))) (answers v (only_status 2)) gives tt (hands caller (name_of f ∷ [])))

    get_chains : (caller : ℕ) (stream : Name) (index : ℕ) → DecidesChains (get_chunk s v caller stream index)
    unfolding get_chunk
    get_chains caller stream index =
        end_chains caller (stream_here s v stream) _ (λ n source. either ((caller == source) && not (has_joined v n)) (answers v (only_status 3)) _ tt (gives_chains caller index (caller == source) (chunk_at v n index)))

    close_chains : (caller : ℕ) (stream : Name) → DecidesChains (close_stream s v caller stream)
    unfolding close_stream
    close_chains caller stream = end_chains caller (stream_here s v stream) _ (λ n source. (may.closed n caller, tt))

    fed_chains : (stream : Name) (source size count : ℕ) (random : List ℕ) (o : Option (List ℕ)) → Routed o → DecidesChains (fed v stream source size count random o)
    fed_chains stream source size count random None h = tt
    fed_chains stream source size count random (Some nodes) h =
        either (nat_lt 4096 (waiting v stream source + count)) _ _ tt (chunks stream nodes size (count_by (is_chunk_of stream) v.facts) random 0 count (h nodes refl))

    fed_stream_chains : (up : ℕ → Bool) (count : ℕ) (random : List ℕ) (o : Option Fact) → DecidesChains (fed_stream s up v count random o)
    fed_stream_chains up count random (Some (Open stream source peer size nodes)) =
        either (has_end s v stream source) _ _ (fed_chains stream source size count random (route s up v.me (s.home peer)) (route_chain s up v.me (s.home peer))) tt
    fed_stream_chains up count random _ = tt

    feed_chains : (up : ℕ → Bool) (stream : Name) (count : ℕ) (random : List ℕ) → DecidesChains (feed s up v stream count random)
    unfolding feed
    feed_chains up stream count random = fed_stream_chains up count random (fact_at v.facts stream)

    -- Plans have leases alone.

    leases : (rs : List Record) → AllByRecursion IsLease rs → Teaches rs
    leases [] h = tt
    leases (r ∷ rs) h = (one r h.0, leases rs h.1)
      where
        one : (r : Record) → IsLease r → P r
        one (Lease l end) k = may.lease l end
        one _ k = absurd k

    plan_chains : (up : ℕ → Bool) → Teaches (plan s up v).batch
    unfolding plan
    plan_chains up = leases _ (only_leases s v _)

    -- Each event of a manager.
    pub event_chains : (frames : Sealing) (up : ℕ → Bool) (random : List ℕ) (event : Event) → is_asked event ≡ true → DecidesChains (decide s frames up v random event)
    unfolding decide
    event_chains frames up random (events.Fill m t bits count) asked = fill_chains up m t bits count random
    event_chains frames up random (events.Feed stream count) asked = feed_chains up stream count random
    event_chains frames up random events.Plan asked = plan_chains up
    event_chains frames up random (events.Enc m t n bits) asked = enc_chains m t n bits
    event_chains frames up random (events.Dec t m names) asked = dec_chains t m names
    event_chains frames up random (events.Status m t) asked = status_chains m t
    event_chains frames up random (events.Open source peer bits) asked = open_chains up source peer bits
    event_chains frames up random (events.Join caller other stream bits) asked = join_chains caller other stream bits
    event_chains frames up random (events.Get caller stream index) asked = get_chains caller stream index
    event_chains frames up random (events.Close caller stream) asked = close_chains caller stream
    event_chains frames up random (events.Show name) asked = tt
    event_chains frames up random (events.Ledger lane) asked = tt
    event_chains frames up random (events.FillGroup m slaves bits count) asked = fill_group_chains up m slaves bits count random
    event_chains frames up random (events.EncGroup m slaves n bits) asked = enc_group_chains m slaves n bits
    event_chains frames up random _ asked = cc

-- A frame that comes.

pub receives : (s : Site) (v : View) (l : Lane) (offset : ℕ) (p : Payload) → ((f : Fact) → p ≡ Data f → GoesOverLinks s f) → AllByRecursion (TeachesChains s) (receive s v l offset p).batch
unfolding receive_fact receive_ack
receives s v l offset (Data f) h =
    by_test (AllByRecursion (TeachesChains s)) (not (knows v (name_of f))) (Learned f ∷ stored_note v f) []
    (λ t. (
      h f refl,
      by_test (AllByRecursion (TeachesChains s)) (is_secret f && (target f == v.me)) (Learned (Stored (fresh_name v NoteKind 0) (name_of f) (reverse (route_of f))) ∷ []) []
          (λ k. (reverse_chain s (route_of f) (h f refl), tt)) (λ k. tt),
    )) (λ t. tt)
receives s v l offset (Ack n) h = by_test (AllByRecursion (TeachesChains s)) (has (owed v (sender s l)) n) (Acked n ∷ []) [] (λ t. (tt, tt)) (λ t. tt)
