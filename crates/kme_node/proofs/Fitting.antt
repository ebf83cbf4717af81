-- A decision on any event but a plan and a frame fits the manager.
use Rattle.std.proofs.Common.{◌≡◌, ℕ, ◌+◌, ◌*◌, ◌/◌, Bool, true, false, not, ◌&&◌, ◌||◌, List, [], ◌∷◌, length, take, refl, sym, subst, arith}
use Rattle.std.specs.Prelude.{nat_lt, ◌==◌, if◌then◌else◌, count_by, reverse, IfOk, Option, Some, None, Result, Ok, Err}
use Rattle.std.proofs.lemmas.Bool.Decides.{nat_tests}
use Rattle.qkd_base.specs.Name.{Name}
use Rattle.qkd_base.specs.declared.key_name.NameKind.TheVariants.{Key as KeyKind, Note as NoteKind}
use Rattle.net_model.specs.declared.event.Event.{Event}
use Rattle.net_model.specs.declared.event.Event.TheVariants as events
use Rattle.net_model.specs.declared.fact.Fact.{Fact}
use Rattle.net_model.specs.declared.fact.Fact.TheVariants.{Open, Joined}
use Rattle.net_model.specs.declared.placing.Placing.{Placing}
use Rattle.net_model.specs.declared.record.Record.TheVariants.{Block, Learned, Handed, Closed}
use Rattle.net_model.specs.declared.reply.Reply.{Reply}
use Rattle.net_model.specs.declared.reply.Reply.TheVariants.{Took, LinkFull, NotAllowed, PoolFull, UnknownStream, Few, Handed as HandedReply, MadeKeys, ReadyCount, Stream}
use Rattle.net_model.specs.Table.{name_of, bytes_of, fact_at, was_handed}
use Rattle.net_model.specs.Site.{Site}
use Rattle.net_model.specs.Routes.{route}
use Rattle.net_model.specs.Sealing.{Sealing, Forged}
use Rattle.declared_site.specs.SiteOf.{site_of}
use Rattle.kme_base.specs.Up.{AreUp}
use Rattle.route_table.specs.Layer.{bit_is_set}
use Rattle.net_model.specs.View.{View, Port, port_of, blocks_of}
use Rattle.net_model.specs.Decide.{decide}
use Rattle.net_model.specs.Decision.{Decision, Refuses, Does, answers, makes, fresh_name, is_confirmed}
use Rattle.net_model.specs.Events.{is_valid_event}
use Rattle.net_model.specs.Pools.{is_entitled, pool, unhanded, hand_to, with_bytes, new_keys, filled, fill, enc, dec, dec_fault, decs, status}
use Rattle.net_model.specs.Show.{counted_of}
use Rattle.net_model.specs.Streams.{is_size, only_status, has_end, stream_here, has_joined, opened, open_stream, joins, join_stream, at_end, gives_chunk, chunk_at, get_chunk, close_stream, new_chunks, waiting, fed, fed_stream, feed, is_chunk_of}
use Rattle.net_model.specs.Groups.{new_groups, routes_to, filled_group, is_entitled_group, fill_group, enc_group, group, group_bytes, unhanded_group}
use Rattle.kme_base.specs.Steps.{IsStep, placings_of}
use Rattle.kme_base.specs.declared.step.Step.{Step}
use Rattle.kme_node.specs.Holdings.{Holdings, view, HasBlocksAlone, HasOrdersWithin, Fits}
use Rattle.kme_node.proofs.Alone.{alone_handings, alone_keys, alone_chunks, alone_groups}
use Rattle.kme_node.proofs.Shown.{show_holds}

-- any event but a plan, whose fit depends on the ends of links, and a frame, which must be opened first
abbrev pub IsCalm : Event → Type 0
IsCalm events.Plan = ⊥
IsCalm (events.Heard lane bytes) = ⊥
IsCalm _ = Unit {0}

module _ (h : Holdings) where
  abbrev pub DecisionFits : Decision → Type 0
  DecisionFits (Refuses reply) = Unit {0}
  DecisionFits (Does effect) = HasBlocksAlone effect.batch × HasOrdersWithin h effect.reply

  -- if a decision fits the manager, so does the step that follows it
  pub step_fits : (v : View) (placings : List Placing) (d : Decision) (r : Result Step Reply) → DecisionFits d → IsStep v placings d r → IfOk r (Fits h)
  step_fits v placings (Refuses reply) (Ok s) fits is = absurd is
  step_fits v placings (Refuses reply) (Err q) fits is = tt
  step_fits v placings (Does e) (Ok s) fits is = record {
    blocks = subst HasBlocksAlone (sym is.batch) fits.0;
    orders = subst (HasOrdersWithin h) (sym is.reply) fits.1;
  }
  step_fits v placings (Does e) (Err q) fits is = tt

  test_fits : (t : Bool) (x y : Decision) → DecisionFits x → DecisionFits y → DecisionFits (if t then x else y)
  test_fits true x y a b = a
  test_fits false x y a b = b

  module _ (v : View) where
    filled_fits : (m s bits count : ℕ) (random : List ℕ) (o : Option (List ℕ)) → DecisionFits (filled v m s bits count random o)
    filled_fits m s bits count random None = tt
    filled_fits m s bits count random (Some nodes) =
        test_fits (nat_lt 4096 (unhanded v m s bits + count)) (Refuses PoolFull) (makes v (new_keys v m s nodes (bits / 8) random 0 count) (MadeKeys count (fresh_name v KeyKind 0))) tt
        (alone_keys v m s nodes (bits / 8) random 0 count, tt)

    fill_fits : (site : Site) (up : ℕ → Bool) (m s bits count : ℕ) (random : List ℕ) → DecisionFits (fill site up v m s bits count random)
    unfolding fill
    fill_fits site up m s bits count random =
        test_fits (not (is_entitled site v m m s)) (Refuses NotAllowed) (filled v m s bits count random (route site up v.me (site.home s))) tt
        (filled_fits m s bits count random (route site up v.me (site.home s)))

    handing_fits : (t : Bool) (ready : ℕ) (few : Bool) (m : ℕ) (ns : List Name) (pairs : List (Name × List ℕ)) →
        DecisionFits (if t then Refuses NotAllowed else if few then Refuses (Few ready) else makes v (hand_to m ns) (HandedReply pairs))
    handing_fits true ready few m ns pairs = tt
    handing_fits false ready true m ns pairs = tt
    handing_fits false ready false m ns pairs = (alone_handings m ns, tt)

    enc_fits : (site : Site) (m s n bits : ℕ) → DecisionFits (enc site v m s n bits)
    unfolding enc
    enc_fits site m s n bits =
        handing_fits (not (is_entitled site v m m s)) (length (pool v m s bits)) (nat_lt (length (pool v m s bits)) n) m (take n (pool v m s bits))
        (with_bytes v (take n (pool v m s bits)))

    decs_fits : (m s : ℕ) (ns : List Name) (o : Option Reply) → DecisionFits (decs v m s ns o)
    decs_fits m s ns None = (alone_handings s ns, tt)
    decs_fits m s ns (Some fault) = tt

    dec_fits : (site : Site) (s m : ℕ) (ns : List Name) → DecisionFits (dec site v s m ns)
    unfolding dec
    dec_fits site s m ns =
        test_fits (not (is_entitled site v s m s)) (Refuses NotAllowed) (decs v m s ns (dec_fault v m s [] ns)) tt (decs_fits m s ns (dec_fault v m s [] ns))

    status_fits : (site : Site) (m s : ℕ) → DecisionFits (status site v m s)
    unfolding status
    status_fits site m s =
        test_fits (not (is_entitled site v m m s)) (Refuses NotAllowed) (answers v (ReadyCount (length (pool v m s 256)))) tt (tt, tt)

    status_alone : (n : ℕ) → DecisionFits (answers v (only_status n))
    status_alone n = (tt, tt)

    opened_fits : (source peer bits : ℕ) (o : Option (List ℕ)) → DecisionFits (opened v source peer bits o)
    opened_fits source peer bits None = (tt, tt)
    opened_fits source peer bits (Some nodes) = (tt, tt)

    open_fits : (site : Site) (up : ℕ → Bool) (source peer bits : ℕ) → DecisionFits (open_stream site up v source peer bits)
    unfolding open_stream
    open_fits site up source peer bits =
        let last = opened_fits source peer bits (route site up v.me (site.home peer)) in
        test_fits (not (is_entitled site v source source peer)) (answers v (only_status 8))
        (if not (is_size bits) then answers v (only_status 7) else opened v source peer bits (route site up v.me (site.home peer))) (status_alone 8)
        (test_fits (not (is_size bits)) (answers v (only_status 7)) (opened v source peer bits (route site up v.me (site.home peer))) (status_alone 7) last)

    joins_fits : (site : Site) (caller other bits : ℕ) (o : Option Fact) → DecisionFits (joins site v caller other bits o)
    joins_fits site caller other bits (Some (Open stream source peer size nodes)) =
        let last : Decision = makes v (Learned (Joined (fresh_name v NoteKind 0) stream (reverse nodes)) ∷ []) (Stream 0 (Some stream) 0 []) in
        let third : Decision = if not (8 * size == bits) then answers v (only_status 7) else last in
        let second : Decision = if not ((caller == peer) && (other == source) && (site.home peer == v.me)) then answers v (only_status 8) else third in
        test_fits ((caller == source) || ((caller == peer) && has_joined v stream)) (answers v (only_status 5)) second (status_alone 5)
        (test_fits (not ((caller == peer) && (other == source) && (site.home peer == v.me))) (answers v (only_status 8)) third (status_alone 8)
        (test_fits (not (8 * size == bits)) (answers v (only_status 7)) last (status_alone 7) (tt, tt)))
    joins_fits site caller other bits _ = (tt, tt)

    join_fits : (site : Site) (caller other : ℕ) (stream : Name) (bits : ℕ) → DecisionFits (join_stream site v caller other stream bits)
    unfolding join_stream
    join_fits site caller other stream bits = joins_fits site caller other bits (stream_here site v stream)

    gives_fits : (caller index : ℕ) (at_source : Bool) (o : Option Fact) → DecisionFits (gives_chunk v caller index at_source o)
    gives_fits caller index at_source None = (tt, tt)
    gives_fits caller index at_source (Some f) =
        let last : Decision = makes v (Handed (name_of f) caller ∷ []) (Stream 0 None index (bytes_of f)) in
        test_fits (was_handed v.handed (name_of f) caller) (answers v (only_status 10)) (if at_source && not (is_confirmed v (name_of f)) then answers v (only_status 2) else last) (status_alone 10)
        (test_fits (at_source && not (is_confirmed v (name_of f))) (answers v (only_status 2)) last (status_alone 2) (tt, tt))

    end_fits : (site : Site) (caller : ℕ) (o : Option Fact) (then' : Name → ℕ → Decision) → ((s : Name) (source : ℕ) → DecisionFits (then' s source)) →
        DecisionFits (at_end site v caller o then')
    end_fits site caller (Some (Open stream source peer size nodes)) then' each =
        let here : Bool = ((caller == source) && (site.home source == v.me)) || ((caller == peer) && (site.home peer == v.me)) in
        test_fits ((site.home peer == v.me) && not (has_joined v stream)) (answers v (only_status 9)) (if not here then answers v (only_status 8) else then' stream source) (status_alone 9)
        (test_fits (not here) (answers v (only_status 8)) (then' stream source) (status_alone 8) (each stream source))
    end_fits site caller _ then' each = (tt, tt)

    get_fits : (site : Site) (caller : ℕ) (stream : Name) (index : ℕ) → DecisionFits (get_chunk site v caller stream index)
    unfolding get_chunk
    get_fits site caller stream index =
        end_fits site caller (stream_here site v stream) (λ s source. if (caller == source) && not (has_joined v s) then answers v (only_status 3)
        else gives_chunk v caller index (caller == source) (chunk_at v s index)) (λ s source.
        test_fits ((caller == source) && not (has_joined v s)) (answers v (only_status 3)) (gives_chunk v caller index (caller == source) (chunk_at v s index)) (status_alone 3)
        (gives_fits caller index (caller == source) (chunk_at v s index)))

    close_fits : (site : Site) (caller : ℕ) (stream : Name) → DecisionFits (close_stream site v caller stream)
    unfolding close_stream
    close_fits site caller stream = end_fits site caller (stream_here site v stream) (λ s source. makes v (Closed s caller ∷ []) (only_status 0)) (λ s source. (tt, tt))

    fed_fits : (stream : Name) (source size count : ℕ) (random : List ℕ) (o : Option (List ℕ)) → DecisionFits (fed v stream source size count random o)
    fed_fits stream source size count random None = tt
    fed_fits stream source size count random (Some nodes) =
        let next : ℕ = count_by (is_chunk_of stream) v.facts in
        test_fits (nat_lt 4096 (waiting v stream source + count)) (Refuses PoolFull)
        (makes v (new_chunks v stream nodes size next random 0 count) (MadeKeys count (fresh_name v KeyKind 0))) tt
        (alone_chunks v stream nodes size next random 0 count, tt)

    fed_stream_fits : (site : Site) (up : ℕ → Bool) (count : ℕ) (random : List ℕ) (o : Option Fact) → DecisionFits (fed_stream site up v count random o)
    fed_stream_fits site up count random (Some (Open stream source peer size nodes)) =
        test_fits (has_end site v stream source) (fed v stream source size count random (route site up v.me (site.home peer))) (Refuses UnknownStream)
        (fed_fits stream source size count random (route site up v.me (site.home peer))) tt
    fed_stream_fits site up count random _ = tt

    feed_fits : (site : Site) (up : ℕ → Bool) (stream : Name) (count : ℕ) (random : List ℕ) → DecisionFits (feed site up v stream count random)
    unfolding feed
    feed_fits site up stream count random = fed_stream_fits site up count random (fact_at v.facts stream)

    filled_group_fits : (m : ℕ) (slaves : List ℕ) (bits count : ℕ) (random : List ℕ) (o : Option (List (ℕ × List ℕ))) →
        DecisionFits (filled_group v m slaves bits count random o)
    filled_group_fits m slaves bits count random None = tt
    filled_group_fits m slaves bits count random (Some routes) =
        test_fits (nat_lt 4096 (unhanded_group v m slaves bits + count)) (Refuses PoolFull)
        (makes v (new_groups v m routes (bits / 8) random 0 count) (MadeKeys count (fresh_name v KeyKind 0))) tt
        (alone_groups v m routes (bits / 8) random 0 count, tt)

    fill_group_fits : (site : Site) (up : ℕ → Bool) (m : ℕ) (slaves : List ℕ) (bits count : ℕ) (random : List ℕ) →
        DecisionFits (fill_group site up v m slaves bits count random)
    unfolding fill_group
    fill_group_fits site up m slaves bits count random =
        test_fits (not (is_entitled_group site v m slaves)) (Refuses NotAllowed) (filled_group v m slaves bits count random (routes_to site up v.me slaves)) tt
        (filled_group_fits m slaves bits count random (routes_to site up v.me slaves))

    enc_group_fits : (site : Site) (m : ℕ) (slaves : List ℕ) (n bits : ℕ) → DecisionFits (enc_group site v m slaves n bits)
    unfolding enc_group
    enc_group_fits site m slaves n bits =
        let ready : List Name = group v m slaves bits in
        handing_fits (not (is_entitled_group site v m slaves)) (length ready) (nat_lt (length ready) n) m (take n ready) (group_bytes v (take n ready))

    ledger_fits : (o : Option Port) → HasOrdersWithin h (counted_of o)
    ledger_fits None = tt
    ledger_fits (Some p) = tt

  pub event_fits : (site : Site) (frames : Sealing) (up : ℕ → Bool) (v : View) (random : List ℕ) (e : Event) → IsCalm e → is_valid_event site v.me e ≡ true → DecisionFits (decide site frames up v random e)
  unfolding decide is_valid_event
  event_fits site frames up v random (events.Block link number bytes) calm valid =
      let size : length bytes ≡ 1024 = grind (arith, nat_tests) in
      test_fits (blocks_of (port_of v link) == 1024) (Refuses LinkFull) (makes v (Block link number bytes ∷ []) (Took number)) tt ((size, refl), tt)
  event_fits site frames up v random (events.Fill m s bits count) calm valid = fill_fits v site up m s bits count random
  event_fits site frames up v random (events.Feed stream count) calm valid = feed_fits v site up stream count random
  event_fits site frames up v random events.Plan calm valid = absurd calm
  event_fits site frames up v random (events.Heard lane bytes) calm valid = absurd calm
  event_fits site frames up v random (events.Enc m s n bits) calm valid = enc_fits v site m s n bits
  event_fits site frames up v random (events.Dec s m names) calm valid = dec_fits v site s m names
  event_fits site frames up v random (events.Status m s) calm valid = status_fits v site m s
  event_fits site frames up v random (events.Open source peer bits) calm valid = open_fits v site up source peer bits
  event_fits site frames up v random (events.Join caller other stream bits) calm valid = join_fits v site caller other stream bits
  event_fits site frames up v random (events.Get caller stream index) calm valid = get_fits v site caller stream index
  event_fits site frames up v random (events.Close caller stream) calm valid = close_fits v site caller stream
  event_fits site frames up v random (events.Show name) calm valid = (tt, show_holds (HasOrdersWithin h) (λ held bytes. tt) v name)
  event_fits site frames up v random (events.Ledger lane) calm valid = (tt, ledger_fits v (port_of v lane.link))
  event_fits site frames up v random (events.FillGroup m slaves bits count) calm valid = fill_group_fits v site up m slaves bits count random
  event_fits site frames up v random (events.EncGroup m slaves n bits) calm valid = enc_group_fits v site m slaves n bits
  event_fits site frames up v random (events.Note placings) calm valid = (tt, tt)

  -- the decision doesn't depend on how frames are sealed or which links are up, so any choice will do
  pub answer_fits : (up : ℕ) (random : List ℕ) (e : Event) → IsCalm e → is_valid_event (site_of h.site) (view h).me e ≡ true → (r : Result Step Reply) →
      ((frames : Sealing) (is_up : ℕ → Bool) → AreUp up is_up → IsStep (view h) (placings_of e) (decide (site_of h.site) frames is_up (view h) random e) r) → IfOk r (Fits h)
  answer_fits up random e calm valid r decided =
      let frames : Sealing = record { seal = λ l bytes offset p. []; unseal = λ l bytes octets. Forged 0 } in
      step_fits (view h) (placings_of e) (decide (site_of h.site) frames (bit_is_set up) (view h) random e) r
      (event_fits (site_of h.site) frames (bit_is_set up) (view h) random e calm valid) (decided frames (bit_is_set up) (λ link below. refl))
