-- Only the reply to a plan orders frames.
use Rattle.std.proofs.Common.{◌≡◌, ℕ, ◌+◌, ◌*◌, Bool, true, false, not, ◌&&◌, ◌||◌, List, [], ◌∷◌, ◌++◌, length, refl, Option, Some, None}
use Rattle.std.specs.Prelude.{◌==◌, nat_lt, is_some, slice_get, if◌then◌else◌}
use Rattle.std.specs.List.{list_all}
use Rattle.qkd_base.specs.Name.{Name, has}
use Rattle.qkd_base.specs.declared.lane.Lane.{Lane}
use Rattle.net_model.specs.declared.event.Event.{Event}
use Rattle.net_model.specs.declared.event.Event.TheVariants.{Block as BlockEvent, Fill, Feed, Plan, Heard, Enc, Dec, Status, Open as OpenEvent, Join, Get, Close, Show, Ledger, FillGroup, EncGroup, Note}
use Rattle.net_model.specs.declared.fact.Fact.{Fact}
use Rattle.net_model.specs.declared.fact.Fact.TheVariants.{Open}
use Rattle.net_model.specs.declared.payload.Payload.{Payload}
use Rattle.net_model.specs.declared.payload.Payload.TheVariants.{Data, Ack}
use Rattle.net_model.specs.declared.reply.Reply.{Reply}
use Rattle.net_model.specs.Journal.{journal_limit, added_len, is_nil}
use Rattle.net_model.specs.OctetSequence.{has_octets, octets_from}
use Rattle.net_model.specs.Item.{need, payload}
use Rattle.net_model.specs.Table.{name_of, was_handed, fact_at}
use Rattle.net_model.specs.Site.{Site, receiver}
use Rattle.net_model.specs.Sealing.{Sealing}
use Rattle.net_model.specs.Routes.{route}
use Rattle.net_model.specs.View.{View}
use Rattle.net_model.specs.Needed.{view_of}
use Rattle.net_model.specs.World.{Network, World, Allocation, received_there}
use Rattle.net_model.specs.Decision.{Decision, Refuses, Does, Effect, is_confirmed}
use Rattle.net_model.specs.Decide.{decide, random_need}
use Rattle.net_model.specs.Pools.{is_entitled, pool, unhanded, for_slave, filled, fill, enc, dec, dec_fault, decs, status}
use Rattle.net_model.specs.Groups.{routes_to, unhanded_group, filled_group, is_entitled_group, fill_group, group, enc_group}
use Rattle.net_model.specs.Streams.{is_size, has_end, stream_here, has_joined, opened, open_stream, joins, join_stream, at_end, gives_chunk, chunk_at, get_chunk, close_stream, waiting, fed, fed_stream, feed}
use Rattle.net_model.specs.Relay.{receive_fact, receive_ack}
use Rattle.net_model.specs.Action.{Environment, Outcome, Replies, is_no_memory, is_entropy_fault, is_io_fault}
use Rattle.net_model.specs.Handle.{is_numbered, perform, resolve, handle}
use Rattle.net_model.specs.Frames.{receive_item, deliver_frame, deliver_number, deliver}
use Rattle.net_model.specs.BlockOrder.{is_block_event}
use Rattle.run_model.specs.Works.{wanted_put}
use Rattle.law_base.proofs.Base.{by_test}
use Rattle.law_invariant.specs.May.{is_plan}

-- The outcome orders no frame.

abbrev WantsNone : Outcome → Type 0
WantsNone out = wanted_put out ≡ []

abbrev pub DecisionWantsNone : Decision → Type 0
DecisionWantsNone (Refuses reply) = WantsNone (Replies reply)
DecisionWantsNone (Does e) = WantsNone (Replies e.reply)

either : (b : Bool) (x y : Decision) → DecisionWantsNone x → DecisionWantsNone y → DecisionWantsNone (if b then x else y)
either b x y h k = by_test DecisionWantsNone b x y (λ e. h) (λ e. k)

abbrev FaultWantsNone : Option Reply → Type 0
FaultWantsNone None = Unit {0}
FaultWantsNone (Some reply) = WantsNone (Replies reply)

module _ (s : Site) (up : ℕ → Bool) (v : View) where
  filled_none : (m t bits count : ℕ) (random : List ℕ) (o : Option (List ℕ)) → DecisionWantsNone (filled v m t bits count random o)
  filled_none m t bits count random None = refl
  filled_none m t bits count random (Some nodes) = either (nat_lt 4096 (unhanded v m t bits + count)) _ _ refl refl

  fill_none : (m t bits count : ℕ) (random : List ℕ) → DecisionWantsNone (fill s up v m t bits count random)
  unfolding fill
  fill_none m t bits count random = either (not (is_entitled s v m m t)) _ _ refl (filled_none m t bits count random (route s up v.me (s.home t)))

  enc_none : (m t n bits : ℕ) → DecisionWantsNone (enc s v m t n bits)
  unfolding enc
  enc_none m t n bits = either (not (is_entitled s v m m t)) _ _ refl (either (nat_lt (length (pool v m t bits)) n) _ _ refl refl)

  fault_none : (m t : ℕ) (before ns : List Name) → FaultWantsNone (dec_fault v m t before ns)
  fault_none m t before [] = tt
  fault_none m t before (n ∷ ns) =
      by_test FaultWantsNone (not (is_some (for_slave v m t n))) _ _ (λ e. refl)
      (λ e. by_test FaultWantsNone (has before n) _ _ (λ e. refl)
      (λ e. by_test FaultWantsNone (was_handed v.handed n t) _ _ (λ e. refl) (λ e. fault_none m t (before ++ n ∷ []) ns)))

  decs_none : (m t : ℕ) (ns : List Name) (o : Option Reply) → FaultWantsNone o → DecisionWantsNone (decs v m t ns o)
  decs_none m t ns (Some fault) h = h
  decs_none m t ns None h = refl

  dec_none : (t m : ℕ) (ns : List Name) → DecisionWantsNone (dec s v t m ns)
  unfolding dec
  dec_none t m ns = either (not (is_entitled s v t m t)) _ _ refl (decs_none m t ns (dec_fault v m t [] ns) (fault_none m t [] ns))

  status_none : (m t : ℕ) → DecisionWantsNone (status s v m t)
  unfolding status
  status_none m t = either (not (is_entitled s v m m t)) _ _ refl refl

  fed_none : (stream : Name) (source size count : ℕ) (random : List ℕ) (o : Option (List ℕ)) → DecisionWantsNone (fed v stream source size count random o)
  fed_none stream source size count random None = refl
  fed_none stream source size count random (Some nodes) = either (nat_lt 4096 (waiting v stream source + count)) _ _ refl refl

  fed_stream_none : (count : ℕ) (random : List ℕ) (o : Option Fact) → DecisionWantsNone (fed_stream s up v count random o)
  fed_stream_none count random (Some (Open stream source peer size nodes)) =
      either (has_end s v stream source) _ _ (fed_none stream source size count random (route s up v.me (s.home peer))) refl
  fed_stream_none count random _ = refl

  feed_none : (stream : Name) (count : ℕ) (random : List ℕ) → DecisionWantsNone (feed s up v stream count random)
  unfolding feed
  feed_none stream count random = fed_stream_none count random (fact_at v.facts stream)

  filled_group_none : (m : ℕ) (slaves : List ℕ) (bits count : ℕ) (random : List ℕ) (o : Option (List (ℕ × List ℕ))) →
      DecisionWantsNone (filled_group v m slaves bits count random o)
  filled_group_none m slaves bits count random None = refl
  filled_group_none m slaves bits count random (Some routes) = either (nat_lt 4096 (unhanded_group v m slaves bits + count)) _ _ refl refl

  fill_group_none : (m : ℕ) (slaves : List ℕ) (bits count : ℕ) (random : List ℕ) → DecisionWantsNone (fill_group s up v m slaves bits count random)
  unfolding fill_group
  fill_group_none m slaves bits count random =
      either (not (is_entitled_group s v m slaves)) _ _ refl (filled_group_none m slaves bits count random (routes_to s up v.me slaves))

  enc_group_none : (m : ℕ) (slaves : List ℕ) (n bits : ℕ) → DecisionWantsNone (enc_group s v m slaves n bits)
  unfolding enc_group
  enc_group_none m slaves n bits = either (not (is_entitled_group s v m slaves)) _ _ refl (either (nat_lt (length (group v m slaves bits)) n) _ _ refl refl)

  opened_none : (source peer bits : ℕ) (o : Option (List ℕ)) → DecisionWantsNone (opened v source peer bits o)
  opened_none source peer bits None = refl
  opened_none source peer bits (Some nodes) = refl

  open_none : (source peer bits : ℕ) → DecisionWantsNone (open_stream s up v source peer bits)
  unfolding open_stream
  open_none source peer bits =
      either (not (is_entitled s v source source peer)) _ _ refl (either (not (is_size bits)) _ _ refl (opened_none source peer bits (route s up v.me (s.home peer))))

  joins_none : (caller other bits : ℕ) (o : Option Fact) → DecisionWantsNone (joins s v caller other bits o)
  joins_none caller other bits (Some (Open stream source peer size nodes)) =
      either ((caller == source) || ((caller == peer) && has_joined v stream)) _ _ refl
      (either (not ((caller == peer) && (other == source) && (s.home peer == v.me))) _ _ refl (either (not (8 * size == bits)) _ _ refl refl))
  joins_none caller other bits _ = refl

  join_none : (caller other : ℕ) (stream : Name) (bits : ℕ) → DecisionWantsNone (join_stream s v caller other stream bits)
  unfolding join_stream
  join_none caller other stream bits = joins_none caller other bits (stream_here s v stream)

  end_none : (caller : ℕ) (o : Option Fact) (next : Name → ℕ → Decision) → ((n : Name) (source : ℕ) → DecisionWantsNone (next n source)) → DecisionWantsNone (at_end s v caller o next)
  end_none caller (Some (Open stream source peer size nodes)) next h =
      either ((s.home peer == v.me) && not (has_joined v stream)) _ _ refl
      (either (not (((caller == source) && (s.home source == v.me)) || ((caller == peer) && (s.home peer == v.me)))) _ _ refl (h stream source))
  end_none caller _ next h = refl

  gives_none : (caller index : ℕ) (at_source : Bool) (o : Option Fact) → DecisionWantsNone (gives_chunk v caller index at_source o)
  gives_none caller index at_source None = refl
  gives_none caller index at_source (Some f) =
      either (was_handed v.handed (name_of f) caller) _ _ refl (either (at_source && not (is_confirmed v (name_of f))) _ _ refl refl)

  get_none : (caller : ℕ) (stream : Name) (index : ℕ) → DecisionWantsNone (get_chunk s v caller stream index)
  unfolding get_chunk
  get_none caller stream index =
      end_none caller (stream_here s v stream) _ (λ n source.
      either ((caller == source) && not (has_joined v n)) _ _ refl (gives_none caller index (caller == source) (chunk_at v n index)))

  close_none : (caller : ℕ) (stream : Name) → DecisionWantsNone (close_stream s v caller stream)
  unfolding close_stream
  close_none caller stream = end_none caller (stream_here s v stream) _ (λ n source. refl)

  decided_none : (sealing : Sealing) (random : List ℕ) (event : Event) → is_block_event event ≡ true → is_plan event ≡ false → DecisionWantsNone (decide s sealing up v random event)
  unfolding decide
  decided_none sealing random (Fill m t bits count) may other = fill_none m t bits count random
  decided_none sealing random (Feed stream count) may other = feed_none stream count random
  decided_none sealing random (Enc m t n bits) may other = enc_none m t n bits
  decided_none sealing random (Dec t m names) may other = dec_none t m names
  decided_none sealing random (Status m t) may other = status_none m t
  decided_none sealing random (OpenEvent source peer bits) may other = open_none source peer bits
  decided_none sealing random (Join caller from stream bits) may other = join_none caller from stream bits
  decided_none sealing random (Get caller stream index) may other = get_none caller stream index
  decided_none sealing random (Close caller stream) may other = close_none caller stream
  decided_none sealing random (FillGroup m slaves bits count) may other = fill_group_none m slaves bits count random
  decided_none sealing random (EncGroup m slaves n bits) may other = enc_group_none m slaves n bits
  decided_none sealing random Plan may other = cc
  decided_none sealing random (Show name) may other = cc
  decided_none sealing random (Ledger lane) may other = cc
  decided_none sealing random (BlockEvent link number bytes) may other = cc
  decided_none sealing random (Heard lane bytes) may other = cc
  decided_none sealing random (Note placings) may other = cc

-- The outcome of each other action orders no frame.

module _ (net : Network) (w : World) where
  abbrev AnswersNone : World × Outcome → Type 0
  AnswersNone r = WantsNone r.1

  performed_none : (v octets : ℕ) (environment : Environment) (e : Effect) → WantsNone (Replies e.reply) → AnswersNone (perform net w v octets environment e)
  unfolding perform
  performed_none v octets environment e h =
      by_test AnswersNone (is_no_memory environment || not (list_all is_numbered e.batch)) _ _ (λ t. refl)
      (λ t. by_test AnswersNone (nat_lt journal_limit ((w.journal v).length' + added_len (w.journal v).version e.batch)) _ _ (λ t. refl)
      (λ t. by_test AnswersNone (nat_lt 0 octets && (not (has_octets (net.entropy v) (w.drawn v + octets)) || is_entropy_fault environment)) _ _ (λ t. refl)
      (λ t. by_test AnswersNone (is_io_fault environment && not (is_nil e.batch)) _ _ (λ t. refl) (λ t. h))))

  resolved_none : (v octets : ℕ) (environment : Environment) (d : Decision) → DecisionWantsNone d → AnswersNone (resolve net w v octets environment d)
  resolved_none v octets environment (Refuses reply) h = h
  resolved_none v octets environment (Does e) h = performed_none v octets environment e h

  pub event_none : (v : ℕ) (event : Event) (environment : Environment) → is_block_event event ≡ true → is_plan event ≡ false → AnswersNone (handle net w v event environment)
  unfolding handle
  event_none v event environment may other =
      let octets : ℕ = random_need (view_of net w v) event in
      by_test AnswersNone (w.up v) _ _
      (λ t. resolved_none v octets environment _
      (decided_none net.site w.link_up (view_of net w v) net.sealing (octets_from (net.entropy v).octet (w.drawn v) octets) event may other))
      (λ t. refl)

  received_none : (l : Lane) (offset : ℕ) (environment : Environment) (o : Option Payload) → AnswersNone (receive_item net w l offset environment o)
  unfolding receive_fact receive_ack
  received_none l offset environment None = refl
  received_none l offset environment (Some (Data f)) = performed_none (receiver net.site l) 0 environment _ refl
  received_none l offset environment (Some (Ack n)) = performed_none (receiver net.site l) 0 environment _ refl

  frame_none : (l : Lane) (environment : Environment) (o : Option Allocation) → AnswersNone (deliver_frame net w l environment o)
  unfolding deliver_frame
  frame_none l environment None = refl
  frame_none l environment (Some a) =
      by_test AnswersNone (not (w.up (receiver net.site l))) _ _ (λ t. refl)
      (λ t. by_test AnswersNone (nat_lt (received_there w.durable l) (a.offset + need w.durable.facts a.item)) _ _ (λ t. refl)
      (λ t. received_none l a.offset environment (payload w.durable.facts a.item)))

  number_none : (l : Lane) (environment : Environment) (o : Option ℕ) → AnswersNone (deliver_number net w l environment o)
  number_none l environment None = refl
  number_none l environment (Some j) = frame_none l environment (slice_get (w.frames l) j)

  pub delivery_none : (l : Lane) (number : ℕ) (environment : Environment) → AnswersNone (deliver net w l number environment)
  unfolding deliver
  delivery_none l number environment = number_none l environment (slice_get (w.wire l) number)
