-- The bytes of new keys, chunks and parts are octets that were drawn for their event.
use Rattle.std.proofs.Common.{◌≡◌, ℕ, zero, suc, ◌+◌, ◌*◌, ◌/◌, ◌≤◌, Bool, true, false, ◌&&◌, ◌||◌, not, List, [], ◌∷◌, ◌++◌, length, take, drop, sym, ◌∙◌, ap, subst, arith, Option, Some, None, inl, inr}
use Rattle.std.specs.Prelude.{◌==◌, nat_lt, slice_get, filter, reverse, if◌then◌else◌}
use Rattle.std.specs.List.{flat_map}
use Rattle.qkd_base.specs.Name.{Name}
use Rattle.qkd_base.specs.declared.key_name.NameKind.TheVariants.{Key as KeyKind, Stream as StreamKind, Note as NoteKind}
use Rattle.net_model.specs.declared.event.Event.{Event}
use Rattle.net_model.specs.declared.event.Event.TheVariants.{Block, Fill, Feed, Plan, Heard, Enc, Dec, Status, Open, Join, Get, Close, Show, Ledger, FillGroup, EncGroup, Note}
use Rattle.net_model.specs.declared.fact.Fact.{Fact}
use Rattle.net_model.specs.declared.fact.Fact.TheVariants.{Key, Chunk, Part, Open as Open', Joined as Joined'}
use Rattle.net_model.specs.declared.record.Record.{Record}
use Rattle.net_model.specs.declared.record.Record.TheVariants.{Lease, Learned, Handed, Closed}
use Rattle.net_model.specs.declared.reply.Reply.{Reply}
use Rattle.net_model.specs.Table.{bytes_of, is_secret, fact_at, was_handed, name_of}
use Rattle.net_model.specs.OctetSequence.{octets_from}
use Rattle.net_model.specs.Site.{Site}
use Rattle.net_model.specs.Sealing.{Sealing}
use Rattle.net_model.specs.View.{View, Port, received_of}
use Rattle.net_model.specs.Decision.{Decision, Refuses, Does, last_count, fresh_name, is_confirmed}
use Rattle.net_model.specs.Decide.{decide, random_need}
use Rattle.net_model.specs.Plan.{end_on, raise, leases_on, plan}
use Rattle.net_model.specs.Routes.{route}
use Rattle.net_model.specs.Pools.{is_entitled, new_keys, filled, fill, pool, hand_to, enc, dec, decs, dec_fault, status, unhanded}
use Rattle.net_model.specs.Groups.{new_parts, new_groups, filled_group, fill_group, enc_group, group, is_entitled_group, routes_to, unhanded_group}
use Rattle.net_model.specs.Streams.{opened, open_stream, is_size, joins, join_stream, stream_here, at_end, has_joined, gives_chunk, chunk_at, get_chunk, close_stream, new_chunks, fed, fed_stream, has_end, waiting, feed, chunk_size}
use Rattle.net_model.specs.Step.{is_asked}
use Rattle.law_base.proofs.Base.{by_test, get_cases}
use Rattle.law_invariant.proofs.Supply.{supply}
use Rattle.law_invariant.specs.HandedName.{handed_name}
use Rattle.law_invariant.proofs.Cuts.{DecidesCut, fill_cut, feed_cut, fill_group_cut}

-- The bytes are octets of the sequence from some place on, below a limit.
pub record IsCut (octet : ℕ → ℕ) (limit : ℕ) (bytes : List ℕ) : Type 0 where
  pub place : ℕ
  pub is : bytes ≡ octets_from octet place (length bytes)
  pub within : place + length bytes ≤ limit

module _ (octet : ℕ → ℕ) (limit : ℕ) where
  -- The bytes of each new secret fact of the batch are such octets.
  abbrev pub Draws : List Record → Type 0
  Draws batch = (n : ℕ) (f : Fact) → slice_get batch n ≡ Some (Learned f) → is_secret f ≡ true → IsCut octet limit (bytes_of f)

  abbrev pub DecidesDrawn : Decision → Type 0
  DecidesDrawn (Refuses reply) = Unit {0}
  DecidesDrawn (Does e) = Draws e.batch

  none_drawn : Draws []
  none_drawn n f h secret = cc

  one_drawn : (r : Record) (batch : List Record) → ((f : Fact) → r ≡ Learned f → is_secret f ≡ true → IsCut octet limit (bytes_of f)) → Draws batch → Draws (r ∷ batch)
  one_drawn r batch h k zero f e secret = let is : r ≡ Learned f = cc in h f is secret
  one_drawn r batch h k (suc n) f e secret = k n f e secret

  fact_drawn : (g : Fact) (batch : List Record) → (is_secret g ≡ true → IsCut octet limit (bytes_of g)) → Draws batch → Draws (Learned g ∷ batch)
  fact_drawn g batch h k =
      one_drawn (Learned g) batch (λ f e secret. let is : g ≡ f = cc in subst (λ (x : Fact). IsCut octet limit (bytes_of x)) is (h (ap is_secret is ∙ secret))) k

  both_drawn : (xs ys : List Record) → Draws xs → Draws ys → Draws (xs ++ ys)
  both_drawn xs ys h k n f e secret = elim (get_cases xs ys n) [
    | inl (within, same) ↦ h n f (sym same ∙ e) secret
    | inr (m, at, same) ↦ k m f (sym same ∙ e) secret
  ]

  hands_drawn : (sae : ℕ) (ns : List Name) → Draws (hand_to sae ns)
  hands_drawn sae [] = none_drawn
  hands_drawn sae (m ∷ ns) = one_drawn (Handed m sae) (hand_to sae ns) (λ f e secret. cc) (hands_drawn sae ns)

  either : (b : Bool) (x y : Decision) → (b ≡ true → DecidesDrawn x) → (b ≡ false → DecidesDrawn y) → DecidesDrawn (if b then x else y)
  either b x y = by_test DecidesDrawn b x y

  leases_drawn : (s : Site) (see : View) (ports : List Port) → Draws (flat_map (leases_on s see) ports)
  leases_drawn s see [] = none_drawn
  leases_drawn s see (p ∷ ps) =
      both_drawn (leases_on s see p) (flat_map (leases_on s see) ps)
      (by_test Draws (nat_lt p.lease (end_on s see p)) (Lease p.lane (raise (end_on s see p) (received_of p)) ∷ []) [] (λ e. one_drawn _ [] (λ f is secret. cc) none_drawn) (λ e. none_drawn))
      (leases_drawn s see ps)

  plan_drawn : (s : Site) (up : ℕ → Bool) (see : View) → Draws (plan s up see).batch
  unfolding plan
  plan_drawn s up see = leases_drawn s see (filter (λ (p : Port). up p.lane.link) see.ports)

  -- Lemmas on decisions.

  module _ (s : Site) (up : ℕ → Bool) (see : View) where
    -- Other events make no secret fact.

    enc_drawn : (m t n bits : ℕ) → DecidesDrawn (enc s see m t n bits)
    unfolding enc
    enc_drawn m t n bits =
        either (not (is_entitled s see m m t)) _ _ (λ e. tt) (λ e. either (nat_lt (length (pool see m t bits)) n) _ _ (λ e2. tt) (λ e2. hands_drawn m (take n (pool see m t bits))))

    decs_drawn : (m t : ℕ) (ns : List Name) (o : Option Reply) → DecidesDrawn (decs see m t ns o)
    decs_drawn m t ns (Some fault) = tt
    decs_drawn m t ns None = hands_drawn t ns

    dec_drawn : (t m : ℕ) (ns : List Name) → DecidesDrawn (dec s see t m ns)
    unfolding dec
    dec_drawn t m ns = either (not (is_entitled s see t m t)) _ _ (λ e. tt) (λ e. decs_drawn m t ns (dec_fault see m t [] ns))

    status_drawn : (m t : ℕ) → DecidesDrawn (status s see m t)
    unfolding status
    status_drawn m t = either (not (is_entitled s see m m t)) _ _ (λ e. tt) (λ e. none_drawn)

    opened_drawn : (source peer bits : ℕ) (o : Option (List ℕ)) → DecidesDrawn (opened see source peer bits o)
    opened_drawn source peer bits None = none_drawn
    opened_drawn source peer bits (Some nodes) = fact_drawn (Open' (fresh_name see StreamKind 0) source peer (bits / 8) nodes) [] (λ secret. cc) none_drawn

    open_drawn : (source peer bits : ℕ) → DecidesDrawn (open_stream s up see source peer bits)
    unfolding open_stream
    open_drawn source peer bits =
        either (not (is_entitled s see source source peer)) _ _ (λ e. none_drawn)
        (λ e. either (not (is_size bits)) _ _ (λ e2. none_drawn) (λ e2. opened_drawn source peer bits (route s up see.me (s.home peer))))

    joins_drawn : (caller other bits : ℕ) (o : Option Fact) → DecidesDrawn (joins s see caller other bits o)
    joins_drawn caller other bits (Some (Open' stream source peer size nodes)) =
        either ((caller == source) || ((caller == peer) && has_joined see stream)) _ _ (λ e. none_drawn)
        (λ e. either (not ((caller == peer) && (other == source) && (s.home peer == see.me))) _ _ (λ e2. none_drawn)
        (λ e2. either (not (8 * size == bits)) _ _ (λ e3. none_drawn)
        (λ e3. fact_drawn (Joined' (fresh_name see NoteKind 0) stream (reverse nodes)) [] (λ secret. cc) none_drawn)))
    joins_drawn caller other bits _ = none_drawn

    join_drawn : (caller other : ℕ) (stream : Name) (bits : ℕ) → DecidesDrawn (join_stream s see caller other stream bits)
    unfolding join_stream
    join_drawn caller other stream bits = joins_drawn caller other bits (stream_here s see stream)

    at_end_drawn : (caller : ℕ) (o : Option Fact) (then' : Name → ℕ → Decision) → ((n : Name) (source : ℕ) → DecidesDrawn (then' n source)) → DecidesDrawn (at_end s see caller o then')
    at_end_drawn caller (Some (Open' stream source peer size nodes)) then' h =
        either ((s.home peer == see.me) && not (has_joined see stream)) _ _ (λ e. none_drawn)
        (λ e. either (not (((caller == source) && (s.home source == see.me)) || ((caller == peer) && (s.home peer == see.me)))) _ _ (λ e2. none_drawn) (λ e2. h stream source))
    at_end_drawn caller _ then' h = none_drawn

    gives_drawn : (caller index : ℕ) (at_source : Bool) (o : Option Fact) → DecidesDrawn (gives_chunk see caller index at_source o)
    gives_drawn caller index at_source None = none_drawn
    gives_drawn caller index at_source (Some f) =
        either (was_handed see.handed (name_of f) caller) _ _ (λ e. none_drawn)
        (λ e. either (at_source && not (is_confirmed see (name_of f))) _ _ (λ e2. none_drawn)
        (λ e2. one_drawn (Handed (name_of f) caller) [] (λ g is secret. cc) none_drawn))

    get_drawn : (caller : ℕ) (stream : Name) (index : ℕ) → DecidesDrawn (get_chunk s see caller stream index)
    unfolding get_chunk
    get_drawn caller stream index =
        at_end_drawn caller (stream_here s see stream) _ (λ n source.
        either ((caller == source) && not (has_joined see n)) _ _ (λ e. none_drawn) (λ e. gives_drawn caller index (caller == source) (chunk_at see n index)))

    close_drawn : (caller : ℕ) (stream : Name) → DecidesDrawn (close_stream s see caller stream)
    unfolding close_stream
    close_drawn caller stream =
        at_end_drawn caller (stream_here s see stream) _ (λ n source. one_drawn (Closed n caller) [] (λ g is secret. cc) none_drawn)

    enc_group_drawn : (m : ℕ) (slaves : List ℕ) (n bits : ℕ) → DecidesDrawn (enc_group s see m slaves n bits)
    unfolding enc_group
    enc_group_drawn m slaves n bits =
        either (not (is_entitled_group s see m slaves)) _ _ (λ e. tt)
        (λ e. either (nat_lt (length (group see m slaves bits)) n) _ _ (λ e2. tt) (λ e2. hands_drawn m (take n (group see m slaves bits))))

-- Bytes that are cut up count as drawn.
cut_decides : (octet : ℕ → ℕ) (v c from to : ℕ) (x : Decision) → DecidesCut octet v c from to x → DecidesDrawn octet to x
cut_decides octet v c from to (Refuses reply) h = tt
cut_decides octet v c from to (Does e) h = λ n f at secret. let k = h.each n f at secret in record { place = h.place (handed_name f); is = k.bytes; within = k.within }

-- Each event asked of a manager makes its keys of octets that were drawn for it.
pub event_draws : (s : Site) (sealing : Sealing) (up : ℕ → Bool) (see : View) (octet : ℕ → ℕ) (place : ℕ) (event : Event) → is_asked event ≡ true →
    DecidesDrawn octet (place + random_need see event) (decide s sealing up see (octets_from octet place (random_need see event)) event)
unfolding decide random_need
event_draws s sealing up see octet place (Fill m t bits count) asked =
    cut_decides octet see.me (last_count see.me see.facts + 0) place (place + (bits / 8) * count) _
    (fill_cut octet see (place + (bits / 8) * count) s up place m t bits count (octets_from octet place ((bits / 8) * count))
    (supply octet place (bits / 8) count ((bits / 8) * count) (omega arith)) (omega arith))
event_draws s sealing up see octet place (Feed stream count) asked =
    let size : ℕ = chunk_size (fact_at see.facts stream) in
    cut_decides octet see.me (last_count see.me see.facts + 0) place (place + size * count) _
    (feed_cut octet see (place + size * count) s up place stream count (octets_from octet place (size * count)) (supply octet place size count (size * count) (omega arith)) (omega arith))
event_draws s sealing up see octet place (Enc m t n bits) asked = enc_drawn octet (place + 0) s up see m t n bits
event_draws s sealing up see octet place (Dec t m names) asked = dec_drawn octet (place + 0) s up see t m names
event_draws s sealing up see octet place (Status m t) asked = status_drawn octet (place + 0) s up see m t
event_draws s sealing up see octet place (Open source peer bits) asked = open_drawn octet (place + 0) s up see source peer bits
event_draws s sealing up see octet place (Join caller from stream bits) asked = join_drawn octet (place + 0) s up see caller from stream bits
event_draws s sealing up see octet place (Get caller stream index) asked = get_drawn octet (place + 0) s up see caller stream index
event_draws s sealing up see octet place (Close caller stream) asked = close_drawn octet (place + 0) s up see caller stream
event_draws s sealing up see octet place (Show name) asked = none_drawn octet (place + 0)
event_draws s sealing up see octet place (Ledger lane) asked = none_drawn octet (place + 0)
event_draws s sealing up see octet place (FillGroup m slaves bits count) asked =
    cut_decides octet see.me (last_count see.me see.facts + 0) place (place + (bits / 8) * count) _
    (fill_group_cut octet see (place + (bits / 8) * count) s up place m slaves bits count (octets_from octet place ((bits / 8) * count))
    (supply octet place (bits / 8) count ((bits / 8) * count) (omega arith)) (omega arith))
event_draws s sealing up see octet place (EncGroup m slaves n bits) asked = enc_group_drawn octet (place + 0) s up see m slaves n bits
event_draws s sealing up see octet place Plan asked = plan_drawn octet (place + 0) s up see
event_draws s sealing up see octet place (Block link number bytes) asked = cc
event_draws s sealing up see octet place (Heard lane bytes) asked = cc
event_draws s sealing up see octet place (Note placings) asked = cc
