-- The bytes of new keys, chunks and parts are consecutive pieces of the octets that were drawn for their event.
use Rattle.std.proofs.Common.{◌≡◌, ◌≢◌, ℕ, zero, suc, ◌+◌, ◌*◌, ◌/◌, ◌<◌, ◌≤◌, Bool, true, false, not, List, [], ◌∷◌, ◌++◌, length, take, drop, refl, sym, ◌∙◌, ap, subst, arith, Option, Some, None, ◌⊎◌, inl, inr}
use Rattle.std.specs.Prelude.{nat_lt, nat_le, slice_get, count_by, if◌then◌else◌}
use Rattle.std.proofs.lemmas.Bool.Decides.{nat_tests}
use Rattle.qkd_base.specs.Name.{Name}
use Rattle.qkd_base.specs.declared.key_name.NameKind.TheVariants.{Key as KeyKind}
use Rattle.net_model.specs.declared.event.Event.{Event}
use Rattle.net_model.specs.declared.event.Event.TheVariants.{Block, Fill, Feed, Plan, Heard, Enc, Dec, Status, Open, Join, Get, Close, Show, Ledger, FillGroup, EncGroup, Note}
use Rattle.net_model.specs.declared.fact.Fact.{Fact}
use Rattle.net_model.specs.declared.fact.Fact.TheVariants.{Key, Chunk, Part, Open as Open'}
use Rattle.net_model.specs.declared.record.Record.{Record}
use Rattle.net_model.specs.declared.record.Record.TheVariants.{Learned}
use Rattle.net_model.specs.Table.{bytes_of, is_secret, fact_at}
use Rattle.net_model.specs.OctetSequence.{octets_from}
use Rattle.net_model.specs.Site.{Site}
use Rattle.net_model.specs.Sealing.{Sealing}
use Rattle.net_model.specs.View.{View}
use Rattle.net_model.specs.Decision.{Decision, Refuses, Does, last_count, fresh_name}
use Rattle.net_model.specs.Decide.{decide, random_need}
use Rattle.net_model.specs.Routes.{route}
use Rattle.net_model.specs.Pools.{is_entitled, new_keys, filled, fill, unhanded}
use Rattle.net_model.specs.Groups.{new_parts, new_groups, filled_group, fill_group, is_entitled_group, routes_to, unhanded_group}
use Rattle.net_model.specs.Streams.{is_chunk_of, new_chunks, fed, fed_stream, has_end, waiting, feed, chunk_size}
use Rattle.net_model.specs.Step.{is_asked}
use Rattle.law_base.proofs.Base.{by_test, get_cases, when_true, when_false}
use Rattle.law_invariant.proofs.Supply.{Supply, supply, bytes_len}
use Rattle.law_invariant.specs.HandedName.{handed_name, AreApart}

-- The fact's bytes are cut from the octets between two places. Its name is a new one of the node, with a count above
-- all older ones.
pub record IsCutAt (octet : ℕ → ℕ) (v c from to : ℕ) (place : Name → ℕ) (f : Fact) : Type 0 where
  pub node : (handed_name f).node ≡ v
  pub above : c < (handed_name f).count
  pub bytes : bytes_of f ≡ octets_from octet (place (handed_name f)) (length (bytes_of f))
  pub after : from ≤ place (handed_name f)
  pub within : place (handed_name f) + length (bytes_of f) ≤ to

pub apart_as : (place place' : Name → ℕ) (f g : Fact) → place' (handed_name f) ≡ place (handed_name f) → place' (handed_name g) ≡ place (handed_name g) → AreApart place f g →
    AreApart place' f g
apart_as place place' f g e e' h = elim h [ inl le ↦ inl (omega (arith, e, e', le)) | inr le ↦ inr (omega (arith, e, e', le)) ]

module _ (octet : ℕ → ℕ) (v : ℕ) where
  -- The facts of a batch have their bytes at different places between these two, under new names.
  pub record IsCutUp (c from to : ℕ) (batch : List Record) : Type 0 where
    pub place : Name → ℕ
    pub each : (n : ℕ) (f : Fact) → slice_get batch n ≡ Some (Learned f) → is_secret f ≡ true → IsCutAt octet v c from to place f
    pub apart : (n m : ℕ) (f g : Fact) → slice_get batch n ≡ Some (Learned f) → slice_get batch m ≡ Some (Learned g) → is_secret f ≡ true → is_secret g ≡ true →
        handed_name f ≢ handed_name g → AreApart place f g

  -- The fact is handed out under this name, and its bytes are the first ones, from the place `from` on.
  pub record IsFirst (name : Name) (from size : ℕ) (f : Fact) : Type 0 where
    pub name' : handed_name f ≡ name
    pub bytes : bytes_of f ≡ octets_from octet from (length (bytes_of f))
    pub size' : length (bytes_of f) ≤ size

  nothing_cut : (c from to : ℕ) → IsCutUp c from to []
  nothing_cut c from to = record { place = λ n. from; each = λ n f e. cc; apart = λ n m f g e. cc }

  module _ (c c' from size to : ℕ) (name : Name) (xs ys : List Record) (node : name.node ≡ v) (above : c < name.count) (below : name.count ≤ c')
      (first : (n : ℕ) (f : Fact) → slice_get xs n ≡ Some (Learned f) → is_secret f ≡ true → IsFirst name from size f) (fits : from + size ≤ to)
      (h : IsCutUp c' (from + size) to ys) where
    abbrev place' : Name → ℕ
    place' n = if nat_le n.count c' then from else h.place n

    place_first : (f : Fact) → IsFirst name from size f → place' (handed_name f) ≡ from
    place_first f x =
        let count = ap (λ (n : Name). n.count) x.name' in
        let low : nat_le (handed_name f).count c' ≡ true = grind (arith, nat_tests) in
        when_true (nat_le (handed_name f).count c') _ _ low

    place_rest : (f : Fact) → IsCutAt octet v c' (from + size) to h.place f → place' (handed_name f) ≡ h.place (handed_name f)
    place_rest f x =
        let high : nat_le (handed_name f).count c' ≡ false = let a = x.above in grind (arith, nat_tests) in
        when_false (nat_le (handed_name f).count c') _ _ high

    first_cut : (f : Fact) → IsFirst name from size f → IsCutAt octet v c from to place' f
    first_cut f x =
        let e = place_first f x in
        let count = ap (λ (n : Name). n.count) x.name' in
        record {
          node = ap (λ (n : Name). n.node) x.name' ∙ node;
          above = omega (arith, count, above);
          bytes = x.bytes ∙ ap (λ (p : ℕ). octets_from octet p (length (bytes_of f))) (sym e);
          after = omega (arith, e);
          within = let s = x.size' in omega (arith, e, s, fits);
        }

    rest_cut : (f : Fact) → IsCutAt octet v c' (from + size) to h.place f → IsCutAt octet v c from to place' f
    rest_cut f x =
        let e = place_rest f x in
        record {
          node = x.node;
          above = let a = x.above in omega (arith, a, above, below);
          bytes = x.bytes ∙ ap (λ (p : ℕ). octets_from octet p (length (bytes_of f))) (sym e);
          after = let a = x.after in omega (arith, a, e);
          within = let i = x.within in omega (arith, i, e);
        }

    -- The first bytes end where the others begin.
    before : (f g : Fact) → IsFirst name from size f → IsCutAt octet v c' (from + size) to h.place g → place' (handed_name f) + length (bytes_of f) ≤ place' (handed_name g)
    before f g x y =
        let e = place_first f x in let e2 = place_rest g y in let s = x.size' in let a = y.after in omega (arith, e, e2, s, a)

    pub first_and_rest : IsCutUp c from to (xs ++ ys)
    first_and_rest =
        record {
          place = place';
          each = λ n f e secret. elim (get_cases xs ys n) [
            | inl (within, same) ↦ first_cut f (first n f (sym same ∙ e) secret)
            | inr (m, at, same) ↦ rest_cut f (h.each m f (sym same ∙ e) secret)
          ];
          apart = λ n m f g e d secret secret' ne. elim (get_cases xs ys n) [
            | inl (within, same) ↦
                let x = first n f (sym same ∙ e) secret in
                elim (get_cases xs ys m) [
                  | inl (within', same') ↦ absurd (ne (x.name' ∙ sym (first m g (sym same' ∙ d) secret').name'))
                  | inr (j, at', same') ↦ inl (before f g x (h.each j g (sym same' ∙ d) secret'))
                ]
            | inr (i, at, same) ↦
                let x = h.each i f (sym same ∙ e) secret in
                elim (get_cases xs ys m) [
                  | inl (within', same') ↦ inr (before g f (first m g (sym same' ∙ d) secret') x)
                  | inr (j, at', same') ↦
                      let y = h.each j g (sym same' ∙ d) secret' in
                      apart_as h.place place' f g (place_rest f x) (place_rest g y) (h.apart i j f g (sym same ∙ e) (sym same' ∙ d) secret secret' ne)
                ]
          ];
        }

  abbrev pub DecidesCut : ℕ → ℕ → ℕ → Decision → Type 0
  DecidesCut c from to (Refuses reply) = Unit {0}
  DecidesCut c from to (Does e) = IsCutUp c from to e.batch

  cut_first : (name : Name) (from size : ℕ) (f : Fact) (bytes : List ℕ) → handed_name f ≡ name → bytes_of f ≡ bytes → bytes ≡ octets_from octet from size → IsFirst name from size f
  cut_first name from size f bytes named is cut =
      let len : length (bytes_of f) ≡ size = ap length is ∙ bytes_len octet from size bytes cut in
      record { name' = named; bytes = is ∙ cut ∙ ap (octets_from octet from) (sym len); size' = omega (arith, len) }

  one_first : (name : Name) (from size : ℕ) (f : Fact) → IsFirst name from size f → (n : ℕ) (g : Fact) → slice_get (Learned f ∷ []) n ≡ Some (Learned g) →
      is_secret g ≡ true → IsFirst name from size g
  one_first name from size f x zero g e secret = let is : f ≡ g = cc in subst (IsFirst name from size) is x
  one_first name from size f x (suc n) g e secret = cc

-- Lemmas on new keys, chunks and parts.

module _ (octet : ℕ → ℕ) (see : View) (to : ℕ) where
  -- The greatest count after `more` further names were given.
  abbrev given : ℕ → ℕ
  given more = last_count see.me see.facts + more

  keys_cut : (place m t size more n : ℕ) (nodes random : List ℕ) → Supply octet place size n random → place + size * n ≤ to →
      IsCutUp octet see.me (given more) place to (new_keys see m t nodes size random more n)
  keys_cut place m t size more zero nodes random from within = nothing_cut octet see.me (given more) place to
  keys_cut place m t size more (suc n) nodes random from within =
      let product : size * suc n ≡ size * n + size = omega arith in
      let name : Name = fresh_name see KeyKind more in
      let f : Fact = Key name m t nodes (take size random) in
      first_and_rest octet see.me (given more) (given (more + 1)) place size to name (Learned f ∷ []) (new_keys see m t nodes size (drop size random) (more + 1) n) refl
      (omega arith) (omega arith) (one_first octet see.me name place size f (cut_first octet see.me name place size f (take size random) refl refl from.0))
      (omega (arith, product, within))
      (keys_cut (place + size) m t size (more + 1) n nodes (drop size random) from.1 (omega (arith, product, within)))

  chunks_cut : (stream : Name) (place size next more n : ℕ) (nodes random : List ℕ) → Supply octet place size n random → place + size * n ≤ to →
      IsCutUp octet see.me (given more) place to (new_chunks see stream nodes size next random more n)
  chunks_cut stream place size next more zero nodes random from within = nothing_cut octet see.me (given more) place to
  chunks_cut stream place size next more (suc n) nodes random from within =
      let product : size * suc n ≡ size * n + size = omega arith in
      let name : Name = fresh_name see KeyKind more in
      let f : Fact = Chunk name stream (next + more) nodes (take size random) in
      first_and_rest octet see.me (given more) (given (more + 1)) place size to name (Learned f ∷ []) (new_chunks see stream nodes size next (drop size random) (more + 1) n) refl
      (omega arith) (omega arith) (one_first octet see.me name place size f (cut_first octet see.me name place size f (take size random) refl refl from.0))
      (omega (arith, product, within))
      (chunks_cut stream (place + size) size next (more + 1) n nodes (drop size random) from.1 (omega (arith, product, within)))

  -- All parts of one group key have the same bytes.
  parts_first : (key : Name) (place size m more : ℕ) (ways : List (ℕ × List ℕ)) (bytes : List ℕ) → bytes ≡ octets_from octet place size → (n : ℕ) (f : Fact) →
      slice_get (new_parts see key m ways bytes more) n ≡ Some (Learned f) → is_secret f ≡ true → IsFirst octet see.me key place size f
  parts_first key place size m more [] bytes is n f e secret = cc
  parts_first key place size m more (x ∷ xs) bytes is zero f e secret =
      let g : Fact = Part (fresh_name see KeyKind more) key m x.0 x.1 bytes in
      let same : g ≡ f = cc in
      subst (IsFirst octet see.me key place size) same (cut_first octet see.me key place size g bytes refl refl is)
  parts_first key place size m more (x ∷ xs) bytes is (suc n) f e secret = parts_first key place size m (more + 1) xs bytes is n f e secret

  groups_cut : (place m : ℕ) (ways : List (ℕ × List ℕ)) (size more n : ℕ) (random : List ℕ) → Supply octet place size n random → place + size * n ≤ to →
      IsCutUp octet see.me (given more) place to (new_groups see m ways size random more n)
  groups_cut place m ways size more zero random from within = nothing_cut octet see.me (given more) place to
  groups_cut place m ways size more (suc n) random from within =
      let product : size * suc n ≡ size * n + size = omega arith in
      let key : Name = fresh_name see KeyKind more in
      let next : ℕ = more + 1 + length ways in
      first_and_rest octet see.me (given more) (given next) place size to key (new_parts see key m ways (take size random) (more + 1))
      (new_groups see m ways size (drop size random) next n) refl (omega arith) (omega arith)
      (parts_first key place size m (more + 1) ways (take size random) from.0) (omega (arith, product, within))
      (groups_cut (place + size) m ways size next n (drop size random) from.1 (omega (arith, product, within)))

  -- Lemmas on decisions.

  abbrev Cuts : ℕ → Decision → Type 0
  Cuts place = DecidesCut octet see.me (given 0) place to

  either : (place : ℕ) (b : Bool) (x y : Decision) → (b ≡ true → Cuts place x) → (b ≡ false → Cuts place y) → Cuts place (if b then x else y)
  either place b x y = by_test (Cuts place) b x y

  module _ (s : Site) (up : ℕ → Bool) where
    filled_cut : (place m t bits count : ℕ) (random : List ℕ) (o : Option (List ℕ)) → Supply octet place (bits / 8) count random → place + (bits / 8) * count ≤ to →
        Cuts place (filled see m t bits count random o)
    filled_cut place m t bits count random None from within = tt
    filled_cut place m t bits count random (Some nodes) from within =
        either place (nat_lt 4096 (unhanded see m t bits + count)) _ _ (λ e. tt) (λ e. keys_cut place m t (bits / 8) 0 count nodes random from within)

    pub fill_cut : (place m t bits count : ℕ) (random : List ℕ) → Supply octet place (bits / 8) count random → place + (bits / 8) * count ≤ to →
        Cuts place (fill s up see m t bits count random)
    unfolding fill
    fill_cut place m t bits count random from within =
        either place (not (is_entitled s see m m t)) _ _ (λ e. tt) (λ e. filled_cut place m t bits count random (route s up see.me (s.home t)) from within)

    fed_cut : (place : ℕ) (stream : Name) (source size count : ℕ) (random : List ℕ) (o : Option (List ℕ)) → Supply octet place size count random → place + size * count ≤ to →
        Cuts place (fed see stream source size count random o)
    fed_cut place stream source size count random None from within = tt
    fed_cut place stream source size count random (Some nodes) from within =
        either place (nat_lt 4096 (waiting see stream source + count)) _ _ (λ e. tt)
        (λ e. chunks_cut stream place size (count_by (is_chunk_of stream) see.facts) 0 count nodes random from within)

    fed_stream_cut : (place count : ℕ) (random : List ℕ) (o : Option Fact) → Supply octet place (chunk_size o) count random → place + chunk_size o * count ≤ to →
        Cuts place (fed_stream s up see count random o)
    fed_stream_cut place count random (Some (Open' stream source peer size nodes)) from within =
        either place (has_end s see stream source) _ _ (λ e. fed_cut place stream source size count random (route s up see.me (s.home peer)) from within) (λ e. tt)
    fed_stream_cut place count random _ from within = tt

    pub feed_cut : (place : ℕ) (stream : Name) (count : ℕ) (random : List ℕ) → Supply octet place (chunk_size (fact_at see.facts stream)) count random →
        place + chunk_size (fact_at see.facts stream) * count ≤ to → Cuts place (feed s up see stream count random)
    unfolding feed
    feed_cut place stream count random from within = fed_stream_cut place count random (fact_at see.facts stream) from within

    filled_group_cut : (place m : ℕ) (slaves : List ℕ) (bits count : ℕ) (random : List ℕ) (o : Option (List (ℕ × List ℕ))) → Supply octet place (bits / 8) count random →
        place + (bits / 8) * count ≤ to → Cuts place (filled_group see m slaves bits count random o)
    filled_group_cut place m slaves bits count random None from within = tt
    filled_group_cut place m slaves bits count random (Some ways) from within =
        either place (nat_lt 4096 (unhanded_group see m slaves bits + count)) _ _ (λ e. tt) (λ e. groups_cut place m ways (bits / 8) 0 count random from within)

    pub fill_group_cut : (place m : ℕ) (slaves : List ℕ) (bits count : ℕ) (random : List ℕ) → Supply octet place (bits / 8) count random → place + (bits / 8) * count ≤ to →
        Cuts place (fill_group s up see m slaves bits count random)
    unfolding fill_group
    fill_group_cut place m slaves bits count random from within =
        either place (not (is_entitled_group s see m slaves)) _ _ (λ e. tt) (λ e. filled_group_cut place m slaves bits count random (routes_to s up see.me slaves) from within)

-- An event asked of a manager either draws nothing or cuts its keys from what it draws.
pub event_cuts : (s : Site) (sealing : Sealing) (up : ℕ → Bool) (see : View) (octet : ℕ → ℕ) (place : ℕ) (event : Event) → is_asked event ≡ true →
    (random_need see event ≡ 0) ⊎ DecidesCut octet see.me (last_count see.me see.facts + 0) place (place + random_need see event)
    (decide s sealing up see (octets_from octet place (random_need see event)) event)
unfolding decide random_need
event_cuts s sealing up see octet place (Fill m t bits count) asked =
    inr (fill_cut octet see (place + (bits / 8) * count) s up place m t bits count (octets_from octet place ((bits / 8) * count))
    (supply octet place (bits / 8) count ((bits / 8) * count) (omega arith)) (omega arith))
event_cuts s sealing up see octet place (Feed stream count) asked =
    let size : ℕ = chunk_size (fact_at see.facts stream) in
    inr (feed_cut octet see (place + size * count) s up place stream count (octets_from octet place (size * count))
    (supply octet place size count (size * count) (omega arith)) (omega arith))
event_cuts s sealing up see octet place (FillGroup m slaves bits count) asked =
    inr (fill_group_cut octet see (place + (bits / 8) * count) s up place m slaves bits count (octets_from octet place ((bits / 8) * count))
    (supply octet place (bits / 8) count ((bits / 8) * count) (omega arith)) (omega arith))
event_cuts s sealing up see octet place (Enc m t n bits) asked = inl refl
event_cuts s sealing up see octet place (Dec t m names) asked = inl refl
event_cuts s sealing up see octet place (Status m t) asked = inl refl
event_cuts s sealing up see octet place (Open source peer bits) asked = inl refl
event_cuts s sealing up see octet place (Join caller from stream bits) asked = inl refl
event_cuts s sealing up see octet place (Get caller stream index) asked = inl refl
event_cuts s sealing up see octet place (Close caller stream) asked = inl refl
event_cuts s sealing up see octet place (Show name) asked = inl refl
event_cuts s sealing up see octet place (Ledger lane) asked = inl refl
event_cuts s sealing up see octet place (EncGroup m slaves n bits) asked = inl refl
event_cuts s sealing up see octet place Plan asked = inl refl
event_cuts s sealing up see octet place (Block link number bytes) asked = cc
event_cuts s sealing up see octet place (Heard lane bytes) asked = cc
event_cuts s sealing up see octet place (Note placings) asked = cc
