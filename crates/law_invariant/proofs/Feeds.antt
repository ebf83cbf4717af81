-- Feeding a stream makes new chunks with the next indexes of the stream.
use Rattle.std.proofs.Common.{◌≡◌, ℕ, zero, suc, ◌+◌, ◌<◌, ◌^◌, Bool, true, false, cond, List, [], ◌∷◌, ◌++◌, refl, sym, ◌∙◌, ap, subst, arith, Option, Some, None, take, drop}
use Rattle.std.specs.Prelude.{◌==◌, nat_lt, if◌then◌else◌, count_by}
use Rattle.std.specs.List.{list_all, cons_option}
use Rattle.std.proofs.lemmas.Bool.Decides.{nat_tests}
use Rattle.qkd_base.specs.Name.{Name, IsName, name_eq, has}
use Rattle.qkd_base.specs.Route.{first_of, last_of}
use Rattle.qkd_base.specs.declared.key_name.NameKind.TheVariants.{Key as KeyKind, Stream as StreamKind}
use Rattle.qkd_base.specs.declared.lane.Lane.{Lane}
use Rattle.net_model.specs.declared.fact.Fact.{Fact}
use Rattle.net_model.specs.declared.fact.Fact.TheVariants.{Chunk, Open}
use Rattle.net_model.specs.declared.record.Record.TheVariants.{Learned}
use Rattle.net_model.specs.declared.reply.Reply.TheVariants.{MadeKeys}
use Rattle.net_model.specs.Facts.{IsSize}
use Rattle.net_model.specs.Table.{name_of, fact_at, facts_of, learned}
use Rattle.net_model.specs.Site.{Site}
use Rattle.net_model.specs.Routes.{route}
use Rattle.net_model.specs.World.{Durable, Allocation, Transmission}
use Rattle.net_model.specs.Records.{apply_record}
use Rattle.net_model.specs.Knowledge.{IsOpenBetween, chunks_known}
use Rattle.net_model.specs.Invariant.{Invariant}
use Rattle.net_model.specs.Doubt.{MayReplay}
use Rattle.net_model.specs.Decision.{last_count, fresh_name}
use Rattle.net_model.specs.Streams.{new_chunks, waiting, fed, fed_stream, feed, chunk_size, has_end, is_chunk_of}
use Rattle.net_model.specs.Premises.{IsSite}
use Rattle.net_model.specs.View.{View}
use Rattle.net_model.specs.Handle.{is_numbered}
use Rattle.law_base.proofs.Base.{name_eq_from, name_eq_same, eq_from, and_left, and_right, or_first, or_second, not_false, not_both, number_set_same}
use Rattle.law_base.proofs.Tables.{at_prefix, at_back, learned_new, learned_keeps, push_there, facts_of-push, facts_of_one}
use Rattle.law_base.specs.Shown.{IsRouteBetween}
use Rattle.law_base.proofs.Shortest.{route_is}
use Rattle.law_base.proofs.Masked.{count-cons}
use Rattle.law_base.proofs.Seen.{Sees, chunks_seen}
use Rattle.law_invariant.proofs.Supply.{Supply, bytes_len, bytes_octets}
use Rattle.law_invariant.proofs.Made.{IsBelow, is_below, below_more, made_may, new_free, new_unknown}
use Rattle.law_invariant.specs.Only.{Only}
use Rattle.law_invariant.proofs.Only.{only_makes, only_either, fresh_is}
use Rattle.law_invariant.proofs.Streams.{IsStream, stream_seen}

-- Lemmas on the table after one more chunk.

same_at : (T : List Fact) (f : Fact) (m : Name) → fact_at T (name_of f) ≡ None → name_eq m (name_of f) ≡ false → fact_at (learned T f) m ≡ fact_at T m
same_at T f m free other =
    ap (λ (fs : List Fact). fact_at fs m) (learned_new T f free) ∙
    (elim (fact_at T m) as (λ o. fact_at T m ≡ o → fact_at (T ++ f ∷ []) m ≡ o) [
      | Some g ↦ λ e. at_prefix T (f ∷ []) m g e
      | None ↦ λ e. at_back T (f ∷ []) m e ∙ ap (λ (t : Bool). if t then Some f else None) (not_false (name_eq (name_of f) m) (λ y.
          let same : name_of f ≡ m = name_eq_from (name_of f) m y in
          not_both (name_eq m (name_of f)) (ap (name_eq m) same ∙ name_eq_same m) other))
    ] refl)

same_facts : (T : List Fact) (f : Fact) (ns : List Name) → fact_at T (name_of f) ≡ None → has ns (name_of f) ≡ false → facts_of (learned T f) ns ≡ facts_of T ns
same_facts T f [] free new = refl
same_facts T f (m ∷ ns) free new =
    ap (λ (o : Option Fact). cons_option o (facts_of (learned T f) ns)) (same_at T f m free (or_first (name_eq m (name_of f)) (has ns (name_of f)) new)) ∙
    ap (cons_option (fact_at T m)) (same_facts T f ns free (or_second (name_eq m (name_of f)) (has ns (name_of f)) new))

count_push : (p : Fact → Bool) (fs : List Fact) (f : Fact) → p f ≡ true → count_by p (fs ++ f ∷ []) ≡ count_by p fs + 1
count_push p [] f h = count-cons p f [] ∙ ap (λ (t : Bool). cond t 1 0 + 0) h
count_push p (x ∷ fs) f h =
    let r = count_push p fs f h in
    let a = count-cons p x (fs ++ f ∷ []) in
    let b = count-cons p x fs in
    omega (arith, a, b, r)

chunks_more : (T : List Fact) (f : Fact) (ns : List Name) (stream : Name) → fact_at T (name_of f) ≡ None → has ns (name_of f) ≡ false → is_chunk_of stream f ≡ true →
    chunks_known (learned T f) (ns ++ name_of f ∷ []) stream ≡ chunks_known T ns stream + 1
chunks_more T f ns stream free new is =
    let there : fact_at (learned T f) (name_of f) ≡ Some f = ap (λ (fs : List Fact). fact_at fs (name_of f)) (learned_new T f free) ∙ push_there T f free in
    ap (count_by (is_chunk_of stream)) (facts_of-push (learned T f) ns (name_of f)) ∙
    ap (λ (fs : List Fact). count_by (is_chunk_of stream) (facts_of (learned T f) ns ++ fs)) (facts_of_one (learned T f) (name_of f) f there) ∙
    ap (λ (fs : List Fact). count_by (is_chunk_of stream) (fs ++ f ∷ [])) (same_facts T f ns free new) ∙
    count_push (is_chunk_of stream) (facts_of T ns) f is

known_more : (s : Site) (d : Durable) (v : ℕ) (f : Fact) (stream : Name) → fact_at d.facts (name_of f) ≡ None → has (d.known v) (name_of f) ≡ false → is_chunk_of stream f ≡ true →
    chunks_known (apply_record s v (Learned f) d).facts ((apply_record s v (Learned f) d).known v) stream ≡ chunks_known d.facts (d.known v) stream + 1
unfolding apply_record
known_more s d v f stream free new is =
    ap (λ (ns : List Name). chunks_known (learned d.facts f) ns stream) (number_set_same d.known v (d.known v ++ name_of f ∷ [])) ∙ chunks_more d.facts f (d.known v) stream free new is

stream_stays : (s : Site) (d : Durable) (v : ℕ) (f : Fact) (n : Name) (g : Fact) → fact_at d.facts n ≡ Some g → fact_at (apply_record s v (Learned f) d).facts n ≡ Some g
unfolding apply_record
stream_stays s d v f n g h = learned_keeps d.facts f n g h

-- The stream that is fed, and its next index.
pub record IsFed (s : Site) (d : Durable) (v peer : ℕ) (stream : Name) (next : ℕ) : Type 0 where
  pub source : ℕ
  pub size : ℕ
  pub nodes : List ℕ
  pub there : fact_at d.facts stream ≡ Some (Open stream source peer size nodes)
  pub from : first_of nodes ≡ v
  pub to : last_of nodes ≡ s.home peer
  pub known : chunks_known d.facts (d.known v) stream ≡ next

new_chunks_may : (s : Site) (d : Durable) (see : View) (octet : ℕ → ℕ) (place : ℕ) (stream : Name) (peer size next more n : ℕ) (nodes random : List ℕ) → see.me < 16 →
    IsName stream → stream.kind ≡ StreamKind → IsSize size → IsRouteBetween see.me (s.home peer) nodes → ((i : ℕ) → octet i < 256) → Supply octet place size n random →
    IsFed s d see.me peer stream (next + more) → IsBelow d see.me (last_count see.me see.facts + more) →
    list_all is_numbered (new_chunks see stream nodes size next random more n) ≡ true → MayReplay s d see.me (new_chunks see stream nodes size next random more n)
new_chunks_may s d see octet place stream peer size next more zero nodes random node named kind big r small from fed' b numbered = tt
new_chunks_may s d see octet place stream peer size next more (suc n) nodes random node named kind big r small from fed' b numbered =
    let f : Fact = Chunk (fresh_name see KeyKind more) stream (next + more) nodes (take size random) in
    let d' : Durable = apply_record s see.me (Learned f) d in
    let c : ℕ = last_count see.me see.facts + more in
    let at : (fresh_name see KeyKind more).count ≡ c + 1 = omega arith in
    let above : c < (fresh_name see KeyKind more).count = omega arith in
    let again : c + 1 ≡ last_count see.me see.facts + (more + 1) = omega arith in
    let free = new_free d see.me c f refl above b in
    let new = new_unknown d see.me c f refl above b in
    let both = and_left (is_numbered (Learned f)) (list_all is_numbered (new_chunks see stream nodes size next (drop size random) (more + 1) n)) numbered in
    let rest = and_right (is_numbered (Learned f)) (list_all is_numbered (new_chunks see stream nodes size next (drop size random) (more + 1) n)) numbered in
    let count_ok = and_left (nat_lt (fresh_name see KeyKind more).count (2 ^ 48)) (nat_lt (next + more) (2 ^ 32)) both in
    let index_test : nat_lt (next + more) (2 ^ 32) ≡ true = and_right (nat_lt (fresh_name see KeyKind more).count (2 ^ 48)) (nat_lt (next + more) (2 ^ 32)) both in
    let index_ok : next + more < 2 ^ 32 = below (next + more) index_test in
    let counted : chunks_known d'.facts (d'.known see.me) stream ≡ next + (more + 1) =
    known_more s d see.me f stream free new (name_eq_same stream) ∙ ap (λ (k : ℕ). k + 1) fed'.known ∙ assoc next more in (
      made_may s d see.me c f refl above b (record {
        formed = (refl, kind, subst IsSize (sym (bytes_len octet place size (take size random) from.0)) big);
        ranged = (fresh_is see KeyKind more node count_ok, named, index_ok, r.route, bytes_octets octet small place size (take size random) from.0);
        starts = r.starts;
        entitled = subst (IsOpenBetween nodes) (sym fed'.there) (r.starts ∙ sym fed'.from, r.ends ∙ sym fed'.to);
        note = tt;
        next = λ other index e.
            let is : stream ≡ other = name_eq_from stream other (and_left (name_eq stream other) (next + more == index) e) in
            sym (eq_from (next + more) index (and_right (name_eq stream other) (next + more == index) e)) ∙ sym fed'.known ∙ ap (chunks_known d.facts (d.known see.me)) is;
        part = λ p e. cc;
        unhanded = λ p e. cc;
      }),
      new_chunks_may s d' see octet (place + size) stream peer size next (more + 1) n nodes (drop size random) node named kind big r small from.1
          (record {
            source = fed'.source;
            size = fed'.size;
            nodes = fed'.nodes;
            there = stream_stays s d see.me f stream (Open stream fed'.source peer fed'.size fed'.nodes) fed'.there;
            from = fed'.from;
            to = fed'.to;
            known = counted;
          })
          (subst (λ (x : ℕ). IsBelow d' see.me x) again (below_more s d see.me c f at (λ p e. cc) b)) rest,
    )
  where
    below : (k : ℕ) → nat_lt k (2 ^ 32) ≡ true → k < 2 ^ 32
    below k h = grind (arith, nat_tests)

    assoc : (a b : ℕ) → a + b + 1 ≡ a + (b + 1)
    assoc a b = omega arith

module _ (s : Site) (d : Durable) (frames : Lane → List Allocation) (unclaimed : Lane → List Transmission) (inv : Invariant s d frames unclaimed) (see bare : View)
    (h : Sees s d see bare) (site : IsSite s) (here : see.me < s.nodes) where
  fed_may : (octet : ℕ → ℕ) (place : ℕ) (stream : Name) (source peer size count : ℕ) (nodes' random : List ℕ) (o : Option (List ℕ)) →
      IsStream s d see.me stream source peer size nodes' → s.home source ≡ see.me → ((i : ℕ) → octet i < 256) → Supply octet place size count random →
      ((nodes : List ℕ) → o ≡ Some nodes → IsRouteBetween see.me (s.home peer) nodes) → Only s d see (fed see stream source size count random o)
  fed_may octet place stream source peer size count nodes' random None x home small from r = tt
  fed_may octet place stream source peer size count nodes' random (Some nodes) x home small from r =
      only_either s d see (nat_lt 4096 (waiting see stream source + count)) _ _ (λ e. tt) (λ e.
      only_makes s d see (new_chunks see stream nodes size (count_by (is_chunk_of stream) see.facts) random 0 count) (MadeKeys count (fresh_name see KeyKind 0)) (λ numbered.
      let zero' : last_count see.me see.facts ≡ last_count see.me see.facts + 0 = omega arith in
      new_chunks_may s d see octet place stream peer size (count_by (is_chunk_of stream) see.facts) 0 count nodes random (omega (arith, here, site.nodes))
      x.fact.ranged.0 x.fact.formed.0 x.fact.formed.1 (r nodes refl) small from
      (record {
        source = source;
        size = size;
        nodes = nodes';
        there = x.there;
        from = x.fact.entitled.from ∙ home;
        to = x.fact.entitled.to;
        known = sym (chunks_seen s d see bare h stream) ∙ plus (count_by (is_chunk_of stream) see.facts);
      })
      (subst (λ (y : ℕ). IsBelow d see.me y) zero' (is_below s d frames unclaimed inv see bare h)) numbered))
    where
      plus : (k : ℕ) → k ≡ k + 0
      plus k = omega arith

  fed_stream_may : (up : ℕ → Bool) (octet : ℕ → ℕ) (place : ℕ) (n : Name) (count : ℕ) (random : List ℕ) (o : Option Fact) → fact_at see.facts n ≡ o → ((i : ℕ) → octet i < 256) →
      Supply octet place (chunk_size o) count random → Only s d see (fed_stream s up see count random o)
  fed_stream_may up octet place n count random None e small from = tt
  fed_stream_may up octet place n count random (Some (Open stream source peer size nodes)) e small from =
      only_either s d see (has_end s see stream source) _ _ (λ e1.
      let home : s.home source ≡ see.me = eq_from (s.home source) see.me (and_left (s.home source == see.me) _ e1) in
      fed_may octet place stream source peer size count nodes random (route s up see.me (s.home peer))
      (stream_seen s d frames unclaimed inv see bare h site here n stream source peer size nodes e) home small from
      (λ w y. route_is s up see.me (s.home peer) w site.nodes here y)) (λ e1. tt)
  fed_stream_may up octet place n count random (Some _) e small from = tt

  pub feed_may : (up : ℕ → Bool) (octet : ℕ → ℕ) (place : ℕ) (stream : Name) (count : ℕ) (random : List ℕ) → ((i : ℕ) → octet i < 256) →
      Supply octet place (chunk_size (fact_at see.facts stream)) count random → Only s d see (feed s up see stream count random)
  unfolding feed
  feed_may up octet place stream count random small from = fed_stream_may up octet place stream count random (fact_at see.facts stream) refl small from
