-- Opening, joining, reading and closing a stream make only permitted records.
use Rattle.std.proofs.Common.{not, ◌≡◌, ℕ, ◌+◌, ◌*◌, ◌/◌, ◌<◌, Bool, true, false, ◌&&◌, ◌||◌, List, [], ◌∷◌, ◌++◌, length, refl, sym, ◌∙◌, ap, subst, arith, Option, Some, None, ◌⊎◌, inl, inr, reverse}
use Rattle.std.specs.Prelude.{◌==◌, if◌then◌else◌}
use Rattle.std.proofs.lemmas.Grind.{reverse_onto}
use Rattle.std.proofs.lemmas.List.{length-reverse}
use Rattle.qkd_base.specs.Name.{Name, name_eq, has}
use Rattle.qkd_base.specs.Route.{first_of, last_of}
use Rattle.qkd_base.proofs.Routes.{route_reverse, nodes_reverse}
use Rattle.qkd_base.specs.declared.key_name.NameKind.{NameKind}
use Rattle.qkd_base.specs.declared.key_name.NameKind.TheVariants.{Stream as StreamKind, Note as NoteKind}
use Rattle.qkd_base.specs.declared.lane.Lane.{Lane}
use Rattle.net_model.specs.declared.fact.Fact.{Fact}
use Rattle.net_model.specs.declared.fact.Fact.TheVariants.{Chunk, Open, Joined}
use Rattle.net_model.specs.declared.record.Record.TheVariants.{Learned, Handed, Closed}
use Rattle.net_model.specs.declared.reply.Reply.{Reply}
use Rattle.net_model.specs.declared.reply.Reply.TheVariants.{Stream}
use Rattle.net_model.specs.Ranges.{IsRoute}
use Rattle.net_model.specs.Table.{name_of, bytes_of, fact_at, was_handed, sae_at, stream_end}
use Rattle.net_model.specs.Site.{Site}
use Rattle.net_model.specs.Routes.{route}
use Rattle.net_model.specs.World.{Durable, Allocation, Transmission}
use Rattle.net_model.specs.Knowledge.{IsFactOf}
use Rattle.net_model.specs.Handings.{KnowsStored, is_single}
use Rattle.net_model.specs.Invariant.{Invariant}
use Rattle.net_model.specs.Doubt.{MayApply}
use Rattle.net_model.specs.Decision.{Decision, last_count, fresh_name, is_confirmed}
use Rattle.net_model.specs.Pools.{is_entitled}
use Rattle.net_model.specs.Streams.{is_size, only_status, opened, open_stream, open_end, has_end, stream_here, has_joined, joins, join_stream, at_end, is_chunk_at, chunk_at, gives_chunk, get_chunk, close_stream}
use Rattle.net_model.specs.Premises.{IsSite}
use Rattle.net_model.specs.View.{View}
use Rattle.net_model.specs.Handle.{is_numbered}
use Rattle.law_base.proofs.Base.{name_eq_from, eq_from, and_left, and_right, or_cases, not_both, not_true}
use Rattle.law_base.specs.Shown.{IsRouteBetween}
use Rattle.law_base.proofs.Shortest.{route_is}
use Rattle.law_base.proofs.Masked.{with_other_bytes}
use Rattle.law_base.proofs.Seen.{Sees, seen_at, seen_found, seen_stored, handed_seen}
use Rattle.law_invariant.proofs.Supply.{size_is}
use Rattle.law_invariant.proofs.Made.{is_below, IsNew, made_may}
use Rattle.law_invariant.specs.Only.{Only}
use Rattle.law_invariant.proofs.Only.{only_answers, only_makes, only_either, IsMine, entitled_is, fresh_is}

-- A stream that a node knows, as the table's Open fact describes it.
pub record IsStream (s : Site) (d : Durable) (v : ℕ) (stream : Name) (source peer size : ℕ) (nodes : List ℕ) : Type 0 where
  pub there : fact_at d.facts stream ≡ Some (Open stream source peer size nodes)
  pub knows : has (d.known v) stream ≡ true
  pub fact : IsFactOf s d.facts d.known stream (Open stream source peer size nodes)

pub open_end_is : (s : Site) (see : View) (o : Option Fact) (f : Fact) → open_end s see o ≡ Some f → o ≡ Some f
open_end_is s see (Some (Open stream source peer size nodes)) f h =
    elim (has_end s see stream source || has_end s see stream peer) as
    (λ t. (if t then Some (Open stream source peer size nodes) else None) ≡ Some f → Some (Open stream source peer size nodes) ≡ Some f) [
      | true ↦ λ e. e
      | false ↦ λ e. cc
    ] h
open_end_is s see _ f h = cc

first_of-append : (xs ys : List ℕ) → 0 < length xs → first_of (xs ++ ys) ≡ first_of xs
first_of-append [] ys h = absurd (omega arith)
first_of-append (x ∷ xs) ys h = refl

pub first_of-reverse : (nodes : List ℕ) → first_of (reverse nodes) ≡ last_of nodes
first_of-reverse [] = refl
first_of-reverse (v ∷ []) = refl
first_of-reverse (v ∷ w ∷ vs) =
    ap first_of (reverse_onto (w ∷ vs) v []) ∙ first_of-append (reverse (w ∷ vs)) (v ∷ []) (omega (arith, length-reverse (w ∷ vs))) ∙ first_of-reverse (w ∷ vs)

pub route_back : (nodes : List ℕ) → IsRoute nodes → IsRoute (reverse nodes)
route_back nodes h = (route_reverse nodes ∙ h.0, nodes_reverse nodes ∙ h.1)

pub caller_home : (s : Site) (v caller source peer : ℕ) → (((caller == source) && (s.home source == v)) || ((caller == peer) && (s.home peer == v))) ≡ true →
    (s.home caller ≡ v) × ((caller == source) ≡ false → caller ≡ peer)
caller_home s v caller source peer h =
    elim (or_cases ((caller == source) && (s.home source == v)) ((caller == peer) && (s.home peer == v)) h) [
      | inl e ↦ (
        ap s.home (eq_from caller source (and_left (caller == source) (s.home source == v) e)) ∙ eq_from (s.home source) v (and_right (caller == source) (s.home source == v) e),
        λ other. absurd (not_both (caller == source) (and_left (caller == source) (s.home source == v) e) other),
      )
      | inr e ↦ (
        ap s.home (eq_from caller peer (and_left (caller == peer) (s.home peer == v) e)) ∙ eq_from (s.home peer) v (and_right (caller == peer) (s.home peer == v) e),
        λ other. eq_from caller peer (and_left (caller == peer) (s.home peer == v) e),
      )
    ]

module _ (s : Site) (d : Durable) (frames : Lane → List Allocation) (unclaimed : Lane → List Transmission) (inv : Invariant s d frames unclaimed) (see bare : View)
    (h : Sees s d see bare) (site : IsSite s) (here : see.me < s.nodes) where
  low : see.me < 16
  low = omega (arith, here, site.nodes)

  -- One new fact under the next name is permitted.
  one_made : (kind : NameKind) (f : Fact) (reply : Reply) → name_of f ≡ fresh_name see kind 0 → IsNew s d see.me f → MayApply s d see.me (Learned f)
  one_made kind f reply is x =
      let at : (name_of f).count ≡ last_count see.me see.facts + 1 = ap (λ (n : Name). n.count) is ∙ plus (last_count see.me see.facts) in
      made_may s d see.me (last_count see.me see.facts) f (ap (λ (n : Name). n.node) is) (omega (arith, at)) (is_below s d frames unclaimed inv see bare h) x
    where
      plus : (n : ℕ) → (n + 1) + 0 ≡ n + 1
      plus n = omega arith

  -- Lemmas on opening a stream.

  opened_may : (source peer bits : ℕ) (o : Option (List ℕ)) → is_size bits ≡ true → IsMine s see source source peer →
      ((nodes : List ℕ) → o ≡ Some nodes → IsRouteBetween see.me (s.home peer) nodes) → Only s d see (opened see source peer bits o)
  opened_may source peer bits None big ok r = only_answers s d see (only_status 4)
  opened_may source peer bits (Some nodes) big ok r =
      let name : Name = fresh_name see StreamKind 0 in
      let f : Fact = Open name source peer (bits / 8) nodes in
      let x = r nodes refl in
      let may = site.pairs source peer ok.allowed in
      only_makes s d see (Learned f ∷ []) (Stream 1 (Some name) 0 []) (λ numbered. (
        one_made StreamKind f (Stream 1 (Some name) 0 []) refl (record {
          formed = (refl, size_is bits big);
          ranged = (fresh_is see StreamKind 0 low (and_left (is_numbered (Learned f)) true numbered), may.first_number, may.last_number, x.route);
          starts = x.starts;
          entitled = record { allowed = ok.allowed; from = x.starts ∙ sym ok.home; to = x.ends };
          note = tt;
          next = λ stream index e. cc;
          part = λ p e. cc;
          unhanded = λ p e. cc;
        }),
        tt,
      ))

  pub open_may : (up : ℕ → Bool) (source peer bits : ℕ) → Only s d see (open_stream s up see source peer bits)
  unfolding open_stream
  open_may up source peer bits =
      only_either s d see (not (is_entitled s see source source peer)) _ _ (λ e. only_answers s d see (only_status 8)) (λ e.
      only_either s d see (not (is_size bits)) _ _ (λ e2. only_answers s d see (only_status 7)) (λ e2.
      opened_may source peer bits (route s up see.me (s.home peer)) (not_true (is_size bits) e2) (entitled_is s see source source peer e)
      (λ nodes y. route_is s up see.me (s.home peer) nodes site.nodes here y)))

  -- Lemmas on joining a stream.

  pub stream_seen : (n stream : Name) (source peer size : ℕ) (nodes : List ℕ) → fact_at see.facts n ≡ Some (Open stream source peer size nodes) →
      IsStream s d see.me stream source peer size nodes
  stream_seen n stream source peer size nodes e =
      let x = (seen_at s d see bare h n (Open stream source peer size nodes) e).1 in
      let there : fact_at d.facts stream ≡ Some (Open stream source peer size nodes) = x.there ∙ ap Some x.shape in
      record { there = there; knows = x.knows; fact = inv.table stream (Open stream source peer size nodes) there }

  pub stream_is : (n stream : Name) (source peer size : ℕ) (nodes : List ℕ) → stream_here s see n ≡ Some (Open stream source peer size nodes) →
      IsStream s d see.me stream source peer size nodes
  stream_is n stream source peer size nodes e =
      stream_seen n stream source peer size nodes (open_end_is s see (fact_at see.facts n) (Open stream source peer size nodes) e)

  joins_may : (n : Name) (caller other bits : ℕ) (o : Option Fact) → stream_here s see n ≡ o → Only s d see (joins s see caller other bits o)
  joins_may n caller other bits None e = only_answers s d see (only_status 9)
  joins_may n caller other bits (Some (Open stream source peer size nodes)) e =
      let name : Name = fresh_name see NoteKind 0 in
      let f : Fact = Joined name stream (reverse nodes) in
      only_either s d see ((caller == source) || ((caller == peer) && has_joined see stream)) _ _ (λ e1. only_answers s d see (only_status 5)) (λ e1.
      only_either s d see (not ((caller == peer) && (other == source) && (s.home peer == see.me))) _ _ (λ e2. only_answers s d see (only_status 8)) (λ e2.
      only_either s d see (not (8 * size == bits)) _ _ (λ e3. only_answers s d see (only_status 7)) (λ e3.
      let x = (stream_is n stream source peer size nodes e).fact in
      let at : s.home peer ≡ see.me = eq_from (s.home peer) see.me (and_right ((caller == peer) && (other == source)) (s.home peer == see.me)
      (not_true ((caller == peer) && (other == source) && (s.home peer == see.me)) e2)) in
      only_makes s d see (Learned f ∷ []) (Stream 0 (Some stream) 0 []) (λ numbered. (
        one_made NoteKind f (Stream 0 (Some stream) 0 []) refl (record {
          formed = (refl, x.formed.0);
          ranged = (fresh_is see NoteKind 0 low (and_left (is_numbered (Learned f)) true numbered), x.ranged.0, route_back nodes x.ranged.3);
          starts = first_of-reverse nodes ∙ x.entitled.to ∙ at;
          entitled = tt;
          note = tt;
          next = λ stream index e. cc;
          part = λ p e. cc;
          unhanded = λ p e. cc;
        }),
        tt,
      )))))
  joins_may n caller other bits (Some _) e = only_answers s d see (only_status 9)

  pub join_may : (caller other : ℕ) (stream : Name) (bits : ℕ) → Only s d see (join_stream s see caller other stream bits)
  unfolding join_stream
  join_may caller other stream bits = joins_may stream caller other bits (stream_here s see stream) refl

  -- Lemmas on reading and closing a stream.

  at_end_may : (n : Name) (caller : ℕ) (o : Option Fact) (next : Name → ℕ → Decision) → stream_here s see n ≡ o →
      ((stream : Name) (source peer size : ℕ) (nodes : List ℕ) → IsStream s d see.me stream source peer size nodes →
      (((caller == source) && (s.home source == see.me)) || ((caller == peer) && (s.home peer == see.me))) ≡ true → Only s d see (next stream source)) →
      Only s d see (at_end s see caller o next)
  at_end_may n caller None next e k = only_answers s d see (only_status 9)
  at_end_may n caller (Some (Open stream source peer size nodes)) next e k =
      only_either s d see ((s.home peer == see.me) && not (has_joined see stream)) _ _ (λ e1. only_answers s d see (only_status 9)) (λ e1.
      only_either s d see (not (((caller == source) && (s.home source == see.me)) || ((caller == peer) && (s.home peer == see.me)))) _ _ (λ e2. only_answers s d see (only_status 8)) (λ e2.
      k stream source peer size nodes (stream_is n stream source peer size nodes e)
      (not_true (((caller == source) && (s.home source == see.me)) || ((caller == peer) && (s.home peer == see.me))) e2)))
  at_end_may n caller (Some _) next e k = only_answers s d see (only_status 9)

  pub close_may : (caller : ℕ) (stream : Name) → Only s d see (close_stream s see caller stream)
  unfolding close_stream
  close_may caller stream =
      at_end_may stream caller (stream_here s see stream) _ refl (λ st source peer size nodes x ends.
      only_makes s d see (Closed st caller ∷ []) (only_status 0) (λ numbered. (tt, tt)))

  chunk_sae : (stream : Name) (index source peer size : ℕ) (nodes : List ℕ) (at_first : Bool) (g f : Fact) (bytes : List ℕ) → is_chunk_at stream index g ≡ true →
      f ≡ with_other_bytes g bytes → fact_at d.facts stream ≡ Some (Open stream source peer size nodes) →
      (sae_at d.facts at_first f ≡ Some (if at_first then source else peer)) × (is_single f ≡ true)
  chunk_sae stream index source peer size nodes at_first (Chunk name stream' index' nodes' bytes') f bytes e shape there =
      let is : stream' ≡ stream = name_eq_from stream' stream (and_left (name_eq stream' stream) (index' == index) e) in
      (ap (sae_at d.facts at_first) shape ∙ ap (λ (n : Name). stream_end at_first (fact_at d.facts n)) is ∙ ap (stream_end at_first) there, ap is_single shape)
  chunk_sae stream index source peer size nodes at_first _ f bytes e shape there = cc

  gives_may : (caller index : ℕ) (stream : Name) (source peer size : ℕ) (nodes : List ℕ) (o : Option Fact) → IsStream s d see.me stream source peer size nodes →
      s.home caller ≡ see.me → ((caller == source) ≡ false → caller ≡ peer) → chunk_at see stream index ≡ o →
      Only s d see (gives_chunk see caller index (caller == source) o)
  gives_may caller index stream source peer size nodes None x home other e = only_answers s d see (only_status 2)
  gives_may caller index stream source peer size nodes (Some g) x home other e =
      let seen = seen_found s d see bare h (is_chunk_at stream index) g e in
      only_either s d see (was_handed see.handed (name_of g) caller) _ _ (λ e1. only_answers s d see (only_status 10)) (λ e1.
      only_either s d see ((caller == source) && not (is_confirmed see (name_of g))) _ _ (λ e2. only_answers s d see (only_status 2)) (λ e2.
      only_makes s d see (Handed (name_of g) caller ∷ []) (Stream 0 None index (bytes_of g)) (λ numbered. (
        (
          home,
          sym (handed_seen s d see bare h (name_of g) caller home) ∙ e1,
          inl (record {
            fact = seen.1.fact;
            there = seen.1.there;
            single = (chunk_sae stream index source peer size nodes true g seen.1.fact (bytes_of seen.1.fact) seen.0 seen.1.shape x.there).1;
            knows = subst (λ (u : ℕ). has (d.known u) (name_of g) ≡ true) (sym home) seen.1.knows;
            is_end = which (caller == source) refl e2;
          }),
        ),
        tt,
      ))))
    where
      which : (t : Bool) → (caller == source) ≡ t → (t && not (is_confirmed see (name_of g))) ≡ false →
          ((sae_at d.facts true (seen_found s d see bare h (is_chunk_at stream index) g e).1.fact ≡ Some caller) × KnowsStored d.facts (d.known (s.home caller)) (name_of g)) ⊎
          (sae_at d.facts false (seen_found s d see bare h (is_chunk_at stream index) g e).1.fact ≡ Some caller)
      which true e1 e2 =
          let seen = seen_found s d see bare h (is_chunk_at stream index) g e in
          inl (
            (chunk_sae stream index source peer size nodes true g seen.1.fact (bytes_of seen.1.fact) seen.0 seen.1.shape x.there).0 ∙ ap Some (sym (eq_from caller source e1)),
            subst (λ (u : ℕ). KnowsStored d.facts (d.known u) (name_of g)) (sym home) (seen_stored s d see bare h (name_of g) (not_true (is_confirmed see (name_of g)) e2)),
          )
      which false e1 e2 =
          let seen = seen_found s d see bare h (is_chunk_at stream index) g e in
          inr ((chunk_sae stream index source peer size nodes false g seen.1.fact (bytes_of seen.1.fact) seen.0 seen.1.shape x.there).0 ∙ ap Some (sym (other e1)))

  pub get_may : (caller : ℕ) (stream : Name) (index : ℕ) → Only s d see (get_chunk s see caller stream index)
  unfolding get_chunk
  get_may caller stream index =
      at_end_may stream caller (stream_here s see stream) _ refl (λ st source peer size nodes x ends.
      only_either s d see ((caller == source) && not (has_joined see st)) _ _ (λ e. only_answers s d see (only_status 3)) (λ e.
      let home = caller_home s see.me caller source peer ends in
      gives_may caller index st source peer size nodes (chunk_at see st index) x home.0 home.1 refl))
