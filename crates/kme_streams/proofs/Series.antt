-- Feeding a stream, as a decision.
use Rattle.std.proofs.Common.{◌≡◌, ℕ, suc, ◌+◌, Bool, not, ◌&&◌, List, [], ◌∷◌, ◌++◌, refl, sym, ◌∙◌, ap, subst, drop, take, Option, Some, None, Result, append_assoc}
use Rattle.std.specs.Prelude.{nat_lt, count_by, if◌then◌else◌}
use Rattle.qkd_base.specs.Name.{Name}
use Rattle.qkd_base.specs.declared.key_name.NameKind.TheVariants.{Key as KeyKind}
use Rattle.net_model.specs.declared.fact.Fact.{Fact}
use Rattle.net_model.specs.declared.fact.Fact.TheVariants.{Key, Chunk, Stored, Open, Joined, Part}
use Rattle.net_model.specs.declared.record.Record.{Record}
use Rattle.net_model.specs.declared.record.Record.TheVariants.{Learned}
use Rattle.net_model.specs.declared.reply.Reply.{Reply}
use Rattle.net_model.specs.declared.reply.Reply.TheVariants.{MadeKeys, PoolFull, UnknownStream}
use Rattle.net_model.specs.Table.{name_of, was_handed, fact_at}
use Rattle.net_model.specs.Site.{Site}
use Rattle.net_model.specs.Routes.{route}
use Rattle.net_model.specs.View.{View}
use Rattle.net_model.specs.Decision.{Decision, Refuses, makes, fresh_name}
use Rattle.net_model.specs.Streams.{is_chunk_of, has_end, waiting, new_chunks, fed, fed_stream, feed}
use Rattle.end_store.specs.Pooled.{ends_view}
use Rattle.stream_core.specs.declared.opened.Opened.{Opened}
use Rattle.stream_core.specs.Kept.{StreamEnds, Sees, opened_of}
use Rattle.kme_base.specs.declared.step.Step.{Step}
use Rattle.kme_base.specs.Steps.{IsStep}
use Rattle.kme_streams.specs.Calls.{opening}
use Rattle.kme_streams.proofs.Deciding.{opened_some}

-- a step that follows a decision also follows an equal decision
pub stepped : (v : View) (d e : Decision) (r : Result Step Reply) → d ≡ e → IsStep v [] e r → IsStep v [] d r
stepped v d e r path h = subst (λ (x : Decision). IsStep v [] x r) (sym path) h

-- adding one more chunk
pub chunks_more : (v : View) (stream : Name) (way : List ℕ) (size next more : ℕ) (left rest : List ℕ) (batch after : List Record) (entry : Record) (k n : ℕ) → after ≡ batch ++ entry ∷ [] →
    entry ≡ Learned (Chunk (fresh_name v KeyKind more) stream (next + more) way (take size left)) → rest ≡ drop size left → n ≡ suc k →
    after ++ new_chunks v stream way size next rest (more + 1) k ≡ batch ++ new_chunks v stream way size next left more n
chunks_more v stream way size next more left rest batch after entry k n pushed is dropped count =
    ap (λ (rs : List Record). rs ++ new_chunks v stream way size next rest (more + 1) k) pushed
    ∙ (simp append_assoc)
    ∙ ap (λ (r : Record). batch ++ r ∷ new_chunks v stream way size next rest (more + 1) k) is
    ∙ ap (λ (o : List ℕ). batch ++ Learned (Chunk (fresh_name v KeyKind more) stream (next + more) way (take size left)) ∷ new_chunks v stream way size next o (more + 1) k) dropped
    ∙ ap (λ (c : ℕ). batch ++ new_chunks v stream way size next left more c) (sym count)

pub waiting_seen : (v : View) (s : StreamEnds) → Sees v s → (stream : Name) (source : ℕ) → waiting (ends_view s.ends) stream source ≡ waiting v stream source
waiting_seen v s seen stream source =
    let f = sym seen.ends.facts in
    let h = sym seen.ends.handed in
    λ i. count_by (λ x. is_chunk_of stream x && not (was_handed (h i) (name_of x) source)) (f i)

pub fed_shown : (v : View) (stream : Name) (source size count : ℕ) (random way : List ℕ) (full : Bool) (next : ℕ) → full ≡ nat_lt 4096 (waiting v stream source + count) → next ≡ count_by (is_chunk_of stream) v.facts →
    fed v stream source size count random (Some way) ≡ (if full then Refuses PoolFull else makes v (new_chunks v stream way size next random 0 count) (MadeKeys count (fresh_name v KeyKind 0)))
fed_shown v stream source size count random way full next f n =
    let a = sym f in
    let b = sym n in
    λ i. if a i then Refuses PoolFull else makes v (new_chunks v stream way size (b i) random 0 count) (MadeKeys count (fresh_name v KeyKind 0))

pub stream_shown : (site : Site) (up : ℕ → Bool) (v : View) (count : ℕ) (random : List ℕ) (o : Opened) (has : Bool) (way : Option (List ℕ)) → has ≡ has_end site v o.stream o.source →
    way ≡ route site up v.me (site.home o.peer) →
    fed_stream site up v count random (Some (opening o)) ≡ (if has then fed v o.stream o.source o.octets count random way else Refuses UnknownStream)
stream_shown site up v count random o has way h w =
    let a = sym h in
    let b = sym w in
    λ i. if a i then fed v o.stream o.source o.octets count random (b i) else Refuses UnknownStream

no_stream : (site : Site) (up : ℕ → Bool) (v : View) (count : ℕ) (random : List ℕ) (f : Option Fact) → ◌≡◌ {A = Option Opened} None (opened_of f) → fed_stream site up v count random f ≡ Refuses UnknownStream
no_stream site up v count random (Some (Open stream source peer size route)) h = cc
no_stream site up v count random (Some (Key name master slave route bytes)) h = refl
no_stream site up v count random (Some (Chunk name stream index route bytes)) h = refl
no_stream site up v count random (Some (Stored note about route)) h = refl
no_stream site up v count random (Some (Joined note about route)) h = refl
no_stream site up v count random (Some (Part name key master slave route bytes)) h = refl
no_stream site up v count random None h = refl

module _ (site : Site) (up : ℕ → Bool) (v : View) (s : StreamEnds) (seen : Sees v s) (stream : Name) (count : ℕ) (random : List ℕ) where
  pub feed_none : ◌≡◌ {A = Option Opened} None (opened_of (fact_at s.ends.known.facts stream)) → feed site up v stream count random ≡ Refuses UnknownStream
  unfolding feed
  feed_none h = ap (λ (fs : List Fact). fed_stream site up v count random (fact_at fs stream)) seen.ends.facts ∙ no_stream site up v count random (fact_at s.ends.known.facts stream) h

  pub feed_some : (o : Opened) → Some o ≡ opened_of (fact_at s.ends.known.facts stream) → feed site up v stream count random ≡ fed_stream site up v count random (Some (opening o))
  unfolding feed
  feed_some o h =
      ap (λ (fs : List Fact). fed_stream site up v count random (fact_at fs stream)) seen.ends.facts
      ∙ ap (fed_stream site up v count random) (opened_some (fact_at s.ends.known.facts stream) o h)
