-- The same new chunks, made of other octets.
use Rattle.std.proofs.Common.{◌≡◌, ℕ, zero, suc, ◌+◌, ◌*◌, ◌≤◌, Bool, true, false, List, ◌∷◌, length, refl, ◌∙◌, ap, arith, take, drop, Option, Some, None}
use Rattle.std.proofs.lemmas.List.{length-take}
use Rattle.std.specs.Prelude.{nat_lt, count_by, if◌then◌else◌}
use Rattle.qkd_base.specs.Name.{Name}
use Rattle.qkd_base.specs.declared.key_name.NameKind.TheVariants.{Key as KeyKind}
use Rattle.net_model.specs.declared.fact.Fact.{Fact}
use Rattle.net_model.specs.declared.fact.Fact.TheVariants.{Key, Chunk, Stored, Open, Joined, Part}
use Rattle.net_model.specs.declared.record.Record.{Record}
use Rattle.net_model.specs.declared.record.Record.TheVariants.{Learned}
use Rattle.net_model.specs.declared.reply.Reply.TheVariants.{UnknownStream, PoolFull, MadeKeys}
use Rattle.net_model.specs.Table.{fact_at}
use Rattle.net_model.specs.Site.{Site}
use Rattle.net_model.specs.Routes.{route}
use Rattle.net_model.specs.View.{View}
use Rattle.net_model.specs.Decision.{Refuses, makes, fresh_name}
use Rattle.net_model.specs.Streams.{is_chunk_of, has_end, waiting, new_chunks, fed, fed_stream, feed, chunk_size}
use Rattle.kme_base.specs.Random.{with_random, decision_over}
use Rattle.kme_keys.proofs.Overs.{over_as_many, in_front, behind}

taken : (size : ℕ) (xs : List ℕ) → size ≤ length xs → length (take size xs) ≡ size
taken size xs le = let e = length-take size xs in omega arith

pub chunks_over : (v : View) (stream : Name) (way : List ℕ) (size next : ℕ) (zeros random : List ℕ) (more count : ℕ) → size * count ≤ length zeros → size * count ≤ length random →
    with_random random (new_chunks v stream way size next zeros more count) ≡ new_chunks v stream way size next random more count
chunks_over v stream way size next zeros random more zero z r = refl
chunks_over v stream way size next zeros random more (suc k) z r =
    let bytes = over_as_many size zeros random (in_front size k (length zeros) z) (in_front size k (length random) r) in
    let spent = taken size zeros (in_front size k (length zeros) z) in
    let rest = ap (λ (n : ℕ). with_random (drop n random) (new_chunks v stream way size next (drop size zeros) (more + 1) k)) spent
    ∙ chunks_over v stream way size next (drop size zeros) (drop size random) (more + 1) k (behind size k zeros z) (behind size k random r) in
    (λ i. Learned (Chunk (fresh_name v KeyKind more) stream (next + more) way (bytes i)) ∷ rest i)

fed_over : (v : View) (stream : Name) (source size count : ℕ) (zeros random : List ℕ) (way : Option (List ℕ)) → size * count ≤ length zeros → size * count ≤ length random →
    decision_over random (fed v stream source size count zeros way) ≡ fed v stream source size count random way
fed_over v stream source size count zeros random None z r = refl
fed_over v stream source size count zeros random (Some way) z r = by (nat_lt 4096 (waiting v stream source + count))
  where
    by : (full : Bool) →
        decision_over random (if full then Refuses PoolFull else makes v (new_chunks v stream way size (count_by (is_chunk_of stream) v.facts) zeros 0 count) (MadeKeys count (fresh_name v KeyKind 0)))
        ≡ (if full then Refuses PoolFull else makes v (new_chunks v stream way size (count_by (is_chunk_of stream) v.facts) random 0 count) (MadeKeys count (fresh_name v KeyKind 0)))
    by true = refl
    by false = ap (λ (batch : List Record). makes v batch (MadeKeys count (fresh_name v KeyKind 0))) (chunks_over v stream way size (count_by (is_chunk_of stream) v.facts) zeros random 0 count z r)

stream_over : (site : Site) (up : ℕ → Bool) (v : View) (count : ℕ) (zeros random : List ℕ) (f : Option Fact) → chunk_size f * count ≤ length zeros → chunk_size f * count ≤ length random →
    decision_over random (fed_stream site up v count zeros f) ≡ fed_stream site up v count random f
stream_over site up v count zeros random (Some (Open stream source peer size nodes)) z r = by (has_end site v stream source)
  where
    by : (has : Bool) → decision_over random (if has then fed v stream source size count zeros (route site up v.me (site.home peer)) else Refuses UnknownStream)
        ≡ (if has then fed v stream source size count random (route site up v.me (site.home peer)) else Refuses UnknownStream)
    by false = refl
    by true = fed_over v stream source size count zeros random (route site up v.me (site.home peer)) z r
stream_over site up v count zeros random (Some (Key name master slave way bytes)) z r = refl
stream_over site up v count zeros random (Some (Chunk name stream index way bytes)) z r = refl
stream_over site up v count zeros random (Some (Stored note about way)) z r = refl
stream_over site up v count zeros random (Some (Joined note about way)) z r = refl
stream_over site up v count zeros random (Some (Part name key master slave way bytes)) z r = refl
stream_over site up v count zeros random None z r = refl

pub feed_over : (site : Site) (up : ℕ → Bool) (v : View) (stream : Name) (count : ℕ) (zeros random : List ℕ) → chunk_size (fact_at v.facts stream) * count ≤ length zeros →
    chunk_size (fact_at v.facts stream) * count ≤ length random → decision_over random (feed site up v stream count zeros) ≡ feed site up v stream count random
unfolding feed
feed_over site up v stream count zeros random z r = stream_over site up v count zeros random (fact_at v.facts stream) z r
