-- Decisions that leave the manager's memory unchanged: all but those on plans, on frames and on what became of
-- frames.
use Rattle.std.proofs.Common.{◌≡◌, ℕ, ◌+◌, ◌*◌, Bool, not, ◌&&◌, ◌||◌, List, [], length, sym, ap, Option, Some, None}
use Rattle.std.specs.Prelude.{◌==◌, nat_lt, if◌then◌else◌}
use Rattle.qkd_base.specs.Name.{Name}
use Rattle.net_model.specs.declared.fact.Fact.{Fact}
use Rattle.net_model.specs.declared.fact.Fact.TheVariants.{Open as OpenFact}
use Rattle.net_model.specs.declared.record.Record.{Record}
use Rattle.net_model.specs.declared.reply.Reply.{Reply}
use Rattle.net_model.specs.Table.{fact_at, name_of, was_handed}
use Rattle.net_model.specs.Site.{Site}
use Rattle.net_model.specs.View.{View}
use Rattle.net_model.specs.Decision.{Decision, Refuses, Does, Effect, makes, is_confirmed}
use Rattle.net_model.specs.Routes.{route}
use Rattle.net_model.specs.Pools.{is_entitled, pool, unhanded, filled, fill, enc, decs, dec_fault, dec, status}
use Rattle.net_model.specs.Groups.{is_entitled_group, group, unhanded_group, filled_group, routes_to, fill_group, enc_group}
use Rattle.net_model.specs.Streams.{is_size, has_end, has_joined, waiting, opened, open_stream, stream_here, joins, join_stream, at_end, chunk_at, gives_chunk, get_chunk, close_stream, fed, fed_stream, feed}
use Rattle.law_base.proofs.Base.{by_test}

-- If the decision has an effect, the effect leaves the memory unchanged.
pub record Keeps (v : View) (d : Decision) : Type 0 where
  pub kept : (e : Effect) → d ≡ Does e → e.volatile ≡ v.volatile

module _ (v : View) where
  refused : (reply : Reply) → Keeps v (Refuses reply)
  refused reply = record { kept = λ e h. cc }

  same_effect : (a b : Effect) → ◌≡◌ {A = Decision} (Does a) (Does b) → a ≡ b
  same_effect a b h = cc

  pub made : (batch : List Record) (reply : Reply) → Keeps v (makes v batch reply)
  made batch reply = record { kept = λ e h. sym (ap (λ (x : Effect). x.volatile) (same_effect _ e h)) }

  pub either : (b : Bool) (x y : Decision) → Keeps v x → Keeps v y → Keeps v (if b then x else y)
  either b x y h k = by_test (Keeps v) b x y (λ e. h) (λ e. k)

  pub block_keeps : (full : Bool) (refusal reply : Reply) (batch : List Record) → Keeps v (if full then Refuses refusal else makes v batch reply)
  block_keeps full refusal reply batch = either full _ _ (refused refusal) (made batch reply)

  filled_keeps : (m s bits count : ℕ) (random : List ℕ) (way : Option (List ℕ)) → Keeps v (filled v m s bits count random way)
  filled_keeps m s bits count random None = refused _
  filled_keeps m s bits count random (Some way) = either (nat_lt 4096 (unhanded v m s bits + count)) _ _ (refused _) (made _ _)

  pub fill_keeps : (site : Site) (up : ℕ → Bool) (m s bits count : ℕ) (random : List ℕ) → Keeps v (fill site up v m s bits count random)
  unfolding fill
  fill_keeps site up m s bits count random =
      either (not (is_entitled site v m m s)) _ _ (refused _) (filled_keeps m s bits count random (route site up v.me (site.home s)))

  pub enc_keeps : (site : Site) (m s n bits : ℕ) → Keeps v (enc site v m s n bits)
  unfolding enc
  enc_keeps site m s n bits =
      either (not (is_entitled site v m m s)) _ _ (refused _) (either (nat_lt (length (pool v m s bits)) n) _ _ (refused _) (made _ _))

  decs_keeps : (m s : ℕ) (names : List Name) (fault : Option Reply) → Keeps v (decs v m s names fault)
  decs_keeps m s names None = made _ _
  decs_keeps m s names (Some fault) = refused fault

  pub dec_keeps : (site : Site) (s m : ℕ) (names : List Name) → Keeps v (dec site v s m names)
  unfolding dec
  dec_keeps site s m names = either (not (is_entitled site v s m s)) _ _ (refused _) (decs_keeps m s names (dec_fault v m s [] names))

  pub status_keeps : (site : Site) (m s : ℕ) → Keeps v (status site v m s)
  unfolding status
  status_keeps site m s = either (not (is_entitled site v m m s)) _ _ (refused _) (made _ _)

  filled_group_keeps : (m : ℕ) (slaves : List ℕ) (bits count : ℕ) (random : List ℕ) (ways : Option (List (ℕ × List ℕ))) → Keeps v (filled_group v m slaves bits count random ways)
  filled_group_keeps m slaves bits count random None = refused _
  filled_group_keeps m slaves bits count random (Some ways) = either (nat_lt 4096 (unhanded_group v m slaves bits + count)) _ _ (refused _) (made _ _)

  pub fill_group_keeps : (site : Site) (up : ℕ → Bool) (m : ℕ) (slaves : List ℕ) (bits count : ℕ) (random : List ℕ) → Keeps v (fill_group site up v m slaves bits count random)
  unfolding fill_group
  fill_group_keeps site up m slaves bits count random =
      either (not (is_entitled_group site v m slaves)) _ _ (refused _) (filled_group_keeps m slaves bits count random (routes_to site up v.me slaves))

  pub enc_group_keeps : (site : Site) (m : ℕ) (slaves : List ℕ) (n bits : ℕ) → Keeps v (enc_group site v m slaves n bits)
  unfolding enc_group
  enc_group_keeps site m slaves n bits =
      either (not (is_entitled_group site v m slaves)) _ _ (refused _) (either (nat_lt (length (group v m slaves bits)) n) _ _ (refused _) (made _ _))

  opened_keeps : (source peer bits : ℕ) (way : Option (List ℕ)) → Keeps v (opened v source peer bits way)
  opened_keeps source peer bits None = made _ _
  opened_keeps source peer bits (Some way) = made _ _

  pub open_keeps : (site : Site) (up : ℕ → Bool) (source peer bits : ℕ) → Keeps v (open_stream site up v source peer bits)
  unfolding open_stream
  open_keeps site up source peer bits =
      either (not (is_entitled site v source source peer)) _ _ (made _ _)
      (either (not (is_size bits)) _ _ (made _ _) (opened_keeps source peer bits (route site up v.me (site.home peer))))

  joins_keeps : (site : Site) (caller other bits : ℕ) (stream : Option Fact) → Keeps v (joins site v caller other bits stream)
  joins_keeps site caller other bits (Some (OpenFact stream source peer size way)) =
      either ((caller == source) || ((caller == peer) && has_joined v stream)) _ _ (made _ _)
      (either (not ((caller == peer) && (other == source) && (site.home peer == v.me))) _ _ (made _ _)
      (either (not (8 * size == bits)) _ _ (made _ _) (made _ _)))
  joins_keeps site caller other bits _ = made _ _

  pub join_keeps : (site : Site) (caller other : ℕ) (stream : Name) (bits : ℕ) → Keeps v (join_stream site v caller other stream bits)
  unfolding join_stream
  join_keeps site caller other stream bits = joins_keeps site caller other bits (stream_here site v stream)

  at_end_keeps : (site : Site) (caller : ℕ) (stream : Option Fact) (next : Name → ℕ → Decision) → ((s : Name) (source : ℕ) → Keeps v (next s source)) → Keeps v (at_end site v caller stream next)
  at_end_keeps site caller (Some (OpenFact stream source peer size way)) next each =
      either ((site.home peer == v.me) && not (has_joined v stream)) _ _ (made _ _)
      (either (not (((caller == source) && (site.home source == v.me)) || ((caller == peer) && (site.home peer == v.me)))) _ _ (made _ _) (each stream source))
  at_end_keeps site caller _ next each = made _ _

  gives_keeps : (caller index : ℕ) (at_source : Bool) (chunk : Option Fact) → Keeps v (gives_chunk v caller index at_source chunk)
  gives_keeps caller index at_source None = made _ _
  gives_keeps caller index at_source (Some f) =
      either (was_handed v.handed (name_of f) caller) _ _ (made _ _) (either (at_source && not (is_confirmed v (name_of f))) _ _ (made _ _) (made _ _))

  pub get_keeps : (site : Site) (caller : ℕ) (stream : Name) (index : ℕ) → Keeps v (get_chunk site v caller stream index)
  unfolding get_chunk
  get_keeps site caller stream index =
      at_end_keeps site caller (stream_here site v stream) _
      (λ s source. either ((caller == source) && not (has_joined v s)) _ _ (made _ _) (gives_keeps caller index (caller == source) (chunk_at v s index)))

  pub close_keeps : (site : Site) (caller : ℕ) (stream : Name) → Keeps v (close_stream site v caller stream)
  unfolding close_stream
  close_keeps site caller stream = at_end_keeps site caller (stream_here site v stream) _ (λ s source. made _ _)

  fed_keeps : (stream : Name) (source size count : ℕ) (random : List ℕ) (way : Option (List ℕ)) → Keeps v (fed v stream source size count random way)
  fed_keeps stream source size count random None = refused _
  fed_keeps stream source size count random (Some way) = either (nat_lt 4096 (waiting v stream source + count)) _ _ (refused _) (made _ _)

  fed_stream_keeps : (site : Site) (up : ℕ → Bool) (count : ℕ) (random : List ℕ) (stream : Option Fact) → Keeps v (fed_stream site up v count random stream)
  fed_stream_keeps site up count random (Some (OpenFact stream source peer size nodes)) =
      either (has_end site v stream source) _ _ (fed_keeps stream source size count random (route site up v.me (site.home peer))) (refused _)
  fed_stream_keeps site up count random _ = refused _

  pub feed_keeps : (site : Site) (up : ℕ → Bool) (stream : Name) (count : ℕ) (random : List ℕ) → Keeps v (feed site up v stream count random)
  unfolding feed
  feed_keeps site up stream count random = fed_stream_keeps site up count random (fact_at v.facts stream)
