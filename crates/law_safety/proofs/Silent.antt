-- Events whose replies hand out nothing mark nothing.
use Rattle.std.proofs.Common.{not, ◌≡◌, ℕ, ◌+◌, ◌*◌, ◌/◌, Bool, ◌&&◌, ◌||◌, List, [], refl, Option, Some, None}
use Rattle.std.specs.Prelude.{◌==◌, nat_lt, if◌then◌else◌, count_by, filter}
use Rattle.qkd_base.specs.Name.{Name}
use Rattle.net_model.specs.declared.fact.Fact.{Fact}
use Rattle.net_model.specs.declared.fact.Fact.TheVariants.{Open}
use Rattle.net_model.specs.Site.{Site}
use Rattle.net_model.specs.Routes.{route}
use Rattle.net_model.specs.Decision.{Decision, Refuses, Does}
use Rattle.net_model.specs.Pools.{is_entitled, unhanded, filled, fill, status}
use Rattle.net_model.specs.Groups.{unhanded_group, filled_group, routes_to, is_entitled_group, fill_group}
use Rattle.net_model.specs.Streams.{is_size, opened, open_stream, stream_here, has_joined, has_end, joins, join_stream, at_end, close_stream, waiting, fed, fed_stream, feed, is_chunk_of}
use Rattle.net_model.specs.Plan.{plan}
use Rattle.net_model.specs.View.{View, Port}
use Rattle.law_base.proofs.Base.{by_test}
use Rattle.law_safety.proofs.Marks.{marks, marks_keys, marks_chunks, marks_groups, marks_leases}

abbrev pub Unmarked : Decision → Type 0
Unmarked (Refuses reply) = Unit {0}
Unmarked (Does e) = marks e.batch ≡ []

either : (b : Bool) (x y : Decision) → Unmarked x → Unmarked y → Unmarked (if b then x else y)
either b x y h k = by_test Unmarked b x y (λ e. h) (λ e. k)

module _ (s : Site) (up : ℕ → Bool) (v : View) where
  filled_unmarked : (m t bits count : ℕ) (random : List ℕ) (o : Option (List ℕ)) → Unmarked (filled v m t bits count random o)
  filled_unmarked m t bits count random None = tt
  filled_unmarked m t bits count random (Some nodes) = either (nat_lt 4096 (unhanded v m t bits + count)) _ _ tt (marks_keys v m t nodes (bits / 8) random 0 count)

  pub fill_unmarked : (m t bits count : ℕ) (random : List ℕ) → Unmarked (fill s up v m t bits count random)
  unfolding fill
  fill_unmarked m t bits count random = either (not (is_entitled s v m m t)) _ _ tt (filled_unmarked m t bits count random (route s up v.me (s.home t)))

  fed_unmarked : (stream : Name) (source size count : ℕ) (random : List ℕ) (o : Option (List ℕ)) → Unmarked (fed v stream source size count random o)
  fed_unmarked stream source size count random None = tt
  fed_unmarked stream source size count random (Some nodes) =
      either (nat_lt 4096 (waiting v stream source + count)) _ _ tt (marks_chunks v stream nodes size (count_by (is_chunk_of stream) v.facts) random 0 count)

  fed_stream_unmarked : (count : ℕ) (random : List ℕ) (o : Option Fact) → Unmarked (fed_stream s up v count random o)
  fed_stream_unmarked count random (Some (Open stream source peer size nodes)) =
      either (has_end s v stream source) _ _ (fed_unmarked stream source size count random (route s up v.me (s.home peer))) tt
  fed_stream_unmarked count random _ = tt

  pub feed_unmarked : (stream : Name) (count : ℕ) (random : List ℕ) → Unmarked (feed s up v stream count random)
  unfolding feed
  feed_unmarked stream count random = fed_stream_unmarked count random _

  filled_group_unmarked : (m : ℕ) (slaves : List ℕ) (bits count : ℕ) (random : List ℕ) (o : Option (List (ℕ × List ℕ))) → Unmarked (filled_group v m slaves bits count random o)
  filled_group_unmarked m slaves bits count random None = tt
  filled_group_unmarked m slaves bits count random (Some ways) =
      either (nat_lt 4096 (unhanded_group v m slaves bits + count)) _ _ tt (marks_groups v m ways (bits / 8) random 0 count)

  pub fill_group_unmarked : (m : ℕ) (slaves : List ℕ) (bits count : ℕ) (random : List ℕ) → Unmarked (fill_group s up v m slaves bits count random)
  unfolding fill_group
  fill_group_unmarked m slaves bits count random =
      either (not (is_entitled_group s v m slaves)) _ _ tt (filled_group_unmarked m slaves bits count random (routes_to s up v.me slaves))

  opened_unmarked : (source peer bits : ℕ) (o : Option (List ℕ)) → Unmarked (opened v source peer bits o)
  opened_unmarked source peer bits None = refl
  opened_unmarked source peer bits (Some nodes) = refl

  pub open_unmarked : (source peer bits : ℕ) → Unmarked (open_stream s up v source peer bits)
  unfolding open_stream
  open_unmarked source peer bits =
      either (not (is_entitled s v source source peer)) _ _ refl (either (not (is_size bits)) _ _ refl (opened_unmarked source peer bits (route s up v.me (s.home peer))))

  joins_unmarked : (caller other bits : ℕ) (o : Option Fact) → Unmarked (joins s v caller other bits o)
  joins_unmarked caller other bits (Some (Open stream source peer size nodes)) =
      either ((caller == source) || ((caller == peer) && has_joined v stream)) _ _ refl
      (either (not ((caller == peer) && (other == source) && (s.home peer == v.me))) _ _ refl (either (not (8 * size == bits)) _ _ refl refl))
  joins_unmarked caller other bits _ = refl

  pub join_unmarked : (caller other : ℕ) (stream : Name) (bits : ℕ) → Unmarked (join_stream s v caller other stream bits)
  unfolding join_stream
  join_unmarked caller other stream bits = joins_unmarked caller other bits (stream_here s v stream)

  end_unmarked : (caller : ℕ) (o : Option Fact) (next : Name → ℕ → Decision) → ((n : Name) (source : ℕ) → Unmarked (next n source)) → Unmarked (at_end s v caller o next)
  end_unmarked caller (Some (Open stream source peer size nodes)) next h =
      either ((s.home peer == v.me) && not (has_joined v stream)) _ _ refl
      (either (not (((caller == source) && (s.home source == v.me)) || ((caller == peer) && (s.home peer == v.me)))) _ _ refl (h stream source))
  end_unmarked caller _ next h = refl

  pub close_unmarked : (caller : ℕ) (stream : Name) → Unmarked (close_stream s v caller stream)
  unfolding close_stream
  close_unmarked caller stream = end_unmarked caller (stream_here s v stream) _ (λ n source. refl)

  pub status_unmarked : (m t : ℕ) → Unmarked (status s v m t)
  unfolding status
  status_unmarked m t = either (not (is_entitled s v m m t)) _ _ tt refl

  pub plan_unmarked : marks (plan s up v).batch ≡ []
  unfolding plan
  plan_unmarked = marks_leases s v (filter (λ (p : Port). up p.lane.link) v.ports)
