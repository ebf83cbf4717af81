-- The number of chunks of a stream that are known, and how many of them its source has got.
use Rattle.std.specs.Prelude.{◌≡◌, ℕ, ◌-◌, ◌&&◌, Bool, false, List, [], ◌∷◌, length, take, slice_get, count_by, Option, Some, None}
use Rattle.std.specs.Ordering.{nat_cmp, is_eq}
use Rattle.std.specs.Cmp.Lexicographic.{slice_cmp}
use Rattle.std.specs.Map.{lookup}
use Rattle.qkd_base.specs.Name.{Name, name_eq, kind_number}
use Rattle.net_model.specs.declared.fact.Fact.{Fact}
use Rattle.net_model.specs.declared.fact.Fact.TheVariants.{Chunk, Open}
use Rattle.net_model.specs.Table.{name_of, was_handed}
use Rattle.net_model.specs.Streams.{is_chunk_of}
use Rattle.stream_core.specs.declared.tallies.Tally.{Tally}

abbrev pub stream_key : Name → List ℕ
stream_key s = s.node ∷ kind_number s.kind ∷ s.count ∷ []

-- the tally of a stream
abbrev pub tally_at : List (List ℕ × Tally) → Name → Option Tally
tally_at tallies s = lookup (λ key. is_eq (slice_cmp nat_cmp (stream_key s) key)) tallies

-- the stream now has this tally or none, and all other streams keep theirs
pub record IsPut (old new : List (List ℕ × Tally)) (s : Name) (t : Tally) : Type 0 where
  pub own : (u : Tally) → tally_at new s ≡ Some u → u ≡ t
  pub others : (r : Name) → name_eq s r ≡ false → tally_at new r ≡ tally_at old r

-- the fact is a chunk of the stream, and the application has got it
abbrev pub is_given : List (Name × ℕ) → Name → ℕ → Fact → Bool
is_given handed s sae f = is_chunk_of s f && was_handed handed (name_of f) sae

pub record IsTally (facts : List Fact) (handed : List (Name × ℕ)) (s : Name) (t : Tally) : Type 0 where
  pub chunks : t.chunks ≡ count_by (is_chunk_of s) facts
  pub given : t.given ≡ count_by (is_given handed s t.source) facts

-- each cached tally is right
pub record AreTallies (facts : List Fact) (handed : List (Name × ℕ)) (tallies : List (List ℕ × Tally)) : Type 0 where
  pub right : (s : Name) (t : Tally) → tally_at tallies s ≡ Some t → IsTally facts handed s t

-- all facts but the one that was learned last
abbrev pub all_but_last : List Fact → List Fact
all_but_last facts = take (length facts - 1) facts

abbrev pub last_of_facts : List Fact → Option Fact
last_of_facts facts = slice_get facts (length facts - 1)

-- the stream of a chunk
abbrev pub chunk_stream : Option Fact → Option Name
chunk_stream (Some (Chunk name stream index route bytes)) = Some stream
chunk_stream _ = None

-- the source of the stream that a fact opens
abbrev pub source_of : Option Fact → Option ℕ
source_of (Some (Open stream source peer size route)) = Some source
source_of _ = None

-- the application has got the key or chunk that this fact is
abbrev pub was_given : List (Name × ℕ) → ℕ → Option Fact → Bool
was_given handed sae (Some f) = was_handed handed (name_of f) sae
was_given handed sae None = false
