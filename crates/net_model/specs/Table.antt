-- The table of all facts. A fact is found by its name, and facts are added but never changed.
use Rattle.std.specs.Prelude.{ℕ, ◌==◌, ◌&&◌, Bool, true, false, List, [], ◌∷◌, ◌++◌, length, find, filter, filter_map, replicate, is_some, Option, Some, None, if◌then◌else◌}
use Rattle.std.specs.List.{list_any}
use Rattle.qkd_base.specs.Name.{Name, name_eq}
use Rattle.qkd_base.specs.Route.{first_of, last_of}
use Rattle.net_model.specs.declared.fact.Fact.{Fact}
use Rattle.net_model.specs.declared.fact.Fact.TheVariants.{Key, Chunk, Stored, Open, Joined, Part}

abbrev pub name_of : Fact → Name
name_of (Key name master slave route bytes) = name
name_of (Chunk name stream index route bytes) = name
name_of (Stored note about route) = note
name_of (Open stream source peer size route) = stream
name_of (Joined note about route) = note
name_of (Part name key master slave route bytes) = name

abbrev pub route_of : Fact → List ℕ
route_of (Key name master slave route bytes) = route
route_of (Chunk name stream index route bytes) = route
route_of (Stored note about route) = route
route_of (Open stream source peer size route) = route
route_of (Joined note about route) = route
route_of (Part name key master slave route bytes) = route

abbrev pub origin : Fact → ℕ
origin f = first_of (route_of f)

abbrev pub target : Fact → ℕ
target f = last_of (route_of f)

-- the facts whose bytes are handed out to applications
abbrev pub is_secret : Fact → Bool
is_secret (Key name master slave route bytes) = true
is_secret (Chunk name stream index route bytes) = true
is_secret (Part name key master slave route bytes) = true
is_secret _ = false

abbrev pub bytes_of : Fact → List ℕ
bytes_of (Key name master slave route bytes) = bytes
bytes_of (Chunk name stream index route bytes) = bytes
bytes_of (Part name key master slave route bytes) = bytes
bytes_of _ = []

abbrev pub zeros_for : List ℕ → List ℕ
zeros_for bytes = replicate (length bytes) 0

-- the fact with zeros in place of its bytes
abbrev pub without_bytes : Fact → Fact
without_bytes (Key name master slave route bytes) = Key name master slave route (zeros_for bytes)
without_bytes (Chunk name stream index route bytes) = Chunk name stream index route (zeros_for bytes)
without_bytes (Part name key master slave route bytes) = Part name key master slave route (zeros_for bytes)
without_bytes f = f

-- The fact of a name. It is the first in the list, so facts that are appended never change the answer.
abbrev pub fact_at : List Fact → Name → Option Fact
fact_at facts n = find (λ f. name_eq (name_of f) n) facts

abbrev pub has_fact : List Fact → Name → Bool
has_fact facts n = is_some (fact_at facts n)

-- the table with one more fact, unless it has one of that name
abbrev pub learned : List Fact → Fact → List Fact
learned facts f = if has_fact facts (name_of f) then facts else facts ++ f ∷ []

-- the facts of these names
abbrev pub facts_of : List Fact → List Name → List Fact
facts_of facts ns = filter_map (fact_at facts) ns

-- the group key of a part, its master and slave, and its bytes
pub record PartOf : Type 0 where
  pub key : Name
  pub master : ℕ
  pub slave : ℕ
  pub bytes : List ℕ

abbrev pub part_of : Fact → Option PartOf
part_of (Part name key master slave route bytes) = Some (record { key = key; master = master; slave = slave; bytes = bytes })
part_of _ = None

abbrev pub is_named : Option PartOf → Name → Bool
is_named None n = false
is_named (Some p) n = name_eq p.key n

abbrev pub is_part_of : Name → Fact → Bool
is_part_of n f = is_named (part_of f) n

-- the parts of the group key of this name
abbrev pub parts_of : List Fact → Name → List Fact
parts_of facts n = filter (is_part_of n) facts

-- a Stored note about this name
abbrev pub is_stored_about : Name → Fact → Bool
is_stored_about n (Stored note about route) = name_eq about n
is_stored_about n _ = false

-- a Joined note about this stream
abbrev pub is_joined_about : Name → Fact → Bool
is_joined_about n (Joined note about route) = name_eq about n
is_joined_about n _ = false

-- the list has this pair of a name and an application
abbrev pub was_handed : List (Name × ℕ) → Name → ℕ → Bool
was_handed handed n sae = list_any (λ h. name_eq h.0 n && (h.1 == sae)) handed

-- the application at the first or at the last node of a stream's route
abbrev pub stream_end : Bool → Option Fact → Option ℕ
stream_end at_first (Some (Open stream source peer size route)) = Some (if at_first then source else peer)
stream_end at_first _ = None

-- The application at the first or at the last node of the route of a key, chunk or part. That of a chunk is found in
-- its stream.
abbrev pub sae_at : List Fact → Bool → Fact → Option ℕ
sae_at facts at_first (Key name master slave route bytes) = Some (if at_first then master else slave)
sae_at facts at_first (Chunk name stream index route bytes) = stream_end at_first (fact_at facts stream)
sae_at facts at_first (Part name key master slave route bytes) = Some (if at_first then master else slave)
sae_at facts at_first _ = None

-- the kind octet of a fact as it is encoded
abbrev pub kind_of : Fact → ℕ
kind_of (Key name master slave route bytes) = 1
kind_of (Stored note about route) = 2
kind_of (Open stream source peer size route) = 4
kind_of (Joined note about route) = 5
kind_of (Chunk name stream index route bytes) = 6
kind_of (Part name key master slave route bytes) = 7
