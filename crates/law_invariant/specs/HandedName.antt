-- The names under which bytes are handed out, and places of bytes that don't overlap.
use Rattle.std.specs.Prelude.{ℕ, ◌+◌, ◌≤◌, length, ◌⊎◌}
use Rattle.qkd_base.specs.Name.{Name}
use Rattle.net_model.specs.declared.fact.Fact.{Fact}
use Rattle.net_model.specs.declared.fact.Fact.TheVariants.{Key, Chunk, Stored, Open, Joined, Part}
use Rattle.net_model.specs.Table.{bytes_of}

-- The name under which bytes are handed out: a key's own name, a chunk's own name, or the name of a part's group key.
abbrev pub handed_name : Fact → Name
handed_name (Key name master slave route bytes) = name
handed_name (Chunk name stream index route bytes) = name
handed_name (Part name key master slave route bytes) = key
handed_name (Stored note about route) = note
handed_name (Open stream source peer size route) = stream
handed_name (Joined note about route) = note

-- The bytes of one of the facts end before those of the other begin.
abbrev pub AreApart : (Name → ℕ) → Fact → Fact → Type 0
AreApart place f g =
    (place (handed_name f) + length (bytes_of f) ≤ place (handed_name g)) ⊎ (place (handed_name g) + length (bytes_of g) ≤ place (handed_name f))
