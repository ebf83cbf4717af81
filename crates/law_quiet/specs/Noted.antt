-- The Stored note that a target makes of each fact that it receives.
use Rattle.std.specs.Prelude.{◌≡◌, ℕ, true, List, reverse, slice_get, Some}
use Rattle.qkd_base.specs.Name.{Name, has}
use Rattle.net_model.specs.declared.fact.Fact.{Fact}
use Rattle.net_model.specs.declared.fact.Fact.TheVariants.{Stored}
use Rattle.net_model.specs.declared.record.Record.{Record}
use Rattle.net_model.specs.declared.record.Record.TheVariants.{Learned}
use Rattle.net_model.specs.Table.{name_of, route_of, target, fact_at, is_secret}
use Rattle.net_model.specs.World.{World}

-- The table has a Stored note about the fact of this name, which goes back along the fact's route.
pub record HasNote (facts : List Fact) (n : Name) (f : Fact) : Type 0 where
  pub note : Name
  pub there : fact_at facts note ≡ Some (Stored note n (reverse (route_of f)))

-- The table has such a note about each key, chunk and part that its target knows.
abbrev pub AreNoted : List Fact → (ℕ → List Name) → Type 0
AreNoted facts known = (n : Name) (f : Fact) → fact_at facts n ≡ Some f → is_secret f ≡ true → has (known (target f)) n ≡ true → HasNote facts n f

-- If the batch teaches a node a key, chunk or part whose target this node is, the batch has such a note too.
abbrev pub NotesAll : ℕ → List Record → Type 0
NotesAll v batch = (k : ℕ) (f : Fact) → slice_get batch k ≡ Some (Learned f) → is_secret f ≡ true → target f ≡ v →
    (note : Name) × (j : ℕ) × (slice_get batch j ≡ Some (Learned (Stored note (name_of f) (reverse (route_of f)))))

-- It is so in the table, and in each batch in doubt.
pub record IsNoted (w : World) : Type 0 where
  pub table : AreNoted w.durable.facts w.durable.known
  pub doubts : (v : ℕ) → NotesAll v (w.in_doubt v).batch
