-- Which known facts a batch touches: only these may have bytes that aren't needed any more.
use Rattle.std.specs.Prelude.{◌≡◌, ℕ, ◌||◌, Bool, false, List, ◌++◌, map, Option, Some, None}
use Rattle.std.specs.List.{list_any}
use Rattle.qkd_base.specs.Name.{Name, name_eq, has}
use Rattle.net_model.specs.declared.fact.Fact.{Fact}
use Rattle.net_model.specs.declared.fact.Fact.TheVariants.{Chunk}
use Rattle.net_model.specs.Table.{PartOf, part_of, parts_of, name_of, without_bytes}
use Rattle.net_model.specs.View.{View}
use Rattle.net_model.specs.Fold.{is_stream_of}

-- The later view has the earlier one's facts, acknowledgements and handings, followed by these further ones.
pub record IsLater (before after : View) (facts : List Fact) (acked : List Name) (handed : List (Name × ℕ)) : Type 0 where
  pub me : after.me ≡ before.me
  pub facts_are : after.facts ≡ before.facts ++ facts
  pub acked_are : after.acked ≡ before.acked ++ acked
  pub handed_are : after.handed ≡ before.handed ++ handed

-- The later view has the earlier one's lists, each followed by some further items.
pub record Grows (before after : View) : Type 0 where
  pub facts : List Fact
  pub acked : List Name
  pub handed : List (Name × ℕ)
  pub later : IsLater before after facts acked handed

-- The two views differ at most in the bytes of their facts.
pub record IsAlike (a b : View) : Type 0 where
  pub me : a.me ≡ b.me
  pub acked : a.acked ≡ b.acked
  pub handed : a.handed ≡ b.handed
  pub facts : map without_bytes a.facts ≡ map without_bytes b.facts

-- Some application was handed the key of this name.
abbrev pub is_given : List (Name × ℕ) → Name → Bool
is_given handed n = list_any (λ h. name_eq h.0 n) handed

-- The fact is a part of a group key, and that key was handed out or one of its parts was acknowledged.
abbrev pub is_touched_part : List Fact → List Name → List (Name × ℕ) → Option PartOf → Bool
is_touched_part facts acked handed None = false
is_touched_part facts acked handed (Some p) = is_given handed p.key || list_any (λ g. has acked (name_of g)) (parts_of facts p.key)

-- The fact is a chunk of a stream that these facts open.
abbrev pub is_opened : List Fact → Fact → Bool
is_opened facts (Chunk name stream index route bytes) = list_any (is_stream_of stream) facts
is_opened facts _ = false

-- These further facts, acknowledgements and handings touch the known fact, so its bytes may be needed no longer.
abbrev pub is_touched : List Fact → List Fact → List Name → List (Name × ℕ) → Fact → Bool
is_touched known facts acked handed f = has acked (name_of f) || is_given handed (name_of f) || is_touched_part known acked handed (part_of f) || is_opened facts f
