-- Who got which key. Each application gets a key at most once, and only if it is entitled to it. A master or source
-- gets it only after the key's target confirmed it.
use Rattle.std.specs.Prelude.{◌≡◌, ℕ, Bool, true, false, List, [], ◌∷◌, Some, ◌⊎◌}
use Rattle.qkd_base.specs.Name.{Name, has}
use Rattle.net_model.specs.declared.fact.Fact.{Fact}
use Rattle.net_model.specs.declared.fact.Fact.TheVariants.{Key, Chunk}
use Rattle.net_model.specs.Table.{PartOf, part_of, fact_at, is_stored_about, was_handed, sae_at}
use Rattle.net_model.specs.Site.{Site}

abbrev pub PairsDiffer : List (Name × ℕ) → Type 0
PairsDiffer [] = Unit {0}
PairsDiffer (h ∷ hs) = (was_handed hs h.0 h.1 ≡ false) × PairsDiffer hs

-- the node knows a Stored note about this name
pub record KnowsStored (facts : List Fact) (known : List Name) (n : Name) : Type 0 where
  pub note : Name
  pub fact : Fact
  pub there : fact_at facts note ≡ Some fact
  pub about : is_stored_about n fact ≡ true
  pub knows : has known note ≡ true

-- a key or a chunk, which is handed out under its own name
abbrev pub is_single : Fact → Bool
is_single (Key name master slave route bytes) = true
is_single (Chunk name stream index route bytes) = true
is_single _ = false

-- The application is an end of a key or chunk that its home knows. For a master or source, the key is also confirmed.
pub record MayHaveOne (s : Site) (facts : List Fact) (known : ℕ → List Name) (n : Name) (sae : ℕ) : Type 0 where
  pub fact : Fact
  pub there : fact_at facts n ≡ Some fact
  pub single : is_single fact ≡ true
  pub knows : has (known (s.home sae)) n ≡ true
  pub is_end : ((sae_at facts true fact ≡ Some sae) × KnowsStored facts (known (s.home sae)) n) ⊎ (sae_at facts false fact ≡ Some sae)

-- p is the name of a part of the group key n
pub record IsPart (facts : List Fact) (n p : Name) : Type 0 where
  pub fact : Fact
  pub part : PartOf
  pub there : fact_at facts p ≡ Some fact
  pub is : part_of fact ≡ Some part
  pub key : part.key ≡ n

-- A master may have a group key if its home knows all parts, and a Stored note of each. A slave may have it if its home
-- knows the slave's part.
pub record MayHaveGroup (s : Site) (facts : List Fact) (known : ℕ → List Name) (n : Name) (sae : ℕ) : Type 0 where
  pub name : Name
  pub one : IsPart facts n name
  pub is_end :
      ((one.part.master ≡ sae) × ((p : Name) → IsPart facts n p → (has (known (s.home sae)) p ≡ true) × KnowsStored facts (known (s.home sae)) p)) ⊎
      ((one.part.slave ≡ sae) × (has (known (s.home sae)) name ≡ true))

abbrev pub MayHave : Site → List Fact → (ℕ → List Name) → Name → ℕ → Type 0
MayHave s facts known n sae = MayHaveOne s facts known n sae ⊎ MayHaveGroup s facts known n sae

pub record IsHanded (s : Site) (facts : List Fact) (known : ℕ → List Name) (handed : List (Name × ℕ)) : Type 0 where
  pub differ : PairsDiffer handed
  pub entitled : (n : Name) (sae : ℕ) → was_handed handed n sae ≡ true → MayHave s facts known n sae
