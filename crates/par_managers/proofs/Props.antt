-- Facts that have at most one proof.
use Rattle.std.proofs.Common.{ℕ, List, [], ◌∷◌}
use Rattle.std.specs.List.{AllByRecursion}
use Rattle.std.specs.Coded.{×_prop, Unit-prop, le_prop, Coded-set, coded_bool, coded_ℕ}
use mathlib.Core.Sum.{⊎_set}
use Rattle.qkd_base.specs.declared.key_name.NameKind.{NameKind}
use Rattle.net_model.specs.declared.fact.Fact.{Fact}
use Rattle.net_model.specs.declared.fact.Fact.TheVariants.{Key, Chunk, Stored, Open, Joined, Part}
use Rattle.net_model.specs.declared.payload.Payload.{Payload}
use Rattle.net_model.specs.declared.payload.Payload.TheVariants.{Data, Ack}
use Rattle.net_model.specs.Facts.{IsWellFormed, IsWellFormedFact}
use Rattle.net_model.specs.Site.{Site}
use Rattle.net_model.specs.Tick.{Emission, Again, New}
use Rattle.par_managers.specs.Wanted.{CanLeave}

kind_set : IsSet NameKind
kind_set = hlevel (⊎_set)

formed_fact : (f : Fact) → IsProp (IsWellFormedFact f)
formed_fact (Key name master slave route bytes) = hlevel (le_prop, kind_set)
formed_fact (Chunk name stream index route bytes) = hlevel (le_prop, kind_set)
formed_fact (Stored note about route) = hlevel (le_prop, kind_set)
formed_fact (Open stream source peer size route) = hlevel (le_prop, kind_set)
formed_fact (Joined note about route) = hlevel (le_prop, kind_set)
formed_fact (Part name key master slave route bytes) = hlevel (le_prop, kind_set)

pub formed_prop : (p : Payload) → IsProp (IsWellFormed p)
formed_prop (Data f) = formed_fact f
formed_prop (Ack n) = Unit-prop

pub all_prop : {A : Type 0} (P : A → Type 0) → ((x : A) → IsProp (P x)) → (xs : List A) → IsProp (AllByRecursion P xs)
all_prop P h [] = Unit-prop
all_prop P h (x ∷ xs) = ×_prop (h x) (all_prop P h xs)

pub can_prop : (s : Site) (v : ℕ) (e : Emission) → IsProp (CanLeave s v e)
can_prop s v (Again r) = hlevel (le_prop, coded_ℕ, coded_bool, Coded-set)
can_prop s v (New o) = hlevel (le_prop, coded_ℕ, coded_bool, Coded-set, formed_prop)
