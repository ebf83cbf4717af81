-- Facts that differ in bytes alone have payloads of equal lengths.
use Rattle.std.proofs.Common.{◌≡◌, ℕ, ◌+◌, ◌-◌, true, false, List, [], ◌∷◌, map, length, refl, sym, ap, ◌∙◌, Option, Some, None}
use Rattle.std.specs.Prelude.{is_some, option_map, if◌then◌else◌}
use Rattle.std.proofs.lemmas.List.{length-map, length-replicate}
use Rattle.qkd_base.specs.Name.{Name, name_eq}
use Rattle.net_model.specs.declared.fact.Fact.{Fact}
use Rattle.net_model.specs.declared.fact.Fact.TheVariants.{Key, Chunk, Stored, Open, Joined, Part}
use Rattle.net_model.specs.declared.payload.Payload.{Payload}
use Rattle.net_model.specs.Facts.{fact_len, payload_len}
use Rattle.net_model.specs.Table.{name_of, without_bytes, fact_at}
use Rattle.net_model.specs.Item.{Item, DataItem, AckItem, data_payload, payload, len_or_zero}
use Rattle.frame_codec.specs.Payload.{payload_octets}
use Rattle.net_world.specs.Other.{octets_or_none, DifferInBytes}
use Rattle.net_world.specs.Veiled.{veiled_fact, veiled_payload}

name_kept : (f : Fact) → name_of (without_bytes f) ≡ name_of f
name_kept (Key name master slave route bytes) = refl
name_kept (Chunk name stream index route bytes) = refl
name_kept (Stored note about route) = refl
name_kept (Open stream source peer size route) = refl
name_kept (Joined note about route) = refl
name_kept (Part name key master slave route bytes) = refl

found_bare : (facts : List Fact) (n : Name) → fact_at (map without_bytes facts) n ≡ option_map without_bytes (fact_at facts n)
found_bare [] n = refl
found_bare (f ∷ fs) n =
    ap (λ (m : Name). if name_eq m n then Some (without_bytes f) else fact_at (map without_bytes fs) n) (name_kept f) ∙
    elim (name_eq (name_of f) n) as (λ t. (if t then Some (without_bytes f) else fact_at (map without_bytes fs) n) ≡ option_map without_bytes (if t then Some f else fact_at fs n)) [
      | true ↦ refl
      | false ↦ found_bare fs n
    ]

-- the facts of one name are equal up to their bytes
pub same_bare : (facts others : List Fact) → DifferInBytes facts others → (n : Name) → option_map without_bytes (fact_at others n) ≡ option_map without_bytes (fact_at facts n)
same_bare facts others h n = sym (found_bare others n) ∙ ap (λ (l : List Fact). fact_at l n) h ∙ found_bare facts n

bare_len : (f : Fact) → fact_len (without_bytes f) ≡ fact_len f
bare_len (Key name master slave route bytes) = ap (λ (n : ℕ). 24 + length route + n) (length-replicate (length bytes) 0)
bare_len (Chunk name stream index route bytes) = ap (λ (n : ℕ). 40 + length route + n) (length-replicate (length bytes) 0)
bare_len (Stored note about route) = refl
bare_len (Open stream source peer size route) = refl
bare_len (Joined note about route) = refl
bare_len (Part name key master slave route bytes) = ap (λ (n : ℕ). 40 + length route + n) (length-replicate (length bytes) 0)

found_len : (a b : Option Fact) → option_map without_bytes a ≡ option_map without_bytes b → len_or_zero (data_payload a) ≡ len_or_zero (data_payload b)
found_len None None h = refl
found_len None (Some g) h = cc
found_len (Some f) None h = cc
found_len (Some f) (Some g) h = let same : without_bytes f ≡ without_bytes g = cc in sym (bare_len f) ∙ ap fact_len same ∙ bare_len g

found_some : (a b : Option Fact) → option_map without_bytes a ≡ option_map without_bytes b → is_some (data_payload a) ≡ is_some (data_payload b)
found_some None None h = refl
found_some None (Some g) h = cc
found_some (Some f) None h = cc
found_some (Some f) (Some g) h = refl

pub same_len : (facts others : List Fact) → DifferInBytes facts others → (i : Item) → len_or_zero (payload others i) ≡ len_or_zero (payload facts i)
same_len facts others h (DataItem n) = found_len (fact_at others n) (fact_at facts n) (same_bare facts others h n)
same_len facts others h (AckItem n) = refl

pub same_some : (facts others : List Fact) → DifferInBytes facts others → (i : Item) → is_some (payload others i) ≡ is_some (payload facts i)
same_some facts others h (DataItem n) = found_some (fact_at others n) (fact_at facts n) (same_bare facts others h n)
same_some facts others h (AckItem n) = refl

pub spelled_len : ((p : Payload) → length (payload_octets p) ≡ payload_len p) → (o : Option Payload) → length (octets_or_none o) ≡ len_or_zero o
spelled_len law None = refl
spelled_len law (Some p) = law p

-- ---- complemented bytes

veiled_bare : (f : Fact) → without_bytes (veiled_fact f) ≡ without_bytes f
veiled_bare (Key name master slave route bytes) = rw (length-map bytes (λ o. 255 - o)) refl
veiled_bare (Chunk name stream index route bytes) = rw (length-map bytes (λ o. 255 - o)) refl
veiled_bare (Stored note about route) = refl
veiled_bare (Open stream source peer size route) = refl
veiled_bare (Joined note about route) = refl
veiled_bare (Part name key master slave route bytes) = rw (length-map bytes (λ o. 255 - o)) refl

pub all_veiled_bare : (facts : List Fact) → DifferInBytes facts (map veiled_fact facts)
all_veiled_bare [] = refl
all_veiled_bare (f ∷ fs) = let here = veiled_bare f in let rest : map without_bytes (map veiled_fact fs) ≡ map without_bytes fs = all_veiled_bare fs in cc

veiled_name : (f : Fact) → name_of (veiled_fact f) ≡ name_of f
veiled_name (Key name master slave route bytes) = refl
veiled_name (Chunk name stream index route bytes) = refl
veiled_name (Stored note about route) = refl
veiled_name (Open stream source peer size route) = refl
veiled_name (Joined note about route) = refl
veiled_name (Part name key master slave route bytes) = refl

found_veiled : (facts : List Fact) (n : Name) → fact_at (map veiled_fact facts) n ≡ option_map veiled_fact (fact_at facts n)
found_veiled [] n = refl
found_veiled (f ∷ fs) n =
    ap (λ (m : Name). if name_eq m n then Some (veiled_fact f) else fact_at (map veiled_fact fs) n) (veiled_name f) ∙
    elim (name_eq (name_of f) n) as (λ t. (if t then Some (veiled_fact f) else fact_at (map veiled_fact fs) n) ≡ option_map veiled_fact (if t then Some f else fact_at fs n)) [
      | true ↦ refl
      | false ↦ found_veiled fs n
    ]

data_veiled : (o : Option Fact) → data_payload (option_map veiled_fact o) ≡ option_map veiled_payload (data_payload o)
data_veiled None = refl
data_veiled (Some f) = refl

-- the payload under the complemented facts is the complemented payload
pub payload_veiled : (facts : List Fact) (i : Item) → payload (map veiled_fact facts) i ≡ option_map veiled_payload (payload facts i)
payload_veiled facts (DataItem n) = ap data_payload (found_veiled facts n) ∙ data_veiled (fact_at facts n)
payload_veiled facts (AckItem n) = refl
