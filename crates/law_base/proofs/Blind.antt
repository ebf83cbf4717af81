-- Whether a fact's bytes are needed doesn't depend on any bytes.
use Rattle.std.proofs.Common.{◌≡◌, ℕ, Bool, true, false, cond, not, ◌||◌, List, [], ◌∷◌, refl, sym, ◌∙◌, ap, Option, Some, None, map}
use Rattle.std.specs.Prelude.{if◌then◌else◌, ◌==◌, filter}
use Rattle.std.specs.List.{list_any}
use Rattle.std.proofs.lemmas.List.{length-replicate}
use Rattle.qkd_base.specs.Name.{Name, name_eq}
use Rattle.net_model.specs.declared.fact.Fact.{Fact}
use Rattle.net_model.specs.declared.fact.Fact.TheVariants.{Key, Chunk, Stored, Open, Joined, Part}
use Rattle.net_model.specs.Table.{PartOf, part_of, is_part_of, name_of, fact_at, origin, target, zeros_for, without_bytes, was_handed, stream_end, sae_at}
use Rattle.net_model.specs.World.{no_volatile}
use Rattle.net_model.specs.View.{View}
use Rattle.net_model.specs.Needed.{is_owed, has_it, end_needs, is_needed, masked_fact, masked}
use Rattle.law_base.proofs.Masked.{IsBlind, masked_same, name_blind, part_blind}
use Rattle.law_base.specs.Touched.{IsAlike}

abbrev pub shapes : List Fact → List Fact
shapes fs = map without_bytes fs

-- A view with just the lists on which needs depend.
abbrev pub knowing : ℕ → List Fact → List Name → List (Name × ℕ) → View
knowing me facts acked handed = record { me = me; facts = facts; acked = acked; handed = handed; closed = []; ports = []; volatile = no_volatile }

zeros_twice : (b : List ℕ) → zeros_for (zeros_for b) ≡ zeros_for b
zeros_twice b = rw (length-replicate) refl

pub shape_blind : IsBlind without_bytes
shape_blind (Key name master slave route bytes) = ap (Key name master slave route) (zeros_twice bytes)
shape_blind (Chunk name stream index route bytes) = ap (Chunk name stream index route) (zeros_twice bytes)
shape_blind (Stored note about route) = refl
shape_blind (Open stream source peer size route) = refl
shape_blind (Joined note about route) = refl
shape_blind (Part name key master slave route bytes) = ap (Part name key master slave route) (zeros_twice bytes)

stream_one : (b : Bool) (f : Fact) → stream_end b (Some (without_bytes f)) ≡ stream_end b (Some f)
stream_one b (Key name master slave route bytes) = refl
stream_one b (Chunk name stream index route bytes) = refl
stream_one b (Stored note about route) = refl
stream_one b (Open stream source peer size route) = refl
stream_one b (Joined note about route) = refl
stream_one b (Part name key master slave route bytes) = refl

stream_shapes : (b : Bool) (n : Name) (fs : List Fact) → stream_end b (fact_at (shapes fs) n) ≡ stream_end b (fact_at fs n)
stream_shapes b n [] = refl
stream_shapes b n (x ∷ fs) =
    ap (λ (m : Name). stream_end b (if name_eq m n then Some (without_bytes x) else fact_at (shapes fs) n)) (name_blind x) ∙
    (elim (name_eq (name_of x) n) as (λ t. stream_end b (if t then Some (without_bytes x) else fact_at (shapes fs) n) ≡ stream_end b (if t then Some x else fact_at fs n)) [
      | true ↦ stream_one b x
      | false ↦ stream_shapes b n fs
    ])

sae_shapes : (b : Bool) (f : Fact) (fs : List Fact) → sae_at (shapes fs) b f ≡ sae_at fs b f
sae_shapes b (Key name master slave route bytes) fs = refl
sae_shapes b (Chunk name stream index route bytes) fs = stream_shapes b stream fs
sae_shapes b (Stored note about route) fs = refl
sae_shapes b (Open stream source peer size route) fs = refl
sae_shapes b (Joined note about route) fs = refl
sae_shapes b (Part name key master slave route bytes) fs = refl

parts_shapes : (p q : Fact → Bool) → IsBlind p → IsBlind q → (fs : List Fact) → list_any q (filter p (shapes fs)) ≡ list_any q (filter p fs)
parts_shapes p q bp bq [] = refl
parts_shapes p q bp bq (x ∷ fs) =
    ap (λ (t : Bool). list_any q (cond t (without_bytes x ∷ filter p (shapes fs)) (filter p (shapes fs)))) (bp x) ∙
    (elim (p x) as (λ t. list_any q (cond t (without_bytes x ∷ filter p (shapes fs)) (filter p (shapes fs))) ≡ list_any q (cond t (x ∷ filter p fs) (filter p fs))) [
      | true ↦ ap (λ (t : Bool). t || list_any q (filter p (shapes fs))) (bq x) ∙ ap (λ (t : Bool). q x || t) (parts_shapes p q bp bq fs)
      | false ↦ parts_shapes p q bp bq fs
    ])

owed_blind : (v : View) → IsBlind (is_owed v)
owed_blind v (Key name master slave route bytes) = refl
owed_blind v (Chunk name stream index route bytes) = refl
owed_blind v (Stored note about route) = refl
owed_blind v (Open stream source peer size route) = refl
owed_blind v (Joined note about route) = refl
owed_blind v (Part name key master slave route bytes) = refl

-- Whether a fact is needed doesn't depend on its own bytes.
pub needed_blind : (v : View) → IsBlind (is_needed v)
unfolding is_needed
needed_blind v (Key name master slave route bytes) = refl
needed_blind v (Chunk name stream index route bytes) = refl
needed_blind v (Stored note about route) = refl
needed_blind v (Open stream source peer size route) = refl
needed_blind v (Joined note about route) = refl
needed_blind v (Part name key master slave route bytes) = refl

abbrev zeroed : View → View
zeroed v = knowing v.me (shapes v.facts) v.acked v.handed

end_zeroed : (v : View) (b : Bool) (f : Fact) (o : Option PartOf) → end_needs (zeroed v) b f o ≡ end_needs v b f o
end_zeroed v b f None = ap (λ (o : Option ℕ). not (has_it v (name_of f) o)) (sae_shapes b f v.facts)
end_zeroed v true f (Some p) =
    ap (λ (t : Bool). not (was_handed v.handed p.key p.master) || t) (parts_shapes (is_part_of p.key) (is_owed v) (part_blind p.key) (owed_blind v) v.facts)
end_zeroed v false f (Some p) = refl

needed_zeroed : (v : View) (f : Fact) → is_needed (zeroed v) f ≡ is_needed v f
unfolding is_needed
needed_zeroed v f =
    let first = end_zeroed v true f (part_of f) in
    let last = end_zeroed v false f (part_of f) in
    λ i. is_owed v f || (if origin f == v.me then first i else if target f == v.me then last i else false)

-- Whether a fact is needed doesn't depend on the bytes of other facts.
pub needed_alike : (a b : View) (f : Fact) → IsAlike a b → is_needed a f ≡ is_needed b f
needed_alike a b f h =
    let me = h.me in
    let acked = h.acked in
    let handed = h.handed in
    let facts = h.facts in
    let middle : is_needed (zeroed a) f ≡ is_needed (zeroed b) f = λ i. is_needed (knowing (me i) (facts i) (acked i) (handed i)) f in
    sym (needed_zeroed a f) ∙ middle ∙ needed_zeroed b f

-- Masking changes nothing but bytes.

pub masked_shapes : (v : View) (fs : List Fact) → shapes (map (masked_fact v) fs) ≡ shapes fs
masked_shapes v [] = refl
masked_shapes v (x ∷ fs) = let one = masked_same without_bytes shape_blind v x in let rest = masked_shapes v fs in λ i. one i ∷ rest i

pub masked_alike : (v : View) → IsAlike (masked v) v
unfolding masked
masked_alike v = record { me = refl; acked = refl; handed = refl; facts = masked_shapes v v.facts }

pub masked_fact_alike : (a b : View) (f : Fact) → IsAlike a b → masked_fact a f ≡ masked_fact b f
masked_fact_alike a b f h = ap (λ (t : Bool). if t then f else without_bytes f) (needed_alike a b f h)

pub masked_fact_twice : (v : View) (f : Fact) → masked_fact v (masked_fact v f) ≡ masked_fact v f
masked_fact_twice v f =
    elim (is_needed v f) as (λ t. is_needed v f ≡ t → masked_fact v (if t then f else without_bytes f) ≡ (if t then f else without_bytes f)) [
      | true ↦ λ e. ap (λ (t : Bool). if t then f else without_bytes f) e
      | false ↦ λ e. ap (λ (t : Bool). if t then without_bytes f else without_bytes (without_bytes f)) (needed_blind v f ∙ e) ∙ shape_blind f
    ] refl

all_twice : (a v : View) → IsAlike a v → (fs : List Fact) → map (masked_fact a) (map (masked_fact v) fs) ≡ map (masked_fact v) fs
all_twice a v h [] = refl
all_twice a v h (f ∷ fs) =
    let one = masked_fact_alike a v (masked_fact v f) h ∙ masked_fact_twice v f in
    let rest = all_twice a v h fs in
    λ i. one i ∷ rest i

pub masked_twice : (v : View) → masked (masked v) ≡ masked v
unfolding masked
masked_twice v = ap (λ (fs : List Fact). record v { facts = fs }) (all_twice (masked v) v (masked_alike v) v.facts)
