-- Which facts a view needs depends neither on their bytes nor on its ports.
use Rattle.std.proofs.Common.{◌≡◌, ℕ, Bool, true, false, cond, not, ◌||◌, List, [], ◌∷◌, refl, sym, ◌∙◌, ap, subst, Option, Some, None, map}
use Rattle.std.specs.Prelude.{if◌then◌else◌, ◌==◌, filter, is_some}
use Rattle.std.specs.List.{list_any}
use Rattle.std.proofs.lemmas.List.{length-replicate}
use Rattle.qkd_base.specs.Name.{Name, name_eq}
use Rattle.net_model.specs.declared.fact.Fact.{Fact}
use Rattle.net_model.specs.declared.fact.Fact.TheVariants.{Key, Chunk, Stored, Open, Joined, Part}
use Rattle.net_model.specs.Table.{PartOf, part_of, is_part_of, name_of, fact_at, has_fact, origin, target, zeros_for, without_bytes, was_handed, stream_end, sae_at}
use Rattle.net_model.specs.World.{no_volatile}
use Rattle.net_model.specs.View.{View}
use Rattle.net_model.specs.Needed.{is_owed, has_it, end_needs, is_needed, masked_fact}
use Rattle.law_base.proofs.Masked.{IsBlind, masked_same, name_blind, part_blind}

abbrev pub shapes : List Fact → List Fact
shapes fs = map without_bytes fs

-- A view with these lists and without ports.
abbrev pub knowing : ℕ → List Fact → List Name → List (Name × ℕ) → View
knowing me facts acked handed = record { me = me; facts = facts; acked = acked; handed = handed; closed = []; ports = []; volatile = no_volatile }

zeros_twice : (b : List ℕ) → zeros_for (zeros_for b) ≡ zeros_for b
zeros_twice b = rw (length-replicate) refl

pub shape_blind : IsBlind without_bytes
shape_blind (Key name master slave route bytes) = ap (Key name master slave route) (zeros_twice bytes)
shape_blind (Chunk name stream index route bytes) = ap (Chunk name stream index route) (zeros_twice bytes)
shape_blind (Stored note about route) = refl
shape_blind (Open stream source peer size route) = refl
shape_blind (Joined note about route) = refl
shape_blind (Part name key master slave route bytes) = ap (Part name key master slave route) (zeros_twice bytes)

pub any_shapes : (p : Fact → Bool) → IsBlind p → (fs : List Fact) → list_any p (shapes fs) ≡ list_any p fs
any_shapes p blind [] = refl
any_shapes p blind (x ∷ fs) =
    ap (λ (t : Bool). t || list_any p (shapes fs)) (blind x) ∙ ap (λ (t : Bool). p x || t) (any_shapes p blind fs)

-- Lemmas on two lists that differ only in bytes.
pub any_same : (p : Fact → Bool) → IsBlind p → (fs gs : List Fact) → shapes fs ≡ shapes gs → list_any p fs ≡ list_any p gs
any_same p blind fs gs h = sym (any_shapes p blind fs) ∙ ap (list_any p) h ∙ any_shapes p blind gs

has_shapes : (n : Name) (fs : List Fact) → has_fact (shapes fs) n ≡ has_fact fs n
has_shapes n [] = refl
has_shapes n (x ∷ fs) =
    ap (λ (m : Name). is_some (if name_eq m n then Some (without_bytes x) else fact_at (shapes fs) n)) (name_blind x) ∙
    (elim (name_eq (name_of x) n) as (λ t. is_some (if t then Some (without_bytes x) else fact_at (shapes fs) n) ≡ is_some (if t then Some x else fact_at fs n)) [
      | true ↦ refl
      | false ↦ has_shapes n fs
    ])

pub has_same : (n : Name) (fs gs : List Fact) → shapes fs ≡ shapes gs → has_fact fs n ≡ has_fact gs n
has_same n fs gs h = sym (has_shapes n fs) ∙ ap (λ (xs : List Fact). has_fact xs n) h ∙ has_shapes n gs

stream_one : (b : Bool) (f : Fact) → stream_end b (Some (without_bytes f)) ≡ stream_end b (Some f)
stream_one b (Key name master slave route bytes) = refl
stream_one b (Chunk name stream index route bytes) = refl
stream_one b (Stored note about route) = refl
stream_one b (Open stream source peer size route) = refl
stream_one b (Joined note about route) = refl
stream_one b (Part name key master slave route bytes) = refl

stream_shapes : (b : Bool) (n : Name) (fs : List Fact) → stream_end b (fact_at (shapes fs) n) ≡ stream_end b (fact_at fs n)
stream_shapes b n [] = refl
stream_shapes b n (x ∷ fs) =
    ap (λ (m : Name). stream_end b (if name_eq m n then Some (without_bytes x) else fact_at (shapes fs) n)) (name_blind x) ∙
    (elim (name_eq (name_of x) n) as (λ t. stream_end b (if t then Some (without_bytes x) else fact_at (shapes fs) n) ≡ stream_end b (if t then Some x else fact_at fs n)) [
      | true ↦ stream_one b x
      | false ↦ stream_shapes b n fs
    ])

sae_shapes : (b : Bool) (f : Fact) (fs : List Fact) → sae_at (shapes fs) b f ≡ sae_at fs b f
sae_shapes b (Key name master slave route bytes) fs = refl
sae_shapes b (Chunk name stream index route bytes) fs = stream_shapes b stream fs
sae_shapes b (Stored note about route) fs = refl
sae_shapes b (Open stream source peer size route) fs = refl
sae_shapes b (Joined note about route) fs = refl
sae_shapes b (Part name key master slave route bytes) fs = refl

parts_shapes : (p q : Fact → Bool) → IsBlind p → IsBlind q → (fs : List Fact) → list_any q (filter p (shapes fs)) ≡ list_any q (filter p fs)
parts_shapes p q bp bq [] = refl
parts_shapes p q bp bq (x ∷ fs) =
    ap (λ (t : Bool). list_any q (cond t (without_bytes x ∷ filter p (shapes fs)) (filter p (shapes fs)))) (bp x) ∙
    (elim (p x) as (λ t. list_any q (cond t (without_bytes x ∷ filter p (shapes fs)) (filter p (shapes fs))) ≡ list_any q (cond t (x ∷ filter p fs) (filter p fs))) [
      | true ↦ ap (λ (t : Bool). t || list_any q (filter p (shapes fs))) (bq x) ∙ ap (λ (t : Bool). q x || t) (parts_shapes p q bp bq fs)
      | false ↦ parts_shapes p q bp bq fs
    ])

pub owed_blind : (v : View) → IsBlind (is_owed v)
owed_blind v (Key name master slave route bytes) = refl
owed_blind v (Chunk name stream index route bytes) = refl
owed_blind v (Stored note about route) = refl
owed_blind v (Open stream source peer size route) = refl
owed_blind v (Joined note about route) = refl
owed_blind v (Part name key master slave route bytes) = refl

pub needed_blind : (v : View) → IsBlind (is_needed v)
unfolding is_needed
needed_blind v (Key name master slave route bytes) = refl
needed_blind v (Chunk name stream index route bytes) = refl
needed_blind v (Stored note about route) = refl
needed_blind v (Open stream source peer size route) = refl
needed_blind v (Joined note about route) = refl
needed_blind v (Part name key master slave route bytes) = refl

abbrev zeroed : View → View
zeroed v = knowing v.me (shapes v.facts) v.acked v.handed

end_zeroed : (v : View) (b : Bool) (f : Fact) (o : Option PartOf) → end_needs (zeroed v) b f o ≡ end_needs v b f o
end_zeroed v b f None = ap (λ (o : Option ℕ). not (has_it v (name_of f) o)) (sae_shapes b f v.facts)
end_zeroed v true f (Some p) =
    ap (λ (t : Bool). not (was_handed v.handed p.key p.master) || t) (parts_shapes (is_part_of p.key) (is_owed v) (part_blind p.key) (owed_blind v) v.facts)
end_zeroed v false f (Some p) = refl

needed_zeroed : (v : View) (f : Fact) → is_needed (zeroed v) f ≡ is_needed v f
unfolding is_needed
needed_zeroed v f =
    let first = end_zeroed v true f (part_of f) in
    let last = end_zeroed v false f (part_of f) in
    λ i. is_owed v f || (if origin f == v.me then first i else if target f == v.me then last i else false)

-- The two views differ at most in bytes.
pub record IsLike (a b : View) : Type 0 where
  pub me : a.me ≡ b.me
  pub acked : a.acked ≡ b.acked
  pub handed : a.handed ≡ b.handed
  pub facts : shapes a.facts ≡ shapes b.facts

pub needed_like : (a b : View) → IsLike a b → (f : Fact) → is_needed a f ≡ is_needed b f
needed_like a b h f =
    let me = h.me in
    let acked = h.acked in
    let handed = h.handed in
    let facts = h.facts in
    let middle : is_needed (zeroed a) f ≡ is_needed (zeroed b) f = λ i. is_needed (knowing (me i) (facts i) (acked i) (handed i)) f in
    sym (needed_zeroed a f) ∙ middle ∙ needed_zeroed b f

-- Lemmas on masking.

pub masked_shapes : (v : View) (fs : List Fact) → shapes (map (masked_fact v) fs) ≡ shapes fs
masked_shapes v [] = refl
masked_shapes v (x ∷ fs) = let one = masked_same without_bytes shape_blind v x in let rest = masked_shapes v fs in λ i. one i ∷ rest i

pub masked_like : (a b : View) → IsLike a b → (fs : List Fact) → map (masked_fact a) fs ≡ map (masked_fact b) fs
masked_like a b h [] = refl
masked_like a b h (x ∷ fs) =
    let one = needed_like a b h x in
    let rest = masked_like a b h fs in
    λ i. (if one i then x else without_bytes x) ∷ rest i

-- A fact that view b doesn't need isn't needed by view c either.
abbrev pub AllStay : View → View → List Fact → Type 0
AllStay b c [] = Unit {0}
AllStay b c (f ∷ fs) = (is_needed b f ≡ false → is_needed c f ≡ false) × AllStay b c fs

shapes_stay : (b c : View) (fs : List Fact) → AllStay b c fs → AllStay b c (shapes fs)
shapes_stay b c [] h = tt
shapes_stay b c (f ∷ fs) h = (λ e. needed_blind c f ∙ h.0 (sym (needed_blind b f) ∙ e), shapes_stay b c fs h.1)

from_shapes : (b c : View) (fs : List Fact) → AllStay b c (shapes fs) → AllStay b c fs
from_shapes b c [] h = tt
from_shapes b c (f ∷ fs) h = (λ e. sym (needed_blind c f) ∙ h.0 (needed_blind b f ∙ e), from_shapes b c fs h.1)

masked_one : (b c : View) (f : Fact) → (is_needed b f ≡ false → is_needed c f ≡ false) → masked_fact c (masked_fact b f) ≡ masked_fact c f
masked_one b c f h =
    elim (is_needed b f) as (λ t. (t ≡ false → is_needed c f ≡ false) → masked_fact c (if t then f else without_bytes f) ≡ masked_fact c f) [
      | true ↦ λ k. refl
      | false ↦ λ k.
          let no : is_needed c f ≡ false = k refl in
          let one : masked_fact c (without_bytes f) ≡ without_bytes (without_bytes f) =
          ap (λ (t : Bool). if t then without_bytes f else without_bytes (without_bytes f)) (needed_blind c f ∙ no) in
          let other : masked_fact c f ≡ without_bytes f = ap (λ (t : Bool). if t then f else without_bytes f) no in
          one ∙ shape_blind f ∙ sym other
    ] h

pub masked_then : (b c : View) (fs : List Fact) → AllStay b c fs → map (masked_fact c) (map (masked_fact b) fs) ≡ map (masked_fact c) fs
masked_then b c [] h = refl
masked_then b c (f ∷ fs) h = let one = masked_one b c f h.0 in let rest = masked_then b c fs h.1 in λ i. one i ∷ rest i

-- Lists that agree when masked still agree when masked by a view that needs less.
pub still_masked : (b c : View) (fs gs : List Fact) → map (masked_fact b) fs ≡ map (masked_fact b) gs → AllStay b c gs →
    map (masked_fact c) fs ≡ map (masked_fact c) gs
still_masked b c fs gs h stay =
    let same : shapes gs ≡ shapes fs = sym (masked_shapes b gs) ∙ ap shapes (sym h) ∙ masked_shapes b fs in
    let stay' : AllStay b c fs = from_shapes b c fs (subst (AllStay b c) same (shapes_stay b c gs stay)) in
    sym (masked_then b c fs stay') ∙ ap (map (masked_fact c)) h ∙ masked_then b c gs stay
