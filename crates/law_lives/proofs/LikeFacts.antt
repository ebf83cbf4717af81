-- Facts that differ at most in their bytes.
use Rattle.std.proofs.Common.{◌≡◌, ℕ, zero, suc, ◌+◌, Bool, true, cond, List, [], ◌∷◌, length, map, replicate, refl, sym, ◌∙◌, ap, subst, Option, Some, None}
use Rattle.std.specs.Prelude.{count_by}
use Rattle.std.proofs.lemmas.List.{length-replicate}
use Rattle.qkd_base.specs.Name.{Name, IsName}
use Rattle.qkd_base.specs.Route.{first_of}
use Rattle.net_model.specs.declared.fact.Fact.{Fact}
use Rattle.net_model.specs.declared.fact.Fact.TheVariants.{Key, Chunk, Stored, Open, Joined, Part}
use Rattle.net_model.specs.Facts.{IsSize, IsWellFormedFact}
use Rattle.net_model.specs.Ranges.{IsOctets, IsRangedFact}
use Rattle.net_model.specs.Table.{PartOf, part_of, name_of, route_of, origin, is_secret, bytes_of, without_bytes}
use Rattle.law_base.proofs.Masked.{IsBlind, route_blind, count-cons}
use Rattle.law_lives.specs.Belongs.{IsNamed}
use Rattle.law_lives.specs.KeptWorld.{with_bytes, with_found}
use Rattle.law_invariant.specs.HandedName.{handed_name}

-- ---- facts that differ at most in their bytes

abbrev pub AreAlike : Fact → Fact → Type 0
AreAlike f g = without_bytes f ≡ without_bytes g

-- What doesn't depend on bytes is the same of both.
pub alike_same : {A : Type 0} (q : Fact → A) → IsBlind q → (f g : Fact) → AreAlike f g → q f ≡ q g
alike_same q blind f g h = sym (blind f) ∙ ap q h ∙ blind g

pub own_bytes : (f : Fact) → with_bytes f (bytes_of f) ≡ f
own_bytes (Key name master slave route bytes) = refl
own_bytes (Chunk name stream index route bytes) = refl
own_bytes (Stored note about route) = refl
own_bytes (Open stream source peer size route) = refl
own_bytes (Joined note about route) = refl
own_bytes (Part name key master slave route bytes) = refl

pub put_back : (f : Fact) (more : List ℕ) → with_bytes (without_bytes f) more ≡ with_bytes f more
put_back (Key name master slave route bytes) more = refl
put_back (Chunk name stream index route bytes) more = refl
put_back (Stored note about route) more = refl
put_back (Open stream source peer size route) more = refl
put_back (Joined note about route) more = refl
put_back (Part name key master slave route bytes) more = refl

-- A fact is any fact that is like it, with its own bytes.
pub alike_is : (f g : Fact) → AreAlike f g → with_bytes g (bytes_of f) ≡ f
alike_is f g h = sym (put_back g (bytes_of f)) ∙ ap (λ (x : Fact). with_bytes x (bytes_of f)) (sym h) ∙ put_back f (bytes_of f) ∙ own_bytes f

pub length_blind : IsBlind (λ f. length (bytes_of f))
length_blind (Key name master slave route bytes) = length-replicate (length bytes) 0
length_blind (Chunk name stream index route bytes) = length-replicate (length bytes) 0
length_blind (Stored note about route) = refl
length_blind (Open stream source peer size route) = refl
length_blind (Joined note about route) = refl
length_blind (Part name key master slave route bytes) = length-replicate (length bytes) 0

pub secret_blind : IsBlind is_secret
secret_blind (Key name master slave route bytes) = refl
secret_blind (Chunk name stream index route bytes) = refl
secret_blind (Stored note about route) = refl
secret_blind (Open stream source peer size route) = refl
secret_blind (Joined note about route) = refl
secret_blind (Part name key master slave route bytes) = refl

pub handed_blind : IsBlind handed_name
handed_blind (Key name master slave route bytes) = refl
handed_blind (Chunk name stream index route bytes) = refl
handed_blind (Stored note about route) = refl
handed_blind (Open stream source peer size route) = refl
handed_blind (Joined note about route) = refl
handed_blind (Part name key master slave route bytes) = refl

-- A fact with as many bytes is like the fact.
pub with_alike : (f : Fact) (more : List ℕ) → (is_secret f ≡ true → length more ≡ length (bytes_of f)) → AreAlike (with_bytes f more) f
with_alike (Key name master slave route bytes) more h = ap (λ (n : ℕ). Key name master slave route (replicate n 0)) (h refl)
with_alike (Chunk name stream index route bytes) more h = ap (λ (n : ℕ). Chunk name stream index route (replicate n 0)) (h refl)
with_alike (Stored note about route) more h = refl
with_alike (Open stream source peer size route) more h = refl
with_alike (Joined note about route) more h = refl
with_alike (Part name key master slave route bytes) more h = ap (λ (n : ℕ). Part name key master slave route (replicate n 0)) (h refl)

-- ---- parts

pub part_bytes : (f : Fact) (p : PartOf) → part_of f ≡ Some p → p.bytes ≡ bytes_of f
part_bytes (Key name master slave route bytes) p h = cc
part_bytes (Chunk name stream index route bytes) p h = cc
part_bytes (Stored note about route) p h = cc
part_bytes (Open stream source peer size route) p h = cc
part_bytes (Joined note about route) p h = cc
part_bytes (Part name key master slave route bytes) p h = let is : record { key = key; master = master; slave = slave; bytes = bytes } ≡ p = cc in ap (λ (x : PartOf). x.bytes) (sym is)

-- A part that is like another one has its key, master and slave.
pub record IsPartLike (f : Fact) (q : PartOf) : Type 0 where
  pub part : PartOf
  pub is : part_of f ≡ Some part
  pub key : part.key ≡ q.key
  pub master : part.master ≡ q.master
  pub slave : part.slave ≡ q.slave

pub with_part : (g : Fact) (more : List ℕ) (q : PartOf) → part_of g ≡ Some q → IsPartLike (with_bytes g more) q
with_part (Key name master slave route bytes) more q h = cc
with_part (Chunk name stream index route bytes) more q h = cc
with_part (Stored note about route) more q h = cc
with_part (Open stream source peer size route) more q h = cc
with_part (Joined note about route) more q h = cc
with_part (Part name key master slave route bytes) more q h =
    let is : record { key = key; master = master; slave = slave; bytes = bytes } ≡ q = cc in
    record {
      part = record { key = key; master = master; slave = slave; bytes = more };
      is = refl;
      key = ap (λ (x : PartOf). x.key) is;
      master = ap (λ (x : PartOf). x.master) is;
      slave = ap (λ (x : PartOf). x.slave) is;
    }

pub part_like : (f g : Fact) → AreAlike f g → (q : PartOf) → part_of g ≡ Some q → IsPartLike f q
part_like f g h q is = subst (λ (x : Fact). IsPartLike x q) (alike_is f g h) (with_part g (bytes_of f) q is)

-- ---- facts with other bytes

pub formed_with : (g : Fact) (more : List ℕ) → length more ≡ length (bytes_of g) → IsWellFormedFact g → IsWellFormedFact (with_bytes g more)
formed_with (Key name master slave route bytes) more size h = (h.0, subst IsSize (sym size) h.1)
formed_with (Chunk name stream index route bytes) more size h = (h.0, h.1, subst IsSize (sym size) h.2)
formed_with (Stored note about route) more size h = h
formed_with (Open stream source peer octets route) more size h = h
formed_with (Joined note about route) more size h = h
formed_with (Part name key master slave route bytes) more size h = (h.0, h.1, subst IsSize (sym size) h.2)

pub formed_like : (f g : Fact) → AreAlike f g → IsWellFormedFact g → IsWellFormedFact f
formed_like f g h formed = subst IsWellFormedFact (alike_is f g h) (formed_with g (bytes_of f) (alike_same (λ x. length (bytes_of x)) length_blind f g h) formed)

pub ranged_with : (g : Fact) (more : List ℕ) → IsOctets more → IsRangedFact g → IsRangedFact (with_bytes g more)
ranged_with (Key name master slave route bytes) more octets h = (h.0, h.1, h.2, h.3, octets)
ranged_with (Chunk name stream index route bytes) more octets h = (h.0, h.1, h.2, h.3, octets)
ranged_with (Stored note about route) more octets h = h
ranged_with (Open stream source peer size route) more octets h = h
ranged_with (Joined note about route) more octets h = h
ranged_with (Part name key master slave route bytes) more octets h = (h.0, h.1, h.2, h.3, h.4, octets)

pub zeros_octets : (n : ℕ) → IsOctets (replicate n 0)
zeros_octets zero = refl
zeros_octets (suc n) = zeros_octets n

pub ranged_zeros : (g : Fact) → IsRangedFact g → IsRangedFact (without_bytes g)
ranged_zeros (Key name master slave route bytes) h = (h.0, h.1, h.2, h.3, zeros_octets (length bytes))
ranged_zeros (Chunk name stream index route bytes) h = (h.0, h.1, h.2, h.3, zeros_octets (length bytes))
ranged_zeros (Stored note about route) h = h
ranged_zeros (Open stream source peer size route) h = h
ranged_zeros (Joined note about route) h = h
ranged_zeros (Part name key master slave route bytes) h = (h.0, h.1, h.2, h.3, h.4, zeros_octets (length bytes))

pub octets_of : (f : Fact) → IsRangedFact f → IsOctets (bytes_of f)
octets_of (Key name master slave route bytes) h = h.4
octets_of (Chunk name stream index route bytes) h = h.4
octets_of (Stored note about route) h = refl
octets_of (Open stream source peer size route) h = refl
octets_of (Joined note about route) h = refl
octets_of (Part name key master slave route bytes) h = h.5

pub part_secret : (f : Fact) (p : PartOf) → part_of f ≡ Some p → is_secret f ≡ true
part_secret (Key name master slave route bytes) p h = refl
part_secret (Chunk name stream index route bytes) p h = refl
part_secret (Stored note about route) p h = cc
part_secret (Open stream source peer size route) p h = cc
part_secret (Joined note about route) p h = cc
part_secret (Part name key master slave route bytes) p h = refl

abbrev pub key_or : Name → Option PartOf → Name
key_or n None = n
key_or n (Some p) = p.key

pub handed_is : (f : Fact) → handed_name f ≡ key_or (name_of f) (part_of f)
handed_is (Key name master slave route bytes) = refl
handed_is (Chunk name stream index route bytes) = refl
handed_is (Stored note about route) = refl
handed_is (Open stream source peer size route) = refl
handed_is (Joined note about route) = refl
handed_is (Part name key master slave route bytes) = refl

pub part_key : (f : Fact) (p : PartOf) → part_of f ≡ Some p → handed_name f ≡ p.key
part_key f p h = handed_is f ∙ ap (key_or (name_of f)) h

pub part_named : (f : Fact) (p : PartOf) → IsRangedFact f → part_of f ≡ Some p → IsName p.key
part_named (Key name master slave route bytes) p h is = cc
part_named (Chunk name stream index route bytes) p h is = cc
part_named (Stored note about route) p h is = cc
part_named (Open stream source peer size route) p h is = cc
part_named (Joined note about route) p h is = cc
part_named (Part name key master slave route bytes) p h is =
    let same : record { key = key; master = master; slave = slave; bytes = bytes } ≡ p = cc in subst (λ (x : PartOf). IsName x.key) same h.1

pub zero_bytes : (f : Fact) → bytes_of (without_bytes f) ≡ replicate (length (bytes_of f)) 0
zero_bytes (Key name master slave route bytes) = refl
zero_bytes (Chunk name stream index route bytes) = refl
zero_bytes (Stored note about route) = refl
zero_bytes (Open stream source peer size route) = refl
zero_bytes (Joined note about route) = refl
zero_bytes (Part name key master slave route bytes) = refl

pub put_bytes : (f : Fact) (more : List ℕ) → is_secret f ≡ true → bytes_of (with_bytes f more) ≡ more
put_bytes (Key name master slave route bytes) more h = refl
put_bytes (Chunk name stream index route bytes) more h = refl
put_bytes (Stored note about route) more h = cc
put_bytes (Open stream source peer size route) more h = cc
put_bytes (Joined note about route) more h = cc
put_bytes (Part name key master slave route bytes) more h = refl

pub found_bytes : (f g : Fact) (o : Option Fact) → is_secret f ≡ true → is_secret g ≡ true → length (bytes_of f) ≡ length (bytes_of g) →
    bytes_of (with_found f o) ≡ bytes_of (with_found g o)
found_bytes f g None h k size = zero_bytes f ∙ ap (λ (n : ℕ). replicate n 0) size ∙ sym (zero_bytes g)
found_bytes f g (Some x) h k size = put_bytes f (bytes_of x) h ∙ sym (put_bytes g (bytes_of x) k)

pub same_named : (n m : Name) (o : Option Fact) → IsNamed n o → IsNamed m o → n ≡ m
same_named n m None h k = absurd h
same_named n m (Some g) h k = sym h ∙ k

-- ---- lists of facts that are like others

pub count_shapes : (p : Fact → Bool) → IsBlind p → (fs : List Fact) → count_by p (map without_bytes fs) ≡ count_by p fs
count_shapes p blind [] = refl
count_shapes p blind (f ∷ fs) =
    count-cons p (without_bytes f) (map without_bytes fs) ∙ (let one = blind f in let rest = count_shapes p blind fs in λ i. cond (one i) 1 0 + rest i) ∙ sym (count-cons p f fs)

pub origin_alike : (f g : Fact) → AreAlike f g → origin f ≡ origin g
origin_alike f g h = ap first_of (alike_same route_of route_blind f g h)
