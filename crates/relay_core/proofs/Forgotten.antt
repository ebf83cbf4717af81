-- Lemmas on facts whose bytes were overwritten: their names, routes and groups stay.
use Rattle.std.proofs.Common.{◌≡◌, ℕ, zero, suc, ◌≤◌, max, set, true, false, ◌&&◌, List, [], ◌∷◌, length, refl, sym, ◌∙◌, ap, subst, arith, Some}
use Rattle.std.specs.Prelude.{slice_get, is_some, not, if◌then◌else◌}
use Rattle.qkd_base.specs.Name.{Name, name_eq, has}
use Rattle.qkd_base.specs.Route.{next_after}
use Rattle.net_model.specs.declared.fact.Fact.{Fact}
use Rattle.net_model.specs.declared.fact.Fact.TheVariants.{Key, Chunk, Stored, Open, Joined, Part}
use Rattle.net_model.specs.Table.{name_of, route_of, part_of, fact_at, has_fact, without_bytes, is_stored_about, is_joined_about, is_part_of}
use Rattle.net_model.specs.Streams.{is_chunk_at, is_chunk_of}
use Rattle.net_model.specs.Relay.{is_some_of}
use Rattle.net_model.specs.Decision.{last_count, count_if, group_count}
use Rattle.relay_core.specs.declared.group.Group.{Group}
use Rattle.relay_core.specs.declared.group.Group.TheVariants.{Named, StoredAbout, JoinedAbout, PartsOf, ChunksAt, OwedTo, ChunksOf}
use Rattle.relay_core.specs.Index.{belongs, belongs_at, IsIndex}
use Rattle.relay_core.specs.Knowledge.{IsKnown, IsNamedAt, forgotten}

name_stays : (f : Fact) → name_of (without_bytes f) ≡ name_of f
name_stays (Key name master slave route bytes) = refl
name_stays (Chunk name stream index route bytes) = refl
name_stays (Stored note about route) = refl
name_stays (Open stream source peer size route) = refl
name_stays (Joined note about route) = refl
name_stays (Part name key master slave route bytes) = refl

route_stays : (f : Fact) → route_of (without_bytes f) ≡ route_of f
route_stays (Key name master slave route bytes) = refl
route_stays (Chunk name stream index route bytes) = refl
route_stays (Stored note about route) = refl
route_stays (Open stream source peer size route) = refl
route_stays (Joined note about route) = refl
route_stays (Part name key master slave route bytes) = refl

group_stays : (me : ℕ) (f : Fact) → group_count me (part_of (without_bytes f)) ≡ group_count me (part_of f)
group_stays me (Key name master slave route bytes) = refl
group_stays me (Chunk name stream index route bytes) = refl
group_stays me (Stored note about route) = refl
group_stays me (Open stream source peer size route) = refl
group_stays me (Joined note about route) = refl
group_stays me (Part name key master slave route bytes) = refl

stored_stays : (n : Name) (f : Fact) → is_stored_about n (without_bytes f) ≡ is_stored_about n f
stored_stays n (Key name master slave route bytes) = refl
stored_stays n (Chunk name stream index route bytes) = refl
stored_stays n (Part name key master slave route bytes) = refl
stored_stays n (Stored note about route) = refl
stored_stays n (Open stream source peer size route) = refl
stored_stays n (Joined note about route) = refl

joined_stays : (n : Name) (f : Fact) → is_joined_about n (without_bytes f) ≡ is_joined_about n f
joined_stays n (Key name master slave route bytes) = refl
joined_stays n (Chunk name stream index route bytes) = refl
joined_stays n (Part name key master slave route bytes) = refl
joined_stays n (Stored note about route) = refl
joined_stays n (Open stream source peer size route) = refl
joined_stays n (Joined note about route) = refl

part_stays : (n : Name) (f : Fact) → is_part_of n (without_bytes f) ≡ is_part_of n f
part_stays n (Key name master slave route bytes) = refl
part_stays n (Chunk name stream index route bytes) = refl
part_stays n (Part name key master slave route bytes) = refl
part_stays n (Stored note about route) = refl
part_stays n (Open stream source peer size route) = refl
part_stays n (Joined note about route) = refl

chunk_stays : (s : Name) (i : ℕ) (f : Fact) → is_chunk_at s i (without_bytes f) ≡ is_chunk_at s i f
chunk_stays s i (Key name master slave route bytes) = refl
chunk_stays s i (Chunk name stream index route bytes) = refl
chunk_stays s i (Part name key master slave route bytes) = refl
chunk_stays s i (Stored note about route) = refl
chunk_stays s i (Open stream source peer size route) = refl
chunk_stays s i (Joined note about route) = refl

stream_stays : (s : Name) (f : Fact) → is_chunk_of s (without_bytes f) ≡ is_chunk_of s f
stream_stays s (Key name master slave route bytes) = refl
stream_stays s (Chunk name stream index route bytes) = refl
stream_stays s (Part name key master slave route bytes) = refl
stream_stays s (Stored note about route) = refl
stream_stays s (Open stream source peer size route) = refl
stream_stays s (Joined note about route) = refl

pub belongs_stays : (me : ℕ) (acked : List Name) (g : Group) (f : Fact) → belongs me acked g (without_bytes f) ≡ belongs me acked g f
belongs_stays me acked (Named n) f = ap (λ (m : Name). name_eq m n) (name_stays f)
belongs_stays me acked (StoredAbout n) f = stored_stays n f
belongs_stays me acked (JoinedAbout n) f = joined_stays n f
belongs_stays me acked (PartsOf n) f = part_stays n f
belongs_stays me acked (ChunksAt s i) f = chunk_stays s i f
belongs_stays me acked (OwedTo to) f =
    ap (λ (r : List ℕ). is_some_of (next_after r me) to && not (has acked (name_of (without_bytes f)))) (route_stays f)
    ∙ ap (λ (n : Name). is_some_of (next_after (route_of f) me) to && not (has acked n)) (name_stays f)
belongs_stays me acked (ChunksOf s) f = stream_stays s f

-- The fact at a place after the overwriting has the name and route of the fact that stood there before.

record StoodAt (facts : List Fact) (i : ℕ) (f : Fact) : Type 0 where
  pub old : Fact
  pub there : slice_get facts i ≡ Some old
  pub name : name_of f ≡ name_of old
  pub route : route_of f ≡ route_of old

stood : (facts : List Fact) (p i : ℕ) (f : Fact) → slice_get (forgotten facts p) i ≡ Some f → StoodAt facts i f
stood [] p i f h = cc
stood (x ∷ xs) zero zero f h =
    let e : without_bytes x ≡ f = cc in
    record { old = x; there = refl; name = sym (ap name_of e) ∙ name_stays x; route = sym (ap route_of e) ∙ route_stays x }
stood (x ∷ xs) zero (suc i) f h = record { old = f; there = h; name = refl; route = refl }
stood (x ∷ xs) (suc p) zero f h = record { old = f; there = h; name = refl; route = refl }
stood (x ∷ xs) (suc p) (suc i) f h =
    let at = stood xs p i f h in
    record { old = at.old; there = at.there; name = at.name; route = at.route }

named_stays : (facts : List Fact) (p i : ℕ) (n : Name) → IsNamedAt (forgotten facts p) i n → IsNamedAt facts i n
named_stays facts p i n at =
    let was = stood facts p i at.fact at.there in
    record { fact = was.old; there = was.there; named = sym was.name ∙ at.named }

belongs_at_stays : (me : ℕ) (acked : List Name) (g : Group) (facts : List Fact) (p i : ℕ) → belongs_at me acked g (slice_get (forgotten facts p) i) ≡ belongs_at me acked g (slice_get facts i)
belongs_at_stays me acked g [] p i = refl
belongs_at_stays me acked g (x ∷ xs) zero zero = belongs_stays me acked g x
belongs_at_stays me acked g (x ∷ xs) zero (suc i) = refl
belongs_at_stays me acked g (x ∷ xs) (suc p) zero = refl
belongs_at_stays me acked g (x ∷ xs) (suc p) (suc i) = belongs_at_stays me acked g xs p i

pub length_stays : (facts : List Fact) (p : ℕ) → length (forgotten facts p) ≡ length facts
length_stays [] p = refl
length_stays (x ∷ xs) zero = refl
length_stays (x ∷ xs) (suc p) = let e = length_stays xs p in omega arith

has_stays : (facts : List Fact) (p : ℕ) (n : Name) → has_fact (forgotten facts p) n ≡ has_fact facts n
has_stays [] p n = refl
has_stays (x ∷ xs) zero n =
    ap (λ (m : Name). is_some (if name_eq m n then Some (without_bytes x) else fact_at xs n)) (name_stays x)
    ∙ elim (name_eq (name_of x) n) as (λ b. is_some (if b then Some (without_bytes x) else fact_at xs n) ≡ is_some (if b then Some x else fact_at xs n)) [ true ↦ refl | false ↦ refl ]
has_stays (x ∷ xs) (suc p) n =
    elim (name_eq (name_of x) n) as (λ b. is_some (if b then Some x else fact_at (forgotten xs p) n) ≡ is_some (if b then Some x else fact_at xs n)) [ true ↦ refl | false ↦ has_stays xs p n ]

last_stays : (me : ℕ) (facts : List Fact) (p : ℕ) → last_count me (forgotten facts p) ≡ last_count me facts
unfolding last_count
last_stays me [] p = refl
last_stays me (x ∷ xs) zero =
    ap (λ (k : ℕ). max (max k (group_count me (part_of (without_bytes x)))) (last_count me xs)) (ap (count_if me) (name_stays x))
    ∙ ap (λ (k : ℕ). max (max (count_if me (name_of x)) k) (last_count me xs)) (group_stays me x)
last_stays me (x ∷ xs) (suc p) = ap (λ (k : ℕ). max (max (count_if me (name_of x)) (group_count me (part_of x))) k) (last_stays me xs p)

index_stays : (me : ℕ) (acked : List Name) (facts : List Fact) (es : List (List ℕ)) (count p : ℕ) → IsIndex me acked facts es count → IsIndex me acked (forgotten facts p) es count
index_stays me acked facts es count p index = record {
  within = let w = index.within in let e = length_stays facts p in omega arith;
  sound = λ g i h. belongs_at_stays me acked g facts p i ∙ index.sound g i h;
  complete = λ g i lt h. index.complete g i lt (sym (belongs_at_stays me acked g facts p i) ∙ h);
}

known_stays : (me : ℕ) (facts : List Fact) (acked : List Name) (es : List (List ℕ)) (listed last p : ℕ) → IsKnown me facts acked es listed last → IsKnown me (forgotten facts p) acked es listed last
known_stays me facts acked es listed last p is = record {
  distinct = record {
    names = λ i n at. is.distinct.names i n (named_stays facts p i n at);
    apart = λ i j n a b. is.distinct.apart i j n (named_stays facts p i n a) (named_stays facts p j n b);
  };
  index = index_stays me acked facts es listed p is.index;
  known = λ n h. has_stays facts p n ∙ is.known n h;
  told = λ i f there h.
      let at = stood facts p i f there in
      ap (λ (r : List ℕ). is_some (next_after r me)) at.route ∙ is.told i at.old at.there (sym (ap (has acked) at.name) ∙ h);
  last_is = is.last_is ∙ sym (last_stays me facts p);
  bound = is.bound;
}

pub known_forgotten : (me : ℕ) (facts after : List Fact) (acked : List Name) (es : List (List ℕ)) (listed last p : ℕ) → IsKnown me facts acked es listed last → after ≡ forgotten facts p →
    IsKnown me after acked es listed last
known_forgotten me facts after acked es listed last p is e = subst (λ (fs : List Fact). IsKnown me fs acked es listed last) (sym e) (known_stays me facts acked es listed last p is)

pub set_forgotten : (facts : List Fact) (p : ℕ) (f w : Fact) → slice_get facts p ≡ Some f → w ≡ without_bytes f → set facts p w ≡ forgotten facts p
set_forgotten [] p f w h e = cc
set_forgotten (x ∷ xs) zero f w h e = let same : x ≡ f = cc in ap (λ (y : Fact). y ∷ xs) (e ∙ ap without_bytes (sym same))
set_forgotten (x ∷ xs) (suc p) f w h e = ap (λ (ys : List Fact). x ∷ ys) (set_forgotten xs p f w h e)

pub past_forgotten : (facts : List Fact) (p : ℕ) → length facts ≤ p → facts ≡ forgotten facts p
past_forgotten [] p le = refl
past_forgotten (x ∷ xs) zero le = absurd (omega arith)
past_forgotten (x ∷ xs) (suc p) le = ap (λ (ys : List Fact). x ∷ ys) (past_forgotten xs p (omega arith))
