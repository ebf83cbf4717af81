-- A fact and the same fact with zeros for its bytes agree in everything else.
use Rattle.std.proofs.Common.{◌≡◌, ℕ, ◌+◌, Bool, true, false, cond, ◌&&◌, ◌||◌, List, [], ◌∷◌, refl, sym, ◌∙◌, ap, Some, max, map}
use Rattle.std.specs.Prelude.{if◌then◌else◌, find, filter, count_by}
use Rattle.std.specs.List.{list_any, list_all}
use Rattle.std.proofs.lemmas.List.Sums.{sum_by-cons}
use Rattle.qkd_base.specs.Name.{Name}
use Rattle.net_model.specs.declared.fact.Fact.{Fact}
use Rattle.net_model.specs.declared.fact.Fact.TheVariants.{Key, Chunk, Stored, Open, Joined, Part}
use Rattle.net_model.specs.Table.{part_of, is_part_of, name_of, route_of, bytes_of, without_bytes, is_stored_about}
use Rattle.net_model.specs.Streams.{is_chunk_of, is_chunk_at}
use Rattle.net_model.specs.Decision.{last_count, group_count, count_if}
use Rattle.net_model.specs.View.{View}
use Rattle.net_model.specs.Needed.{is_needed, masked_fact}

-- The same fact with other bytes.
abbrev pub with_other_bytes : Fact → List ℕ → Fact
with_other_bytes (Key name master slave route bytes) more = Key name master slave route more
with_other_bytes (Chunk name stream index route bytes) more = Chunk name stream index route more
with_other_bytes (Part name key master slave route bytes) more = Part name key master slave route more
with_other_bytes f more = f

-- The function doesn't depend on a fact's bytes.
abbrev pub IsBlind : {A : Type 0} → (Fact → A) → Type 0
IsBlind q = (f : Fact) → q (without_bytes f) ≡ q f

pub masked_same : {A : Type 0} (q : Fact → A) → IsBlind q → (b : View) (f : Fact) → q (masked_fact b f) ≡ q f
masked_same q blind b f = elim (is_needed b f) as (λ t. q (if t then f else without_bytes f) ≡ q f) [ true ↦ refl | false ↦ blind f ]

pub name_blind : IsBlind name_of
name_blind (Key name master slave route bytes) = refl
name_blind (Chunk name stream index route bytes) = refl
name_blind (Stored note about route) = refl
name_blind (Open stream source peer size route) = refl
name_blind (Joined note about route) = refl
name_blind (Part name key master slave route bytes) = refl

pub route_blind : IsBlind route_of
route_blind (Key name master slave route bytes) = refl
route_blind (Chunk name stream index route bytes) = refl
route_blind (Stored note about route) = refl
route_blind (Open stream source peer size route) = refl
route_blind (Joined note about route) = refl
route_blind (Part name key master slave route bytes) = refl

pub stored_blind : (n : Name) → IsBlind (is_stored_about n)
stored_blind n (Key name master slave route bytes) = refl
stored_blind n (Chunk name stream index route bytes) = refl
stored_blind n (Stored note about route) = refl
stored_blind n (Open stream source peer size route) = refl
stored_blind n (Joined note about route) = refl
stored_blind n (Part name key master slave route bytes) = refl

pub part_blind : (n : Name) → IsBlind (is_part_of n)
part_blind n (Key name master slave route bytes) = refl
part_blind n (Chunk name stream index route bytes) = refl
part_blind n (Stored note about route) = refl
part_blind n (Open stream source peer size route) = refl
part_blind n (Joined note about route) = refl
part_blind n (Part name key master slave route bytes) = refl

pub chunk_blind : (n : Name) → IsBlind (is_chunk_of n)
chunk_blind n (Key name master slave route bytes) = refl
chunk_blind n (Chunk name stream index route bytes) = refl
chunk_blind n (Stored note about route) = refl
chunk_blind n (Open stream source peer size route) = refl
chunk_blind n (Joined note about route) = refl
chunk_blind n (Part name key master slave route bytes) = refl

pub place_blind : (n : Name) (i : ℕ) → IsBlind (is_chunk_at n i)
place_blind n i (Key name master slave route bytes) = refl
place_blind n i (Chunk name stream index route bytes) = refl
place_blind n i (Stored note about route) = refl
place_blind n i (Open stream source peer size route) = refl
place_blind n i (Joined note about route) = refl
place_blind n i (Part name key master slave route bytes) = refl

pub group_blind : (me : ℕ) → IsBlind (λ f. group_count me (part_of f))
group_blind me (Key name master slave route bytes) = refl
group_blind me (Chunk name stream index route bytes) = refl
group_blind me (Stored note about route) = refl
group_blind me (Open stream source peer size route) = refl
group_blind me (Joined note about route) = refl
group_blind me (Part name key master slave route bytes) = refl

-- A fact is its masked form with its own bytes put back.
pub after : (b : View) (f : Fact) → f ≡ with_other_bytes (masked_fact b f) (bytes_of f)
after b f = elim (is_needed b f) as (λ t. f ≡ with_other_bytes (if t then f else without_bytes f) (bytes_of f)) [ true ↦ own f | false ↦ zeros f ]
  where
    own : (f : Fact) → f ≡ with_other_bytes f (bytes_of f)
    own (Key name master slave route bytes) = refl
    own (Chunk name stream index route bytes) = refl
    own (Stored note about route) = refl
    own (Open stream source peer size route) = refl
    own (Joined note about route) = refl
    own (Part name key master slave route bytes) = refl

    zeros : (f : Fact) → f ≡ with_other_bytes (without_bytes f) (bytes_of f)
    zeros (Key name master slave route bytes) = refl
    zeros (Chunk name stream index route bytes) = refl
    zeros (Stored note about route) = refl
    zeros (Open stream source peer size route) = refl
    zeros (Joined note about route) = refl
    zeros (Part name key master slave route bytes) = refl

-- Finding a fact in a list of masked facts.

pub find_masked : (b : View) (fs : List Fact) (p : Fact → Bool) (g : Fact) → find p (map (masked_fact b) fs) ≡ Some g →
    (f : Fact) × (g ≡ masked_fact b f) × (find (λ x. p (masked_fact b x)) fs ≡ Some f)
find_masked b [] p g h = cc
find_masked b (x ∷ fs) p g h =
    elim (p (masked_fact b x)) as (λ t. cond t (Some (masked_fact b x)) (find p (map (masked_fact b) fs)) ≡ Some g →
    (f : Fact) × (g ≡ masked_fact b f) × (cond t (Some x) (find (λ y. p (masked_fact b y)) fs) ≡ Some f)) [
      | true ↦ λ e. (x, cc, refl)
      | false ↦ λ e. find_masked b fs p g e
    ] h

pub masked_found : (b : View) (fs : List Fact) (p : Fact → Bool) → IsBlind p → (f : Fact) → find p fs ≡ Some f → find p (map (masked_fact b) fs) ≡ Some (masked_fact b f)
masked_found b [] p blind f h = cc
masked_found b (x ∷ fs) p blind f h =
    ap (λ (t : Bool). cond t (Some (masked_fact b x)) (find p (map (masked_fact b) fs))) (masked_same p blind b x) ∙
    (elim (p x) as (λ t. cond t (Some x) (find p fs) ≡ Some f → cond t (Some (masked_fact b x)) (find p (map (masked_fact b) fs)) ≡ Some (masked_fact b f)) [
      | true ↦ λ e. let is : x ≡ f = cc in ap (λ (y : Fact). Some (masked_fact b y)) is
      | false ↦ λ e. masked_found b fs p blind f e
    ] h)

pub any_masked : (b : View) (fs : List Fact) (p : Fact → Bool) → IsBlind p → list_any p (map (masked_fact b) fs) ≡ list_any p fs
any_masked b [] p blind = refl
any_masked b (x ∷ fs) p blind =
    ap (λ (t : Bool). t || list_any p (map (masked_fact b) fs)) (masked_same p blind b x) ∙ ap (λ (t : Bool). p x || t) (any_masked b fs p blind)

pub count-cons : (p : Fact → Bool) (x : Fact) (xs : List Fact) → count_by p (x ∷ xs) ≡ cond (p x) 1 0 + count_by p xs
count-cons p x xs = sum_by-cons (λ (y : Fact). cond (p y) 1 0) x xs

pub count_masked : (b : View) (fs : List Fact) (p : Fact → Bool) → IsBlind p → count_by p (map (masked_fact b) fs) ≡ count_by p fs
count_masked b [] p blind = refl
count_masked b (x ∷ fs) p blind =
    count-cons p (masked_fact b x) (map (masked_fact b) fs) ∙
    ap (λ (t : Bool). cond t 1 0 + count_by p (map (masked_fact b) fs)) (masked_same p blind b x) ∙
    ap (λ (k : ℕ). cond (p x) 1 0 + k) (count_masked b fs p blind) ∙ sym (count-cons p x fs)

pub last_masked : (b : View) (fs : List Fact) (me : ℕ) → last_count me (map (masked_fact b) fs) ≡ last_count me fs
unfolding last_count
last_masked b [] me = refl
last_masked b (x ∷ fs) me =
    ap (λ (n : Name). max (max (count_if me n) (group_count me (part_of (masked_fact b x)))) (last_count me (map (masked_fact b) fs))) (masked_same name_of name_blind b x) ∙
    ap (λ (k : ℕ). max (max (count_if me (name_of x)) k) (last_count me (map (masked_fact b) fs))) (masked_same (λ f. group_count me (part_of f)) (group_blind me) b x) ∙
    ap (λ (k : ℕ). max (max (count_if me (name_of x)) (group_count me (part_of x))) k) (last_masked b fs me)

pub all_masked : (b : View) (fs : List Fact) (p q : Fact → Bool) → list_all q (filter p (map (masked_fact b) fs)) ≡ list_all (λ f. q (masked_fact b f)) (filter (λ f. p (masked_fact b f)) fs)
all_masked b [] p q = refl
all_masked b (x ∷ fs) p q =
    elim (p (masked_fact b x)) as (λ t. list_all q (cond t (masked_fact b x ∷ filter p (map (masked_fact b) fs)) (filter p (map (masked_fact b) fs))) ≡
    list_all (λ f. q (masked_fact b f)) (cond t (x ∷ filter (λ f. p (masked_fact b f)) fs) (filter (λ f. p (masked_fact b f)) fs))) [
      | true ↦ ap (λ (t : Bool). q (masked_fact b x) && t) (all_masked b fs p q)
      | false ↦ all_masked b fs p q
    ]
