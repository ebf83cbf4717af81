-- The records of a checkpoint, one by one.
use Rattle.std.proofs.Common.{◌≡◌, ℕ, zero, suc, Bool, ◌+◌, ◌<◌, ◌≤◌, true, not, ◌&&◌, List, [], ◌∷◌, ◌++◌, length, take, get_or, map, refl, sym, ap, subst, ◌∙◌, Some, None, arith}
use Rattle.std.specs.Prelude.{slice_get, if◌then◌else◌}
use Rattle.std.specs.List.{All, AllByRecursion, flat_map}
use Rattle.std.proofs.lemmas.List.{append-nil, append_assoc, map-append, take_more, take_all, length-take-le}
use Rattle.std.proofs.lemmas.List.Elements.{recursion_from_All}
use Rattle.std.proofs.lemmas.List.Concat.{flat_map-append}
use Rattle.net_model.specs.declared.fact.Fact.{Fact}
use Rattle.net_model.specs.declared.fact.Fact.TheVariants.{Key, Chunk, Stored, Open, Joined, Part}
use Rattle.net_model.specs.declared.record.Record.{Record}
use Rattle.net_model.specs.declared.record.Record.TheVariants.{Block, Learned, Bare}
use Rattle.net_model.specs.Facts.{IsWellFormedFact}
use Rattle.net_model.specs.Formed.{IsBareFact}
use Rattle.net_model.specs.Journal.{block_records, fact_record}
use Rattle.net_model.specs.Table.{is_secret, bytes_of, zeros_for, without_bytes}
use Rattle.net_model.specs.View.{View}
use Rattle.net_model.specs.Needed.{is_needed, masked, masked_fact}
use Rattle.law_base.proofs.Base.{was_not, and_left, and_right}
use Rattle.stream_core.specs.Kept.{StreamEnds, Sees}
use Rattle.kme_facts.specs.Needs.{kept_view, IsMasked}
use Rattle.kme_journal.specs.Batches.{Gathered, Gathers}

-- lists to which an item is appended

pub gathered_as : (g : Gathered) (rs more : List Record) → rs ≡ more → Gathers g rs → Gathers g more
gathered_as g rs more same is = subst (Gathers g) same is

pub map_step : {A : Type 0} (f : A → Record) (rs : List Record) (xs : List A) (i : ℕ) (x : A) → i < length xs → x ≡ get_or xs i x → (rs ++ map f (take i xs)) ++ f x ∷ [] ≡ rs ++ map f (take (i + 1) xs)
map_step f rs xs i x within is =
    append_assoc rs (map f (take i xs)) (f x ∷ []) ∙
    ap (λ ys. rs ++ ys)
    (ap (λ y. map f (take i xs) ++ f y ∷ []) is ∙ sym (map-append f (take i xs) (get_or xs i x ∷ [])) ∙ ap (map f) (sym (take_more xs i x within)))

pub map_end : {A : Type 0} (f : A → Record) (rs : List Record) (xs : List A) (i : ℕ) → length xs ≤ i → rs ++ map f (take i xs) ≡ rs ++ map f xs
map_end f rs xs i past = ap (λ ys. rs ++ map f ys) (take_all i xs past)

pub flat_step : {A : Type 0} (f : A → List Record) (rs : List Record) (xs : List A) (i : ℕ) (x : A) → i < length xs → x ≡ get_or xs i x → (rs ++ flat_map f (take i xs)) ++ f x ≡ rs ++ flat_map f (take (i + 1) xs)
flat_step f rs xs i x within is =
    append_assoc rs (flat_map f (take i xs)) (f x) ∙
    ap (λ ys. rs ++ ys)
    (ap (λ y. flat_map f (take i xs) ++ f y) is ∙ ap (λ ys. flat_map f (take i xs) ++ ys) (sym (append-nil (f (get_or xs i x)))) ∙ sym (flat_map-append f (take i xs) (get_or xs i x ∷ [])) ∙
    ap (flat_map f) (sym (take_more xs i x within)))

-- the blocks of a link are numbered in order

blocks_more : (link n : ℕ) (bs : List (List ℕ)) (b : List ℕ) → block_records link n (bs ++ b ∷ []) ≡ block_records link n bs ++ Block link (n + length bs) b ∷ []
blocks_more link n [] b = ap (λ (k : ℕ). Block link k b ∷ []) (omega arith)
blocks_more link n (x ∷ bs) b =
    let count : n + 1 + length bs ≡ n + length (x ∷ bs) = omega arith in
    ap (λ (rs : List Record). Block link n x ∷ rs) (blocks_more link (n + 1) bs b ∙ ap (λ (k : ℕ). block_records link (n + 1) bs ++ Block link k b ∷ []) count)

pub block_step : (link : ℕ) (rs : List Record) (bs : List (List ℕ)) (i : ℕ) (b d : List ℕ) → i < length bs → b ≡ get_or bs i d →
    (rs ++ block_records link 0 (take i bs)) ++ Block link i b ∷ [] ≡ rs ++ block_records link 0 (take (i + 1) bs)
block_step link rs bs i b d within is =
    let count : length (take i bs) ≡ i = length-take-le i bs (omega arith) in
    append_assoc rs (block_records link 0 (take i bs)) (Block link i b ∷ []) ∙
    ap (λ (ys : List Record). rs ++ ys)
    (ap (λ (k : ℕ). block_records link 0 (take i bs) ++ Block link k b ∷ []) (sym count ∙ omega arith) ∙ sym (blocks_more link 0 (take i bs) b) ∙
    ap (λ (x : List ℕ). block_records link 0 (take i bs ++ x ∷ [])) is ∙ ap (block_records link 0) (sym (take_more bs i d within)))

-- a property of all items holds of the one at a place

by_place : {A : Type 0} (P : A → Type 0) (xs : List A) (k : ℕ) (x : A) → AllByRecursion P xs → slice_get xs k ≡ Some x → P x
by_place P [] k x all at = absurd (cc at)
by_place P (y ∷ ys) zero x all at = let same : y ≡ x = cc at in subst P same all.0
by_place P (y ∷ ys) (suc k) x all at = by_place P ys k x all.1 at

pub all_at : {A : Type 0} (P : A → Type 0) (xs : List A) (k : ℕ) (x : A) → All P xs → slice_get xs k ≡ Some x → P x
all_at P xs k x all at = by_place P xs k x (recursion_from_All P xs all) at

pub got_at : {A : Type 0} (xs : List A) (k : ℕ) (x : A) → Some x ≡ slice_get xs k → x ≡ get_or xs k x
got_at [] k x at = absurd (cc at)
got_at (y ∷ ys) zero x at = cc at
got_at (y ∷ ys) (suc k) x at = got_at ys k x at

pub none_past : {A : Type 0} (xs : List A) (k : ℕ) → k < length xs → None ≡ slice_get xs k → ⊥
none_past [] k within at = omega (arith, within)
none_past (y ∷ ys) zero within at = cc at
none_past (y ∷ ys) (suc k) within at = none_past ys k (omega (arith, within)) at

pub at_mapped : {A B : Type 0} (f : A → B) (xs : List A) (k : ℕ) (x : A) → x ≡ get_or xs k x → f x ≡ get_or (map f xs) k (f x)
at_mapped f xs k x is = ap f is ∙ through f xs k x
  where
    through : {A B : Type 0} (f : A → B) (xs : List A) (k : ℕ) (d : A) → f (get_or xs k d) ≡ get_or (map f xs) k (f d)
    through f [] k d = refl
    through f (y ∷ ys) zero d = refl
    through f (y ∷ ys) (suc k) d = through f ys k d

-- bytes that aren't needed are zeros

wiped_bytes : (f : Fact) → bytes_of (without_bytes f) ≡ zeros_for (bytes_of f)
wiped_bytes (Key name master slave route bytes) = refl
wiped_bytes (Chunk name stream index route bytes) = refl
wiped_bytes (Stored note about route) = refl
wiped_bytes (Open stream source peer size route) = refl
wiped_bytes (Joined note about route) = refl
wiped_bytes (Part name key master slave route bytes) = refl

zeros_are : (f : Fact) → without_bytes f ≡ f → bytes_of f ≡ zeros_for (bytes_of f)
zeros_are f same = ap bytes_of (sym same) ∙ wiped_bytes f

masked_at : (v : View) (fs : List Fact) (k : ℕ) (f : Fact) → map (masked_fact v) fs ≡ fs → slice_get fs k ≡ Some f → masked_fact v f ≡ f
masked_at v [] k f same at = absurd (cc at)
masked_at v (g ∷ fs) zero f same at =
    let here : g ≡ f = cc at in
    let head : masked_fact v g ≡ g = cc in
    subst (λ (x : Fact). masked_fact v x ≡ x) here head
masked_at v (g ∷ fs) (suc k) f same at =
    let tail : map (masked_fact v) fs ≡ fs = cc in
    masked_at v fs k f tail at

whole_facts : (s : StreamEnds) → IsMasked s → map (masked_fact (kept_view s)) s.ends.known.facts ≡ s.ends.known.facts
unfolding masked
whole_facts s is = ap (λ (x : View). x.facts) is.same

pub sees_itself : (s : StreamEnds) → Sees (kept_view s) s
sees_itself s = record { ends = record { me = refl; facts = refl; acked = refl; handed = refl }; closed = refl }

-- a fact whose bytes aren't needed is written without them
pub bare_at : (s : StreamEnds) (k : ℕ) (f : Fact) → IsMasked s → slice_get s.ends.known.facts k ≡ Some f → IsWellFormedFact f → (is_secret f && not (is_needed (kept_view s) f)) ≡ true → IsBareFact f
bare_at s k f masked at formed test =
    let same = masked_at (kept_view s) s.ends.known.facts k f (whole_facts s masked) at in
    let unneeded = was_not (is_needed (kept_view s) f) (and_right (is_secret f) (not (is_needed (kept_view s) f)) test) in
    let wiped : without_bytes f ≡ f = ap (λ (t : Bool). if t then f else without_bytes f) (sym unneeded) ∙ same in
    record { secret = and_left (is_secret f) (not (is_needed (kept_view s) f)) test; formed = formed; zeros = zeros_are f wiped }

-- the record that a test chooses
pub record_by : (v : View) (f : Fact) (t b : Bool) → t ≡ (is_secret f && not (is_needed v f)) → t ≡ b → (if b then Bare f else Learned f) ≡ fact_record v f
record_by v f t b is same = ap (λ (x : Bool). if x then Bare f else Learned f) (sym same ∙ is)
