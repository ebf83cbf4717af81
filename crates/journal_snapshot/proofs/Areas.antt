-- An area with its closed gate, octet by octet.
use Rattle.std.proofs.Common.{◌≡◌, ◌≤◌, ◌<◌, ◌⊎◌, inl, inr, ℕ, zero, suc, ◌+◌, ◌-◌, ◌^◌, Bool, true, false, List, [], ◌∷◌, ◌++◌, length, take, drop, replicate, refl, sym, ◌∙◌, ap, arith, append_assoc, length-append, length-take, length-drop, take-append-drop}
use Rattle.std.specs.Prelude.{slice_index, sum_by}
use Rattle.std.proofs.lemmas.List.{ext_get_or, get_or-take, get_or-drop, get_or_append_left, get_or-append-add, length-take-le, drop-drop, length-replicate}
use Rattle.std.proofs.lemmas.List.Sums.{sum_by-cons}
use Rattle.disk_model.specs.Images.{Torn, Only, overlaid}
use Rattle.range_journal.specs.Batches.{spelled, AreShort, StandsBefore, IsSettled}
use Rattle.range_journal.proofs.Gates.{overlaid_is}
use Rattle.disk_model.specs.Laws.{torn_overlaid}
use Rattle.journal_snapshot.specs.declared.live.Live.{Live}
use Rattle.journal_snapshot.specs.Snapshots.{need_of}
use Rattle.journal_snapshot.specs.Checkpoint.{cleared, fields_at, fields_in, drawn}
use Rattle.journal_snapshot.proofs.Marks.{Written}

-- the octets of an area
abbrev pub area : List (List ℕ) → List ℕ
area batches = spelled batches ++ 0 ∷ []

pub record IsArea (place : ℕ) (batches : List (List ℕ)) (i : List ℕ) : Type 0 where
  pub written : Written place (area batches) i
  pub long : place + length (area batches) ≤ length i

pub area_long : (batches : List (List ℕ)) → length (area batches) ≡ length (spelled batches) + 1
area_long batches = length-append (spelled batches) (0 ∷ [])

pub need_is : (batches : List (List ℕ)) → length (area batches) ≡ need_of batches
need_is batches = omega (arith, area_long batches, spelled_long batches)
  where
    spelled_long : (batches : List (List ℕ)) → length (spelled batches) ≡ sum_by (λ b. 5 + length b) batches
    spelled_long [] = refl
    spelled_long (b ∷ batches) = omega (arith, spelled_long batches, length-append b (spelled batches), sum_by-cons (λ (x : List ℕ). 5 + length x) b batches)

-- How many octets an area with zeros before it has.
pub block_long : (zeros : ℕ) (batches : List (List ℕ)) (block : List ℕ) → block ≡ replicate zeros 0 ++ area batches → length block ≡ zeros + need_of batches
block_long zeros batches block is =
    omega (arith, ap length is, length-append (replicate zeros 0) (area batches), length-replicate {A = ℕ} zeros 0, need_is batches)

-- If a list's octets are few, each of its bodies is short.
pub all_short : (batches : List (List ℕ)) → need_of batches < 2 ^ 32 → AreShort batches
all_short [] few k d lt = absurd (omega (arith, lt))
all_short (b ∷ batches) few zero d lt = let here : length b < 2 ^ 32 = omega (arith, few, sum_by-cons (λ (x : List ℕ). 5 + length x) b batches) in here
all_short (b ∷ batches) few (suc k) d lt = all_short batches (omega (arith, few, sum_by-cons (λ (x : List ℕ). 5 + length x) b batches)) k d (omega (arith, lt))

-- The octets written at a place split the disk's octets into three lists.
at_place : (place : ℕ) (bytes i : List ℕ) → Written place bytes i → place + length bytes ≤ length i → i ≡ take place i ++ (bytes ++ drop (place + length bytes) i)
at_place place bytes i w long =
    let behind : take (length bytes) (drop place i) ≡ bytes =
    ext_get_or 0 (take (length bytes) (drop place i)) bytes (length-take-le (length bytes) (drop place i) (omega (arith, long, length-drop place i)))
    (λ k lt.
    let below : k < length bytes = omega (arith, lt, length-take (length bytes) (drop place i)) in
    get_or-take (length bytes) (drop place i) k 0 below ∙ get_or-drop place i k 0 ∙ w k below) in
    sym (take-append-drop place i)
    ∙ ap (λ (l : List ℕ). take place i ++ l) (sym (take-append-drop (length bytes) (drop place i)) ∙ ap (λ (l : List ℕ). l ++ drop (length bytes) (drop place i)) behind ∙ ap (λ (l : List ℕ). bytes ++ l) (drop-drop (length bytes) place i))

area_at : (place : ℕ) (batches : List (List ℕ)) (i : List ℕ) → IsArea place batches i → i ≡ take place i ++ spelled batches ++ 0 ∷ drop (place + length (area batches)) i
area_at place batches i a =
    at_place place (area batches) i a.written a.long
    ∙ ap (λ (l : List ℕ). take place i ++ l) (append_assoc (spelled batches) (0 ∷ []) (drop (place + length (area batches)) i))
    ∙ sym (append_assoc (take place i) (spelled batches) (0 ∷ drop (place + length (area batches)) i))

pub stands_of : (place : ℕ) (batches : List (List ℕ)) (i : List ℕ) → AreShort batches → IsArea place batches i → StandsBefore (take place i) batches [] i
stands_of place batches i short a =
    record { gate = 0; rest = drop (place + length (area batches)) i; is = area_at place batches i a; shut = λ z. absurd (omega (arith, z)); short = short; closed = inl refl }

pub settled_of : (place : ℕ) (batches : List (List ℕ)) (i : List ℕ) (images : List ℕ → Type 0) → Only i images → IsArea place batches i → IsSettled i images place batches
settled_of place batches i images only a = record { rest = drop (place + length (area batches)) i; place = omega (arith, a.long); is = area_at place batches i a; only = only }

-- Octets that directly follow a front are written at the place that is the front's length.
pub written_at : (front bytes rest i : List ℕ) (place : ℕ) → length front ≡ place → i ≡ front ++ (bytes ++ rest) → Written place bytes i
written_at front bytes rest i place long is k lt =
    ap (λ (l : List ℕ). slice_index l (place + k)) is
    ∙ ap (λ (n : ℕ). slice_index (front ++ (bytes ++ rest)) (n + k)) (sym long)
    ∙ get_or-append-add front (bytes ++ rest) k 0
    ∙ get_or_append_left bytes rest 0 k lt

pub area_of_settled : (place : ℕ) (batches : List (List ℕ)) (c : List ℕ) (images : List ℕ → Type 0) → IsSettled c images place batches → IsArea place batches c
area_of_settled place batches c images s =
    let front : length (take place c) ≡ place = length-take-le place c s.place in
    let is : c ≡ take place c ++ (area batches ++ s.rest) =
    s.is ∙ append_assoc (take place c) (spelled batches) (0 ∷ s.rest) ∙ ap (λ (l : List ℕ). take place c ++ l) (sym (append_assoc (spelled batches) (0 ∷ []) s.rest)) in
    record {
      written = written_at (take place c) (area batches) s.rest c place front is;
      long = omega (arith, front, ap length is, length-append (take place c) (area batches ++ s.rest), length-append (area batches) s.rest);
    }

-- Octets outside of a torn range are unchanged.
pub torn_outside : (at n : ℕ) (c i : List ℕ) → Torn at n c i → (k : ℕ) → (k < at) ⊎ (at + n ≤ k) → slice_index i k ≡ slice_index c k
torn_outside at n c i t k (inl before) = sym (get_or-take at i k 0 before) ∙ ap (λ (l : List ℕ). slice_index l k) t.before ∙ get_or-take at c k 0 before
torn_outside at n c i t k (inr after) =
    let there : at + n + (k - (at + n)) ≡ k = omega (arith, after) in
    ap (λ (m : ℕ). slice_index i m) (sym there)
    ∙ sym (get_or-drop (at + n) i (k - (at + n)) 0)
    ∙ ap (λ (l : List ℕ). slice_index l (k - (at + n))) t.after
    ∙ get_or-drop (at + n) c (k - (at + n)) 0
    ∙ ap (λ (m : ℕ). slice_index c m) there

-- What was written outside of a torn range is still written.
pub written_outside : (at n place : ℕ) (bytes c i : List ℕ) → Torn at n c i → (place + length bytes ≤ at) ⊎ (at + n ≤ place) → Written place bytes c → Written place bytes i
written_outside at n place bytes c i t (inl before) w k lt = torn_outside at n c i t (place + k) (inl (omega (arith, before, lt))) ∙ w k lt
written_outside at n place bytes c i t (inr after) w k lt = torn_outside at n c i t (place + k) (inr (omega (arith, after))) ∙ w k lt

pub area_outside : (at n place : ℕ) (batches : List (List ℕ)) (c i : List ℕ) → Torn at n c i → (place + length (area batches) ≤ at) ⊎ (at + n ≤ place) → IsArea place batches c → IsArea place batches i
area_outside at n place batches c i t apart a = record {
  written = written_outside at n place (area batches) c i t apart a.written;
  long = omega (arith, a.long, t.no_shorter);
}

-- Octets laid over a range are written there.
pub laid : (at : ℕ) (bytes c : List ℕ) → at ≤ length c → Written at bytes (overlaid at bytes c)
laid at bytes c le =
    let front : length (take at c) ≡ at = length-take-le at c le in
    written_at (take at c) bytes (drop (at + length bytes) c) (overlaid at bytes c) at front (overlaid_is at bytes c le ∙ append_assoc (take at c) bytes (drop (at + length bytes) c))

pub laid_long : (at : ℕ) (bytes c : List ℕ) → at ≤ length c → at + length bytes ≤ length (overlaid at bytes c)
laid_long at bytes c le =
    omega (
      arith,
      ap length (overlaid_is at bytes c le),
      length-append (take at c ++ bytes) (drop (at + length bytes) c),
      length-append (take at c) bytes,
      length-take-le at c le,
    )

overlaid_longer : (at : ℕ) (bytes c : List ℕ) → length c ≤ length (overlaid at bytes c)
overlaid_longer at bytes c = (torn_overlaid at (length bytes) bytes c (omega arith)).no_shorter

pub cleared_longer : (older : Bool) (mark : ℕ) (c : List ℕ) → length c ≤ length (cleared older mark c)
cleared_longer true mark c = overlaid_longer mark (0 ∷ []) c
cleared_longer false mark c = omega arith

pub drawn_longer : (live : Live) (at : ℕ) (block : List ℕ) (place : ℕ) (c : List ℕ) → length c ≤ length (drawn live at block place c)
drawn_longer live at block place c = omega (arith, overlaid_longer at block c, overlaid_longer (fields_at live) (fields_in live place) (overlaid at block c))
