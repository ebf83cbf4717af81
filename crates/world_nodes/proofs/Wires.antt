-- A wire with one more frame, and counts of a lane's owners.
use Rattle.std.proofs.Common.{◌≡◌, ℕ, zero, suc, ◌+◌, ◌<◌, true, false, List, [], ◌∷◌, ◌++◌, length, length-append, replicate, map, refl, sym, ◌∙◌, ap, ap₂, subst, arith, Option, Some, None, Result, Ok, Err}
use Rattle.std.specs.Prelude.{◌==◌, slice_get, slice_index_or, cond, count_by, filter, is_some, IfSome, MatchResult, if◌then◌else◌}
use Rattle.std.proofs.lemmas.List.{map-append, append-nil}
use Rattle.std.proofs.lemmas.List.Sums.{sum_by-append, length-filter}
use Rattle.std.proofs.lemmas.List.Folds.{sum_by-replicate}
use Rattle.qkd_base.specs.declared.lane.Lane.{Lane}
use Rattle.net_model.specs.Ledger.{is_spent, is_burnt}
use Rattle.net_model.specs.World.{Network, World, Outgoing, Owner, HashKey, Frame, Burnt}
use Rattle.net_model.specs.Frames.{frame_octets, outgoing_of}
use Rattle.source_devices.specs.declared.wire.WireFailed.{WireFailed}
use Rattle.source_devices.specs.Frames.{TakesFrame}
use Rattle.law_base.proofs.Base.{eq_from, eq_same}
use Rattle.world_nodes.specs.LaneStands.{spelled_wire, WireStands}
use Rattle.source_devices.specs.declared.wire.Wire as Wire

-- lists

pub same_map : {A B : Type 0} (f g : A → B) (xs : List A) → ((n : ℕ) (x : A) → slice_get xs n ≡ Some x → f x ≡ g x) → map f xs ≡ map g xs
same_map f g [] h = refl
same_map {B = B} f g (x ∷ xs) h = ap₂ (λ (y : B) (ys : List B). y ∷ ys) (h zero x refl) (same_map f g xs (λ n y at. h (suc n) y at))

pub get-map : {A B : Type 0} (f : A → B) (xs : List A) (n : ℕ) (x : A) → slice_get xs n ≡ Some x → slice_get (map f xs) n ≡ Some (f x)
get-map f [] n x h = cc
get-map {B = B} f (y ∷ xs) zero x h = let is : y ≡ x = cc in ap (λ z. Some (f z)) is
get-map f (y ∷ xs) (suc n) x h = get-map f xs n x h

pub index_from : {A : Type 0} (xs : List A) (n : ℕ) (x d : A) → slice_get xs n ≡ Some x → slice_index_or xs n d ≡ x
index_from [] n x d h = cc
index_from (y ∷ xs) zero x d h = cc
index_from (y ∷ xs) (suc n) x d h = index_from xs n x d h

-- The last frame that may be put is found by its number, if every other one has a lower number.
pub found_last : (os : List Outgoing) (o : Outgoing) → ((n : ℕ) (x : Outgoing) → slice_get os n ≡ Some x → x.frame < o.frame) → outgoing_of o.frame (os ++ o ∷ []) ≡ Some o
found_last [] o less = rw (eq_same o.frame) refl
found_last (x ∷ os) o less =
    elim (x.frame == o.frame) as (λ t. (x.frame == o.frame) ≡ t → (if t then Some x else outgoing_of o.frame (os ++ o ∷ [])) ≡ Some o) [
      | true ↦ λ e. let same = eq_from x.frame o.frame e in let lt = less zero x refl in absurd (omega arith)
      | false ↦ λ e. found_last os o (λ n y at. less (suc n) y at)
    ] refl

-- owners

pub burnt-both : (xs ys : List Owner) → count_by is_burnt (xs ++ ys) ≡ count_by is_burnt xs + count_by is_burnt ys
burnt-both xs ys = sum_by-append (λ o. cond (is_burnt o) 1 0) xs ys

pub none_burnt : (n j : ℕ) → count_by is_burnt (replicate n (Frame j)) ≡ 0
none_burnt n j = let e = sum_by-replicate (λ o. cond (is_burnt o) 1 0) n (Frame j) in omega (arith, e)

pub all_burnt : (n : ℕ) → count_by is_burnt (replicate n Burnt) ≡ n
all_burnt n = let e = sum_by-replicate (λ o. cond (is_burnt o) 1 0) n Burnt in omega (arith, e)

one_after : (a b n : ℕ) → a + b ≡ n → a + suc b ≡ suc n
one_after a b n h = omega (arith, h)

one_before : (a b n : ℕ) → a + b ≡ n → suc a + b ≡ suc n
one_before a b n h = omega (arith, h)

both_kinds : (own : List Owner) → length (filter is_spent own) + length (filter is_burnt own) ≡ length own
both_kinds [] = refl
both_kinds (HashKey ∷ own) = one_before (length (filter is_spent own)) (length (filter is_burnt own)) (length own) (both_kinds own)
both_kinds (Frame j ∷ own) = one_before (length (filter is_spent own)) (length (filter is_burnt own)) (length own) (both_kinds own)
both_kinds (Burnt ∷ own) = one_after (length (filter is_spent own)) (length (filter is_burnt own)) (length own) (both_kinds own)

pub spent_or_burnt : (own : List Owner) → count_by is_spent own + count_by is_burnt own ≡ length own
spent_or_burnt own = let s = length-filter is_spent own in let b = length-filter is_burnt own in let h = both_kinds own in omega (arith, s, b, h)

-- wires

-- the list with one more frame, or the same list after a failure
abbrev pub added : {A : Type 0} → Result ℕ WireFailed → List A → A → List A
added (Ok n) xs x = xs ++ x ∷ []
added (Err e) xs x = xs

pub map-added : {A B : Type 0} (f : A → B) (answer : Result ℕ WireFailed) (xs : List A) (x : A) → map f (added answer xs x) ≡ added answer (map f xs) (f x)
map-added f (Ok n) xs x = map-append f xs (x ∷ [])
map-added f (Err e) xs x = refl

-- The wire has one more frame, whose number is the old count, or its count stays.
abbrev pub IsNumbered : Result ℕ WireFailed → ℕ → ℕ → Type 0
IsNumbered answer old new = MatchResult answer (λ n. (n ≡ old) × (new ≡ old + 1)) (λ _. new ≡ old)

abbrev pub numbered : Result ℕ WireFailed → ℕ → Option ℕ
numbered (Ok n) next = Some next
numbered (Err e) next = None

abbrev pub IsNext : Result ℕ WireFailed → ℕ → Type 0
IsNext (Ok n) next = n ≡ next
IsNext (Err e) next = Unit {0}

pub is_next : (answer : Result ℕ WireFailed) (old new next : ℕ) → IsNumbered answer old new → old ≡ next → IsNext answer next
is_next (Ok n) old new next h e = h.0 ∙ e
is_next (Err x) old new next h e = tt

pub told_more : (old new : Option (List (List ℕ))) (answer : Result ℕ WireFailed) (all : List (List ℕ)) (frame : List ℕ) →
    IfSome old (λ x. x ≡ all) → TakesFrame old new answer frame → IfSome new (λ x. x ≡ added answer all frame)
told_more None new answer all frame is takes = subst (λ (o : Option (List (List ℕ))). IfSome o (λ x. x ≡ added answer all frame)) (sym takes) tt
told_more (Some xs) new (Ok n) all frame is takes =
    subst (λ (o : Option (List (List ℕ))). IfSome o (λ x. x ≡ all ++ frame ∷ [])) (sym takes) (ap (λ (ys : List (List ℕ)). ys ++ frame ∷ []) is)
told_more (Some xs) new (Err e) all frame is takes =
    subst (λ (o : Option (List (List ℕ))). IfSome o (λ x. x ≡ all)) (sym takes) (append-nil xs ∙ is)

pub tells_more : (old new : Option (List (List ℕ))) (answer : Result ℕ WireFailed) (frame : List ℕ) → is_some old ≡ true → TakesFrame old new answer frame → is_some new ≡ true
tells_more None new answer frame tells takes = cc
tells_more (Some xs) new (Ok n) frame tells takes = ap is_some takes
tells_more (Some xs) new (Err e) frame tells takes = ap is_some takes

-- the octets of a frame of a lane
abbrev pub octets_at : Network → World → Lane → ℕ → List ℕ
octets_at net w l i = frame_octets net w l (slice_get (w.frames l) i)

-- The frames of a lane's wire keep their octets.
abbrev pub KeepsOctets : Network → World → World → Lane → Type 0
KeepsOctets net w w' l = (n i : ℕ) → slice_get (w.wire l) n ≡ Some i → octets_at net w' l i ≡ octets_at net w l i

module _ {X : Type 0} (wire_says : Wire.Ghosts X) (net : Network) (w w' : World) (l : Lane) (old new : X) (s : WireStands wire_says net w l old) (same : KeepsOctets net w w' l) where
  counts : (r : Result ℕ WireFailed) (j : ℕ) → IsNumbered r (wire_says.counted old) (wire_says.counted new) → wire_says.counted new ≡ length (added r (w.wire l) j)
  counts (Ok n) j h = omega (arith, h.1, s.count, length-append (w.wire l) (j ∷ []))
  counts (Err e) j h = h ∙ s.count

  spelled_more : (answer : Result ℕ WireFailed) (j : ℕ) (frame : List ℕ) → octets_at net w' l j ≡ frame → w'.wire l ≡ added answer (w.wire l) j →
      spelled_wire net w' l ≡ added answer (spelled_wire net w l) frame
  spelled_more answer j frame is wire =
      ap (map (octets_at net w' l)) wire ∙ map-added (octets_at net w' l) answer (w.wire l) j
      ∙ ap₂ (λ (xs : List (List ℕ)) (x : List ℕ). added answer xs x) (same_map (octets_at net w' l) (octets_at net w l) (w.wire l) same) is

  -- A frame with these octets follows the others, or none does.
  pub wire_more : (answer : Result ℕ WireFailed) (j : ℕ) (frame : List ℕ) → octets_at net w' l j ≡ frame → w'.wire l ≡ added answer (w.wire l) j →
      TakesFrame (wire_says.frames old) (wire_says.frames new) answer frame → IsNumbered answer (wire_says.counted old) (wire_says.counted new) → WireStands wire_says net w' l new
  wire_more answer j frame is wire takes number = record {
    count = counts answer j number ∙ ap length (sym wire);
    tells = tells_more (wire_says.frames old) (wire_says.frames new) answer frame s.tells takes;
    told = subst (λ (all : List (List ℕ)). IfSome (wire_says.frames new) (λ x. x ≡ all)) (sym (spelled_more answer j frame is wire)) (told_more (wire_says.frames old) (wire_says.frames new) answer (spelled_wire net w l) frame s.told takes);
  }

  spelled_kept : w'.wire l ≡ w.wire l → spelled_wire net w' l ≡ spelled_wire net w l
  spelled_kept wire = ap (map (octets_at net w' l)) wire ∙ same_map (octets_at net w' l) (octets_at net w l) (w.wire l) same

  -- No frame is put on the wire.
  pub wire_kept : w'.wire l ≡ w.wire l → new ≡ old → WireStands wire_says net w' l new
  wire_kept wire is = record {
    count = ap wire_says.counted is ∙ s.count ∙ ap length (sym wire);
    tells = ap (λ (x : X). is_some (wire_says.frames x)) is ∙ s.tells;
    told = subst (λ (x : X). IfSome (wire_says.frames x) (λ all. all ≡ spelled_wire net w' l)) (sym is)
        (subst (λ (all : List (List ℕ)). IfSome (wire_says.frames old) (λ x. x ≡ all)) (sym (spelled_kept wire)) s.told);
  }
