-- An item passes a query exactly if it has the query's group.
use Rattle.std.proofs.Common.{◌≡◌, ℕ, zero, suc, ◌+◌, ◌*◌, ◌%◌, Bool, true, false, ◌||◌, ◌&&◌, List, [], ◌∷◌, ◌++◌, length, refl, sym, ◌∙◌, ap, subst, arith, Option, Some, None}
use Rattle.std.specs.Prelude.{map, slice_set, ◌==◌}
use Rattle.std.specs.List.{list_any}
use Rattle.std.specs.Str.{bytes_eq}
use Rattle.std.proofs.lemmas.Bool.Decides.{nat_tests}
use Rattle.qkd_base.specs.Lane.{lane_eq, lane_place, way_eq, way_number}
use Rattle.qkd_base.specs.declared.key_name.NameKind.{NameKind}
use Rattle.qkd_base.specs.declared.key_name.NameKind.TheVariants.{Key, Stream, Note}
use Rattle.qkd_base.specs.Name.{Name, name_eq, kind_eq, kind_number}
use Rattle.qkd_base.specs.declared.lane.Lane.{Lane}
use Rattle.qkd_base.specs.declared.lane.Way.{Way}
use Rattle.qkd_base.specs.declared.lane.Way.TheVariants.{Up, Down}
use Rattle.qkd_base.specs.declared.frame_octets.FrameOctets.{FrameOctets}
use Rattle.resend_window.specs.declared.held.Held.{Held}
use Rattle.resend_window.specs.declared.edit.Query.{Query}
use Rattle.resend_window.specs.declared.edit.Query.TheVariants.{At, Answering, DataOf, SentAt}
use Rattle.resend_window.specs.Slots.{passes, is_asked}
use Rattle.net_model.specs.Item.{item_eq}
use Rattle.net_model.specs.Window.{offset_eq}
use Rattle.resend_window.specs.declared.arrival.Arrival.{Arrival}
use Rattle.resend_window.specs.declared.arrival.Arrivals.{Arrivals}
use Rattle.resend_window.specs.declared.arrival.Arrivals.TheVariants.{Of, From}
use Rattle.resend_window.specs.declared.awaited.Awaited.{Awaited}
use Rattle.relay_core.specs.Index.{origin_number, tagged}
use Rattle.resend_window.specs.Held.{item_by}
use Rattle.resend_window.specs.Lists.{is_from, is_same}
use Rattle.resend_window.proofs.Edits.{lane_sym}
use Rattle.resend_window.specs.Groups.{offset_group, name_group, query_group, held_groups, arrivals_group, arrival_groups, awaited_by, awaited_group, awaited_groups}
use Rattle.resend_window.specs.declared.catalogue.Catalogue.{Catalogue}
use Rattle.resend_window.specs.Catalogued.{IsCatalogue, Catalogues}
use Rattle.resend_window.proofs.Catalogues.{AreGroups, catalogue_gap}

eq_sym : (a b : ℕ) → (a == b) ≡ (b == a)
eq_sym a b = grind (arith, nat_tests)

-- numbers that hold a tag and another number

tags_apart : (s t u v : ℕ) → (s % 8 == t % 8) ≡ false → (tagged s u == tagged t v) ≡ false
tags_apart s t u v h = grind (arith, nat_tests)

tagged_are : (tag : ℕ) (l k : Lane) → (tagged tag (lane_place l) == tagged tag (lane_place k)) ≡ lane_eq k l
tagged_are tag l k = by l.link k.link l.way k.way
  where
    by : (a b : ℕ) (v w : Way) → (tag + 8 * (2 * a + way_number v) == tag + 8 * (2 * b + way_number w)) ≡ ((b == a) && way_eq w v)
    by a b Up Up = grind (arith, nat_tests)
    by a b Up Down = grind (arith, nat_tests)
    by a b Down Up = grind (arith, nat_tests)
    by a b Down Down = grind (arith, nat_tests)

origins_are : (n m : Name) → (origin_number n == origin_number m) ≡ ((m.node == n.node) && kind_eq m.kind n.kind)
origins_are n m = by n.node m.node n.kind m.kind
  where
    by : (a b : ℕ) (j k : NameKind) → (kind_number j + 4 * a == kind_number k + 4 * b) ≡ ((b == a) && (kind_number k == kind_number j))
    by a b Key Key = grind (arith, nat_tests)
    by a b Key Stream = grind (arith, nat_tests)
    by a b Key Note = grind (arith, nat_tests)
    by a b Stream Key = grind (arith, nat_tests)
    by a b Stream Stream = grind (arith, nat_tests)
    by a b Stream Note = grind (arith, nat_tests)
    by a b Note Key = grind (arith, nat_tests)
    by a b Note Stream = grind (arith, nat_tests)
    by a b Note Note = grind (arith, nat_tests)

-- two groups of lane and offset are equal exactly if their lanes and offsets are
pub offset_is : (tag : ℕ) (l k : Lane) (x y : ℕ) → bytes_eq (offset_group tag l x) (offset_group tag k y) ≡ (lane_eq k l && (y == x))
offset_is tag l k x y =
    ap (λ (b : Bool). b && ((tagged tag (lane_place l) == tagged tag (lane_place k)) && true)) (eq_sym x y)
    ∙ ap (λ (b : Bool). (y == x) && (b && true)) (tagged_are tag l k)
    ∙ by (y == x) (lane_eq k l)
  where
    by : (c a : Bool) → (c && (a && true)) ≡ (a && c)
    by true true = refl
    by true false = refl
    by false true = refl
    by false false = refl

-- two groups of lane, name and one more number are equal exactly if all three are
pub name_is : (tag : ℕ) (l k : Lane) (n m : Name) (x y : ℕ) → bytes_eq (name_group tag l n x) (name_group tag k m y) ≡ ((lane_eq k l && name_eq m n) && (x == y))
name_is tag l k n m x y =
    ap (λ (b : Bool). b && ((tagged tag (lane_place l) == tagged tag (lane_place k)) && ((origin_number n == origin_number m) && ((x == y) && true)))) (eq_sym n.count m.count)
    ∙ ap (λ (b : Bool). (m.count == n.count) && (b && ((origin_number n == origin_number m) && ((x == y) && true)))) (tagged_are tag l k)
    ∙ ap (λ (b : Bool). (m.count == n.count) && (lane_eq k l && (b && ((x == y) && true)))) (origins_are n m)
    ∙ by (m.count == n.count) (lane_eq k l) ((m.node == n.node) && kind_eq m.kind n.kind) (x == y)
  where
    by : (a b c d : Bool) → (a && (b && (c && (d && true)))) ≡ ((b && (c && a)) && d)
    by true true true true = refl
    by true true true false = refl
    by true true false d = refl
    by true false c d = refl
    by false true true d = refl
    by false true false d = refl
    by false false c d = refl

and_true : (b : Bool) → (b && true) ≡ b
and_true true = refl
and_true false = refl

or_none : (b : Bool) → (b || false) ≡ b
or_none true = refl
or_none false = refl

and_false : (b : Bool) → (b && false) ≡ false
and_false true = refl
and_false false = refl

-- groups with different tags are different
apart : (s t u v : ℕ) (a b : Bool) → (s % 8 == t % 8) ≡ false → (a && ((tagged s u == tagged t v) && b)) ≡ false
apart s t u v a b h = ap (λ (c : Bool). a && (c && b)) (tags_apart s t u v h) ∙ and_false a

-- a group with another tag doesn't match, before or after other groups

pub behind : (s t u v : ℕ) (a b rest : Bool) → (s % 8 == t % 8) ≡ false → ((a && ((tagged s u == tagged t v) && b)) || rest) ≡ rest
behind s t u v a b rest h = ap (λ (c : Bool). c || rest) (apart s t u v a b h)

before : (s t u v : ℕ) (one a b : Bool) → (s % 8 == t % 8) ≡ false → (one || ((a && ((tagged s u == tagged t v) && b)) || false)) ≡ one
before s t u v one a b h = ap (λ (c : Bool). one || (c || false)) (apart s t u v a b h) ∙ or_none one

held_asked : (q : Query) (l : Lane) (x : ℕ) (n : Name) (o number : Option ℕ) (sent : ℕ) (d r : Bool) (size : ℕ) (f : FrameOctets) →
    (let h : Held = record { lane = l; offset = x; name = n; ack_of = o; number = number; sent = sent; due = d; ripe = r; length = size; frame = f } in list_any (bytes_eq (query_group q)) (held_groups (Some h)) ≡ is_asked q h)
held_asked (At k y) l x n None number sent d r size f =
    behind 0 3 (lane_place k) 0 _ _ _ refl ∙ before 0 2 (lane_place k) (lane_place l) _ _ _ refl ∙ offset_is 0 k l y x
held_asked (At k y) l x n (Some z) number sent d r size f = before 0 1 (lane_place k) (lane_place l) _ _ _ refl ∙ offset_is 0 k l y x
held_asked (Answering k y) l x n None number sent d r size f =
    behind 1 3 (lane_place k) 0 _ _ _ refl ∙ behind 1 0 (lane_place k) (lane_place l) _ _ _ refl ∙ behind 1 2 (lane_place k) (lane_place l) _ _ false refl
    ∙ sym (and_false (lane_eq l k))
held_asked (Answering k y) l x n (Some z) number sent d r size f = behind 1 0 (lane_place k) (lane_place l) _ _ _ refl ∙ or_none _ ∙ offset_is 1 k l y z
held_asked (DataOf k m) l x n None number sent d r size f =
    behind 2 3 (lane_place k) 0 _ _ _ refl ∙ behind 2 0 (lane_place k) (lane_place l) _ _ _ refl ∙ or_none _ ∙ name_is 2 k l m n 0 0 ∙ and_true _
held_asked (DataOf k m) l x n (Some z) number sent d r size f =
    behind 2 0 (lane_place k) (lane_place l) _ _ _ refl ∙ behind 2 1 (lane_place k) (lane_place l) _ _ false refl ∙ sym (and_false (lane_eq l k))
held_asked (SentAt tick) l x n None number sent d r size f =
    ap (λ (b : Bool). ((tick == sent) && true) || b) (behind 3 0 0 (lane_place l) _ _ _ refl ∙ behind 3 2 0 (lane_place l) _ _ false refl)
    ∙ or_none _ ∙ and_true (tick == sent) ∙ eq_sym tick sent
held_asked (SentAt tick) l x n (Some z) number sent d r size f = behind 3 0 0 (lane_place l) _ _ _ refl ∙ behind 3 1 0 (lane_place l) _ _ false refl

pub held_are : (q : Query) → AreGroups held_groups (passes (is_asked q)) (query_group q)
held_are q = record { asked = by; nothing = refl }
  where
    by : (o : Option Held) → list_any (bytes_eq (query_group q)) (held_groups o) ≡ passes (is_asked q) o
    by None = refl
    by (Some h) = held_asked q h.lane h.offset h.name h.ack_of h.number h.sent h.due h.ripe h.length h.frame

-- changing the item at a place

pub keys_set : {A : Type 0} (keys : Option A → List (List ℕ)) (xs : List (Option A)) (p : ℕ) → keys None ≡ [] → map keys (slice_set xs p None) ≡ slice_set (map keys xs) p []
keys_set keys [] p none = refl
keys_set keys (x ∷ xs) zero none = ap (λ k. k ∷ map keys xs) none
keys_set keys (x ∷ xs) (suc p) none = ap (λ ks. keys x ∷ ks) (keys_set keys xs p none)

pub keys_push : {A : Type 0} (keys : Option A → List (List ℕ)) (xs : List (Option A)) (o : Option A) → map keys (xs ++ o ∷ []) ≡ map keys xs ++ keys o ∷ []
keys_push keys [] o = refl
keys_push keys (x ∷ xs) o = ap (λ ks. keys x ∷ ks) (keys_push keys xs o)

pub keys_length : {A : Type 0} (keys : Option A → List (List ℕ)) (xs : List (Option A)) → length (map keys xs) ≡ length xs
keys_length keys [] = refl
keys_length keys (x ∷ xs) = let r = keys_length keys xs in omega arith

-- acknowledgements

arrival_asked : (q : Arrivals) (a : Arrival) → list_any (bytes_eq (arrivals_group q)) (arrival_groups (Some a)) ≡ is_from q a
arrival_asked (Of l) a = before 0 1 (lane_place l) (lane_place a.lane) _ _ _ refl ∙ offset_is 0 l a.lane 0 0 ∙ and_true (lane_eq a.lane l)
arrival_asked (From l x) a = behind 1 0 (lane_place l) (lane_place a.lane) _ _ _ refl ∙ or_none _ ∙ offset_is 1 l a.lane x a.offset

pub arrival_are : (q : Arrivals) → AreGroups arrival_groups (passes (is_from q)) (arrivals_group q)
arrival_are q = record { asked = by; nothing = refl }
  where
    by : (o : Option Arrival) → list_any (bytes_eq (arrivals_group q)) (arrival_groups o) ≡ passes (is_from q) o
    by None = refl
    by (Some a) = arrival_asked q a

-- orders

name_sym : (l k : Lane) (n m : Name) → (lane_eq k l && name_eq m n) ≡ (lane_eq l k && name_eq n m)
name_sym l k n m =
    ap (λ (b : Bool). b && name_eq m n) (lane_sym k l)
    ∙ ap (λ (b : Bool). lane_eq l k && b)
    (ap (λ (b : Bool). (b && kind_eq m.kind n.kind) && (m.count == n.count)) (eq_sym m.node n.node)
    ∙ ap (λ (b : Bool). ((n.node == m.node) && b) && (m.count == n.count)) (eq_sym (kind_number m.kind) (kind_number n.kind))
    ∙ ap (λ (b : Bool). ((n.node == m.node) && kind_eq n.kind m.kind) && b) (eq_sym m.count n.count))

name_more : (tag : ℕ) (l k : Lane) (n m : Name) (x y : ℕ) → bytes_eq (name_group tag l n x) (name_group tag k m y) ≡ ((lane_eq l k && name_eq n m) && (x == y))
name_more tag l k n m x y = name_is tag l k n m x y ∙ ap (λ (b : Bool). b && (x == y)) (name_sym l k n m)

and_none : (b c : Bool) → ((b && false) && c) ≡ false
and_none true c = refl
and_none false c = refl

same_by : (l k : Lane) (n m : Name) (i j : Bool) (o p : Option ℕ) → bytes_eq (awaited_by l n i o) (awaited_by k m j p) ≡ ((lane_eq l k && item_eq (item_by i n) (item_by j m)) && offset_eq o p)
same_by l k n m false false None None = name_more 0 l k n m 0 0
same_by l k n m false false None (Some y) = apart 0 1 (lane_place l) (lane_place k) _ _ refl ∙ sym (and_false (lane_eq l k && name_eq n m))
same_by l k n m false false (Some x) None = apart 1 0 (lane_place l) (lane_place k) _ _ refl ∙ sym (and_false (lane_eq l k && name_eq n m))
same_by l k n m false false (Some x) (Some y) = name_more 1 l k n m x y
same_by l k n m true true None None = name_more 2 l k n m 0 0
same_by l k n m true true None (Some y) = apart 2 3 (lane_place l) (lane_place k) _ _ refl ∙ sym (and_false (lane_eq l k && name_eq n m))
same_by l k n m true true (Some x) None = apart 3 2 (lane_place l) (lane_place k) _ _ refl ∙ sym (and_false (lane_eq l k && name_eq n m))
same_by l k n m true true (Some x) (Some y) = name_more 3 l k n m x y
same_by l k n m false true None p = no_tag p
  where
    no_tag : (p : Option ℕ) → bytes_eq (awaited_by l n false None) (awaited_by k m true p) ≡ ((lane_eq l k && false) && offset_eq None p)
    no_tag None = apart 0 2 (lane_place l) (lane_place k) _ _ refl ∙ sym (and_none (lane_eq l k) true)
    no_tag (Some y) = apart 0 3 (lane_place l) (lane_place k) _ _ refl ∙ sym (and_none (lane_eq l k) false)
same_by l k n m false true (Some x) p = no_tag p
  where
    no_tag : (p : Option ℕ) → bytes_eq (awaited_by l n false (Some x)) (awaited_by k m true p) ≡ ((lane_eq l k && false) && offset_eq (Some x) p)
    no_tag None = apart 1 2 (lane_place l) (lane_place k) _ _ refl ∙ sym (and_none (lane_eq l k) false)
    no_tag (Some y) = apart 1 3 (lane_place l) (lane_place k) _ _ refl ∙ sym (and_none (lane_eq l k) (x == y))
same_by l k n m true false None p = no_tag p
  where
    no_tag : (p : Option ℕ) → bytes_eq (awaited_by l n true None) (awaited_by k m false p) ≡ ((lane_eq l k && false) && offset_eq None p)
    no_tag None = apart 2 0 (lane_place l) (lane_place k) _ _ refl ∙ sym (and_none (lane_eq l k) true)
    no_tag (Some y) = apart 2 1 (lane_place l) (lane_place k) _ _ refl ∙ sym (and_none (lane_eq l k) false)
same_by l k n m true false (Some x) p = no_tag p
  where
    no_tag : (p : Option ℕ) → bytes_eq (awaited_by l n true (Some x)) (awaited_by k m false p) ≡ ((lane_eq l k && false) && offset_eq (Some x) p)
    no_tag None = apart 3 0 (lane_place l) (lane_place k) _ _ refl ∙ sym (and_none (lane_eq l k) false)
    no_tag (Some y) = apart 3 1 (lane_place l) (lane_place k) _ _ refl ∙ sym (and_none (lane_eq l k) (x == y))

pub awaited_are : (w : Awaited) → AreGroups awaited_groups (passes (is_same w)) (awaited_group w)
awaited_are w = record { asked = by; nothing = refl }
  where
    by : (o : Option Awaited) → list_any (bytes_eq (awaited_group w)) (awaited_groups o) ≡ passes (is_same w) o
    by None = refl
    by (Some a) = or_none (bytes_eq (awaited_group w) (awaited_group a)) ∙ same_by w.lane a.lane w.name a.name w.is_ack a.is_ack w.ack_of a.ack_of

-- adding a place

pub listed_gap : {A : Type 0} (keys : Option A → List (List ℕ)) (xs more : List (Option A)) (o : Option A) (index : Catalogue) → more ≡ xs ++ o ∷ [] → keys o ≡ [] → Catalogues (map keys xs) index → Catalogues (map keys more) index
listed_gap keys xs more o index e none was whole =
    subst (λ (ks : List (List (List ℕ))). IsCatalogue ks index.entries) (sym (ap (map keys) e ∙ keys_push keys xs o ∙ ap (λ k. map keys xs ++ k ∷ []) none)) (catalogue_gap (map keys xs) index.entries (was whole))

pub listed_more : {A : Type 0} (keys : Option A → List (List ℕ)) (xs more : List (Option A)) (o : Option A) (first second : List ℕ) (index : Catalogue) → more ≡ xs ++ o ∷ [] → keys o ≡ first ∷ second ∷ [] →
    Catalogues (map keys xs ++ (first ∷ second ∷ []) ∷ []) index → Catalogues (map keys more) index
listed_more keys xs more o first second index e some was =
    subst (λ (ks : List (List (List ℕ))). Catalogues ks index) (sym (ap (map keys) e ∙ keys_push keys xs o ∙ ap (λ k. map keys xs ++ k ∷ []) some)) was

pub listed_one : {A : Type 0} (keys : Option A → List (List ℕ)) (xs more : List (Option A)) (o : Option A) (group : List ℕ) (index : Catalogue) → more ≡ xs ++ o ∷ [] → keys o ≡ group ∷ [] →
    Catalogues (map keys xs ++ (group ∷ []) ∷ []) index → Catalogues (map keys more) index
listed_one keys xs more o group index e some was =
    subst (λ (ks : List (List (List ℕ))). Catalogues ks index) (sym (ap (map keys) e ∙ keys_push keys xs o ∙ ap (λ k. map keys xs ++ k ∷ []) some)) was
