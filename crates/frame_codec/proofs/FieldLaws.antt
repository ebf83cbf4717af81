-- The spelling of a field is read as that field, and octets that are read as a field are its spelling.
use Rattle.std.proofs.Common.{◌≡◌, ℕ, suc, ◌+◌, ◌-◌, ◌/◌, ◌%◌, ◌^◌, ◌<◌, ◌≤◌, Bool, true, false, cond, ltb, leb, ◌&&◌, List, [], ◌∷◌, ◌++◌, length, take, drop, replicate, Option, Some, None, Result, Ok, Err, refl, sym, ap, subst, ◌∙◌, arith, inl, inr}
use Rattle.std.specs.Int.{w16, w32, w64, from_be_bytes, to_be_bytes}
use Rattle.std.specs.Str.{bytes_eq}
use Rattle.std.proofs.lemmas.Bool.{cases_lt, ltb-false, le-ltb}
use Rattle.std.proofs.lemmas.List.{take_at, drop_at, take-append-drop, length-append, length-take, get_or-drop, get_or-take, get_or_past}
use Rattle.std.proofs.lemmas.Nat.{be_bytes_4, from_be_bytes-to_be_bytes_4}
use Rattle.std.proofs.lemmas.Slice.Eq.{bytes_eq-Decides}
use Rattle.qkd_base.specs.declared.key_name.NameKind.{NameKind}
use Rattle.qkd_base.specs.declared.key_name.NameKind.TheVariants.{Key, Stream, Note}
use Rattle.qkd_base.specs.Name.{Name, IsName, is_name, octets_of, kind_number, kind_of_octet, kind_eq, candidate, name_at}
use Rattle.qkd_base.specs.Route.{is_route, are_nodes}
use Rattle.qkd_base.proofs.Names.{candidate_back, is_name-true, IsName-of}
use Rattle.net_model.specs.Facts.{IsSize}
use Rattle.frame_codec.specs.Payload.{IsNameOf, IsSae, AreRouteNodes, AreOctets, short, long, spelled_route}
use Rattle.frame_codec.specs.Reading.{◌>>=◌, passing, before, prefix, named, of_kind, any_kind, number_at, sae, size, index, route, last}

-- ---- results of readers

pub bind_ok : {A B : Type 0} (r : Result A ℕ) (f : A → Result B ℕ) (y : B) → (r >>= f) ≡ Ok y → (x : A) × (r ≡ Ok x) × (f x ≡ Ok y)
bind_ok (Ok x) f y e = (x, refl, e)
bind_ok (Err d) f y e = absurd cc

-- A reader goes on only if its test for a refusal is false.
pub guard_ok : {A : Type 0} (b : Bool) (d : ℕ) (r : Result A ℕ) (y : A) → cond b (Err d) r ≡ Ok y → (b ≡ false) × (r ≡ Ok y)
guard_ok true d r y e = absurd cc
guard_ok false d r y e = (refl, e)

passed_ok : {A : Type 0} (b : Bool) (d : ℕ) (x y : A) → cond b (Ok x) (Err d) ≡ Ok y → (b ≡ true) × (x ≡ y)
passed_ok true d x y e = (refl, cc)
passed_ok false d x y e = absurd cc

abbrev done : {A : Type 0} → A → Result A ℕ
done x = Ok x

pub ok_is : {A : Type 0} (x y : A) → done x ≡ done y → x ≡ y
ok_is x y e = cc

passing_ok : {A : Type 0} (test : A → Bool) (left : ℕ) (o : Option A) (a : A) → passing test left o ≡ Ok a → (o ≡ Some a) × (test a ≡ true)
passing_ok test left None a e = absurd cc
passing_ok test left (Some b) a e =
    let g = passed_ok (test b) left b a e in
    (ap Some g.1, subst (λ x. test x ≡ true) g.1 g.0)

passing_again : {A : Type 0} (test : A → Bool) (left : ℕ) (a : A) → test a ≡ true → passing test left (Some a) ≡ Ok a
passing_again test left a e = rw e refl

-- ---- octets

pub AreOctets-drop : (n : ℕ) (octets : List ℕ) → AreOctets octets → AreOctets (drop n octets)
AreOctets-drop n octets h i = rw get_or-drop (h (n + i))

pub AreOctets-take : (n : ℕ) (octets : List ℕ) → AreOctets octets → AreOctets (take n octets)
AreOctets-take n octets h i =
    elim (cases_lt i n) [
      | inl lt ↦ rw (get_or-take n octets i 0 lt) (h i)
      | inr le ↦ rw (get_or_past (take n octets) i 0 (omega (arith, length-take n octets))) (omega arith)
    ]

-- A reader took a field's spelling from the front of the octets, and left the rest.
pub record Takes (octets text rest : List ℕ) : Type 0 where
  pub parts : octets ≡ text ++ rest
  pub rest_fits : AreOctets rest

-- ---- values of a fixed number of octets

pub prefix_takes : {A : Type 0} (n : ℕ) (value : List ℕ → Option A) (test : A → Bool) (text : A → List ℕ) (Fits : A → Type 0) (octets : List ℕ) (x : A × List ℕ)
    → ((os : List ℕ) (a : A) → length os ≡ n → AreOctets os → value os ≡ Some a → test a ≡ true → (os ≡ text a) × Fits a)
    → AreOctets octets → prefix n value test octets ≡ Ok x → Takes octets (text x.0) x.1 × Fits x.0
prefix_takes n value test text Fits octets x is fits e =
    let g = guard_ok (ltb (length octets) n) (length octets) (before (drop n octets) (passing test (length octets) (value (take n octets)))) x e in
    let long_enough : n ≤ length octets = ltb-false _ _ g.0 in
    let b = bind_ok (passing test (length octets) (value (take n octets))) (λ a. Ok (a, drop n octets)) x g.1 in
    let p = passing_ok test (length octets) (value (take n octets)) b.0 b.1 in
    let t = is (take n octets) b.0 (omega (arith, length-take n octets, long_enough)) (AreOctets-take n octets fits) p.0 p.1 in
    subst (λ y. Takes octets (text y.0) y.1 × Fits y.0) (ok_is (b.0, drop n octets) x b.2)
    (record { parts = sym (take-append-drop n octets) ∙ ap (λ (l : List ℕ). l ++ drop n octets) t.0; rest_fits = AreOctets-drop n octets fits }, t.1)

pub prefix_again : {A : Type 0} (n : ℕ) (value : List ℕ → Option A) (test : A → Bool) (text rest : List ℕ) (a : A) → length text ≡ n → value text ≡ Some a → test a ≡ true → prefix n value test (text ++ rest) ≡ Ok (a, rest)
prefix_again n value test text rest a len is passes =
    let room : ltb (length (text ++ rest)) n ≡ false = le-ltb _ _ (omega (arith, length-append text rest, len)) in
    let taken : take n (text ++ rest) ≡ text = take_at text rest n len in
    let left : drop n (text ++ rest) ≡ rest = drop_at text rest n len in
    ap (λ b. cond b (Err (length (text ++ rest))) (before (drop n (text ++ rest)) (passing test (length (text ++ rest)) (value (take n (text ++ rest)))))) room
    ∙ ap (λ (l : List ℕ). before l (passing test (length (text ++ rest)) (value (take n (text ++ rest))))) left
    ∙ ap (λ (l : List ℕ). before rest (passing test (length (text ++ rest)) (value l))) taken
    ∙ ap (λ o. before rest (passing test (length (text ++ rest)) o)) is
    ∙ ap (before rest) (passing_again test (length (text ++ rest)) a passes)

-- ---- names

-- the name n, if its numbers are in range and these octets are its spelling
abbrev checked : List ℕ → Name → Option Name
checked os n = cond (is_name n && bytes_eq os (octets_of n)) (Some n) None

both_true : {A : Type 0} (a b : Bool) (m n : A) → cond (a && b) (Some m) None ≡ Some n → (a ≡ true) × (b ≡ true) × (m ≡ n)
both_true true true m n e = (refl, refl, cc)
both_true true false m n e = absurd cc
both_true false b m n e = absurd cc

name_takes : (os : List ℕ) (n : Name) → name_at os ≡ Some n → (os ≡ octets_of n) × IsName n
unfolding name_at
name_takes os n e =
    let t = both_true (is_name (candidate os)) (bytes_eq os (octets_of (candidate os))) (candidate os) n e in
    subst (λ m. (os ≡ octets_of m) × IsName m) t.2 ((bytes_eq-Decides os (octets_of (candidate os))).0 t.1, IsName-of (candidate os) t.0)

name_again : (n : Name) → IsName n → name_at (octets_of n) ≡ Some n
unfolding name_at
name_again n h =
    let same : bytes_eq (octets_of n) (octets_of n) ≡ true = (bytes_eq-Decides (octets_of n) (octets_of n)).1 refl in
    ap (checked (octets_of n)) (candidate_back n h) ∙ ap (λ b. cond (b && bytes_eq (octets_of n) (octets_of n)) (Some n) None) (is_name-true n h) ∙ ap (λ b. cond b (Some n) None) same

kind_of-true : (k : NameKind) (n : Name) → of_kind k n ≡ true → n.kind ≡ k
kind_of-true k n e = grind arith

pub named_takes : (k : NameKind) (octets : List ℕ) (x : Name × List ℕ) → AreOctets octets → named (of_kind k) octets ≡ Ok x → Takes octets (octets_of x.0) x.1 × IsNameOf k x.0
unfolding named
named_takes k octets x fits e =
    prefix_takes 16 name_at (of_kind k) octets_of (IsNameOf k) octets x (λ os a len ok is passes. let t = name_takes os a is in (t.0, (t.1, kind_of-true k a passes))) fits e

kind_of-same : (k : NameKind) → kind_eq k k ≡ true
kind_of-same Key = refl
kind_of-same Stream = refl
kind_of-same Note = refl

pub named_again : (k : NameKind) (n : Name) (rest : List ℕ) → IsNameOf k n → named (of_kind k) (octets_of n ++ rest) ≡ Ok (n, rest)
unfolding named
named_again k n rest h = prefix_again 16 name_at (of_kind k) (octets_of n) rest n refl (name_again n h.0) (ap (λ j. kind_eq j k) h.1 ∙ kind_of-same k)

pub any_takes : (octets : List ℕ) (x : Name × List ℕ) → AreOctets octets → named any_kind octets ≡ Ok x → Takes octets (octets_of x.0) x.1 × IsName x.0
unfolding named
any_takes octets x fits e = prefix_takes 16 name_at any_kind octets_of IsName octets x (λ os a len ok is passes. name_takes os a is) fits e

pub any_again : (n : Name) (rest : List ℕ) → IsName n → named any_kind (octets_of n ++ rest) ≡ Ok (n, rest)
unfolding named
any_again n rest h = prefix_again 16 name_at any_kind (octets_of n) rest n refl (name_again n h) refl

-- ---- numbers

some_is : (x y : ℕ) (o p : Option ℕ) → o ≡ Some x → p ≡ Some y → o ≡ p → x ≡ y
some_is x y o p a b e = cc

pub two_octets : (os : List ℕ) (n : ℕ) → length os ≡ 2 → AreOctets os → number_at w16 os ≡ Some n → os ≡ short n
two_octets [] n len fits e = absurd (omega (arith, len))
two_octets (a ∷ []) n len fits e = absurd (omega (arith, len))
two_octets (a ∷ b ∷ []) n len fits e =
    let is : from_be_bytes w16 (a ∷ b ∷ []) ≡ n = some_is (from_be_bytes w16 (a ∷ b ∷ [])) n _ _ refl refl e in
    let high : a < 256 = fits 0 in
    let low : b < 256 = fits 1 in
    let first : a ≡ (from_be_bytes w16 (a ∷ b ∷ []) / 256 ^ 1) % 256 = omega arith in
    let second : b ≡ from_be_bytes w16 (a ∷ b ∷ []) % 256 = omega arith in
    ap (λ (x : ℕ). x ∷ b ∷ []) first ∙ ap (λ (x : ℕ). (from_be_bytes w16 (a ∷ b ∷ []) / 256 ^ 1) % 256 ∷ x ∷ []) second ∙ ap short is
two_octets (a ∷ b ∷ c ∷ os) n len fits e = absurd (omega (arith, len))

pub four_octets : (os : List ℕ) (n : ℕ) → length os ≡ 4 → AreOctets os → number_at w32 os ≡ Some n → os ≡ long n
four_octets os n len fits e =
    let is : from_be_bytes w32 os ≡ n = some_is (from_be_bytes w32 os) n _ _ refl refl e in
    rw (← is) (sym (be_bytes_4 os _ len fits refl))

pub short_back : (n : ℕ) → n < 65536 → from_be_bytes w16 (short n) ≡ n
short_back n lt = omega arith

sae_small : (n : ℕ) → ltb n 256 ≡ true → n < 256
sae_small n e = grind arith

pub sae_takes : (octets : List ℕ) (x : ℕ × List ℕ) → AreOctets octets → sae octets ≡ Ok x → Takes octets (short x.0) x.1 × IsSae x.0
unfolding sae
sae_takes octets x fits e = prefix_takes 2 (number_at w16) (λ n. ltb n 256) short IsSae octets x (λ os a len ok is passes. (two_octets os a len ok is, sae_small a passes)) fits e

pub sae_again : (n : ℕ) (rest : List ℕ) → IsSae n → sae (short n ++ rest) ≡ Ok (n, rest)
unfolding sae
sae_again n rest h = prefix_again 2 (number_at w16) (λ m. ltb m 256) (short n) rest n refl (ap Some (short_back n (omega (arith, h)))) (grind arith)

size_from : (n : ℕ) → (leb 8 n && leb n 512) ≡ true → IsSize n
size_from n e = (grind arith, grind arith)

size_test : (n : ℕ) → IsSize n → (leb 8 n && leb n 512) ≡ true
size_test n h = let a = h.0 in let b = h.1 in grind arith

pub size_takes : (octets : List ℕ) (x : ℕ × List ℕ) → AreOctets octets → size octets ≡ Ok x → Takes octets (short x.0) x.1 × IsSize x.0
unfolding size
size_takes octets x fits e = prefix_takes 2 (number_at w16) (λ n. leb 8 n && leb n 512) short IsSize octets x (λ os a len ok is passes. (two_octets os a len ok is, size_from a passes)) fits e

pub size_again : (n : ℕ) (rest : List ℕ) → IsSize n → size (short n ++ rest) ≡ Ok (n, rest)
unfolding size
size_again n rest h = prefix_again 2 (number_at w16) (λ m. leb 8 m && leb m 512) (short n) rest n refl (ap Some (short_back n (omega (arith, h.1)))) (size_test n h)

four_below : (os : List ℕ) (n : ℕ) → length os ≡ 4 → AreOctets os → number_at w32 os ≡ Some n → n < 2 ^ 32
four_below os n len fits e =
    let is : from_be_bytes w32 os ≡ n = some_is (from_be_bytes w32 os) n _ _ refl refl e in
    omega (arith, is, fits 0, fits 1, fits 2, fits 3)

pub index_takes : (octets : List ℕ) (x : ℕ × List ℕ) → AreOctets octets → index octets ≡ Ok x → Takes octets (long x.0) x.1 × (x.0 < 2 ^ 32)
unfolding index
index_takes octets x fits e = prefix_takes 4 (number_at w32) (λ n. true) long (λ n. n < 2 ^ 32) octets x (λ os a len ok is passes. (four_octets os a len ok is, four_below os a len ok is)) fits e

pub index_again : (n : ℕ) (rest : List ℕ) → n < 2 ^ 32 → index (long n ++ rest) ≡ Ok (n, rest)
unfolding index
index_again n rest h = prefix_again 4 (number_at w32) (λ m. true) (long n) rest n refl (ap Some (from_be_bytes-to_be_bytes_4 n h)) refl

-- ---- routes, and the last field of a payload

and_parts : (a b : Bool) → (a && b) ≡ true → (a ≡ true) × (b ≡ true)
and_parts true true e = (refl, refl)
and_parts true false e = absurd cc
and_parts false b e = absurd cc

and_both : (a b : Bool) → a ≡ true → b ≡ true → (a && b) ≡ true
and_both a b x y = rw (x, y) refl

abbrev fits_way : List ℕ → Bool
fits_way nodes = is_route nodes && are_nodes nodes

lists_are : (x y : List ℕ) → Some x ≡ Some y → x ≡ y
lists_are x y e = cc

pub route_takes : (octets : List ℕ) (x : List ℕ × List ℕ) → AreOctets octets → route octets ≡ Ok x → Takes octets (spelled_route x.0) x.1 × AreRouteNodes x.0
unfolding route
route_takes [] x fits e = absurd cc
route_takes (n ∷ os) x fits e =
    let g = guard_ok (ltb (length os) n) (1 + length os) (before (drop n os) (passing fits_way (1 + length os) (Some (take n os)))) x e in
    let long_enough : n ≤ length os = ltb-false _ _ g.0 in
    let b = bind_ok (passing fits_way (1 + length os) (Some (take n os))) (λ a. Ok (a, drop n os)) x g.1 in
    let p = passing_ok fits_way (1 + length os) (Some (take n os)) b.0 b.1 in
    let nodes : take n os ≡ b.0 = lists_are (take n os) b.0 p.0 in
    let len : length b.0 ≡ n = omega (arith, sym (ap length nodes), length-take n os, long_enough) in
    let whole : n ∷ os ≡ spelled_route b.0 ++ drop n os = ap (λ (l : List ℕ). n ∷ l) (sym (take-append-drop n os) ∙ ap (λ (l : List ℕ). l ++ drop n os) nodes) ∙ ap (λ (k : ℕ). k ∷ (b.0 ++ drop n os)) (sym len) in
    subst (λ y. Takes (n ∷ os) (spelled_route y.0) y.1 × AreRouteNodes y.0) (ok_is (b.0, drop n os) x b.2) (record { parts = whole; rest_fits = AreOctets-drop (suc n) (n ∷ os) fits }, and_parts (is_route b.0) (are_nodes b.0) p.1)

pub route_again : (nodes rest : List ℕ) → AreRouteNodes nodes → route (spelled_route nodes ++ rest) ≡ Ok (nodes, rest)
unfolding route
route_again nodes rest h =
    let room : ltb (length (nodes ++ rest)) (length nodes) ≡ false = le-ltb _ _ (omega (arith, length-append nodes rest)) in
    let taken : take (length nodes) (nodes ++ rest) ≡ nodes = take_at nodes rest (length nodes) refl in
    let left : drop (length nodes) (nodes ++ rest) ≡ rest = drop_at nodes rest (length nodes) refl in
    ap (λ b. cond b (Err (1 + length (nodes ++ rest))) (before (drop (length nodes) (nodes ++ rest)) (passing fits_way (1 + length (nodes ++ rest)) (Some (take (length nodes) (nodes ++ rest)))))) room
    ∙ ap (λ (l : List ℕ). before l (passing fits_way (1 + length (nodes ++ rest)) (Some (take (length nodes) (nodes ++ rest))))) left
    ∙ ap (λ (l : List ℕ). before rest (passing fits_way (1 + length (nodes ++ rest)) (Some l))) taken
    ∙ ap (before rest) (passing_again fits_way (1 + length (nodes ++ rest)) nodes (and_both (is_route nodes) (are_nodes nodes) h.0 h.1))

pub last_takes : (n : ℕ) (octets x : List ℕ) → last n octets ≡ Ok x → (octets ≡ x) × (length x ≡ n)
unfolding last
last_takes n octets x e =
    let a = guard_ok (ltb (length octets) n) (length octets) (cond (ltb n (length octets)) (Err (length octets - n)) (Ok octets)) x e in
    let b = guard_ok (ltb n (length octets)) (length octets - n) (Ok octets) x a.1 in
    let is : octets ≡ x = ok_is octets x b.1 in
    (is, omega (arith, ltb-false _ _ a.0, ltb-false _ _ b.0, ap length is))

pub last_again : (octets : List ℕ) → last (length octets) octets ≡ Ok octets
unfolding last
last_again octets =
    let same : ltb (length octets) (length octets) ≡ false = le-ltb _ _ (omega arith) in
    rw same refl
