-- Laws of the fields of records: what decoding and encoding give.
use Rattle.std.proofs.Common.{◌≡◌, ℕ, zero, suc, ◌+◌, ◌*◌, ◌/◌, ◌%◌, ◌^◌, ◌<◌, ◌≤◌, Bool, true, false, cond, eqb, ltb, leb, ◌&&◌, List, [], ◌∷◌, ◌++◌, length, get_or, take, drop, replicate, Option, Some, None, Result, Ok, Err, refl, sym, ap, subst, ◌∙◌, arith, inl, inr, append_assoc}
use Rattle.std.specs.Int.{w16, w64, from_be_bytes, to_be_bytes}
use Rattle.std.proofs.lemmas.Bool.{eqb-true}
use Rattle.std.proofs.lemmas.Nat.{be_bytes_8, from_be_bytes-to_be_bytes_8}
use Rattle.qkd_base.specs.declared.key_name.NameKind.{NameKind}
use Rattle.qkd_base.specs.declared.key_name.NameKind.TheVariants.{Key, Stream, Note}
use Rattle.qkd_base.specs.declared.lane.Way.{Way}
use Rattle.qkd_base.specs.declared.lane.Way.TheVariants.{Up, Down}
use Rattle.qkd_base.specs.Name.{Name, IsName, kind_number, kind_of_octet, kind_eq}
use Rattle.qkd_base.proofs.Names.{kind_back, count_back}
use Rattle.frame_codec.specs.Payload.{IsNameOf, AreOctets, fields, short}
use Rattle.frame_codec.specs.Reading.{prefix, number_at, named, of_kind, any_kind}
use Rattle.frame_codec.proofs.FieldLaws.{Takes, prefix_takes, prefix_again, two_octets, short_back, named_takes, named_again, any_takes, any_again}
use Rattle.frame_codec.proofs.KindLaws.{chosen}
use Rattle.journal_records.specs.declared.version.Version.{Version}
use Rattle.journal_records.specs.declared.version.Version.TheVariants.{First, Second}
use Rattle.journal_records.specs.Grammar.{short_name, name_octets, way_number}
use Rattle.journal_records.specs.Layout.{octet_at, octet, link_no, way_at, direction, lane_end, within, as_they_are, plain, count_in, short_name_at, short_named, name_in}

-- the octets of fields, and what follows them
abbrev pub ahead : List (List ℕ) → List ℕ → List ℕ
ahead [] rest = rest
ahead (f ∷ fs) rest = f ++ ahead fs rest

pub fields_then : (fs : List (List ℕ)) (rest : List ℕ) → fields fs ++ rest ≡ ahead fs rest
fields_then [] rest = refl
fields_then (f ∷ []) rest = refl
fields_then (f ∷ g ∷ fs) rest = append_assoc f (fields (g ∷ fs)) rest ∙ ap (λ (l : List ℕ). f ++ l) (fields_then (g ∷ fs) rest)

abbrev some : {A : Type 0} → A → Option A
some x = Some x

some_is : {A : Type 0} (x y : A) → some x ≡ some y → x ≡ y
some_is x y e = cc

none_is : {A : Type 0} (y : A) → None ≡ some y → ⊥
none_is y e = cc

-- ---- single octets

one_octet : (os : List ℕ) (n : ℕ) → length os ≡ 1 → octet_at os ≡ Some n → os ≡ n ∷ []
one_octet [] n len e = absurd (omega (arith, len))
one_octet (a ∷ []) n len e = ap (λ (x : ℕ). x ∷ []) (some_is a n e)
one_octet (a ∷ b ∷ os) n len e = absurd (omega (arith, len))

pub octet_takes : (octets : List ℕ) (x : ℕ × List ℕ) → AreOctets octets → octet octets ≡ Ok x → Takes octets (x.0 ∷ []) x.1 × Unit {0}
unfolding octet
octet_takes octets x fits e = prefix_takes 1 octet_at (λ n. true) (λ n. n ∷ []) (λ n. Unit {0}) octets x (λ os a len ok is passes. (one_octet os a len is, tt)) fits e

pub octet_again : (n : ℕ) (rest : List ℕ) → octet (n ∷ rest) ≡ Ok (n, rest)
unfolding octet
octet_again n rest = prefix_again 1 octet_at (λ m. true) (n ∷ []) rest n refl refl refl

link_small : (n : ℕ) → ltb n 32 ≡ true → n < 32
link_small n e = grind arith

link_test : (n : ℕ) → n < 32 → ltb n 32 ≡ true
link_test n h = grind arith

pub link_takes : (octets : List ℕ) (x : ℕ × List ℕ) → AreOctets octets → link_no octets ≡ Ok x → Takes octets (x.0 ∷ []) x.1 × (x.0 < 32)
unfolding link_no
link_takes octets x fits e = prefix_takes 1 octet_at (λ n. ltb n 32) (λ n. n ∷ []) (λ n. n < 32) octets x (λ os a len ok is passes. (one_octet os a len is, link_small a passes)) fits e

pub link_again : (n : ℕ) (rest : List ℕ) → n < 32 → link_no (n ∷ rest) ≡ Ok (n, rest)
unfolding link_no
link_again n rest h = prefix_again 1 octet_at (λ m. ltb m 32) (n ∷ []) rest n refl refl (link_test n h)

way_is : (a : ℕ) (w : Way) → cond (eqb a 0) (Some Up) (cond (eqb a 1) (Some Down) None) ≡ Some w → a ≡ way_number w
way_is a w e = elim (chosen (eqb a 0) (some Up) (cond (eqb a 1) (Some Down) None) (Some w) e) [
  | inl h ↦ subst (λ v. a ≡ way_number v) (some_is Up w h.1) (eqb-true a 0 h.0)
  | inr h ↦ elim (chosen (eqb a 1) (some Down) None (Some w) h.1) [
    | inl h ↦ subst (λ v. a ≡ way_number v) (some_is Down w h.1) (eqb-true a 1 h.0)
    | inr h ↦ absurd (none_is w h.1)
  ]
]

way_octet : (os : List ℕ) (w : Way) → length os ≡ 1 → way_at os ≡ Some w → os ≡ way_number w ∷ []
way_octet [] w len e = absurd (omega (arith, len))
way_octet (a ∷ []) w len e = ap (λ (x : ℕ). x ∷ []) (way_is a w e)
way_octet (a ∷ b ∷ os) w len e = absurd (omega (arith, len))

pub way_takes : (octets : List ℕ) (x : Way × List ℕ) → AreOctets octets → direction octets ≡ Ok x → Takes octets (way_number x.0 ∷ []) x.1 × Unit {0}
unfolding direction
way_takes octets x fits e = prefix_takes 1 way_at (λ w. true) (λ w. way_number w ∷ []) (λ w. Unit {0}) octets x (λ os a len ok is passes. (way_octet os a len is, tt)) fits e

pub way_again : (w : Way) (rest : List ℕ) → direction (way_number w ∷ rest) ≡ Ok (w, rest)
unfolding direction
way_again Up rest = prefix_again 1 way_at (λ w. true) (0 ∷ []) rest Up refl refl refl
way_again Down rest = prefix_again 1 way_at (λ w. true) (1 ∷ []) rest Down refl refl refl

-- ---- numbers

eight_octets : (os : List ℕ) (n : ℕ) → length os ≡ 8 → AreOctets os → number_at w64 os ≡ Some n → os ≡ to_be_bytes w64 n
eight_octets os n len fits e =
    let is : from_be_bytes w64 os ≡ n = some_is (from_be_bytes w64 os) n e in
    rw (← is) (sym (be_bytes_8 os _ len fits refl))

eight_below : (os : List ℕ) (n : ℕ) → AreOctets os → number_at w64 os ≡ Some n → n < 2 ^ 64
eight_below os n fits e =
    let is : from_be_bytes w64 os ≡ n = some_is (from_be_bytes w64 os) n e in
    omega (arith, is, fits 0, fits 1, fits 2, fits 3, fits 4, fits 5, fits 6, fits 7)

pub end_takes : (octets : List ℕ) (x : ℕ × List ℕ) → AreOctets octets → lane_end octets ≡ Ok x → Takes octets (to_be_bytes w64 x.0) x.1 × (x.0 < 2 ^ 64)
unfolding lane_end
end_takes octets x fits e = prefix_takes 8 (number_at w64) (λ n. true) (λ n. to_be_bytes w64 n) (λ n. n < 2 ^ 64) octets x (λ os a len ok is passes. (eight_octets os a len ok is, eight_below os a ok is)) fits e

pub end_again : (n : ℕ) (rest : List ℕ) → n < 2 ^ 64 → lane_end (to_be_bytes w64 n ++ rest) ≡ Ok (n, rest)
unfolding lane_end
end_again n rest h = prefix_again 8 (number_at w64) (λ m. true) (to_be_bytes w64 n) rest n refl (ap Some (from_be_bytes-to_be_bytes_8 n h)) refl

within_from : (least most n : ℕ) → (leb least n && leb n most) ≡ true → (least ≤ n) × (n ≤ most)
within_from least most n e = (grind arith, grind arith)

within_test : (least most n : ℕ) → least ≤ n → n ≤ most → (leb least n && leb n most) ≡ true
within_test least most n a b = grind arith

pub within_takes : (least most : ℕ) (octets : List ℕ) (x : ℕ × List ℕ) → AreOctets octets → within least most octets ≡ Ok x → Takes octets (short x.0) x.1 × ((least ≤ x.0) × (x.0 ≤ most))
unfolding within
within_takes least most octets x fits e =
    prefix_takes 2 (number_at w16) (λ n. leb least n && leb n most) short (λ n. (least ≤ n) × (n ≤ most)) octets x (λ os a len ok is passes. (two_octets os a len ok is, within_from least most a passes)) fits e

pub within_again : (least most n : ℕ) (rest : List ℕ) → n < 65536 → least ≤ n → n ≤ most → within least most (short n ++ rest) ≡ Ok (n, rest)
unfolding within
within_again least most n rest small a b = prefix_again 2 (number_at w16) (λ m. leb least m && leb m most) (short n) rest n refl (ap Some (short_back n small)) (within_test least most n a b)

-- Reading exactly the number n takes its two octets.
pub exact_takes : (n : ℕ) (octets : List ℕ) (x : ℕ × List ℕ) → AreOctets octets → within n n octets ≡ Ok x → Takes octets (short n) x.1 × Unit {0}
exact_takes n octets x fits e =
    let t = within_takes n n octets x fits e in
    let same : x.0 ≡ n = omega (arith, t.1.0, t.1.1) in
    (subst (λ (k : ℕ). Takes octets (short k) x.1) same t.0, tt)

-- ---- octets that are read unchanged

pub plain_takes : (n : ℕ) (octets : List ℕ) (x : List ℕ × List ℕ) → AreOctets octets → plain n octets ≡ Ok x → Takes octets x.0 x.1 × ((length x.0 ≡ n) × AreOctets x.0)
unfolding plain
plain_takes n octets x fits e =
    prefix_takes n as_they_are (λ os. true) (λ os. os) (λ os. (length os ≡ n) × AreOctets os) octets x
    (λ os a len ok is passes. let same : os ≡ a = some_is os a is in (same, (sym (ap length same) ∙ len, subst AreOctets same ok))) fits e

pub plain_again : (n : ℕ) (os rest : List ℕ) → length os ≡ n → plain n (os ++ rest) ≡ Ok (os, rest)
unfolding plain
plain_again n os rest len = prefix_again n as_they_are (λ l. true) os rest os len refl refl

-- ---- names

kind_forth : (k : ℕ) → k < 3 → kind_number (kind_of_octet k) ≡ k
kind_forth zero lt = refl
kind_forth (suc zero) lt = refl
kind_forth (suc (suc zero)) lt = refl
kind_forth (suc (suc (suc k))) lt = absurd (omega (arith, lt))

kind_small : (k : NameKind) → kind_number k < 3
kind_small Key = omega arith
kind_small Stream = omega arith
kind_small Note = omega arith

both_true : {A : Type 0} (a b : Bool) (m n : A) → cond (a && b) (Some m) None ≡ Some n → (a ≡ true) × (b ≡ true) × (m ≡ n)
both_true true true m n e = (refl, refl, cc)
both_true true false m n e = absurd cc
both_true false b m n e = absurd cc

count_of : List ℕ → ℕ
count_of os = from_be_bytes w64 (0 ∷ 0 ∷ os)

six_fit : (os : List ℕ) → AreOctets os → AreOctets (0 ∷ 0 ∷ os)
six_fit os ok zero = omega arith
six_fit os ok (suc zero) = omega arith
six_fit os ok (suc (suc i)) = ok i

six_back : (os : List ℕ) → length os ≡ 6 → AreOctets os → drop 2 (to_be_bytes w64 (from_be_bytes w64 (0 ∷ 0 ∷ os))) ≡ os
six_back os len ok = ap (λ (l : List ℕ). drop 2 l) (be_bytes_8 (0 ∷ 0 ∷ os) _ (omega (arith, len)) (six_fit os ok) refl)

six_below : (os : List ℕ) → AreOctets os → from_be_bytes w64 (0 ∷ 0 ∷ os) < 2 ^ 48
six_below os ok = omega (arith, ok 0, ok 1, ok 2, ok 3, ok 4, ok 5)

seven_octets : (os : List ℕ) (n : Name) → length os ≡ 7 → AreOctets os → short_name_at os ≡ Some n → (os ≡ short_name n) × IsName n
seven_octets [] n len ok e = absurd (omega (arith, len))
seven_octets (a ∷ os) n len ok e =
    let count : ℕ = from_be_bytes w64 (0 ∷ 0 ∷ os) in
    let m : Name = record { node = a % 16; kind = kind_of_octet (a / 16); count = count } in
    let t = both_true (ltb a 48) (leb 1 count) m n e in
    let low : a < 48 = first_low a t.0 in
    let some_count : 1 ≤ count = some_low count t.1 in
    let rest_ok : AreOctets os = λ i. ok (suc i) in
    let rest_len : length os ≡ 6 = omega (arith, len) in
    let third : a / 16 < 3 = omega (arith, low) in
    let kind : kind_number (kind_of_octet (a / 16)) ≡ a / 16 = kind_forth (a / 16) third in
    let head : a ≡ 16 * kind_number (kind_of_octet (a / 16)) + a % 16 = omega (arith, kind) in
    let whole : a ∷ os ≡ short_name m =
    ap (λ (x : ℕ). x ∷ os) head ∙ ap (λ (l : List ℕ). (16 * kind_number (kind_of_octet (a / 16)) + a % 16) ∷ l) (sym (six_back os rest_len rest_ok)) in
    subst (λ v. (a ∷ os ≡ short_name v) × IsName v) t.2 (whole, record { node = omega arith; positive = some_count; count = six_below os rest_ok })
  where
    first_low : (k : ℕ) → ltb k 48 ≡ true → k < 48
    first_low k h = grind arith

    some_low : (k : ℕ) → leb 1 k ≡ true → 1 ≤ k
    some_low k h = grind arith

seven_again : (n : Name) → IsName n → short_name_at (short_name n) ≡ Some n
seven_again n h =
    let k : ℕ = kind_number n.kind in
    let a : ℕ = 16 * k + n.node in
    let small : k < 3 = kind_small n.kind in
    let node : a % 16 ≡ n.node = omega (arith, h.node) in
    let top : a / 16 ≡ k = omega (arith, h.node) in
    let count : count_in (short_name n) ≡ n.count = count_back n.count h.count in
    let m : Name = record { node = a % 16; kind = kind_of_octet (a / 16); count = count_in (short_name n) } in
    let low : ltb a 48 ≡ true = low_test a (omega (arith, h.node, small)) in
    let some_count : leb 1 (count_in (short_name n)) ≡ true = some_test (count_in (short_name n)) (omega (arith, count, h.positive)) in
    let same : m ≡ n = λ i. record { node = node i; kind = (ap kind_of_octet top ∙ kind_back n.kind) i; count = count i } in
    ap (λ (b : Bool). cond (b && leb 1 (count_in (short_name n))) (Some m) None) low ∙ ap (λ (b : Bool). cond b (Some m) None) some_count ∙ ap Some same
  where
    low_test : (k : ℕ) → k < 48 → ltb k 48 ≡ true
    low_test k lt = grind arith

    some_test : (k : ℕ) → 1 ≤ k → leb 1 k ≡ true
    some_test k le = grind arith

pub short_takes : (octets : List ℕ) (x : Name × List ℕ) → AreOctets octets → short_named any_kind octets ≡ Ok x → Takes octets (short_name x.0) x.1 × IsName x.0
unfolding short_named
short_takes octets x fits e = prefix_takes 7 short_name_at any_kind short_name IsName octets x (λ os a len ok is passes. seven_octets os a len ok is) fits e

pub short_again : (n : Name) (rest : List ℕ) → IsName n → short_named any_kind (short_name n ++ rest) ≡ Ok (n, rest)
unfolding short_named
short_again n rest h = prefix_again 7 short_name_at any_kind (short_name n) rest n refl (seven_again n h) refl

kind_of-true : (k : NameKind) (n : Name) → of_kind k n ≡ true → n.kind ≡ k
kind_of-true k n e = grind arith

short_stream_takes : (octets : List ℕ) (x : Name × List ℕ) → AreOctets octets → short_named (of_kind Stream) octets ≡ Ok x → Takes octets (short_name x.0) x.1 × IsNameOf Stream x.0
unfolding short_named
short_stream_takes octets x fits e =
    prefix_takes 7 short_name_at (of_kind Stream) short_name (IsNameOf Stream) octets x (λ os a len ok is passes. let t = seven_octets os a len ok is in (t.0, (t.1, kind_of-true Stream a passes))) fits e

short_stream_again : (n : Name) (rest : List ℕ) → IsNameOf Stream n → short_named (of_kind Stream) (short_name n ++ rest) ≡ Ok (n, rest)
unfolding short_named
short_stream_again n rest h = prefix_again 7 short_name_at (of_kind Stream) (short_name n) rest n refl (seven_again n h.0) (ap (λ j. kind_eq j Stream) h.1)

pub name_takes : (v : Version) (octets : List ℕ) (x : Name × List ℕ) → AreOctets octets → name_in v any_kind octets ≡ Ok x → Takes octets (name_octets v x.0) x.1 × IsName x.0
name_takes First octets x fits e = any_takes octets x fits e
name_takes Second octets x fits e = short_takes octets x fits e

pub name_again : (v : Version) (n : Name) (rest : List ℕ) → IsName n → name_in v any_kind (name_octets v n ++ rest) ≡ Ok (n, rest)
name_again First n rest h = any_again n rest h
name_again Second n rest h = short_again n rest h

pub stream_takes : (v : Version) (octets : List ℕ) (x : Name × List ℕ) → AreOctets octets → name_in v (of_kind Stream) octets ≡ Ok x → Takes octets (name_octets v x.0) x.1 × IsNameOf Stream x.0
stream_takes First octets x fits e = named_takes Stream octets x fits e
stream_takes Second octets x fits e = short_stream_takes octets x fits e

pub stream_again : (v : Version) (n : Name) (rest : List ℕ) → IsNameOf Stream n → name_in v (of_kind Stream) (name_octets v n ++ rest) ≡ Ok (n, rest)
stream_again First n rest h = named_again Stream n rest h
stream_again Second n rest h = short_stream_again n rest h
