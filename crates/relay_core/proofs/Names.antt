-- Lemmas on equal names, and on facts that are found by name.
use Rattle.std.proofs.Common.{◌≡◌, ℕ, ◌<◌, Bool, true, false, ◌&&◌, max, List, [], ◌∷◌, ◌++◌, length, refl, sym, ◌∙◌, ap, subst, arith, ◌⊎◌, inl, inr}
use Rattle.std.specs.Prelude.{◌==◌, ◌/◌, ◌%◌}
use Rattle.std.proofs.lemmas.Bool.Decides.{nat_tests}
use Rattle.qkd_base.specs.declared.key_name.NameKind.{NameKind}
use Rattle.qkd_base.specs.declared.key_name.NameKind.TheVariants.{Key, Stream, Note}
use Rattle.qkd_base.specs.Name.{Name, IsName, name_eq, kind_number}
use Rattle.net_model.specs.declared.fact.Fact.{Fact}
use Rattle.net_model.specs.Table.{name_of, part_of, has_fact}
use Rattle.net_model.specs.Decision.{last_count, count_if, group_count}
use Rattle.relay_core.specs.Index.{origin_number, tagged}
use Rattle.relay_core.specs.Knowledge.{IsNamedAt, AreDistinct}
use Rattle.relay_core.proofs.Firsts.{get_push, find_hits}

pub eq_same : (a : ℕ) → (a == a) ≡ true
eq_same a = grind (arith, nat_tests)

pub eq_from : (a b : ℕ) → (a == b) ≡ true → a ≡ b
eq_from a b h = grind (arith, nat_tests)

pub and_left : (a b : Bool) → (a && b) ≡ true → a ≡ true
and_left true b h = refl
and_left false b h = h

pub and_right : (a b : Bool) → (a && b) ≡ true → b ≡ true
and_right true b h = h
and_right false b h = cc

pub kind_from : (a b : NameKind) → kind_number a ≡ kind_number b → a ≡ b
kind_from Key Key h = refl
kind_from Key Stream h = absurd (omega arith)
kind_from Key Note h = absurd (omega arith)
kind_from Stream Key h = absurd (omega arith)
kind_from Stream Stream h = refl
kind_from Stream Note h = absurd (omega arith)
kind_from Note Key h = absurd (omega arith)
kind_from Note Stream h = absurd (omega arith)
kind_from Note Note h = refl

-- A name's kind and node can be read back from the number that packs them.

kind_small : (k : NameKind) → kind_number k < 4
kind_small Key = omega arith
kind_small Stream = omega arith
kind_small Note = omega arith

pub origin_kind : (n : Name) → origin_number n % 4 ≡ kind_number n.kind
origin_kind n = let small = kind_small n.kind in omega arith

pub origin_node : (n : Name) → origin_number n / 4 ≡ n.node
origin_node n = let small = kind_small n.kind in omega arith

pub tag_back : (tag number : ℕ) → tag < 8 → tagged tag number % 8 ≡ tag
tag_back tag number small = omega arith

pub number_back : (tag number : ℕ) → tag < 8 → tagged tag number / 8 ≡ number
number_back tag number small = omega arith

-- Names with equal parts are equal.

pub same_name : (a b : Name) → a.node ≡ b.node → kind_number a.kind ≡ kind_number b.kind → a.count ≡ b.count → a ≡ b
same_name a b node kind count = let k = kind_from a.kind b.kind kind in λ i. record { node = node i; kind = k i; count = count i }

pub name_eq_from : (a b : Name) → name_eq a b ≡ true → a ≡ b
name_eq_from a b h =
    let front = and_left ((a.node == b.node) && (kind_number a.kind == kind_number b.kind)) (a.count == b.count) h in
    same_name a b
    (eq_from a.node b.node (and_left (a.node == b.node) (kind_number a.kind == kind_number b.kind) front))
    (eq_from (kind_number a.kind) (kind_number b.kind) (and_right (a.node == b.node) (kind_number a.kind == kind_number b.kind) front))
    (eq_from a.count b.count (and_right ((a.node == b.node) && (kind_number a.kind == kind_number b.kind)) (a.count == b.count) h))

pub name_eq_same : (a : Name) → name_eq a a ≡ true
name_eq_same a = simp eq_same

pub names_same : (a b : Name) → a ≡ b → name_eq a b ≡ true
names_same a b e = ap (name_eq a) (sym e) ∙ name_eq_same a

-- Lemmas on the counts and names after one more fact.

pub last-push : (me : ℕ) (facts : List Fact) (f : Fact) → last_count me (facts ++ f ∷ []) ≡ max (last_count me facts) (max (count_if me (name_of f)) (group_count me (part_of f)))
unfolding last_count
last-push me [] f = omega arith
last-push me (x ∷ xs) f = let e = last-push me xs f in omega arith

pub unknown : (facts : List Fact) (n : Name) (j : ℕ) → has_fact facts n ≡ false → IsNamedAt facts j n → ⊥
unknown facts n j new at =
    let hit = find_hits (λ f. name_eq (name_of f) n) facts j at.fact at.there (names_same (name_of at.fact) n at.named) in
    let no : true ≡ false = sym hit ∙ new in
    cc

-- A name in the longer list is that of an old fact, or that of the new fact at the end.
pub named-push : (facts : List Fact) (f : Fact) (i : ℕ) (n : Name) → IsNamedAt (facts ++ f ∷ []) i n →
    ((i < length facts) × IsNamedAt facts i n) ⊎ ((i ≡ length facts) × (name_of f ≡ n))
named-push facts f i n at = elim (get_push facts f at.fact i at.there) [
  | inl (lt, g) ↦ inl (lt, record { fact = at.fact; there = g; named = at.named })
  | inr (e, g) ↦ inr (e, ap name_of g ∙ at.named)
]

pub distinct-push : (facts : List Fact) (f : Fact) → AreDistinct facts → IsName (name_of f) → has_fact facts (name_of f) ≡ false → AreDistinct (facts ++ f ∷ [])
distinct-push facts f d is new = record {
  names = λ i n at. elim (named-push facts f i n at) [
    | inl (lt, g) ↦ d.names i n g
    | inr (e, g) ↦ subst IsName g is
  ];
  apart = λ i j n a b. both i j n (named-push facts f i n a) (named-push facts f j n b);
}
  where
    both : (i j : ℕ) (n : Name) → ((i < length facts) × IsNamedAt facts i n) ⊎ ((i ≡ length facts) × (name_of f ≡ n)) →
        ((j < length facts) × IsNamedAt facts j n) ⊎ ((j ≡ length facts) × (name_of f ≡ n)) → i ≡ j
    both i j n (inl (p, a)) (inl (q, b)) = d.apart i j n a b
    both i j n (inl (p, a)) (inr (q, b)) = absurd (unknown facts n i (ap (has_fact facts) (sym b) ∙ new) a)
    both i j n (inr (p, a)) (inl (q, b)) = absurd (unknown facts n j (ap (has_fact facts) (sym a) ∙ new) b)
    both i j n (inr (p, a)) (inr (q, b)) = p ∙ sym q
