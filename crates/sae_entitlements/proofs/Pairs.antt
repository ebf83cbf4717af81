-- The set of allowed pairs, computed from the rows of the applications.
use Rattle.std.proofs.Common.{◌≡◌, ℕ, zero, suc, ◌+◌, ◌<◌, ◌==◌, ◌&&◌, ◌||◌, Bool, true, false, List, [], ◌∷◌, ◌++◌, length, map, get_or, cond, Option, Some, None, subst, inl, inr, ◌⊎◌, set, replicate, refl, sym, ap, ◌∙◌, arith}
use Rattle.std.proofs.lemmas.List.Folds.{list_any-append}
use Rattle.std.proofs.lemmas.Bool.{and_parts, eqb-true}
use Rattle.std.proofs.lemmas.List.{length-map, length-append, length-set}
use Rattle.std.proofs.lemmas.Slice.Eq.{bytes_eq-Decides}
use Rattle.std.specs.Option.{option_or}
use Rattle.std.specs.List.{list_any, position_from, slice_get}
use Rattle.std.specs.Str.{bytes_eq}
use Rattle.std.specs.Ordering.{eq_by_cmp, is_eq, nat_cmp}
use Rattle.std.specs.Cmp.{IsTotalOrder, nat_cmp_total, then_total, on_total, both_tied, unsigned_ties}
use Rattle.std.specs.FinSet.{FinSet, IsAntisymmetric, contains, insert, from_list, contains-from_list, contains-insert, contains-empty, same_set}
use Rattle.sae_entitlements.specs.declared.application.Application.{Application}
use Rattle.sae_entitlements.specs.Pair.{pair_cmp}
use Rattle.sae_entitlements.specs.Grants.{Sae, Grants, none, with_sae, with_pair, is_allowed, find_sae, HasDistinctIds}
use Rattle.sae_entitlements.specs.Rows.{sae_of, slaves_of, pairs_of, grants_of, AreApplications}

pub pair_total : IsTotalOrder pair_cmp
pair_total = then_total (on_total (λ (p : ℕ × ℕ). p.0) nat_cmp_total) (on_total (λ (p : ℕ × ℕ). p.1) nat_cmp_total)

pub same_pair : (p q : ℕ × ℕ) → ((p.0 == q.0) && (p.1 == q.1)) ≡ eq_by_cmp pair_cmp p q
same_pair p q = both_tied _ _ (nat_cmp p.0 q.0) (nat_cmp p.1 q.1) (unsigned_ties p.0 q.0) (unsigned_ties p.1 q.1)

pub pair_antisymmetric : IsAntisymmetric pair_cmp
pair_antisymmetric p q tied =
    let parts = and_parts (p.0 == q.0) (p.1 == q.1) (same_pair p q ∙ ap is_eq tied) in
    ap (λ (m : ℕ). (m, p.1)) (eqb-true p.0 q.0 parts.0) ∙ ap (λ (s : ℕ). (q.0, s)) (eqb-true p.1 q.1 parts.1)

any_map : {X Y : Type 0} (p : Y → Bool) (f : X → Y) (xs : List X) → list_any p (map f xs) ≡ list_any (λ x. p (f x)) xs
any_map p f [] = refl
any_map p f (x ∷ xs) = ap (λ b. p (f x) || b) (any_map p f xs)

any_same : {X : Type 0} (p q : X → Bool) → ((x : X) → p x ≡ q x) → (xs : List X) → list_any p xs ≡ list_any q xs
any_same p q same [] = refl
any_same p q same (x ∷ xs) = ap (λ b. b || list_any p xs) (same x) ∙ ap (λ b. q x || b) (any_same p q same xs)

any_none : {X : Type 0} (p : X → Bool) → ((x : X) → p x ≡ false) → (xs : List X) → list_any p xs ≡ false
any_none p never [] = refl
any_none p never (x ∷ xs) = ap (λ b. b || list_any p xs) (never x) ∙ any_none p never xs

later : (s y : ℕ) → (suc s == y + 1) ≡ (s == y)
later s y = grind arith

never : (y : ℕ) → (zero == y + 1) ≡ false
never y = grind arith

not_zero : (n : ℕ) → (suc n == zero) ≡ false
not_zero n = grind arith

zero_not : (n : ℕ) → (zero == suc n) ≡ false
zero_not n = grind arith

both_later : (m n : ℕ) → (suc m == suc n) ≡ (m == n)
both_later m n = grind arith

slaves_any : (row : List Bool) (s : ℕ) → list_any (λ y. s == y) (slaves_of row) ≡ get_or row s false
slaves_any [] s = refl
slaves_any (true ∷ row) zero = refl
slaves_any (true ∷ row) (suc s) = ap (λ b. b || list_any (λ y. suc s == y) (map (λ n. n + 1) (slaves_of row))) (not_zero s) ∙ any_map (λ y. suc s == y) (λ n. n + 1) (slaves_of row) ∙ any_same _ (λ y. s == y) (later s) (slaves_of row) ∙ slaves_any row s
slaves_any (false ∷ row) zero = any_map (λ y. zero == y) (λ n. n + 1) (slaves_of row) ∙ any_none _ never (slaves_of row)
slaves_any (false ∷ row) (suc s) = any_map (λ y. suc s == y) (λ n. n + 1) (slaves_of row) ∙ any_same _ (λ y. s == y) (later s) (slaves_of row) ∙ slaves_any row s

-- the row of application m
abbrev pub row_at : List Application → ℕ → List Bool
row_at [] m = []
row_at (a ∷ rest) zero = a.slaves
row_at (a ∷ rest) (suc m) = row_at rest m

abbrev is_pair : ℕ × ℕ → ℕ × ℕ → Bool
is_pair p q = (p.0 == q.0) && (p.1 == q.1)

and_first : (a b c : Bool) → a ≡ b → (a && c) ≡ (b && c)
and_first a b c e = ap (λ x. x && c) e

or_false : (b : Bool) → (b || false) ≡ b
or_false true = refl
or_false false = refl

pairs_any : (all : List Application) (m s : ℕ) → list_any (is_pair (m, s)) (pairs_of all) ≡ get_or (row_at all m) s false
pairs_any [] m s = refl
pairs_any (a ∷ rest) zero s =
    let own : List (ℕ × ℕ) = map (λ (y : ℕ). (0, y)) (slaves_of a.slaves) in
    let others : List (ℕ × ℕ) = map (λ (p : ℕ × ℕ). (p.0 + 1, p.1)) (pairs_of rest) in
    let here : list_any (is_pair (zero, s)) own ≡ get_or a.slaves s false =
    any_map (is_pair (zero, s)) (λ (y : ℕ). (0, y)) (slaves_of a.slaves) ∙ slaves_any a.slaves s in
    let there : list_any (is_pair (zero, s)) others ≡ false =
    any_map (is_pair (zero, s)) (λ (p : ℕ × ℕ). (p.0 + 1, p.1)) (pairs_of rest)
    ∙ any_none (λ (p : ℕ × ℕ). is_pair (zero, s) (p.0 + 1, p.1)) (λ p. ap (λ b. b && (s == p.1)) (never p.0)) (pairs_of rest) in
    list_any-append (is_pair (zero, s)) own others
    ∙ ap (λ b. b || list_any (is_pair (zero, s)) others) here
    ∙ ap (λ b. get_or a.slaves s false || b) there
    ∙ or_false (get_or a.slaves s false)
pairs_any (a ∷ rest) (suc m) s =
    let own : List (ℕ × ℕ) = map (λ (y : ℕ). (0, y)) (slaves_of a.slaves) in
    let others : List (ℕ × ℕ) = map (λ (p : ℕ × ℕ). (p.0 + 1, p.1)) (pairs_of rest) in
    let here : list_any (is_pair (suc m, s)) own ≡ false =
    any_map (is_pair (suc m, s)) (λ (y : ℕ). (0, y)) (slaves_of a.slaves)
    ∙ any_none (λ (y : ℕ). is_pair (suc m, s) (0, y)) (λ y. ap (λ b. b && (s == y)) (not_zero m)) (slaves_of a.slaves) in
    let there : list_any (is_pair (suc m, s)) others ≡ get_or (row_at rest m) s false =
    any_map (is_pair (suc m, s)) (λ (p : ℕ × ℕ). (p.0 + 1, p.1)) (pairs_of rest)
    ∙ any_same (λ (p : ℕ × ℕ). is_pair (suc m, s) (p.0 + 1, p.1)) (is_pair (m, s)) (λ p. ap (λ b. b && (s == p.1)) (later m p.0)) (pairs_of rest)
    ∙ pairs_any rest m s in
    list_any-append (is_pair (suc m, s)) own others
    ∙ ap (λ b. b || list_any (is_pair (suc m, s)) others) here
    ∙ there

-- the set holds a pair exactly if the row of its master does
pub contains_row : (all : List Application) (m s : ℕ) → contains (from_list {R = pair_cmp} (pairs_of all)) (m, s) ≡ get_or (row_at all m) s false
contains_row all m s =
    contains-from_list pair_total (pairs_of all) (m, s)
    ∙ any_same (eq_by_cmp pair_cmp (m, s)) (is_pair (m, s)) (λ p. sym (same_pair (m, s) p)) (pairs_of all)
    ∙ pairs_any all m s

pub row_of : (all : List Application) (m : ℕ) (a : Application) → m < length all → a ≡ get_or all m a → row_at all m ≡ a.slaves
row_of [] m a h is = absurd (omega (arith, h))
row_of (b ∷ rest) zero a h is = ap (λ (x : Application). x.slaves) (sym is)
row_of (b ∷ rest) (suc m) a h is = row_of rest m a (omega (arith, h)) is

abbrev pub with_slave : Application → ℕ → Application
with_slave a s = record a { slaves = set a.slaves s true }

yes_at : (row : List Bool) (s r : ℕ) → s < length row → get_or (set row s true) r false ≡ ((r == s) || get_or row r false)
yes_at [] s r h = absurd (omega (arith, h))
yes_at (b ∷ row) zero zero h = refl
yes_at (b ∷ row) zero (suc r) h = ap (λ b. b || get_or row r false) (sym (not_zero r))
yes_at (b ∷ row) (suc s) zero h = ap (λ x. x || b) (sym (zero_not s))
yes_at (b ∷ row) (suc s) (suc r) h = yes_at row s r (omega (arith, h)) ∙ ap (λ b. b || get_or row r false) (sym (both_later r s))

row_after : (all : List Application) (m s : ℕ) (a : Application) (q r : ℕ) → m < length all → a ≡ get_or all m a → s < length a.slaves → get_or (row_at (set all m (with_slave a s)) q) r false ≡ (is_pair (q, r) (m, s) || get_or (row_at all q) r false)
row_after [] m s a q r h is within = absurd (omega (arith, h))
row_after (b ∷ rest) zero s a zero r h is within = yes_at a.slaves s r within ∙ ap (λ (x : Application). (r == s) || get_or x.slaves r false) is
row_after (b ∷ rest) zero s a (suc q) r h is within = ap (λ x. (x && (r == s)) || get_or (row_at rest q) r false) (sym (not_zero q))
row_after (b ∷ rest) (suc m) s a zero r h is within = ap (λ x. (x && (r == s)) || get_or b.slaves r false) (sym (zero_not m))
row_after (b ∷ rest) (suc m) s a (suc q) r h is within = row_after rest m s a q r (omega (arith, h)) is within ∙ ap (λ x. (x && (r == s)) || get_or (row_at rest q) r false) (sym (both_later q m))

same_saes : (all : List Application) (m s : ℕ) (a : Application) → m < length all → a ≡ get_or all m a → map sae_of (set all m (with_slave a s)) ≡ map sae_of all
same_saes [] m s a h is = absurd (omega (arith, h))
same_saes (b ∷ rest) zero s a h is = ap (λ (x : Application). sae_of x ∷ map sae_of rest) is
same_saes (b ∷ rest) (suc m) s a h is = ap (λ (xs : List Sae). sae_of b ∷ xs) (same_saes rest m s a (omega (arith, h)) is)

abbrev grants : List Sae → FinSet pair_cmp → Grants
grants saes allowed = record { saes = saes; allowed = allowed }

pub grants_after : (all : List Application) (m s : ℕ) (a : Application) → m < length all → a ≡ get_or all m a → s < length a.slaves → grants_of (set all m (with_slave a s)) ≡ with_pair (grants_of all) m s
grants_after all m s a h is within =
    let after : List Application = set all m (with_slave a s) in
    let more : from_list {R = pair_cmp} (pairs_of after) ≡ insert (from_list (pairs_of all)) (m, s) =
    same_set pair_total pair_antisymmetric _ _ (λ q.
    contains_row after q.0 q.1
    ∙ row_after all m s a q.0 q.1 h is within
    ∙ ap (λ b. b || get_or (row_at all q.0) q.1 false) (same_pair q (m, s))
    ∙ ap (λ b. eq_by_cmp pair_cmp q (m, s) || b) (sym (contains_row all q.0 q.1))
    ∙ sym (contains-insert pair_total (from_list (pairs_of all)) (m, s) q)) in
    ap (λ (saes : List Sae). grants saes (from_list (pairs_of after))) (same_saes all m s a h is)
    ∙ ap (λ (allowed : FinSet pair_cmp). grants (map sae_of all) allowed) more

pub nobody_allowed : (m s : ℕ) → is_allowed none m s ≡ false
nobody_allowed m s = contains-empty pair_cmp (m, s)

pub allowed_after : (g : Grants) (master slave m s : ℕ) → is_allowed (with_pair g master slave) m s ≡ (((m == master) && (s == slave)) || is_allowed g m s)
allowed_after g master slave m s =
    contains-insert pair_total g.allowed (master, slave) (m, s)
    ∙ ap (λ b. b || is_allowed g m s) (sym (same_pair (m, s) (master, slave)))

pub allowed_at : (all : List Application) (g : Grants) (m s : ℕ) (a : Application) → grants_of all ≡ g → m < length all → a ≡ get_or all m a → is_allowed g m s ≡ get_or a.slaves s false
allowed_at all g m s a view h is =
    ap (λ (x : Grants). is_allowed x m s) (sym view)
    ∙ contains_row all m s
    ∙ ap (λ (row : List Bool). get_or row s false) (row_of all m a h is)

pub nobody : (n : ℕ) → slaves_of (replicate n false) ≡ []
nobody zero = refl
nobody (suc n) = ap (map (λ k. k + 1)) (nobody n)

saes_push : (all : List Application) (a : Application) → map sae_of (all ++ a ∷ []) ≡ map sae_of all ++ sae_of a ∷ []
saes_push [] a = refl
saes_push (b ∷ rest) a = ap (λ (xs : List Sae). sae_of b ∷ xs) (saes_push rest a)

pairs_push : (all : List Application) (a : Application) → slaves_of a.slaves ≡ [] → pairs_of (all ++ a ∷ []) ≡ pairs_of all
pairs_push [] a nobody_yet = ap (λ (slaves : List ℕ). map (λ (y : ℕ). (0, y)) slaves ++ []) nobody_yet
pairs_push (b ∷ rest) a nobody_yet = ap (λ (pairs : List (ℕ × ℕ)). map (λ (y : ℕ). (0, y)) (slaves_of b.slaves) ++ map (λ (p : ℕ × ℕ). (p.0 + 1, p.1)) pairs) (pairs_push rest a nobody_yet)

pub grants_push : (all : List Application) (a : Application) → slaves_of a.slaves ≡ [] → grants_of (all ++ a ∷ []) ≡ with_sae (grants_of all) a.id a.home
grants_push all a nobody_yet =
    ap (λ (saes : List Sae). grants saes (from_list (pairs_of (all ++ a ∷ [])))) (saes_push all a)
    ∙ ap (λ (pairs : List (ℕ × ℕ)). grants (map sae_of all ++ sae_of a ∷ []) (from_list pairs)) (pairs_push all a nobody_yet)

place_saes : (all : List Application) (id : List ℕ) (i : ℕ) → position_from (λ (a : Application). bytes_eq a.id id) i all ≡ position_from (λ (s : Sae). bytes_eq s.id id) i (map sae_of all)
place_saes [] id i = refl
place_saes (a ∷ rest) id i = ap (λ (o : Option ℕ). cond (bytes_eq a.id id) (Some i) o) (place_saes rest id (i + 1))

-- an ID has the same place among the stored applications as in their view
pub find_at : (all items : List Application) (g : Grants) (id : List ℕ) → items ≡ all → grants_of all ≡ g → position_from (λ (a : Application). bytes_eq a.id id) 0 items ≡ find_sae g.saes id
find_at all items g id is view =
    ap (position_from (λ (a : Application). bytes_eq a.id id) 0) is
    ∙ place_saes all id 0
    ∙ ap (λ (x : Grants). find_sae x.saes id) view

pub count_of : (all : List Application) (g : Grants) → grants_of all ≡ g → length g.saes ≡ length all
count_of all g view = ap (λ (x : Grants). length x.saes) (sym view) ∙ length-map all sae_of

or_in : (b : Bool) (i : ℕ) (o p : Option ℕ) → cond b (Some i) (option_or o p) ≡ option_or (cond b (Some i) o) p
or_in true i o p = refl
or_in false i o p = refl

place_push : (all : List Sae) (id : List ℕ) (i : ℕ) (more : Sae) → position_from (λ (s : Sae). bytes_eq s.id id) i (all ++ more ∷ []) ≡ option_or (position_from (λ (s : Sae). bytes_eq s.id id) i all) (cond (bytes_eq more.id id) (Some (length all + i)) None)
place_push [] id i more = ap (λ (k : ℕ). cond (bytes_eq more.id id) (Some k) None) (omega arith)
place_push (x ∷ rest) id i more =
    let later = place_push rest id (i + 1) more ∙ ap (λ (k : ℕ). option_or (position_from (λ (s : Sae). bytes_eq s.id id) (i + 1) rest) (cond (bytes_eq more.id id) (Some k) None)) (omega arith) in
    ap (cond (bytes_eq x.id id) (Some i)) later ∙ or_in (bytes_eq x.id id) i (position_from (λ (s : Sae). bytes_eq s.id id) (i + 1) rest) _

at_push : (all : List Sae) (more : Sae) (n : ℕ) (s : Sae) → slice_get (all ++ more ∷ []) n ≡ Some s → (slice_get all n ≡ Some s) ⊎ ((n ≡ length all) × (more ≡ s))
at_push [] more zero s h = inr (refl, (cc))
at_push [] more (suc n) s h = absurd (cc)
at_push (x ∷ rest) more zero s h = inl h
at_push (x ∷ rest) more (suc n) s h =
    elim (at_push rest more n s h) [ inl before ↦ inl before | inr last ↦ inr (omega (arith, last.0), last.1) ]

distinct_more : (all : List Sae) (more : Sae) → HasDistinctIds all → find_sae all more.id ≡ None → HasDistinctIds (all ++ more ∷ [])
distinct_more all more distinct unknown n s h =
    place_push all s.id 0 more
    ∙ elim (at_push all more n s h) [
      | inl before ↦ ap (λ (o : Option ℕ). option_or o (cond (bytes_eq more.id s.id) (Some (length all + 0)) None)) (distinct n s before)
      | inr last ↦
          ap (λ (o : Option ℕ). option_or o (cond (bytes_eq more.id s.id) (Some (length all + 0)) None)) (ap (λ (x : Sae). find_sae all x.id) (sym last.1) ∙ unknown)
          ∙ ap (λ (same : Bool). cond same (Some (length all + 0)) None) ((bytes_eq-Decides more.id s.id).1 (ap (λ (x : Sae). x.id) last.1))
          ∙ ap Some (omega (arith, last.0))
    ]

distinct_push : (all : List Application) (a : Application) → HasDistinctIds (map sae_of all) → find_sae (map sae_of all) a.id ≡ None → HasDistinctIds (map sae_of (all ++ a ∷ []))
distinct_push all a distinct unknown =
    subst HasDistinctIds (sym (saes_push all a)) (distinct_more (map sae_of all) (sae_of a) distinct unknown)

distinct_after : (all : List Application) (m s : ℕ) (a : Application) → m < length all → a ≡ get_or all m a → HasDistinctIds (map sae_of all) → HasDistinctIds (map sae_of (set all m (with_slave a s)))
distinct_after all m s a h is = subst HasDistinctIds (sym (same_saes all m s a h is))

pub applications_push : (all : List Application) (a : Application) (g : Grants) → grants_of all ≡ g → AreApplications all → length g.saes < 256 → find_sae g.saes a.id ≡ None → AreApplications (all ++ a ∷ [])
applications_push all a g view are room unknown = record {
  room = omega (arith, count_of all g view, room, length-append all (a ∷ []));
  distinct = distinct_push all a are.distinct (ap (λ (x : Grants). find_sae x.saes a.id) view ∙ unknown);
}

pub applications_after : (all : List Application) (m s : ℕ) (a : Application) → m < length all → a ≡ get_or all m a → AreApplications all → AreApplications (set all m (with_slave a s))
applications_after all m s a h is are = record {
  room = omega (arith, are.room, length-set {A = Application} all m (with_slave a s));
  distinct = distinct_after all m s a h is are.distinct;
}
