-- The numbers and names that a request asks for are in their ranges.
use Rattle.std.proofs.Common.{◌≡◌, ◌≤◌, ℕ, Bool, true, false, ◌&&◌, List, [], ◌∷◌, ◌++◌, length, ltb, Option, Some, None, Ok, refl, ◌∙◌, subst, arith, length-append, codes}
use Rattle.std.specs.Prelude.{if◌then◌else◌, unwrap_or, nat_le}
use Rattle.std.specs.List.{list_all}
use Rattle.std.specs.Option.{option_and_then}
use Rattle.std.specs.Str.{bytes_eq}
use Rattle.std.proofs.lemmas.Bool.{and_from, ltb-true, le-leb}
use Rattle.std.proofs.lemmas.List.Folds.{list_all-append}
use Rattle.uuid.specs.Text.{parsed}
use Rattle.serde_json.specs.Data.{Data, Items, no_items, item}
use Rattle.serde_json.specs.Find.{get, as_str, as_array}
use Rattle.qkd_base.specs.Name.{Name, candidate, octets_of, name_at}
use Rattle.net_model.specs.Events.{is_count, is_name}
use Rattle.net_model.specs.Streams.{is_size}
use Rattle.http_front.specs.Fields.{decimal_of}
use Rattle.qkd014_api.specs.Numbers.{number_at, size_at}
use Rattle.qkd014_api.specs.Queries.{one_of, number_given, size_given}
use Rattle.qkd014_api.specs.Bodies.{u64_in, told_or, number_in, size_in, no_key, name_of, name_told, named, new_name, another_name, names_on, some_names, key_ids_in}
use Rattle.qkd014_api.specs.Calls.{name_given}
use Rattle.qkd014_api.specs.declared.fault.CallFault.TheVariants as faults
use Rattle.qkd014_api.proofs.Chains.{same_some, is_told, then_some, mapped, guarded}

-- ---- numbers

number_right : (n m : ℕ) → number_at n ≡ Some m → is_count m ≡ true
number_right n m e = let h = guarded (nat_le 1 n && nat_le n 128) n m e in subst (λ (k : ℕ). is_count k ≡ true) h.1 h.0

size_right : (n m : ℕ) → size_at n ≡ Some m → is_size m ≡ true
size_right n m e = let h = guarded (is_size n) n m e in subst (λ (k : ℕ). is_size k ≡ true) h.1 h.0

told_right : (test : ℕ → Bool) (least : ℕ) (rule : ℕ → Option ℕ) → test least ≡ true → ((n m : ℕ) → rule n ≡ Some m → test m ≡ true) →
    (o : Option Data) (m : ℕ) → told_or least rule o ≡ Some m → test m ≡ true
told_right test least rule first right None m e = subst (λ (k : ℕ). test k ≡ true) (same_some least m e) first
told_right test least rule first right (Some d) m e = let h = then_some rule (u64_in d) m e in right h.0 m h.2

pub body_number_right : (d : Data) (n : ℕ) → number_in d ≡ Some n → is_count n ≡ true
body_number_right d n e = told_right is_count 1 number_at refl number_right (get (codes "number") d) n e

pub body_size_right : (d : Data) (n : ℕ) → size_in d ≡ Some n → is_size n ≡ true
body_size_right d n e = told_right is_size 256 size_at refl size_right (get (codes "size") d) n e

pub query_number_right : (values : List (List ℕ)) (n : ℕ) → number_given (one_of values) ≡ Some n → is_count n ≡ true
query_number_right [] n e = subst (λ (k : ℕ). is_count k ≡ true) (same_some 1 n e) refl
query_number_right (text ∷ []) n e = let h = then_some number_at (decimal_of text) n e in number_right h.0 n h.2
query_number_right (text ∷ other ∷ more) n e = absurd cc

pub query_size_right : (values : List (List ℕ)) (n : ℕ) → size_given (one_of values) ≡ Some n → is_size n ≡ true
query_size_right [] n e = subst (λ (k : ℕ). is_size k ≡ true) (same_some 256 n e) refl
query_size_right (text ∷ []) n e = let h = then_some size_at (decimal_of text) n e in size_right h.0 n h.2
query_size_right (text ∷ other ∷ more) n e = absurd cc

-- ---- names

name_right : (os : List ℕ) → is_name (name_of os) ≡ true
unfolding name_at
name_right os = by_test (is_name (candidate os)) (bytes_eq os (octets_of (candidate os))) (candidate os) refl
  where
    by_test : (a b : Bool) (n : Name) → is_name n ≡ a → is_name (unwrap_or (if a && b then Some n else None) no_key) ≡ true
    by_test true true n is = is
    by_test true false n is = refl
    by_test false b n is = refl

told_name_right : (text : List ℕ) (n : Name) → name_told text ≡ Some n → is_name n ≡ true
told_name_right text n e = let h = mapped name_of (parsed text) n e in subst (λ (k : Name). is_name k ≡ true) h.2 (name_right h.0)

pub query_name_right : (values : List (List ℕ)) (n : Name) → name_given (one_of values) ≡ Some n → is_name n ≡ true
query_name_right [] n e = absurd cc
query_name_right (text ∷ []) n e = told_name_right text n e
query_name_right (text ∷ other ∷ more) n e = absurd cc

-- at most 128 names, each in its range
record AreNames (names : List Name) : Type 0 where
  few : length names ≤ 128
  right : list_all is_name names ≡ true

more_names : (names : List Name) (d : Data) (n : Name) → AreNames names → another_name names d ≡ Some n → AreNames (names ++ n ∷ [])
more_names names d n h e =
    let given = then_some (new_name names) (named d) n e in
    let room = guarded (ltb (length names) 128) given.0 n given.2 in
    let text = then_some name_told (option_and_then as_str (get (codes "key_ID") d)) given.0 given.1 in
    let less = ltb-true (length names) 128 room.0 in
    let right = subst (λ (k : Name). is_name k ≡ true) room.1 (told_name_right text.0 given.0 text.2) in
    let long = length-append names (n ∷ []) in
    record {
      few = omega (arith, less, long);
      right = list_all-append is_name names (n ∷ []) ∙ and_from (list_all is_name names) (is_name n && true) h.right (and_from (is_name n) true right refl);
    }

all_names : (items : Items) (names out : List Name) → AreNames names → names_on names items ≡ Some out → AreNames out
all_names no_items names out h e = subst AreNames (same_some names out e) h
all_names (item d ds) names out h e =
    let one = then_some (λ (n : Name). names_on (names ++ n ∷ []) ds) (another_name names d) out e in
    all_names ds (names ++ one.0 ∷ []) out (more_names names d one.0 h one.1) one.2

-- If the list isn't empty, its length and each of its names are in range.
some_right : (names out : List Name) → AreNames names → some_names names ≡ Some out → (is_count (length out) ≡ true) × (list_all is_name out ≡ true)
some_right [] out h e = absurd cc
some_right (n ∷ ns) out h e =
    let same = same_some (n ∷ ns) out e in
    let few = h.few in
    let right = h.right in
    subst (λ (names : List Name). (is_count (length names) ≡ true) × (list_all is_name names ≡ true)) same
    (and_from (nat_le 1 (length (n ∷ ns))) (nat_le (length (n ∷ ns)) 128) (le-leb 1 (length (n ∷ ns)) (omega arith)) (le-leb (length (n ∷ ns)) 128 few), right)

pub key_ids_right : (d : Data) (names : List Name) → key_ids_in d ≡ Ok names → (is_count (length names) ≡ true) × (list_all is_name names ≡ true)
key_ids_right d names e =
    let all =
    then_some some_names (option_and_then (names_on []) (option_and_then as_array (get (codes "key_IDs") d))) names
    (is_told (option_and_then some_names (option_and_then (names_on []) (option_and_then as_array (get (codes "key_IDs") d)))) faults.BadKeyIds names e) in
    let items = then_some (names_on []) (option_and_then as_array (get (codes "key_IDs") d)) all.0 all.1 in
    some_right all.0 names (all_names items.0 [] all.0 (record { few = omega arith; right = refl }) items.2) all.2
