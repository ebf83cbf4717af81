-- If octets spell a name, it is their candidate.
use Rattle.std.proofs.Common.{◌≡◌, ℕ, ◌<◌, ◌^◌, ◌&&◌, List, ◌++◌, drop, replicate, Bool, true, if◌then◌else◌, Option, Some, None, refl, sym, ap, ◌∙◌, arith}
use Rattle.std.specs.Prelude.{IfSome}
use Rattle.std.proofs.lemmas.Slice.Eq.{bytes_eq-Decides}
use Rattle.std.specs.Int.{w64, to_be_bytes, from_be_bytes}
use Rattle.std.specs.Str.{bytes_eq}
use Rattle.qkd_base.specs.declared.key_name.NameKind.{NameKind}
use Rattle.qkd_base.specs.declared.key_name.NameKind.TheVariants.{Key, Stream, Note}
use Rattle.qkd_base.specs.Name.{Name, IsName, is_name, octets_of, kind_number, kind_of_octet, candidate, name_at}

pub kind_back : (k : NameKind) → kind_of_octet (kind_number k) ≡ k
kind_back Key = refl
kind_back Stream = refl
kind_back Note = refl

pub count_back : (n : ℕ) → n < 2 ^ 48 → from_be_bytes w64 (replicate 2 0 ++ drop 2 (to_be_bytes w64 n)) ≡ n
count_back n h = omega arith

pub candidate_back : (n : Name) → IsName n → candidate (octets_of n) ≡ n
candidate_back n h =
    ap (λ (k : NameKind). record { node = n.node; kind = k; count = from_be_bytes w64 (replicate 2 0 ++ drop 2 (to_be_bytes w64 n.count)) }) (kind_back n.kind)
    ∙ ap (λ (c : ℕ). record { node = n.node; kind = n.kind; count = c }) (count_back n.count h.count)

pub is_name-true : (n : Name) → IsName n → is_name n ≡ true
is_name-true n h = let a = h.node in let b = h.positive in let c = h.count in grind arith

pub IsName-of : (n : Name) → is_name n ≡ true → IsName n
IsName-of n h = record { node = grind arith; positive = grind arith; count = grind arith }

same_bytes : (xs : List ℕ) → bytes_eq xs xs ≡ true
same_bytes xs = (bytes_eq-Decides xs xs).1 refl

is_name_at_by : (os : List ℕ) (r : Option Name) (a b : Bool) → is_name (candidate os) ≡ a → bytes_eq os (octets_of (candidate os)) ≡ b
    → IfSome r (λ n. IsName n × (os ≡ octets_of n)) → ((n : Name) → IsName n → os ≡ octets_of n → r ≡ Some n)
    → r ≡ (if a && b then Some (candidate os) else None)
is_name_at_by os r true true e f is all = all (candidate os) (IsName-of (candidate os) e) ((bytes_eq-Decides os (octets_of (candidate os))).0 f)
is_name_at_by os None a b e f is all = refl
is_name_at_by os (Some n) a b e f is all =
    let back : candidate os ≡ n = ap candidate is.1 ∙ candidate_back n is.0 in
    let x : a ≡ true = sym e ∙ ap is_name back ∙ is_name-true n is.0 in
    let y : b ≡ true = sym f ∙ ap (bytes_eq os) (ap octets_of back ∙ sym is.1) ∙ same_bytes os in
    cc

pub is_name_at : (os : List ℕ) (r : Option Name) → IfSome r (λ n. IsName n × (os ≡ octets_of n)) → ((n : Name) → IsName n → os ≡ octets_of n → r ≡ Some n) → r ≡ name_at os
unfolding name_at
is_name_at os r is all = is_name_at_by os r _ _ refl refl is all
