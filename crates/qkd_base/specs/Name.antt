-- A name: the node that gave it, the kind of thing that it names, and that node's count.
use Rattle.std.specs.Prelude.{ℕ, ◌≤◌, ◌<◌, ◌^◌, ◌==◌, ◌&&◌, nat_lt, nat_le, Bool, List, ◌∷◌, ◌++◌, drop, replicate, slice_index, Option, Some, None, if◌then◌else◌}
use Rattle.std.specs.List.{list_any}
use Rattle.std.specs.Int.{w64, to_be_bytes, from_be_bytes}
use Rattle.std.specs.Str.{bytes_eq}
use Rattle.qkd_base.specs.declared.key_name.NameKind.{NameKind}
use Rattle.qkd_base.specs.declared.key_name.NameKind.TheVariants.{Key, Stream, Note}

pub record Name : Type 0 where
  pub node : ℕ
  pub kind : NameKind
  pub count : ℕ

-- the numbers of a name are in range
pub record IsName (n : Name) : Type 0 where
  pub node : n.node < 16
  pub positive : 1 ≤ n.count
  pub count : n.count < 2 ^ 48

-- the octet that stands for a kind
abbrev pub kind_number : NameKind → ℕ
kind_number Key = 0
kind_number Stream = 1
kind_number Note = 2

-- The layout of a UUID of version 8 (RFC 9562 section 5.8): custom_a is zero, then the version 8 with the node in
-- custom_b, then the variant with the kind and the six octets of the count in custom_c.
abbrev pub octets_of : Name → List ℕ
octets_of n = replicate 6 0 ++ 128 ∷ n.node ∷ 128 ∷ kind_number n.kind ∷ drop 2 (to_be_bytes w64 n.count)

abbrev pub kind_eq : NameKind → NameKind → Bool
kind_eq a b = kind_number a == kind_number b

abbrev pub name_eq : Name → Name → Bool
name_eq a b = (a.node == b.node) && kind_eq a.kind b.kind && (a.count == b.count)

-- the name is in the list
abbrev pub has : List Name → Name → Bool
has ns n = list_any (λ m. name_eq m n) ns

-- ---- the name that octets spell, as a function

abbrev pub is_name : Name → Bool
is_name n = nat_lt n.node 16 && nat_le 1 n.count && nat_lt n.count (2 ^ 48)

abbrev pub kind_of_octet : ℕ → NameKind
kind_of_octet k = if k == 0 then Key else if k == 1 then Stream else Note

-- the only name that can have these octets
abbrev pub candidate : List ℕ → Name
candidate os = record { node = slice_index os 7; kind = kind_of_octet (slice_index os 9); count = from_be_bytes w64 (replicate 2 0 ++ drop 10 os) }

unfoldable pub name_at : List ℕ → Option Name
name_at os = if is_name (candidate os) && bytes_eq os (octets_of (candidate os)) then Some (candidate os) else None
