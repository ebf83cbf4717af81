-- The parameters of a body, which is a JSON object (RFC 8259) as serde_json parses it.
use Rattle.std.specs.Prelude.{◌≡◌, ℕ, Bool, true, false, ◌==◌, ◌||◌, ◌&&◌, nat_lt, nat_eq, if◌then◌else◌, List, [], ◌∷◌, ◌++◌, length, Option, Some, None, Result, Ok, Err, codes, unwrap_or, ok_or, is_some}
use Rattle.std.specs.Option.{option_and_then, option_map}
use Rattle.std.specs.List.{list_any}
use Rattle.std.specs.Str.{is_utf8}
use Rattle.uuid.specs.Text.{parsed}
use Rattle.serde_json.specs.Data.{Data, null, boolean, number, string, array, object, Items, no_items, item}
use Rattle.serde_json.specs.Read.{read}
use Rattle.serde_json.specs.Find.{get, as_number, as_u64, as_str, as_array, as_object}
use Rattle.serde_json.specs.View.{view}
use Rattle.serde_json.specs.Errors.{IsMemory}
use Rattle.serde_json.specs.declared.error.Error.{Error}
use Rattle.serde_json.specs.declared.value.Value.{Value}
use Rattle.qkd_base.specs.Name.{Name, name_at}
use Rattle.qkd_base.specs.declared.key_name.NameKind.TheVariants.{Note}
use Rattle.sae_entitlements.specs.Grants.{Grants, find_sae}
use Rattle.qkd014_api.specs.Numbers.{number_at, size_at}
use Rattle.qkd014_api.specs.declared.fault.CallFault.{CallFault}
use Rattle.qkd014_api.specs.declared.fault.CallFault.TheVariants as faults

-- ---- bodies

abbrev pub only_object : Data → Option Data
only_object d = if is_some (as_object d) then Some d else None

-- the object that octets spell
unfoldable pub object_in : List ℕ → Option Data
object_in body = if is_utf8 body then option_and_then only_object (read body) else None

abbrev pub IsNoObject : List ℕ → CallFault → Type 0
IsNoObject body faults.BadBody = object_in body ≡ None
IsNoObject body faults.Memory = Unit {0}
IsNoObject body _ = ⊥

abbrev pub IsObject : List ℕ → Result Value CallFault → Type 0
IsObject body (Ok value) = object_in body ≡ Some (view value)
IsObject body (Err e) = IsNoObject body e

-- the fault for a parser's error: memory ran out, or else the body is bad
abbrev pub IsCause : Error → CallFault → Type 0
IsCause error faults.BadBody = ¬ (IsMemory error)
IsCause error faults.Memory = IsMemory error
IsCause error _ = ⊥

-- ---- numbers

abbrev pub u64_in : Data → Option ℕ
u64_in d = option_and_then as_u64 (as_number d)

abbrev pub told_or : (least : ℕ) → (ℕ → Option ℕ) → Option Data → Option ℕ
told_or least rule None = Some least
told_or least rule (Some d) = option_and_then rule (u64_in d)

abbrev pub number_in : Data → Option ℕ
number_in d = told_or 1 number_at (get (codes "number") d)

abbrev pub size_in : Data → Option ℕ
size_in d = told_or 256 size_at (get (codes "size") d)

-- ---- lists

abbrev pub has_none : Option Items → Bool
has_none None = false
has_none (Some no_items) = true
has_none (Some (item d ds)) = false

-- The member is absent or an empty array.
abbrev pub is_unasked : Option Data → Bool
is_unasked None = true
is_unasked (Some d) = has_none (as_array d)

abbrev pub is_blank : Data → Bool
is_blank d = is_unasked (get (codes "extension_mandatory") d)

abbrev pub is_among : List ℕ → ℕ → Bool
is_among slaves slave = list_any (λ s. nat_eq s slave) slaves

-- a slave that isn't among the slaves so far, of which there are at most 4
abbrev pub new_slave : List ℕ → ℕ → Option ℕ
new_slave slaves slave = if nat_lt 4 (length slaves) || is_among slaves slave then None else Some slave

-- one more slave
abbrev pub another : Grants → List ℕ → Data → Option ℕ
another g slaves d = option_and_then (new_slave slaves) (option_and_then (find_sae g.saes) (as_str d))

-- the given slaves, followed by those of an array
abbrev pub chosen : Grants → List ℕ → Items → Option (List ℕ)
chosen g slaves no_items = Some slaves
chosen g slaves (item d ds) = option_and_then (λ slave. chosen g (slaves ++ slave ∷ []) ds) (another g slaves d)

abbrev pub chosen_of : Grants → List ℕ → Option Data → Option (List ℕ)
chosen_of g slaves None = Some slaves
chosen_of g slaves (Some d) = option_and_then (chosen g slaves) (as_array d)

-- the first slave, followed by the additional ones
abbrev pub slaves_in : Grants → ℕ → Data → Result (List ℕ) CallFault
slaves_in g first d = ok_or (chosen_of g (first ∷ []) (get (codes "additional_slave_SAE_IDs") d)) faults.SlavesRefused

-- ---- key names

-- the name for a UUID that spells no key name; no key has this name
abbrev pub no_key : Name
no_key = record { node = 0; kind = Note; count = 1 }

abbrev pub name_of : List ℕ → Name
name_of uuid = unwrap_or (name_at uuid) no_key

abbrev pub name_told : List ℕ → Option Name
name_told text = option_map name_of (parsed text)

abbrev pub named : Data → Option Name
named d = option_and_then name_told (option_and_then as_str (get (codes "key_ID") d))

-- one more name, if there are fewer than 128
abbrev pub new_name : List Name → Name → Option Name
new_name names name = if nat_lt (length names) 128 then Some name else None

abbrev pub another_name : List Name → Data → Option Name
another_name names d = option_and_then (new_name names) (named d)

-- the given names, followed by those of an array
abbrev pub names_on : List Name → Items → Option (List Name)
names_on names no_items = Some names
names_on names (item d ds) = option_and_then (λ name. names_on (names ++ name ∷ []) ds) (another_name names d)

abbrev pub some_names : List Name → Option (List Name)
some_names [] = None
some_names (n ∷ ns) = Some (n ∷ ns)

-- 1 to 128 key names
abbrev pub key_ids_in : Data → Result (List Name) CallFault
key_ids_in d =
    ok_or (option_and_then some_names (option_and_then (names_on []) (option_and_then as_array (get (codes "key_IDs") d)))) faults.BadKeyIds
