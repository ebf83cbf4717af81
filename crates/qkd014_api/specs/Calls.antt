-- Which event a request asks for, or the first thing that is wrong with it (ETSI GS QKD 014 V1.1.1, section 5).
use Rattle.std.specs.Prelude.{◌≡◌, ◌⊎◌, ℕ, zero, suc, Bool, true, false, ◌==◌, ◌&&◌, nat_lt, if◌then◌else◌, List, [], ◌∷◌, ◌++◌, length, Option, Some, None, Result, Ok, Err, codes, ok_or}
use Rattle.std.specs.Option.{option_and_then}
use Rattle.std.specs.Str.{bytes_eq, is_utf8}
use Rattle.net_model.specs.declared.event.Event.{Event}
use Rattle.net_model.specs.declared.event.Event.TheVariants as events
use Rattle.sae_entitlements.specs.Grants.{Grants, find_sae, home_of, is_allowed}
use Rattle.http_front.specs.Fields.{values_of, only_of}
use Rattle.http_front.specs.declared.request.HttpRequest.{HttpRequest}
use Rattle.qkd_base.specs.Name.{Name}
use Rattle.qkd014_api.specs.Texts.{error_response}
use Rattle.qkd014_api.specs.Resources.{path_in, query_in, sae_part, resource_at}
use Rattle.qkd014_api.specs.Queries.{values_in, one_of, number_given, size_given}
use Rattle.qkd014_api.specs.Bodies.{object_in, number_in, size_in, is_blank, is_among, slaves_in, key_ids_in, name_told}
use Rattle.qkd014_api.specs.declared.query.Given.{Given}
use Rattle.qkd014_api.specs.declared.query.Given.TheVariants.{Absent, Once, Often}
use Rattle.qkd014_api.specs.declared.resource.Resource.{Resource}
use Rattle.qkd014_api.specs.declared.resource.Resource.TheVariants.{Status, EncKeys, DecKeys}
use Rattle.qkd014_api.specs.declared.fault.CallFault.{CallFault}
use Rattle.qkd014_api.specs.declared.fault.CallFault.TheVariants as faults
use Rattle.qkd014_api.specs.declared.fault.CallRefusal.{CallRefusal}
use Rattle.qkd014_api.specs.declared.fault.CallRefusal.TheVariants as refusals

infixl 10 ◌>>=◌
abbrev pub ◌>>=◌ : {A B : Type 0} → Result A CallFault → (A → Result B CallFault) → Result B CallFault
Ok a >>= f = f a
Err e >>= f = Err e

-- ---- who asks

-- the application with this ID
abbrev pub sae_of : Grants → List ℕ → Option ℕ
sae_of g id = if is_utf8 id then find_sae g.saes id else None

-- the master and the slave: at status and enc_keys the caller is the master, at dec_keys the slave
abbrev pub roles : Resource → (caller other : ℕ) → ℕ × ℕ
roles Status caller other = (caller, other)
roles EncKeys caller other = (caller, other)
roles DecKeys caller other = (other, caller)

abbrev pub allowed_pair : Grants → ℕ × ℕ → Option (ℕ × ℕ)
allowed_pair g p = if nat_lt p.0 (length g.saes) && nat_lt p.1 (length g.saes) && is_allowed g p.0 p.1 then Some p else None

abbrev pub at_home : ℕ → ℕ → ℕ → Option ℕ
at_home node caller home = if home == node then Some caller else None

-- the master and the slave, if the caller is at home at the node and the pair is allowed
abbrev pub pair_of : Grants → (node : ℕ) → Resource → (caller other : List ℕ) → Option (ℕ × ℕ)
pair_of g node resource caller other =
    option_and_then (λ c. option_and_then (λ o. allowed_pair g (roles resource c o)) (sae_of g other))
    (option_and_then (λ c. option_and_then (at_home node c) (home_of g c)) (sae_of g caller))

-- ---- what is asked for

-- the applications below a number that are in the list, in order
unfoldable pub ordered_below : ℕ → List ℕ → List ℕ
ordered_below zero saes = []
ordered_below (suc n) saes = ordered_below n saes ++ (if is_among saes n then n ∷ [] else [])

-- keys for one slave, or group keys for several
abbrev pub enc_of : (master slave : ℕ) → (slaves : List ℕ) → (number bits : ℕ) → Result Event CallFault
enc_of master slave slaves number bits =
    if length slaves == 1 then Ok (events.Enc master slave number bits) else Ok (events.EncGroup master (ordered_below 256 slaves) number bits)

abbrev pub enc_by_query : List ℕ → (master slave : ℕ) → Result Event CallFault
enc_by_query query master slave = do
  number ← ok_or (number_given (one_of (values_in (codes "number") query))) faults.BadNumber
  bits ← ok_or (size_given (one_of (values_in (codes "size") query))) faults.BadSize
  Ok (events.Enc master slave number bits)

-- An empty body counts as an object without members.
abbrev pub body_or_blank : List ℕ → List ℕ
body_or_blank body = if length body == 0 then codes "{}" else body

abbrev pub enc_by_body : Grants → List ℕ → (master slave : ℕ) → Result Event CallFault
enc_by_body g body master slave = do
  d ← ok_or (object_in (body_or_blank body)) faults.BadBody
  number ← ok_or (number_in d) faults.BadNumber
  bits ← ok_or (size_in d) faults.BadSize
  slaves ← slaves_in g slave d
  if is_blank d then enc_of master slave slaves number bits else Err faults.MandatoryRefused

-- the name that the only value in a query spells
abbrev pub name_given : Given → Option Name
name_given Absent = None
name_given (Once text) = name_told text
name_given Often = None

abbrev pub dec_by_query : List ℕ → (master slave : ℕ) → Result Event CallFault
dec_by_query query master slave = do
  name ← ok_or (name_given (one_of (values_in (codes "key_ID") query))) faults.BadKeyId
  Ok (events.Dec slave master (name ∷ []))

abbrev pub dec_by_body : List ℕ → (master slave : ℕ) → Result Event CallFault
dec_by_body body master slave = do
  d ← ok_or (object_in body) faults.BadBody
  names ← key_ids_in d
  Ok (events.Dec slave master names)

abbrev pub event_for : Grants → Resource → (posts : Bool) → HttpRequest → (master slave : ℕ) → Result Event CallFault
event_for g Status posts q master slave = Ok (events.Status master slave)
event_for g EncKeys false q master slave = enc_by_query (query_in q.target) master slave
event_for g EncKeys true q master slave = enc_by_body g q.body master slave
event_for g DecKeys false q master slave = dec_by_query (query_in q.target) master slave
event_for g DecKeys true q master slave = dec_by_body q.body master slave

-- The event of a request at a node. The resource is checked first, then the caller, then the pair, then the rest.
unfoldable pub asked : Grants → (node : ℕ) → HttpRequest → Result Event CallFault
asked g node q = do
  resource ← ok_or (resource_at (path_in q.target) q.method) faults.UnknownResource
  caller ← ok_or (only_of (values_of (codes "x-sae-id") q.fields)) faults.MissingCaller
  pair ← ok_or (pair_of g node resource caller (sae_part (path_in q.target) resource)) faults.NotAllowed
  event_for g resource (bytes_eq q.method (codes "POST")) q pair.0 pair.1

-- ---- what takes memory

-- Parameters are read into memory. A request for a pool's status has none, and those of a request that is refused for its
-- resource, its caller or its pair aren't read.
abbrev pub HasParameters : Result Event CallFault → Type 0
HasParameters (Ok (events.Status master slave)) = ⊥
HasParameters (Err faults.UnknownResource) = ⊥
HasParameters (Err faults.MissingCaller) = ⊥
HasParameters (Err faults.NotAllowed) = ⊥
HasParameters _ = Unit {0}

-- Memory is taken for parameters, or for the answer to a fault.
abbrev pub TakesMemory : Result Event CallFault → Type 0
TakesMemory means = HasParameters means ⊎ ((fault : CallFault) × (means ≡ Err fault))

-- ---- what is answered

abbrev pub fault_status : CallFault → ℕ
fault_status faults.MissingCaller = 401
fault_status faults.NotAllowed = 401
fault_status _ = 400

abbrev pub fault_message : CallFault → List ℕ
fault_message faults.UnknownResource = codes "unknown resource"
fault_message faults.MissingCaller = codes "X-SAE-ID missing"
fault_message faults.NotAllowed = codes "not allowed"
fault_message faults.BadBody = codes "bad body"
fault_message faults.BadNumber = codes "bad number"
fault_message faults.BadSize = codes "bad size"
fault_message faults.SlavesRefused = codes "additional_slave_SAE_IDs refused"
fault_message faults.MandatoryRefused = codes "extension_mandatory refused"
fault_message faults.BadKeyId = codes "bad key_ID"
fault_message faults.BadKeyIds = codes "bad key_IDs"
fault_message faults.Memory = []

-- A fault is answered by its status and message, unless memory ran out.
abbrev pub IsAnswered : CallFault → (close : Bool) → CallRefusal → Type 0
IsAnswered fault close refusals.Memory = Unit {0}
IsAnswered fault close (refusals.Answer response) = response ≡ error_response (fault_status fault) (fault_message fault) close

-- The result is the event that the request asks for, or the answer to the request's fault. Memory runs out only where some is
-- taken.
abbrev pub IsCalled : Result Event CallFault → (close : Bool) → Result Event CallRefusal → Type 0
IsCalled means close (Ok event) = means ≡ Ok event
IsCalled means close (Err refusals.Memory) = TakesMemory means
IsCalled means close (Err (refusals.Answer response)) =
    (fault : CallFault) × (means ≡ Err fault) × IsAnswered fault close (refusals.Answer response)
