-- What a request asks for, from the results of the steps.
use Rattle.std.proofs.Common.{◌≡◌, ℕ, Bool, List, [], ◌∷◌, Option, None, Some, Result, Ok, Err, inl, inr, refl, sym, ap, ◌∙◌, subst, codes}
use Rattle.std.specs.Prelude.{ok_or}
use Rattle.std.specs.Str.{bytes_eq}
use Rattle.net_model.specs.declared.event.Event.{Event}
use Rattle.net_model.specs.declared.event.Event.TheVariants as events
use Rattle.qkd_base.specs.Name.{Name}
use Rattle.sae_entitlements.specs.Grants.{Grants}
use Rattle.http_front.specs.Fields.{Pair, values_of, only_of}
use Rattle.http_front.specs.declared.request.HttpRequest.{HttpRequest}
use Rattle.qkd014_api.specs.Gives.{Gives}
use Rattle.qkd014_api.specs.Queries.{values_in, one_of}
use Rattle.qkd014_api.specs.Resources.{path_in, sae_part, resource_at}
use Rattle.qkd014_api.specs.Calls.{◌>>=◌, pair_of, event_for, asked, name_given, dec_by_query, HasParameters, IsAnswered, IsCalled}
use Rattle.qkd014_api.specs.declared.resource.Resource.{Resource}
use Rattle.qkd014_api.specs.declared.fault.CallFault.{CallFault}
use Rattle.qkd014_api.specs.declared.fault.CallFault.TheVariants as faults
use Rattle.qkd014_api.specs.declared.fault.CallRefusal.{CallRefusal}
use Rattle.qkd014_api.specs.declared.fault.CallRefusal.TheVariants as refusals

pub asked-known : (g : Grants) (node : ℕ) (q : HttpRequest) (resource : Resource) (caller : List ℕ) (master slave : ℕ) (posts : Bool)
    → resource_at (path_in q.target) q.method ≡ Some resource → only_of (values_of (codes "x-sae-id") q.fields) ≡ Some caller
    → pair_of g node resource caller (sae_part (path_in q.target) resource) ≡ Some (master, slave) → bytes_eq q.method (codes "POST") ≡ posts
    → asked g node q ≡ event_for g resource posts q master slave
unfolding asked
asked-known g node q resource caller master slave posts a b c d = rw a (rw b (rw c (rw d refl)))

module _ (g : Grants) (node : ℕ) (q : HttpRequest) (path method : List ℕ) (fields : List Pair) (resource : Resource) (caller other : List ℕ)
    (master slave : ℕ) (posts : Bool)
    (path_is : path ≡ path_in q.target) (method_is : method ≡ q.method) (fields_is : fields ≡ q.fields) (other_is : other ≡ sae_part path resource)
    (found : Some resource ≡ resource_at path method) (called : Some caller ≡ only_of (values_of (codes "x-sae-id") fields))
    (paired : Some (master, slave) ≡ pair_of g node resource caller other) (told : posts ≡ bytes_eq method (codes "POST")) where
  asked-event : asked g node q ≡ event_for g resource posts q master slave
  asked-event =
      let a : resource_at (path_in q.target) q.method ≡ Some resource =
      ap (λ (p : List ℕ). resource_at p q.method) (sym path_is) ∙ ap (resource_at path) (sym method_is) ∙ sym found in
      let b : only_of (values_of (codes "x-sae-id") q.fields) ≡ Some caller =
      ap (λ (f : List Pair). only_of (values_of (codes "x-sae-id") f)) (sym fields_is) ∙ sym called in
      let c : pair_of g node resource caller (sae_part (path_in q.target) resource) ≡ Some (master, slave) =
      ap (λ (p : List ℕ). pair_of g node resource caller (sae_part p resource)) (sym path_is) ∙ ap (pair_of g node resource caller) (sym other_is) ∙ sym paired in
      let d : bytes_eq q.method (codes "POST") ≡ posts = ap (λ (m : List ℕ). bytes_eq m (codes "POST")) (sym method_is) ∙ sym told in
      asked-known g node q resource caller master slave posts a b c d

  pub asked-given : (r : Result Event CallFault) → Gives (event_for g resource posts q master slave) r → Gives (asked g node q) r
  asked-given r gives = subst (λ (m : Result Event CallFault). Gives m r) (sym asked-event) gives

  pub asked-reads : HasParameters (event_for g resource posts q master slave) → HasParameters (asked g node q)
  asked-reads reads = subst HasParameters (sym asked-event) reads

-- ---- what takes memory

reads-then : {A : Type 0} (o : Option A) (e : CallFault) (f : A → Result Event CallFault) → HasParameters (Err e) → ((a : A) → HasParameters (f a))
    → HasParameters (ok_or o e >>= f)
reads-then {A} None e f bad good = bad
reads-then {A} (Some a) e f bad good = good a

-- A request for keys by name has parameters, or a fault in them.
pub dec_query-reads : (query : List ℕ) (master slave : ℕ) → HasParameters (dec_by_query query master slave)
dec_query-reads query master slave =
    reads-then (name_given (one_of (values_in (codes "key_ID") query))) faults.BadKeyId (λ (name : Name). Ok (events.Dec slave master (name ∷ []))) tt (λ name. tt)

-- A fault is answered, or memory runs out where some is taken.
pub called-refused : (means : Result Event CallFault) (fault : CallFault) (close : Bool) (r : CallRefusal) → Gives means (Err fault)
    → (fault ≡ faults.Memory → HasParameters means) → IsAnswered fault close r → (fault ≡ faults.Memory → r ≡ refusals.Memory)
    → IsCalled means close (Err r)
called-refused means faults.Memory close refusals.Memory gives reads answered memory = inl (reads refl)
called-refused means faults.Memory close (refusals.Answer response) gives reads answered memory = let e = memory refl in absurd cc
called-refused means faults.UnknownResource close refusals.Memory gives reads answered memory = inr (faults.UnknownResource, gives)
called-refused means faults.MissingCaller close refusals.Memory gives reads answered memory = inr (faults.MissingCaller, gives)
called-refused means faults.NotAllowed close refusals.Memory gives reads answered memory = inr (faults.NotAllowed, gives)
called-refused means faults.BadBody close refusals.Memory gives reads answered memory = inr (faults.BadBody, gives)
called-refused means faults.BadNumber close refusals.Memory gives reads answered memory = inr (faults.BadNumber, gives)
called-refused means faults.BadSize close refusals.Memory gives reads answered memory = inr (faults.BadSize, gives)
called-refused means faults.SlavesRefused close refusals.Memory gives reads answered memory = inr (faults.SlavesRefused, gives)
called-refused means faults.MandatoryRefused close refusals.Memory gives reads answered memory = inr (faults.MandatoryRefused, gives)
called-refused means faults.BadKeyId close refusals.Memory gives reads answered memory = inr (faults.BadKeyId, gives)
called-refused means faults.BadKeyIds close refusals.Memory gives reads answered memory = inr (faults.BadKeyIds, gives)
called-refused means faults.UnknownResource close (refusals.Answer response) gives reads answered memory = (faults.UnknownResource, gives, answered)
called-refused means faults.MissingCaller close (refusals.Answer response) gives reads answered memory = (faults.MissingCaller, gives, answered)
called-refused means faults.NotAllowed close (refusals.Answer response) gives reads answered memory = (faults.NotAllowed, gives, answered)
called-refused means faults.BadBody close (refusals.Answer response) gives reads answered memory = (faults.BadBody, gives, answered)
called-refused means faults.BadNumber close (refusals.Answer response) gives reads answered memory = (faults.BadNumber, gives, answered)
called-refused means faults.BadSize close (refusals.Answer response) gives reads answered memory = (faults.BadSize, gives, answered)
called-refused means faults.SlavesRefused close (refusals.Answer response) gives reads answered memory = (faults.SlavesRefused, gives, answered)
called-refused means faults.MandatoryRefused close (refusals.Answer response) gives reads answered memory = (faults.MandatoryRefused, gives, answered)
called-refused means faults.BadKeyId close (refusals.Answer response) gives reads answered memory = (faults.BadKeyId, gives, answered)
called-refused means faults.BadKeyIds close (refusals.Answer response) gives reads answered memory = (faults.BadKeyIds, gives, answered)
