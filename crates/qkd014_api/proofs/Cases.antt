-- What a request asks for, by its resource and its method.
use Rattle.std.proofs.Common.{◌≡◌, ◌<◌, ℕ, Bool, true, false, ◌&&◌, List, length, Some, Ok, refl, subst, codes}
use Rattle.std.specs.Prelude.{nat_lt, ok_or}
use Rattle.std.specs.Option.{option_and_then}
use Rattle.std.specs.Str.{bytes_eq}
use Rattle.std.proofs.lemmas.Bool.{ltb-true}
use Rattle.net_model.specs.declared.event.Event.{Event}
use Rattle.net_model.specs.declared.event.Event.TheVariants as events
use Rattle.sae_entitlements.specs.Grants.{Grants, home_of, is_allowed}
use Rattle.http_front.specs.declared.request.HttpRequest.{HttpRequest}
use Rattle.http_front.specs.Fields.{values_of, only_of}
use Rattle.qkd014_api.specs.Resources.{path_in, query_in, sae_part, resource_at}
use Rattle.qkd014_api.specs.Calls.{sae_of, roles, at_home, pair_of, enc_by_query, enc_by_body, dec_by_query, dec_by_body, event_for, asked}
use Rattle.qkd014_api.specs.declared.resource.Resource.{Resource}
use Rattle.qkd014_api.specs.declared.resource.Resource.TheVariants.{Status, EncKeys, DecKeys}
use Rattle.qkd014_api.specs.declared.fault.CallFault.TheVariants as faults
use Rattle.qkd014_api.proofs.Chains.{same_ok, gives, is_told, then_some, guarded}

pub data AsksFor (g : Grants) (q : HttpRequest) (master slave : ℕ) (event : Event) : Type 0 where
  status : events.Status master slave ≡ event → AsksFor g q master slave event
  enc_query : enc_by_query (query_in q.target) master slave ≡ Ok event → AsksFor g q master slave event
  enc_body : enc_by_body g q.body master slave ≡ Ok event → AsksFor g q master slave event
  dec_query : dec_by_query (query_in q.target) master slave ≡ Ok event → AsksFor g q master slave event
  dec_body : dec_by_body q.body master slave ≡ Ok event → AsksFor g q master slave event

by_resource : (g : Grants) (resource : Resource) (posts : Bool) (q : HttpRequest) (master slave : ℕ) (event : Event) → event_for g resource posts q master slave ≡ Ok event → AsksFor g q master slave event
by_resource g Status posts q master slave event e = status (same_ok (events.Status master slave) event e)
by_resource g EncKeys false q master slave event e = enc_query e
by_resource g EncKeys true q master slave event e = enc_body e
by_resource g DecKeys false q master slave event e = dec_query e
by_resource g DecKeys true q master slave event e = dec_body e

slave_within : (g : Grants) (node : ℕ) (resource : Resource) (caller other : List ℕ) (pair : ℕ × ℕ) → pair_of g node resource caller other ≡ Some pair → pair.1 < length g.saes
slave_within g node resource caller other pair e =
    let c = then_some _ (option_and_then (λ (c : ℕ). option_and_then (at_home node c) (home_of g c)) (sae_of g caller)) pair e in
    let o = then_some _ (sae_of g other) pair c.2 in
    let p = roles resource c.0 o.0 in
    let h = guarded (nat_lt p.0 (length g.saes) && nat_lt p.1 (length g.saes) && is_allowed g p.0 p.1) p pair o.2 in
    subst (λ (q : ℕ × ℕ). q.1 < length g.saes) h.1 (ltb-true p.1 (length g.saes) (middle (nat_lt p.0 (length g.saes)) (nat_lt p.1 (length g.saes)) (is_allowed g p.0 p.1) h.0))
  where
    middle : (a b c : Bool) → (a && b && c) ≡ true → b ≡ true
    middle true true c e = refl
    middle true false true e = absurd cc
    middle true false false e = absurd cc
    middle false true true e = absurd cc
    middle false true false e = absurd cc
    middle false false true e = absurd cc
    middle false false false e = absurd cc

-- The slave of an event that a request asks for is one of the applications.
pub asks_for : (g : Grants) (node : ℕ) (q : HttpRequest) (event : Event) → asked g node q ≡ Ok event → (master : ℕ) × (slave : ℕ) × (slave < length g.saes) × AsksFor g q master slave event
unfolding asked
asks_for g node q event e =
    let resource = gives (ok_or (resource_at (path_in q.target) q.method) faults.UnknownResource) _ event e in
    let caller = gives (ok_or (only_of (values_of (codes "x-sae-id") q.fields)) faults.MissingCaller) _ event resource.2 in
    let other = sae_part (path_in q.target) resource.0 in
    let pair = gives (ok_or (pair_of g node resource.0 caller.0 (sae_part (path_in q.target) resource.0)) faults.NotAllowed) _ event caller.2 in (
      pair.0.0,
      pair.0.1,
      slave_within g node resource.0 caller.0 other pair.0 (is_told (pair_of g node resource.0 caller.0 other) faults.NotAllowed pair.0 pair.1),
      by_resource g resource.0 (bytes_eq q.method (codes "POST")) q pair.0.0 pair.0.1 event pair.2,
    )
