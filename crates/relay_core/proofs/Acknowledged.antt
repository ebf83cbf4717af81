-- Lemmas on acknowledged facts: how to tell them from the facts that are owed.
use Rattle.std.proofs.Common.{◌≡◌, ℕ, Bool, true, false, ◌&&◌, List, refl, sym, ◌∙◌, ap, subst, Option, Some, None}
use Rattle.std.specs.Prelude.{slice_get, is_some, not, IfSome, if◌then◌else◌}
use Rattle.qkd_base.specs.Name.{Name, name_eq, has}
use Rattle.qkd_base.specs.Route.{next_after}
use Rattle.net_model.specs.declared.fact.Fact.{Fact}
use Rattle.net_model.specs.Table.{name_of, route_of, has_fact}
use Rattle.net_model.specs.Relay.{is_some_of}
use Rattle.relay_core.specs.Firsts.{IsFirstFrom, IsNoneFrom}
use Rattle.relay_core.specs.declared.group.Group.TheVariants.{OwedTo}
use Rattle.relay_core.specs.Index.{belongs_at, creditor_of}
use Rattle.relay_core.proofs.Firsts.{not_true, none_find}
use Rattle.relay_core.proofs.Names.{eq_same, name_eq_from}

-- A name of which no fact is known isn't acknowledged.
pub unknown_unacked : (facts : List Fact) (acked : List Name) (n : Name) → ((m : Name) → has acked m ≡ true → has_fact facts m ≡ true) → IsNoneFrom (λ f. name_eq (name_of f) n) facts 0 → false ≡ has acked n
unknown_unacked facts acked n known none =
    sym (not_true (has acked n) (λ h.
    let t : true ≡ false = sym (known n h) ∙ ap is_some (none_find (λ f. name_eq (name_of f) n) facts none) in
    let u : ⊥ = cc in u))

pub named_acked : (facts : List Fact) (acked : List Name) (n : Name) (place : ℕ) (r : Bool) → IsFirstFrom (λ f. name_eq (name_of f) n) facts 0 place →
    IfSome (slice_get facts place) (λ f. r ≡ has acked (name_of f)) → r ≡ has acked n
named_acked facts acked n place r first h =
    subst (λ (o : Option Fact). IfSome o (λ f. r ≡ has acked (name_of f))) first.there h
    ∙ ap (has acked) (name_eq_from (name_of first.item) n first.passes)

-- A fact whose route ends at this node is never acknowledged.
pub ended_unacked : (me : ℕ) (facts : List Fact) (acked : List Name) (place : ℕ) (f : Fact) →
    ((i : ℕ) (g : Fact) → slice_get facts i ≡ Some g → has acked (name_of g) ≡ true → is_some (next_after (route_of g) me) ≡ true) →
    slice_get facts place ≡ Some f → next_after (route_of f) me ≡ None → IfSome (slice_get facts place) (λ g. false ≡ has acked (name_of g))
ended_unacked me facts acked place f told there next =
    subst (λ (o : Option Fact). IfSome o (λ g. false ≡ has acked (name_of g))) (sym there)
    (sym (not_true (has acked (name_of f)) (λ h.
    let t : true ≡ false = sym (told place f there h) ∙ ap is_some next in
    let u : ⊥ = cc in u)))

-- Whether the fact at a place is owed to the next node of its route says whether that node has acknowledged it.

not_not : (b : Bool) → not (not b) ≡ b
not_not true = refl
not_not false = refl

owed_here : (me : ℕ) (facts : List Fact) (acked : List Name) (place to : ℕ) (f : Fact) (r : Bool) → slice_get facts place ≡ Some f → next_after (route_of f) me ≡ Some to →
    r ≡ belongs_at me acked (OwedTo to) (slice_get facts place) → r ≡ not (has acked (name_of f))
owed_here me facts acked place to f r there next is =
    is ∙ ap (belongs_at me acked (OwedTo to)) there
    ∙ ap (λ (o : Option ℕ). is_some_of o to && not (has acked (name_of f))) next ∙ ap (λ (b : Bool). b && not (has acked (name_of f))) (eq_same to)

pub told_acked : (me : ℕ) (facts : List Fact) (acked : List Name) (place to : ℕ) (f : Fact) (r : Bool) → slice_get facts place ≡ Some f → next_after (route_of f) me ≡ Some to →
    r ≡ belongs_at me acked (OwedTo to) (slice_get facts place) → IfSome (slice_get facts place) (λ g. not r ≡ has acked (name_of g))
told_acked me facts acked place to f r there next is =
    subst (λ (x : Option Fact). IfSome x (λ g. not r ≡ has acked (name_of g))) (sym there)
    (ap not (owed_here me facts acked place to f r there next is) ∙ not_not (has acked (name_of f)))

-- An acknowledged fact is owed to nobody.
pub unowed_creditor : (me : ℕ) (facts : List Fact) (acked : List Name) (place to : ℕ) (f : Fact) (r : Bool) → slice_get facts place ≡ Some f → next_after (route_of f) me ≡ Some to →
    r ≡ belongs_at me acked (OwedTo to) (slice_get facts place) → r ≡ false → None ≡ creditor_of me acked (slice_get facts place)
unowed_creditor me facts acked place to f r there next is false_is =
    let told : has acked (name_of f) ≡ true = sym (not_not (has acked (name_of f))) ∙ ap not (sym (owed_here me facts acked place to f r there next is) ∙ false_is) in
    sym (ap (creditor_of me acked) there ∙ ap (λ (x : Bool). if x then None else next_after (route_of f) me) told)
