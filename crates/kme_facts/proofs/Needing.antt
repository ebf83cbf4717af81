-- Whether a fact is needed, by what is known of it.
use Rattle.std.proofs.Common.{◌≡◌, ℕ, Bool, true, false, ◌&&◌, ◌||◌, refl, sym, ◌∙◌, ap, subst, Option, Some, None}
use Rattle.std.specs.Prelude.{◌==◌, not, is_some, if◌then◌else◌, IfSome}
use Rattle.qkd_base.specs.Name.{Name, has}
use Rattle.qkd_base.specs.Route.{next_after}
use Rattle.net_model.specs.declared.fact.Fact.{Fact}
use Rattle.net_model.specs.Relay.{is_some_of}
use Rattle.net_model.specs.Table.{PartOf, part_of, name_of, route_of, origin, target, sae_at, was_handed}
use Rattle.net_model.specs.View.{View}
use Rattle.net_model.specs.Needed.{has_it, end_needs, is_needed}
use Rattle.relay_core.specs.Knowledge.{is_owed_by}
use Rattle.relay_core.proofs.Names.{eq_from, and_left, and_right}
use Rattle.kme_facts.specs.Needs.{is_needed_here, is_for, needs_at}

need_there : (v : View) (o : Option Fact) (f : Fact) → o ≡ Some f → needs_at v o ≡ (is_owed_by v.me v.acked f || is_needed_here v f)
unfolding is_needed
need_there v o f there = ap (needs_at v) there

owed_as : (v : View) (o : Option Fact) (f : Fact) (r b : Bool) → o ≡ Some f → IfSome o (λ g. r ≡ is_owed_by v.me v.acked g) → r ≡ b → is_owed_by v.me v.acked f ≡ b
owed_as v o f r b there is h = sym (subst (λ (x : Option Fact). IfSome x (λ g. r ≡ is_owed_by v.me v.acked g)) there is) ∙ h

-- a fact that is owed is needed
pub owed_needed : (v : View) (o : Option Fact) (f : Fact) (r : Bool) → o ≡ Some f → IfSome o (λ g. r ≡ is_owed_by v.me v.acked g) → r ≡ true → true ≡ needs_at v o
owed_needed v o f r there is h = sym (need_there v o f there ∙ ap (λ (b : Bool). b || is_needed_here v f) (owed_as v o f r true there is h))

here_needed : (v : View) (o : Option Fact) (f : Fact) (here : Bool) → o ≡ Some f → is_owed_by v.me v.acked f ≡ false → here ≡ is_needed_here v f → here ≡ needs_at v o
here_needed v o f here there free is = is ∙ sym (need_there v o f there ∙ ap (λ (b : Bool). b || is_needed_here v f) free)

-- a fact that isn't owed is needed exactly if an end needs it
pub unowed_needed : (v : View) (o : Option Fact) (f : Fact) (r here : Bool) → o ≡ Some f → IfSome o (λ g. r ≡ is_owed_by v.me v.acked g) → r ≡ false → here ≡ is_needed_here v f → here ≡ needs_at v o
unowed_needed v o f r here there is h = here_needed v o f here there (owed_as v o f r false there is h)

-- a fact that was acknowledged isn't owed
pub told_needed : (v : View) (o : Option Fact) (f : Fact) (here : Bool) → o ≡ Some f → IfSome o (λ g. has v.acked (name_of g) ≡ true) → here ≡ is_needed_here v f → here ≡ needs_at v o
told_needed v o f here there told =
    here_needed v o f here there
    (ap (λ (b : Bool). is_some (next_after (route_of f) v.me) && not b) (subst (λ (x : Option Fact). IfSome x (λ g. has v.acked (name_of g) ≡ true)) there told) ∙ never (is_some (next_after (route_of f) v.me)))
  where
    never : (b : Bool) → (b && false) ≡ false
    never true = refl
    never false = refl

-- an end no longer needs a key or chunk that its application has got

no_part : (o : Option PartOf) → not (is_some o) ≡ true → o ≡ None
no_part None h = refl
no_part (Some p) h = cc

got : (v : View) (n : Name) (sae : ℕ) (o : Option ℕ) → is_some_of o sae ≡ true → was_handed v.handed n sae ≡ true → not (has_it v n o) ≡ false
got v n sae None h handed = cc
got v n sae (Some m) h handed = ap (λ (k : ℕ). not (was_handed v.handed n k)) (eq_from m sae h) ∙ ap not handed

here_done : (v : View) (f : Fact) (sae : ℕ) → is_for v.me v.facts sae f ≡ true → was_handed v.handed (name_of f) sae ≡ true → is_needed_here v f ≡ false
here_done v f sae h handed =
    let none = no_part (part_of f) (and_left (not (is_some (part_of f))) (for_here (origin f == v.me) (target f == v.me)) h) in
    let is = and_right (not (is_some (part_of f))) (for_here (origin f == v.me) (target f == v.me)) h in
    ap (λ (o : Option PartOf). if origin f == v.me then end_needs v true f o else if target f == v.me then end_needs v false f o else false) none
    ∙ by (origin f == v.me) (target f == v.me) is
  where
    for_here : (a b : Bool) → Bool
    for_here a b = if a then is_some_of (sae_at v.facts true f) sae else (b && is_some_of (sae_at v.facts false f) sae)

    by : (a b : Bool) → (if a then is_some_of (sae_at v.facts true f) sae else (b && is_some_of (sae_at v.facts false f) sae)) ≡ true →
        (if a then end_needs v true f None else if b then end_needs v false f None else false) ≡ false
    by true b k = got v (name_of f) sae (sae_at v.facts true f) k handed
    by false true k = got v (name_of f) sae (sae_at v.facts false f) k handed
    by false false k = cc

handed_there : (v : View) (o : Option Fact) (f : Fact) (sae : ℕ) → o ≡ Some f → IfSome o (λ g. was_handed v.handed (name_of g) sae ≡ true) → was_handed v.handed (name_of f) sae ≡ true
handed_there v o f sae there given = subst (λ (x : Option Fact). IfSome x (λ g. was_handed v.handed (name_of g) sae ≡ true)) there given

pub given_unneeded : (v : View) (o : Option Fact) (f : Fact) (sae : ℕ) (r gets : Bool) → o ≡ Some f → IfSome o (λ g. r ≡ is_owed_by v.me v.acked g) → r ≡ false →
    IfSome o (λ g. was_handed v.handed (name_of g) sae ≡ true) → gets ≡ is_for v.me v.facts sae f → gets ≡ true → false ≡ needs_at v o
given_unneeded v o f sae r gets there is h given for k =
    unowed_needed v o f r false there is h (sym (here_done v f sae (sym for ∙ k) (handed_there v o f sae there given)))
