use Rattle.std.proofs.Common.{◌≡◌, true, false, refl, sym, rules, subst}
use Rattle.std.proofs.lemmas.Option.{MatchOption-at_some, MatchOption-at_none}
use Rattle.tag_bound.specs.Keys.{IsFirstRepeat, AreDistinct}
use Rattle.tag_bound.specs.Differences.{AreCompared}
use Rattle.tag_bound.proofs.Seen.{only_first}
use Rattle.tag_bound.proofs.roots.roots_among.Goals as goal

pub returns-in-Some-clause-repeated : goal.returns-in-Some-clause-repeated
returns-in-Some-clause-repeated c place =
    let compared : AreCompared c.args.a.now c.args.b.now = search rules in
    let first : IsFirstRepeat c.args.keys.now c.in-Some.place =
    subst (λ keys. IsFirstRepeat keys c.in-Some.place) c.as_slice.ensures
    (MatchOption-at_some (AreDistinct c.as_slice.result.now) (λ found. IsFirstRepeat c.as_slice.result.now found) c.in-Some.place c.in-Some.is c.in_ok-place.ensures.first) in
    (λ e. (compared, subst (λ p. IsFirstRepeat c.args.keys.now p) (cc) first, λ m. (cc)), λ h. let same : c.in-Some.place ≡ place = only_first c.args.keys.now c.in-Some.place place first h.1 in (cc))

pub returns-in-Some-clause-counted : goal.returns-in-Some-clause-counted
returns-in-Some-clause-counted c =
    let first : IsFirstRepeat c.args.keys.now c.in-Some.place =
    subst (λ keys. IsFirstRepeat keys c.in-Some.place) c.as_slice.ensures
    (MatchOption-at_some (AreDistinct c.as_slice.result.now) (λ found. IsFirstRepeat c.as_slice.result.now found) c.in-Some.place c.in-Some.is c.in_ok-place.ensures.first) in
    (λ e. absurd (let none : false ≡ true = e in (cc)), λ h. absurd (h.1 c.in-Some.place first.0))

pub count-requires-clause-keys : goal.count-requires-clause-keys
count-requires-clause-keys c =
    let distinct : AreDistinct c.args.keys.now = subst (λ keys. AreDistinct keys) c.as_slice.ensures
    (MatchOption-at_none (AreDistinct c.as_slice.result.now) (λ found. IsFirstRepeat c.as_slice.result.now found) c.in_default.is c.in_ok-place.ensures.first) in
    subst (λ keys. AreDistinct keys) (sym c.as_slice-2.ensures) distinct

pub returns-clause-repeated : goal.returns-clause-repeated
returns-clause-repeated c place =
    let distinct : AreDistinct c.args.keys.now = subst (λ keys. AreDistinct keys) c.as_slice.ensures
    (MatchOption-at_none (AreDistinct c.as_slice.result.now) (λ found. IsFirstRepeat c.as_slice.result.now found) c.in_default.is c.in_ok-place.ensures.first) in
    (λ e. absurd (let none : ⊥ = cc in none), λ h. absurd (distinct place h.1.0))

pub returns-clause-counted : goal.returns-clause-counted
returns-clause-counted c =
    let compared : AreCompared c.args.a.now c.args.b.now = search rules in
    let distinct : AreDistinct c.args.keys.now = subst (λ keys. AreDistinct keys) c.as_slice.ensures
    (MatchOption-at_none (AreDistinct c.as_slice.result.now) (λ found. IsFirstRepeat c.as_slice.result.now found) c.in_default.is c.in_ok-place.ensures.first) in
    (λ e. (compared, distinct, λ m. (cc)), λ h. refl)
