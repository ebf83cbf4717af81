use Rattle.std.proofs.Common.{rules, ◌≡◌, ◌⊎◌, ◌≤◌, ◌∙◌, ℕ, Bool, true, false, List, [], ◌∷◌, length, slice_get, Some, eqb, if◌then◌else◌, refl, sym, subst, arith, inl, inr}
use Rattle.std.proofs.lemmas.Bool.Decides.{eqb_tells}
use Rattle.shared_objects.proofs.Zips.{item_at}
use Rattle.shared_objects.specs.Said.{said_on}
use Rattle.thread_tests.proofs.errands.TicketsErrandsSum.run.Goals as goal

-- no number is both
clash : (i : ℕ) → eqb 0 i ≡ true → eqb 1 i ≡ true → ⊥
clash i s t = by (eqb_tells 0 i) (eqb_tells 1 i)
  where
    by : ((eqb 0 i ≡ true) × (0 ≡ i)) ⊎ ((eqb 0 i ≡ false) × (0 ≡ i → ⊥)) → ((eqb 1 i ≡ true) × (1 ≡ i)) ⊎ ((eqb 1 i ≡ false) × (1 ≡ i → ⊥)) → ⊥
    by (inl (a, e)) (inl (b, f)) = absurd (omega (arith, e, f))
    by (inl (a, e)) (inr (b, f)) = let no_such = sym b ∙ t in cc
    by (inr (a, e)) other = let no_such = sym a ∙ s in cc

one_of : {X : Type 0} (s t : Bool) (x y : X) → (s ≡ true → t ≡ true → ⊥) → length (if s then x ∷ (if t then y ∷ [] else []) else (if t then y ∷ [] else [])) ≤ 1
one_of true true x y h = absurd (h refl refl)
one_of true false x y h = omega arith
one_of false true x y h = omega arith
one_of false false x y h = omega arith

-- no machine is called twice
few : (k l q r a b i : ℕ) → length (said_on i (record { machine = 0; place = k; request = q; reply = a } ∷ record { machine = 1; place = l; request = r; reply = b } ∷ [])) ≤ 1
few k l q r a b i = one_of (eqb 0 i) (eqb 1 i) (k, (q, a)) (l, (r, b)) (clash i)

pub call-ticket-requires-clause-taken : goal.call-ticket-requires-clause-taken
call-ticket-requires-clause-taken g c = let o = item_at (g.C.Calls.openings c.args.caller.now) 0 (omega (arith, c.requires.may.1)) in (o.0, o.1, tt)

pub call-requires-clause-taken : goal.call-requires-clause-taken
call-requires-clause-taken g c =
    let same = (g.met.C.Calls.spends _ _ _ c.call-ticket.ensures.went).0 in
    let o = item_at (g.C.Calls.openings c.args.caller.now) 1 (omega (arith, c.requires.may.1)) in
    (o.0, subst (λ (ms : List _). slice_get ms 1 ≡ Some o.0) (sym same) o.1, tt)

pub returns-clause-does : goal.returns-clause-does
returns-clause-does g c = (
  record { machine = 0; place = c.call-ticket.result.0; request = 1; reply = c.call-ticket.result.1 } ∷ record { machine = 1; place = c.call.result.0; request = c.call-ticket.result.1; reply = c.call.result.1 } ∷ [],
  (c.call-ticket.result.1, c.call.result.1, c.call-ticket.result.0, c.call.result.0, search rules, refl),
  g.met.C.Calls.onward _ _ _ _ _ c.call-ticket.ensures.went c.call.ensures.went,
  few c.call-ticket.result.0 c.call.result.0 1 c.call-ticket.result.1 c.call-ticket.result.1 c.call.result.1,
)
