-- Conversations can be concatenated, and each call takes one from the budget.
use Rattle.std.proofs.Common.{◌≡◌, ℕ, ◌+◌, List, [], ◌∷◌, ◌++◌, map, length, refl, sym, ap, ◌∙◌, arith, append_assoc, length-append, eqb, Bool, true, false, if◌then◌else◌}
use Rattle.std.proofs.lemmas.List.{append-nil}
use Rattle.turnstile.specs.declared.machine.Machine.{Ghosts}
use Rattle.turnstile.specs.declared.turnstile.Turnstile.{Turnstile}
use Rattle.turnstile.specs.Names.{opening}
use Rattle.shared_objects.specs.declared.pass.Post.{Post}
use Rattle.shared_objects.specs.Seats.{calls_at, budget_at}
use Rattle.shared_objects.specs.Said.{Said, said_on}
use Rattle.shared_objects.specs.ScriptCalling.{HasSaid, HasCalled}

module _ {Q A : Type 0} where
  one_more : (b : Bool) (x : ℕ × (Q × A)) (xs ys : List (ℕ × (Q × A))) → (if b then x ∷ (xs ++ ys) else (xs ++ ys)) ≡ (if b then x ∷ xs else xs) ++ ys
  one_more true x xs ys = refl
  one_more false x xs ys = refl

  -- What two consecutive conversations said with one machine is the concatenation of what each said with it.
  pub said_behind : (i : ℕ) (xs ys : List (Said Q A)) → said_on i (xs ++ ys) ≡ said_on i xs ++ said_on i ys
  said_behind i [] ys = refl
  said_behind i (x ∷ xs) ys =
      ap (λ (zs : List (ℕ × (Q × A))). if eqb x.machine i then (x.place, (x.request, x.reply)) ∷ zs else zs) (said_behind i xs ys)
      ∙ one_more (eqb x.machine i) (x.place, (x.request, x.reply)) (said_on i xs) (said_on i ys)

module _ {M Q A C : Type 0} {g : Ghosts M Q A C} where
  -- Nothing was said.
  pub said_none : (posts : List (Post M Q A C g)) → HasSaid [] posts posts
  said_none posts = record { calls = λ i. sym (append-nil (calls_at i posts)); budget = λ i. omega arith }

  -- one conversation, and then another
  pub said_more : (xs ys : List (Said Q A)) (p q r : List (Post M Q A C g)) → HasSaid xs p q → HasSaid ys q r → HasSaid (xs ++ ys) p r
  said_more xs ys p q r h k = record {
    calls = λ i.
        k.calls i ∙ ap (λ (zs : List (ℕ × (Q × A))). zs ++ said_on i ys) (h.calls i) ∙ append_assoc (calls_at i p) (said_on i xs) (said_on i ys)
        ∙ ap (λ (zs : List (ℕ × (Q × A))). calls_at i p ++ zs) (sym (said_behind i xs ys));
    budget = λ i.
        let l = ap length (said_behind i xs ys) in
        omega (arith, h.budget i, k.budget i, l, length-append (said_on i xs) (said_on i ys));
  }

  pub called_none : (ts : List (Turnstile M Q A C)) (posts : List (Post M Q A C g)) → HasCalled [] ts posts ts posts
  called_none ts posts = record { same = refl; told = said_none posts }

  pub called_more : (xs ys : List (Said Q A)) (ts : List (Turnstile M Q A C)) (p : List (Post M Q A C g)) (us : List (Turnstile M Q A C)) (q : List (Post M Q A C g)) (vs : List (Turnstile M Q A C)) (r : List (Post M Q A C g)) →
      HasCalled xs ts p us q → HasCalled ys us q vs r → HasCalled (xs ++ ys) ts p vs r
  called_more xs ys ts p us q vs r h k = record { same = k.same ∙ h.same; told = said_more xs ys p q r h.told k.told }

  pub called_spends : (said : List (Said Q A)) (ts : List (Turnstile M Q A C)) (p : List (Post M Q A C g)) (us : List (Turnstile M Q A C)) (q : List (Post M Q A C g)) → HasCalled said ts p us q →
      (map opening us ≡ map opening ts) × ((i : ℕ) → budget_at i q + length (said_on i said) ≡ budget_at i p)
  called_spends said ts p us q h = (ap (map opening) h.same, h.told.budget)
