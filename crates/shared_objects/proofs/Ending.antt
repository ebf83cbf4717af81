-- The machines after the workers are done.
use Rattle.std.proofs.Common.{◌≡◌, ℕ, zero, suc, ◌+◌, List, [], ◌∷◌, ◌++◌, map, reverse, length, take, drop, slice_get, Option, Some, refl, sym, ap, ap₂, subst, ◌∙◌, arith, length-append}
use Rattle.std.proofs.lemmas.List.{append-nil, length-map, length-reverse, reverse-append, reverse-reverse}
use Rattle.std.specs.List.{AllZip}
use Rattle.net_model.specs.BlockOrder.{IsMerge}
use Rattle.turnstile.specs.declared.machine.Machine.{Ghosts}
use Rattle.turnstile.specs.declared.turnstile.Turnstile.{Turnstile}
use Rattle.turnstile.specs.Names.{opening}
use Rattle.turnstile.specs.Views.{IsWhole}
use Rattle.turnstile.specs.Turns.{Leads}
use Rattle.shared_objects.specs.declared.pass.Post.{Post}
use Rattle.shared_objects.specs.declared.call.Call.{Call}
use Rattle.shared_objects.specs.Asked.{requests_on}
use Rattle.shared_objects.specs.Seats.{calls_at, EndAll, Closes, IsOpened, HoldsAll}
use Rattle.shared_objects.specs.Served.{HaveServed}
use Rattle.shared_objects.proofs.Zips.{zip_weaker, zip_same}
use Rattle.shared_objects.proofs.Opening.{fresh_none, opened_fresh}
use Rattle.shared_objects.proofs.Merging.{none_whole}

-- The reverse of `front ++ reverse back` is `back ++ reverse front`.
pub turned_round : {X : Type 0} (front back whole turned : List X) → whole ≡ front ++ reverse back → turned ≡ reverse whole → turned ≡ back ++ reverse front
turned_round {X} front back whole turned e r = r ∙ ap (λ (xs : List X). reverse xs) e ∙ reverse-append front (reverse back) ∙ ap (λ (xs : List X). xs ++ reverse front) (reverse-reverse back)

-- Writing a list over another of the same length leaves just that list.
refilled : {X : Type 0} (xs ys : List X) → length xs ≡ length ys → take (length ys) (xs ++ drop (length xs) ys) ≡ xs
refilled [] [] e = refl
refilled [] (y ∷ ys) e = absurd (omega (arith, e))
refilled (x ∷ xs) [] e = absurd (omega (arith, e))
refilled {X} (x ∷ xs) (y ∷ ys) e = ap (λ (zs : List X). x ∷ zs) (refilled xs ys (omega (arith, e)))

-- The machines that are left and those behind turnstiles are as many as there were at first.
pub as_many : {M Q A C : Type 0} (ts : List (Turnstile M Q A C)) (first left : List M) → map opening ts ++ reverse left ≡ reverse first → length left + length ts ≡ length first
as_many ts first left e = omega (arith, ap length e, length-append (map opening ts) (reverse left), length-map ts opening, length-reverse left, length-reverse first)

-- one machine, from before to after
pub record Ended {M Q A : Type 0} (turn : M → Q → A → M → Type 0) (calls : List (ℕ × (Q × A))) (m n : M) : Type 0 where
  pub log : List (Q × A)
  pub leads : Leads turn m log n
  pub whole : IsWhole calls log

module _ {M Q A C : Type 0} {g : Ghosts M Q A C} where
  module _ (calls : ℕ) where
    -- Before any call, the first seats hold all calls.
    pub opened_hold : (ts : List (Turnstile M Q A C)) (ps : List (Post M Q A C g)) → AllZip (IsOpened calls) ts ps → AllZip HoldsAll ts ps
    opened_hold = zip_weaker (IsOpened calls) HoldsAll (λ t p h. record { fits = h.fresh.fits; whole = omega (arith, h.fresh.budget, ap length h.fresh.none, h.all) })

    pub opened_unmade : (ts : List (Turnstile M Q A C)) (ps : List (Post M Q A C g)) → AllZip (IsOpened calls) ts ps → (i : ℕ) (log : List (Q × A)) → IsWhole (calls_at i ps) log → log ≡ []
    opened_unmade ts ps h i log whole = none_whole log (subst (λ (own : List (ℕ × (Q × A))). IsWhole own log) (fresh_none calls ts i ps (opened_fresh calls ts ps h)) whole)

    -- Writing a row over a kept row for the same turnstiles leaves just the new row.
    pub written_over : (ts : List (Turnstile M Q A C)) (ps qs : List (Post M Q A C g)) (n : ℕ) → AllZip (IsOpened calls) ts ps → AllZip HoldsAll ts qs → n ≡ length ps → take n (qs ++ drop (length qs) ps) ≡ qs
    written_over ts ps qs n h k e =
        ap (λ (m : ℕ). take m (qs ++ drop (length qs) ps)) e ∙ refilled qs ps (zip_same HoldsAll ts qs k ∙ sym (zip_same (IsOpened calls) ts ps h))

  module _ (turn : M → Q → A → M → Type 0) where
    -- If no machine was called, all machines are unchanged.
    unmade_end : (ts : List (Turnstile M Q A C)) (ps : List (Post M Q A C g)) (ended : List M) → EndAll turn ts ps ended → ((i : ℕ) (log : List (Q × A)) → IsWhole (calls_at i ps) log → log ≡ []) → ended ≡ map opening ts
    unmade_end [] [] [] h none = refl
    unmade_end [] [] (m ∷ ms) h none = absurd h
    unmade_end [] (p ∷ ps) ms h none = absurd h
    unmade_end (t ∷ ts) [] ms h none = absurd h
    unmade_end (t ∷ ts) (p ∷ ps) [] h none = absurd h
    unmade_end (t ∷ ts) (p ∷ ps) (m ∷ ms) h none =
        let same : opening t ≡ m = subst (λ (log : List (Q × A)). Leads turn (opening t) log m) (none 0 h.0.log h.0.whole) h.0.leads in
        ap₂ (λ (n : M) (ns : List M). n ∷ ns) (sym same) (unmade_end ts ps ms h.1 (λ i log w. none (suc i) log w))

    pub come_back : (ts : List (Turnstile M Q A C)) (ps : List (Post M Q A C g)) (first left after last : List M) → map opening ts ++ reverse left ≡ first → Closes turn ts ps left after → last ≡ reverse after →
        ((i : ℕ) (log : List (Q × A)) → IsWhole (calls_at i ps) log → log ≡ []) → last ≡ first
    come_back ts ps first left after last opened closed turned none =
        turned_round left closed.ended after last closed.behind turned ∙ ap (λ (ms : List M). ms ++ reverse left) (unmade_end ts ps closed.ended closed.ends none) ∙ opened

    pub ends_same : (ts : List (Turnstile M Q A C)) (ps : List (Post M Q A C g)) (ended : List M) → EndAll turn ts ps ended → length ended ≡ length ts
    ends_same [] [] [] h = refl
    ends_same [] [] (m ∷ ms) h = absurd h
    ends_same [] (p ∷ ps) ms h = absurd h
    ends_same (t ∷ ts) [] ms h = absurd h
    ends_same (t ∷ ts) (p ∷ ps) [] h = absurd h
    ends_same (t ∷ ts) (p ∷ ps) (m ∷ ms) h = ap suc (ends_same ts ps ms h.1)

    pub ended_at : (ts : List (Turnstile M Q A C)) (ps : List (Post M Q A C g)) (ended : List M) (i : ℕ) (m n : M) → EndAll turn ts ps ended → slice_get (map opening ts) i ≡ Some m → slice_get ended i ≡ Some n → Ended turn (calls_at i ps) m n
    ended_at [] [] [] i m n h e f = cc
    ended_at [] [] (k ∷ ks) i m n h e f = absurd h
    ended_at [] (p ∷ ps) ks i m n h e f = absurd h
    ended_at (t ∷ ts) [] ks i m n h e f = absurd h
    ended_at (t ∷ ts) (p ∷ ps) [] i m n h e f = absurd h
    ended_at (t ∷ ts) (p ∷ ps) (k ∷ ks) zero m n h e f =
        let b : opening t ≡ m = cc in
        let a : k ≡ n = cc in
        record { log = h.0.log; leads = subst (λ (s : M). Leads turn s h.0.log n) b (subst (λ (s : M). Leads turn (opening t) h.0.log s) a h.0.leads); whole = h.0.whole }
    ended_at (t ∷ ts) (p ∷ ps) (k ∷ ks) (suc i) m n h e f = ended_at ts ps ks i m n h.1 e f

    served_all : (ts : List (Turnstile M Q A C)) (ps : List (Post M Q A C g)) (ended : List M) (shifts : List (List (Option (Call Q)))) → EndAll turn ts ps ended →
        ((i : ℕ) (log : List (Q × A)) → IsWhole (calls_at i ps) log → IsMerge (map (requests_on i) shifts) (map (λ e. e.0) log)) → HaveServed turn shifts (map opening ts) ended
    served_all ts ps ended shifts ends merged = record {
      same = ends_same ts ps ended ends ∙ sym (length-map ts opening);
      each = λ i m n e f. let one = ended_at ts ps ended i m n ends e f in record { log = one.log; leads = one.leads; merged = merged i one.log one.whole };
    }

    pub have_served : (ts : List (Turnstile M Q A C)) (ps : List (Post M Q A C g)) (first left after last : List M) (shifts : List (List (Option (Call Q)))) → map opening ts ++ reverse left ≡ first → left ≡ [] →
        Closes turn ts ps left after → last ≡ reverse after →
        ((i : ℕ) (log : List (Q × A)) → IsWhole (calls_at i ps) log → IsMerge (map (requests_on i) shifts) (map (λ e. e.0) log)) → HaveServed turn shifts first last
    have_served ts ps first left after last shifts opened none closed turned merged =
        let was : map opening ts ≡ first = sym (append-nil (map opening ts)) ∙ ap (λ (ms : List M). map opening ts ++ reverse ms) (sym none) ∙ opened in
        let is : closed.ended ≡ last = sym (turned_round left closed.ended after last closed.behind turned ∙ ap (λ (ms : List M). closed.ended ++ reverse ms) none ∙ append-nil closed.ended) in
        subst (λ (ms : List M). HaveServed turn shifts ms last) was (subst (λ (ms : List M). HaveServed turn shifts (map opening ts) ms) is (served_all ts ps closed.ended shifts closed.ends merged))
