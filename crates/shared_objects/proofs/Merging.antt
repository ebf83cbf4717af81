-- What the workers did, put together machine by machine.
use Rattle.std.proofs.Common.{◌≡◌, ℕ, zero, suc, ◌+◌, ◌*◌, Bool, true, false, List, [], ◌∷◌, ◌++◌, map, length, Result, Ok, Err, IfOk, IfErr, is_ok, Option, refl, ap, ap₂, subst, ◌∙◌, arith, length-append}
use Rattle.std.specs.List.{AllZip, AllByRecursion, flat_map, sum_by}
use Rattle.std.proofs.lemmas.List.Sums.{sum_by-cons}
use Rattle.net_model.specs.BlockOrder.{IsMerge}
use Rattle.turnstile.specs.declared.machine.Machine.{Ghosts}
use Rattle.turnstile.specs.declared.turnstile.Turnstile.{Turnstile}
use Rattle.turnstile.specs.Views.{IsWhole, once_below}
use Rattle.turnstile.proofs.Totals.{once_yes}
use Rattle.shared_objects.specs.Rising.{Rises, entries, together}
use Rattle.shared_objects.proofs.CallMerge.{calls_merge}
use Rattle.shared_objects.proofs.Mapping.{merge_map}
use Rattle.shared_objects.specs.declared.pass.Post.{Post}
use Rattle.shared_objects.specs.declared.call.Call.{Call}
use Rattle.shared_objects.specs.Asked.{requests_on}
use Rattle.shared_objects.specs.Seats.{calls_at, budget_at, Belongs, Sits}
use Rattle.shared_objects.specs.Shares.{share_of, HasWorked}
use Rattle.shared_objects.proofs.Zips.{zip_weaker, zip_each}

-- what is known of a result, by whether it is `Ok`
pub when_ok : {T E : Type 0} (r : Result T E) (D : Bool → Type 0) (B : Type 0) → (D true → B) → D (is_ok r) → IfOk r (λ x. B)
when_ok (Ok x) D B f d = f d
when_ok (Err e) D B f d = tt

pub when_err : {T E : Type 0} (r : Result T E) (D : Bool → Type 0) (B : Type 0) → (D false → B) → D (is_ok r) → IfErr r (λ x. B)
when_err (Ok x) D B f d = tt
when_err (Err e) D B f d = f d

pub map_twice : {X Y Z : Type 0} (f : X → Y) (h : Y → Z) (xs : List X) → map h (map f xs) ≡ map (λ x. h (f x)) xs
map_twice f h [] = refl
map_twice {X} {Y} {Z} f h (x ∷ xs) = ap (λ (zs : List Z). h (f x) ∷ zs) (map_twice f h xs)

pub flat_together : {X Y : Type 0} (f : X → List Y) (xs : List X) → flat_map f xs ≡ together (map f xs)
flat_together f [] = refl
flat_together {X} {Y} f (x ∷ xs) = ap (λ (ys : List Y). f x ++ ys) (flat_together f xs)

pub no_requests : {X Y : Type 0} (f : X → Y) (xs : List X) → map f xs ≡ [] → xs ≡ []
no_requests f [] h = refl
no_requests f (x ∷ xs) h = cc

-- If no calls are all calls of a history, the history is empty.
pub none_whole : {E : Type 0} (log : List E) → IsWhole [] log → log ≡ []
none_whole [] h = refl
none_whole (e ∷ es) h = let z : 0 ≡ once_below 0 (suc (length es)) = h.1 0 in absurd (omega (arith, z, once_yes 0 (suc (length es)) (omega arith)))

module _ {M Q A C : Type 0} {g : Ghosts M Q A C} where
  -- In each place of a row, the places of the seat's calls rise. Past the end of the row there are no calls.
  pub rising_at : (ts : List (Turnstile M Q A C)) (i : ℕ) (posts : List (Post M Q A C g)) → AllZip Sits ts posts → Rises (calls_at i posts)
  rising_at [] i [] h = tt
  rising_at [] i (p ∷ ps) h = absurd h
  rising_at (t ∷ ts) i [] h = absurd h
  rising_at (t ∷ ts) zero (p ∷ ps) h = h.0.rises
  rising_at (t ∷ ts) (suc i) (p ∷ ps) h = rising_at ts i ps h.1

  module _ (ts : List (Turnstile M Q A C)) {P : Type 0} (posts : P → List (Post M Q A C g)) (shift : P → List (Option (Call Q))) where
    abbrev pub Did : Bool → P → P → Type 0
    Did well p q = HasWorked ts well (posts p) (shift p) (posts q)

    pub all_belong : (well : Bool) (ps qs : List P) → AllZip (Did well) ps qs → AllByRecursion (λ q. AllZip Belongs ts (posts q)) qs
    all_belong well = zip_each (Did well) (λ q. AllZip Belongs ts (posts q)) (λ p q h. zip_weaker Sits Belongs (λ t s k. k.fits) ts (posts q) h.sits)

    all_rise : (well : Bool) (i : ℕ) (ps qs : List P) → AllZip (Did well) ps qs → AllByRecursion Rises (map (λ q. calls_at i (posts q)) qs)
    all_rise well i [] [] h = tt
    all_rise well i [] (q ∷ qs) h = absurd h
    all_rise well i (p ∷ ps) [] h = absurd h
    all_rise well i (p ∷ ps) (q ∷ qs) h = (rising_at ts i (posts q) h.0.sits, all_rise well i ps qs h.1)

    -- The calls that the workers made and those that they have left add up to all their budgets.
    pub shares_all : (well : Bool) (i n : ℕ) (ps qs : List P) → AllZip (Did well) ps qs → AllByRecursion (λ p. share_of i (posts p) ≡ n) ps →
        sum_by (λ q. budget_at i (posts q)) qs + length (flat_map (λ q. calls_at i (posts q)) qs) ≡ length ps * n
    shares_all well i n [] [] h s = omega arith
    shares_all well i n [] (q ∷ qs) h s = absurd h
    shares_all well i n (p ∷ ps) [] h s = absurd h
    shares_all well i n (p ∷ ps) (q ∷ qs) h s =
        let rest = shares_all well i n ps qs h.1 s.1 in
        let b = sum_by-cons (λ q. budget_at i (posts q)) q qs in
        let l = length-append (calls_at i (posts q)) (flat_map (λ q. calls_at i (posts q)) qs) in
        let w = h.0.shares i in
        omega (arith, rest, b, l, w, s.0)

    -- If all went well, the requests of a machine's calls are those in the shifts.
    requests_all : (i : ℕ) (ps qs : List P) → AllZip (Did true) ps qs → AllByRecursion (λ p. calls_at i (posts p) ≡ []) ps →
        map (map (λ (e : Q × A). e.0)) (map entries (map (λ q. calls_at i (posts q)) qs)) ≡ map (λ p. requests_on i (shift p)) ps
    requests_all i [] [] h none = refl
    requests_all i [] (q ∷ qs) h none = absurd h
    requests_all i (p ∷ ps) [] h none = absurd h
    requests_all i (p ∷ ps) (q ∷ qs) h none =
        ap₂ (λ (xs : List Q) (rest : List (List Q)). xs ∷ rest)
        (map_twice (λ (c : ℕ × (Q × A)). c.1) (λ (e : Q × A). e.0) (calls_at i (posts q)) ∙ h.0.asked i ∙ ap (λ (own : List (ℕ × (Q × A))). map (λ c. c.1.0) own ++ requests_on i (shift p)) none.0)
        (requests_all i ps qs h.1 none.1)

    pub merged_all : (i : ℕ) (ps qs : List P) (log : List (Q × A)) → AllZip (Did true) ps qs → AllByRecursion (λ p. calls_at i (posts p) ≡ []) ps →
        IsWhole (flat_map (λ q. calls_at i (posts q)) qs) log → IsMerge (map (λ p. requests_on i (shift p)) ps) (map (λ e. e.0) log)
    merged_all i ps qs log h none whole =
        subst (λ (parts : List (List Q)). IsMerge parts (map (λ (e : Q × A). e.0) log)) (requests_all i ps qs h none)
        (merge_map (λ (e : Q × A). e.0)
        (calls_merge (map (λ q. calls_at i (posts q)) qs) log (all_rise true i ps qs h)
        (subst (λ (own : List (ℕ × (Q × A))). IsWhole own log) (flat_together (λ q. calls_at i (posts q)) qs) whole)))

    -- If memory ran out, there are no calls.
    none_made : (i : ℕ) (ps qs : List P) → AllZip (Did false) ps qs → AllByRecursion (λ p. calls_at i (posts p) ≡ []) ps → flat_map (λ q. calls_at i (posts q)) qs ≡ []
    none_made i [] [] h none = refl
    none_made i [] (q ∷ qs) h none = absurd h
    none_made i (p ∷ ps) [] h none = absurd h
    none_made i (p ∷ ps) (q ∷ qs) h none =
        let own : calls_at i (posts q) ≡ [] = no_requests (λ (c : ℕ × (Q × A)). c.1.0) (calls_at i (posts q)) (h.0.asked i ∙ ap (λ (own : List (ℕ × (Q × A))). map (λ c. c.1.0) own ++ []) none.0) in
        ap₂ (λ (xs ys : List (ℕ × (Q × A))). xs ++ ys) own (none_made i ps qs h.1 none.1)

    pub unmade_all : (i : ℕ) (ps qs : List P) (log : List (Q × A)) → AllZip (Did false) ps qs → AllByRecursion (λ p. calls_at i (posts p) ≡ []) ps →
        IsWhole (flat_map (λ q. calls_at i (posts q)) qs) log → log ≡ []
    unmade_all i ps qs log h none whole = none_whole log (subst (λ (own : List (ℕ × (Q × A))). IsWhole own log) (none_made i ps qs h none) whole)
