-- The slaves of a group that a request asks for: different ones, in order of number.
use Rattle.std.proofs.Common.{◌≡◌, ◌≤◌, ◌<◌, ◌≢◌, ℕ, zero, suc, ◌+◌, Bool, true, false, ◌&&◌, ◌||◌, eqb, List, [], ◌∷◌, ◌++◌, length, Option, Some, None, Ok, refl, sym, ap, ◌∙◌, subst, arith, length-append, append-nil, codes}
use Rattle.std.specs.Prelude.{if◌then◌else◌, nat_lt, nat_le}
use Rattle.std.specs.List.{position_from}
use Rattle.std.specs.Option.{option_and_then}
use Rattle.std.specs.Str.{bytes_eq}
use Rattle.std.proofs.lemmas.Bool.{and_parts, and_from, or_parts, ne_eqb, lt-ltb, le-leb, ltb-false, eqb-true, eqb-false}
use Rattle.std.proofs.lemmas.List.Folds.{list_any-append}
use Rattle.serde_json.specs.Data.{Data, Items, no_items, item}
use Rattle.serde_json.specs.Find.{get, as_str, as_array}
use Rattle.net_model.specs.Events.{is_rising, are_slaves}
use Rattle.sae_entitlements.specs.Grants.{Sae, Grants, find_sae}
use Rattle.qkd014_api.specs.Bodies.{is_among, new_slave, another, chosen, chosen_of, slaves_in}
use Rattle.qkd014_api.specs.Calls.{ordered_below}
use Rattle.qkd014_api.specs.declared.fault.CallFault.TheVariants as faults
use Rattle.qkd014_api.proofs.Chains.{same_some, is_told, then_some, excluded}

-- ---- the numbers of applications that are found

found_step : (b : Bool) (i n v : ℕ) (o : Option ℕ) → (o ≡ Some v → v < (i + 1) + n) → (if b then Some i else o) ≡ Some v → v < i + suc n
found_step true i n v o later e = let same = same_some i v e in omega (arith, same)
found_step false i n v o later e = let less = later e in omega (arith, less)

found_within : {X : Type 0} (test : X → Bool) (i : ℕ) (xs : List X) (v : ℕ) → position_from test i xs ≡ Some v → v < i + length xs
found_within test i [] v e = absurd cc
found_within test i (x ∷ xs) v e = found_step (test x) i (length xs) v (position_from test (i + 1) xs) (found_within test (i + 1) xs v) e

pub sae_within : (saes : List Sae) (id : List ℕ) (n : ℕ) → find_sae saes id ≡ Some n → n < length saes
sae_within saes id n e = let less = found_within (λ (s : Sae). bytes_eq s.id id) 0 saes n e in omega (arith, less)

-- ---- the chosen numbers below a bound, in order

abbrev one_if : Bool → ℕ → List ℕ
one_if b n = if b then n ∷ [] else []

ordered_next : (n : ℕ) (ss : List ℕ) → ordered_below (suc n) ss ≡ ordered_below n ss ++ one_if (is_among ss n) n
unfolding ordered_below
ordered_next n ss = refl

ordered_none : (ss : List ℕ) → ordered_below zero ss ≡ []
unfolding ordered_below
ordered_none ss = refl

long_if : (b : Bool) (n : ℕ) → length (one_if b n) ≡ (if b then 1 else 0)
long_if true n = refl
long_if false n = refl

long_next : (n : ℕ) (ss : List ℕ) → length (ordered_below (suc n) ss) ≡ length (ordered_below n ss) + (if is_among ss n then 1 else 0)
long_next n ss =
    ap length (ordered_next n ss) ∙ length-append (ordered_below n ss) (one_if (is_among ss n) n)
    ∙ ap (λ (k : ℕ). length (ordered_below n ss) + k) (long_if (is_among ss n) n)

or_none : (b : Bool) → (b || false) ≡ b
or_none true = refl
or_none false = refl

or_true : (b : Bool) → (b || true) ≡ true
or_true true = refl
or_true false = refl

among_push : (ss : List ℕ) (s n : ℕ) → is_among (ss ++ s ∷ []) n ≡ (is_among ss n || eqb s n)
among_push ss s n = list_any-append (λ k. eqb k n) ss (s ∷ []) ∙ ap (λ (b : Bool). is_among ss n || b) (or_none (eqb s n))

-- A number that isn't below n adds nothing to the chosen numbers below n.
long_past : (n s : ℕ) (ss : List ℕ) → n ≤ s → length (ordered_below n (ss ++ s ∷ [])) ≡ length (ordered_below n ss)
long_past zero s ss past = ap length (ordered_none (ss ++ s ∷ []) ∙ sym (ordered_none ss))
long_past (suc n) s ss past =
    let other : eqb s n ≡ false = ne_eqb s n (λ e. omega (arith, e, past)) in
    let lower = long_past n s ss (omega (arith, past)) in
    let among : is_among (ss ++ s ∷ []) n ≡ is_among ss n = among_push ss s n ∙ ap (λ (b : Bool). is_among ss n || b) other ∙ or_none (is_among ss n) in
    long_next n (ss ++ s ∷ []) ∙ ap (λ (b : Bool). length (ordered_below n (ss ++ s ∷ [])) + (if b then 1 else 0)) among
    ∙ ap (λ (k : ℕ). k + (if is_among ss n then 1 else 0)) lower ∙ sym (long_next n ss)

below : (s n : ℕ) → s < suc n → s ≢ n → s < n
below s n less other = omega (arith, less, other)

push_last : (b : Bool) (n s : ℕ) (ss : List ℕ) → s < suc n → is_among ss s ≡ false → eqb s n ≡ b →
    (s < n → length (ordered_below n (ss ++ s ∷ [])) ≡ length (ordered_below n ss) + 1) → length (ordered_below (suc n) (ss ++ s ∷ [])) ≡ length (ordered_below (suc n) ss) + 1
push_last true n s ss less new is again =
    let same = eqb-true s n is in
    let now : is_among (ss ++ s ∷ []) n ≡ true = among_push ss s n ∙ ap (λ (b : Bool). is_among ss n || b) is ∙ or_true (is_among ss n) in
    let before : is_among ss n ≡ false = ap (is_among ss) (sym same) ∙ new in
    let lower = long_past n s ss (omega (arith, same)) in
    let a = long_next n (ss ++ s ∷ []) ∙ ap (λ (b : Bool). length (ordered_below n (ss ++ s ∷ [])) + (if b then 1 else 0)) now in
    let c = long_next n ss ∙ ap (λ (b : Bool). length (ordered_below n ss) + (if b then 1 else 0)) before in
    omega (arith, a, c, lower)
push_last false n s ss less new is again =
    let lower = again (below s n less (eqb-false s n is)) in
    let among : is_among (ss ++ s ∷ []) n ≡ is_among ss n = among_push ss s n ∙ ap (λ (b : Bool). is_among ss n || b) is ∙ or_none (is_among ss n) in
    let a = long_next n (ss ++ s ∷ []) ∙ ap (λ (b : Bool). length (ordered_below n (ss ++ s ∷ [])) + (if b then 1 else 0)) among in
    let c = long_next n ss in
    omega (arith, a, c, lower)

-- A new number below n adds one to the chosen numbers below n.
long_push : (n s : ℕ) (ss : List ℕ) → s < n → is_among ss s ≡ false → length (ordered_below n (ss ++ s ∷ [])) ≡ length (ordered_below n ss) + 1
long_push zero s ss less new = absurd (omega (arith, less))
long_push (suc n) s ss less new = push_last (eqb s n) n s ss less new refl (λ lower. long_push n s ss lower new)

-- ---- the chosen numbers rise

-- Each number is below n.
abbrev all_below : ℕ → List ℕ → Type 0
all_below n [] = Unit {0}
all_below n (s ∷ ss) = (s < n) × all_below n ss

below_next : (n : ℕ) (ss : List ℕ) → all_below n ss → all_below (suc n) ss
below_next n [] h = tt
below_next n (s ∷ ss) h = let less = h.0 in (omega (arith, less), below_next n ss h.1)

below_push : (n : ℕ) (ss : List ℕ) → all_below n ss → all_below (suc n) (ss ++ n ∷ [])
below_push n [] h = (omega arith, tt)
below_push n (s ∷ ss) h = let less = h.0 in (omega (arith, less), below_push n ss h.1)

rising_push : (n : ℕ) (ss : List ℕ) → all_below n ss → is_rising ss ≡ true → is_rising (ss ++ n ∷ []) ≡ true
rising_push n [] h rises = refl
rising_push n (s ∷ []) h rises = and_from (nat_lt s n) true (lt-ltb s n h.0) refl
rising_push n (s ∷ t ∷ ss) h rises =
    let parts = and_parts (nat_lt s t) (is_rising (t ∷ ss)) rises in
    and_from (nat_lt s t) (is_rising ((t ∷ ss) ++ n ∷ [])) parts.0 (rising_push n (t ∷ ss) h.1 parts.1)

-- The chosen numbers below n are all below n, and rise.
ordered_rises : (n : ℕ) (ss : List ℕ) → all_below n (ordered_below n ss) × (is_rising (ordered_below n ss) ≡ true)
ordered_rises zero ss =
    subst (λ (xs : List ℕ). all_below zero xs × (is_rising xs ≡ true)) (sym (ordered_none ss)) (tt, refl)
ordered_rises (suc n) ss =
    let h = ordered_rises n ss in
    subst (λ (xs : List ℕ). all_below (suc n) xs × (is_rising xs ≡ true)) (sym (ordered_next n ss)) (by_test (ordered_below n ss) (is_among ss n) h)
  where
    by_test : (xs : List ℕ) (b : Bool) → all_below n xs × (is_rising xs ≡ true) → all_below (suc n) (xs ++ one_if b n) × (is_rising (xs ++ one_if b n) ≡ true)
    by_test xs true h = (below_push n xs h.0, rising_push n xs h.0 h.1)
    by_test xs false h = subst (λ (ys : List ℕ). all_below (suc n) ys × (is_rising ys ≡ true)) (sym (append-nil xs)) (below_next n xs h.0, h.1)

-- ---- what a request chooses

-- one to five different applications
pub record AreChosen (ss : List ℕ) : Type 0 where
  pub some : 1 ≤ length ss
  pub few : length ss ≤ 5
  pub different : length (ordered_below 256 ss) ≡ length ss

first_chosen : (s : ℕ) → s < 256 → AreChosen (s ∷ [])
first_chosen s less =
    let long = long_push 256 s [] less refl in
    let none = none_ordered 256 in
    record { some = omega arith; few = omega arith; different = omega (arith, long, none) }
  where
    none_ordered : (n : ℕ) → length (ordered_below n []) ≡ 0
    none_ordered zero = ap length (ordered_none [])
    none_ordered (suc n) = let lower = none_ordered n in let next = long_next n [] in omega (arith, lower, next)

more_chosen : (g : Grants) (ss : List ℕ) (d : Data) (s : ℕ) → length g.saes ≤ 256 → AreChosen ss → another g ss d ≡ Some s → AreChosen (ss ++ s ∷ [])
more_chosen g ss d s within h e =
    let given = then_some (new_slave ss) (option_and_then (find_sae g.saes) (as_str d)) s e in
    let found = then_some (find_sae g.saes) (as_str d) given.0 given.1 in
    let test = excluded (nat_lt 4 (length ss) || is_among ss given.0) given.0 s given.2 in
    let parts = or_parts (nat_lt 4 (length ss)) (is_among ss given.0) test.0 in
    let below = sae_within g.saes found.0 given.0 found.2 in
    let same = test.1 in
    let less : s < 256 = omega (arith, below, within, same) in
    let new : is_among ss s ≡ false = subst (λ (k : ℕ). is_among ss k ≡ false) test.1 parts.1 in
    let room = ltb-false 4 (length ss) parts.0 in
    let long = length-append ss (s ∷ []) in
    let ordered = long_push 256 s ss less new in
    let some = h.some in
    let different = h.different in
    record { some = omega (arith, some, long); few = omega (arith, room, long); different = omega (arith, ordered, different, long) }

all_chosen : (g : Grants) (items : Items) (ss out : List ℕ) → length g.saes ≤ 256 → AreChosen ss → chosen g ss items ≡ Some out → AreChosen out
all_chosen g no_items ss out within h e = subst AreChosen (same_some ss out e) h
all_chosen g (item d ds) ss out within h e =
    let one = then_some (λ (s : ℕ). chosen g (ss ++ s ∷ []) ds) (another g ss d) out e in
    all_chosen g ds (ss ++ one.0 ∷ []) out within (more_chosen g ss d one.0 within h one.1) one.2

told_chosen : (g : Grants) (o : Option Data) (ss out : List ℕ) → length g.saes ≤ 256 → AreChosen ss → chosen_of g ss o ≡ Some out → AreChosen out
told_chosen g None ss out within h e = subst AreChosen (same_some ss out e) h
told_chosen g (Some d) ss out within h e = let items = then_some (chosen g ss) (as_array d) out e in all_chosen g items.0 ss out within h items.2

pub slaves_chosen : (g : Grants) (first : ℕ) (d : Data) (ss : List ℕ) → length g.saes ≤ 256 → first < 256 → slaves_in g first d ≡ Ok ss → AreChosen ss
slaves_chosen g first d ss within less e =
    told_chosen g (get (codes "additional_slave_SAE_IDs") d) (first ∷ []) ss within (first_chosen first less) (is_told (chosen_of g (first ∷ []) (get (codes "additional_slave_SAE_IDs") d)) faults.SlavesRefused ss e)

-- Two or more chosen applications may be the slaves of a group.
pub group_right : (ss : List ℕ) → AreChosen ss → eqb (length ss) 1 ≡ false → are_slaves (ordered_below 256 ss) ≡ true
group_right ss h more =
    let some = h.some in
    let few = h.few in
    let different = h.different in
    let other = eqb-false (length ss) 1 more in
    and_from (nat_le 2 (length (ordered_below 256 ss)) && nat_le (length (ordered_below 256 ss)) 5) (is_rising (ordered_below 256 ss))
    (and_from (nat_le 2 (length (ordered_below 256 ss))) (nat_le (length (ordered_below 256 ss)) 5)
    (le-leb 2 (length (ordered_below 256 ss)) (two (length ss) (length (ordered_below 256 ss)) some other different))
    (le-leb (length (ordered_below 256 ss)) 5 (omega (arith, few, different))))
    (ordered_rises 256 ss).1
  where
    two : (n m : ℕ) → 1 ≤ n → n ≢ 1 → m ≡ n → 2 ≤ m
    two n m some other same = omega (arith, some, other, same)
