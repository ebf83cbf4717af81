-- The history of one machine is a merge of the calls of its callers.
use Rattle.std.proofs.Common.{◌≡◌, ◌==◌, ◌≢◌, ℕ, zero, suc, ◌+◌, ◌<◌, ◌≤◌, true, List, [], ◌∷◌, ◌++◌, length, map, refl, sym, ◌∙◌, ap, subst, arith, ne_eqb}
use Rattle.std.specs.List.{list_all, AllByRecursion}
use Rattle.std.proofs.lemmas.List.{map-append}
use Rattle.std.proofs.lemmas.Grind.{flat_map-append}
use mathlib.Core.Logic.{dite}
use mathlib.Core.Option.{some, some-injective}
use native.Mathlib.Decide.{ℕ_discrete, dec_le}
use lib.ListN.{get_elem?}
use Rattle.net_model.specs.BlockOrder.{IsMerge, Done, Next}
use Rattle.turnstile.specs.Views.{one_if, times, once_below, places, Stands, IsWhole}
use Rattle.turnstile.proofs.Totals.{times_one, times_places, once_yes, once_no, once_more}
use Rattle.shared_objects.specs.Rising.{entries, Rises, together}
use Rattle.shared_objects.proofs.Alls.{all_one, all_change}

above_none : (k p : ℕ) (qs : List ℕ) → k ≤ p → AllByRecursion (λ q. p < q) qs → times k qs ≡ 0
above_none k p [] le h = refl
above_none k p (q ∷ qs) le h =
    let apart : q ≢ k = λ e. absurd (omega (arith, e, le, h.0)) in
    let none : one_if (q == k) ≡ 0 = ap one_if (ne_eqb q k apart) in
    omega (arith, none, above_none k p qs le h.1)

-- the calls of one caller, with their places
abbrev Made : Type 0 → Type 0
Made E = List (ℕ × E)

module _ {E : Type 0} where
  -- how often x is the place of a call of any part
  abbrev often : ℕ → List (Made E) → ℕ
  often x parts = times x (places (together parts))

  -- If the calls rise from k on and contain the call of place k, then they begin with it.
  record Begins (k : ℕ) (calls : Made E) : Type 0 where
    entry : E
    rest : Made E
    is : calls ≡ (k, entry) ∷ rest

  begins : (k : ℕ) (calls : Made E) → Rises calls → ((x : ℕ) → x < k → times x (places calls) ≡ 0) → 0 < times k (places calls) → Begins k calls
  begins k [] rises none has = absurd (omega (arith, has))
  begins k ((p, e) ∷ cs) rises none has =
      dite (ℕ_discrete p k)
      (λ same. record { entry = e; rest = cs; is = ap (λ (n : ℕ). (n, e) ∷ cs) same })
      (λ other.
      let not_here : one_if (p == k) ≡ 0 = ap one_if (ne_eqb p k other) in
      dite (dec_le k p)
      (λ le. absurd (omega (arith, has, not_here, above_none k p (places cs) le rises.0)))
      (λ no. absurd (omega (arith, none p (omega arith), times_one p))))

  -- One of the parts begins with the call of place k.
  record Heads (k : ℕ) (parts : List (Made E)) : Type 0 where
    before : List (Made E)
    entry : E
    rest : Made E
    after : List (Made E)
    is : parts ≡ before ++ ((k, entry) ∷ rest) ∷ after

  first : (k : ℕ) (calls : Made E) (parts : List (Made E)) → Begins k calls → Heads k (calls ∷ parts)
  first k calls parts h = record { before = []; entry = h.entry; rest = h.rest; after = parts; is = ap (λ (c : Made E). c ∷ parts) h.is }

  later : (k : ℕ) (calls : Made E) (parts : List (Made E)) → Heads k parts → Heads k (calls ∷ parts)
  later k calls parts h =
      record { before = calls ∷ h.before; entry = h.entry; rest = h.rest; after = h.after; is = ap (λ (ps : List (Made E)). calls ∷ ps) h.is }

  heads : (k : ℕ) (parts : List (Made E)) → AllByRecursion Rises parts → ((x : ℕ) → x < k → often x parts ≡ 0) → 0 < often k parts →
      Heads k parts
  heads k [] rises none has = absurd (omega (arith, has))
  heads k (calls ∷ parts) rises none has =
      dite (ℕ_discrete (times k (places calls)) 0)
      (λ not_here. later k calls parts (heads k parts rises.1
      (λ x lt. omega (arith, none x lt, times_places x calls (together parts)))
      (omega (arith, has, not_here, times_places k calls (together parts)))))
      (λ here. first k calls parts (begins k calls rises.0 (λ x lt. omega (arith, none x lt, times_places x calls (together parts))) (omega (arith, here))))

  often_middle : (x : ℕ) (before : List (Made E)) (calls : Made E) (after : List (Made E)) →
      often x (before ++ calls ∷ after) ≡ often x before + (times x (places calls) + often x after)
  often_middle x before calls after =
      ap (λ (cs : Made E). times x (places cs)) (flat_map-append (λ (cs : Made E). cs) before (calls ∷ after)) ∙
      omega (arith, times_places x (together before) (calls ++ together after), times_places x calls (together after))

  -- If no place has a call, then no part has one.
  none_left : (parts : List (Made E)) → ((x : ℕ) → often x parts ≡ 0) → list_all (λ p. length p == 0) (map entries parts) ≡ true
  none_left [] h = refl
  none_left ([] ∷ parts) h = none_left parts h
  none_left ((c ∷ cs) ∷ parts) h = absurd (omega (arith, h c.0, times_one c.0))

  module _ (log : List E) where
    -- what is known of each part: its places rise, and its calls stand in the history
    abbrev Fine : Made E → Type 0
    Fine calls = Rises calls × Stands calls log

    -- the parts have exactly the calls from place k on
    record From (k : ℕ) (parts : List (Made E)) : Type 0 where
      fine : AllByRecursion Fine parts
      once : (x : ℕ) → often x parts + once_below x k ≡ once_below x (length log)

    rising : (parts : List (Made E)) → AllByRecursion Fine parts → AllByRecursion Rises parts
    rising [] h = tt
    rising (p ∷ ps) h = (h.0.0, rising ps h.1)

    taken : (k : ℕ) (before : List (Made E)) (e : E) (rest : Made E) (after : List (Made E)) → From k (before ++ ((k, e) ∷ rest) ∷ after) →
        From (k + 1) (before ++ rest ∷ after)
    taken k before e rest after h = record {
      fine = all_change Fine before ((k, e) ∷ rest) rest after (λ t. (t.0.1, t.1.1)) h.fine;
      once = λ x. omega (arith, h.once x, often_middle x before ((k, e) ∷ rest) after, often_middle x before rest after, once_more x k (k + 1) refl);
    }

    stands_here : (k : ℕ) (before : List (Made E)) (e : E) (rest : Made E) (after : List (Made E)) → From k (before ++ ((k, e) ∷ rest) ∷ after) →
        get_elem? log k ≡ some e
    stands_here k before e rest after h = (all_one Fine before ((k, e) ∷ rest) after h.fine).1.0

    next : (k : ℕ) (parts : List (Made E)) → k < length log → From k parts → Heads k parts
    next k parts lt h =
        heads k parts (rising parts h.fine)
        (λ x below. omega (arith, h.once x, once_yes x k below, once_yes x (length log) (omega (arith, lt, below))))
        (omega (arith, h.once k, once_no k k (omega arith), once_yes k (length log) lt))

    from_place : (rest : List E) (k : ℕ) (parts : List (Made E)) → k + length rest ≡ length log →
        ((i j : ℕ) → k + i ≡ j → get_elem? log j ≡ get_elem? rest i) → From k parts → IsMerge (map entries parts) rest
    from_place [] k parts long at h = Done (map entries parts) (none_left parts none)
      where
        none : (x : ℕ) → often x parts ≡ 0
        none x = let e : once_below x k ≡ once_below x (length log) = ap (once_below x) (omega (arith, long)) in omega (arith, h.once x, e)
    from_place (y ∷ ys) k parts long at h =
        let found = next k parts (omega (arith, long)) h in
        let b = found.before in
        let a = found.after in
        let r = found.rest in
        let there : From k (b ++ ((k, found.entry) ∷ r) ∷ a) = subst (From k) found.is h in
        let same : found.entry ≡ y = some-injective found.entry y (sym (stands_here k b found.entry r a there) ∙ at zero k (omega arith)) in
        let split : map entries parts ≡ map entries b ++ (y ∷ entries r) ∷ map entries a =
        ap (map entries) found.is ∙ map-append entries b (((k, found.entry) ∷ r) ∷ a) ∙ ap (λ (z : E). map entries b ++ (z ∷ entries r) ∷ map entries a) same in
        let others : IsMerge (map entries b ++ entries r ∷ map entries a) ys =
        subst (λ ps. IsMerge ps ys) (map-append entries b (r ∷ a))
        (from_place ys (k + 1) (b ++ r ∷ a) (omega (arith, long)) (λ i j e. at (suc i) j (omega (arith, e))) (taken k b found.entry r a there)) in
        subst (λ ps. IsMerge ps (y ∷ ys)) (sym split) (Next (map entries b) (map entries a) y (entries r) ys others)

  stands_left : (cs ds : Made E) (log : List E) → Stands (cs ++ ds) log → Stands cs log
  stands_left [] ds log h = tt
  stands_left (c ∷ cs) ds log h = (h.0, stands_left cs ds log h.1)

  stands_right : (cs ds : Made E) (log : List E) → Stands (cs ++ ds) log → Stands ds log
  stands_right [] ds log h = h
  stands_right (c ∷ cs) ds log h = stands_right cs ds log h.1

  all_fine : (log : List E) (parts : List (Made E)) → AllByRecursion Rises parts → Stands (together parts) log → AllByRecursion (Fine log) parts
  all_fine log [] rises h = tt
  all_fine log (p ∷ ps) rises h = ((rises.0, stands_left p (together ps) log h), all_fine log ps rises.1 (stands_right p (together ps) log h))

  pub calls_merge : (parts : List (List (ℕ × E))) (log : List E) → AllByRecursion Rises parts → IsWhole (together parts) log → IsMerge (map entries parts) log
  calls_merge parts log rises whole =
      from_place log log 0 parts (omega arith) (λ i j e. let is : j ≡ i = omega (arith, e) in ap (get_elem? log) is) (record {
        fine = all_fine log parts rises whole.0;
        once = λ x. omega (arith, whole.1 x, once_no x 0 (omega arith));
      })
