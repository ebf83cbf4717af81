-- Each change of a node's table keeps its invariant; lemmas on the neighbour to whom a fact is owed.
use Rattle.std.proofs.Common.{◌<◌, ◌^◌, ◌≡◌, ℕ, suc, ◌+◌, max, Bool, true, false, ◌&&◌, ◌||◌, List, [], ◌∷◌, ◌++◌, length, refl, sym, ◌∙◌, ap, subst, arith, Option, Some, None, ◌⊎◌, inl, inr}
use Rattle.std.specs.Prelude.{slice_get, find, map, filter, is_some, ◌==◌, not, if◌then◌else◌, IfSome}
use Rattle.std.specs.List.{list_any}
use Rattle.std.proofs.lemmas.List.Folds.{list_any-append}
use Rattle.qkd_base.specs.Name.{Name, IsName, name_eq, has}
use Rattle.qkd_base.specs.Route.{next_after}
use Rattle.net_model.specs.declared.fact.Fact.{Fact}
use Rattle.net_model.specs.Table.{name_of, route_of, part_of, fact_at, has_fact}
use Rattle.net_model.specs.Relay.{is_some_of}
use Rattle.net_model.specs.Decision.{last_count, count_if, group_count}
use Rattle.relay_core.specs.Knowledge.{IsKnown, AreDistinct, is_owed_by, owes_fact, owed_names, acked_with}
use Rattle.relay_core.specs.Index.{is_owed_to, creditor, creditor_of, IsIndex}
use Rattle.relay_core.proofs.Firsts.{get_end, get_push, not_true, find_hits, any_at}
use Rattle.relay_core.proofs.Names.{last-push, distinct-push, name_eq_from, names_same, eq_same, and_left, and_right}
use Rattle.relay_core.proofs.Searched.{index_push, index_acked, IsCleared}

-- The empty list has no item.

none_there : {A : Type 0} (i : ℕ) (x : A) → slice_get [] i ≡ Some x → ⊥
none_there i x h = cc

empty_index : (me : ℕ) → IsIndex me [] [] [] 0
empty_index me = record { within = omega arith; sound = λ g p h. let u : ⊥ = cc in absurd u; complete = λ g p lt h. absurd (omega arith) }

nothing : (me : ℕ) → IsKnown me [] [] [] 0 0
unfolding last_count
nothing me = record {
  distinct = record { names = λ i n at. absurd (none_there i at.fact at.there); apart = λ i j n a b. absurd (none_there i a.fact a.there) };
  index = empty_index me;
  known = λ n h. let u : ⊥ = cc in absurd u;
  told = λ i f there h. absurd (none_there i f there);
  last_is = refl;
  bound = omega arith;
}

pub nothing_known : (me : ℕ) (facts : List Fact) (acked : List Name) (es : List (List ℕ)) → facts ≡ [] → acked ≡ [] → es ≡ [] → IsKnown me facts acked es 0 0
nothing_known me facts acked es f a e =
    subst (λ (fs : List Fact). IsKnown me fs acked es 0 0) (sym f) (subst (λ (ns : List Name). IsKnown me [] ns es 0 0) (sym a) (subst (λ (l : List (List ℕ)). IsKnown me [] [] l 0 0) (sym e) (nothing me)))

-- An item that passes the test is somewhere in the list.

pub record IsSomewhere {A : Type 0} (t : A → Bool) (xs : List A) : Type 0 where
  pub place : ℕ
  pub item : A
  pub there : slice_get xs place ≡ Some item
  pub passes : t item ≡ true
  pub found : find t xs ≡ Some item

pub somewhere : {A : Type 0} (t : A → Bool) (xs : List A) → is_some (find t xs) ≡ true → IsSomewhere t xs
somewhere t [] h = cc
somewhere {A} t (x ∷ xs) h =
    elim (t x) as (λ b. t x ≡ b → is_some (if b then Some x else find t xs) ≡ true → IsSomewhere t (x ∷ xs)) [
      | true ↦ λ e g. record { place = 0; item = x; there = refl; passes = e; found = ap (λ (b : Bool). if b then Some x else find t xs) e }
      | false ↦ λ e g.
          let r = somewhere t xs g in
          record { place = suc r.place; item = r.item; there = r.there; passes = r.passes; found = ap (λ (b : Bool). if b then Some x else find t xs) e ∙ r.found }
    ] refl h

pub known_named : (facts : List Fact) (n : Name) → AreDistinct facts → has_fact facts n ≡ true → IsName n
known_named facts n d h =
    let at = somewhere (λ f. name_eq (name_of f) n) facts h in
    d.names at.place n (record { fact = at.item; there = at.there; named = name_eq_from (name_of at.item) n at.passes })

-- Lemmas on the table after one more fact.

pub pushed_known : (facts : List Fact) (f : Fact) (n : Name) → has_fact facts n ≡ true → has_fact (facts ++ f ∷ []) n ≡ true
pushed_known [] f n h = cc
pushed_known (x ∷ xs) f n h =
    elim (name_eq (name_of x) n) as (λ b. is_some (if b then Some x else fact_at xs n) ≡ true → is_some (if b then Some x else fact_at (xs ++ f ∷ []) n) ≡ true) [
      | true ↦ λ g. refl
      | false ↦ λ g. pushed_known xs f n g
    ] h

pub known_pushed : (me : ℕ) (facts after : List Fact) (acked : List Name) (es new : List (List ℕ)) (listed now last more : ℕ) (f : Fact) → IsKnown me facts acked es listed last →
    IsName (name_of f) → has_fact facts (name_of f) ≡ false → after ≡ facts ++ f ∷ [] → IsIndex me acked after new now → (last < 2 ^ 48 → more < 2 ^ 48) →
    more ≡ max last (max (count_if me (name_of f)) (group_count me (part_of f))) → IsKnown me after acked new now more
known_pushed me facts after acked es new listed now last more f is named fresh e index small m = record {
  distinct = subst AreDistinct (sym e) (distinct-push facts f is.distinct named fresh);
  index = index;
  known = λ n h. ap (λ (fs : List Fact). has_fact fs n) e ∙ pushed_known facts f n (is.known n h);
  told = λ i g there h. elim (get_push facts f g i (sym (ap (λ (fs : List Fact). slice_get fs i) e) ∙ there)) [
    | inl (lt, was) ↦ is.told i g was h
    | inr (at, same) ↦
        let t : true ≡ false = sym (is.known (name_of f) (ap (λ (x : Fact). has acked (name_of x)) same ∙ h)) ∙ fresh in
        let u : ⊥ = cc in absurd u
  ];
  last_is = m ∙ ap (λ (k : ℕ). max k (max (count_if me (name_of f)) (group_count me (part_of f)))) is.last_is ∙ sym (last-push me facts f) ∙ ap (last_count me) (sym e);
  bound = small is.bound;
}

pub index_pushed : (me : ℕ) (facts after : List Fact) (acked : List Name) (es : List (List ℕ)) (listed : ℕ) (f : Fact) → IsIndex me acked facts es listed → after ≡ facts ++ f ∷ [] → IsIndex me acked after es listed
index_pushed me facts after acked es listed f index e = subst (λ (fs : List Fact). IsIndex me acked fs es listed) (sym e) (index_push me acked facts es listed f index)

-- A fact with a new name isn't acknowledged, so it is owed to the next node on its route.
pub owed_pushed : (me : ℕ) (facts after : List Fact) (acked : List Name) (listed : ℕ) (f : Fact) (to : Option ℕ) → ((n : Name) → has acked n ≡ true → has_fact facts n ≡ true) →
    has_fact facts (name_of f) ≡ false → after ≡ facts ++ f ∷ [] → to ≡ next_after (route_of f) me → listed + 1 ≡ length after → IfSome (slice_get after listed) (λ g. to ≡ creditor me acked g)
owed_pushed me facts after acked listed f to known fresh e is whole =
    let size : listed ≡ length facts = let l = ap (λ (fs : List Fact). length fs) e ∙ length_push facts f in omega arith in
    let there : slice_get after listed ≡ Some f = ap (λ (fs : List Fact). slice_get fs listed) e ∙ ap (slice_get (facts ++ f ∷ [])) size ∙ get_end facts f in
    subst (λ (o : Option Fact). IfSome o (λ g. to ≡ creditor me acked g)) (sym there)
    (is ∙ ap (λ (b : Bool). if b then None else next_after (route_of f) me) (sym (not_true (has acked (name_of f)) (λ h. let t : true ≡ false = sym (known (name_of f) h) ∙ fresh in let u : ⊥ = cc in u))))
  where
    length_push : (xs : List Fact) (x : Fact) → length (xs ++ x ∷ []) ≡ length xs + 1
    length_push [] x = refl
    length_push (y ∷ ys) x = let r = length_push ys x in omega arith

-- A fact that is owed to a neighbour has that neighbour as its creditor.

pub owed_creditor : (me : ℕ) (acked : List Name) (to : ℕ) (f : Fact) → next_after (route_of f) me ≡ Some to → is_owed_to me acked to f ≡ true → creditor me acked f ≡ Some to
owed_creditor me acked to f next h =
    let free = not_from (has acked (name_of f)) (and_right (is_some_of (next_after (route_of f) me) to) (not (has acked (name_of f))) h) in
    ap (λ (b : Bool). if b then None else next_after (route_of f) me) free ∙ next
  where
    not_from : (b : Bool) → not b ≡ true → b ≡ false
    not_from true h = cc
    not_from false h = refl

pub unowed_creditor : (me : ℕ) (acked : List Name) (to : ℕ) (f : Fact) → next_after (route_of f) me ≡ Some to → is_owed_to me acked to f ≡ false → creditor me acked f ≡ None
unowed_creditor me acked to f next h =
    by (has acked (name_of f)) refl
  where
    by : (b : Bool) → has acked (name_of f) ≡ b → creditor me acked f ≡ None
    by true e = ap (λ (b : Bool). if b then None else next_after (route_of f) me) e
    by false e =
        let t : true ≡ false = sym (ap (λ (o : Option ℕ). is_some_of o to && not (has acked (name_of f))) next ∙ ap (λ (b : Bool). b && not (has acked (name_of f))) (eq_same to) ∙ ap not e) ∙ h in
        absurd (let u : ⊥ = cc in u)

pub stuck_creditor : (me : ℕ) (acked : List Name) (f : Fact) → next_after (route_of f) me ≡ None → creditor me acked f ≡ None
stuck_creditor me acked f next = elim (has acked (name_of f)) as (λ b. (if b then None else next_after (route_of f) me) ≡ None) [ true ↦ refl | false ↦ next ]

-- Looking a fact up by its name finds whether it is owed.

bools : (a b : Bool) → (a ≡ true → b ≡ true) → (b ≡ true → a ≡ true) → a ≡ b
bools true b f g = sym (f refl)
bools false true f g = g refl
bools false false f g = refl

pub record IsPassing {A : Type 0} (t : A → Bool) (xs : List A) : Type 0 where
  pub place : ℕ
  pub item : A
  pub there : slice_get xs place ≡ Some item
  pub passes : t item ≡ true

pub any_somewhere : {A : Type 0} (t : A → Bool) (xs : List A) → list_any t xs ≡ true → IsPassing t xs
any_somewhere t [] h = cc
any_somewhere {A} t (x ∷ xs) h =
    elim (t x) as (λ b. t x ≡ b → (b || list_any t xs) ≡ true → IsPassing t (x ∷ xs)) [
      | true ↦ λ e g. record { place = 0; item = x; there = refl; passes = e }
      | false ↦ λ e g. let r = any_somewhere t xs g in record { place = suc r.place; item = r.item; there = r.there; passes = r.passes }
    ] refl h

some_same : (x y : Fact) → Some x ≡ Some y → x ≡ y
some_same x y e = cc

unfoldable pub test_of : (Fact → Bool) → Option Fact → Bool
test_of q None = false
test_of q (Some f) = q f

pub named_any : (facts : List Fact) (n : Name) (q : Fact → Bool) → AreDistinct facts → list_any (λ g. name_eq (name_of g) n && q g) facts ≡ test_of q (fact_at facts n)
unfolding test_of
named_any facts n q distinct = by (fact_at facts n) refl
  where
    by : (o : Option Fact) → fact_at facts n ≡ o → list_any (λ g. name_eq (name_of g) n && q g) facts ≡ test_of q o
    by None e = not_true (list_any (λ g. name_eq (name_of g) n && q g) facts) (λ h.
        let at = any_somewhere (λ g. name_eq (name_of g) n && q g) facts h in
        let hit = find_hits (λ g. name_eq (name_of g) n) facts at.place at.item at.there (and_left (name_eq (name_of at.item) n) (q at.item) at.passes) in
        let t : true ≡ false = sym hit ∙ ap is_some e in
        let u : ⊥ = cc in u)
    by (Some f) e =
        let here = somewhere (λ g. name_eq (name_of g) n) facts (ap is_some e) in
        let is : here.item ≡ f = some_same here.item f (sym here.found ∙ e) in
        bools (list_any (λ g. name_eq (name_of g) n && q g) facts) (q f)
        (λ h.
        let at = any_somewhere (λ g. name_eq (name_of g) n && q g) facts h in
        let j = distinct.apart at.place here.place n (record { fact = at.item; there = at.there; named = name_eq_from (name_of at.item) n (and_left (name_eq (name_of at.item) n) (q at.item) at.passes) })
        (record { fact = here.item; there = here.there; named = name_eq_from (name_of here.item) n here.passes }) in
        let same : at.item ≡ here.item = some_same at.item here.item (sym at.there ∙ ap (slice_get facts) j ∙ here.there) in
        ap q (sym (same ∙ is)) ∙ and_right (name_eq (name_of at.item) n) (q at.item) at.passes)
        (λ h. any_at (λ g. name_eq (name_of g) n && q g) facts here.place here.item here.there (ap (λ (b : Bool). b && q here.item) here.passes ∙ ap q is ∙ h))

any_filtered : (n : Name) (t : Fact → Bool) (xs : List Fact) → list_any (λ m. name_eq m n) (map name_of (filter t xs)) ≡ list_any (λ g. name_eq (name_of g) n && t g) xs
any_filtered n t [] = refl
any_filtered n t (x ∷ xs) =
    elim (t x) as (λ b. list_any (λ m. name_eq m n) (map name_of (if b then x ∷ filter t xs else filter t xs)) ≡ ((name_eq (name_of x) n && b) || list_any (λ g. name_eq (name_of g) n && t g) xs)) [
      | true ↦ ap (λ (b : Bool). name_eq (name_of x) n || b) (any_filtered n t xs) ∙ ap (λ (b : Bool). b || list_any (λ g. name_eq (name_of g) n && t g) xs) (sym (and_true (name_eq (name_of x) n)))
      | false ↦ any_filtered n t xs ∙ ap (λ (b : Bool). b || list_any (λ g. name_eq (name_of g) n && t g) xs) (sym (and_false (name_eq (name_of x) n)))
    ]
  where
    and_true : (b : Bool) → (b && true) ≡ b
    and_true true = refl
    and_true false = refl

    and_false : (b : Bool) → (b && false) ≡ false
    and_false true = refl
    and_false false = refl

owed_is : (me : ℕ) (acked : List Name) (f : Fact) → is_owed_by me acked f ≡ is_some (creditor me acked f)
owed_is me acked f = by (has acked (name_of f)) (next_after (route_of f) me)
  where
    by : (b : Bool) (o : Option ℕ) → (is_some o && not b) ≡ is_some (if b then None else o)
    by true None = refl
    by true (Some x) = refl
    by false None = refl
    by false (Some x) = refl

owed_to_is : (me : ℕ) (acked : List Name) (to : ℕ) (f : Fact) → is_owed_to me acked to f ≡ is_some_of (creditor me acked f) to
owed_to_is me acked to f = by (has acked (name_of f)) (next_after (route_of f) me)
  where
    by : (b : Bool) (o : Option ℕ) → (is_some_of o to && not b) ≡ is_some_of (if b then None else o) to
    by true None = refl
    by true (Some x) = elim (x == to) as (λ b. (b && false) ≡ false) [ true ↦ refl | false ↦ refl ]
    by false None = refl
    by false (Some x) = elim (x == to) as (λ b. (b && true) ≡ b) [ true ↦ refl | false ↦ refl ]

pub owes_is : (me : ℕ) (acked : List Name) (facts : List Fact) (n : Name) (o : Option ℕ) → AreDistinct facts → o ≡ creditor_of me acked (fact_at facts n) → owes_fact me acked facts n ≡ is_some o
unfolding test_of
owes_is me acked facts n o distinct is = named_any facts n (is_owed_by me acked) distinct ∙ by (fact_at facts n) ∙ ap is_some (sym is)
  where
    by : (x : Option Fact) → test_of (is_owed_by me acked) x ≡ is_some (creditor_of me acked x)
    by None = refl
    by (Some f) = owed_is me acked f

pub owed_names_is : (me : ℕ) (acked : List Name) (facts : List Fact) (n : Name) (o : Option ℕ) → AreDistinct facts → o ≡ creditor_of me acked (fact_at facts n) →
    (to : ℕ) → has (owed_names me acked facts to) n ≡ is_some_of o to
unfolding test_of
owed_names_is me acked facts n o distinct is to =
    any_filtered n (is_owed_to me acked to) facts ∙ named_any facts n (is_owed_to me acked to) distinct ∙ by (fact_at facts n) ∙ ap (λ (x : Option ℕ). is_some_of x to) (sym is)
  where
    by : (x : Option Fact) → test_of (is_owed_to me acked to) x ≡ is_some_of (creditor_of me acked x) to
    by None = refl
    by (Some f) = owed_to_is me acked to f

-- Lemmas on the table after one more acknowledgement.

pub unowed_acked : (me : ℕ) (acked : List Name) (facts : List Fact) (n : Name) → AreDistinct facts → creditor_of me acked (fact_at facts n) ≡ None → acked ≡ acked_with me acked facts n
unowed_acked me acked facts n distinct none =
    sym (ap (λ (b : Bool). if b then acked ++ n ∷ [] else acked) (owes_is me acked facts n None distinct (sym none)))

pub owed_acked : (me : ℕ) (acked after : List Name) (facts : List Fact) (n : Name) (to : ℕ) → AreDistinct facts → creditor_of me acked (fact_at facts n) ≡ Some to → after ≡ acked ++ n ∷ [] → after ≡ acked_with me acked facts n
owed_acked me acked after facts n to distinct some e =
    e ∙ sym (ap (λ (b : Bool). if b then acked ++ n ∷ [] else acked) (owes_is me acked facts n (Some to) distinct (sym some)))

pub acked_known : (me : ℕ) (facts : List Fact) (acked after : List Name) (es new : List (List ℕ)) (listed last place to : ℕ) (n : Name) (f : Fact) → IsKnown me facts acked es listed last →
    slice_get facts place ≡ Some f → name_of f ≡ n → creditor me acked f ≡ Some to → after ≡ acked ++ n ∷ [] → IsCleared es new to place → IsKnown me facts after new listed last
acked_known me facts acked after es new listed last place to n f is there named owed e cleared = record {
  distinct = is.distinct;
  index = subst (λ (ns : List Name). IsIndex me ns facts new listed) (sym (e ∙ ap (λ (m : Name). acked ++ m ∷ []) (sym named)))
      (index_acked me acked facts es new listed place to f is.index is.distinct there (next_is (has acked (name_of f)) (next_after (route_of f) me) owed) cleared);
  known = λ m h. elim (or_cases (has acked m) (name_eq n m) (sym (ap (λ (ns : List Name). has ns m) e ∙ has_more m) ∙ h)) [
    | inl was ↦ is.known m was
    | inr same ↦ find_hits (λ g. name_eq (name_of g) m) facts place f there (names_same (name_of f) m (named ∙ name_eq_from n m same))
  ];
  told = λ i g at h. elim (or_cases (has acked (name_of g)) (name_eq n (name_of g)) (sym (ap (λ (ns : List Name). has ns (name_of g)) e ∙ has_more (name_of g)) ∙ h)) [
    | inl was ↦ is.told i g at was
    | inr same ↦
        let i_is = is.distinct.apart i place n (record { fact = g; there = at; named = sym (name_eq_from n (name_of g) same) }) (record { fact = f; there = there; named = named }) in
        let g_is : Some g ≡ Some f = sym at ∙ ap (slice_get facts) i_is ∙ there in
        let g_same : g ≡ f = cc in
        ap (λ (x : Fact). is_some (next_after (route_of x) me)) g_same ∙ ap is_some (next_is (has acked (name_of f)) (next_after (route_of f) me) owed)
  ];
  last_is = is.last_is;
  bound = is.bound;
}
  where
    next_is : (b : Bool) (o : Option ℕ) → (if b then None else o) ≡ Some to → o ≡ Some to
    next_is true o h = cc
    next_is false o h = h

    or_cases : (a b : Bool) → (a || b) ≡ true → (a ≡ true) ⊎ (b ≡ true)
    or_cases true b h = inl refl
    or_cases false b h = inr h

    either : (b : Bool) → (b || false) ≡ b
    either true = refl
    either false = refl

    has_more : (m : Name) → has (acked ++ n ∷ []) m ≡ (has acked m || name_eq n m)
    has_more m = list_any-append (λ (x : Name). name_eq x m) acked (n ∷ []) ∙ ap (λ (b : Bool). has acked m || b) (either (name_eq n m))
