-- The frames that are sent again, in order of offset.
use Rattle.std.proofs.Common.{◌≡◌, ℕ, zero, suc, ◌+◌, ◌-◌, ◌<◌, ◌≤◌, Bool, true, false, ◌||◌, ◌&&◌, List, [], ◌∷◌, ◌++◌, length, take, refl, sym, ◌∙◌, ap, subst, arith, append_assoc, Option, Some, None}
use Rattle.std.specs.Prelude.{map, filter, find, slice_get, ◌==◌, nat_lt, nat_le, is_some, if◌then◌else◌, IfSome, IfNone}
use Rattle.std.specs.List.{list_any}
use Rattle.std.specs.Option.{option_map}
use Rattle.std.proofs.lemmas.Bool.Decides.{nat_tests}
use Rattle.qkd_base.specs.Lane.{lane_eq, way_eq}
use Rattle.qkd_base.specs.declared.lane.Way.{Way}
use Rattle.qkd_base.specs.declared.lane.Way.TheVariants.{Up, Down}
use Rattle.qkd_base.specs.declared.lane.Lane.{Lane}
use Rattle.net_model.specs.declared.repeat.Repeat.{Repeat}
use Rattle.net_model.specs.World.{Entry}
use Rattle.net_model.specs.Window.{by_offset, repeats_on, repeat_of}
use Rattle.relay_core.specs.Firsts.{IsFirstFrom, IsNoneFrom}
use Rattle.relay_core.proofs.Firsts.{first_find, none_find}
use Rattle.relay_core.proofs.Kept.{any_somewhere}
use Rattle.relay_core.proofs.Names.{eq_same, eq_from, and_left, and_right}
use Rattle.resend_window.specs.declared.held.Held.{Held}
use Rattle.resend_window.specs.declared.edit.Query.TheVariants.{At}
use Rattle.resend_window.specs.Kept.{somes}
use Rattle.resend_window.specs.Held.{entry_at, entries_at, IsHeld, AreHeld, AreApart, stand_together, is_next_on}
use Rattle.resend_window.specs.Slots.{passes, is_asked}
use Rattle.resend_window.specs.Lists.{IsLeast}
use Rattle.resend_window.specs.Repeating.{is_above, goes_after, due_on, rest_after}
use Rattle.resend_window.proofs.Lists.{map_filter, any_map, any_same}
use Rattle.resend_window.proofs.Least.{any_less}
use Rattle.resend_window.proofs.Placings.{lane_from}
use Rattle.resend_window.proofs.Sorted.{AreDifferent, IsStrict, sorted_strict, any_sorted, find_sorted, least_rest, none_above, all_above}

-- the first item that passes a test, among the slots that aren't empty

pub find_somes : {A : Type 0} (t : A → Bool) (xs : List (Option A)) (x : A) → find (passes t) xs ≡ Some (Some x) → find t (somes xs) ≡ Some x
find_somes t [] x h = cc
find_somes t (None ∷ xs) x h = find_somes t xs x h
find_somes {A} t (Some y ∷ xs) x h =
    elim (t y) as (λ b. (if b then Some (Some y) else find (passes t) xs) ≡ Some (Some x) → (if b then Some y else find t (somes xs)) ≡ Some x) [
      | true ↦ λ g. (let a : Some y ≡ Some x = cc in a)
      | false ↦ λ g. find_somes t xs x g
    ] h

pub find_no_somes : {A : Type 0} (t : A → Bool) (xs : List (Option A)) → find (passes t) xs ≡ None → find t (somes xs) ≡ None
find_no_somes t [] h = refl
find_no_somes t (None ∷ xs) h = find_no_somes t xs h
find_no_somes {A} t (Some y ∷ xs) h =
    elim (t y) as (λ b. (if b then Some (Some y) else find (passes t) xs) ≡ None → (if b then Some y else find t (somes xs)) ≡ None) [
      | true ↦ λ g. (let a : Some y ≡ None = cc in a)
      | false ↦ λ g. find_no_somes t xs g
    ] h

-- the slot that was found isn't empty
pub find_first : {A : Type 0} (t : A → Bool) (xs : List (Option A)) (place : ℕ) (o : Option A) → IsFirstFrom (passes t) xs 0 place → slice_get xs place ≡ Some o → o ≡ find t (somes xs)
find_first {A} t xs place o first there = by o refl
  where
    same : first.item ≡ o
    same = let e : Some first.item ≡ Some o = sym first.there ∙ there in cc

    by : (p : Option A) → o ≡ p → o ≡ find t (somes xs)
    by None e = let u : false ≡ true = ap (passes t) (sym (same ∙ e)) ∙ first.passes in absurd (let z : ⊥ = cc in z)
    by (Some x) e = e ∙ sym (find_somes t xs x (first_find (passes t) xs place first ∙ there ∙ ap Some e))

-- the entries that are due

due_is : (tick : ℕ) (l : Lane) (hs : List Held) → filter (λ e. lane_eq e.transmission.lane l && e.due) (entries_at tick hs) ≡ entries_at tick (filter (is_next_on tick l) hs)
due_is tick l hs = map_filter (entry_at tick) (λ e. lane_eq e.transmission.lane l && e.due) hs

any_filtered : {A : Type 0} (t u : A → Bool) (xs : List A) → list_any t (filter u xs) ≡ list_any (λ x. u x && t x) xs
any_filtered t u [] = refl
any_filtered {A} t u (x ∷ xs) =
    elim (u x) as (λ b. list_any t (if b then x ∷ filter u xs else filter u xs) ≡ ((b && t x) || list_any (λ x. u x && t x) xs)) [
      | true ↦ ap (λ (b : Bool). t x || b) (any_filtered t u xs)
      | false ↦ any_filtered t u xs
    ]

find_filtered : {A : Type 0} (t u : A → Bool) (xs : List A) → find t (filter u xs) ≡ find (λ x. u x && t x) xs
find_filtered t u [] = refl
find_filtered {A} t u (x ∷ xs) =
    elim (u x) as (λ b. find t (if b then x ∷ filter u xs else filter u xs) ≡ (if b && t x then Some x else find (λ x. u x && t x) xs)) [
      | true ↦ ap (λ (o : Option A). if t x then Some x else o) (find_filtered t u xs)
      | false ↦ find_filtered t u xs
    ]

find_mapped : {A B : Type 0} (f : A → B) (t : B → Bool) (xs : List A) → find t (map f xs) ≡ option_map f (find (λ x. t (f x)) xs)
find_mapped f t [] = refl
find_mapped {A} {B} f t (x ∷ xs) =
    elim (t (f x)) as (λ b. (if b then Some (f x) else find t (map f xs)) ≡ option_map f (if b then Some x else find (λ x. t (f x)) xs)) [ true ↦ refl | false ↦ find_mapped f t xs ]

-- frames of one lane with different places have different offsets

both_true : (a b : Bool) → a ≡ true → b ≡ true → (a && b) ≡ true
both_true true b h k = k
both_true false b h k = cc

lane_same : (l k : Lane) → l ≡ k → lane_eq l k ≡ true
lane_same l k e = ap (λ (m : Lane). lane_eq l m) (sym e) ∙ by l
  where
    by : (l : Lane) → lane_eq l l ≡ true
    by l = both_true (l.link == l.link) (way_eq l.way l.way) (eq_same l.link) (way l.way)
      where
        way : (w : Way) → way_eq w w ≡ true
        way Up = refl
        way Down = refl

together : (l : Lane) (h k : Held) → lane_eq h.lane l ≡ true → lane_eq k.lane l ≡ true → (k.offset == h.offset) ≡ true → stand_together h k ≡ true
together l h k a b e =
    both_true (lane_eq h.lane k.lane) (h.offset == k.offset) (lane_same h.lane k.lane (lane_from h.lane l a ∙ sym (lane_from k.lane l b)))
    (ap (λ (x : ℕ). h.offset == x) (eq_from k.offset h.offset e) ∙ eq_same h.offset)

different : (tick : ℕ) (l : Lane) (hs : List Held) → AreApart hs → AreDifferent (entries_at tick (filter (is_next_on tick l) hs))
unfolding AreDifferent
different tick l [] apart = tt
different tick l (h ∷ hs) apart = by (is_next_on tick l h) refl (different tick l hs apart.1)
  where
    by : (b : Bool) → is_next_on tick l h ≡ b → AreDifferent (entries_at tick (filter (is_next_on tick l) hs)) → AreDifferent (entries_at tick (if b then h ∷ filter (is_next_on tick l) hs else filter (is_next_on tick l) hs))
    by true goes rest = (
      any_map (entry_at tick) (λ x. x.offset == h.offset) (filter (is_next_on tick l) hs)
          ∙ any_filtered (λ k. k.offset == h.offset) (is_next_on tick l) hs
          ∙ any_less (stand_together h) (λ k. is_next_on tick l k && (k.offset == h.offset))
          (λ k p. together l h k (and_left (lane_eq h.lane l) (entry_at tick h).due goes)
          (and_left (lane_eq k.lane l) (entry_at tick k).due (and_left (is_next_on tick l k) (k.offset == h.offset) p)) (and_right (is_next_on tick l k) (k.offset == h.offset) p)) hs apart.0,
      rest,
    )
    by false goes rest = rest

strict : (tick : ℕ) (l : Lane) (hs : List Held) → AreApart hs → IsStrict (due_on tick l hs)
strict tick l hs apart = subst (λ (es : List Entry). IsStrict (by_offset es)) (sym (due_is tick l hs)) (sorted_strict (entries_at tick (filter (is_next_on tick l) hs)) (different tick l hs apart))

any_due : (tick : ℕ) (l : Lane) (hs : List Held) (t : Entry → Bool) → list_any t (due_on tick l hs) ≡ list_any (λ h. is_next_on tick l h && t (entry_at tick h)) hs
any_due tick l hs t =
    any_sorted t (filter (λ e. lane_eq e.transmission.lane l && e.due) (entries_at tick hs)) ∙ ap (list_any t) (due_is tick l hs)
    ∙ any_map (entry_at tick) t (filter (is_next_on tick l) hs) ∙ any_filtered (λ h. t (entry_at tick h)) (is_next_on tick l) hs

-- if a frame at this offset of this lane is due, it is the one that is found there
apart_find : (l : Lane) (x : ℕ) (u : Held → Bool) (hs : List Held) (k : Held) → ((h : Held) → u h ≡ true → lane_eq h.lane l ≡ true) → AreApart hs → find (is_asked (At l x)) hs ≡ Some k →
    list_any (λ h. u h && (h.offset == x)) hs ≡ true → find (λ h. u h && (h.offset == x)) hs ≡ Some k
apart_find l x u [] k on apart found any = cc
apart_find l x u (h ∷ hs) k on apart found any = by (is_asked (At l x) h) (u h) refl refl (apart_find l x u hs k on apart.1)
  where
    none_else : lane_eq h.lane l ≡ true → (h.offset == x) ≡ true → list_any (λ g. u g && (g.offset == x)) hs ≡ false
    none_else at same = any_less (stand_together h) (λ g. u g && (g.offset == x))
        (λ g p. together l h g at (on g (and_left (u g) (g.offset == x) p)) (ap (λ (y : ℕ). g.offset == y) (eq_from h.offset x same) ∙ and_right (u g) (g.offset == x) p)) hs apart.0

    by : (a b : Bool) → is_asked (At l x) h ≡ a → u h ≡ b → (find (is_asked (At l x)) hs ≡ Some k → list_any (λ g. u g && (g.offset == x)) hs ≡ true → find (λ g. u g && (g.offset == x)) hs ≡ Some k) →
        find (λ g. u g && (g.offset == x)) (h ∷ hs) ≡ Some k
    by true true p q rest =
        ap (λ (b : Bool). if b then Some h else find (λ g. u g && (g.offset == x)) hs) (both_true (u h) (h.offset == x) q (and_right (lane_eq h.lane l) (h.offset == x) p))
        ∙ sym (ap (λ (b : Bool). if b then Some h else find (is_asked (At l x)) hs) p) ∙ found
    by true false p q rest =
        let none = none_else (and_left (lane_eq h.lane l) (h.offset == x) p) (and_right (lane_eq h.lane l) (h.offset == x) p) in
        let some = sym (ap (λ (b : Bool). (b && (h.offset == x)) || list_any (λ g. u g && (g.offset == x)) hs) q) ∙ any in
        let z : true ≡ false = sym some ∙ none in absurd (let w : ⊥ = cc in w)
    by false b p q rest =
        let off = not_both (u h) (h.offset == x) (λ s t. let z : true ≡ false = sym (both_true (lane_eq h.lane l) (h.offset == x) (on h s) t) ∙ p in let w : ⊥ = cc in w) in
        ap (λ (b : Bool). if b then Some h else find (λ g. u g && (g.offset == x)) hs) off
        ∙ rest (sym (ap (λ (b : Bool). if b then Some h else find (is_asked (At l x)) hs) p) ∙ found)
        (sym (ap (λ (b : Bool). b || list_any (λ g. u g && (g.offset == x)) hs) off) ∙ any)
      where
        not_both : (a b : Bool) → (a ≡ true → b ≡ true → ⊥) → (a && b) ≡ false
        not_both true true h = absurd (h refl refl)
        not_both true false h = refl
        not_both false b h = refl

find_due : (tick : ℕ) (l : Lane) (hs : List Held) (x : ℕ) (k : Held) → AreApart hs → find (is_asked (At l x)) hs ≡ Some k → list_any (λ h. is_next_on tick l h && (h.offset == x)) hs ≡ true →
    find (λ e. e.offset == x) (due_on tick l hs) ≡ Some (entry_at tick k)
find_due tick l hs x k apart found any =
    ap (λ (es : List Entry). find (λ e. e.offset == x) (by_offset es)) (due_is tick l hs)
    ∙ find_sorted x (entries_at tick (filter (is_next_on tick l) hs)) (different tick l hs apart)
    ∙ find_mapped (entry_at tick) (λ e. e.offset == x) (filter (is_next_on tick l) hs)
    ∙ ap (option_map (entry_at tick)) (find_filtered (λ h. h.offset == x) (is_next_on tick l) hs
    ∙ apart_find l x (is_next_on tick l) hs k (λ h p. and_left (lane_eq h.lane l) (entry_at tick h).due p) apart found any)

and_swap : (a b c : Bool) → ((a && b) && c) ≡ (a && (b && c))
and_swap true b c = refl
and_swap false b c = refl

drop_middle : (a b c : Bool) → ((a && b) && c) ≡ true → (a && c) ≡ true
drop_middle true true c h = h
drop_middle true false c h = cc
drop_middle false b c h = cc

any_more : {A : Type 0} (t u : A → Bool) → ((x : A) → t x ≡ true → u x ≡ true) → (xs : List A) → list_any t xs ≡ true → list_any u xs ≡ true
any_more t u more [] h = cc
any_more {A} t u more (x ∷ xs) h =
    elim (t x) as (λ b. t x ≡ b → (b || list_any t xs) ≡ true → (u x || list_any u xs) ≡ true) [
      | true ↦ λ e g. ap (λ (b : Bool). b || list_any u xs) (more x e)
      | false ↦ λ e g. or_right (u x) (list_any u xs) (any_more t u more xs g)
    ] refl h
  where
    or_right : (a b : Bool) → b ≡ true → (a || b) ≡ true
    or_right true b k = refl
    or_right false b k = k

-- if no frame above `after` is due, no repeats are left
pub none_after : (tick : ℕ) (l : Lane) (hs : List Held) (after : Option ℕ) → list_any (goes_after tick l after) hs ≡ false → rest_after tick l hs after ≡ []
none_after tick l hs after none = ap (map repeat_of) (none_above (λ e. is_above after e.offset) (due_on tick l hs) (any_due tick l hs (λ e. is_above after e.offset) ∙ none))

-- the repeat with the least offset above `after`, followed by those above it
pub one_after : (tick : ℕ) (l : Lane) (hs : List Held) (after : Option ℕ) (x : ℕ) (k : Held) → AreApart hs → IsLeast (goes_after tick l after) hs (Some x) → find (is_asked (At l x)) hs ≡ Some k →
    rest_after tick l hs after ≡ repeat_of (entry_at tick k) ∷ rest_after tick l hs (Some x)
one_after tick l hs after x k apart least found =
    let at = any_somewhere (λ h. goes_after tick l after h && (h.offset == x)) hs least.0 in
    let above : is_above after x ≡ true =
    ap (is_above after) (sym (eq_from at.item.offset x (and_right (goes_after tick l after at.item) (at.item.offset == x) at.passes)))
    ∙ and_right (is_next_on tick l at.item) (is_above after at.item.offset) (and_left (goes_after tick l after at.item) (at.item.offset == x) at.passes) in
    let any = any_more (λ h. goes_after tick l after h && (h.offset == x)) (λ h. is_next_on tick l h && (h.offset == x)) (λ h. drop_middle (is_next_on tick l h) (is_above after h.offset) (h.offset == x)) hs least.0 in
    let none = any_due tick l hs (λ e. is_above after e.offset && nat_lt e.offset x)
    ∙ any_same (λ h. is_next_on tick l h && (is_above after h.offset && nat_lt h.offset x)) (λ h. goes_after tick l after h && nat_lt h.offset x) (λ h. sym (and_swap (is_next_on tick l h) (is_above after h.offset) (nat_lt h.offset x))) hs
    ∙ least.1 in
    ap (map repeat_of) (least_rest (due_on tick l hs) after x (entry_at tick k) (strict tick l hs apart) (find_due tick l hs x k apart found any) above none)

-- a due frame with the least offset above `after` is found at this offset
pub due_found : (tick : ℕ) (l : Lane) (hs : List Held) (after : Option ℕ) (x : ℕ) → IsLeast (goes_after tick l after) hs (Some x) → find (is_asked (At l x)) hs ≡ None → ⊥
due_found tick l hs after x least none =
    let some = any_more (λ h. goes_after tick l after h && (h.offset == x)) (is_asked (At l x))
    (λ h p. both_true (lane_eq h.lane l) (h.offset == x)
    (and_left (lane_eq h.lane l) (entry_at tick h).due (and_left (is_next_on tick l h) (is_above after h.offset) (and_left (goes_after tick l after h) (h.offset == x) p)))
    (and_right (goes_after tick l after h) (h.offset == x) p)) hs least.0 in
    let u : true ≡ false = sym some ∙ not_found (is_asked (At l x)) hs none in
    let z : ⊥ = cc in z
  where
    not_found : (t : Held → Bool) (hs : List Held) → find t hs ≡ None → list_any t hs ≡ false
    not_found t [] h = refl
    not_found t (k ∷ hs) h = elim (t k) as (λ b. (if b then Some k else find t hs) ≡ None → (b || list_any t hs) ≡ false) [ true ↦ λ g. cc | false ↦ λ g. not_found t hs g ] h

pub held_find : (tick : ℕ) (t : Held → Bool) (hs : List Held) (k : Held) → AreHeld tick hs → find t hs ≡ Some k → IsHeld tick k
held_find tick t [] k are found = cc
held_find tick t (h ∷ hs) k are found =
    elim (t h) as (λ b. (if b then Some h else find t hs) ≡ Some k → IsHeld tick k) [ true ↦ λ g. (let e : h ≡ k = cc in subst (IsHeld tick) e are.0) | false ↦ λ g. held_find tick t hs k are.1 g ] found

-- the first items of a list, up to a number

pub take_map : {A B : Type 0} (f : A → B) (n : ℕ) (xs : List A) → take n (map f xs) ≡ map f (take n xs)
take_map f zero xs = refl
take_map f (suc n) [] = refl
take_map f (suc n) (x ∷ xs) = ap (λ ys. f x ∷ ys) (take_map f n xs)

pub repeats_are : (tick : ℕ) (l : Lane) (hs : List Held) → take 16 (rest_after tick l hs None) ≡ map repeat_of (repeats_on (entries_at tick hs) l)
unfolding repeats_on
repeats_are tick l hs = ap (λ (es : List Entry). take 16 (map repeat_of es)) (all_above (due_on tick l hs)) ∙ take_map repeat_of 16 (due_on tick l hs)

pub offset_found : (l : Lane) (x : ℕ) (hs : List Held) (k : Held) → find (is_asked (At l x)) hs ≡ Some k → k.offset ≡ x
offset_found l x [] k found = cc
offset_found l x (h ∷ hs) k found =
    elim (is_asked (At l x) h) as (λ b. is_asked (At l x) h ≡ b → (if b then Some h else find (is_asked (At l x)) hs) ≡ Some k → k.offset ≡ x) [
      | true ↦ λ e g. (let same : h ≡ k = cc in ap (λ (m : Held). m.offset) (sym same) ∙ eq_from h.offset x (and_right (lane_eq h.lane l) (h.offset == x) e))
      | false ↦ λ e g. offset_found l x hs k g
    ] refl found

-- one more item of the first ones, up to a number
pub take_step : {A : Type 0} (all done rest : List A) (m i : ℕ) (x : A) (next : List A) → all ≡ done ++ take (m - i) rest → rest ≡ x ∷ next → i < m → all ≡ (done ++ x ∷ []) ++ take (m - (i + 1)) next
take_step all done rest m i x next e r lt =
    let s : m - i ≡ suc (m - (i + 1)) = omega arith in
    e ∙ ap (λ ys. done ++ take (m - i) ys) r ∙ ap (λ k. done ++ take k (x ∷ next)) s ∙ sym (append_assoc done (x ∷ []) (take (m - (i + 1)) next))

take_none : {A : Type 0} (n : ℕ) → (let none : List A = [] in take n none ≡ none)
take_none zero = refl
take_none (suc n) = refl

pub take_done : {A : Type 0} (all done rest : List A) (n : ℕ) → all ≡ done ++ take n rest → rest ≡ [] → done ≡ all
take_done all done rest n e r = sym (e ∙ ap (λ ys. done ++ take n ys) r ∙ ap (λ ys. done ++ ys) (take_none n) ∙ whole done)
  where
    whole : {A : Type 0} (xs : List A) → xs ++ [] ≡ xs
    whole [] = refl
    whole (x ∷ xs) = ap (λ ys. x ∷ ys) (whole xs)

pub take_full : {A : Type 0} (all done rest : List A) (m i : ℕ) → all ≡ done ++ take (m - i) rest → m ≤ i → done ≡ all
take_full all done rest m i e le = let z : m - i ≡ 0 = omega arith in sym (e ∙ ap (λ k. done ++ take k rest) z ∙ whole done)
  where
    whole : {A : Type 0} (xs : List A) → xs ++ [] ≡ xs
    whole [] = refl
    whole (x ∷ xs) = ap (λ ys. x ∷ ys) (whole xs)
