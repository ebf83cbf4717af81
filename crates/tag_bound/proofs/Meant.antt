-- The meaning of a text from its lines: the keys, or the first line that has none.
use Rattle.std.proofs.Common.{◌≡◌, ℕ, suc, ◌+◌, ◌<◌, ◌≤◌, Bool, true, false, ◌||◌, cond, eqb, List, [], ◌∷◌, ◌++◌, length, map, get_or, Option, Some, None, Ok, Err, refl, sym, ap, subst, ◌∙◌, inl, inr, arith, length-append, append_assoc, append-nil}
use Rattle.std.specs.Prelude.{nat_le, ◌⊎◌}
use Rattle.std.specs.Str.Lines.{lines}
use Rattle.std.proofs.Math.ListN.{get_or-append}
use Rattle.std.proofs.Math.Seq.{get_or-append_seam}
use Rattle.std.proofs.lemmas.Bool.{cases_eq}
use Rattle.std.proofs.lemmas.Bool.Decides.{nat_tests}
use Rattle.std.proofs.lemmas.List.{length-map}
use Rattle.tag_bound.specs.Keys.{AreDistinct}
use Rattle.tag_bound.specs.Words.{number_of}
use Rattle.tag_bound.specs.KeyLines.{is_among, key_behind, then_key, keys_from, keys_of}
use Rattle.tag_bound.specs.TextLaws.{IsNoFurtherKey, KeysMeant, FirstBadLine}
use Rattle.tag_bound.proofs.Distinct.{distinct_more, fresh, then_ok}

-- ---- a key after other keys

free_at : (a b : Bool) (k key : ℕ) → cond (a || b) None (Some k) ≡ Some key → (b ≡ false) × (k ≡ key)
free_at true b k key h = absurd cc
free_at false true k key h = absurd cc
free_at false false k key h = (refl, cc)

is_its : (keys : List ℕ) (given : Option ℕ) (key : ℕ) → key_behind keys given ≡ Some key → given ≡ Some key
is_its keys None key h = absurd cc
is_its keys (Some k) key h = ap Some (free_at (is_among keys k) _ k key h).1

has_room : (keys : List ℕ) (given : Option ℕ) (key : ℕ) → key_behind keys given ≡ Some key → length keys < 10000
has_room keys None key h = absurd cc
has_room keys (Some k) key h = let full : nat_le 10000 (length keys) ≡ false = (free_at (is_among keys k) _ k key h).0 in grind (arith, nat_tests)

taken_if : (a b : Bool) (k : ℕ) → a ≡ false → b ≡ false → cond (a || b) None (Some k) ≡ Some k
taken_if a b k e f = rw (e, f) refl

is_taken : (keys : List ℕ) (k : ℕ) → is_among keys k ≡ false → length keys < 10000 → key_behind keys (Some k) ≡ Some k
is_taken keys k new room = let free : nat_le 10000 (length keys) ≡ false = grind (arith, nat_tests) in taken_if (is_among keys k) (nat_le 10000 (length keys)) k new free

why_not : (a b : Bool) (k : ℕ) → cond (a || b) None (Some k) ≡ None → (a ≡ true) ⊎ (b ≡ true)
why_not true b k h = inl refl
why_not false true k h = inr refl
why_not false false k h = absurd cc

no_further : (keys line : List ℕ) (given : Option ℕ) → number_of line ≡ given → key_behind keys given ≡ None → IsNoFurtherKey keys line
no_further keys line None e h = inl e
no_further keys line (Some k) e h = elim (why_not (is_among keys k) (nat_le 10000 (length keys)) k h) [
  | inl among ↦ inr (inr (k, e, among))
  | inr full ↦ inr (inl (grind (arith, nat_tests)))
]

not_taken : (a b : Bool) (k : ℕ) → (a ≡ true) ⊎ (b ≡ true) → cond (a || b) None (Some k) ≡ None
not_taken true b k why = refl
not_taken false true k why = refl
not_taken false false k (inl h) = absurd cc
not_taken false false k (inr h) = absurd cc

full_behind : (keys : List ℕ) (given : Option ℕ) → 10000 ≤ length keys → key_behind keys given ≡ None
full_behind keys None full = refl
full_behind keys (Some k) full = let e : nat_le 10000 (length keys) ≡ true = grind (arith, nat_tests) in not_taken (is_among keys k) (nat_le 10000 (length keys)) k (inr e)

none_behind : (keys line : List ℕ) → IsNoFurtherKey keys line → key_behind keys (number_of line) ≡ None
none_behind keys line (inl none) = ap (key_behind keys) none
none_behind keys line (inr (inl full)) = full_behind keys (number_of line) full
none_behind keys line (inr (inr is)) = ap (key_behind keys) is.1 ∙ not_taken (is_among keys is.0) (nat_le 10000 (length keys)) is.0 (inl is.2)

-- ---- what the meaning of a text says of its lines

-- the keys that were read so far
record AreSoFar (keys : List ℕ) : Type 0 where
  distinct : AreDistinct keys
  few : length keys ≤ 10000

one_more : (keys : List ℕ) (given : Option ℕ) (k : ℕ) → AreSoFar keys → key_behind keys given ≡ Some k → AreSoFar (keys ++ k ∷ [])
one_more keys given k so has = record {
  distinct = distinct_more keys k so.distinct (fresh keys given k has);
  few = omega (arith, has_room keys given k has, length-append keys (k ∷ []));
}

mapped : (line : List ℕ) (more : List (List ℕ)) (k : ℕ) (keys : List ℕ) → number_of line ≡ Some k → map number_of more ≡ map (λ (n : ℕ). Some n) keys → map number_of (line ∷ more) ≡ map (λ (n : ℕ). Some n) (k ∷ keys)
mapped line more k keys e es = cc

all_read : (front : List ℕ) (all : List (List ℕ)) (keys : List ℕ) → AreSoFar front → keys_from front all ≡ Ok keys →
    (behind : List ℕ) × (keys ≡ front ++ behind) × (map number_of all ≡ map (λ (n : ℕ). Some n) behind) × AreSoFar keys
all_read front [] keys so means = let e : front ≡ keys = cc in ([], sym e ∙ sym (append-nil front), refl, subst AreSoFar e so)
all_read front (line ∷ more) keys so means =
    let at = then_ok front (key_behind front (number_of line)) (λ now. keys_from now more) keys means in
    let rest = all_read (front ++ at.0 ∷ []) more keys (one_more front (number_of line) at.0 so at.1) at.2 in
    (at.0 ∷ rest.0, rest.1 ∙ append_assoc front (at.0 ∷ []) rest.0, mapped line more at.0 rest.0 (is_its front (number_of line) at.0 at.1) rest.2, rest.3)

-- the first line that is refused, after lines with these keys
record IsBadBehind (front : List ℕ) (all : List (List ℕ)) (n : ℕ) : Type 0 where
  good : List (List ℕ)
  line : List ℕ
  rest : List (List ℕ)
  keys : List ℕ
  cut : all ≡ good ++ line ∷ rest
  each : map number_of good ≡ map (λ (n : ℕ). Some n) keys
  number : n ≡ length front + length good + 1
  so_far : AreSoFar (front ++ keys)
  none : key_behind (front ++ keys) (number_of line) ≡ None

err_at : (front : List ℕ) (line : List ℕ) (more : List (List ℕ)) (given : Option ℕ) (n : ℕ) → key_behind front (number_of line) ≡ given → AreSoFar front → then_key front given (λ now. keys_from now more) ≡ Err n →
    ((k : ℕ) → given ≡ Some k → keys_from (front ++ k ∷ []) more ≡ Err n → IsBadBehind front (line ∷ more) n) → IsBadBehind front (line ∷ more) n
err_at front line more None n has so means later = record {
  good = [];
  line = line;
  rest = more;
  keys = [];
  cut = refl;
  each = refl;
  number = let e : length front + 1 ≡ n = cc in omega (arith, e);
  so_far = subst AreSoFar (sym (append-nil front)) so;
  none = ap (λ (keys : List ℕ). key_behind keys (number_of line)) (append-nil front) ∙ has;
}
err_at front line more (Some k) n has so means later = later k refl means

put_before : (front line : List ℕ) (more : List (List ℕ)) (k n : ℕ) → number_of line ≡ Some k → IsBadBehind (front ++ k ∷ []) more n → IsBadBehind front (line ∷ more) n
put_before front line more k n e bad =
    let keys_e : (front ++ k ∷ []) ++ bad.keys ≡ front ++ (k ∷ bad.keys) = append_assoc front (k ∷ []) bad.keys in
    record {
      good = line ∷ bad.good;
      line = bad.line;
      rest = bad.rest;
      keys = k ∷ bad.keys;
      cut = ap (λ (ls : List (List ℕ)). line ∷ ls) bad.cut;
      each = mapped line bad.good k bad.keys e bad.each;
      number = omega (arith, bad.number, length-append front (k ∷ []));
      so_far = subst AreSoFar keys_e bad.so_far;
      none = ap (λ (keys : List ℕ). key_behind keys (number_of bad.line)) (sym keys_e) ∙ bad.none;
    }

bad_read : (front : List ℕ) (all : List (List ℕ)) (n : ℕ) → AreSoFar front → keys_from front all ≡ Err n → IsBadBehind front all n
bad_read front [] n so means = absurd cc
bad_read front (line ∷ more) n so means =
    err_at front line more (key_behind front (number_of line)) n refl so means
    (λ k has rest. put_before front line more k n (is_its front (number_of line) k has) (bad_read (front ++ k ∷ []) more n (one_more front (number_of line) k so has) rest))

-- ---- how the lines of a text determine its meaning

among_at : (keys : List ℕ) (key : ℕ) → is_among keys key ≡ true → (p : ℕ) × (p < length keys) × (get_or keys p 0 ≡ key)
among_at [] key h = absurd cc
among_at (x ∷ keys) key h = elim (cases_eq x key) [
  | inl e ↦ (0, omega arith, e)
  | inr other ↦
      let no_match : eqb x key ≡ false = grind (arith, nat_tests) in
      let rest = among_at keys key (rw no_match at h) in
      (suc rest.0, omega (arith, rest.1), rest.2)
]

not_among : (keys more : List ℕ) (k : ℕ) (b : Bool) → is_among keys k ≡ b → AreDistinct (keys ++ k ∷ more) → is_among keys k ≡ false
not_among keys more k false e distinct = e
not_among keys more k true e distinct =
    let at = among_at keys k e in
    let here : get_or (keys ++ k ∷ more) (length keys) 0 ≡ k = get_or-append_seam keys k more 0 in
    let there : get_or (keys ++ k ∷ more) at.0 0 ≡ k = get_or-append keys (k ∷ more) 0 at.0 at.1 ∙ at.2 in
    absurd (distinct (length keys) (omega (arith, length-append keys (k ∷ more)), (at.0, at.1, there ∙ sym here)))

passed : (front keys : List ℕ) (good more : List (List ℕ)) → map number_of good ≡ map (λ (n : ℕ). Some n) keys → AreSoFar (front ++ keys) → keys_from front (good ++ more) ≡ keys_from (front ++ keys) more
passed front [] [] more each so = ap (λ (keys : List ℕ). keys_from keys more) (sym (append-nil front))
passed front (k ∷ keys) [] more each so = absurd cc
passed front [] (line ∷ good) more each so = absurd cc
passed front (k ∷ keys) (line ∷ good) more each so =
    let own : number_of line ≡ Some k = cc in
    let others : map number_of good ≡ map (λ (n : ℕ). Some n) keys = cc in
    let new = not_among front keys k (is_among front k) refl so.distinct in
    let room : length front < 10000 = omega (arith, so.few, length-append front (k ∷ keys)) in
    let has : key_behind front (number_of line) ≡ Some k = ap (key_behind front) own ∙ is_taken front k new room in
    let keys_e : front ++ (k ∷ keys) ≡ (front ++ k ∷ []) ++ keys = sym (append_assoc front (k ∷ []) keys) in
    ap (λ (given : Option ℕ). then_key front given (λ now. keys_from now (good ++ more))) has
    ∙ passed (front ++ k ∷ []) keys good more others (subst AreSoFar keys_e so)
    ∙ ap (λ (all : List ℕ). keys_from all more) (sym keys_e)

none_yet : AreSoFar []
none_yet = record { distinct = λ place repeat. absurd (omega (arith, repeat.0)); few = omega arith }

pub keys_meant : KeysMeant
unfolding keys_of
keys_meant text keys = (
  λ means.
      let read = all_read [] (lines text) keys none_yet means in
      record { each = read.2 ∙ ap (λ (ks : List ℕ). map (λ (n : ℕ). Some n) ks) (sym read.1); distinct = read.3.distinct; few = read.3.few },
  λ have.
      ap (keys_from []) (sym (append-nil (lines text)))
      ∙ passed [] keys (lines text) [] have.each (record { distinct = have.distinct; few = have.few }),
)

pub first_bad_line : FirstBadLine
unfolding keys_of
first_bad_line text n = (
  λ means.
      let bad = bad_read [] (lines text) n none_yet means in
      record {
        front = bad.good;
        line = bad.line;
        behind = bad.rest;
        keys = bad.keys;
        cut = bad.cut;
        good = record { each = bad.each; distinct = bad.so_far.distinct; few = bad.so_far.few };
        number = omega (arith, bad.number);
        bad = no_further bad.keys bad.line (number_of bad.line) refl bad.none;
      },
  λ bad.
      let count : length bad.keys ≡ length bad.front = sym (length-map bad.keys (λ (n : ℕ). Some n)) ∙ ap length (sym bad.good.each) ∙ length-map bad.front number_of in
      let number : length bad.keys + 1 ≡ n = omega (arith, count, bad.number) in
      ap (keys_from []) bad.cut
      ∙ passed [] bad.keys bad.front (bad.line ∷ bad.behind) bad.good.each (record { distinct = bad.good.distinct; few = bad.good.few })
      ∙ ap (λ (given : Option ℕ). then_key bad.keys given (λ now. keys_from now bad.behind)) (none_behind bad.keys bad.line bad.bad)
      ∙ ap (λ (m : ℕ). Err m) number,
)
