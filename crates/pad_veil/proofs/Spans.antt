-- Frames that overlap, and the first frame that is refused.
use Rattle.std.proofs.Common.{◌≡◌, ℕ, zero, suc, ◌+◌, ◌-◌, ◌<◌, ◌≤◌, max, Bool, true, false, List, [], ◌∷◌, ◌++◌, length, take, drop, get_or, Option, Some, None, refl, sym, ap, ◌∙◌, arith}
use Rattle.std.specs.Prelude.{nat_lt, nat_le, ◌||◌, ◌==◌, not, if◌then◌else◌}
use Rattle.std.specs.List.{All, between, list_any}
use Rattle.std.specs.Option.{option_or}
use Rattle.std.proofs.lemmas.Bool.{and_from, and_parts, or_parts, or_from, ltb-true, ltb-false, leb-true, lt-ltb, le-ltb, le-leb, eqb-true, eq-eqb}
use Rattle.std.proofs.lemmas.List.{take_more, at_drop_more, get_or_default}
use Rattle.std.proofs.lemmas.List.Edits.{length-between, get_or-between}
use Rattle.std.proofs.lemmas.List.Elements.{All-nil, All-cons, All-head}
use Rattle.std.proofs.lemmas.List.Folds.{list_any-append, list_any_at, Any-from_list_any, list_any-from_Any}
use Rattle.pad_veil.specs.declared.sealed_frame.SealedFrame.{SealedFrame}
use Rattle.pad_veil.specs.declared.veil_refusal.VeilRefusal.{VeilRefusal}
use Rattle.pad_veil.specs.declared.veil_refusal.VeilRefusal.TheVariants.{Unequal, Outside, Overlap}
use Rattle.pad_veil.specs.Faults.{end_of, spends, meet, Marks, fault_of, fault_after, first_fault, LieApart}
use Rattle.pad_veil.proofs.Veils.{rest_apart}

same_tests : (a b : Bool) → (a ≡ true → b ≡ true) → (b ≡ true → a ≡ true) → a ≡ b
same_tests true b f g = sym (f refl)
same_tests false true f g = g refl
same_tests false false f g = refl

-- ---- bytes that two frames both spend

spent_from : (f : SealedFrame) (x : ℕ) → f.offset ≤ x → x < end_of f → spends x f ≡ true
spent_from f x low high = and_from (nat_le f.offset x) (nat_lt x (end_of f)) (le-leb f.offset x low) (lt-ltb x (end_of f) high)

spent_low : (f : SealedFrame) (x : ℕ) → spends x f ≡ true → f.offset ≤ x
spent_low f x h = leb-true f.offset x (and_parts (nat_le f.offset x) (nat_lt x (end_of f)) h).0

spent_high : (f : SealedFrame) (x : ℕ) → spends x f ≡ true → x < end_of f
spent_high f x h = ltb-true x (end_of f) (and_parts (nat_le f.offset x) (nat_lt x (end_of f)) h).1

pub meet_from : (f g : SealedFrame) (x : ℕ) → spends x f ≡ true → spends x g ≡ true → meet f g ≡ true
meet_from f g x h k =
    let a = spent_low f x h in
    let b = spent_high f x h in
    let c = spent_low g x k in
    let d = spent_high g x k in
    and_from (nat_lt f.offset (end_of g)) (nat_lt g.offset (end_of f)) (lt-ltb f.offset (end_of g) (omega (arith, a, d))) (lt-ltb g.offset (end_of f) (omega (arith, b, c)))

-- If two frames overlap, both spend the byte at the greater of their offsets.
pub common : (f g : SealedFrame) → meet f g ≡ true → (x : ℕ) × (spends x f ≡ true) × (spends x g ≡ true)
common f g h =
    let both = and_parts (nat_lt f.offset (end_of g)) (nat_lt g.offset (end_of f)) h in
    let a : f.offset < end_of g = ltb-true f.offset (end_of g) both.0 in
    let b : g.offset < end_of f = ltb-true g.offset (end_of f) both.1 in
    let x : ℕ = max f.offset g.offset in
    (x, spent_from f x (omega arith) (omega (arith, b)), spent_from g x (omega arith) (omega (arith, a)))

abbrev pub is_it : Bool → Bool
is_it b = b

-- One of the frame's bytes is marked exactly if the frame overlaps an earlier one.
pub met : (f : SealedFrame) (earlier : List SealedFrame) (spent : List Bool) → end_of f ≤ length spent → Marks earlier spent → All (λ g. end_of g ≤ length spent) earlier
    → list_any is_it (between f.offset (end_of f) spent) ≡ list_any (meet f) earlier
met f earlier spent within marks inside =
    let part : List Bool = between f.offset (end_of f) spent in
    let size : length part ≡ end_of f - f.offset = length-between spent f.offset (end_of f) within in
    same_tests (list_any is_it part) (list_any (meet f) earlier)
    (λ h.
    let at = Any-from_list_any is_it part h in
    let k : ℕ = at.0 in
    let here : k < length part = at.2 in
    let byte : ℕ = f.offset + k in
    let marked : get_or spent byte false ≡ true =
    sym (get_or-between spent f.offset (end_of f) k false (omega (arith, here, size))) ∙ sym (get_or_default part k at.1 false here) ∙ at.3 ∙ at.4 in
    let by = Any-from_list_any (spends byte) earlier (sym (marks byte (omega (arith, here, size, within))) ∙ marked) in
    list_any-from_Any (meet f) earlier (by.0, by.1, by.2, by.3, meet_from f by.1 byte (spent_from f byte (omega arith) (omega (arith, here, size))) by.4))
    (λ h.
    let by = Any-from_list_any (meet f) earlier h in
    let byte = common f by.1 by.4 in
    let low = spent_low f byte.0 byte.1 in
    let high = spent_high f byte.0 byte.1 in
    let any : list_any (spends byte.0) earlier ≡ true = list_any-from_Any (spends byte.0) earlier (by.0, by.1, by.2, by.3, byte.2) in
    let marked : get_or spent byte.0 false ≡ true = marks byte.0 (omega (arith, high, within)) ∙ any in
    let k : ℕ = byte.0 - f.offset in
    let is : f.offset + k ≡ byte.0 = omega (arith, low) in
    list_any_at is_it part k false (omega (arith, size, low, high)) (get_or-between spent f.offset (end_of f) k false (omega (arith, low, high)) ∙ ap (λ (n : ℕ). get_or spent n false) is ∙ marked))

-- ---- faults of a single frame

first_none : (a b c : Bool) (x y z : VeilRefusal) → (if a then Some x else if b then Some y else if c then Some z else None) ≡ None → (a ≡ false) × (b ≡ false) × (c ≡ false)
first_none true b c x y z h = cc
first_none false true c x y z h = cc
first_none false false true x y z h = cc
first_none false false false x y z h = (refl, refl, refl)

none_first : (a b c : Bool) (x y z : VeilRefusal) → a ≡ false → b ≡ false → c ≡ false → (if a then Some x else if b then Some y else if c then Some z else None) ≡ None
none_first a b c x y z p q r = rw (p, q, r) refl

both_none : (a b : Option VeilRefusal) → option_or a b ≡ None → (a ≡ None) × (b ≡ None)
both_none None b h = (refl, h)
both_none (Some x) b h = cc

-- The frame has no fault after these earlier frames.
pub record Passes (size : ℕ) (earlier : List SealedFrame) (f : SealedFrame) : Type 0 where
  pub equal : length f.old ≡ length f.new
  pub low : 8 ≤ f.offset
  pub high : end_of f ≤ size
  pub free : list_any (meet f) earlier ≡ false

not_false : (b : Bool) → not b ≡ false → b ≡ true
not_false true h = refl
not_false false h = cc

pub passes : (size : ℕ) (earlier : List SealedFrame) (f : SealedFrame) → fault_of size earlier f ≡ None → Passes size earlier f
passes size earlier f h =
    let tests = first_none (not (length f.old == length f.new)) (nat_lt f.offset 8 || nat_lt size (end_of f)) (list_any (meet f) earlier) (Unequal (length earlier)) (Outside (length earlier)) (Overlap (length earlier)) h in
    let outside = or_parts (nat_lt f.offset 8) (nat_lt size (end_of f)) tests.1 in
    record {
      equal = eqb-true (length f.old) (length f.new) (not_false (length f.old == length f.new) tests.0);
      low = ltb-false f.offset 8 outside.0;
      high = ltb-false size (end_of f) outside.1;
      free = tests.2;
    }

no_fault : (size : ℕ) (earlier : List SealedFrame) (f : SealedFrame) → Passes size earlier f → fault_of size earlier f ≡ None
no_fault size earlier f p =
    none_first (not (length f.old == length f.new)) (nat_lt f.offset 8 || nat_lt size (end_of f)) (list_any (meet f) earlier) (Unequal (length earlier)) (Outside (length earlier)) (Overlap (length earlier))
    (ap not (eq-eqb (length f.old) (length f.new) p.equal)) (or_from (nat_lt f.offset 8) (nat_lt size (end_of f)) (le-ltb f.offset 8 p.low) (le-ltb size (end_of f) p.high)) p.free

-- ---- all frames

abbrev Free : List SealedFrame → List SealedFrame → Type 0
Free earlier later = All (λ f. list_any (meet f) earlier ≡ false) later

free_push : (g f : SealedFrame) (earlier : List SealedFrame) → list_any (meet g) (earlier ++ f ∷ []) ≡ false → (list_any (meet g) earlier ≡ false) × (meet g f ≡ false)
free_push g f earlier h =
    let parts = or_parts (list_any (meet g) earlier) (meet g f || false) (sym (list_any-append (meet g) earlier (f ∷ [])) ∙ h) in
    (parts.0, (or_parts (meet g f) false parts.1).0)

push_free : (g f : SealedFrame) (earlier : List SealedFrame) → list_any (meet g) earlier ≡ false → meet g f ≡ false → list_any (meet g) (earlier ++ f ∷ []) ≡ false
push_free g f earlier a b = list_any-append (meet g) earlier (f ∷ []) ∙ or_from (list_any (meet g) earlier) (meet g f || false) a (or_from (meet g f) false b refl)

pairs_cons : (f : SealedFrame) (fs : List SealedFrame) (i j : ℕ) (d : SealedFrame) → All (λ g. meet g f ≡ false) fs → ((i j : ℕ) (d : SealedFrame) → i < j → j < length fs → meet (get_or fs j d) (get_or fs i d) ≡ false)
    → i < j → j < length (f ∷ fs) → meet (get_or (f ∷ fs) j d) (get_or (f ∷ fs) i d) ≡ false
pairs_cons f fs i zero d one all lt le = absurd (omega (arith, lt))
pairs_cons f fs zero (suc j) d one all lt le = one j d (omega (arith, le))
pairs_cons f fs (suc i) (suc j) d one all lt le = all i j d (omega (arith, lt)) (omega (arith, le))

apart_from : (size : ℕ) (earlier later : List SealedFrame) → fault_after size earlier later ≡ None → LieApart size later × Free earlier later
apart_from size earlier [] h = (
  record {
    equal = All-nil (λ (f : SealedFrame). length f.old ≡ length f.new);
    low = All-nil (λ (f : SealedFrame). 8 ≤ f.offset);
    high = All-nil (λ (f : SealedFrame). end_of f ≤ size);
    apart = λ i j d lt le. absurd (omega (arith, le));
  },
  All-nil (λ (f : SealedFrame). list_any (meet f) earlier ≡ false),
)
apart_from size earlier (f ∷ fs) h =
    let both = both_none (fault_of size earlier f) (fault_after size (earlier ++ f ∷ []) fs) h in
    let p = passes size earlier f both.0 in
    let rest = apart_from size (earlier ++ f ∷ []) fs both.1 in (
      record {
        equal = All-cons (λ (g : SealedFrame). length g.old ≡ length g.new) f fs p.equal rest.0.equal;
        low = All-cons (λ (g : SealedFrame). 8 ≤ g.offset) f fs p.low rest.0.low;
        high = All-cons (λ (g : SealedFrame). end_of g ≤ size) f fs p.high rest.0.high;
        apart = λ i j d lt le. pairs_cons f fs i j d (λ k e within. (free_push (get_or fs k e) f earlier (rest.1 k e within)).1) rest.0.apart lt le;
      },
      All-cons (λ (g : SealedFrame). list_any (meet g) earlier ≡ false) f fs p.free (λ k e within. (free_push (get_or fs k e) f earlier (rest.1 k e within)).0),
    )

from_apart : (size : ℕ) (earlier later : List SealedFrame) → LieApart size later → Free earlier later → fault_after size earlier later ≡ None
from_apart size earlier [] h free = refl
from_apart size earlier (f ∷ fs) h free =
    let none : fault_of size earlier f ≡ None = no_fault size earlier f (record {
      equal = All-head (λ (g : SealedFrame). length g.old ≡ length g.new) f fs h.equal;
      low = All-head (λ (g : SealedFrame). 8 ≤ g.offset) f fs h.low;
      high = All-head (λ (g : SealedFrame). end_of g ≤ size) f fs h.high;
      free = All-head (λ (g : SealedFrame). list_any (meet g) earlier ≡ false) f fs free;
    }) in
    ap (λ (o : Option VeilRefusal). option_or o (fault_after size (earlier ++ f ∷ []) fs)) none
    ∙ from_apart size (earlier ++ f ∷ []) fs (rest_apart size f fs h)
    (λ k d le. push_free (get_or fs k d) f earlier (free (suc k) d (omega (arith, le))) (h.apart 0 (suc k) d (omega arith) (omega (arith, le))))

pub apart_where : (size : ℕ) (frames : List SealedFrame) → first_fault size frames ≡ None → LieApart size frames
apart_where size frames h = (apart_from size [] frames h).0

pub none_where : (size : ℕ) (frames : List SealedFrame) → LieApart size frames → first_fault size frames ≡ None
none_where size frames h = from_apart size [] frames h (λ k d le. refl)

-- ---- the loop over the frames, one frame further

pub next_passes : (size : ℕ) (frames : List SealedFrame) (i : ℕ) (f : SealedFrame) → i < length frames → f ≡ get_or frames i f → fault_of size (take i frames) f ≡ None
    → fault_after size (take (i + 1) frames) (drop (i + 1) frames) ≡ fault_after size (take i frames) (drop i frames)
next_passes size frames i f lt is none =
    let rest : fault_after size (take i frames) (drop i frames) ≡ option_or (fault_of size (take i frames) (get_or frames i f)) (fault_after size (take i frames ++ get_or frames i f ∷ []) (drop (i + 1) frames)) =
    at_drop_more (fault_after size (take i frames)) frames i f lt in
    let here : fault_of size (take i frames) (get_or frames i f) ≡ None = ap (fault_of size (take i frames)) (sym is) ∙ none in
    ap (λ (l : List SealedFrame). fault_after size l (drop (i + 1) frames)) (take_more frames i f lt)
    ∙ sym (rest ∙ ap (λ (o : Option VeilRefusal). option_or o (fault_after size (take i frames ++ get_or frames i f ∷ []) (drop (i + 1) frames))) here)

pub next_fails : (size : ℕ) (frames : List SealedFrame) (i : ℕ) (f : SealedFrame) (why : VeilRefusal) → i < length frames → f ≡ get_or frames i f → fault_of size (take i frames) f ≡ Some why
    → fault_after size (take i frames) (drop i frames) ≡ Some why
next_fails size frames i f why lt is some =
    let rest : fault_after size (take i frames) (drop i frames) ≡ option_or (fault_of size (take i frames) (get_or frames i f)) (fault_after size (take i frames ++ get_or frames i f ∷ []) (drop (i + 1) frames)) =
    at_drop_more (fault_after size (take i frames)) frames i f lt in
    let here : fault_of size (take i frames) (get_or frames i f) ≡ Some why = ap (fault_of size (take i frames)) (sym is) ∙ some in
    rest ∙ ap (λ (o : Option VeilRefusal). option_or o (fault_after size (take i frames ++ get_or frames i f ∷ []) (drop (i + 1) frames))) here
