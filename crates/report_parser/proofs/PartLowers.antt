-- Lower bounds for parts: some text of a part shares with a word as many leading octets as the fit says.
use Rattle.std.proofs.Common.{◌≡◌, ℕ, zero, suc, ◌+◌, ◌-◌, ◌*◌, ◌/◌, ◌%◌, ◌^◌, ◌≤◌, ◌<◌, Bool, true, false, not, ◌&&◌, ◌||◌, cond, eqb, List, [], ◌∷◌, ◌++◌, length, get_or, take, drop, Option, Some, None, refl, sym, ap, ◌∙◌, subst, length-append, arith, rules, inl, inr}
use Rattle.std.specs.Prelude.{◌⊎◌, nat_le, max, min, map, slice_index, slice_get, unwrap_or, is_some}
use Rattle.std.specs.Int.{w64, to_be_bytes, from_be_bytes}
use Rattle.std.specs.List.{list_all, position_from}
use Rattle.std.specs.Str.{bytes_eq}
use Rattle.std.specs.Fmt.{decimal}
use Rattle.std.proofs.lemmas.Fmt.{decimal-digits_value}
use Rattle.std.proofs.lemmas.Str.Parse.{IsNumeralModel, numerals_by_fold}
use Rattle.std.proofs.lemmas.Nat.{be_bytes_8}
use Rattle.std.proofs.lemmas.List.{take-append-drop, length-take-le}
use Rattle.std.proofs.lemmas.List.Sums.{prefix_len-le-length}
use Rattle.std.proofs.lemmas.List.Folds.{list_all-append}
use Rattle.std.proofs.lemmas.Slice.Eq.{bytes_eq-Decides}
use borrow.Author.Tests.{eqb-true}
use lib.Chars.{codes}
use Rattle.hex.specs.Hex.{IsBytes, encode_lower, encode_with, lower_digits}
use Rattle.hex.proofs.HexLemmas.{length-encode_with}
use Rattle.qkd_base.specs.declared.lane.Way.{Way}
use Rattle.qkd_base.specs.declared.lane.Way.TheVariants.{Up, Down}
use Rattle.net_model.specs.declared.held.Held.{Held}
use Rattle.net_model.specs.declared.held.Held.TheVariants as states
use Rattle.run_types.specs.declared.end.End.{End}
use Rattle.run_types.specs.declared.end.End.TheVariants as ends
use Rattle.scenario_text.specs.Words.{Word, is_digit, number_on}
use Rattle.scenario_text.specs.Fields.{way_of}
use Rattle.scenario_format.proofs.Clean.{and_left, and_right, and_both}
use Rattle.run_types.specs.declared.payload_kind.PayloadKind.{PayloadKind}
use Rattle.run_types.specs.declared.payload_kind.PayloadKind.TheVariants as kinds
use Rattle.run_types.specs.declared.unsent_cause.UnsentCause.{UnsentCause}
use Rattle.run_types.specs.declared.unsent_cause.UnsentCause.TheVariants as causes
use Rattle.run_types.specs.Words.{node_text, way_text, end_text, up_text, kind_text, state_text, cause_text, tag_octets, tag_text, bytes_text}
use Rattle.report_grammar.specs.Fields.{node_of, end_of, up_of, kind_of, state_of, cause_of}
use Rattle.report_grammar.specs.Tellable.{HasName}
use Rattle.report_parser.specs.declared.part.Part.TheVariants as parts
use Rattle.report_parser.specs.Runs.{common, greatest, is_figure, figures_fit, decimal_on, decimal_fit}
use Rattle.report_parser.specs.Fits.{fit, is_text, is_decimal, is_octets, node_fit}
use Rattle.report_parser.specs.Misfit.{AreNamed}
use Rattle.report_parser.proofs.Lower.{Known, IsHeld, widen}

-- ---- decimal numbers

own : IsNumeralModel (λ ds. list_all is_digit ds ≡ true) (number_on 0)
own = numerals_by_fold _ (search rules) number_on (search rules)

abbrev Accepted : (most v : ℕ) → Word → Type 0
Accepted most v ds = (list_all is_digit ds ≡ true) × (number_on v ds ≤ most)

one_more : (n : ℕ) → 1 + n ≡ suc n
one_more n = omega arith

digit_at : (most v : ℕ) (first : Bool) (c : ℕ) (cs : Word) (b : Bool) → (is_digit c && (first || not (eqb v 0)) && nat_le (10 * v + (c - 48)) most) ≡ b → v ≤ most
    → (10 * v + (c - 48) ≤ most → Accepted most (10 * v + (c - 48)) (take (decimal_on most (10 * v + (c - 48)) false cs) cs)) → Accepted most v (take (decimal_on most v first (c ∷ cs)) (c ∷ cs))
digit_at most v first c cs true e le rest =
    let front : (is_digit c && (first || not (eqb v 0))) ≡ true = and_left (is_digit c && (first || not (eqb v 0))) (nat_le (10 * v + (c - 48)) most) e in
    let digit : is_digit c ≡ true = and_left (is_digit c) (first || not (eqb v 0)) front in
    let room : 10 * v + (c - 48) ≤ most = let t : nat_le (10 * v + (c - 48)) most ≡ true = and_right (is_digit c && (first || not (eqb v 0))) (nat_le (10 * v + (c - 48)) most) e in grind (arith, t) in
    let r = rest room in
    rw (e, one_more (decimal_on most (10 * v + (c - 48)) false cs)) (and_both (is_digit c) (list_all is_digit (take (decimal_on most (10 * v + (c - 48)) false cs) cs)) digit r.0, r.1)
digit_at most v first c cs false e le rest = rw e (refl, le)

accepted : (most v : ℕ) (first : Bool) (cs : Word) → v ≤ most → Accepted most v (take (decimal_on most v first cs) cs)
accepted most v first [] le = (refl, le)
accepted most v first (c ∷ cs) le = digit_at most v first c cs _ refl le (λ room. accepted most (10 * v + (c - 48)) false cs room)

none_behind : (most : ℕ) (cs : Word) → decimal_on most 0 false cs ≡ 0
none_behind most [] = refl
none_behind most (c ∷ cs) = at (is_digit c)
  where
    at : (b : Bool) → cond (b && (false || not (eqb 0 0)) && nat_le (10 * 0 + (c - 48)) most) (1 + decimal_on most (10 * 0 + (c - 48)) false cs) 0 ≡ 0
    at true = refl
    at false = refl

short_run : (p : Bool) (n : ℕ) → n ≡ 0 → cond p (1 + n) 0 ≤ 1
short_run true n e = omega arith
short_run false n e = omega arith

lone_zero : (most : ℕ) (w : Word) → get_or w 0 0 ≡ 48 → decimal_fit most w ≤ 1
lone_zero most [] e = omega arith
lone_zero most (c ∷ cs) e =
    let value : 10 * 0 + (c - 48) ≡ 0 = omega arith in
    short_run (is_digit c && (true || not (eqb 0 0)) && nat_le (10 * 0 + (c - 48)) most) (decimal_on most (10 * 0 + (c - 48)) false cs) (ap (λ (v : ℕ). decimal_on most v false cs) value ∙ none_behind most cs)

first_kept : (w : Word) (k : ℕ) → 1 ≤ k → get_or (take k w) 0 0 ≡ get_or w 0 0
first_kept w zero h = absurd (omega arith)
first_kept [] (suc k) h = refl
first_kept (c ∷ cs) (suc k) h = refl

at_most_more : (p : Bool) (m n : ℕ) → m ≤ n → cond p (1 + m) 0 ≤ suc n
at_most_more true m n h = omega arith
at_most_more false m n h = omega arith

run_short : (most v : ℕ) (first : Bool) (cs : Word) → decimal_on most v first cs ≤ length cs
run_short most v first [] = omega arith
run_short most v first (c ∷ cs) = at_most_more _ (decimal_on most (10 * v + (c - 48)) false cs) (length cs) (run_short most (10 * v + (c - 48)) false cs)

-- The leading digits that fit are those of a number in range.
front_number : (most : ℕ) (w : Word) → most < 2 ^ 64 → 1 ≤ decimal_fit most w → (n : ℕ) × (n ≤ most) × (decimal n ≡ take (decimal_fit most w) w)
front_number most w limit some =
    let k = decimal_fit most w in
    let ds = take k w in
    let a = accepted most 0 true w (omega arith) in
    let long : length ds ≡ k = length-take-le k w (run_short most 0 true w) in
    let lone : get_or ds 0 0 ≡ 48 → length ds ≡ 1 = λ z. let s = lone_zero most w (sym (first_kept w k some) ∙ z) in omega arith in
    (number_on 0 ds, a.1, decimal-digits_value own ds a.0 (omega arith) lone (let r = a.1 in omega arith))

self_common : (t r : Word) → length t ≤ common t (t ++ r)
self_common [] r = omega arith
self_common (c ∷ t) r = at (eqb c c) (common t (t ++ r)) (length t) (grind arith) (self_common t r)
  where
    at : (b : Bool) (m l : ℕ) → b ≡ true → l ≤ m → suc l ≤ cond b (1 + m) 0
    at true m l e h = omega arith
    at false m l e h = absurd cc

front_near : (w : Word) (k : ℕ) → k ≤ length w → k ≤ common (take k w) w
front_near w k h =
    let s = self_common (take k w) (drop k w) in
    let e : common (take k w) (take k w ++ drop k w) ≡ common (take k w) w = ap (common (take k w)) (take-append-drop k w) in
    let l = length-take-le k w h in omega arith

near_number : (most : ℕ) (w : Word) → most < 2 ^ 64 → (b : Bool) → eqb (decimal_fit most w) 0 ≡ b → (n : ℕ) × (n ≤ most) × (decimal_fit most w ≤ common (decimal n) w)
near_number most w limit true e = (0, omega arith, let z = eqb-true _ _ e in omega arith)
near_number most w limit false e =
    let some : 1 ≤ decimal_fit most w = grind (arith, e) in
    let f = front_number most w limit some in
    let near : decimal_fit most w ≤ common (take (decimal_fit most w) w) w = front_near w (decimal_fit most w) (run_short most 0 true w) in
    (f.0, f.1, let s : common (decimal f.0) w ≡ common (take (decimal_fit most w) w) w = ap (λ (t : Word). common t w) f.2 in omega arith)

pub closest_number : (most : ℕ) (w : Word) → most < 2 ^ 64 → (n : ℕ) × (n ≤ most) × (decimal_fit most w ≤ common (decimal n) w)
closest_number most w limit = near_number most w limit (eqb (decimal_fit most w) 0) refl

whole_take : (w : Word) (k : ℕ) → k ≡ length w → take k w ≡ w
whole_take w k e = ap (λ (n : ℕ). take n w) e ∙ all w
  where
    all : (x : Word) → take (length x) x ≡ x
    all [] = refl
    all (c ∷ cs) = ap (λ (y : Word). c ∷ y) (all cs)

no_test : (b : Bool) → not b ≡ true → b ≡ false
no_test true h = cc
no_test false h = refl

pub exact_number : (most : ℕ) (w : Word) → most < 2 ^ 64 → is_decimal most w ≡ true → (n : ℕ) × (n ≤ most) × (w ≡ decimal n)
exact_number most w limit h =
    let some : eqb (length w) 0 ≡ false = no_test _ (and_left _ _ h) in
    let all : decimal_fit most w ≡ length w = eqb-true _ _ (and_right (not (eqb (length w) 0)) _ h) in
    let f = front_number most w limit (grind (arith, some, all)) in
    (f.0, f.1, sym (f.2 ∙ whole_take w (decimal_fit most w) all))

pub link_known : (nodes : List (List ℕ)) → Known nodes parts.Link
unfolding fit is_text
link_known nodes = record {
  closest = λ w. let m = closest_number 31 w (omega arith) in let h : m.0 ≤ 31 = m.1 in (m.0, omega arith, m.2);
  exact = λ w e. let m = exact_number 31 w (omega arith) e in let h : m.0 ≤ 31 = m.1 in (m.0, omega arith, m.2);
}

pub byte_known : (nodes : List (List ℕ)) → Known nodes parts.Byte
unfolding fit is_text
byte_known nodes = record {
  closest = λ w. let m = closest_number 255 w (omega arith) in let h : m.0 ≤ 255 = m.1 in (m.0, omega arith, m.2);
  exact = λ w e. let m = exact_number 255 w (omega arith) e in let h : m.0 ≤ 255 = m.1 in (m.0, omega arith, m.2);
}

pub short_known : (nodes : List (List ℕ)) → Known nodes parts.Short
unfolding fit is_text
short_known nodes = record {
  closest = λ w. let m = closest_number 65535 w (omega arith) in let h : m.0 ≤ 65535 = m.1 in (m.0, omega arith, m.2);
  exact = λ w e. let m = exact_number 65535 w (omega arith) e in let h : m.0 ≤ 65535 = m.1 in (m.0, omega arith, m.2);
}

pub number_known : (nodes : List (List ℕ)) → Known nodes parts.Number
unfolding fit is_text
number_known nodes = record {
  closest = λ w. let m = closest_number 4294967295 w (omega arith) in let h : m.0 ≤ 4294967295 = m.1 in (m.0, omega arith, m.2);
  exact = λ w e. let m = exact_number 4294967295 w (omega arith) e in let h : m.0 ≤ 4294967295 = m.1 in (m.0, omega arith, m.2);
}

pub long_known : (nodes : List (List ℕ)) → Known nodes parts.Long
unfolding fit is_text
long_known nodes = record {
  closest = λ w. let m = closest_number 18446744073709551615 w (omega arith) in let h : m.0 ≤ 18446744073709551615 = m.1 in (m.0, omega arith, m.2);
  exact = λ w e. let m = exact_number 18446744073709551615 w (omega arith) e in let h : m.0 ≤ 18446744073709551615 = m.1 in (m.0, omega arith, m.2);
}

-- ---- words of a fixed choice

module _ {V : Type 0} (f : V → Word) (w : Word) where
  choose : (u v : V) (m : ℕ) (b : Bool) → nat_le (common (f u) w) m ≡ b → m ≤ common (f v) w → (x : V) × (max (common (f u) w) m ≤ common (f x) w)
  choose u v m true e h = (v, grind (arith, e, h))
  choose u v m false e h = (u, grind (arith, e))

  pub closest_of : (u : V) (vs : List V) → (x : V) × (greatest (map (λ t. common t w) (map f (u ∷ vs))) ≤ common (f x) w)
  closest_of u [] = (u, omega arith)
  closest_of u (v ∷ vs) = let m = closest_of v vs in choose u m.0 (greatest (map (λ t. common t w) (map f (v ∷ vs)))) _ refl m.1

step : {A : Type 0} (b : Bool) (w t : Word) (a : A) (rest : Option A) → (b ≡ true → w ≡ t) → is_some (cond b (Some a) rest) ≡ true → (w ≡ t) ⊎ (is_some rest ≡ true)
step true w t a rest same h = inl (same refl)
step false w t a rest same h = inr h

is_word : (w t : Word) → bytes_eq w t ≡ true → w ≡ t
is_word w t = (bytes_eq-Decides w t).0

way_exact : (w : Word) → is_some (way_of w) ≡ true → (v : Way) × Unit {0} × (w ≡ way_text v)
way_exact w h = elim (step (bytes_eq w (codes "up")) w (codes "up") Up _ (is_word w (codes "up")) h) as (λ _. (v : Way) × Unit {0} × (w ≡ way_text v)) [
  | inl e ↦ (Up, tt, e)
  | inr h1 ↦ elim (step (bytes_eq w (codes "down")) w (codes "down") Down None (is_word w (codes "down")) h1) as (λ _. (v : Way) × Unit {0} × (w ≡ way_text v)) [ inl e ↦ (Down, tt, e) | inr h2 ↦ absurd cc ]
]

pub way_known : (nodes : List (List ℕ)) → Known nodes parts.Way
unfolding fit is_text
way_known nodes = record { closest = λ w. let m = closest_of way_text w Up (Down ∷ []) in (m.0, tt, m.1); exact = way_exact }

up_exact : (w : Word) → is_some (up_of w) ≡ true → (v : Bool) × Unit {0} × (w ≡ up_text v)
up_exact w h = elim (step (bytes_eq w (codes "up")) w (codes "up") true _ (is_word w (codes "up")) h) as (λ _. (v : Bool) × Unit {0} × (w ≡ up_text v)) [
  | inl e ↦ (true, tt, e)
  | inr h1 ↦ elim (step (bytes_eq w (codes "down")) w (codes "down") false None (is_word w (codes "down")) h1) as (λ _. (v : Bool) × Unit {0} × (w ≡ up_text v)) [ inl e ↦ (false, tt, e) | inr h2 ↦ absurd cc ]
]

pub up_known : (nodes : List (List ℕ)) → Known nodes parts.Up
unfolding fit is_text
up_known nodes = record { closest = λ w. let m = closest_of up_text w true (false ∷ []) in (m.0, tt, m.1); exact = up_exact }

end_exact : (w : Word) → is_some (end_of w) ≡ true → (v : End) × Unit {0} × (w ≡ end_text v)
end_exact w h = elim (step (bytes_eq w (codes "low")) w (codes "low") ends.Low _ (is_word w (codes "low")) h) as (λ _. (v : End) × Unit {0} × (w ≡ end_text v)) [
  | inl e ↦ (ends.Low, tt, e)
  | inr h1 ↦ elim (step (bytes_eq w (codes "high")) w (codes "high") ends.High None (is_word w (codes "high")) h1) as (λ _. (v : End) × Unit {0} × (w ≡ end_text v)) [ inl e ↦ (ends.High, tt, e) | inr h2 ↦ absurd cc ]
]

pub end_known : (nodes : List (List ℕ)) → Known nodes parts.End
unfolding fit is_text
end_known nodes = record { closest = λ w. let m = closest_of end_text w ends.Low (ends.High ∷ []) in (m.0, tt, m.1); exact = end_exact }

cause_exact : (w : Word) → is_some (cause_of w) ≡ true → (v : UnsentCause) × Unit {0} × (w ≡ cause_text v)
cause_exact w h = elim (step (bytes_eq w (codes "wire-fault")) w (codes "wire-fault") causes.WireFault _ (is_word w (codes "wire-fault")) h) as (λ _. (v : UnsentCause) × Unit {0} × (w ≡ cause_text v)) [
  | inl e ↦ (causes.WireFault, tt, e)
  | inr h1 ↦ elim (step (bytes_eq w (codes "memory")) w (codes "memory") causes.Memory None (is_word w (codes "memory")) h1) as (λ _. (v : UnsentCause) × Unit {0} × (w ≡ cause_text v)) [ inl e ↦ (causes.Memory, tt, e) | inr h2 ↦ absurd cc ]
]

pub cause_known : (nodes : List (List ℕ)) → Known nodes parts.Cause
unfolding fit is_text
cause_known nodes = record { closest = λ w. let m = closest_of cause_text w causes.WireFault (causes.Memory ∷ []) in (m.0, tt, m.1); exact = cause_exact }

abbrev KindOf : Word → Type 0
KindOf w = (v : PayloadKind) × Unit {0} × (w ≡ kind_text v)

kind_exact : (w : Word) → is_some (kind_of w) ≡ true → KindOf w
kind_exact w h = elim (step (bytes_eq w (codes "key")) w (codes "key") kinds.Key _ (is_word w (codes "key")) h) as (λ _. KindOf w) [
  | inl e ↦ (kinds.Key, tt, e)
  | inr h1 ↦
      elim (step (bytes_eq w (codes "stored")) w (codes "stored") kinds.Stored _ (is_word w (codes "stored")) h1) as (λ _. KindOf w) [
        | inl e ↦ (kinds.Stored, tt, e)
        | inr h2 ↦
            elim (step (bytes_eq w (codes "ack")) w (codes "ack") kinds.Ack _ (is_word w (codes "ack")) h2) as (λ _. KindOf w) [
              | inl e ↦ (kinds.Ack, tt, e)
              | inr h3 ↦
                  elim (step (bytes_eq w (codes "open")) w (codes "open") kinds.Open _ (is_word w (codes "open")) h3) as (λ _. KindOf w) [
                    | inl e ↦ (kinds.Open, tt, e)
                    | inr h4 ↦
                        elim (step (bytes_eq w (codes "joined")) w (codes "joined") kinds.Joined _ (is_word w (codes "joined")) h4) as (λ _. KindOf w) [
                          | inl e ↦ (kinds.Joined, tt, e)
                          | inr h5 ↦
                              elim (step (bytes_eq w (codes "chunk")) w (codes "chunk") kinds.Chunk _ (is_word w (codes "chunk")) h5) as (λ _. KindOf w) [
                                | inl e ↦ (kinds.Chunk, tt, e)
                                | inr h6 ↦
                                    elim (step (bytes_eq w (codes "part")) w (codes "part") kinds.Part None (is_word w (codes "part")) h6) as (λ _. KindOf w) [ inl e ↦ (kinds.Part, tt, e) | inr h7 ↦ absurd cc ]
                              ]
                        ]
                  ]
            ]
      ]
]

pub kind_known : (nodes : List (List ℕ)) → Known nodes parts.Kind
unfolding fit is_text
kind_known nodes = record { closest = λ w. let m = closest_of kind_text w kinds.Key (kinds.Stored ∷ kinds.Ack ∷ kinds.Open ∷ kinds.Joined ∷ kinds.Chunk ∷ kinds.Part ∷ []) in (m.0, tt, m.1); exact = kind_exact }

-- the states in which a key has bytes
data Held5 : Type 0 where
  given : Held5
  ready : Held5
  made : Held5
  kept : Held5
  relayed : Held5

abbrev held_of : Held5 → Held
held_of given = states.Given
held_of ready = states.Ready
held_of made = states.Made
held_of kept = states.Kept
held_of relayed = states.Relayed

is_held : (v : Held5) → IsHeld (held_of v)
is_held given = tt
is_held ready = tt
is_held made = tt
is_held kept = tt
is_held relayed = tt

abbrev StateOf : Word → Type 0
StateOf w = (v : Held) × IsHeld v × (w ≡ state_text v)

state_exact : (w : Word) → bytes_eq w (codes "absent") ≡ false → is_some (state_of w) ≡ true → StateOf w
state_exact w not_so h = elim (step (bytes_eq w (codes "absent")) w (codes "absent") states.Absent _ (is_word w (codes "absent")) h) as (λ _. StateOf w) [
  | inl e ↦ let y : bytes_eq w (codes "absent") ≡ true = (bytes_eq-Decides w (codes "absent")).1 e in absurd (let k : true ≡ false = sym y ∙ not_so in cc)
  | inr h1 ↦
      elim (step (bytes_eq w (codes "given")) w (codes "given") states.Given _ (is_word w (codes "given")) h1) as (λ _. StateOf w) [
        | inl e ↦ (states.Given, tt, e)
        | inr h2 ↦
            elim (step (bytes_eq w (codes "ready")) w (codes "ready") states.Ready _ (is_word w (codes "ready")) h2) as (λ _. StateOf w) [
              | inl e ↦ (states.Ready, tt, e)
              | inr h3 ↦
                  elim (step (bytes_eq w (codes "made")) w (codes "made") states.Made _ (is_word w (codes "made")) h3) as (λ _. StateOf w) [
                    | inl e ↦ (states.Made, tt, e)
                    | inr h4 ↦
                        elim (step (bytes_eq w (codes "kept")) w (codes "kept") states.Kept _ (is_word w (codes "kept")) h4) as (λ _. StateOf w) [
                          | inl e ↦ (states.Kept, tt, e)
                          | inr h5 ↦
                              elim (step (bytes_eq w (codes "relayed")) w (codes "relayed") states.Relayed None (is_word w (codes "relayed")) h5) as (λ _. StateOf w) [ inl e ↦ (states.Relayed, tt, e) | inr h6 ↦ absurd cc ]
                        ]
                  ]
            ]
      ]
]

pub state_known : (nodes : List (List ℕ)) → Known nodes parts.State
unfolding fit is_text
state_known nodes = record {
  closest = λ w. let m = closest_of (λ (v : Held5). state_text (held_of v)) w given (ready ∷ made ∷ kept ∷ relayed ∷ []) in (held_of m.0, is_held m.0, m.1);
  exact = λ w e. state_exact w (no_test _ (and_left _ _ e)) (and_right (not (bytes_eq w (codes "absent"))) _ e);
}

-- ---- fixed words

itself : (t w : Word) → common t w ≤ common t w
itself t w = omega arith

pub absent_known : (nodes : List (List ℕ)) → Known nodes parts.Absent
unfolding fit is_text
absent_known nodes = record { closest = λ w. (tt, tt, itself (codes "absent") w); exact = λ w e. (tt, tt, is_word w (codes "absent") e) }

pub new_known : (nodes : List (List ℕ)) → Known nodes parts.New
unfolding fit is_text
new_known nodes = record { closest = λ w. (tt, tt, itself (codes "new") w); exact = λ w e. (tt, tt, is_word w (codes "new") e) }

pub again_known : (nodes : List (List ℕ)) → Known nodes parts.Again
unfolding fit is_text
again_known nodes = record { closest = λ w. (tt, tt, itself (codes "again") w); exact = λ w e. (tt, tt, is_word w (codes "again") e) }

pub received_known : (nodes : List (List ℕ)) → Known nodes parts.Received
unfolding fit is_text
received_known nodes = record { closest = λ w. (tt, tt, itself (codes "received") w); exact = λ w e. (tt, tt, is_word w (codes "received") e) }

pub unused_known : (nodes : List (List ℕ)) → Known nodes parts.Unused
unfolding fit is_text
unused_known nodes = record { closest = λ w. (tt, tt, itself (codes "unused") w); exact = λ w e. (tt, tt, is_word w (codes "unused") e) }

pub spent_known : (nodes : List (List ℕ)) → Known nodes parts.Spent
unfolding fit is_text
spent_known nodes = record { closest = λ w. (tt, tt, itself (codes "spent") w); exact = λ w e. (tt, tt, is_word w (codes "spent") e) }

pub burnt_known : (nodes : List (List ℕ)) → Known nodes parts.Burnt
unfolding fit is_text
burnt_known nodes = record { closest = λ w. (tt, tt, itself (codes "burnt") w); exact = λ w e. (tt, tt, is_word w (codes "burnt") e) }

-- ---- octets

abbrev Figure : ℕ → Type 0
Figure c = (v : ℕ) × (v < 16) × (slice_index lower_digits v ≡ c)

by_ten : (k c : ℕ) → k < 10 → 48 + k ≡ c → Figure c
by_ten zero c h e = (0, omega arith, e)
by_ten (suc zero) c h e = (1, omega arith, e)
by_ten (suc (suc zero)) c h e = (2, omega arith, e)
by_ten (suc (suc (suc zero))) c h e = (3, omega arith, e)
by_ten (suc (suc (suc (suc zero)))) c h e = (4, omega arith, e)
by_ten (suc (suc (suc (suc (suc zero))))) c h e = (5, omega arith, e)
by_ten (suc (suc (suc (suc (suc (suc zero)))))) c h e = (6, omega arith, e)
by_ten (suc (suc (suc (suc (suc (suc (suc zero))))))) c h e = (7, omega arith, e)
by_ten (suc (suc (suc (suc (suc (suc (suc (suc zero)))))))) c h e = (8, omega arith, e)
by_ten (suc (suc (suc (suc (suc (suc (suc (suc (suc zero))))))))) c h e = (9, omega arith, e)
by_ten (suc (suc (suc (suc (suc (suc (suc (suc (suc (suc k)))))))))) c h e = absurd (omega arith)

by_six : (k c : ℕ) → k < 6 → 97 + k ≡ c → Figure c
by_six zero c h e = (10, omega arith, e)
by_six (suc zero) c h e = (11, omega arith, e)
by_six (suc (suc zero)) c h e = (12, omega arith, e)
by_six (suc (suc (suc zero))) c h e = (13, omega arith, e)
by_six (suc (suc (suc (suc zero)))) c h e = (14, omega arith, e)
by_six (suc (suc (suc (suc (suc zero))))) c h e = (15, omega arith, e)
by_six (suc (suc (suc (suc (suc (suc k)))))) c h e = absurd (omega arith)

figure_of : (c : ℕ) → is_figure c ≡ true → Figure c
figure_of c h = at (nat_le c 57) refl
  where
    at : (b : Bool) → nat_le c 57 ≡ b → Figure c
    at true e = let low : 48 ≤ c = grind (arith, h, e) in let high : c ≤ 57 = grind (arith, e) in by_ten (c - 48) c (omega arith) (omega arith)
    at false e = let low : 97 ≤ c = grind (arith, h, e) in let high : c ≤ 102 = grind (arith, h, e) in by_six (c - 97) c (omega arith) (omega arith)

byte_first : (b : ℕ) (bs : List ℕ) → b < 256 → IsBytes bs → IsBytes (b ∷ bs)
byte_first b bs h k zero = h
byte_first b bs h k (suc i) = k i

no_bytes : IsBytes []
no_bytes i = omega arith

-- An even number of hexadecimal digits spells octets.
pairs : (n : ℕ) (ds : Word) → length ds ≡ 2 * n → list_all is_figure ds ≡ true → (bs : List ℕ) × IsBytes bs × (length bs ≡ n) × (ds ≡ encode_lower bs)
unfolding encode_with
pairs zero [] e h = ([], no_bytes, refl, refl)
pairs zero (a ∷ ds) e h = absurd (omega arith)
pairs (suc n) [] e h = absurd (omega arith)
pairs (suc n) (a ∷ []) e h = absurd (omega arith)
pairs (suc n) (a ∷ b ∷ ds) e h =
    let x = figure_of a (and_left _ _ h) in
    let y = figure_of b (and_left _ _ (and_right (is_figure a) _ h)) in
    let rest = pairs n ds (omega arith) (and_right (is_figure b) _ (and_right (is_figure a) _ h)) in
    let hx : x.0 < 16 = x.1 in
    let hy : y.0 < 16 = y.1 in
    let high : (16 * x.0 + y.0) / 16 ≡ x.0 = omega arith in
    let low : (16 * x.0 + y.0) % 16 ≡ y.0 = omega arith in
    let first : slice_index lower_digits ((16 * x.0 + y.0) / 16) ≡ a = ap (slice_index lower_digits) high ∙ x.2 in
    let second : slice_index lower_digits ((16 * x.0 + y.0) % 16) ≡ b = ap (slice_index lower_digits) low ∙ y.2 in
    ((16 * x.0 + y.0) ∷ rest.0, byte_first (16 * x.0 + y.0) rest.0 (omega arith) rest.1, ap suc rest.2, sym (ap (λ (c : ℕ). c ∷ slice_index lower_digits ((16 * x.0 + y.0) % 16) ∷ encode_lower rest.0) first ∙ ap (λ (c : ℕ). a ∷ c ∷ encode_lower rest.0) second ∙ ap (λ (t : Word). a ∷ b ∷ t) (sym rest.3)))

figures_step : (c : ℕ) (cs : Word) (b : Bool) → is_figure c ≡ b → list_all is_figure (take (figures_fit cs) cs) ≡ true → list_all is_figure (take (figures_fit (c ∷ cs)) (c ∷ cs)) ≡ true
figures_step c cs true e h = rw (e, one_more (figures_fit cs)) (and_both (is_figure c) _ e h)
figures_step c cs false e h = rw e refl

figures_front : (w : Word) → list_all is_figure (take (figures_fit w) w) ≡ true
figures_front [] = refl
figures_front (c ∷ cs) = figures_step c cs (is_figure c) refl (figures_front cs)

take_at : (k c : ℕ) (cs : Word) (b : Bool) → is_figure c ≡ b → suc k ≤ cond (is_figure c) (1 + figures_fit cs) 0 → (k ≤ figures_fit cs → list_all is_figure (take k cs) ≡ true) → list_all is_figure (take (suc k) (c ∷ cs)) ≡ true
take_at k c cs true e le rest = let room : suc k ≤ 1 + figures_fit cs = rw e at le in and_both (is_figure c) _ e (rest (omega arith))
take_at k c cs false e le rest = let none : suc k ≤ 0 = rw e at le in absurd (omega arith)

take_figures : (k : ℕ) (w : Word) → k ≤ figures_fit w → list_all is_figure (take k w) ≡ true
take_figures zero w h = refl
take_figures (suc k) [] h = refl
take_figures (suc k) (c ∷ cs) h = take_at k c cs (is_figure c) refl h (take_figures k cs)

abbrev zeros : ℕ → Word
zeros zero = []
zeros (suc n) = 48 ∷ zeros n

zeros_long : (n : ℕ) → length (zeros n) ≡ n
zeros_long zero = refl
zeros_long (suc n) = ap suc (zeros_long n)

zeros_figures : (n : ℕ) → list_all is_figure (zeros n) ≡ true
zeros_figures zero = refl
zeros_figures (suc n) = zeros_figures n

-- The first k digits of a word, filled up with zeros, spell n octets. The text of these octets shares the k digits with the word.
padded : (k j n : ℕ) (w : Word) → k ≤ figures_fit w → k + j ≡ 2 * n → (bs : List ℕ) × IsBytes bs × (length bs ≡ n) × (k ≤ common (encode_lower bs) w)
padded k j n w le e =
    let ds = take k w ++ zeros j in
    let room : k ≤ length w = let s = prefix_len-le-length is_figure w in omega arith in
    let long : length ds ≡ 2 * n = let a = length-append (take k w) (zeros j) in let b = length-take-le k w room in let c = zeros_long j in omega arith in
    let all : list_all is_figure ds ≡ true = list_all-append is_figure (take k w) (zeros j) ∙ and_both _ _ (take_figures k w le) (zeros_figures j) in
    let p = pairs n ds long all in
    let near : k ≤ common ds w = let f = front_near w k room in let g = widen (take k w) (zeros j) w in omega arith in
    (p.0, p.1, p.2, subst (λ (t : Word). k ≤ common t w) p.3 near)

all_figures : (w : Word) → figures_fit w ≡ length w → list_all is_figure w ≡ true
all_figures w e = ap (list_all is_figure) (sym (whole_take w (figures_fit w) e)) ∙ figures_front w

exact_octets : (w : Word) → is_octets w ≡ true → (bs : List ℕ) × IsBytes bs × (length bs ≡ length w / 2) × (w ≡ encode_lower bs)
exact_octets w h =
    let even : length w % 2 ≡ 0 = eqb-true _ _ (and_left _ _ h) in
    let all : figures_fit w ≡ length w = eqb-true _ _ (and_right (eqb (length w % 2) 0) _ h) in
    pairs (length w / 2) w (omega arith) (all_figures w all)

closest_octets : (w : Word) → (bs : List ℕ) × IsBytes bs × (length bs ≡ (figures_fit w + 1) / 2) × (figures_fit w ≤ common (encode_lower bs) w)
closest_octets w = padded (figures_fit w) (2 * ((figures_fit w + 1) / 2) - figures_fit w) ((figures_fit w + 1) / 2) w (omega arith) (omega arith)

pub octets_known : (nodes : List (List ℕ)) → Known nodes parts.Octets
unfolding fit is_text
octets_known nodes = record { closest = λ w. let m = closest_octets w in (m.0, m.1, m.3); exact = λ w e. let m = exact_octets w e in (m.0, m.1, m.3) }

-- octets, or the hyphen that stands for none
shown : (bs : List ℕ) → 1 ≤ length bs → bytes_text bs ≡ encode_lower bs
shown [] h = absurd (omega arith)
shown (b ∷ bs) h = refl

abbrev NearBytes : Word → Type 0
NearBytes w = (bs : List ℕ) × IsBytes bs × (greatest (common (codes "-") w ∷ figures_fit w ∷ []) ≤ common (bytes_text bs) w)

near_bytes : (w : Word) (b : Bool) → nat_le (figures_fit w) (common (codes "-") w) ≡ b → NearBytes w
near_bytes w true e = let h : figures_fit w ≤ common (codes "-") w = grind (arith, e) in ([], no_bytes, omega arith)
near_bytes w false e =
    let h : common (codes "-") w < figures_fit w = grind (arith, e) in
    let m = closest_octets w in
    let some : 1 ≤ length m.0 = let l : length m.0 ≡ (figures_fit w + 1) / 2 = m.2 in omega arith in
    let near : figures_fit w ≤ common (bytes_text m.0) w = subst (λ (t : Word). figures_fit w ≤ common t w) (sym (shown m.0 some)) m.3 in
    (m.0, m.1, omega arith)

abbrev ExactBytes : Word → Type 0
ExactBytes w = (bs : List ℕ) × IsBytes bs × (w ≡ bytes_text bs)

some_long : (w : Word) → not (eqb (length w) 0) ≡ true → 1 ≤ length w
some_long [] h = absurd cc
some_long (c ∷ cs) h = omega arith

exact_bytes : (w : Word) (b : Bool) → bytes_eq w (codes "-") ≡ b → (bytes_eq w (codes "-") || (not (eqb (length w) 0) && is_octets w)) ≡ true → ExactBytes w
exact_bytes w true e h = ([], no_bytes, is_word w (codes "-") e)
exact_bytes w false e h =
    let g : (not (eqb (length w) 0) && is_octets w) ≡ true = rw e at h in
    let m = exact_octets w (and_right (not (eqb (length w) 0)) _ g) in
    let long = some_long w (and_left _ _ g) in
    let some : 1 ≤ length m.0 = let l = length-encode_with lower_digits m.0 in let same : length w ≡ length (encode_lower m.0) = ap length m.3 in omega arith in
    (m.0, m.1, m.3 ∙ sym (shown m.0 some))

pub bytes_known : (nodes : List (List ℕ)) → Known nodes parts.Bytes
unfolding fit is_text
bytes_known nodes = record { closest = λ w. near_bytes w _ refl; exact = λ w e. exact_bytes w _ refl e }

-- ---- tags

same_octets : (t : ℕ) → tag_octets t 8 ≡ to_be_bytes w64 t
same_octets t = let e : t / 1 ≡ t = omega arith in rw e refl

tag_value : (bs : List ℕ) → IsBytes bs → length bs ≡ 8 → (t : ℕ) × (t < 2 ^ 64) × (tag_text t ≡ encode_lower bs)
tag_value bs h long =
    let a = h 0 in let b = h 1 in let c = h 2 in let d = h 3 in let e = h 4 in let f = h 5 in let g = h 6 in let i = h 7 in
    (from_be_bytes w64 bs, omega arith, ap encode_lower (same_octets (from_be_bytes w64 bs) ∙ be_bytes_8 bs (from_be_bytes w64 bs) long h refl))

pub tag_known : (nodes : List (List ℕ)) → Known nodes parts.Tag
unfolding fit is_text
tag_known nodes = record {
  closest = λ w.
      let k = min (figures_fit w) 16 in
      let m = padded k (16 - k) 8 w (omega arith) (omega arith) in
      let v = tag_value m.0 m.1 m.2 in (v.0, v.1, subst (λ (t : Word). k ≤ common t w) (sym v.2) m.3);
  exact = λ w e.
      let long : length w ≡ 16 = eqb-true _ _ (and_left _ _ e) in
      let m = exact_octets w (and_right (eqb (length w) 16) _ e) in
      let eight : length m.0 ≡ 8 = let l : length m.0 ≡ length w / 2 = m.2 in omega arith in
      let v = tag_value m.0 m.1 eight in (v.0, v.1, m.3 ∙ sym v.2);
}

-- ---- nodes

abbrev NearNode : (nodes : List (List ℕ)) → Word → Type 0
NearNode nodes w = (v : ℕ) × (v < length nodes) × (greatest (map (λ name. common name w) nodes) ≤ common (unwrap_or (slice_get nodes v) []) w)

nearer : (n : List ℕ) (ns : List (List ℕ)) (w : Word) (b : Bool) → nat_le (common n w) (greatest (map (λ name. common name w) ns)) ≡ b → NearNode ns w → NearNode (n ∷ ns) w
nearer n ns w true e (v, lt, h) = (suc v, omega arith, let g : common n w ≤ greatest (map (λ name. common name w) ns) = grind (arith, e) in omega (arith, g, h))
nearer n ns w false e (v, lt, h) = (zero, omega arith, let g : greatest (map (λ name. common name w) ns) < common n w = grind (arith, e) in omega arith)

near_node : (n : List ℕ) (ns : List (List ℕ)) (w : Word) → NearNode (n ∷ ns) w
near_node n [] w = (zero, omega arith, omega arith)
near_node n (m ∷ ns) w = nearer n (m ∷ ns) w _ refl (near_node m ns w)

closest_node : (nodes : List (List ℕ)) → AreNamed nodes → 1 ≤ length nodes → (w : Word) → (v : ℕ) × HasName nodes v × (greatest (map (λ name. common name w) nodes) ≤ common (node_text nodes v) w)
closest_node [] named some w = absurd (omega arith)
closest_node (n ∷ ns) named some w = let m = near_node n ns w in (m.0, named m.0 m.1, m.2)

abbrev Found : (i : ℕ) (nodes : List (List ℕ)) (w : Word) (v : ℕ) → Type 0
Found i nodes w v = (j : ℕ) × (v ≡ i + j) × (j < length nodes) × (unwrap_or (slice_get nodes j) [] ≡ w)

found_at : (i : ℕ) (n : List ℕ) (ns : List (List ℕ)) (w : Word) (v : ℕ) (b : Bool) → bytes_eq n w ≡ b → position_from (λ name. bytes_eq name w) i (n ∷ ns) ≡ Some v
    → (position_from (λ name. bytes_eq name w) (i + 1) ns ≡ Some v → Found (i + 1) ns w v) → Found i (n ∷ ns) w v
found_at i n ns w v true e h rest = let g : Some i ≡ Some v = rw e at h in (0, let s : i ≡ v = cc in omega arith, omega arith, (bytes_eq-Decides n w).0 e)
found_at i n ns w v false e h rest = let m = rest (rw e at h) in (suc m.0, let s : v ≡ i + 1 + m.0 = m.1 in omega arith, let l : m.0 < length ns = m.2 in omega arith, m.3)

found : (i : ℕ) (nodes : List (List ℕ)) (w : Word) (v : ℕ) → position_from (λ name. bytes_eq name w) i nodes ≡ Some v → Found i nodes w v
found i [] w v h = absurd cc
found i (n ∷ ns) w v h = found_at i n ns w v (bytes_eq n w) refl h (found (i + 1) ns w v)

exact_node : (nodes : List (List ℕ)) → AreNamed nodes → (w : Word) (o : Option ℕ) → position_from (λ name. bytes_eq name w) 0 nodes ≡ o → is_some (node_of nodes w) ≡ true → (v : ℕ) × HasName nodes v × (w ≡ node_text nodes v)
unfolding node_of
exact_node nodes named w None e h = let g : false ≡ true = rw e at h in absurd cc
exact_node nodes named w (Some v) e h = let m = found 0 nodes w v e in (m.0, named m.0 m.2, sym m.3)

pub node_known : (nodes : List (List ℕ)) → AreNamed nodes → 1 ≤ length nodes → Known nodes parts.Node
unfolding fit is_text node_fit
node_known nodes named some = record { closest = closest_node nodes named some; exact = λ w e. exact_node nodes named w _ refl e }
