-- Part by part: a text that is read as a scenario is the scenario's spelling.
use Rattle.std.proofs.Common.{◌≡◌, ◌∙◌, ◌⊎◌, inl, inr, ℕ, zero, suc, ◌+◌, ◌-◌, ◌≤◌, ◌==◌, Bool, true, false, ◌&&◌, ◌||◌, List, [], ◌∷◌, ◌++◌, length, take, get_or, Option, Some, None, Ok, refl, sym, ap, subst, arith, eqb}
use Rattle.std.specs.Prelude.{nat_lt}
use Rattle.std.specs.List.{list_all, onto_first}
use Rattle.std.specs.Result.{result_unwrap_or}
use Rattle.std.specs.Str.Lines.{strip_carriage_return}
use Rattle.std.proofs.lemmas.Bool.{and_parts, or_parts, ltb-false, eqb-true, false≢true}
use Rattle.std.proofs.lemmas.List.{take_all, length-take}
use Rattle.run_types.specs.declared.scenario.Scenario.{Scenario}
use Rattle.scenario_text.specs.declared.reading.Reading.{Reading}
use Rattle.scenario_text.specs.Words.{words_of}
use Rattle.scenario_text.specs.Line.{Step, Goes, Ends, nothing_read, is_printable, line_at}
use Rattle.scenario_text.specs.Text.{Meaning, scenario_in, text_limit, line_limit, within, last_at, then_lines, parts_from, parts_of, meaning_of}
use Rattle.sae_entitlements.proofs.Pairs.{nobody_allowed}
use Rattle.scenario_format.specs.Form.{said_in, Said, put, said_from, said_by}
use Rattle.scenario_format.proofs.Given.{excluded}
use Rattle.scenario_format.proofs.FirstWords.{more, put_before}
use Rattle.scenario_format.proofs.LineForms.{IsSaid, line_said, last_line}
use Rattle.scenario_format.proofs.Whole.{IsSpelling, ended}

same_ok : (x y : Scenario) → ◌≡◌ {A = Meaning} (Ok x) (Ok y) → x ≡ y
same_ok x y e = ap (λ (m : Meaning). result_unwrap_or m x) e

last_gives : (n : ℕ) (r : Reading) (o : Option Step) (s : Scenario) → last_at n r o ≡ Ok s → (o ≡ Some Ends) × (scenario_in r ≡ s)
unfolding last_at
last_gives n r None s e = absurd cc
last_gives n r (Some Ends) s e = (refl, same_ok (scenario_in r) s e)
last_gives n r (Some (Goes now)) s e = absurd cc

-- Either the line was the last one and ends the scenario, or the lines that follow give the scenario.
then_gives : (n : ℕ) (r : Reading) (o : Option Step) (at_end : Bool) (follows : Reading → Meaning) (s : Scenario) → then_lines n r o at_end follows ≡ Ok s →
    ((o ≡ Some Ends) × (at_end ≡ true) × (scenario_in r ≡ s)) ⊎ ((now : Reading) × (o ≡ Some (Goes now)) × (follows now ≡ Ok s))
unfolding then_lines
then_gives n r None at_end follows s e = absurd cc
then_gives n r (Some Ends) true follows s e = inl (refl, refl, same_ok (scenario_in r) s e)
then_gives n r (Some Ends) false follows s e = absurd cc
then_gives n r (Some (Goes now)) at_end follows s e = inr (now, refl, e)

in_room : {X : Type 0} (left all own : ℕ) (means : Option X) (x : X) → within left all own means ≡ Some x → (all ≤ left) × (means ≡ Some x)
unfolding within
in_room left all own means x e =
    let kept = excluded (nat_lt left all || nat_lt line_limit own) means x e in
    (ltb-false left all (or_parts (nat_lt left all) (nat_lt line_limit own) kept.0).0, kept.1)

-- ---- the last line has no carriage return

no_return_at : (bs : List ℕ) (i : ℕ) → list_all is_printable bs ≡ true → (get_or bs i 0 == 13) ≡ false
no_return_at [] i h = refl
no_return_at (b ∷ bs) zero h = other b (and_parts (is_printable b) (list_all is_printable bs) h).0
  where
    other : (b : ℕ) → is_printable b ≡ true → (b == 13) ≡ false
    other b h = grind arith
no_return_at (b ∷ bs) (suc i) h = no_return_at bs i (and_parts (is_printable b) (list_all is_printable bs) h).1

no_return : (line : List ℕ) → list_all is_printable line ≡ true → strip_carriage_return line ≡ line
no_return line h = let e : (get_or line (length line - 1) 0 == 13) ≡ false = no_return_at line (length line - 1) h in rw e refl

-- ---- the text cut at its line feeds

none_left : {A : Type 0} (xs : List A) → (length xs == 0) ≡ true → xs ≡ []
none_left [] e = refl
none_left (x ∷ xs) e = let never = eqb-true (length (x ∷ xs)) 0 e in absurd (omega (arith, never))

silent : said_in [] ≡ []
unfolding words_of
silent = refl

ends_text : (r : Reading) (lines : List Said) (n : ℕ) (line : List ℕ) (s : Scenario) → IsSaid r lines → line_at r n line ≡ Some Ends → scenario_in r ≡ s → IsSpelling (lines ++ put n (said_in line) []) s
ends_text r lines n line s h e is =
    let last = last_line r n line e in
    subst (IsSpelling (lines ++ put n (said_in line) [])) is
    (subst (λ ws. IsSpelling (lines ++ put n ws []) (scenario_in r)) (sym last.0) (ended r lines n last.1 h))

parts_spelled : (left n : ℕ) (r : Reading) (lines : List Said) (parts : List (List ℕ)) (s : Scenario) → IsSaid r lines → parts_from left n r parts ≡ Ok s → IsSpelling (lines ++ said_from n parts) s
unfolding parts_from
parts_spelled left n r lines [] s h e = absurd cc
parts_spelled left n r lines (part ∷ []) s h e =
    let last = last_gives n r _ s e in
    let line = in_room left (length part) (length part) (line_at r n part) Ends last.0 in
    subst (λ own. IsSpelling (lines ++ put n (said_in own) []) s) (sym (no_return part (last_line r n part line.1).2)) (ends_text r lines n part s h line.1 last.1)
parts_spelled left n r lines (part ∷ next ∷ parts) s h e =
    let own = strip_carriage_return part in
    elim (then_gives n r _ (length next == 0 && length parts == 0) _ s e) [
      | inl last ↦
          let line = in_room left (length part + 1) (length own) (line_at r n own) Ends last.0 in
          let none = and_parts (length next == 0) (length parts == 0) last.1 in
          let behind : said_from (n + 1) (next ∷ parts) ≡ [] =
          ap (λ (x : List ℕ). said_from (n + 1) (x ∷ parts)) (none_left next none.0) ∙ ap (λ (xs : List (List ℕ)). said_from (n + 1) ([] ∷ xs)) (none_left parts none.1) ∙ ap (λ ws. put (n + 1) ws []) silent in
          subst (λ (xs : List Said). IsSpelling (lines ++ put n (said_in own) xs) s) (sym behind) (ends_text r lines n own s h line.1 last.2)
      | inr more ↦
          let line = in_room left (length part + 1) (length own) (line_at r n own) (Goes more.0) more.1 in
          subst (λ (xs : List Said). IsSpelling xs s) (put_before lines n (said_in own) (said_from (n + 1) (next ∷ parts)))
          (parts_spelled (left - (length part + 1)) (n + 1) more.0 (lines ++ put n (said_in own) []) (next ∷ parts) s (line_said r lines n own more.0 h line.1) more.2)
    ]

-- ---- a text that is read is no longer than the limit

total : List (List ℕ) → ℕ
total [] = 0
total (part ∷ []) = length part
total (part ∷ next ∷ parts) = length part + 1 + total (next ∷ parts)

parts_fit : (left n : ℕ) (r : Reading) (parts : List (List ℕ)) (s : Scenario) → parts_from left n r parts ≡ Ok s → total parts ≤ left
unfolding parts_from total
parts_fit left n r [] s e = absurd cc
parts_fit left n r (part ∷ []) s e = (in_room left (length part) (length part) (line_at r n part) Ends (last_gives n r _ s e).0).0
parts_fit left n r (part ∷ next ∷ parts) s e =
    let own = strip_carriage_return part in
    elim (then_gives n r _ (length next == 0 && length parts == 0) _ s e) [
      | inl last ↦
          let line = in_room left (length part + 1) (length own) (line_at r n own) Ends last.0 in
          let none = and_parts (length next == 0) (length parts == 0) last.1 in
          let few : total (next ∷ parts) ≡ 0 = ap (λ (x : List ℕ). total (x ∷ parts)) (none_left next none.0) ∙ ap (λ (xs : List (List ℕ)). total ([] ∷ xs)) (none_left parts none.1) in
          let room = line.0 in
          omega (arith, room, few)
      | inr more ↦
          let line = in_room left (length part + 1) (length own) (line_at r n own) (Goes more.0) more.1 in
          let rest = parts_fit (left - (length part + 1)) (n + 1) more.0 (next ∷ parts) s more.2 in
          let room = line.0 in
          omega (arith, room, rest)
    ]

record Cut (bytes : List ℕ) : Type 0 where
  first : List ℕ
  others : List (List ℕ)
  is : parts_of bytes ≡ first ∷ others
  size : total (first ∷ others) ≡ length bytes

longer : (x : ℕ) (first : List ℕ) (others : List (List ℕ)) → total ((x ∷ first) ∷ others) ≡ suc (total (first ∷ others))
unfolding total
longer x first [] = refl
longer x first (next ∷ others) = omega arith

cut_onto : (x : ℕ) (b : Bool) (xs : List ℕ) → eqb x 10 ≡ b → Cut xs → Cut (x ∷ xs)
unfolding total
cut_onto x true xs e rest =
    record { first = []; others = rest.first ∷ rest.others; is = rw e (ap (λ (ps : List (List ℕ)). [] ∷ ps) rest.is); size = let size = rest.size in omega (arith, size) }
cut_onto x false xs e rest =
    record { first = x ∷ rest.first; others = rest.others; is = rw e (ap (onto_first x) rest.is); size = longer x rest.first rest.others ∙ ap suc rest.size }

cut_of : (bytes : List ℕ) → Cut bytes
unfolding total
cut_of [] = record { first = []; others = []; is = refl; size = refl }
cut_of (x ∷ xs) = cut_onto x (eqb x 10) xs refl (cut_of xs)

parts_total : (bytes : List ℕ) → total (parts_of bytes) ≡ length bytes
parts_total bytes = let c = cut_of bytes in ap total c.is ∙ c.size

whole : (text : List ℕ) (s : Scenario) → meaning_of text ≡ Ok s → take (text_limit + 1) text ≡ text
whole text s e =
    let fits = parts_fit text_limit 1 nothing_read (parts_of (take (text_limit + 1) text)) s e in
    let size = parts_total (take (text_limit + 1) text) in
    let cut = length-take (text_limit + 1) text in
    take_all (text_limit + 1) text (omega (arith, fits, size, cut))

-- ---- the whole text

nothing_is_said : IsSaid nothing_read []
nothing_is_said = record {
  site = record { nodes = refl; links = λ names. refl; saes = λ names. refl; pairs = λ m s. refl; filled = tt; known = λ m s e. absurd (false≢true (sym (nobody_allowed m s) ∙ e)) };
  node_numbers = refl;
  others = refl;
  asked = refl;
  fresh = λ e. (refl, refl);
}

pub text_spelled : (text : List ℕ) (s : Scenario) → meaning_of text ≡ Ok s → IsSpelling (said_by text) s
text_spelled text s e =
    subst (λ (bytes : List ℕ). IsSpelling (said_by bytes) s) (whole text s e)
    (parts_spelled text_limit 1 nothing_read [] (parts_of (take (text_limit + 1) text)) s nothing_is_said e)
