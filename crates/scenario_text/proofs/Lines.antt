-- Reading a text line by line gives the meaning of the whole text.
use Rattle.std.proofs.Common.{◌≡◌, ℕ, suc, ◌+◌, ◌-◌, Bool, true, false, ◌&&◌, cond, eqb, List, [], ◌∷◌, length, take, Option, Some, Result, Ok, Err, refl, sym, ap, ◌∙◌, subst, arith, rules}
use Rattle.std.specs.List.{onto_first}
use Rattle.std.specs.Prelude.{MatchResult}
use Rattle.std.specs.Str.Lines.{strip_carriage_return}
use Rattle.std.proofs.lemmas.List.{take-take}
use Rattle.run_types.specs.declared.scenario.Scenario.{Scenario}
use Rattle.scenario_text.specs.declared.reading.Reading.{Reading}
use Rattle.scenario_text.specs.declared.refusal.LineRefusal.{LineRefusal}
use Rattle.scenario_text.specs.declared.refusal.LineRefusal.TheVariants as line_refusals
use Rattle.scenario_text.specs.declared.refusal.ScenarioRefusal.{ScenarioRefusal}
use Rattle.scenario_text.specs.Line.{Step, Goes, Ends, nothing_read, line_at}
use Rattle.scenario_text.specs.Text.{Meaning, within, last_at, then_lines, parts_from, parts_of, Takes, Refuses, refusal_of, scenario_in, text_limit, meaning_of}

-- ---- the parts of a text between its line ends

-- a text has a first part; if the text is empty, this part is empty and the only one
pub record Cut (bytes : List ℕ) : Type 0 where
  pub first : List ℕ
  pub others : List (List ℕ)
  pub is : parts_of bytes ≡ first ∷ others
  pub empty : (eqb (length first) 0 && eqb (length others) 0) ≡ eqb (length bytes) 0

suc_no : (k : ℕ) → eqb (suc k) 0 ≡ false
suc_no k = search rules

not_nil : (k : ℕ) (b : Bool) → (eqb (suc k) 0 && b) ≡ false
not_nil k b = rw (suc_no k) refl

cut_onto : (x : ℕ) (b : Bool) (xs : List ℕ) (rest : Cut xs) → (first : List ℕ) × (others : List (List ℕ)) × (cond b ([] ∷ parts_of xs) (onto_first x (parts_of xs)) ≡ first ∷ others) × ((eqb (length first) 0 && eqb (length others) 0) ≡ false)
cut_onto x true xs rest = ([], parts_of xs, refl, ap (λ (p : List (List ℕ)). eqb (length p) 0) rest.is ∙ suc_no (length rest.others))
cut_onto x false xs rest = (x ∷ rest.first, rest.others, ap (onto_first x) rest.is, not_nil (length rest.first) (eqb (length rest.others) 0))

pub cut_of : (bytes : List ℕ) → Cut bytes
cut_of [] = record { first = []; others = []; is = refl; empty = refl }
cut_of (x ∷ xs) = let c = cut_onto x (eqb x 10) xs (cut_of xs) in record { first = c.0; others = c.1; is = c.2; empty = c.3 ∙ sym (suc_no (length xs)) }

abbrev line_means : ℕ → ℕ → Reading → List ℕ → Option Step
line_means left n r line = within left (length line + 1) (length (strip_carriage_return line)) (line_at r n (strip_carriage_return line))

unfold_at : (left n : ℕ) (r : Reading) (line first : List ℕ) (others parts : List (List ℕ)) (e : Bool) → parts ≡ first ∷ others → (eqb (length first) 0 && eqb (length others) 0) ≡ e
    → parts_from left n r (line ∷ parts) ≡ then_lines n r (line_means left n r line) e (λ t. parts_from (left - (length line + 1)) (n + 1) t parts)
unfolding parts_from
unfold_at left n r line first others parts e p h = rw (p, h) refl

-- the rest of the text begins with a line, which is read without its carriage return
pub at_line : (left n : ℕ) (r : Reading) (line own behind rest : List ℕ) (total : Meaning) → own ≡ strip_carriage_return line → parts_of rest ≡ line ∷ parts_of behind → parts_from left n r (parts_of rest) ≡ total
    → then_lines n r (within left (length line + 1) (length own) (line_at r n own)) (eqb (length behind) 0) (λ t. parts_from (left - (length line + 1)) (n + 1) t (parts_of behind)) ≡ total
at_line left n r line own behind rest total e p so_far =
    let c = cut_of behind in
    rw e (sym (ap (parts_from left n r) p ∙ unfold_at left n r line c.first c.others (parts_of behind) _ c.is c.empty) ∙ so_far)

-- the rest of the text is a last part, without a line end
pub at_last : (left n : ℕ) (r : Reading) (rest : List ℕ) (total : Meaning) → parts_of rest ≡ rest ∷ [] → parts_from left n r (parts_of rest) ≡ total
    → last_at n r (within left (length rest) (length rest) (line_at r n rest)) ≡ total
unfolding parts_from
at_last left n r rest total p so_far = sym (ap (parts_from left n r) p) ∙ so_far

-- ---- one line

-- after a line that isn't the last, the reading goes on
pub goes_on : (n : ℕ) (m : Option Step) (old new : Reading) (e : Bool) (F : Reading → Meaning) (total : Meaning) → m ≡ Some (Goes new) → then_lines n old m e F ≡ total → F new ≡ total
unfolding then_lines
goes_on n m old new e F total is so_far = rw is at so_far

pub ended : (n : ℕ) (m : Option Step) (old new : Reading) (e : Bool) (F : Reading → Meaning) (total : Meaning) → (m ≡ Some Ends) × (new ≡ old) → e ≡ true → then_lines n old m e F ≡ total → total ≡ Ok (scenario_in new)
unfolding then_lines
ended n m old new e F total is at_end so_far = sym (rw (is.0, at_end) at so_far) ∙ ap (λ (r : Reading). Ok (scenario_in r)) (sym is.1)

pub ended_early : (n : ℕ) (m : Option Step) (old new : Reading) (e : Bool) (F : Reading → Meaning) (total : Meaning) → (m ≡ Some Ends) × (new ≡ old) → e ≡ false → then_lines n old m e F ≡ total → total ≡ Err (n + 1)
unfolding then_lines
ended_early n m old new e F total is more so_far = sym (rw (is.0, more) at so_far)

pub refused_at : (n : ℕ) (refusal : LineRefusal) (m : Option Step) (old new : Reading) (e : Bool) (F : Reading → Meaning) (total : Meaning) → Takes m old new (Err refusal) → then_lines n old m e F ≡ total → Refuses (refusal_of n refusal) total
unfolding then_lines
refused_at n line_refusals.Refused m old new e F total none so_far = sym (rw (none.0) at so_far)
refused_at n line_refusals.Memory m old new e F total h so_far = tt

pub last_refused : (n : ℕ) (refusal : LineRefusal) (m : Option Step) (old new : Reading) (total : Meaning) → Takes m old new (Err refusal) → last_at n old m ≡ total → Refuses (refusal_of n refusal) total
unfolding last_at
last_refused n line_refusals.Refused m old new total none so_far = sym (rw (none.0) at so_far)
last_refused n line_refusals.Memory m old new total h so_far = tt

pub last_ended : (n : ℕ) (m : Option Step) (old new : Reading) (total : Meaning) → (m ≡ Some Ends) × (new ≡ old) → last_at n old m ≡ total → total ≡ Ok (scenario_in new)
unfolding last_at
last_ended n m old new total is so_far = sym (rw (is.0) at so_far) ∙ ap (λ (r : Reading). Ok (scenario_in r)) (sym is.1)

pub last_other : (n : ℕ) (m : Option Step) (old new : Reading) (total : Meaning) → m ≡ Some (Goes new) → last_at n old m ≡ total → total ≡ Err n
unfolding last_at
last_other n m old new total is so_far = sym (rw is at so_far)

-- only one octet past the limit is read
cut_means : (bytes : List ℕ) → meaning_of (take (text_limit + 1) bytes) ≡ meaning_of bytes
cut_means bytes = ap (λ (b : List ℕ). parts_from text_limit 1 nothing_read (parts_of b)) (take-take (text_limit + 1) (text_limit + 1) bytes (omega arith))

pub cut_gives : (result : Result Scenario ScenarioRefusal) (bytes : List ℕ) → MatchResult result (λ s. meaning_of (take (text_limit + 1) bytes) ≡ Ok s) (λ e. Refuses e (meaning_of (take (text_limit + 1) bytes)))
    → MatchResult result (λ s. meaning_of bytes ≡ Ok s) (λ e. Refuses e (meaning_of bytes))
cut_gives result bytes h = subst (λ (m : Meaning). MatchResult result (λ s. m ≡ Ok s) (λ e. Refuses e m)) (cut_means bytes) h
