-- The forms of the program's words, and the index of the first word that fits none.
use Rattle.std.specs.Prelude.{ℕ, ◌≡◌, ◌⊎◌, ◌≤◌, ◌==◌, if◌then◌else◌, List, [], ◌∷◌, length, take, Option, Some, None, Result, Ok, Err}
use Rattle.std.specs.Str.{bytes_eq}
use lib.Chars.{codes}
use Rattle.run_model.specs.Course.{Words, Run, Load}
use Rattle.scenario_text.specs.Words.{number_in}
use Rattle.tag_bound.specs.Words.{number_of, text_of}
use Rattle.kme_serve.specs.Endless.{endless}
use Rattle.cli_answers.specs.Answers.{Asked, Bounds, Audits, WholeAudits, Checks, Objects}
use Rattle.qkd_network.specs.declared.form.Form.{Form}
use Rattle.qkd_network.specs.declared.form.Form.TheVariants as forms

-- what the words ask for: a run, a run whose managers are then served, the veil of a scenario's wires, or a question about the source's text
pub data Wanted : Type 0 where
  Runs : Words → Wanted
  -- a run of whose report only the lines are written that a person asked for
  Quiets : (workers : ℕ) → Wanted
  Serves : (workers connections port : ℕ) → Wanted
  Veils : Wanted
  Asks : Asked → Wanted

-- what the words ask for, or the index (from 0) of the first word that fits no form, or the number of words if one is missing
abbrev pub Wish : Type 0
Wish = Result Wanted ℕ

-- no word may follow the words of a form
abbrev pub alone : (place : ℕ) → Wanted → (more : List (List ℕ)) → Wish
alone place asked more = if length more == 0 then Ok asked else Err place

unfoldable pub quiet_form : (workers : ℕ) → List (List ℕ) → Wish
quiet_form workers [] = Ok (Runs (Run workers))
quiet_form workers (word ∷ more) = if bytes_eq word (codes "--quiet") then alone 3 (Quiets workers) more else Err 2

abbrev pub run_of : Option ℕ → (more : List (List ℕ)) → Wish
run_of None more = Err 1
run_of (Some workers) more = quiet_form workers more

-- `run W`: runs the scenario, whose blocks W workers do (1 to 32). `run W --quiet`: the same, and writes asked lines alone.
unfoldable pub run_form : List (List ℕ) → Wish
run_form [] = Err 1
run_form (count ∷ more) = run_of (number_in 1 32 count) more

abbrev pub load_of : Option ℕ → (more : List (List ℕ)) → Wish
load_of None more = Err 1
load_of (Some rounds) more = alone 2 (Runs (Load rounds)) more

-- `load N`: runs the generated load of N rounds (1 to 500)
unfoldable pub load_form : List (List ℕ) → Wish
load_form [] = Err 1
load_form (count ∷ more) = load_of (number_in 1 500 count) more

abbrev pub port_of : (workers connections : ℕ) → Option ℕ → (more : List (List ℕ)) → Wish
port_of workers connections None more = Err 3
port_of workers connections (Some port) more = alone 4 (Serves workers connections port) more

unfoldable pub port_form : (workers connections : ℕ) → List (List ℕ) → Wish
port_form workers connections [] = Err 3
port_form workers connections (word ∷ more) = port_of workers connections (number_in 1 65520 word) more

abbrev pub connections_of : (workers : ℕ) → Option ℕ → (more : List (List ℕ)) → Wish
connections_of workers None more = Err 2
connections_of workers (Some connections) more = port_form workers connections more

-- how many connections each worker serves
unfoldable pub connections_in : List ℕ → Option ℕ
connections_in word = if bytes_eq word (codes "forever") then Some endless else number_in 1 10000 word

unfoldable pub connections_form : (workers : ℕ) → List (List ℕ) → Wish
connections_form workers [] = Err 2
connections_form workers (word ∷ more) = connections_of workers (connections_in word) more

abbrev pub workers_of : Option ℕ → (more : List (List ℕ)) → Wish
workers_of None more = Err 1
workers_of (Some workers) more = connections_form workers more

-- `serve W C PORT`: runs the scenario with W workers (1 to 32). Then each worker serves C connections (1 to 10,000). The nodes' ports begin at PORT (1 to
-- 65,520). `serve W forever PORT`: each worker serves connections without end.
unfoldable pub serve_form : List (List ℕ) → Wish
serve_form [] = Err 1
serve_form (word ∷ more) = workers_of (number_in 1 32 word) more

abbrev pub difference_of : (a b : List ℕ) → Option ℕ → (more : List (List ℕ)) → Wish
difference_of a b None more = Err 3
difference_of a b (Some difference) more = alone 4 (Asks (Bounds a b difference)) more

unfoldable pub third_form : (a b : List ℕ) → List (List ℕ) → Wish
third_form a b [] = Err 3
third_form a b (word ∷ more) = difference_of a b (number_of word) more

abbrev pub second_of : (a : List ℕ) → Option (List ℕ) → (more : List (List ℕ)) → Wish
second_of a None more = Err 2
second_of a (Some b) more = if bytes_eq a b then Err 2 else third_form a b more

unfoldable pub second_form : (a : List ℕ) → List (List ℕ) → Wish
second_form a [] = Err 2
second_form a (word ∷ more) = second_of a (text_of word) more

abbrev pub first_of : Option (List ℕ) → (more : List (List ℕ)) → Wish
first_of None more = Err 1
first_of (Some a) more = second_form a more

-- `bound HEXA HEXB HEXD`: two different texts of 1 to 600 octets in hexadecimal digits, and a difference of 16 hexadecimal digits
unfoldable pub bound_form : List (List ℕ) → Wish
bound_form [] = Err 1
bound_form (word ∷ more) = first_of (text_of word) more

-- `audit`, and `audit whole`
unfoldable pub audit_form : List (List ℕ) → Wish
audit_form [] = Ok (Asks Audits)
audit_form (word ∷ more) = if bytes_eq word (codes "whole") then alone 2 (Asks WholeAudits) more else Err 1

-- the forms `veil`, `bound`, `audit`, `check` and `json`
unfoldable pub question_form : (form : List ℕ) → List (List ℕ) → Wish
question_form form words =
    if bytes_eq form (codes "veil") then alone 1 Veils words else if bytes_eq form (codes "bound") then bound_form words
    else if bytes_eq form (codes "audit") then audit_form words else if bytes_eq form (codes "check") then alone 1 (Asks Checks) words
    else if bytes_eq form (codes "json") then alone 1 (Asks Objects) words else Err 0

unfoldable pub asked_by : List (List ℕ) → Wish
asked_by [] = Err 0
asked_by (form ∷ words) =
    if bytes_eq form (codes "run") then run_form words else if bytes_eq form (codes "load") then load_form words
    else if bytes_eq form (codes "serve") then serve_form words else question_form form words

abbrev pub wanted_of : Form → Wanted
wanted_of (forms.Run workers) = Runs (Run workers)
wanted_of (forms.Quiet workers) = Quiets workers
wanted_of (forms.Load rounds) = Runs (Load rounds)
wanted_of (forms.Serve workers connections port) = Serves workers connections port
wanted_of forms.Veil = Veils
wanted_of (forms.Bound a b difference) = Asks (Bounds (take a.size a.octets) (take b.size b.octets) difference)
wanted_of forms.Audit = Asks Audits
wanted_of forms.WholeAudit = Asks WholeAudits
wanted_of forms.Check = Asks Checks
wanted_of forms.Json = Asks Objects

-- so many connections may be asked for
abbrev pub AreServable : ℕ → Type 0
AreServable connections = (1 ≤ connections) × ((connections ≤ 10000) ⊎ (connections ≡ endless))

abbrev pub IsInRange : Form → Type 0
IsInRange (forms.Run workers) = (1 ≤ workers) × (workers ≤ 32)
IsInRange (forms.Quiet workers) = (1 ≤ workers) × (workers ≤ 32)
IsInRange (forms.Load rounds) = (1 ≤ rounds) × (rounds ≤ 500)
IsInRange (forms.Serve workers connections port) = (1 ≤ workers) × (workers ≤ 32) × AreServable connections × (1 ≤ port) × (port ≤ 65520)
IsInRange forms.Veil = Unit {0}
IsInRange forms.Audit = Unit {0}
IsInRange forms.WholeAudit = Unit {0}
IsInRange forms.Check = Unit {0}
IsInRange forms.Json = Unit {0}
IsInRange (forms.Bound a b difference) = ¬ (take a.size a.octets ≡ take b.size b.octets)
