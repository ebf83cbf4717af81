-- The text of the generated load is read as the load's scenario.
use Rattle.std.proofs.Common.{◌≡◌, ℕ, zero, suc, ◌+◌, ◌-◌, ◌*◌, ◌≤◌, List, [], ◌∷◌, ◌++◌, length, take, Ok, refl, ap, ◌∙◌, arith, length-append, lit≤}
use Rattle.std.specs.Prelude.{map}
use Rattle.std.specs.List.{flat_map}
use Rattle.std.proofs.lemmas.List.{take_all}
use Rattle.std.proofs.lemmas.Grind.{flat_map-append}
use lib.Chars.{codes}
use Rattle.net_model.specs.Site.{count_up}
use Rattle.run_types.specs.declared.command.Command.{Command}
use Rattle.run_types.specs.declared.entry.Entry.{Entry}
use Rattle.run_types.specs.declared.entry.Entry.TheVariants as entries
use Rattle.scenario_text.specs.Line.{nothing_read, rounds_with}
use Rattle.scenario_text.specs.Text.{parts_from, parts_of, meaning_of, text_limit}
use Rattle.scenario_format.specs.Spelling.{spelled, with_ends, lines_of, numbered}
use Rattle.scenario_format.specs.Readable.{CanSayAll, RoundsFit}
use Rattle.scenario_format.proofs.Texts.{reads_text}
use Rattle.run_model.specs.Load.{load_site, load_scenario, load_entries, numbered_from, round_lines}
use Rattle.scenario_gen.specs.LoadText.{declared_lines, bits_of, ledgers_of, load_commands, load_text}
use Rattle.scenario_gen.proofs.Declared.{declared, few_octets, ring_is_read}
use Rattle.scenario_gen.proofs.Asked.{AllGood, load_good}

all_can : (cs : List Command) → AllGood cs → CanSayAll load_site cs
all_can [] good = tt
all_can (c ∷ cs) good = ((good.0.can, let s = good.0.short in omega arith), all_can cs good.1)

rounds_fit : (k : ℕ) (cs : List Command) → AllGood cs → k + 40 * length cs ≤ 100000 → RoundsFit k cs
rounds_fit k [] good few = tt
rounds_fit k (c ∷ cs) good few =
    let more = good.0.rounds k in
    let all : 40 * length (c ∷ cs) ≡ 40 + 40 * length cs = omega arith in
    (omega arith, rounds_fit (rounds_with k c) cs good.1 (omega arith))

longer : (line rest : List ℕ) → length ((line ++ 10 ∷ []) ++ rest) ≡ length line + 1 + length rest
longer line rest = simp length-append (omega arith)

few_in_all : (cs : List Command) → AllGood cs → length (lines_of load_site cs) ≤ 401 * length cs
few_in_all [] good = lit≤ tt
few_in_all (c ∷ cs) good =
    let s = good.0.short in
    let rest = few_in_all cs good.1 in
    let long = longer (spelled load_site c) (lines_of load_site cs) in
    omega arith

-- ---- how many lines there are

length_rounds : (n : ℕ) → length (flat_map round_lines (count_up n)) ≡ 4 * n
length_rounds zero = refl
length_rounds (suc n) =
    ap length (flat_map-append round_lines (count_up n) (n ∷ []))
    ∙ length-append (flat_map round_lines (count_up n)) (flat_map round_lines (n ∷ []))
    ∙ (let e = length_rounds n in omega arith)

length_load : (rounds : ℕ) → length (load_commands rounds) ≡ 24 + 4 * rounds
length_load rounds =
    let e = length_rounds rounds in
    let a = length-append (map (bits_of rounds) (count_up 8) ++ flat_map round_lines (count_up rounds)) (flat_map ledgers_of (count_up 8)) in
    let b = length-append (map (bits_of rounds) (count_up 8)) (flat_map round_lines (count_up rounds)) in
    omega arith

-- ---- the scenario

numbers_same : (n : ℕ) (cs : List Command) → numbered n cs ≡ numbered_from n cs
numbers_same n [] = refl
numbers_same n (c ∷ cs) = ap (λ (es : List Entry). entries.Line (record { number = n; command = c }) ∷ es) (numbers_same (n + 1) cs)

entries_are : (rounds : ℕ) → numbered 81 (load_commands rounds) ≡ load_entries rounds
unfolding load_entries
entries_are rounds = numbers_same 81 (load_commands rounds)

abbrev asked : ℕ → List ℕ
asked rounds = lines_of load_site (load_commands rounds) ++ codes "end\n"

text_is_read : (rounds : ℕ) → 1 ≤ rounds → rounds ≤ 500 → parts_from text_limit 1 nothing_read (parts_of (load_text rounds)) ≡ Ok (load_scenario rounds)
unfolding load_text
text_is_read rounds low high =
    let good = load_good rounds low high in
    let many = length_load rounds in
    let few = few_in_all (load_commands rounds) good in
    let head = few_octets in
    ring_is_read text_limit (asked rounds) (lit≤ tt)
    ∙ reads_text (text_limit - length (with_ends declared_lines)) 81 declared (load_commands rounds) refl (all_can (load_commands rounds) good) (rounds_fit 0 (load_commands rounds) good (omega arith)) (omega arith)
    ∙ ap (λ (es : List Entry). Ok (record { site = load_site; node_lines = declared.node_lines; entries = es })) (entries_are rounds)

-- The text is no longer than a scenario may be.
text_short : (rounds : ℕ) → 1 ≤ rounds → rounds ≤ 500 → length (load_text rounds) ≤ text_limit + 1
unfolding load_text
text_short rounds low high =
    let few = few_in_all (load_commands rounds) (load_good rounds low high) in
    let many = length_load rounds in
    let head = few_octets in
    let a = length-append (with_ends declared_lines) (asked rounds) in
    let b = length-append (lines_of load_site (load_commands rounds)) (codes "end\n") in
    omega arith

whole_text : (rounds : ℕ) → 1 ≤ rounds → rounds ≤ 500 → take (text_limit + 1) (load_text rounds) ≡ load_text rounds
whole_text rounds low high = take_all (text_limit + 1) (load_text rounds) (text_short rounds low high)

pub load_is_read : (rounds : ℕ) → 1 ≤ rounds → rounds ≤ 500 → meaning_of (load_text rounds) ≡ Ok (load_scenario rounds)
load_is_read rounds low high = ap (λ (t : List ℕ). parts_from text_limit 1 nothing_read (parts_of t)) (whole_text rounds low high) ∙ text_is_read rounds low high
