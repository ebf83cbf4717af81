-- How the text grows by a line, and by a round.
use Rattle.std.proofs.Common.{◌≡◌, ℕ, ◌+◌, ◌*◌, ◌%◌, Bool, true, false, cond, ◌||◌, eqb, List, [], ◌∷◌, ◌++◌, refl, sym, ap, ◌∙◌, add-one, append_assoc, append-nil, arith}
use Rattle.std.specs.Prelude.{map, count_by}
use Rattle.std.specs.List.{flat_map}
use Rattle.std.proofs.lemmas.List.{map-append}
use Rattle.std.proofs.lemmas.Grind.{flat_map-append}
use Rattle.std.proofs.lemmas.List.Sums.{sum_by-append}
use lib.Chars.{codes}
use Rattle.net_model.specs.Site.{count_up}
use Rattle.declared_site.specs.declared.site.Site.{Site}
use Rattle.run_types.specs.declared.command.Command.{Command}
use Rattle.scenario_format.specs.Spelling.{spelled, with_ends, lines_of}
use Rattle.run_model.specs.Load.{load_site, master_in, slave_in, names_before, round_lines}
use Rattle.scenario_gen.specs.LoadText.{declared_lines, bits_of, ledgers_of, load_commands, load_text}

-- ---- lines

pub lines_append : (site : Site) (cs ds : List Command) → lines_of site (cs ++ ds) ≡ lines_of site cs ++ lines_of site ds
lines_append site cs ds = ap with_ends (map-append (spelled site) cs ds) ∙ flat_map-append (λ (line : List ℕ). line ++ 10 ∷ []) (map (spelled site) cs) (map (spelled site) ds)

next_up : (n : ℕ) → count_up (n + 1) ≡ count_up n ++ n ∷ []
next_up n = rw add-one refl

-- Each index has a command. The command's line at the next index extends the text of the indexes before.
pub one_line_more : (text old : List ℕ) (f : ℕ → Command) (n : ℕ) → old ≡ text ++ lines_of load_site (map f (count_up n)) → (new : List ℕ) → new ≡ old ++ (spelled load_site (f n) ++ 10 ∷ []) → new ≡ text ++ lines_of load_site (map f (count_up (n + 1)))
one_line_more text old f n e new g =
    let more : lines_of load_site (map f (count_up (n + 1))) ≡ lines_of load_site (map f (count_up n)) ++ (spelled load_site (f n) ++ 10 ∷ []) =
    ap (λ (ns : List ℕ). lines_of load_site (map f ns)) (next_up n)
    ∙ ap (lines_of load_site) (map-append f (count_up n) (n ∷ []))
    ∙ lines_append load_site (map f (count_up n)) (f n ∷ [])
    ∙ ap (λ (t : List ℕ). lines_of load_site (map f (count_up n)) ++ t) (append-nil (spelled load_site (f n) ++ 10 ∷ [])) in
    g ∙ ap (λ (t : List ℕ). t ++ (spelled load_site (f n) ++ 10 ∷ [])) e ∙ append_assoc text (lines_of load_site (map f (count_up n))) (spelled load_site (f n) ++ 10 ∷ []) ∙ ap (λ (t : List ℕ). text ++ t) (sym more)

-- Each index has commands. Their lines at the next index extend the text of the indexes before.
pub some_lines_more : (text old : List ℕ) (f : ℕ → List Command) (n : ℕ) → old ≡ text ++ lines_of load_site (flat_map f (count_up n)) → (new : List ℕ) → new ≡ old ++ lines_of load_site (f n) → new ≡ text ++ lines_of load_site (flat_map f (count_up (n + 1)))
some_lines_more text old f n e new g =
    let more : lines_of load_site (flat_map f (count_up (n + 1))) ≡ lines_of load_site (flat_map f (count_up n)) ++ lines_of load_site (f n) =
    ap (λ (ns : List ℕ). lines_of load_site (flat_map f ns)) (next_up n)
    ∙ ap (lines_of load_site) (flat_map-append f (count_up n) (n ∷ []))
    ∙ lines_append load_site (flat_map f (count_up n)) (f n ++ [])
    ∙ ap (λ (cs : List Command). lines_of load_site (flat_map f (count_up n)) ++ lines_of load_site cs) (append-nil (f n)) in
    g ∙ ap (λ (t : List ℕ). t ++ lines_of load_site (f n)) e ∙ append_assoc text (lines_of load_site (flat_map f (count_up n))) (lines_of load_site (f n)) ∙ ap (λ (t : List ℕ). text ++ t) (sym more)

-- ---- names of keys

abbrev gives : ℕ → ℕ → Bool
gives node round = eqb (master_in round) node || eqb (slave_in round) node

one_or_none : (node round : ℕ) (b : Bool) (k : ℕ) → gives node round ≡ b → count_by (gives node) (round ∷ []) ≡ k → names_before node (round + 1) ≡ names_before node round + 4 * k
one_or_none node round b k e one =
    let all : count_by (gives node) (count_up (round + 1)) ≡ count_by (gives node) (count_up round) + count_by (gives node) (round ∷ []) =
    ap (count_by (gives node)) (next_up round) ∙ sum_by-append (λ (r : ℕ). cond (gives node r) 1 0) (count_up round) (round ∷ []) in
    omega arith

count_one : (t : ℕ → Bool) (n : ℕ) → t n ≡ true → ◌≡◌ {A = ℕ} (count_by t (n ∷ [])) 1
count_one t n e = rw e refl

count_none : (t : ℕ → Bool) (n : ℕ) → t n ≡ false → ◌≡◌ {A = ℕ} (count_by t (n ∷ [])) 0
count_none t n e = rw e refl

pub gives_four : (node round : ℕ) → (eqb (round % 8) node || eqb ((3 * round + 1) % 8) node) ≡ true → names_before node (round + 1) ≡ names_before node round + 4
gives_four node round e = one_or_none node round true 1 e (count_one (gives node) round e)

pub gives_none : (node round : ℕ) → (eqb (round % 8) node || eqb ((3 * round + 1) % 8) node) ≡ false → names_before node (round + 1) ≡ names_before node round + 0
gives_none node round e = one_or_none node round false 0 e (count_none (gives node) round e)

-- ---- the whole text

regroup : (a b c d e : List ℕ) → a ++ b ++ c ++ d ++ e ≡ a ++ ((b ++ c ++ d) ++ e)
regroup a b c d e = simp append_assoc

pub whole : (rounds : ℕ) (head bits keys ledgers text : List ℕ) → head ≡ with_ends declared_lines → bits ≡ head ++ lines_of load_site (map (bits_of rounds) (count_up 8)) → keys ≡ bits ++ lines_of load_site (flat_map round_lines (count_up rounds))
    → ledgers ≡ keys ++ lines_of load_site (flat_map ledgers_of (count_up 8)) → text ≡ ledgers ++ codes "end\n" → text ≡ load_text rounds
unfolding load_text
whole rounds head bits keys ledgers text a b c d e =
    let f = map (bits_of rounds) (count_up 8) in
    let g = flat_map round_lines (count_up rounds) in
    let h = flat_map ledgers_of (count_up 8) in
    let all : lines_of load_site (load_commands rounds) ≡ lines_of load_site f ++ lines_of load_site g ++ lines_of load_site h =
    lines_append load_site (f ++ g) h ∙ ap (λ (t : List ℕ). t ++ lines_of load_site h) (lines_append load_site f g) in
    let parts : text ≡ with_ends declared_lines ++ lines_of load_site f ++ lines_of load_site g ++ lines_of load_site h ++ codes "end\n" = rw (e, d, c, b, a) refl in
    parts
    ∙ regroup (with_ends declared_lines) (lines_of load_site f) (lines_of load_site g) (lines_of load_site h) (codes "end\n")
    ∙ ap (λ (t : List ℕ). with_ends declared_lines ++ (t ++ codes "end\n")) (sym all)

-- Four pieces, added in order, are added as one.
pub four_lines : (t0 t1 t2 t3 t4 a b c d : List ℕ) → t1 ≡ t0 ++ a → t2 ≡ t1 ++ b → t3 ≡ t2 ++ c → t4 ≡ t3 ++ d → t4 ≡ t0 ++ (a ++ (b ++ (c ++ (d ++ []))))
four_lines t0 t1 t2 t3 t4 a b c d e f g h = rw (h, g, f, e) (simp (append_assoc, append-nil))
