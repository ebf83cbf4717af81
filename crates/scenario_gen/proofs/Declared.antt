-- The lines that declare the ring are read as the ring's site.
use Rattle.std.proofs.Common.{◌≡◌, ℕ, ◌+◌, ◌-◌, ◌≤◌, Bool, true, false, not, ◌&&◌, eqb, List, [], ◌∷◌, ◌++◌, length, get_or, Option, Some, None, refl, sym, ap, ◌∙◌, arith, append_assoc, append-nil, length-append, lit≤}
use Rattle.std.specs.Prelude.{nat_le, map}
use Rattle.std.specs.List.{list_all}
use Rattle.std.specs.Str.Lines.{strip_carriage_return}
use Rattle.scenario_text.specs.declared.reading.Reading.{Reading}
use Rattle.scenario_text.specs.Words.{words_of, is_name}
use Rattle.scenario_text.specs.Fields.{node_of, sae_of}
use Rattle.scenario_text.specs.Declaring.{declared_node, declared_link, declared_sae, declared_pair}
use Rattle.scenario_text.specs.Line.{Step, Goes, Ends, is_printable, nothing_read, line_at, words_at, declaration_at}
use Rattle.scenario_text.specs.Text.{parts_from, parts_of}
use Rattle.scenario_format.specs.Spelling.{with_ends}
use Rattle.scenario_format.proofs.Clean.{and_left, and_right, no_feeds}
use Rattle.scenario_format.proofs.Texts.{one_line}
use Rattle.run_model.specs.Load.{load_site, load_nodes, load_pairs}
use Rattle.net_model.specs.Site.{count_up}
use Rattle.std.specs.FinSet as set
use Rattle.sae_entitlements.specs.Pair.{pair_cmp}
use Rattle.sae_entitlements.proofs.Pairs.{pair_total, same_pair, pair_antisymmetric}
use Rattle.std.specs.Fmt.{digits}
use lib.Chars.{codes}
use Rattle.route_table.specs.Table.{no_links}
use Rattle.sae_entitlements.specs.Grants.{none}
use Rattle.scenario_gen.specs.LoadText.{declared_lines, node_name, sae_name}

-- The state of reading after a line. There is none after a refused line or after the last one.
abbrev now_in : Option Step → Option Reading
now_in None = None
now_in (Some Ends) = None
now_in (Some (Goes now)) = Some now

abbrev on : Option Reading → (Reading → Option Reading) → Option Reading
on None f = None
on (Some r) f = f r

abbrev pub run : Reading → ℕ → List (List ℕ) → Option Reading
run r n [] = Some r
run r n (line ∷ lines) = on (now_in (line_at r n line)) (λ now. run now (n + 1) lines)

abbrev is_plain : List ℕ → Bool
is_plain line = list_all is_printable line && not (eqb (get_or line (length line - 1) 0) 13) && nat_le (length line) 100

abbrev pub are_plain : List (List ℕ) → Bool
are_plain lines = list_all is_plain lines

-- the state of reading once the ring is declared
abbrev pub declared : Reading
declared = record nothing_read { site = load_site; node_lines = map (λ v. v + 1) load_nodes }

-- ---- the four kinds of lines

abbrev nodes_read : Reading
nodes_read = record nothing_read { site = record { nodes = load_site.nodes; routes = no_links; entitlements = none }; node_lines = map (λ v. v + 1) load_nodes }

abbrev links_read : Reading
links_read = record nodes_read { site = record { nodes = load_site.nodes; routes = load_site.routes; entitlements = none } }

abbrev saes_read : Reading
saes_read = record nodes_read { site = record { nodes = load_site.nodes; routes = load_site.routes; entitlements = record none { saes = load_site.entitlements.saes } } }

node_lines_are : run nothing_read 1 (map (λ v. codes "node" ++ node_name v) load_nodes) ≡ Some nodes_read
unfolding line_at words_at words_of declaration_at declared_node is_name digits
node_lines_are = refl

link_lines_are : run nodes_read 9 (map (λ v. codes "link" ++ node_name v ++ node_name (v + 1)) (count_up 7) ++ (codes "link" ++ node_name 0 ++ node_name 7) ∷ []) ≡ Some links_read
unfolding line_at words_at words_of declaration_at declared_link node_of is_name digits
link_lines_are = refl

sae_lines_are : run links_read 17 (map (λ v. codes "sae" ++ sae_name v ++ node_name v) load_nodes) ≡ Some saes_read
unfolding line_at words_at words_of declaration_at declared_sae node_of sae_of is_name digits
sae_lines_are = refl

-- The pairs are inserted into the set in their order.
abbrev inserted : set.FinSet pair_cmp → List (ℕ × ℕ) → set.FinSet pair_cmp
inserted s [] = s
inserted s (p ∷ ps) = inserted (set.insert s p) ps

abbrev pairs_read : Reading
pairs_read = record nodes_read { site = record { nodes = load_site.nodes; routes = load_site.routes; entitlements = record { saes = load_site.entitlements.saes; allowed = inserted set.empty load_pairs } } }

allow_lines_are : run saes_read 25 (map (λ p. codes "allow" ++ sae_name p.0 ++ sae_name p.1) load_pairs) ≡ Some pairs_read
unfolding line_at words_at words_of declaration_at declared_pair sae_of is_name digits
allow_lines_are = refl

all_plain : are_plain declared_lines ≡ true
unfolding digits
all_plain = refl

-- ---- the set of all pairs

inserts : (ps rest : List (ℕ × ℕ)) → inserted (set.from_list ps) rest ≡ set.from_list (ps ++ rest)
inserts ps [] = ap set.from_list (sym (append-nil ps))
inserts ps (p ∷ rest) =
    ap (λ (s : set.FinSet pair_cmp). inserted s rest) (sym (set.from_list_push pair_total pair_antisymmetric ps p))
    ∙ inserts (ps ++ p ∷ []) rest
    ∙ ap set.from_list (append_assoc ps (p ∷ []) rest)

pairs_are : pairs_read ≡ declared
pairs_are = ap (λ (s : set.FinSet pair_cmp). record nodes_read { site = record { nodes = load_site.nodes; routes = load_site.routes; entitlements = record { saes = load_site.entitlements.saes; allowed = s } } }) (inserts [] load_pairs)

-- ---- lines in order

not_true : (b : Bool) → not b ≡ true → b ≡ false
not_true true h = absurd cc
not_true false h = refl

abbrev ReadOn : (left n : ℕ) → Reading → Reading → (line : List ℕ) → List (List ℕ) → (rest : List ℕ) → Type 0
ReadOn left n r to line lines rest = parts_from left n r (parts_of (with_ends (line ∷ lines) ++ rest)) ≡ parts_from (left - length (with_ends (line ∷ lines))) (n + length (line ∷ lines)) to (parts_of rest)

plain_line : (line : List ℕ) → is_plain line ≡ true → (strip_carriage_return line ≡ line) × (list_all is_printable line ≡ true) × (length line ≤ 100)
plain_line line h =
    let a = and_left (list_all is_printable line && not (eqb (get_or line (length line - 1) 0) 13)) (nat_le (length line) 100) h in
    let b = and_right (list_all is_printable line && not (eqb (get_or line (length line - 1) 0) 13)) (nat_le (length line) 100) h in
    let c : eqb (get_or line (length line - 1) 0) 13 ≡ false = not_true (eqb (get_or line (length line - 1) 0) 13) (and_right (list_all is_printable line) (not (eqb (get_or line (length line - 1) 0) 13)) a) in
    (rw c refl, and_left (list_all is_printable line) (not (eqb (get_or line (length line - 1) 0) 13)) a, grind arith)

text_then : (line rest tail : List ℕ) → ((line ++ 10 ∷ []) ++ rest) ++ tail ≡ line ++ 10 ∷ (rest ++ tail)
text_then line rest tail = simp append_assoc

text_longer : (line rest : List ℕ) → length ((line ++ 10 ∷ []) ++ rest) ≡ length line + 1 + length rest
text_longer line rest = simp length-append (omega arith)

reads_one : (m : Option Step) (left n : ℕ) (r to : Reading) (line : List ℕ) (lines : List (List ℕ)) (rest : List ℕ) → line_at r n line ≡ m → on (now_in m) (λ now. run now (n + 1) lines) ≡ Some to → is_plain line ≡ true
    → length (with_ends (line ∷ lines)) ≤ left
    → ((now : Reading) → run now (n + 1) lines ≡ Some to → parts_from (left - (length line + 1)) (n + 1) now (parts_of (with_ends lines ++ rest)) ≡ parts_from (left - (length line + 1) - length (with_ends lines)) (n + 1 + length lines) to (parts_of rest))
    → ReadOn left n r to line lines rest
reads_one None left n r to line lines rest means goes plain room follows = cc
reads_one (Some Ends) left n r to line lines rest means goes plain room follows = cc
reads_one (Some (Goes now)) left n r to line lines rest means goes plain room follows =
    let p = plain_line line plain in
    let long = text_longer line (with_ends lines) in
    ap (λ (t : List ℕ). parts_from left n r (parts_of t)) (text_then line (with_ends lines) rest)
    ∙ one_line left n r now line (with_ends lines ++ rest) (no_feeds line p.1) p.0 means (omega (arith, long)) (let s = p.2 in omega arith)
    ∙ follows now goes
    ∙ ap (λ (k : ℕ). parts_from k (n + 1 + length lines) to (parts_of rest)) (omega (arith, long))
    ∙ ap (λ (k : ℕ). parts_from (left - length (with_ends (line ∷ lines))) k to (parts_of rest)) (omega arith)

less_none : (n : ℕ) → n ≡ n - 0
less_none n = omega arith

and_none : (n : ℕ) → n ≡ n + 0
and_none n = omega arith

same_reading : (r to : Reading) → ◌≡◌ {A = Option Reading} (Some r) (Some to) → r ≡ to
same_reading r to e = cc

reads_lines : (left n : ℕ) (r to : Reading) (lines : List (List ℕ)) (rest : List ℕ) → run r n lines ≡ Some to → are_plain lines ≡ true → length (with_ends lines) ≤ left
    → parts_from left n r (parts_of (with_ends lines ++ rest)) ≡ parts_from (left - length (with_ends lines)) (n + length lines) to (parts_of rest)
reads_lines left n r to [] rest goes lined room =
    ap (λ (x : Reading). parts_from left n x (parts_of rest)) (same_reading r to goes)
    ∙ ap (λ (k : ℕ). parts_from k n to (parts_of rest)) (less_none left)
    ∙ ap (λ (k : ℕ). parts_from (left - 0) k to (parts_of rest)) (and_none n)
reads_lines left n r to (line ∷ lines) rest goes lined room =
    let long = text_longer line (with_ends lines) in
    reads_one (line_at r n line) left n r to line lines rest refl goes (and_left (is_plain line) (are_plain lines) lined) room
    (λ now on_now. reads_lines (left - (length line + 1)) (n + 1) now to lines rest on_now (and_right (is_plain line) (are_plain lines) lined) (omega (arith, long)))

-- ---- the whole ring

all_read : run nothing_read 1 declared_lines ≡ Some pairs_read
unfolding line_at words_at words_of declaration_at declared_node declared_link declared_sae declared_pair node_of sae_of is_name digits
all_read = refl

eighty : 1 + length declared_lines ≡ 81
eighty = refl

pub few_octets : length (with_ends declared_lines) ≤ 2000
unfolding digits
few_octets = lit≤ tt

pub ring_is_read : (left : ℕ) (rest : List ℕ) → 2000 ≤ left → parts_from left 1 nothing_read (parts_of (with_ends declared_lines ++ rest)) ≡ parts_from (left - length (with_ends declared_lines)) 81 declared (parts_of rest)
ring_is_read left rest room =
    let few = few_octets in
    reads_lines left 1 nothing_read pairs_read declared_lines rest all_read all_plain (omega arith)
    ∙ ap (λ (r : Reading). parts_from (left - length (with_ends declared_lines)) 81 r (parts_of rest)) pairs_are
