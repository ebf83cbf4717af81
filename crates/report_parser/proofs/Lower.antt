-- Lower bounds: some text of a row shares with a given text at least as many leading octets as the row's reach says.
use Rattle.std.proofs.Common.{◌≡◌, ℕ, zero, suc, ◌+◌, ◌≤◌, ◌<◌, ◌^◌, Bool, true, false, cond, eqb, List, [], ◌∷◌, ◌++◌, length, take, drop, refl, sym, ap, ◌∙◌, arith}
use Rattle.std.specs.Prelude.{max, min, nat_le}
use Rattle.std.specs.Fmt.{decimal}
use Rattle.std.proofs.lemmas.List.{take-append-drop, length-take-le}
use Rattle.std.proofs.lemmas.List.Sums.{prefix_len-le-length}
use borrow.Author.Tests.{eqb-true}
use lib.Chars.{codes}
use Rattle.hex.specs.Hex.{IsBytes, encode_lower}
use Rattle.qkd_base.specs.declared.lane.Way.{Way}
use Rattle.qkd_base.specs.Name.{Name, IsName}
use Rattle.net_model.specs.declared.held.Held.{Held}
use Rattle.net_model.specs.declared.held.Held.TheVariants as states
use Rattle.run_types.specs.declared.end.End.{End}
use Rattle.scenario_text.specs.Words.{Word}
use Rattle.run_types.specs.declared.payload_kind.PayloadKind.{PayloadKind}
use Rattle.run_types.specs.declared.unsent_cause.UnsentCause.{UnsentCause}
use Rattle.run_types.specs.Words.{words, node_text, way_text, end_text, up_text, kind_text, state_text, cause_text, name_text, tag_text, bytes_text}
use Rattle.report_grammar.specs.Tellable.{HasName}
use Rattle.report_parser.specs.declared.part.Part.{Part}
use Rattle.report_parser.specs.declared.part.Part.TheVariants as parts
use Rattle.report_parser.specs.Runs.{common, greatest, is_plain, plain_len, end_reach}
use Rattle.report_parser.specs.Fits.{fit, is_text}
use Rattle.report_parser.specs.Walk.{part_reach, space_reach, parts_reach, row_reach, farthest}
use Rattle.report_parser.proofs.Upper.{both_ways, no_more, spaced, words_spaced, spaced_behind}

-- Given any text, one of the texts with property P shares at least `reach text` leading octets with it.
abbrev pub Lower : (P : List ℕ → Type 0) → (reach : List ℕ → ℕ) → Type 0
Lower P reach = (text : List ℕ) → (x : List ℕ) × P x × (reach text ≤ common x text)

pub lower_map : (P Q : List ℕ → Type 0) (reach : List ℕ → ℕ) → ((x : List ℕ) → P x → Q x) → Lower P reach → Lower Q reach
lower_map P Q reach f h text = let m = h text in (m.0, f m.0 m.1, m.2)

-- ---- shared leading octets

same_octet : (a : ℕ) → eqb a a ≡ true
same_octet a = grind arith

widen_text : (t : Word) (n : ℕ) (text : List ℕ) → common t (take n text) ≤ common t text
widen_text [] n text = omega arith
widen_text (a ∷ t) zero text = omega arith
widen_text (a ∷ t) (suc n) [] = omega arith
widen_text (a ∷ t) (suc n) (b ∷ text) = no_more (eqb a b) (eqb a b) (common t (take n text)) (common t text) refl (widen_text t n text)

pub widen : (t y text : List ℕ) → common t text ≤ common (t ++ y) text
widen [] y text = omega arith
widen (a ∷ t) y [] = omega arith
widen (a ∷ t) y (b ∷ text) = no_more (eqb a b) (eqb a b) (common t text) (common (t ++ y) text) refl (widen t y text)

front_step : (b : Bool) (l m n : ℕ) → b ≡ true → l + m ≤ n → suc l + m ≤ cond b (1 + n) 0
front_step true l m n e h = omega arith
front_step false l m n e h = absurd cc

pub front_common : (w y r : List ℕ) → length w + common y r ≤ common (w ++ y) (w ++ r)
front_common [] y r = omega arith
front_common (a ∷ w) y r = front_step (eqb a a) (length w) (common y r) (common (w ++ y) (w ++ r)) (same_octet a) (front_common w y r)

-- ---- the end of a line, and spaces

end_at : (b : ℕ) → cond (eqb b 10) 1 0 ≤ cond (eqb 10 b) (1 + 0) 0
end_at b = no_more (eqb b 10) (eqb 10 b) 0 0 (both_ways b 10) (omega arith)

end_bound : (text : List ℕ) → end_reach text ≤ common (10 ∷ []) text
end_bound [] = omega arith
end_bound (b ∷ bs) = end_at b

abbrev pub IsEnd : List ℕ → Type 0
IsEnd x = x ≡ 10 ∷ []

pub end_lower : Lower IsEnd end_reach
end_lower text = (10 ∷ [], refl, end_bound text)

abbrev Spaced : (P : List ℕ → Type 0) → List ℕ → Type 0
Spaced P x = (y : List ℕ) × P y × (x ≡ 32 ∷ y)

space_lower : (P : List ℕ → Type 0) (reach : List ℕ → ℕ) → Lower P reach → Lower (Spaced P) (space_reach reach)
space_lower P reach h [] = let m = h [] in (32 ∷ m.0, (m.0, m.1, refl), omega arith)
space_lower P reach h (b ∷ bs) = let m = h bs in (32 ∷ m.0, (m.0, m.1, refl), no_more (eqb b 32) (eqb 32 b) (reach bs) (common m.0 bs) (both_ways b 32) m.2)

-- ---- parts of rows

abbrev pub IsHeld : Held → Type 0
IsHeld states.Absent = ⊥
IsHeld held = Unit {0}

-- the type of the values that words of a part stand for
abbrev pub Value : Part → Type 0
Value parts.Link = ℕ
Value parts.Byte = ℕ
Value parts.Short = ℕ
Value parts.Number = ℕ
Value parts.Long = ℕ
Value parts.Way = Way
Value parts.End = End
Value parts.Up = Bool
Value parts.Kind = PayloadKind
Value parts.State = Held
Value parts.Cause = UnsentCause
Value parts.Node = ℕ
Value parts.Name = Name
Value parts.Tag = ℕ
Value parts.Octets = List ℕ
Value parts.Bytes = List ℕ
Value parts.Absent = Unit {0}
Value parts.New = Unit {0}
Value parts.Again = Unit {0}
Value parts.Received = Unit {0}
Value parts.Unused = Unit {0}
Value parts.Spent = Unit {0}
Value parts.Burnt = Unit {0}

abbrev pub Valid : (nodes : List (List ℕ)) (p : Part) → Value p → Type 0
Valid nodes parts.Link v = v < 32
Valid nodes parts.Byte v = v < 2 ^ 8
Valid nodes parts.Short v = v < 2 ^ 16
Valid nodes parts.Number v = v < 2 ^ 32
Valid nodes parts.Long v = v < 2 ^ 64
Valid nodes parts.Way v = Unit {0}
Valid nodes parts.End v = Unit {0}
Valid nodes parts.Up v = Unit {0}
Valid nodes parts.Kind v = Unit {0}
Valid nodes parts.State v = IsHeld v
Valid nodes parts.Cause v = Unit {0}
Valid nodes parts.Node v = HasName nodes v
Valid nodes parts.Name v = IsName v
Valid nodes parts.Tag v = v < 2 ^ 64
Valid nodes parts.Octets v = IsBytes v
Valid nodes parts.Bytes v = IsBytes v
Valid nodes parts.Absent v = Unit {0}
Valid nodes parts.New v = Unit {0}
Valid nodes parts.Again v = Unit {0}
Valid nodes parts.Received v = Unit {0}
Valid nodes parts.Unused v = Unit {0}
Valid nodes parts.Spent v = Unit {0}
Valid nodes parts.Burnt v = Unit {0}

abbrev pub text_of : (nodes : List (List ℕ)) (p : Part) → Value p → Word
text_of nodes parts.Link v = decimal v
text_of nodes parts.Byte v = decimal v
text_of nodes parts.Short v = decimal v
text_of nodes parts.Number v = decimal v
text_of nodes parts.Long v = decimal v
text_of nodes parts.Way v = way_text v
text_of nodes parts.End v = end_text v
text_of nodes parts.Up v = up_text v
text_of nodes parts.Kind v = kind_text v
text_of nodes parts.State v = state_text v
text_of nodes parts.Cause v = cause_text v
text_of nodes parts.Node v = node_text nodes v
text_of nodes parts.Name v = name_text v
text_of nodes parts.Tag v = tag_text v
text_of nodes parts.Octets v = encode_lower v
text_of nodes parts.Bytes v = bytes_text v
text_of nodes parts.Absent v = codes "absent"
text_of nodes parts.New v = codes "new"
text_of nodes parts.Again v = codes "again"
text_of nodes parts.Received v = codes "received"
text_of nodes parts.Unused v = codes "unused"
text_of nodes parts.Spent v = codes "spent"
text_of nodes parts.Burnt v = codes "burnt"

-- Some text of the part shares with a word as many leading octets as the word's fit says. Each text of the part has a value.
pub record Known (nodes : List (List ℕ)) (p : Part) : Type 0 where
  pub closest : (w : Word) → (v : Value p) × Valid nodes p v × (fit nodes p w ≤ common (text_of nodes p v) w)
  pub exact : (w : Word) → is_text nodes p w ≡ true → (v : Value p) × Valid nodes p v × (w ≡ text_of nodes p v)

abbrev Word_of : List ℕ → List ℕ
Word_of text = take (plain_len text) text

abbrev OfPart : (nodes : List (List ℕ)) (p : Part) (P : List ℕ → Type 0) → List ℕ → Type 0
OfPart nodes p P x = (v : Value p) × Valid nodes p v × (y : List ℕ) × P y × (x ≡ text_of nodes p v ++ y)

when_true : (b : Bool) (whole other total : ℕ) → b ≡ true → whole ≤ total → cond b whole other ≤ total
when_true true whole other total e h = h
when_true false whole other total e h = absurd cc

when_false : (b : Bool) (whole other total : ℕ) → b ≡ false → other ≤ total → cond b whole other ≤ total
when_false true whole other total e h = absurd cc
when_false false whole other total e h = h

word_long : (text : List ℕ) → length (Word_of text) ≡ plain_len text
word_long text = length-take-le (plain_len text) text (prefix_len-le-length is_plain text)

whole_word : (text y : List ℕ) → plain_len text + common y (drop (plain_len text) text) ≤ common (Word_of text ++ y) text
whole_word text y =
    let f = front_common (Word_of text) y (drop (plain_len text) text) in
    let e : common (Word_of text ++ y) (Word_of text ++ drop (plain_len text) text) ≡ common (Word_of text ++ y) text = ap (common (Word_of text ++ y)) (take-append-drop (plain_len text) text) in
    let l = word_long text in omega arith

part_at : (nodes : List (List ℕ)) (p : Part) → Known nodes p → (P : List ℕ → Type 0) (reach : List ℕ → ℕ) → Lower P reach → (text : List ℕ) (b : Bool) → is_text nodes p (Word_of text) ≡ b → (x : List ℕ) × OfPart nodes p P x × (part_reach nodes p reach text ≤ common x text)
unfolding part_reach
part_at nodes p known P reach h text true e =
    let k = known.exact (Word_of text) e in
    let m = h (drop (plain_len text) text) in
    let w = whole_word text m.0 in
    let u : reach (drop (plain_len text) text) ≤ common m.0 (drop (plain_len text) text) = m.2 in (
      Word_of text ++ m.0,
      (k.0, k.1, m.0, m.1, ap (λ (x : Word). x ++ m.0) k.2),
      when_true (is_text nodes p (Word_of text)) (plain_len text + reach (drop (plain_len text) text)) (min (fit nodes p (Word_of text)) (plain_len text)) (common (Word_of text ++ m.0) text) e (omega arith),
    )
part_at nodes p known P reach h text false e =
    let k = known.closest (Word_of text) in
    let m = h [] in
    let t = text_of nodes p k.0 in
    let u : fit nodes p (Word_of text) ≤ common t (Word_of text) = k.2 in
    let a = widen_text t (plain_len text) text in
    let b = widen t m.0 text in (
      t ++ m.0,
      (k.0, k.1, m.0, m.1, refl),
      when_false (is_text nodes p (Word_of text)) (plain_len text + reach (drop (plain_len text) text)) (min (fit nodes p (Word_of text)) (plain_len text)) (common (t ++ m.0) text) e (omega arith),
    )

part_lower : (nodes : List (List ℕ)) (p : Part) → Known nodes p → (P : List ℕ → Type 0) (reach : List ℕ → ℕ) → Lower P reach → Lower (OfPart nodes p P) (part_reach nodes p reach)
part_lower nodes p known P reach h text = part_at nodes p known P reach h text (is_text nodes p (Word_of text)) refl

pub number_lower : (nodes : List (List ℕ)) → Known nodes parts.Number → (P : List ℕ → Type 0) (reach : List ℕ → ℕ) → Lower P reach → Lower (λ x. (v : ℕ) × (v < 2 ^ 32) × (y : List ℕ) × P y × (x ≡ decimal v ++ y)) (part_reach nodes parts.Number reach)
number_lower nodes known P reach h = part_lower nodes parts.Number known P reach h

abbrev pub Values : List Part → Type 0
Values [] = Unit {0}
Values (p ∷ ps) = Value p × Values ps

abbrev pub Valids : (nodes : List (List ℕ)) (ps : List Part) → Values ps → Type 0
Valids nodes [] vs = Unit {0}
Valids nodes (p ∷ ps) vs = Valid nodes p vs.0 × Valids nodes ps vs.1

abbrev pub texts : (nodes : List (List ℕ)) (ps : List Part) → Values ps → List Word
texts nodes [] vs = []
texts nodes (p ∷ ps) vs = text_of nodes p vs.0 ∷ texts nodes ps vs.1

abbrev pub Knows : (nodes : List (List ℕ)) → List Part → Type 0
Knows nodes [] = Unit {0}
Knows nodes (p ∷ ps) = Known nodes p × Knows nodes ps

abbrev pub OfParts : (nodes : List (List ℕ)) (ps : List Part) (P : List ℕ → Type 0) → List ℕ → Type 0
OfParts nodes ps P x = (vs : Values ps) × Valids nodes ps vs × (z : List ℕ) × P z × (x ≡ spaced (texts nodes ps vs) z)

one_more : (nodes : List (List ℕ)) (p : Part) (ps : List Part) (P : List ℕ → Type 0) (x : List ℕ) → Spaced (OfPart nodes p (OfParts nodes ps P)) x → OfParts nodes (p ∷ ps) P x
one_more nodes p ps P x (y, (v, valid, u, (vs, valids, z, end, f), g), e) = ((v, vs), (valid, valids), z, end, e ∙ ap (λ (t : List ℕ). 32 ∷ t) (g ∙ ap (λ (t : List ℕ). text_of nodes p v ++ t) f))

pub parts_lower : (nodes : List (List ℕ)) (ps : List Part) → Knows nodes ps → (P : List ℕ → Type 0) (reach : List ℕ → ℕ) → Lower P reach → Lower (OfParts nodes ps P) (parts_reach nodes ps reach)
parts_lower nodes [] known P reach h text = let m = h text in (m.0, (tt, tt, m.0, m.1, refl), m.2)
parts_lower nodes (p ∷ ps) known P reach h text =
    lower_map (Spaced (OfPart nodes p (OfParts nodes ps P))) (OfParts nodes (p ∷ ps) P) (space_reach (part_reach nodes p (parts_reach nodes ps reach))) (one_more nodes p ps P)
    (space_lower (OfPart nodes p (OfParts nodes ps P)) (part_reach nodes p (parts_reach nodes ps reach)) (part_lower nodes p known.0 (OfParts nodes ps P) (parts_reach nodes ps reach) (parts_lower nodes ps known.1 P reach h))) text

-- ---- rows

start_split : (start text : List ℕ) → common start text ≡ length start → text ≡ start ++ drop (length start) text
start_split [] text e = refl
start_split (a ∷ start) [] e = absurd (omega arith)
start_split (a ∷ start) (b ∷ text) e = at (eqb a b) refl e (start_split start text)
  where
    at : (c : Bool) → eqb a b ≡ c → cond (eqb a b) (1 + common start text) 0 ≡ suc (length start) → (common start text ≡ length start → text ≡ start ++ drop (length start) text) → b ∷ text ≡ a ∷ (start ++ drop (length start) text)
    at true s f rest =
        let same : a ≡ b = eqb-true a b s in
        let g : 1 + common start text ≡ suc (length start) = rw s at f in
        ap (λ (x : ℕ). x ∷ text) (sym same) ∙ ap (λ (x : List ℕ). a ∷ x) (rest (omega arith))
    at false s f rest = let g : 0 ≡ suc (length start) = rw s at f in absurd (omega arith)

abbrev pub Behind : (start : List ℕ) (P : List ℕ → Type 0) → List ℕ → Type 0
Behind start P x = (y : List ℕ) × P y × (x ≡ start ++ y)

start_at : (start : List ℕ) (P : List ℕ → Type 0) (reach : List ℕ → ℕ) → Lower P reach → (text : List ℕ) (b : Bool) → eqb (common start text) (length start) ≡ b
    → (x : List ℕ) × Behind start P x × (cond (eqb (common start text) (length start)) (length start + reach (drop (length start) text)) (common start text) ≤ common x text)
start_at start P reach h text true e =
    let m = h (drop (length start) text) in
    let u : reach (drop (length start) text) ≤ common m.0 (drop (length start) text) = m.2 in
    let f = front_common start m.0 (drop (length start) text) in
    let s : common (start ++ m.0) (start ++ drop (length start) text) ≡ common (start ++ m.0) text = ap (common (start ++ m.0)) (sym (start_split start text (eqb-true _ _ e))) in
    (start ++ m.0, (m.0, m.1, refl), when_true _ (length start + reach (drop (length start) text)) (common start text) (common (start ++ m.0) text) e (omega arith))
start_at start P reach h text false e =
    let m = h [] in (start ++ m.0, (m.0, m.1, refl), when_false _ (length start + reach (drop (length start) text)) (common start text) (common (start ++ m.0) text) e (widen start m.0 text))

pub row_lower : (nodes : List (List ℕ)) (start : List ℕ) (ps : List Part) → Knows nodes ps → (P : List ℕ → Type 0) (reach : List ℕ → ℕ) → Lower P reach → Lower (Behind start (OfParts nodes ps P)) (row_reach nodes start ps reach)
unfolding row_reach
row_lower nodes start ps known P reach h text = start_at start (OfParts nodes ps P) (parts_reach nodes ps reach) (parts_lower nodes ps known P reach h) text (eqb (common start text) (length start)) refl

-- lines of these texts: a space, the text, and the end of the line
abbrev pub Lines : (T : List ℕ → Type 0) → List ℕ → Type 0
Lines T x = (text : List ℕ) × T text × (x ≡ 32 ∷ (text ++ 10 ∷ []))

whole_line : (nodes : List (List ℕ)) (w : Word) (ps : List Part) (T : List ℕ → Type 0) → ((vs : Values ps) → Valids nodes ps vs → T (words (w ∷ texts nodes ps vs))) → (x : List ℕ) → Behind (32 ∷ w) (OfParts nodes ps IsEnd) x → Lines T x
whole_line nodes w ps T f x (y, (vs, valids, z, end, e), g) =
    (words (w ∷ texts nodes ps vs), f vs valids, g ∙ ap (λ (t : List ℕ). 32 ∷ (w ++ t)) (e ∙ ap (spaced (texts nodes ps vs)) end) ∙ sym (words_spaced w (texts nodes ps vs) (10 ∷ [])))

pub whole_lower : (nodes : List (List ℕ)) (w : Word) (ps : List Part) → Knows nodes ps → (T : List ℕ → Type 0) → ((vs : Values ps) → Valids nodes ps vs → T (words (w ∷ texts nodes ps vs))) → Lower (Lines T) (row_reach nodes (32 ∷ w) ps end_reach)
whole_lower nodes w ps known T f =
    lower_map (Behind (32 ∷ w) (OfParts nodes ps IsEnd)) (Lines T) (row_reach nodes (32 ∷ w) ps end_reach) (whole_line nodes w ps T f) (row_lower nodes (32 ∷ w) ps known IsEnd end_reach end_lower)

tail_line : (nodes : List (List ℕ)) (w : Word) (ps : List Part) (S T : List ℕ → Type 0) → ((vs : Values ps) (text : List ℕ) → Valids nodes ps vs → S text → T (words (w ∷ (texts nodes ps vs ++ text ∷ []))))
    → (x : List ℕ) → Behind (32 ∷ w) (OfParts nodes ps (Lines S)) x → Lines T x
tail_line nodes w ps S T f x (y, (vs, valids, z, (text, s, end), e), g) = (
  words (w ∷ (texts nodes ps vs ++ text ∷ [])),
  f vs text valids s,
  g ∙ ap (λ (t : List ℕ). 32 ∷ (w ++ t)) (e ∙ ap (spaced (texts nodes ps vs)) end ∙ sym (spaced_behind (texts nodes ps vs) text (10 ∷ []))) ∙ sym (words_spaced w (texts nodes ps vs ++ text ∷ []) (10 ∷ [])),
)

pub tail_lower : (nodes : List (List ℕ)) (w : Word) (ps : List Part) → Knows nodes ps → (S T : List ℕ → Type 0) (reach : List ℕ → ℕ) → Lower (Lines S) reach
    → ((vs : Values ps) (text : List ℕ) → Valids nodes ps vs → S text → T (words (w ∷ (texts nodes ps vs ++ text ∷ [])))) → Lower (Lines T) (row_reach nodes (32 ∷ w) ps reach)
tail_lower nodes w ps known S T reach h f =
    lower_map (Behind (32 ∷ w) (OfParts nodes ps (Lines S))) (Lines T) (row_reach nodes (32 ∷ w) ps reach) (tail_line nodes w ps S T f) (row_lower nodes (32 ∷ w) ps known (Lines S) reach h)

-- ---- the farthest of several rows

abbrev pub Pick : (Q : List ℕ → Type 0) (text : List ℕ) → ℕ → Type 0
Pick Q text n = (x : List ℕ) × Q x × (n ≤ common x text)

abbrev pub Picks : (Q : List ℕ → Type 0) (text : List ℕ) → List ℕ → Type 0
Picks Q text [] = Unit {0}
Picks Q text (n ∷ ns) = Pick Q text n × Picks Q text ns

choose : (Q : List ℕ → Type 0) (text : List ℕ) (n m : ℕ) (b : Bool) → nat_le n m ≡ b → Pick Q text n → Pick Q text m → Pick Q text (max n m)
choose Q text n m true e (x, q, h) (y, r, k) = (y, r, grind (arith, e, k))
choose Q text n m false e (x, q, h) (y, r, k) = (x, q, grind (arith, e, h))

pub best : (Q : List ℕ → Type 0) (text : List ℕ) (n : ℕ) (ns : List ℕ) → Picks Q text (n ∷ ns) → Pick Q text (greatest (n ∷ ns))
best Q text n [] p = let m = p.0 in let h : n ≤ common m.0 text = m.2 in (m.0, m.1, omega arith)
best Q text n (m ∷ ns) p = choose Q text n (greatest (m ∷ ns)) (nat_le n (greatest (m ∷ ns))) refl p.0 (best Q text m ns p.1)

pub far_lower : (Q : List ℕ → Type 0) (text : List ℕ) (n : ℕ) (ns : List ℕ) → Picks Q text (n ∷ ns) → Pick Q text (farthest text (n ∷ ns))
far_lower Q text n ns p = let m = best Q text n ns p in let h : greatest (n ∷ ns) ≤ common m.0 text = m.2 in (m.0, m.1, omega arith)

pub far_rows : (Q : List ℕ → Type 0) (text : List ℕ) (rows : List ℕ) → 1 ≤ length rows → Picks Q text rows → Pick Q text (farthest text rows)
far_rows Q text [] h p = absurd (omega arith)
far_rows Q text (n ∷ ns) h p = far_lower Q text n ns p
