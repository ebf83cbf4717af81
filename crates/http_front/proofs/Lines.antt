-- The number of lines in a part of a head decides whether the head can still have at most 32 fields.
use Rattle.std.proofs.Common.{◌≡◌, ◌≢◌, ℕ, ◌+◌, ◌-◌, ◌≤◌, ◌<◌, ◌⊎◌, Bool, true, false, ◌&&◌, ◌||◌, not, eqb, ltb, List, [], ◌∷◌, ◌++◌, length, take, drop, get_or, All, refl, sym, ap, ◌∙◌, subst, arith, append_assoc, append-nil, length-append, inl, inr, cond}
use Rattle.std.proofs.lemmas.List.{get_or_at, get_or-append-add, take_at, take-append-drop, length-take-le}
use Rattle.std.proofs.lemmas.List.Concat.{flat_map-append}
use Rattle.std.proofs.lemmas.List.Elements.{All-head, All-tail, All-take, All-nil, All-cons, All-same}
use Rattle.std.proofs.lemmas.List.Sums.{sum_by-append, count_by-le-length, get_or-le-sum_by}
use Rattle.std.proofs.lemmas.Bool.{false≢true, ne_eqb, cases_lt}
use Rattle.std.proofs.lemmas.Bool.Decides.{nat_tests}
use Rattle.std.specs.List.{flat_map}
use Rattle.std.specs.Prelude.{if◌then◌else◌}
use Rattle.httparse.specs.Grammar.{is_token_byte, is_uri_byte, is_value_byte, AllPass, LineEnd, crlf, lf, print_end, print_blank, print_version, Field, print_field, IsField, RequestHead, IsRequestHead, print_request, ReadsRequest, HasNoRequest}
use Rattle.httparse.specs.Pieces.{is_newline, Stops}
use Rattle.httparse.proofs.PieceLemmas.{Stops_token}
use Rattle.http_front.specs.Front.{Becomes, MayBecomeHead}
use Rattle.http_front.specs.Lines.{after_blank, lines, ends_line, begins_field_33}

-- ---- lists

pub split_front : (a b c d : List ℕ) → a ++ b ≡ c ++ d → length a ≤ length c → (e : List ℕ) × (c ≡ a ++ e) × (b ≡ e ++ d)
split_front [] b c d same le = (c, refl, same)
split_front (x ∷ a) b [] d same le = absurd (omega arith)
split_front (x ∷ a) b (y ∷ c) d same le =
    let tails : a ++ b ≡ c ++ d = cc in
    let heads : x ≡ y = cc in
    let r = split_front a b c d tails (omega arith) in
    (r.0, cc, r.2)

-- ---- counts

pub lines-append : (a b : List ℕ) → lines (a ++ b) ≡ lines a + lines b
lines-append a b = sum_by-append _ a b

pub lines-cons : (x : ℕ) (a : List ℕ) → x ≢ 10 → lines (x ∷ a) ≡ lines a
lines-cons x a other = let no : eqb x 10 ≡ false = ne_eqb x 10 other in rw no (omega arith)

pub lines_none : (test : ℕ → Bool) → test 10 ≡ false → (xs : List ℕ) → AllPass test xs → lines xs ≡ 0
lines_none test fails [] all = refl
lines_none test fails (x ∷ xs) all =
    let here : test x ≡ true = All-head (λ v. test v ≡ true) x xs all in
    let other : x ≢ 10 = λ e. false≢true (sym fails ∙ ap test (sym e) ∙ here) in
    lines-cons x xs other ∙ lines_none test fails xs (All-tail (λ v. test v ≡ true) x xs all)

pub lines-end : (e : LineEnd) → lines (print_end e) ≡ 1
lines-end crlf = refl
lines-end lf = refl

token_no : is_token_byte 10 ≡ false
unfolding is_token_byte
token_no = refl

pub lines-token : (xs : List ℕ) → AllPass is_token_byte xs → lines xs ≡ 0
lines-token xs all = lines_none is_token_byte token_no xs all

pub lines-field : (f : Field) → IsField f → lines (print_field f) ≡ 1
lines-field f is =
    let name : lines f.name ≡ 0 = lines-token f.name is.name.1 in
    let raw : lines f.raw ≡ 0 = lines_none is_value_byte refl f.raw is.raw in
    let all : lines (print_field f) ≡ lines (f.name ++ (58 ∷ f.raw)) + lines (print_end f.end) = lines-append (f.name ++ (58 ∷ f.raw)) (print_end f.end) in
    let front : lines (f.name ++ (58 ∷ f.raw)) ≡ lines f.name + lines (58 ∷ f.raw) = lines-append f.name (58 ∷ f.raw) in
    let colon : lines (58 ∷ f.raw) ≡ lines f.raw = lines-cons 58 f.raw (λ e. omega arith) in
    let end : lines (print_end f.end) ≡ 1 = lines-end f.end in
    omega arith

pub lines-fields : (fs : List Field) → All IsField fs → lines (flat_map print_field fs) ≡ length fs
lines-fields [] all = refl
lines-fields (f ∷ fs) all =
    lines-append (print_field f) (flat_map print_field fs)
    ∙ omega (arith, lines-field f (All-head IsField f fs all), lines-fields fs (All-tail IsField f fs all))

-- ---- the parts of a head

-- the request line
abbrev pub start_line : RequestHead → List ℕ
start_line h = h.method ++ 32 ∷ (h.target ++ 32 ∷ (print_version h.minor ++ print_end h.line_end))

cons-append : (x : ℕ) (a b : List ℕ) → (x ∷ a) ++ b ≡ x ∷ (a ++ b)
cons-append x a b = refl

pub print_request-parts : (h : RequestHead)
    → print_request h ≡ print_blank h.blank ++ (start_line h ++ (flat_map print_field h.fields ++ print_end h.last))
unfolding print_request
print_request-parts h = simp (append_assoc, cons-append)

lines-version : (minor : ℕ) → minor ≤ 1 → lines (print_version minor) ≡ 0
lines-version minor le = lines-cons (48 + minor) [] (λ e. omega arith)

pub lines-start : (h : RequestHead) → IsRequestHead h → lines (start_line h) ≡ 1
lines-start h is =
    let method : lines h.method ≡ 0 = lines-token h.method is.method.1 in
    let target : lines h.target ≡ 0 = lines_none is_uri_byte refl h.target is.target.1 in
    let version : lines (print_version h.minor) ≡ 0 = lines-version h.minor is.minor in
    let end : lines (print_end h.line_end) ≡ 1 = lines-end h.line_end in
    let tail : List ℕ = print_version h.minor ++ print_end h.line_end in
    let a = lines-append h.method (32 ∷ (h.target ++ 32 ∷ tail)) in
    let b = lines-cons 32 (h.target ++ 32 ∷ tail) (λ e. omega arith) in
    let c = lines-append h.target (32 ∷ tail) in
    let d = lines-cons 32 tail (λ e. omega arith) in
    let e = lines-append (print_version h.minor) (print_end h.line_end) in
    omega (arith, a, b, c, d, e)

-- ---- without the line ends at the front

after_blank-newlines : (xs w : List ℕ) → All (λ b. is_newline b ≡ true) xs → after_blank (xs ++ w) ≡ after_blank w
after_blank-newlines [] w all = refl
after_blank-newlines (x ∷ xs) w all =
    let here : is_newline x ≡ true = All-head (λ b. is_newline b ≡ true) x xs all in
    rw here (after_blank-newlines xs w (All-tail (λ b. is_newline b ≡ true) x xs all))

after_blank-stops : (w more : List ℕ) → Stops is_newline (w ++ more) → after_blank w ≡ w
after_blank-stops [] more stops = refl
after_blank-stops (x ∷ w) more stops = let here : is_newline x ≡ false = stops in rw here refl

newlines_blank : (es : List LineEnd) → All (λ b. is_newline b ≡ true) (print_blank es)
newlines_blank [] = All-nil (λ b. is_newline b ≡ true)
newlines_blank (crlf ∷ es) =
    All-cons (λ b. is_newline b ≡ true) 13 (10 ∷ print_blank es) refl (All-cons (λ b. is_newline b ≡ true) 10 (print_blank es) refl (newlines_blank es))
newlines_blank (lf ∷ es) = All-cons (λ b. is_newline b ≡ true) 10 (print_blank es) refl (newlines_blank es)

front_newlines : (xs ys zs : List ℕ) → zs ≡ xs ++ ys → All (λ b. is_newline b ≡ true) zs → All (λ b. is_newline b ≡ true) xs
front_newlines xs ys zs same all =
    let P : ℕ → Type 0 = λ b. is_newline b ≡ true in
    let e : take (length xs) zs ≡ xs = ap (take (length xs)) same ∙ take_at xs ys (length xs) refl in
    All-same P xs (take (length xs) zs) (sym e) (All-take P (length xs) zs all)

-- A text that is part of a head either has line ends only, or it has all line ends of the head's front and a part of what
-- follows them.
pub behind_blank : (es : List LineEnd) (w text more : List ℕ) → Stops is_newline w → text ++ more ≡ print_blank es ++ w
    → (after_blank text ≡ []) ⊎ ((v : List ℕ) × (text ≡ print_blank es ++ v) × (after_blank text ≡ v) × (w ≡ v ++ more))
behind_blank es w text more stops same =
    elim (cases_lt (length (print_blank es)) (length text)) [
      | inr le ↦
          let cut = split_front text more (print_blank es) w same le in
          let all = front_newlines text cut.0 (print_blank es) cut.1 (newlines_blank es) in
          inl (ap after_blank (sym (append-nil text)) ∙ after_blank-newlines text [] all)
      | inl lt ↦
          let cut = split_front (print_blank es) w text more (sym same) (omega arith) in
          let stops_here : Stops is_newline (cut.0 ++ more) = subst (Stops is_newline) cut.2 stops in
          inr (cut.0, cut.1, ap after_blank cut.1 ∙ after_blank-newlines (print_blank es) cut.0 (newlines_blank es) ∙ after_blank-stops cut.0 more stops_here, cut.2)
    ]

-- A text has at least as many octets as lines.
pub lines-short : (text : List ℕ) → lines (after_blank text) ≤ length text
lines-short [] = omega arith
lines-short (x ∷ text) = step x text (lines-short text) (is_newline x)
  where
    step : (x : ℕ) (text : List ℕ) → lines (after_blank text) ≤ length text → (b : Bool) → lines (if b then after_blank text else (x ∷ text)) ≤ length (x ∷ text)
    step x text short true = omega (arith, short)
    step x text short false = count_by-le-length (λ (b : ℕ). eqb b 10) (x ∷ text)

-- ---- ends of lines

-- The last octet is an LF.
abbrev pub EndsInLf : List ℕ → Type 0
EndsInLf xs = (front : List ℕ) × (xs ≡ front ++ 10 ∷ [])

ends-after : (a xs : List ℕ) → EndsInLf xs → EndsInLf (a ++ xs)
ends-after a xs end = (a ++ end.0, ap (λ (t : List ℕ). a ++ t) end.1 ∙ sym (append_assoc a end.0 (10 ∷ [])))

ends-end : (e : LineEnd) → EndsInLf (print_end e)
ends-end crlf = (13 ∷ [], refl)
ends-end lf = ([], refl)

ends-fields : (a : List ℕ) (fs : List Field) → EndsInLf a → EndsInLf (a ++ flat_map print_field fs)
ends-fields a [] end = subst EndsInLf (sym (append-nil a)) end
ends-fields a (f ∷ fs) end =
    subst EndsInLf (append_assoc a (print_field f) (flat_map print_field fs))
    (ends-fields (a ++ print_field f) fs (ends-after a (print_field f) (ends-after (f.name ++ (58 ∷ f.raw)) (print_end f.end) (ends-end f.end))))

ends-start : (h : RequestHead) → EndsInLf (start_line h)
ends-start h =
    ends-after h.method _ (ends-after (32 ∷ []) _ (ends-after h.target _ (ends-after (32 ∷ []) _ (ends-after (print_version h.minor) _ (ends-end h.line_end)))))

-- If a text ends with an LF, each nonempty suffix of it contains a line end.
last-line : (a b xs : List ℕ) → a ++ b ≡ xs → EndsInLf xs → 0 < length b → 1 ≤ lines b
last-line a b xs same end some =
    let whole : a ++ b ≡ end.0 ++ 10 ∷ [] = same ∙ end.1 in
    let sizes : length a + length b ≡ length end.0 + 1 = sym (length-append a b) ∙ ap length whole ∙ length-append end.0 (10 ∷ []) in
    let cut = split_front a b end.0 (10 ∷ []) whole (omega arith) in
    let count : lines b ≡ lines cut.0 + 1 = ap lines cut.2 ∙ lines-append cut.0 (10 ∷ []) in
    omega arith

no-line-at : (r : List ℕ) (i : ℕ) → i < length r → lines r ≡ 0 → eqb (get_or r i 0) 10 ≡ false
no-line-at r i lt none =
    let le : cond (eqb (get_or r i 0) 10) 1 0 ≤ lines r = get_or-le-sum_by (λ (b : ℕ). cond (eqb b 10) 1 0) r i 0 lt in
    not_one (eqb (get_or r i 0) 10) (omega arith)
  where
    not_one : (b : Bool) → cond b 1 0 ≤ 0 → b ≡ false
    not_one true le = absurd (omega arith)
    not_one false le = refl

ends-line-lf : (a : List ℕ) → ends_line (a ++ 10 ∷ []) ≡ true
ends-line-lf a =
    let size : length (a ++ 10 ∷ []) ≡ length a + 1 = length-append a (10 ∷ []) in
    let last : get_or (a ++ 10 ∷ []) (length (a ++ 10 ∷ []) - 1) 0 ≡ 10 = get_or_at a 10 [] 0 (length (a ++ 10 ∷ []) - 1) (omega arith) in
    rw last refl

ends-line-cr : (a : List ℕ) → ends_line (a ++ 10 ∷ 13 ∷ []) ≡ true
ends-line-cr a =
    let t : List ℕ = a ++ 10 ∷ 13 ∷ [] in
    let size : length (a ++ 10 ∷ 13 ∷ []) ≡ length a + 2 = length-append a (10 ∷ 13 ∷ []) in
    let last : get_or (a ++ 10 ∷ 13 ∷ []) (length (a ++ 10 ∷ 13 ∷ []) - 1) 0 ≡ 13 =
    ap (λ (n : ℕ). get_or (a ++ 10 ∷ 13 ∷ []) n 0) (omega arith) ∙ get_or-append-add a (10 ∷ 13 ∷ []) 1 0 in
    let before : get_or (a ++ 10 ∷ 13 ∷ []) (length (a ++ 10 ∷ 13 ∷ []) - 2) 0 ≡ 10 =
    ap (λ (n : ℕ). get_or (a ++ 10 ∷ 13 ∷ []) n 0) (omega arith) ∙ get_or-append-add a (10 ∷ 13 ∷ []) 0 0 in
    rw (last, before) refl

-- After complete lines, the only part of a line that counts as a line end is a CR.
tail-is-cr : (a r : List ℕ) → 0 < length r → lines r ≡ 0 → ends_line (a ++ r) ≡ true → r ≡ 13 ∷ []
tail-is-cr a [] some none ends = absurd (omega arith)
tail-is-cr a (x ∷ []) some none ends =
    let no : eqb x 10 ≡ false = no-line-at (x ∷ []) 0 (omega arith) none in
    let size : length (a ++ x ∷ []) ≡ length a + 1 = length-append a (x ∷ []) in
    let last : get_or (a ++ x ∷ []) (length (a ++ x ∷ []) - 1) 0 ≡ x = get_or_at a x [] 0 (length (a ++ x ∷ []) - 1) (omega arith) in
    ap (λ (n : ℕ). n ∷ []) (is-cr x _ no (ap (λ (n : ℕ). eqb n 10 || (eqb n 13 && eqb (get_or (a ++ x ∷ []) (length (a ++ x ∷ []) - 2) 0) 10)) (sym last) ∙ ends))
  where
    is-cr : (x : ℕ) (b : Bool) → eqb x 10 ≡ false → (eqb x 10 || (eqb x 13 && b)) ≡ true → x ≡ 13
    is-cr x b fails ends = grind arith
tail-is-cr a (x ∷ y ∷ r) some none ends =
    let t : List ℕ = x ∷ y ∷ r in
    let size : length (a ++ t) ≡ length a + length t = length-append a t in
    let last : get_or (a ++ t) (length (a ++ t) - 1) 0 ≡ get_or t (length t - 1) 0 =
    ap (λ (n : ℕ). get_or (a ++ t) n 0) (omega arith) ∙ get_or-append-add a t (length t - 1) 0 in
    let before : get_or (a ++ t) (length (a ++ t) - 2) 0 ≡ get_or t (length t - 2) 0 =
    ap (λ (n : ℕ). get_or (a ++ t) n 0) (omega arith) ∙ get_or-append-add a t (length t - 2) 0 in
    let no : eqb (get_or (a ++ t) (length (a ++ t) - 1) 0) 10 ≡ false = ap (λ (n : ℕ). eqb n 10) last ∙ no-line-at t (length t - 1) (omega arith) none in
    let neither : eqb (get_or (a ++ t) (length (a ++ t) - 2) 0) 10 ≡ false = ap (λ (n : ℕ). eqb n 10) before ∙ no-line-at t (length t - 2) (omega arith) none in
    absurd (no-end _ _ _ no neither ends)
  where
    no-end : (b c d : Bool) → b ≡ false → d ≡ false → (b || (c && d)) ≡ true → ⊥
    no-end b c d fails neither ends = grind arith

-- ---- heads

-- a head's lines after those at its front, without the last one
abbrev pub field_lines : RequestHead → List ℕ
field_lines h = start_line h ++ flat_map print_field h.fields

lines-field_lines : (h : RequestHead) → IsRequestHead h → lines (field_lines h) ≡ 1 + length h.fields
lines-field_lines h is =
    lines-append (start_line h) (flat_map print_field h.fields) ∙ omega (arith, lines-start h is, lines-fields h.fields is.fields)

ends-field_lines : (h : RequestHead) → EndsInLf (field_lines h)
ends-field_lines h = ends-fields (start_line h) h.fields (ends-start h)

stops-lines : (h : RequestHead) (rest : List ℕ) → IsRequestHead h → Stops is_newline (field_lines h ++ rest)
stops-lines h rest is =
    subst (Stops is_newline) (sym (regroup h.method _ (flat_map print_field h.fields) rest)) (Stops_token h.method _ is.method.0 is.method.1)
  where
    regroup : (a b c d : List ℕ) → ((a ++ b) ++ c) ++ d ≡ a ++ ((b ++ c) ++ d)
    regroup a b c d = simp append_assoc

pub print_request-lines : (h : RequestHead) → print_request h ≡ print_blank h.blank ++ (field_lines h ++ print_end h.last)
print_request-lines h =
    print_request-parts h ∙ ap (λ (t : List ℕ). print_blank h.blank ++ t) (sym (append_assoc (start_line h) (flat_map print_field h.fields) (print_end h.last)))

-- If only the last line end of a head is missing, or a part of it, the text ends right after a line, or after a line end and a
-- CR.
at-last-line : (b v : List ℕ) (e : LineEnd) (r more : List ℕ) → EndsInLf v → print_end e ≡ r ++ more → 0 < length more
    → ends_line (b ++ (v ++ r)) ≡ true
at-last-line b v lf [] more end same some =
    ap ends_line (ap (λ (t : List ℕ). b ++ t) (append-nil v ∙ end.1) ∙ sym (append_assoc b end.0 (10 ∷ []))) ∙ ends-line-lf (b ++ end.0)
at-last-line b v lf (x ∷ r) more end same some =
    let sizes : 1 ≡ length r + length more + 1 = ap length same ∙ (let e = length-append r more in omega (arith, e)) in
    absurd (omega arith)
at-last-line b v crlf [] more end same some =
    ap ends_line (ap (λ (t : List ℕ). b ++ t) (append-nil v ∙ end.1) ∙ sym (append_assoc b end.0 (10 ∷ []))) ∙ ends-line-lf (b ++ end.0)
at-last-line b v crlf (x ∷ []) more end same some =
    let first : x ≡ 13 = cc in
    ap ends_line (ap (λ (t : List ℕ). b ++ t) (ap (λ (t : List ℕ). t ++ x ∷ []) end.1 ∙ append_assoc end.0 (10 ∷ []) (x ∷ [])) ∙ sym (append_assoc b end.0 (10 ∷ x ∷ []))
    ∙ ap (λ (n : ℕ). (b ++ end.0) ++ 10 ∷ n ∷ []) first)
    ∙ ends-line-cr (b ++ end.0)
at-last-line b v crlf (x ∷ y ∷ r) more end same some =
    let sizes : 2 ≡ length r + length more + 2 = ap length same ∙ (let e = length-append r more in omega (arith, e)) in
    absurd (omega arith)

-- A part of a head with at most 32 fields doesn't begin a 33rd field.
pub begins-none : (text more : List ℕ) (h : RequestHead) → Becomes text more h → HasNoRequest text → begins_field_33 text ≡ false
begins-none text [] h becomes none =
    absurd (none h [] (becomes.reads.0, sym (append-nil text) ∙ becomes.reads.1))
begins-none text (m ∷ more) h becomes none =
    let is = becomes.reads.0 in
    let last : List ℕ = print_end h.last in
    let whole : text ++ (m ∷ more) ≡ print_blank h.blank ++ (field_lines h ++ print_end h.last) =
    becomes.reads.1 ∙ append-nil (print_request h) ∙ print_request-lines h in
    elim (behind_blank h.blank (field_lines h ++ print_end h.last) text (m ∷ more) (stops-lines h (print_end h.last) is) whole) [
      | inl blank ↦ rw blank refl
      | inr part ↦
          let v : List ℕ = part.0 in
          let total : lines (field_lines h ++ print_end h.last) ≡ lines (field_lines h) + lines (print_end h.last) = lines-append (field_lines h) (print_end h.last) in
          let shared : lines (field_lines h ++ print_end h.last) ≡ lines part.0 + lines (m ∷ more) = ap lines part.3 ∙ lines-append part.0 (m ∷ more) in
          let left : 1 ≤ lines (m ∷ more) = last-line part.0 (m ∷ more) (field_lines h ++ print_end h.last) (sym part.3) (ends-after (field_lines h) (print_end h.last) (ends-end h.last)) (omega arith) in
          let fields : lines (field_lines h) ≡ 1 + length h.fields = lines-field_lines h is in
          let one : lines (print_end h.last) ≡ 1 = lines-end h.last in
          let few = becomes.few in
          let at_most : lines part.0 ≤ 33 = omega arith in
          let ends : lines part.0 ≡ 33 → ends_line text ≡ true = λ full.
          elim (cases_lt (length part.0) (length (field_lines h))) [
            | inl lt ↦
                let cut = split_front part.0 (m ∷ more) (field_lines h) (print_end h.last) (sym part.3) (omega arith) in
                let size : length (field_lines h) ≡ length part.0 + length cut.0 = ap length cut.1 ∙ length-append part.0 cut.0 in
                let more_lines : 1 ≤ lines cut.0 = last-line part.0 cut.0 (field_lines h) (sym cut.1) (ends-field_lines h) (omega arith) in
                let sum : lines (field_lines h) ≡ lines part.0 + lines cut.0 = ap lines cut.1 ∙ lines-append part.0 cut.0 in
                absurd (omega arith)
            | inr le ↦
                let cut = split_front (field_lines h) (print_end h.last) part.0 (m ∷ more) part.3 le in
                ap ends_line (part.1 ∙ ap (λ (t : List ℕ). print_blank h.blank ++ t) cut.1)
                ∙ at-last-line (print_blank h.blank) (field_lines h) h.last cut.0 (m ∷ more) (ends-field_lines h) cut.2 (omega arith)
          ] in
          ap (λ (t : List ℕ). ltb 33 (lines t) || (eqb (lines t) 33 && not (ends_line text))) part.2 ∙ decide (lines part.0) (ends_line text) at_most ends
    ]
  where
    decide : (n : ℕ) (b : Bool) → n ≤ 33 → (n ≡ 33 → b ≡ true) → (ltb 33 n || (eqb n 33 && not b)) ≡ false
    decide n b le ends = grind (arith, nat_tests)

-- a head cut off after its 32nd field
abbrev pub cut_head : RequestHead → RequestHead
cut_head h = record h { fields = take 32 h.fields; last = crlf }

cut-is : (h : RequestHead) → IsRequestHead h → IsRequestHead (cut_head h)
cut-is h is = record {
  method = is.method;
  target = is.target;
  target_text = is.target_text;
  minor = is.minor;
  fields = All-take IsField 32 h.fields is.fields;
}

cut-lines : (h : RequestHead) → 32 < length h.fields → IsRequestHead h → lines (field_lines (cut_head h)) ≡ 33
cut-lines h many is =
    let size : length (take 32 h.fields) ≡ 32 = length-take-le 32 h.fields (omega arith) in
    lines-field_lines (cut_head h) (cut-is h is) ∙ omega arith

-- what the head has after its 32nd field
abbrev beyond : RequestHead → List ℕ
beyond h = flat_map print_field (drop 32 h.fields) ++ print_end h.last

-- A head and its cut-off version begin with the same lines.
whole-head : (h : RequestHead)
    → print_request h ≡ (print_blank h.blank ++ field_lines (cut_head h)) ++ beyond h
whole-head h =
    let fields : flat_map print_field h.fields ≡ flat_map print_field (take 32 h.fields) ++ flat_map print_field (drop 32 h.fields) =
    ap (flat_map print_field) (sym (take-append-drop 32 h.fields)) ∙ flat_map-append print_field (take 32 h.fields) (drop 32 h.fields) in
    print_request-parts h
    ∙ ap (λ (t : List ℕ). print_blank h.blank ++ (start_line h ++ (t ++ print_end h.last))) fields
    ∙ regroup (print_blank h.blank) (start_line h) (flat_map print_field (take 32 h.fields)) (flat_map print_field (drop 32 h.fields)) (print_end h.last)
  where
    regroup : (a b c d e : List ℕ) → a ++ (b ++ ((c ++ d) ++ e)) ≡ (a ++ (b ++ c)) ++ (d ++ e)
    regroup a b c d e = simp append_assoc

cut-whole : (h : RequestHead) → print_request (cut_head h) ≡ (print_blank h.blank ++ field_lines (cut_head h)) ++ print_end crlf
cut-whole h = print_request-lines (cut_head h) ∙ sym (append_assoc (print_blank h.blank) (field_lines (cut_head h)) (print_end crlf))

part-of-cut : (text more : List ℕ) (h : RequestHead) → 32 < length h.fields → IsRequestHead h → text ++ more ≡ print_request (cut_head h)
    → MayBecomeHead text
part-of-cut text more h many is same =
    let size : length (take 32 h.fields) ≡ 32 = length-take-le 32 h.fields (omega arith) in
    (more, cut_head h, record { reads = (cut-is h is, same ∙ sym (append-nil (print_request (cut_head h)))); few = omega arith })

-- A part of a head that doesn't begin a 33rd field is a part of a head with at most 32 fields.
pub part-of-few : (text more : List ℕ) (h : RequestHead) → ReadsRequest (text ++ more) h [] → begins_field_33 text ≡ false → MayBecomeHead text
part-of-few text more h reads within =
    elim (cases_lt 32 (length h.fields)) [
      | inr few ↦ (more, h, record { reads = reads; few = few })
      | inl many ↦
          let is = reads.0 in
          let front : List ℕ = print_blank h.blank ++ field_lines (cut_head h) in
          let whole : text ++ more ≡ (print_blank h.blank ++ field_lines (cut_head h)) ++ beyond h =
          reads.1 ∙ append-nil (print_request h) ∙ whole-head h in
          elim (cases_lt (length (print_blank h.blank ++ field_lines (cut_head h))) (length text)) [
            | inr le ↦
                let cut = split_front text more (print_blank h.blank ++ field_lines (cut_head h)) (beyond h) whole le in
                part-of-cut text (cut.0 ++ print_end crlf) h many is
                (sym (append_assoc text cut.0 (print_end crlf)) ∙ ap (λ (t : List ℕ). t ++ print_end crlf) (sym cut.1) ∙ sym (cut-whole h))
            | inl lt ↦
                let cut = split_front (print_blank h.blank ++ field_lines (cut_head h)) (beyond h) text more (sym whole) (omega arith) in
                let size : length text ≡ length (print_blank h.blank ++ field_lines (cut_head h)) + length cut.0 =
                ap length cut.1 ∙ length-append (print_blank h.blank ++ field_lines (cut_head h)) cut.0 in
                let shown : after_blank text ≡ field_lines (cut_head h) ++ cut.0 =
                ap after_blank (cut.1 ∙ append_assoc (print_blank h.blank) (field_lines (cut_head h)) cut.0)
                ∙ after_blank-newlines (print_blank h.blank) (field_lines (cut_head h) ++ cut.0) (newlines_blank h.blank)
                ∙ after_blank-stops (field_lines (cut_head h) ++ cut.0) []
                (subst (Stops is_newline) (sym (append-nil (field_lines (cut_head h) ++ cut.0))) (stops-lines (cut_head h) cut.0 (cut-is h is))) in
                let count : lines (after_blank text) ≡ 33 + lines cut.0 =
                ap lines shown ∙ lines-append (field_lines (cut_head h)) cut.0 ∙ ap (λ (n : ℕ). n + lines cut.0) (cut-lines h many is) in
                let known = decide (lines (after_blank text)) (lines cut.0) (ends_line text) count within in
                let cr : cut.0 ≡ 13 ∷ [] =
                tail-is-cr (print_blank h.blank ++ field_lines (cut_head h)) cut.0 (omega arith) known.0 (ap ends_line (sym cut.1) ∙ known.1) in
                part-of-cut text (10 ∷ []) h many is
                (ap (λ (t : List ℕ). t ++ 10 ∷ []) (cut.1 ∙ ap (λ (t : List ℕ). (print_blank h.blank ++ field_lines (cut_head h)) ++ t) cr)
                ∙ append_assoc (print_blank h.blank ++ field_lines (cut_head h)) (13 ∷ []) (10 ∷ []) ∙ sym (cut-whole h))
          ]
    ]
  where
    decide : (n m : ℕ) (b : Bool) → n ≡ 33 + m → (ltb 33 n || (eqb n 33 && not b)) ≡ false → (m ≡ 0) × (b ≡ true)
    decide n m b same within = (grind (arith, nat_tests), grind (arith, nat_tests))
