-- Whether a text that doesn't end inside a target begins with a head of at most 32 fields, is a part of one, or is neither.
use Rattle.std.proofs.Common.{◌≡◌, ◌≤◌, ℕ, ◌+◌, Bool, true, false, eqb, List, [], ◌∷◌, ◌++◌, length, refl, sym, ap, ◌∙◌, arith, codes}
use Rattle.std.specs.Str.{is_utf8}
use Rattle.std.proofs.lemmas.Bool.{false≢true, eqb-true, eqb-false}
use Rattle.std.proofs.lemmas.Str.{IsUtf8-from_is_utf8, is_utf8-from_IsUtf8}
use Rattle.httparse.specs.Grammar.{is_uri_byte, AllPass, LineEnd, Field, RequestHead, ReadsRequest, EndsInTarget}
use Rattle.httparse.specs.Pieces.{Piece, Then, Newline, Blank, Word, Method, Target, Version, SectionOfAtMost, RequestStart}
use Rattle.httparse.proofs.PieceLemmas.{Refutes_by, Refutes_first, NotYet_intro, Never_intro, space_ends_token, Word_deterministic, Bytes_deterministic, Blank_deterministic, Method_deterministic, Target_deterministic, Version_deterministic, RequestStart_deterministic}
use Rattle.httparse.proofs.OpenLemmas.{Completes_first, some_newline, some_version, some_target, line_blank, ends_in_target}
use Rattle.httparse.proofs.GrammarLemmas.{request_tree, request_head, request_pieces, request_from_pieces}
use Rattle.run_http.proofs.Looks.{Look, found, cut, never, as_other, after, in_row, WordLook, word, open_word, no_word, look_word, look_token, look_bytes, look_newline}
use Rattle.run_http.proofs.Sections.{BlankLook, blank, open_blank, no_blank, look_blank, some_few, look_section}

-- ---- a target

same_word : (text w : List ℕ) (rest more v r : List ℕ) → Word is_uri_byte 32 w text rest → Word is_uri_byte 32 v (text ++ more) r → v ≡ w
same_word text w rest more v r x y =
    let one = Word_deterministic is_uri_byte 32 refl in
    (one.unique v w (text ++ more) r (rest ++ more) y (one.append w text rest more x)).0

in_utf8 : (text w rest : List ℕ) → Word is_uri_byte 32 w text rest → (t : Bool) → is_utf8 w ≡ t → Look Target text
in_utf8 text w rest h true is = found w rest (h, IsUtf8-from_is_utf8 w is)
in_utf8 text w rest h false fails =
    never (Never_intro λ more x.
    false≢true (sym fails ∙ ap is_utf8 (sym (same_word text w rest more x.0 x.1 h x.2.0)) ∙ is_utf8-from_IsUtf8 x.0 x.2.1))

look_target : (text : List ℕ) → ¬ (AllPass is_uri_byte text) → Look Target text
look_target text ends = by_word (look_word is_uri_byte 32 refl text)
  where
    by_word : WordLook is_uri_byte 32 text → Look Target text
    by_word (word w rest h) = in_utf8 text w rest h (is_utf8 w) refl
    by_word (open_word all) = absurd (ends all)
    by_word (no_word none) = never (Refutes_by (λ more h. (h.0, h.1, h.2.0)) none)

-- ---- a version

abbrev Minor : Piece ℕ
Minor minor text rest = (minor ≤ 1) × (text ≡ (48 + minor) ∷ rest)

look_minor : (text : List ℕ) → Look Minor text
look_minor [] =
    cut (NotYet_intro λ h. let same = h.2.1 in cc) (record { more = 48 ∷ []; tree = 0; reads = λ rest. (omega arith, refl) })
look_minor (c ∷ text) = by_test (eqb c 48) (eqb c 49) refl refl
  where
    by_test : (t u : Bool) → eqb c 48 ≡ t → eqb c 49 ≡ u → Look Minor (c ∷ text)
    by_test true u is_zero is_one = found 0 text (omega arith, ap (λ (n : ℕ). n ∷ text) (eqb-true c 48 is_zero))
    by_test false true is_zero is_one = found 1 text (omega arith, ap (λ (n : ℕ). n ∷ text) (eqb-true c 49 is_one))
    by_test false false no_zero no_one = never (Never_intro λ more h.
        let all = h.2.1 in
        let same : c ≡ 48 + h.0 = cc in
        let low = h.2.0 in
        let first = eqb-false c 48 no_zero in
        let second = eqb-false c 49 no_one in
        omega (arith, same, low, first, second))

look_version : (text : List ℕ) → Look Version text
look_version text =
    as_other (λ t. t.1) (λ t s rest h. (h.2.0, let front = h.1 in let digit = h.2.1 in cc))
    (λ more h. ((tt, h.0), h.1, ((48 + h.0) ∷ h.1, h.2.1, (h.2.0, refl))))
    (in_row (Bytes_deterministic (codes "HTTP/1.")) (record { more = 48 ∷ []; tree = 0; reads = λ rest. (omega arith, refl) }) (look_bytes (codes "HTTP/1.") text)
    (λ u rest front. look_minor rest))

-- ---- a start line

abbrev RequestLine : Piece (List ℕ × (List ℕ × (ℕ × LineEnd)))
RequestLine = Then Method (Then Target (Then Version Newline))

look_line : (text : List ℕ) → ((method rest : List ℕ) → Method method text rest → ¬ (AllPass is_uri_byte rest)) → Look RequestLine text
look_line text ends =
    in_row Method_deterministic (Completes_first some_target (Completes_first some_version some_newline)) (look_token 32 space_ends_token text)
    (λ method u word.
    in_row Target_deterministic (Completes_first some_version some_newline) (look_target u (ends method u word))
    (λ target v line.
    in_row Version_deterministic some_newline (look_version v) (λ minor w version. look_newline w)))

look_start : (text : List ℕ) → ¬ (EndsInTarget text) → Look RequestStart text
look_start text ends = by_blank (look_blank text)
  where
    by_blank : BlankLook text → Look RequestStart text
    by_blank (blank es rest h) = after Blank_deterministic es h (look_line rest (λ method u word all. ends (ends_in_target es method u h word all)))
    by_blank (open_blank none c) = cut (Refutes_first Blank RequestLine none) (line_blank c)
    by_blank (no_blank none) = never (Refutes_first Blank RequestLine none)

-- ---- a head

abbrev Row : Piece ((List LineEnd × (List ℕ × (List ℕ × (ℕ × LineEnd)))) × (List Field × LineEnd))
Row = Then RequestStart (SectionOfAtMost 32)

look_row : (text : List ℕ) → ¬ (EndsInTarget text) → Look Row text
look_row text ends = in_row RequestStart_deterministic (some_few 32) (look_start text ends) (λ start rest line. look_section 32 rest)

-- This head has at most 32 fields.
abbrev pub Short : Piece RequestHead
Short head text rest = ReadsRequest text head rest × (length head.fields ≤ 32)

short_row : (head : RequestHead) (text rest : List ℕ) → Short head text rest → Row (request_tree head) text rest
short_row head text rest h =
    let row = request_pieces text head rest h.0 in
    (row.0, row.1, (row.2, h.1))

pub look_head : (text : List ℕ) → ¬ (EndsInTarget text) → Look Short text
look_head text ends =
    as_other request_head (λ t s rest h. (request_from_pieces s t rest (h.0, h.1, h.2.0), h.2.1)) (λ more h. (request_tree h.0, h.1, short_row h.0 (text ++ more) h.1 h.2))
    (look_row text ends)
