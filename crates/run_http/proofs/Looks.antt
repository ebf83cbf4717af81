-- Whether a text begins with a piece of the grammar of heads, is a part of one, or is neither.
use Rattle.std.proofs.Common.{◌≡◌, ℕ, Bool, true, false, eqb, List, [], ◌∷◌, ◌++◌, length, refl, sym, ap, ◌∙◌, subst, arith}
use Rattle.std.proofs.lemmas.Bool.{true≢false, eqb-true, eqb-false, or_from}
use Rattle.std.proofs.lemmas.List.Elements.{All-nil, All-cons}
use Rattle.httparse.specs.Grammar.{is_token_byte, is_value_byte, AllPass, LineEnd, crlf, lf, print_end}
use Rattle.httparse.specs.Pieces.{Piece, Begins, Then, NotYet, Never, Completes, Stops, is_newline, Bytes, Newline, Word, Text}
use Rattle.httparse.proofs.RunLemmas.{run_unique, run_unstopped, Stops-append}
use Rattle.httparse.proofs.PieceLemmas.{IsDeterministic, Refutes_by, Refutes_first, Refutes_next, NotYet_intro, NotYet_elim, Never_intro, front-append, newline_not_stopped, Stops_value}
use Rattle.httparse.proofs.OpenLemmas.{Completes_first, Completes_next, some_newline, Newline_after_cr, Word_cut, letter_is_token}

-- The text begins with the piece; or it doesn't, and some octets complete it; or it doesn't, whatever follows.
pub data Look {A : Type 0} (G : Piece A) (text : List ℕ) : Type 0 where
  found : (a : A) (rest : List ℕ) → G a text rest → Look G text
  cut : NotYet (Begins G) text → Completes G text → Look G text
  never : Never (Begins G) text → Look G text

-- ---- a piece in another form, and pieces in a row

pub as_other : {A B : Type 0} {G : Piece A} {H : Piece B} {s : List ℕ} (f : A → B) → ((a : A) (text rest : List ℕ) → G a text rest → H (f a) text rest) →
    ((more : List ℕ) → Begins H (s ++ more) → Begins G (s ++ more)) → Look G s → Look H s
as_other {s} f to from (found a rest g) = found (f a) rest (to a s rest g)
as_other {s} f to from (cut none c) =
    cut (Refutes_by from none) (record { more = c.more; tree = f c.tree; reads = λ rest. to c.tree (s ++ (c.more ++ rest)) rest (c.reads rest) })
as_other f to from (never none) = never (Refutes_by from none)

pub after : {A B : Type 0} {G : Piece A} {H : Piece B} {s t : List ℕ} → IsDeterministic G → (a : A) → G a s t → Look H t → Look (Then G H) s
after {t} det a g (found b rest h) = found (a, b) rest (t, g, h)
after {H} det a g (cut none c) = cut (Refutes_next H det {a = a} g none) (Completes_next det {a = a} g c)
after {H} det a g (never none) = never (Refutes_next H det {a = a} g none)

pub in_row : {A B : Type 0} {G : Piece A} {H : Piece B} {s : List ℕ} → IsDeterministic G → Completes H [] → Look G s → ((a : A) (t : List ℕ) → G a s t → Look H t) → Look (Then G H) s
in_row det some (found a t g) next = after det a g (next a t g)
in_row {G} {H} det some (cut none c) next = cut (Refutes_first G H none) (Completes_first c some)
in_row {G} {H} det some (never none) next = never (Refutes_first G H none)

-- ---- runs

-- All octets pass the test, or `b` is the first that fails it.
pub data Split (test : ℕ → Bool) (text : List ℕ) : Type 0 where
  whole : AllPass test text → Split test text
  stopped : (run : List ℕ) (b : ℕ) (rest : List ℕ) → AllPass test run → test b ≡ false → text ≡ run ++ b ∷ rest → Split test text

split_next : (test : ℕ → Bool) (b : ℕ) (text : List ℕ) (t : Bool) → test b ≡ t → Split test text → Split test (b ∷ text)
split_next test b text false fails later = stopped [] b text (All-nil (λ v. test v ≡ true)) fails refl
split_next test b text true passes (whole all) = whole (All-cons (λ v. test v ≡ true) b text passes all)
split_next test b text true passes (stopped run c rest all fails is) =
    stopped (b ∷ run) c rest (All-cons (λ v. test v ≡ true) b run passes all) fails (ap (λ (t : List ℕ). b ∷ t) is)

pub split : (test : ℕ → Bool) (text : List ℕ) → Split test text
split test [] = whole (All-nil (λ v. test v ≡ true))
split test (b ∷ text) = split_next test b text (test b) refl (split test text)

-- ---- words

-- The text begins with a word, or it may be the front of one, or it never begins with one.
pub data WordLook (test : ℕ → Bool) (stop : ℕ) (text : List ℕ) : Type 0 where
  word : (w rest : List ℕ) → Word test stop w text rest → WordLook test stop text
  open_word : AllPass test text → WordLook test stop text
  no_word : Never (Begins (Word test stop)) text → WordLook test stop text

module _ (test : ℕ → Bool) (stop : ℕ) (fails : test stop ≡ false) where
  -- A word is what stands before the first octet that fails the test.
  word_is_run : (text run : List ℕ) (b : ℕ) (rest more w r : List ℕ) → AllPass test run → test b ≡ false → text ≡ run ++ b ∷ rest → Word test stop w (text ++ more) r → (run ≡ w) × (b ≡ stop)
  word_is_run text run b rest more w r all other is h =
      let same = run_unique test run w (b ∷ (rest ++ more)) (stop ∷ r) all h.1 other fails (sym (front-append text run (b ∷ rest) more is) ∙ h.2) in
      let heads = same.1 in
      (same.0, cc)

  at_stop : (text run : List ℕ) (b : ℕ) (rest : List ℕ) → AllPass test run → test b ≡ false → text ≡ run ++ b ∷ rest → (t : Bool) → eqb b stop ≡ t → WordLook test stop text
  at_stop text [] b rest all other is true same =
      no_word (Never_intro λ more h.
      let empty = ap length (word_is_run text [] b rest more h.0 h.1 all other is h.2).0 in
      let some = h.2.0 in
      omega (arith, empty, some))
  at_stop text (x ∷ run) b rest all other is true same =
      word (x ∷ run) rest (omega arith, all, is ∙ ap (λ (n : ℕ). x ∷ (run ++ n ∷ rest)) (eqb-true b stop same))
  at_stop text run b rest all other is false differs =
      no_word (Never_intro λ more h. eqb-false b stop differs (word_is_run text run b rest more h.0 h.1 all other is h.2).1)

  pub look_word : (text : List ℕ) → WordLook test stop text
  look_word text = by_split (split test text)
    where
      by_split : Split test text → WordLook test stop text
      by_split (whole all) = open_word all
      by_split (stopped run b rest all other is) = at_stop text run b rest all other is (eqb b stop) refl

-- a token and the octet after it
pub look_token : (stop : ℕ) → is_token_byte stop ≡ false → (text : List ℕ) → Look (Word is_token_byte stop) text
look_token stop fails text = by_word (look_word is_token_byte stop fails text)
  where
    by_word : WordLook is_token_byte stop text → Look (Word is_token_byte stop) text
    by_word (word w rest h) = found w rest h
    by_word (open_word all) =
        cut (NotYet_intro λ h. run_unstopped is_token_byte h.0 (stop ∷ h.1) (subst (AllPass is_token_byte) h.2.2 all) fails) (Word_cut is_token_byte stop 65 letter_is_token all)
    by_word (no_word none) = never none

-- ---- given octets

byte_next : (b : ℕ) (bytes : List ℕ) (c : ℕ) (text : List ℕ) (t : Bool) → eqb c b ≡ t → Look (Bytes bytes) text → Look (Bytes (b ∷ bytes)) (c ∷ text)
byte_next b bytes c text false differs later = never (Never_intro λ more h. eqb-false c b differs (let same = h.2 in cc))
byte_next b bytes c text true is (found a rest h) = found tt rest (let same = eqb-true c b is in cc)
byte_next b bytes c text true is (cut none x) =
    cut (NotYet_intro λ h. NotYet_elim none (tt, h.1, let same = h.2 in cc))
    (record { more = x.more; tree = tt; reads = λ rest. let same = eqb-true c b is in let later = x.reads rest in cc })
byte_next b bytes c text true is (never none) = never (Refutes_by (λ more h. (tt, h.1, let same = h.2 in cc)) none)

pub look_bytes : (bytes text : List ℕ) → Look (Bytes bytes) text
look_bytes [] text = found tt text refl
look_bytes (b ∷ bytes) [] = cut (NotYet_intro λ h. let same = h.2 in cc) (record { more = b ∷ bytes; tree = tt; reads = λ rest. refl })
look_bytes (b ∷ bytes) (c ∷ text) = byte_next b bytes c text (eqb c b) refl (look_bytes bytes text)

-- ---- line ends

-- The text begins with a line end; or it is empty or CR; or CR without LF stands there, or another octet.
pub data LineStart (text : List ℕ) : Type 0 where
  ended : (e : LineEnd) (rest : List ℕ) → Newline e text rest → LineStart text
  opened : NotYet (Begins Newline) text → NotYet (Stops is_newline) text → Completes Newline text → LineStart text
  broken : Never (Begins Newline) text → Never (Stops is_newline) text → LineStart text
  other : Stops is_newline text → LineStart text

no_newline : (e : LineEnd) (rest : List ℕ) → Newline e [] rest → ⊥
no_newline crlf rest h = cc
no_newline lf rest h = cc

cr_alone : (e : LineEnd) (rest : List ℕ) → Newline e (13 ∷ []) rest → ⊥
cr_alone crlf rest h = cc
cr_alone lf rest h = let wrong : ◌≡◌ {A = ℕ} 13 10 = cc in omega (arith, wrong)

cr_other : (c : ℕ) (more : List ℕ) (e : LineEnd) (rest : List ℕ) → Newline e (13 ∷ c ∷ more) rest → c ≡ 10
cr_other c more crlf rest h = cc
cr_other c more lf rest h = let wrong : ◌≡◌ {A = ℕ} 13 10 = cc in absurd (omega (arith, wrong))

behind_cr : (text : List ℕ) → LineStart (13 ∷ text)
behind_cr [] = opened (NotYet_intro λ h. cr_alone h.0 h.1 h.2) (NotYet_intro λ h. true≢false h) (Newline_after_cr refl)
behind_cr (c ∷ more) = by_test (eqb c 10) refl
  where
    by_test : (t : Bool) → eqb c 10 ≡ t → LineStart (13 ∷ c ∷ more)
    by_test true is = ended crlf more (ap (λ (n : ℕ). 13 ∷ n ∷ more) (eqb-true c 10 is))
    by_test false differs =
        broken (Never_intro λ later h. eqb-false c 10 differs (cr_other c (more ++ later) h.0 h.1 h.2)) (Never_intro λ later h. true≢false h)

first_octet : (b : ℕ) (text : List ℕ) (t u : Bool) → eqb b 10 ≡ t → eqb b 13 ≡ u → LineStart (b ∷ text)
first_octet b text true u is_lf is_cr = ended lf text (ap (λ (n : ℕ). n ∷ text) (eqb-true b 10 is_lf))
first_octet b text false true is_lf is_cr = subst (λ (n : ℕ). LineStart (n ∷ text)) (sym (eqb-true b 13 is_cr)) (behind_cr text)
first_octet b text false false is_lf is_cr = other (or_from (eqb b 13) (eqb b 10) is_cr is_lf)

pub line_start : (text : List ℕ) → LineStart text
line_start [] = opened (NotYet_intro λ h. no_newline h.0 h.1 h.2) (NotYet_intro λ h. h) some_newline
line_start (b ∷ text) = first_octet b text (eqb b 10) (eqb b 13) refl refl

pub look_newline : (text : List ℕ) → Look Newline text
look_newline text = by_start (line_start text)
  where
    by_start : LineStart text → Look Newline text
    by_start (ended e rest h) = found e rest h
    by_start (opened none stops c) = cut none c
    by_start (broken none stops) = never none
    by_start (other stops) = never (Never_intro λ more h. newline_not_stopped h.0 h.1 (text ++ more) (sym h.2) (Stops-append is_newline text more stops))

-- ---- the text of a line

module _ (text run : List ℕ) (b : ℕ) (rest : List ℕ) (all : AllPass is_value_byte run) (fails : is_value_byte b ≡ false) (is : text ≡ run ++ b ∷ rest) where
  line_end : (more : List ℕ) → Begins Text (text ++ more) → Begins Newline ((b ∷ rest) ++ more)
  line_end more h = (
    h.0.1,
    h.1,
    (run_unique is_value_byte run h.0.0 (b ∷ (rest ++ more)) (print_end h.0.1 ++ h.1) all h.2.0 fails (Stops_value h.0.1 h.1)
        (sym (front-append text run (b ∷ rest) more is) ∙ h.2.1)).1,
  )

  with_end : Look Newline (b ∷ rest) → Look Text text
  with_end (found e r line) = found (run, e) r (all, is ∙ ap (λ (t : List ℕ). run ++ t) line)
  with_end (cut none c) =
      cut (Refutes_by line_end none) (record {
        more = c.more;
        tree = (run, c.tree);
        reads = λ more. (all, front-append text run (b ∷ rest) (c.more ++ more) is ∙ ap (λ (t : List ℕ). run ++ t) (c.reads more));
      })
  with_end (never none) = never (Refutes_by line_end none)

pub look_text : (text : List ℕ) → Look Text text
look_text text = by_split (split is_value_byte text)
  where
    by_split : Split is_value_byte text → Look Text text
    by_split (whole all) =
        cut (NotYet_intro λ h. run_unstopped is_value_byte h.0.0 (print_end h.0.1 ++ h.1) (subst (AllPass is_value_byte) h.2.1 all) (Stops_value h.0.1 h.1))
        (record { more = 10 ∷ []; tree = (text, lf); reads = λ rest. (all, refl) })
    by_split (stopped run b rest all fails is) = with_end text run b rest all fails is (look_newline (b ∷ rest))
