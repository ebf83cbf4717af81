-- Whether a text begins with empty lines, with a field line, or with the field lines of a head.
use Rattle.std.proofs.Common.{◌≡◌, ◌<◌, ◌≤◌, ◌⊎◌, ℕ, zero, suc, List, [], ◌∷◌, ◌++◌, length, refl, sym, ap, ◌∙◌, subst, arith, append_assoc, inl, inr}
use Rattle.std.specs.List.{flat_map}
use Rattle.std.proofs.lemmas.List.Elements.{All-nil, All-cons, All-head, All-tail}
use Rattle.httparse.specs.Grammar.{LineEnd, crlf, lf, print_end, print_blank, Field, print_field, IsField, print_section}
use Rattle.httparse.specs.Pieces.{Begins, Then, Refutes, NotYet, Never, Completes, Stops, is_newline, Newline, BlankLines, Blank, FieldLine, SectionOfAtMost}
use Rattle.httparse.proofs.RunLemmas.{Stops-append}
use Rattle.httparse.proofs.PieceLemmas.{colon_ends_token, Name_deterministic, FieldLine_deterministic, FieldLine_parts, Stops-FieldLine, newline_not_stopped, Never_intro}
use Rattle.httparse.proofs.ReadLemmas.{blank_more, Blank_after, FieldLine_done}
use Rattle.httparse.proofs.OpenLemmas.{BlankLines_after, some_text}
use Rattle.run_http.proofs.Looks.{Look, found, cut, never, as_other, in_row, look_token, look_text, LineStart, ended, opened, broken, other, line_start}

-- ---- empty lines

-- The text begins with empty lines that end at another octet; or it doesn't yet; or it never will.
pub data BlankLook (text : List ℕ) : Type 0 where
  blank : (es : List LineEnd) (rest : List ℕ) → Blank es text rest → BlankLook text
  open_blank : NotYet (Begins Blank) text → Completes BlankLines text → BlankLook text
  no_blank : Never (Begins Blank) text → BlankLook text

blank_head : (es : List LineEnd) (text rest : List ℕ) → Blank es text rest → Stops is_newline text ⊎ Begins Newline text
blank_head [] text rest h = inl (subst (Stops is_newline) (sym h.0) h.1)
blank_head (e ∷ es) text rest h = inr (e, print_blank es ++ rest, h.0 ∙ append_assoc (print_end e) (print_blank es) rest)

blank_refuted : {M : List ℕ → Type 0} {s : List ℕ} → Refutes M (Begins Newline) s → Refutes M (Stops is_newline) s → Refutes M (Begins Blank) s
blank_refuted {s} line stops = record {
  none = λ more follows h.
      elim (blank_head h.0 (s ++ more) h.1 h.2) [ inl x ↦ stops.none more follows x | inr y ↦ line.none more follows y ];
}

shorter : (e : LineEnd) (text rest : List ℕ) → Newline e text rest → length rest < length text
shorter crlf text rest h = let size = ap length h in omega (arith, size)
shorter lf text rest h = let size = ap length h in omega (arith, size)

at_start : (es : List LineEnd) (text middle : List ℕ) → text ≡ print_blank es ++ middle → ((e : LineEnd) (rest : List ℕ) → Newline e middle rest → BlankLook text) → LineStart middle → BlankLook text
at_start es text middle is next (ended e rest line) = next e rest line
at_start es text middle is next (opened none stops c) = open_blank (Blank_after es is (blank_refuted none stops)) (BlankLines_after es is c)
at_start es text middle is next (broken none stops) = no_blank (Blank_after es is (blank_refuted none stops))
at_start es text middle is next (other stops) = blank es middle (is, stops)

look_behind : (fuel : ℕ) (es : List LineEnd) (text middle : List ℕ) → text ≡ print_blank es ++ middle → length middle ≤ fuel → BlankLook text
look_behind zero es text middle is few =
    at_start es text middle is (λ e rest line. absurd (let less = shorter e middle rest line in omega (arith, few, less))) (line_start middle)
look_behind (suc fuel) es text middle is few =
    at_start es text middle is
    (λ e rest line.
    let less = shorter e middle rest line in
    look_behind fuel (es ++ e ∷ []) text rest (blank_more es e text middle rest is line) (omega (arith, few, less)))
    (line_start middle)

pub look_blank : (text : List ℕ) → BlankLook text
look_blank text = look_behind (length text) [] text text refl (omega arith)

-- ---- field lines

look_field : (text : List ℕ) → Look FieldLine text
look_field text =
    as_other (λ t. record { name = t.0; raw = t.1.0; end = t.1.1 }) (λ t s rest h. FieldLine_done t.0 t.1.0 t.1.1 s h.0 rest h.1 h.2)
    (λ more h. ((h.0.name, (h.0.raw, h.0.end)), h.1, FieldLine_parts h.0 (text ++ more) h.1 h.2))
    (in_row Name_deterministic some_text (look_token 58 colon_ends_token text) (λ name rest word. look_text rest))

pub some_few : (room : ℕ) → Completes (SectionOfAtMost room) []
some_few room = record { more = 10 ∷ []; tree = ([], lf); reads = λ rest. ((All-nil IsField, refl), omega arith) }

-- the first line of a section, and the section behind it
first_line : (f : Field) (fs : List Field) (last : LineEnd) (rest : List ℕ) →
    print_section (f ∷ fs) last ++ rest ≡ print_field f ++ (print_section fs last ++ rest)
first_line f fs last rest =
    ap (λ (t : List ℕ). t ++ rest) (append_assoc (print_field f) (flat_map print_field fs) (print_end last))
    ∙ append_assoc (print_field f) (print_section fs last) rest

line_head : (room : ℕ) (fs : List Field) (last : LineEnd) (text rest : List ℕ) → SectionOfAtMost room (fs, last) text rest → Stops is_newline text ⊎ Begins Newline text
line_head room [] last text rest h = inr (last, rest, h.0.1)
line_head room (f ∷ fs) last text rest h =
    inl (Stops-FieldLine f text (print_section fs last ++ rest) (All-head IsField f fs h.0.0, h.0.1 ∙ first_line f fs last rest))

no_section : {M : List ℕ → Type 0} {s : List ℕ} (room : ℕ) → Refutes M (Begins Newline) s → Refutes M (Stops is_newline) s → Refutes M (Begins (SectionOfAtMost room)) s
no_section {s} room line stops = record {
  none = λ more follows h.
      elim (line_head room h.0.0 h.0.1 (s ++ more) h.1 h.2) [ inl x ↦ stops.none more follows x | inr y ↦ line.none more follows y ];
}

-- Where no line end stands, a section has a first line.
no_room : (fs : List Field) (last : LineEnd) (text rest : List ℕ) → Stops is_newline text → SectionOfAtMost 0 (fs, last) text rest → ⊥
no_room [] last text rest stops h = newline_not_stopped last rest text (sym h.0.1) stops
no_room (f ∷ fs) last text rest stops h = let few = h.1 in omega (arith, few)

line_first : (room : ℕ) (fs : List Field) (last : LineEnd) (text rest : List ℕ) → Stops is_newline text → SectionOfAtMost (suc room) (fs, last) text rest →
    Begins (Then FieldLine (SectionOfAtMost room)) text
line_first room [] last text rest stops h = absurd (newline_not_stopped last rest text (sym h.0.1) stops)
line_first room (f ∷ fs) last text rest stops h =
    let few = h.1 in (
      (f, (fs, last)),
      rest,
      (
        print_section fs last ++ rest,
        (All-head IsField f fs h.0.0, h.0.1 ∙ first_line f fs last rest),
        ((All-tail IsField f fs h.0.0, refl), omega (arith, few)),
      ),
    )

line_added : (room : ℕ) (t : Field × (List Field × LineEnd)) (text rest : List ℕ) → Then FieldLine (SectionOfAtMost room) t text rest →
    SectionOfAtMost (suc room) (t.0 ∷ t.1.0, t.1.1) text rest
line_added room t text rest h =
    let few = h.2.1 in (
      (
        All-cons IsField t.0 t.1.0 h.1.0 h.2.0.0,
        h.1.1 ∙ ap (λ (s : List ℕ). print_field t.0 ++ s) h.2.0.1 ∙ sym (first_line t.0 t.1.0 t.1.1 rest),
      ),
      omega (arith, few),
    )

at_line : (room : ℕ) (text : List ℕ) → (Stops is_newline text → Look (SectionOfAtMost room) text) → LineStart text → Look (SectionOfAtMost room) text
at_line room text next (ended e rest line) = found ([], e) rest ((All-nil IsField, line), omega arith)
at_line room text next (opened none stops c) =
    cut (no_section room none stops) (record { more = c.more; tree = ([], c.tree); reads = λ rest. ((All-nil IsField, c.reads rest), omega arith) })
at_line room text next (broken none stops) = never (no_section room none stops)
at_line room text next (other stops) = next stops

pub look_section : (room : ℕ) (text : List ℕ) → Look (SectionOfAtMost room) text
look_section zero text =
    at_line zero text
    (λ stops. never (Never_intro λ more h. no_room h.0.0 h.0.1 (text ++ more) h.1 (Stops-append is_newline text more stops) h.2)) (line_start text)
look_section (suc room) text =
    at_line (suc room) text
    (λ stops.
    as_other (λ t. (t.0 ∷ t.1.0, t.1.1)) (line_added room)
    (λ more h. line_first room h.0.0 h.0.1 (text ++ more) h.1 (Stops-append is_newline text more stops) h.2)
    (in_row FieldLine_deterministic (some_few room) (look_field text) (λ f rest line. look_section room rest)))
    (line_start text)
