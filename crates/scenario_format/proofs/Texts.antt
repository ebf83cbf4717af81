-- A text of spelled commands is read line by line, to its end.
use Rattle.std.proofs.Common.{◌≡◌, ℕ, ◌+◌, ◌-◌, ◌≤◌, Bool, true, false, ◌&&◌, eqb, List, [], ◌∷◌, ◌++◌, length, Option, Some, None, Ok, refl, sym, ap, ◌∙◌, arith, append_assoc, append-nil, length-append}
use Rattle.std.specs.Prelude.{nat_lt}
use Rattle.std.specs.List.{onto_first, All}
use Rattle.std.specs.Str.Lines.{strip_carriage_return}
use Rattle.std.proofs.lemmas.List.Splits.{slice_split_at}
use lib.Chars.{codes}
use Rattle.run_types.specs.declared.command.Command.{Command}
use Rattle.run_types.specs.declared.entry.Entry.{Entry}
use Rattle.run_types.specs.declared.entry.Entry.TheVariants as entries
use Rattle.scenario_text.specs.declared.reading.Reading.{Reading}
use Rattle.scenario_text.specs.Line.{Step, Goes, Ends, words_at, line_at, ended, with_line}
use Rattle.scenario_text.specs.Text.{Meaning, within, then_lines, parts_from, parts_of, scenario_in, line_limit}
use Rattle.scenario_format.specs.Spelling.{spelled, lines_of, numbered, said}
use Rattle.scenario_format.specs.Readable.{CanSayAll, RoundsFit}
use Rattle.scenario_format.proofs.Commands.{reads_back, words_clean}
use Rattle.scenario_format.proofs.Lines.{reads_words, reads_command, ends_plain, no_feed_in, goes_on}

-- ---- one line of a text

record Cut (bytes : List ℕ) : Type 0 where
  first : List ℕ
  others : List (List ℕ)
  is : parts_of bytes ≡ first ∷ others

cut_onto : (x : ℕ) (b : Bool) (xs : List ℕ) → eqb x 10 ≡ b → Cut xs → Cut (x ∷ xs)
cut_onto x true xs e rest = record { first = []; others = parts_of xs; is = rw e refl }
cut_onto x false xs e rest = record { first = x ∷ rest.first; others = rest.others; is = rw e (ap (onto_first x) rest.is) }

cut_of : (bytes : List ℕ) → Cut bytes
cut_of [] = record { first = []; others = []; is = refl }
cut_of (x ∷ xs) = cut_onto x (eqb x 10) xs refl (cut_of xs)

goes : (n : ℕ) (old now : Reading) (m : Option Step) (e : Bool) (F : Reading → Meaning) → m ≡ Some (Goes now) → then_lines n old m e F ≡ F now
unfolding then_lines
goes n old now m e F is = rw is refl

not_past : (n limit : ℕ) → n ≤ limit → nat_lt limit n ≡ false
not_past n limit le = grind arith

fits_in : (left all own : ℕ) (m : Option Step) → all ≤ left → own ≤ line_limit → within left all own m ≡ m
unfolding within
fits_in left all own m a b = rw (not_past all left a, not_past own line_limit b) refl

line_then : (left n : ℕ) (r now : Reading) (line first : List ℕ) (others : List (List ℕ)) → strip_carriage_return line ≡ line → line_at r n line ≡ Some (Goes now) → length line + 1 ≤ left → length line ≤ line_limit
    → parts_from left n r (line ∷ first ∷ others) ≡ parts_from (left - (length line + 1)) (n + 1) now (first ∷ others)
unfolding parts_from
line_then left n r now line first others plain means room short =
    goes n r now (within left (length line + 1) (length (strip_carriage_return line)) (line_at r n (strip_carriage_return line))) (eqb (length first) 0 && eqb (length others) 0)
    (λ t. parts_from (left - (length line + 1)) (n + 1) t (first ∷ others))
    (rw plain (fits_in left (length line + 1) (length line) (line_at r n line) room short ∙ means))

pub one_line : (left n : ℕ) (r now : Reading) (line behind : List ℕ) → All (λ b. eqb b 10 ≡ false) line → strip_carriage_return line ≡ line → line_at r n line ≡ Some (Goes now) → length line + 1 ≤ left → length line ≤ line_limit
    → parts_from left n r (parts_of (line ++ 10 ∷ behind)) ≡ parts_from (left - (length line + 1)) (n + 1) now (parts_of behind)
one_line left n r now line behind feeds plain means room short =
    let c = cut_of behind in
    ap (parts_from left n r) (slice_split_at (λ b. eqb b 10) line 10 behind feeds refl ∙ ap (λ (ps : List (List ℕ)). line ∷ ps) c.is)
    ∙ line_then left n r now line c.first c.others plain means room short
    ∙ ap (parts_from (left - (length line + 1)) (n + 1) now) (sym c.is)

-- ---- lines of commands

abbrev after : Reading → ℕ → List Command → Reading
after r n [] = r
after r n (c ∷ cs) = after (with_line None r (record { number = n; command = c })) (n + 1) cs

after_is : (r : Reading) (n : ℕ) (cs : List Command) → scenario_in (after r n cs) ≡ said r n cs
after_is r n [] = ap (λ (es : List Entry). record { site = r.site; node_lines = r.node_lines; entries = es }) (sym (append-nil r.entries))
after_is r n (c ∷ cs) =
    after_is (with_line None r (record { number = n; command = c })) (n + 1) cs
    ∙ ap (λ (es : List Entry). record { site = r.site; node_lines = r.node_lines; entries = es }) (append_assoc r.entries (entries.Line (record { number = n; command = c }) ∷ []) (numbered (n + 1) cs))

-- ---- the last line

end_line : (r : Reading) (n : ℕ) → r.block ≡ None → line_at r n (codes "end") ≡ Some Ends
unfolding words_at ended
end_line r n closed = reads_words r n (codes "end") [] refl refl refl refl ∙ rw closed refl

at_end : (left n : ℕ) (r : Reading) (m : Option Step) → m ≡ Some Ends → then_lines n r m true (λ t. parts_from (left - 4) (n + 1) t ([] ∷ [])) ≡ Ok (scenario_in r)
unfolding then_lines
at_end left n r m e = rw e refl

ends : (left n : ℕ) (r : Reading) → r.block ≡ None → 4 ≤ left → parts_from left n r (codes "end" ∷ [] ∷ []) ≡ Ok (scenario_in r)
unfolding parts_from
ends left n r closed room = at_end left n r (within left 4 3 (line_at r n (codes "end"))) (fits_in left 4 3 (line_at r n (codes "end")) room (omega arith) ∙ end_line r n closed)

-- ---- all lines

joined_first : (line rest tail : List ℕ) → ((line ++ 10 ∷ []) ++ rest) ++ tail ≡ line ++ 10 ∷ (rest ++ tail)
joined_first line rest tail = simp append_assoc

line_longer : (line rest : List ℕ) → length ((line ++ 10 ∷ []) ++ rest) ≡ length line + 1 + length rest
line_longer line rest = simp length-append (omega arith)

pub reads_all : (left n : ℕ) (r : Reading) (cs : List Command) → r.block ≡ None → CanSayAll r.site cs → RoundsFit r.rounds cs → length (lines_of r.site cs) + 4 ≤ left
    → parts_from left n r (parts_of (lines_of r.site cs ++ codes "end\n")) ≡ Ok (scenario_in (after r n cs))
reads_all left n r [] closed all rounds room = ends left n r closed (omega arith)
reads_all left n r (c ∷ cs) closed all rounds room =
    let long = line_longer (spelled r.site c) (lines_of r.site cs) in
    let now = with_line None r (record { number = n; command = c }) in
    ap (λ (t : List ℕ). parts_from left n r (parts_of t)) (joined_first (spelled r.site c) (lines_of r.site cs) (codes "end\n"))
    ∙ one_line left n r now (spelled r.site c) (lines_of r.site cs ++ codes "end\n") (no_feed_in r.site c (words_clean r.site c all.0.0)) (ends_plain r.site c (words_clean r.site c all.0.0))
    (reads_command r n c (words_clean r.site c all.0.0) (reads_back r.site c all.0.0) ∙ goes_on r n c closed rounds.0) (omega (arith, long)) all.0.1
    ∙ reads_all (left - (length (spelled r.site c) + 1)) (n + 1) now cs closed all.1 rounds.1 (omega (arith, long))

pub reads_text : (left n : ℕ) (r : Reading) (cs : List Command) → r.block ≡ None → CanSayAll r.site cs → RoundsFit r.rounds cs → length (lines_of r.site cs) + 4 ≤ left
    → parts_from left n r (parts_of (lines_of r.site cs ++ codes "end\n")) ≡ Ok (said r n cs)
reads_text left n r cs closed all rounds room = reads_all left n r cs closed all rounds room ∙ ap Ok (after_is r n cs)
