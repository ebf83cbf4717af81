-- Line by line: the lines that were read so far are the spelling of the scenario that was read so far.
use Rattle.std.proofs.Common.{◌≡◌, ◌∙◌, ◌⊎◌, inl, inr, ℕ, ◌==◌, Bool, true, false, not, ◌&&◌, ◌||◌, List, [], ◌∷◌, ◌++◌, length, Option, Some, None, refl, sym, ap, subst, append-nil, append_assoc}
use Rattle.std.specs.Prelude.{if◌then◌else◌, map, is_none}
use Rattle.std.specs.List.{flat_map, list_all}
use Rattle.std.specs.Str.{bytes_eq}
use Rattle.std.proofs.lemmas.Bool.{and_parts, or_parts, or_cases}
use Rattle.std.proofs.lemmas.List.{map-append}
use Rattle.std.proofs.lemmas.Grind.{flat_map-append}
use lib.Chars.{codes}
use Rattle.declared_site.specs.declared.site.Site.{Site}
use Rattle.run_types.specs.declared.command.Command.{Command}
use Rattle.run_types.specs.declared.line.Line.{Line}
use Rattle.run_types.specs.declared.entry.Entry.{Entry}
use Rattle.run_types.specs.declared.entry.Entry.TheVariants as entries
use Rattle.scenario_text.specs.declared.reading.Reading.{Reading}
use Rattle.scenario_text.specs.Words.{◌>>=◌, Word, first_of, words_of}
use Rattle.scenario_text.specs.Declaring.{declared_node, declared_link, declared_sae, declared_pair}
use Rattle.scenario_text.specs.Line.{Step, Goes, Ends, with_site, declaration_at, command_at, fits, with_line, commanded, opened, closed_block, closed, ended, is_declaration, words_at, is_printable, is_comment, begins_blank, ends_blank, line_at}
use Rattle.scenario_format.specs.Form.{one_case, said_in, Said, put, numbers, words, of_kind, behind_declarations, is_asking, asking}
use Rattle.scenario_format.specs.Spelled.{command_words, line_words, entry_lines, numbers_in}
use Rattle.scenario_format.proofs.Given.{same_some, bound, asserted, guarded, excluded, by_test}
use Rattle.scenario_format.proofs.Values.{none_left, first_words, by_word}
use Rattle.scenario_format.proofs.CommandForms.{command_spelled}
use Rattle.scenario_format.proofs.FirstWords.{more, kept_words, kept_numbers, same_words, same_numbers, begins}
use Rattle.scenario_format.proofs.Declarations.{IsSite, other_line, node_said, link_said, sae_said, pair_said}

-- the lines of a block that is still open
abbrev pub open_lines : Site → Option (List Line) → List (List Word)
open_lines site None = []
open_lines site (Some lines) = (codes "together" ∷ []) ∷ line_words site lines

abbrev pub open_numbers : Option (List Line) → List ℕ
open_numbers None = []
open_numbers (Some lines) = map (λ (line : Line). line.number) lines

-- What was read comes from these lines. As long as only declarations were read, there are no commands.
pub record IsSaid (r : Reading) (lines : List Said) : Type 0 where
  pub site : IsSite r.site lines
  pub node_numbers : numbers (of_kind (codes "node") lines) ≡ r.node_lines
  pub others : words (behind_declarations lines) ≡ flat_map (entry_lines r.site) r.entries ++ open_lines r.site r.block
  pub asked : numbers (asking lines) ≡ flat_map numbers_in r.entries ++ open_numbers r.block
  pub fresh : r.began ≡ false → (r.entries ≡ []) × (r.block ≡ None)

abbrev is_node : Word → Bool
is_node w = bytes_eq w (codes "node")

abbrev is_behind : Word → Bool
is_behind w = not (is_declaration w)

no_block : {A : Type 0} (o : Option A) → is_none o ≡ true → o ≡ None
no_block None e = refl
no_block (Some x) e = absurd cc

not_node : (w : Word) → is_declaration w ≡ false → is_node w ≡ false
not_node w other =
    let front = or_parts (is_node w || bytes_eq w (codes "link") || bytes_eq w (codes "sae")) (bytes_eq w (codes "allow")) other in
    let middle = or_parts (is_node w || bytes_eq w (codes "link")) (bytes_eq w (codes "sae")) front.0 in
    (or_parts (is_node w) (bytes_eq w (codes "link")) middle.0).0

negated : (b : Bool) → b ≡ false → not b ≡ true
negated b e = rw e refl

step_now : Reading → Step → Reading
step_now r (Goes now) = now
step_now r Ends = r

same_goes : (x y : Reading) → Goes x ≡ Goes y → x ≡ y
unfolding step_now
same_goes x y e = ap (step_now x) e

-- ---- lines that declare

nothing_asked : (site other : Site) (all : List Entry) (b : Option (List Line)) → all ≡ [] → b ≡ None → flat_map (entry_lines site) all ++ open_lines site b ≡ flat_map (entry_lines other) all ++ open_lines other b
nothing_asked site other all b e f = rw (e, f) refl

with_site_said : (r : Reading) (lines : List Said) (n : ℕ) (w : Word) (ws : List Word) (site : Site) (ns : List ℕ) → is_declaration w ≡ true → r.began ≡ false → IsSaid r lines
    → IsSite site (more lines n w ws) → numbers (of_kind (codes "node") (more lines n w ws)) ≡ ns → IsSaid (record r { site = site; node_lines = ns }) (more lines n w ws)
with_site_said r lines n w ws site ns declares fresh h declared nodes =
    let none = h.fresh fresh in
    let behind : is_behind w ≡ false = rw declares refl in
    let asks : is_asking w ≡ false = rw declares refl in
    record {
      site = declared;
      node_numbers = nodes;
      others = same_words is_behind lines n w ws behind ∙ h.others ∙ nothing_asked r.site site r.entries r.block none.0 none.1;
      asked = same_numbers is_asking lines n w ws asks ∙ h.asked;
      fresh = h.fresh;
    }

other_site_said : (r : Reading) (lines : List Said) (n : ℕ) (w : Word) (ws : List Word) (site : Site) (now : Reading) → is_declaration w ≡ true → is_node w ≡ false → r.began ≡ false → IsSaid r lines
    → IsSite site (more lines n w ws) → Some (with_site r site) ≡ Some now → IsSaid now (more lines n w ws)
other_site_said r lines n w ws site now declares other fresh h declared e =
    subst (λ (x : Reading). IsSaid x (more lines n w ws)) (same_some (with_site r site) now e)
    (with_site_said r lines n w ws site r.node_lines declares fresh h declared (same_numbers is_node lines n w ws other ∙ h.node_numbers))

declaration_said : (r : Reading) (lines : List Said) (n : ℕ) (word : Word) (ws : List Word) (now : Reading) → IsSaid r lines → declaration_at r n word ws ≡ Some now → IsSaid now (lines ++ put n (one_case (word ∷ ws)) [])
unfolding declaration_at
declaration_said r lines n word ws now h e =
    let first = excluded r.began _ now e in
    let P : Word → Type 0 = λ w. IsSaid now (lines ++ put n (one_case (w ∷ ws)) []) in
    by_word P word (codes "node") (bytes_eq word (codes "node")) _ _ now refl (node_line first.0) (λ no e.
    by_word P word (codes "link") (bytes_eq word (codes "link")) _ _ now refl (λ e. let site = bound (declared_link r.site ws) _ now e in other_site_said r lines n (codes "link") ws site.0 now refl refl first.0 h (link_said r.site lines n ws site.0 h.site site.1) site.2) (λ no e.
    by_word P word (codes "sae") (bytes_eq word (codes "sae")) _ _ now refl (λ e. let site = bound (declared_sae r.site ws) _ now e in other_site_said r lines n (codes "sae") ws site.0 now refl refl first.0 h (sae_said r.site lines n ws site.0 h.site site.1) site.2) (λ no e.
    by_word P word (codes "allow") (bytes_eq word (codes "allow")) _ _ now refl (λ e. let site = bound (declared_pair r.site ws) _ now e in other_site_said r lines n (codes "allow") ws site.0 now refl refl first.0 h (pair_said r.site lines n ws site.0 h.site site.1) site.2)
    (λ no e. absurd cc) e) e) e) first.1
  where
    node_line : r.began ≡ false → (declared_node r.site ws >>= λ site. Some (record r { site = site; node_lines = r.node_lines ++ n ∷ [] })) ≡ Some now → IsSaid now (more lines n (codes "node") ws)
    node_line fresh e =
        let site = bound (declared_node r.site ws) _ now e in
        subst (λ (x : Reading). IsSaid x (more lines n (codes "node") ws)) (same_some _ now site.2)
        (with_site_said r lines n (codes "node") ws site.0 (r.node_lines ++ n ∷ []) refl fresh h (node_said r.site lines n ws site.0 h.site site.1)
        (kept_numbers is_node lines n (codes "node") ws refl ∙ ap (λ (ns : List ℕ). ns ++ n ∷ []) h.node_numbers))

-- ---- lines of commands

module _ (site : Site) (all : List Entry) where
  abbrev before : List (List Word)
  before = flat_map (entry_lines site) all

  abbrev numbers_before : List ℕ
  numbers_before = flat_map numbers_in all

  alone : (b : Option (List Line)) (line : Line) (x : List Word) → b ≡ None → x ≡ command_words site line.command
      → (before ++ open_lines site b) ++ x ∷ [] ≡ flat_map (entry_lines site) (all ++ entries.Line line ∷ []) ++ open_lines site b
  alone b line x e is =
      rw e (
      ap (λ (xs : List (List Word)). xs ++ x ∷ []) (append-nil before)
      ∙ ap (λ (y : List Word). before ++ y ∷ []) is
      ∙ sym (append-nil (flat_map (entry_lines site) (all ++ entries.Line line ∷ [])) ∙ flat_map-append (entry_lines site) all (entries.Line line ∷ [])))

  number_alone : (b : Option (List Line)) (line : Line) → b ≡ None → (numbers_before ++ open_numbers b) ++ line.number ∷ [] ≡ flat_map numbers_in (all ++ entries.Line line ∷ []) ++ open_numbers b
  number_alone b line e =
      rw e (
      ap (λ (xs : List ℕ). xs ++ line.number ∷ []) (append-nil numbers_before)
      ∙ sym (append-nil (flat_map numbers_in (all ++ entries.Line line ∷ [])) ∙ flat_map-append numbers_in all (entries.Line line ∷ [])))

  in_block : (b : Option (List Line)) (lines : List Line) (line : Line) (x : List Word) → b ≡ Some lines → x ≡ command_words site line.command
      → (before ++ open_lines site b) ++ x ∷ [] ≡ before ++ open_lines site (Some (lines ++ line ∷ []))
  in_block b lines line x e is =
      rw e (
      append_assoc before (open_lines site (Some lines)) (x ∷ [])
      ∙ ap (λ (y : List Word). before ++ (open_lines site (Some lines) ++ y ∷ [])) is
      ∙ ap (λ (xs : List (List Word)). before ++ (codes "together" ∷ []) ∷ xs) (sym (map-append (λ (l : Line). command_words site l.command) lines (line ∷ []))))

  number_in_block : (b : Option (List Line)) (lines : List Line) (line : Line) → b ≡ Some lines → (numbers_before ++ open_numbers b) ++ line.number ∷ [] ≡ numbers_before ++ open_numbers (Some (lines ++ line ∷ []))
  number_in_block b lines line e =
      rw e (
      append_assoc numbers_before (open_numbers (Some lines)) (line.number ∷ [])
      ∙ ap (λ (xs : List ℕ). numbers_before ++ xs) (sym (map-append (λ (l : Line). l.number) lines (line ∷ []))))

  block_opens : (b : Option (List Line)) → b ≡ None → (before ++ open_lines site b) ++ (codes "together" ∷ []) ∷ [] ≡ before ++ open_lines site (Some [])
  block_opens b e = rw e (ap (λ (xs : List (List Word)). xs ++ (codes "together" ∷ []) ∷ []) (append-nil before))

  no_number_opens : (b : Option (List Line)) → b ≡ None → numbers_before ++ open_numbers b ≡ numbers_before ++ open_numbers (Some [])
  no_number_opens b e = rw e refl

  block_closes : (b : Option (List Line)) (lines : List Line) → b ≡ Some lines → (before ++ open_lines site b) ++ (codes "apart" ∷ []) ∷ [] ≡ flat_map (entry_lines site) (all ++ entries.Block lines ∷ []) ++ open_lines site None
  block_closes b lines e =
      rw e (
      append_assoc before (open_lines site (Some lines)) ((codes "apart" ∷ []) ∷ [])
      ∙ ap (λ (xs : List (List Word)). before ++ xs) (sym (append-nil (entry_lines site (entries.Block lines))))
      ∙ sym (append-nil (flat_map (entry_lines site) (all ++ entries.Block lines ∷ [])) ∙ flat_map-append (entry_lines site) all (entries.Block lines ∷ [])))

  numbers_close : (b : Option (List Line)) (lines : List Line) → b ≡ Some lines → numbers_before ++ open_numbers b ≡ flat_map numbers_in (all ++ entries.Block lines ∷ []) ++ open_numbers None
  numbers_close b lines e =
      rw e (
      ap (λ (xs : List ℕ). numbers_before ++ xs) (sym (append-nil (open_numbers (Some lines))))
      ∙ sym (append-nil (flat_map numbers_in (all ++ entries.Block lines ∷ [])) ∙ flat_map-append numbers_in all (entries.Block lines ∷ [])))

never_fresh : (r : Reading) (lines : List Said) (held : List Line) → IsSaid r lines → r.block ≡ Some held → r.began ≡ false → ⊥
never_fresh r lines held h is fresh = let none = (h.fresh fresh).1 in absurd cc

with_line_said : (r : Reading) (lines : List Said) (n : ℕ) (w : Word) (us : List Word) (b : Option (List Line)) (c : Command) → r.block ≡ b → is_declaration w ≡ false → is_asking w ≡ true →
    w ∷ us ≡ command_words r.site c → IsSaid r lines → IsSaid (with_line b r (record { number = n; command = c })) (more lines n w us)
with_line_said r lines n w us None c is other asks spelled h =
    record {
      site = other_line r.site lines n w us other h.site;
      node_numbers = same_numbers is_node lines n w us (not_node w other) ∙ h.node_numbers;
      others =
          kept_words is_behind lines n w us (negated (is_declaration w) other) ∙ ap (λ (xs : List (List Word)). xs ++ (w ∷ us) ∷ []) h.others
          ∙ alone r.site r.entries r.block (record { number = n; command = c }) (w ∷ us) is spelled;
      asked = kept_numbers is_asking lines n w us asks ∙ ap (λ (xs : List ℕ). xs ++ n ∷ []) h.asked ∙ number_alone r.site r.entries r.block (record { number = n; command = c }) is;
      fresh = λ e. absurd cc;
    }
with_line_said r lines n w us (Some held) c is other asks spelled h =
    record {
      site = other_line r.site lines n w us other h.site;
      node_numbers = same_numbers is_node lines n w us (not_node w other) ∙ h.node_numbers;
      others =
          kept_words is_behind lines n w us (negated (is_declaration w) other) ∙ ap (λ (xs : List (List Word)). xs ++ (w ∷ us) ∷ []) h.others
          ∙ in_block r.site r.entries r.block held (record { number = n; command = c }) (w ∷ us) is spelled;
      asked = kept_numbers is_asking lines n w us asks ∙ ap (λ (xs : List ℕ). xs ++ n ∷ []) h.asked ∙ number_in_block r.site r.entries r.block held (record { number = n; command = c }) is;
      fresh = λ e. absurd (never_fresh r lines held h is e);
    }

commanded_said : (r : Reading) (lines : List Said) (n : ℕ) (w : Word) (ws : List Word) (c : Command) (now : Reading) → is_declaration w ≡ false → is_asking w ≡ true → command_at r.site w ws ≡ Some c →
    IsSaid r lines → commanded r n c ≡ Some (Goes now) → IsSaid now (lines ++ put n (one_case (w ∷ ws)) [])
unfolding commanded
commanded_said r lines n w ws c now other asks read h e =
    let line : Line = record { number = n; command = c } in
    let fit = guarded (fits r.block r.rounds c) (Goes (with_line r.block r line)) (Goes now) e in
    let b = begins w ws in
    subst (λ (us : List Word). IsSaid now (lines ++ put n us [])) (sym b.is)
    (subst (λ (x : Reading). IsSaid x (more lines n w b.rest)) (same_goes (with_line r.block r line) now fit.1)
    (with_line_said r lines n w b.rest r.block c refl other asks (sym b.is ∙ command_spelled r.site w ws c read) h))

-- ---- lines that open or close a block

opened_said : (r : Reading) (lines : List Said) (n : ℕ) (ws : List Word) (now : Reading) → IsSaid r lines → opened r ws ≡ Some (Goes now) → IsSaid now (more lines n (codes "together") ws)
unfolding opened
opened_said r lines n ws now h e =
    let made = guarded (length ws == 0 && is_none r.block) (Goes (record r { began = true; block = Some [] })) (Goes now) e in
    let parts = and_parts (length ws == 0) (is_none r.block) made.0 in
    let none = no_block r.block parts.1 in
    subst (λ (us : List Word). IsSaid now (more lines n (codes "together") us)) (sym (none_left ws parts.0))
    (subst (λ (x : Reading). IsSaid x (more lines n (codes "together") [])) (same_goes _ now made.1)
    (record {
      site = other_line r.site lines n (codes "together") [] refl h.site;
      node_numbers = same_numbers is_node lines n (codes "together") [] refl ∙ h.node_numbers;
      others = kept_words is_behind lines n (codes "together") [] refl ∙ ap (λ (xs : List (List Word)). xs ++ (codes "together" ∷ []) ∷ []) h.others ∙ block_opens r.site r.entries r.block none;
      asked = same_numbers is_asking lines n (codes "together") [] refl ∙ h.asked ∙ no_number_opens r.site r.entries r.block none;
      fresh = λ fresh. absurd cc;
    }))

closed_said : (r : Reading) (lines : List Said) (n : ℕ) (b : Option (List Line)) (now : Reading) → r.block ≡ b → IsSaid r lines → closed_block b r ≡ Some (Goes now) → IsSaid now (more lines n (codes "apart") [])
closed_said r lines n None now is h e = absurd cc
closed_said r lines n (Some held) now is h e =
    subst (λ (x : Reading). IsSaid x (more lines n (codes "apart") [])) (same_goes _ now (same_some _ (Goes now) e))
    (record {
      site = other_line r.site lines n (codes "apart") [] refl h.site;
      node_numbers = same_numbers is_node lines n (codes "apart") [] refl ∙ h.node_numbers;
      others = kept_words is_behind lines n (codes "apart") [] refl ∙ ap (λ (xs : List (List Word)). xs ++ (codes "apart" ∷ []) ∷ []) h.others ∙ block_closes r.site r.entries r.block held is;
      asked = same_numbers is_asking lines n (codes "apart") [] refl ∙ h.asked ∙ numbers_close r.site r.entries r.block held is;
      fresh = λ fresh. absurd (never_fresh r lines held h is fresh);
    })

-- ---- any line

asks : (a b c d : Bool) → a ≡ false → b ≡ false → c ≡ false → d ≡ false → (not a && not b && not c && not d) ≡ true
asks a b c d e f g h = rw (e, f, g, h) refl

apart_said : (r : Reading) (lines : List Said) (n : ℕ) (ws : List Word) (now : Reading) → IsSaid r lines → closed r ws ≡ Some (Goes now) → IsSaid now (more lines n (codes "apart") ws)
unfolding closed
apart_said r lines n ws now h e =
    let empty = asserted (length ws == 0) (closed_block r.block r) (Goes now) e in
    subst (λ (us : List Word). IsSaid now (more lines n (codes "apart") us)) (sym (none_left ws empty.0)) (closed_said r lines n r.block now refl h empty.1)

words_said : (r : Reading) (lines : List Said) (n : ℕ) (word : Word) (ws : List Word) (now : Reading) → IsSaid r lines → words_at r n word ws ≡ Some (Goes now) → IsSaid now (lines ++ put n (one_case (word ∷ ws)) [])
unfolding words_at ended
words_said r lines n word ws now h e =
    let P : Word → Type 0 = λ w. IsSaid now (lines ++ put n (one_case (w ∷ ws)) []) in
    by_test (P word) (is_declaration word) _ _ (Goes now)
    (λ yes e.
    let site = bound (declaration_at r n word ws) _ (Goes now) e in
    declaration_said r lines n word ws now h (site.1 ∙ ap (λ (x : Reading). Some x) (same_goes site.0 now (same_some (Goes site.0) (Goes now) site.2)))) (λ other e.
    by_word P word (codes "together") (bytes_eq word (codes "together")) _ _ (Goes now) refl (opened_said r lines n ws now h) (λ no_opening e.
    by_word P word (codes "apart") (bytes_eq word (codes "apart")) _ _ (Goes now) refl (apart_said r lines n ws now h) (λ no_closing e.
    by_word P word (codes "end") (bytes_eq word (codes "end")) _ _ (Goes now) refl (λ e. let stop = guarded (length ws == 0 && is_none r.block) Ends (Goes now) e in absurd cc) (λ no_end e.
    let command = bound (command_at r.site word ws) _ (Goes now) e in
    commanded_said r lines n word ws command.0 now other (asks (is_declaration word) (bytes_eq word (codes "together")) (bytes_eq word (codes "apart")) (bytes_eq word (codes "end")) other no_opening no_closing no_end) command.1 h command.2) e) e) e) e

no_words : (ws : List Word) → (length ws == 0) ≡ true → one_case ws ≡ []
no_words ws e = ap one_case (none_left ws e)

silent_by : (comment : Bool) (ws : List Word) → ((length ws == 0) ≡ true) ⊎ (comment ≡ true) → (if comment then [] else one_case ws) ≡ []
silent_by true ws h = refl
silent_by false ws (inl empty) = no_words ws empty
silent_by false ws (inr comment) = absurd cc

speaks_by : (comment : Bool) (ws : List Word) → comment ≡ false → (if comment then [] else one_case ws) ≡ one_case ws
speaks_by comment ws e = rw e refl

pub line_said : (r : Reading) (lines : List Said) (n : ℕ) (line : List ℕ) (now : Reading) → IsSaid r lines → line_at r n line ≡ Some (Goes now) → IsSaid now (lines ++ put n (said_in line) [])
unfolding line_at
line_said r lines n line now h e =
    let printable = excluded (not (list_all is_printable line)) _ (Goes now) e in
    by_test (IsSaid now (lines ++ put n (said_in line) [])) (length (words_of line) == 0 || is_comment line) _ _ (Goes now)
    (λ silent e.
    let nothing : said_in line ≡ [] = silent_by (is_comment line) (words_of line) (or_cases (length (words_of line) == 0) (is_comment line) silent) in
    subst (λ (us : List Word). IsSaid now (lines ++ put n us [])) (sym nothing)
    (subst (λ (xs : List Said). IsSaid now xs) (sym (append-nil lines)) (subst (λ (x : Reading). IsSaid x lines) (same_goes r now (same_some (Goes r) (Goes now) e)) h)))
    (λ speaks e.
    let spaced = excluded (begins_blank line || ends_blank line) _ (Goes now) e in
    let w = bound (first_of (words_of line)) _ (Goes now) spaced.1 in
    let is : said_in line ≡ one_case (w.0.0 ∷ w.0.1) =
    speaks_by (is_comment line) (words_of line) (or_parts (length (words_of line) == 0) (is_comment line) speaks).1 ∙ ap one_case (first_words (words_of line) w.0 w.1) in
    subst (λ (us : List Word). IsSaid now (lines ++ put n us [])) (sym is) (words_said r lines n w.0.0 w.0.1 now h w.2)) printable.1

-- ---- the last line

never_ends : (now : Reading) → Some (Goes now) ≡ Some Ends → ⊥
never_ends now e = absurd cc

record IsLast (r : Reading) (ws : List Word) : Type 0 where
  says : one_case ws ≡ codes "end" ∷ []
  closed : r.block ≡ None

last_closes : (r : Reading) (b : Option (List Line)) → closed_block b r ≡ Some Ends → ⊥
last_closes r None e = absurd cc
last_closes r (Some lines) e = absurd cc

last_words : (r : Reading) (n : ℕ) (word : Word) (ws : List Word) → words_at r n word ws ≡ Some Ends → IsLast r (word ∷ ws)
unfolding words_at opened closed ended commanded
last_words r n word ws e =
    let P : Word → Type 0 = λ w. IsLast r (w ∷ ws) in
    by_test (P word) (is_declaration word) _ _ Ends
    (λ no e. let site = bound (declaration_at r n word ws) _ Ends e in absurd (never_ends site.0 site.2)) (λ other e.
    by_word P word (codes "together") (bytes_eq word (codes "together")) _ _ Ends refl (λ e. let made = guarded (length ws == 0 && is_none r.block) _ Ends e in absurd cc) (λ no e.
    by_word P word (codes "apart") (bytes_eq word (codes "apart")) _ _ Ends refl (λ e. absurd (last_closes r r.block (asserted (length ws == 0) (closed_block r.block r) Ends e).1)) (λ no e.
    by_word P word (codes "end") (bytes_eq word (codes "end")) _ _ Ends refl
    (λ e.
    let stop = guarded (length ws == 0 && is_none r.block) Ends Ends e in
    let parts = and_parts (length ws == 0) (is_none r.block) stop.0 in
    record { says = ap (λ (us : List Word). codes "end" ∷ us) (none_left ws parts.0); closed = no_block r.block parts.1 }) (λ no e.
    let command = bound (command_at r.site word ws) _ Ends e in
    let fit = guarded (fits r.block r.rounds command.0) _ Ends command.2 in absurd cc) e) e) e) e

pub last_line : (r : Reading) (n : ℕ) (line : List ℕ) → line_at r n line ≡ Some Ends → (said_in line ≡ codes "end" ∷ []) × (r.block ≡ None) × (list_all is_printable line ≡ true)
unfolding line_at
last_line r n line e =
    let printable = excluded (not (list_all is_printable line)) _ Ends e in
    let spoken = excluded_test (length (words_of line) == 0 || is_comment line) r _ printable.1 in
    let spaced = excluded (begins_blank line || ends_blank line) _ Ends spoken.1 in
    let w = bound (first_of (words_of line)) _ Ends spaced.1 in
    let last = last_words r n w.0.0 w.0.1 w.2 in (
      speaks_by (is_comment line) (words_of line) (or_parts (length (words_of line) == 0) (is_comment line) spoken.0).1 ∙ ap one_case (first_words (words_of line) w.0 w.1) ∙ last.says,
      last.closed,
      prints (list_all is_printable line) printable.0,
    )
  where
    prints : (b : Bool) → not b ≡ false → b ≡ true
    prints true e = refl
    prints false e = absurd cc

    excluded_test : (b : Bool) (r : Reading) (o : Option Step) → (if b then Some (Goes r) else o) ≡ Some Ends → (b ≡ false) × (o ≡ Some Ends)
    excluded_test true r o e = absurd (never_ends r e)
    excluded_test false r o e = (refl, e)
