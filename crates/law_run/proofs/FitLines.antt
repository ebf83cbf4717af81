-- Line by line: the site read so far is valid, and each command names only what it declares.
use Rattle.std.proofs.Common.{◌≡◌, ◌∙◌, ℕ, ◌+◌, ◌≤◌, Bool, true, false, List, [], ◌∷◌, ◌++◌, length, Option, Some, None, refl, sym, ap, subst, arith, length-append, cond}
use Rattle.std.specs.Prelude.{not, ◌==◌, ◌&&◌, ◌||◌, count_by, is_none}
use Rattle.std.specs.List.{All, list_all}
use Rattle.std.specs.Str.{bytes_eq}
use Rattle.std.proofs.lemmas.List.Elements.{All-nil, All-push, All-same}
use Rattle.std.proofs.lemmas.List.Sums.{sum_by-append}
use lib.Chars.{codes}
use Rattle.declared_site.specs.declared.site.Site.{Site}
use Rattle.declared_site.specs.SiteOf.{IsDeclared}
use Rattle.run_types.specs.declared.command.Command.{Command}
use Rattle.run_types.specs.declared.line.Line.{Line}
use Rattle.run_types.specs.declared.entry.Entry.{Entry}
use Rattle.run_types.specs.declared.entry.Entry.TheVariants as entries
use Rattle.scenario_text.specs.declared.reading.Reading.{Reading}
use Rattle.scenario_text.specs.Words.{◌>>=◌, Word, first_of, words_of}
use Rattle.scenario_text.specs.Declaring.{declared_node, declared_link, declared_sae, declared_pair}
use Rattle.scenario_text.specs.Line.{Step, Goes, Ends, nothing_read, with_site, declaration_at, command_at, fits, with_line, commanded, opened, closed_block, closed, ended, is_declaration, words_at, is_printable, is_comment, begins_blank, ends_blank, line_at}
use Rattle.run_ops.specs.Runnable.{IsCommandFor, IsBlockLineFor, IsEntryFor, arms_a_disk}
use Rattle.law_run.proofs.FitGiven.{same_some, bound, guarded, excluded, either}
use Rattle.law_run.proofs.Declared.{nothing_declared, node_kept, link_kept, sae_kept, pair_kept}
use Rattle.law_run.proofs.Dispatched.{command_fits}

abbrev pub IsOpenFor : Site → Option (List Line) → Type 0
IsOpenFor d None = Unit {0}
IsOpenFor d (Some lines) = All (IsBlockLineFor d) lines

-- The state of reading after this number of lines. While only declarations were read, there are no entries.
pub record IsRead (lines : ℕ) (r : Reading) : Type 0 where
  pub site : IsDeclared r.site
  pub nodes : length r.node_lines ≡ length r.site.nodes
  pub entries : All (IsEntryFor r.site) r.entries
  pub block : IsOpenFor r.site r.block
  pub fresh : r.began ≡ false → (r.entries ≡ []) × (r.block ≡ None)
  pub arms : count_by arms_a_disk r.entries ≤ lines

pub nothing_is_read : IsRead 0 nothing_read
nothing_is_read = record { site = nothing_declared; nodes = refl; entries = All-nil _; block = tt; fresh = λ e. (refl, refl); arms = omega arith }

later : (n : ℕ) (r : Reading) → IsRead n r → IsRead (n + 1) r
later n r h = let few = h.arms in record { site = h.site; nodes = h.nodes; entries = h.entries; block = h.block; fresh = h.fresh; arms = omega (arith, few) }

one_more : (xs : List Entry) (x : Entry) (n : ℕ) → count_by arms_a_disk xs ≤ n → count_by arms_a_disk (xs ++ x ∷ []) ≤ n + 1
one_more xs x n few =
    let sums = sum_by-append (λ (e : Entry). cond (arms_a_disk e) 1 0) xs (x ∷ []) in
    let one = at_most_one (arms_a_disk x) in
    omega (arith, few, sums, one)
  where
    at_most_one : (b : Bool) → cond b 1 0 ≤ 1
    at_most_one true = omega arith
    at_most_one false = omega arith

step_now : Reading → Step → Reading
step_now r (Goes now) = now
step_now r Ends = r

same_goes : (x y : Reading) → Goes x ≡ Goes y → x ≡ y
unfolding step_now
same_goes x y e = ap (step_now x) e

-- Lemmas on a line that asks for something.

block_at : (d : Site) (b : Option (List Line)) (lines : List Line) → b ≡ Some lines → IsOpenFor d b → All (IsBlockLineFor d) lines
block_at d b lines is h = subst (IsOpenFor d) is h

never_fresh : (r : Reading) (n : ℕ) (lines : List Line) → IsRead n r → r.block ≡ Some lines → r.began ≡ false → ⊥
never_fresh r n lines h is fresh = let none = (h.fresh fresh).1 in cc

with_line_read : (n : ℕ) (r : Reading) (b : Option (List Line)) (line : Line) → r.block ≡ b → IsRead n r → IsCommandFor r.site line.command →
    fits b r.rounds line.command ≡ true → IsRead (n + 1) (with_line b r line)
with_line_read n r None line is h right fit =
    record {
      site = h.site;
      nodes = h.nodes;
      entries = All-push (IsEntryFor r.site) r.entries (entries.Line line) h.entries right;
      block = h.block;
      fresh = λ e. absurd cc;
      arms = one_more r.entries (entries.Line line) n h.arms;
    }
with_line_read n r (Some lines) line is h right fit =
    let few = h.arms in
    record {
      site = h.site;
      nodes = h.nodes;
      entries = h.entries;
      block = All-push (IsBlockLineFor r.site) lines line (block_at r.site r.block lines is h.block) (record { may = fit; is_for = right });
      fresh = λ e. absurd (never_fresh r n lines h is e);
      arms = omega (arith, few);
    }

commanded_read : (n : ℕ) (r : Reading) (number : ℕ) (c : Command) (now : Reading) → IsRead n r → IsCommandFor r.site c → commanded r number c ≡ Some (Goes now) → IsRead (n + 1) now
unfolding commanded
commanded_read n r number c now h right e =
    let line : Line = record { number = number; command = c } in
    let kept = guarded (fits r.block r.rounds c) (Goes (with_line r.block r line)) (Goes now) e in
    subst (IsRead (n + 1)) (same_goes (with_line r.block r line) now kept.1) (with_line_read n r r.block line refl h right kept.0)

-- Lemmas on blocks of lines.

opened_read : (n : ℕ) (r : Reading) (ws : List Word) (now : Reading) → IsRead n r → opened r ws ≡ Some (Goes now) → IsRead (n + 1) now
unfolding opened
opened_read n r ws now h e =
    let kept = guarded (length ws == 0 && is_none r.block) (Goes (record r { began = true; block = Some [] })) (Goes now) e in
    let few = h.arms in
    subst (IsRead (n + 1)) (same_goes _ now kept.1)
    (record { site = h.site; nodes = h.nodes; entries = h.entries; block = All-nil (IsBlockLineFor r.site); fresh = λ fresh. absurd cc; arms = omega (arith, few) })

closed_read : (n : ℕ) (r : Reading) (b : Option (List Line)) (now : Reading) → r.block ≡ b → IsRead n r → closed_block b r ≡ Some (Goes now) → IsRead (n + 1) now
closed_read n r None now is h e = absurd cc
closed_read n r (Some lines) now is h e =
    subst (IsRead (n + 1)) (same_goes _ now (same_some _ (Goes now) e))
    (record {
      site = h.site;
      nodes = h.nodes;
      entries = All-push (IsEntryFor r.site) r.entries (entries.Block lines) h.entries (block_at r.site r.block lines is h.block);
      block = tt;
      fresh = λ fresh. absurd (never_fresh r n lines h is fresh);
      arms = one_more r.entries (entries.Block lines) n h.arms;
    })

-- Lemmas on declarations.

with_site_read : (n : ℕ) (r : Reading) (site : Site) (numbers : List ℕ) → r.began ≡ false → IsRead n r → IsDeclared site → length numbers ≡ length site.nodes →
    IsRead (n + 1) (record r { site = site; node_lines = numbers })
with_site_read n r site numbers fresh h declared nodes =
    let none = h.fresh fresh in
    let few = h.arms in
    record {
      site = declared;
      nodes = nodes;
      entries = All-same (IsEntryFor site) r.entries [] none.0 (All-nil (IsEntryFor site));
      block = subst (IsOpenFor site) (sym none.1) tt;
      fresh = h.fresh;
      arms = omega (arith, few);
    }

-- A declaration that leaves the nodes as they are.
other_site_read : (n : ℕ) (r : Reading) (site : Site) (now : Reading) → r.began ≡ false → IsRead n r → IsDeclared site × (site.nodes ≡ r.site.nodes) → Some (with_site r site) ≡ Some now → IsRead (n + 1) now
other_site_read n r site now fresh h declared e =
    subst (IsRead (n + 1)) (same_some (with_site r site) now e) (with_site_read n r site r.node_lines fresh h declared.0 (h.nodes ∙ sym (ap length declared.1)))

declaration_read : (n : ℕ) (r : Reading) (number : ℕ) (word : Word) (ws : List Word) (now : Reading) → IsRead n r → declaration_at r number word ws ≡ Some now → IsRead (n + 1) now
unfolding declaration_at
declaration_read n r number word ws now h e =
    let first = excluded r.began _ now e in
    let P = IsRead (n + 1) now in
    either P (bytes_eq word (codes "node")) _ _ now (node_line first.0) (λ e.
    either P (bytes_eq word (codes "link")) _ _ now (λ e. let site = bound (declared_link r.site ws) _ now e in other_site_read n r site.0 now first.0 h (link_kept r.site h.site ws site.0 site.1) site.2) (λ e.
    either P (bytes_eq word (codes "sae")) _ _ now (λ e. let site = bound (declared_sae r.site ws) _ now e in other_site_read n r site.0 now first.0 h (sae_kept r.site h.site ws site.0 site.1) site.2) (λ e.
    either P (bytes_eq word (codes "allow")) _ _ now (λ e. let site = bound (declared_pair r.site ws) _ now e in other_site_read n r site.0 now first.0 h (pair_kept r.site h.site ws site.0 site.1) site.2)
    (λ e. absurd cc) e) e) e) first.1
  where
    node_line : r.began ≡ false → (declared_node r.site ws >>= λ site. Some (record r { site = site; node_lines = r.node_lines ++ number ∷ [] })) ≡ Some now → IsRead (n + 1) now
    node_line fresh e =
        let site = bound (declared_node r.site ws) _ now e in
        let kept = node_kept r.site h.site ws site.0 site.1 in
        let before = h.nodes in
        let more = kept.1 in
        let long = length-append r.node_lines (number ∷ []) in
        subst (IsRead (n + 1)) (same_some _ now site.2) (with_site_read n r site.0 (r.node_lines ++ number ∷ []) fresh h kept.0 (omega (arith, before, more, long)))

-- Lemmas on one line of any kind.

words_read : (n : ℕ) (r : Reading) (number : ℕ) (word : Word) (ws : List Word) (now : Reading) → IsRead n r → words_at r number word ws ≡ Some (Goes now) → IsRead (n + 1) now
unfolding words_at closed ended
words_read n r number word ws now h e =
    let P = IsRead (n + 1) now in
    either P (is_declaration word) _ _ (Goes now)
    (λ e.
    let site = bound (declaration_at r number word ws) _ (Goes now) e in
    declaration_read n r number word ws now h (site.1 ∙ ap (λ (x : Reading). Some x) (same_goes site.0 now (same_some (Goes site.0) (Goes now) site.2)))) (λ e.
    either P (bytes_eq word (codes "together")) _ _ (Goes now) (opened_read n r ws now h) (λ e.
    either P (bytes_eq word (codes "apart")) _ _ (Goes now) (λ e. either P (length ws == 0) (closed_block r.block r) None (Goes now) (closed_read n r r.block now refl h) (λ e. absurd cc) e) (λ e.
    either P (bytes_eq word (codes "end")) _ _ (Goes now) (λ e. let stop = guarded (length ws == 0 && is_none r.block) Ends (Goes now) e in absurd cc)
    (λ e.
    let command = bound (command_at r.site word ws) _ (Goes now) e in
    commanded_read n r number command.0 now h (command_fits r.site h.site word ws command.0 command.1) command.2) e) e) e) e

pub line_read : (n : ℕ) (r : Reading) (number : ℕ) (line : List ℕ) (now : Reading) → IsRead n r → line_at r number line ≡ Some (Goes now) → IsRead (n + 1) now
unfolding line_at
line_read n r number line now h e =
    let printable = excluded (not (list_all is_printable line)) _ (Goes now) e in
    either (IsRead (n + 1) now) (length (words_of line) == 0 || is_comment line) _ _ (Goes now)
    (λ e. subst (IsRead (n + 1)) (same_goes r now (same_some (Goes r) (Goes now) e)) (later n r h))
    (λ e.
    let spaced = excluded (begins_blank line || ends_blank line) _ (Goes now) e in
    let w = bound (first_of (words_of line)) _ (Goes now) spaced.1 in
    words_read n r number w.0.0 w.0.1 now h w.2) printable.1
