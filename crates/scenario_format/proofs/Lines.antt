-- The reader gets a command from its spelled line, also behind other lines of a text.
use Rattle.std.proofs.Common.{◌≡◌, ℕ, suc, ◌≤◌, true, false, eqb, List, [], ◌∷◌, ◌++◌, length, Option, Some, None, refl, ◌∙◌, arith, rules, inl}
use Rattle.std.specs.Prelude.{nat_le, if◌then◌else◌}
use Rattle.std.specs.List.{list_all, All}
use Rattle.std.specs.Str.Lines.{strip_carriage_return}
use lib.Chars.{codes}
use Rattle.std.specs.Str.{bytes_eq}
use Rattle.declared_site.specs.declared.site.Site.{Site}
use Rattle.run_types.specs.declared.command.Command.TheVariants as commands
use Rattle.run_types.specs.declared.command.Command.{Command}
use Rattle.run_types.specs.declared.line.Line.{Line}
use Rattle.scenario_text.specs.declared.reading.Reading.{Reading}
use Rattle.scenario_text.specs.Words.{Word, words_of}
use Rattle.scenario_text.specs.Line.{Goes, is_printable, is_comment, is_declaration, begins_blank, ends_blank, words_at, line_at, command_at, commanded, with_line, rounds_with, fits}
use Rattle.scenario_format.specs.Spelling.{keyword, arguments, spelled, spaced}
use Rattle.scenario_format.proofs.Clean.{is_clean, are_clean, words_are, ends_so, no_return, prints_all, no_feeds}

-- ---- one line of a command

suc_no : (k : ℕ) → eqb (suc k) 0 ≡ false
suc_no k = search rules

-- The line begins with a word that begins no comment.
abbrev StartsWell : Word → Type 0
StartsWell [] = ⊥
StartsWell (b ∷ bs) = (eqb b 32 ≡ false) × (eqb b 35 ≡ false)

reads : (r : Reading) (n : ℕ) (line : List ℕ) (w : Word) (ws : List Word) → list_all is_printable line ≡ true → words_of line ≡ w ∷ ws → is_comment line ≡ false → begins_blank line ≡ false → ends_blank line ≡ false
    → line_at r n line ≡ words_at r n w ws
unfolding line_at
reads r n line w ws prints are no_comment begins ends = rw (prints, are, suc_no (length ws), no_comment, begins, ends) refl

pub reads_words : (r : Reading) (n : ℕ) (w : Word) (ws : List Word) → is_clean w ≡ true → are_clean ws ≡ true → is_comment (w ++ spaced ws) ≡ false → begins_blank (w ++ spaced ws) ≡ false → line_at r n (w ++ spaced ws) ≡ words_at r n w ws
reads_words r n w ws h hs no_comment begins =
    reads r n (w ++ spaced ws) w ws (prints_all w ws h hs) (words_are w ws h hs) no_comment begins (ends_so w ws 32 h hs (inl refl))

-- The first word of a line declares nothing, and is none of `together`, `apart` and `end`.
abbrev IsAsking : Word → Type 0
IsAsking w = (is_declaration w ≡ false) × (bytes_eq w (codes "together") ≡ false) × (bytes_eq w (codes "apart") ≡ false) × (bytes_eq w (codes "end") ≡ false)

by_word : (r : Reading) (n : ℕ) (w : Word) (ws : List Word) (c : Command) → IsAsking w → command_at r.site w ws ≡ Some c → words_at r n w ws ≡ commanded r n c
unfolding words_at
by_word r n w ws c asks e = rw (asks.0, asks.1, asks.2, asks.3, e) refl

-- What the proofs need of the first word of each command.
record IsKeyword (w : Word) : Type 0 where
  asks : IsAsking w
  clean : is_clean w ≡ true
  comment : (rest : List ℕ) → is_comment (w ++ rest) ≡ false
  begins : (rest : List ℕ) → begins_blank (w ++ rest) ≡ false

keyword_is : (c : Command) → IsKeyword (keyword c)
keyword_is (commands.Bits link ends count) = record { asks = (refl, refl, refl, refl); clean = refl; comment = λ rest. refl; begins = λ rest. refl }
keyword_is (commands.Fill master slave bits count) = record { asks = (refl, refl, refl, refl); clean = refl; comment = λ rest. refl; begins = λ rest. refl }
keyword_is (commands.Feed stream count) = record { asks = (refl, refl, refl, refl); clean = refl; comment = λ rest. refl; begins = λ rest. refl }
keyword_is (commands.Tick node) = record { asks = (refl, refl, refl, refl); clean = refl; comment = λ rest. refl; begins = λ rest. refl }
keyword_is (commands.Settle rounds) = record { asks = (refl, refl, refl, refl); clean = refl; comment = λ rest. refl; begins = λ rest. refl }
keyword_is (commands.Pass lane number) = record { asks = (refl, refl, refl, refl); clean = refl; comment = λ rest. refl; begins = λ rest. refl }
keyword_is (commands.Flip lane number bit) = record { asks = (refl, refl, refl, refl); clean = refl; comment = λ rest. refl; begins = λ rest. refl }
keyword_is (commands.Forge lane octets) = record { asks = (refl, refl, refl, refl); clean = refl; comment = λ rest. refl; begins = λ rest. refl }
keyword_is (commands.Crash node) = record { asks = (refl, refl, refl, refl); clean = refl; comment = λ rest. refl; begins = λ rest. refl }
keyword_is (commands.Start node) = record { asks = (refl, refl, refl, refl); clean = refl; comment = λ rest. refl; begins = λ rest. refl }
keyword_is (commands.Cut node call image) = record { asks = (refl, refl, refl, refl); clean = refl; comment = λ rest. refl; begins = λ rest. refl }
keyword_is (commands.Fail node call) = record { asks = (refl, refl, refl, refl); clean = refl; comment = λ rest. refl; begins = λ rest. refl }
keyword_is (commands.LinkUp link) = record { asks = (refl, refl, refl, refl); clean = refl; comment = λ rest. refl; begins = λ rest. refl }
keyword_is (commands.LinkDown link) = record { asks = (refl, refl, refl, refl); clean = refl; comment = λ rest. refl; begins = λ rest. refl }
keyword_is (commands.Enc node master slave count bits) = record { asks = (refl, refl, refl, refl); clean = refl; comment = λ rest. refl; begins = λ rest. refl }
keyword_is (commands.Dec node slave master names) = record { asks = (refl, refl, refl, refl); clean = refl; comment = λ rest. refl; begins = λ rest. refl }
keyword_is (commands.Status node master slave) = record { asks = (refl, refl, refl, refl); clean = refl; comment = λ rest. refl; begins = λ rest. refl }
keyword_is (commands.Http node octets) = record { asks = (refl, refl, refl, refl); clean = refl; comment = λ rest. refl; begins = λ rest. refl }
keyword_is (commands.Stream node call) = record { asks = (refl, refl, refl, refl); clean = refl; comment = λ rest. refl; begins = λ rest. refl }
keyword_is (commands.Show node name) = record { asks = (refl, refl, refl, refl); clean = refl; comment = λ rest. refl; begins = λ rest. refl }
keyword_is (commands.Ledger lane) = record { asks = (refl, refl, refl, refl); clean = refl; comment = λ rest. refl; begins = λ rest. refl }
keyword_is (commands.FillGroup master bits count slaves) = record { asks = (refl, refl, refl, refl); clean = refl; comment = λ rest. refl; begins = λ rest. refl }
keyword_is (commands.EncGroup node master count bits slaves) = record { asks = (refl, refl, refl, refl); clean = refl; comment = λ rest. refl; begins = λ rest. refl }

pub reads_command : (r : Reading) (n : ℕ) (c : Command) → are_clean (arguments r.site c) ≡ true → command_at r.site (keyword c) (arguments r.site c) ≡ Some c → line_at r n (spelled r.site c) ≡ commanded r n c
reads_command r n c clean e =
    let k = keyword_is c in
    reads_words r n (keyword c) (arguments r.site c) k.clean clean (k.comment (spaced (arguments r.site c))) (k.begins (spaced (arguments r.site c)))
    ∙ by_word r n (keyword c) (arguments r.site c) c k.asks e

pub ends_plain : (site : Site) (c : Command) → are_clean (arguments site c) ≡ true → strip_carriage_return (spelled site c) ≡ spelled site c
ends_plain site c clean = no_return (keyword c) (arguments site c) (keyword_is c).clean clean

pub no_feed_in : (site : Site) (c : Command) → are_clean (arguments site c) ≡ true → All (λ b. eqb b 10 ≡ false) (spelled site c)
no_feed_in site c clean = no_feeds (spelled site c) (prints_all (keyword c) (arguments site c) (keyword_is c).clean clean)

-- A command is read behind the declarations, outside of a block, if the rounds of all settles so far stay within their limit.
at_most : (n m : ℕ) → n ≤ m → nat_le n m ≡ true
at_most n m le = grind arith

asked : (r : Reading) (b : Option (List Line)) (n : ℕ) (c : Command) → b ≡ None → rounds_with r.rounds c ≤ 100000 → (if fits b r.rounds c then Some (Goes (with_line b r (record { number = n; command = c }))) else None) ≡ Some (Goes (with_line None r (record { number = n; command = c })))
asked r b n c e few = rw (e, at_most (rounds_with r.rounds c) 100000 few) refl

pub goes_on : (r : Reading) (n : ℕ) (c : Command) → r.block ≡ None → rounds_with r.rounds c ≤ 100000 → commanded r n c ≡ Some (Goes (with_line None r (record { number = n; command = c })))
unfolding commanded
goes_on r n c e few = asked r r.block n c e few
