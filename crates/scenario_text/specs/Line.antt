-- The meaning of a line, its end left out: what it adds to what the lines before it said.
use Rattle.std.specs.Prelude.{ℕ, ◌+◌, ◌-◌, slice_index_or, Bool, true, false, not, ◌&&◌, ◌||◌, ◌==◌, nat_le, if◌then◌else◌, List, [], ◌∷◌, ◌++◌, length, Option, Some, None, is_none}
use Rattle.std.specs.List.{list_all}
use Rattle.std.specs.Str.{bytes_eq}
use lib.Chars.{codes}
use Rattle.route_table.specs.Table.{no_links}
use Rattle.sae_entitlements.specs.Grants.{none}
use Rattle.declared_site.specs.declared.site.Site.{Site}
use Rattle.run_types.specs.declared.command.Command.{Command}
use Rattle.run_types.specs.declared.command.Command.TheVariants.{Fill, Feed, Tick, Settle, Pass, Enc, Dec, Status, Http, Stream, FillGroup, EncGroup}
use Rattle.run_types.specs.declared.line.Line.{Line}
use Rattle.run_types.specs.declared.entry.Entry.TheVariants as entries
use Rattle.scenario_text.specs.declared.reading.Reading.{Reading}
use Rattle.scenario_text.specs.Words.{◌>>=◌, Word, first_of, is_space, words_of}
use Rattle.scenario_text.specs.Declaring.{declared_node, declared_link, declared_sae, declared_pair}
use Rattle.scenario_text.specs.Commanding as forms
use Rattle.scenario_text.specs.Calling.{stream_at}

-- ---- what the lines so far said

-- before the first line nothing was declared or asked for
abbrev pub nothing_read : Reading
nothing_read = record {
  site = record { nodes = []; routes = no_links; entitlements = none };
  node_lines = [];
  began = false;
  rounds = 0;
  entries = [];
  block = None;
}

-- a line goes on from what was said, or it was the last line
pub data Step : Type 0 where
  Goes : (now : Reading) → Step
  Ends : Step

-- ---- declarations, which come before all other lines

abbrev pub with_site : Reading → Site → Reading
with_site r site = record r { site = site }

unfoldable pub declaration_at : Reading → ℕ → Word → List Word → Option Reading
declaration_at r number word ws =
    if r.began then None
    else if bytes_eq word (codes "node") then (declared_node r.site ws >>= λ site. Some (record r { site = site; node_lines = r.node_lines ++ number ∷ [] }))
    else if bytes_eq word (codes "link") then (declared_link r.site ws >>= λ site. Some (with_site r site))
    else if bytes_eq word (codes "sae") then (declared_sae r.site ws >>= λ site. Some (with_site r site))
    else if bytes_eq word (codes "allow") then (declared_pair r.site ws >>= λ site. Some (with_site r site))
    else None

-- ---- lines that ask for something

-- lines about links, keys, and what is shown
unfoldable pub further_command_at : Site → Word → List Word → Option Command
further_command_at site word ws =
    if bytes_eq word (codes "link-up") then forms.link_up_at site ws
    else if bytes_eq word (codes "link-down") then forms.link_down_at site ws
    else if bytes_eq word (codes "enc") then forms.enc_at site ws
    else if bytes_eq word (codes "dec") then forms.dec_at site ws
    else if bytes_eq word (codes "status") then forms.status_at site ws
    else if bytes_eq word (codes "http") then forms.http_at site ws
    else if bytes_eq word (codes "q004") then stream_at site ws
    else if bytes_eq word (codes "show") then forms.show_at site ws
    else if bytes_eq word (codes "ledger") then forms.ledger_at site ws
    else if bytes_eq word (codes "fill-group") then forms.fill_group_at site ws
    else if bytes_eq word (codes "enc-group") then forms.enc_group_at site ws
    else None

unfoldable pub command_at : Site → Word → List Word → Option Command
command_at site word ws =
    if bytes_eq word (codes "bits") then forms.bits_at site ws
    else if bytes_eq word (codes "fill") then forms.fill_at site ws
    else if bytes_eq word (codes "feed") then forms.feed_at site ws
    else if bytes_eq word (codes "tick") then forms.tick_at site ws
    else if bytes_eq word (codes "settle") then forms.settle_at ws
    else if bytes_eq word (codes "pass") then forms.pass_at site ws
    else if bytes_eq word (codes "flip") then forms.flip_at site ws
    else if bytes_eq word (codes "forge") then forms.forge_at site ws
    else if bytes_eq word (codes "crash") then forms.crash_at site ws
    else if bytes_eq word (codes "start") then forms.start_at site ws
    else if bytes_eq word (codes "cut") then forms.cut_at site ws
    else if bytes_eq word (codes "fail") then forms.fail_at site ws
    else further_command_at site word ws

-- the rounds of all settles so far, which may be at most 100,000
abbrev pub rounds_with : ℕ → Command → ℕ
rounds_with rounds (Settle more) = rounds + more
rounds_with rounds _ = rounds

-- the lines that workers may do side by side
abbrev pub may_stand_in_block : Command → Bool
may_stand_in_block (Fill master slave bits count) = true
may_stand_in_block (Feed stream count) = true
may_stand_in_block (Tick node) = true
may_stand_in_block (Pass lane number) = true
may_stand_in_block (Enc node master slave count bits) = true
may_stand_in_block (Dec node slave master names) = true
may_stand_in_block (Status node master slave) = true
may_stand_in_block (Http node octets) = true
may_stand_in_block (Stream node call) = true
may_stand_in_block (FillGroup master bits count slaves) = true
may_stand_in_block (EncGroup node master count bits slaves) = true
may_stand_in_block _ = false

-- a line is a single one, or it is in the block that is open
abbrev pub with_line : Option (List Line) → Reading → Line → Reading
with_line None r line = record r { began = true; rounds = rounds_with r.rounds line.command; entries = r.entries ++ entries.Line line ∷ [] }
with_line (Some lines) r line = record r { block = Some (lines ++ line ∷ []) }

abbrev pub fits : Option (List Line) → ℕ → Command → Bool
fits None rounds command = nat_le (rounds_with rounds command) 100000
fits (Some lines) rounds command = may_stand_in_block command

unfoldable pub commanded : Reading → ℕ → Command → Option Step
commanded r number command = if fits r.block r.rounds command then Some (Goes (with_line r.block r (record { number = number; command = command }))) else None

-- ---- blocks, and the end

-- `together` opens a block, if none is open
unfoldable pub opened : Reading → List Word → Option Step
opened r ws = if length ws == 0 && is_none r.block then Some (Goes (record r { began = true; block = Some [] })) else None

-- `apart` closes the block that is open
abbrev pub closed_block : Option (List Line) → Reading → Option Step
closed_block None r = None
closed_block (Some lines) r = Some (Goes (record r { entries = r.entries ++ entries.Block lines ∷ []; block = None }))

unfoldable pub closed : Reading → List Word → Option Step
closed r ws = if length ws == 0 then closed_block r.block r else None

-- `end` is the last line, if no block is open
unfoldable pub ended : Reading → List Word → Option Step
ended r ws = if length ws == 0 && is_none r.block then Some Ends else None

-- ---- a whole line

abbrev pub is_declaration : Word → Bool
is_declaration word = bytes_eq word (codes "node") || bytes_eq word (codes "link") || bytes_eq word (codes "sae") || bytes_eq word (codes "allow")

-- a line whose first word is this one
unfoldable pub words_at : Reading → ℕ → Word → List Word → Option Step
words_at r number word ws =
    if is_declaration word then (declaration_at r number word ws >>= λ now. Some (Goes now))
    else if bytes_eq word (codes "together") then opened r ws
    else if bytes_eq word (codes "apart") then closed r ws
    else if bytes_eq word (codes "end") then ended r ws
    else (command_at r.site word ws >>= λ command. commanded r number command)

abbrev pub is_printable : ℕ → Bool
is_printable b = nat_le 32 b && nat_le b 126

abbrev pub is_comment : List ℕ → Bool
is_comment [] = false
is_comment (b ∷ bs) = b == 35

-- the last octet is a space
abbrev pub ends_blank : List ℕ → Bool
ends_blank line = slice_index_or line (length line - 1) 0 == 32

abbrev pub begins_blank : List ℕ → Bool
begins_blank [] = false
begins_blank (b ∷ bs) = is_space b

-- Words are separated by spaces. No space may be before the first or after the last word. Lines without a word and
-- comments have no effect.
unfoldable pub line_at : Reading → ℕ → List ℕ → Option Step
line_at r number line =
    if not (list_all is_printable line) then None
    else if length (words_of line) == 0 || is_comment line then Some (Goes r)
    else if begins_blank line || ends_blank line then None
    else first_of (words_of line) >>= λ w. words_at r number w.0 w.1
