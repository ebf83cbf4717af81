-- The entries of a load.
use Rattle.std.proofs.Common.{◌≡◌, true, false, List, [], ◌∷◌, refl, subst}
use Rattle.std.specs.List.{All, AllByRecursion, list_all}
use Rattle.std.proofs.lemmas.List.Elements.{All-head, All-tail}
use Rattle.declared_site.specs.declared.site.Site.{Site as Declared}
use Rattle.declared_site.specs.SiteOf.{site_of}
use Rattle.net_model.specs.Site.{Site}
use Rattle.net_model.specs.World.{Network, World}
use Rattle.run_types.specs.declared.line.Line.{Line}
use Rattle.run_types.specs.declared.entry.Entry.{Entry}
use Rattle.run_types.specs.declared.entry.Entry.TheVariants as entries
use Rattle.run_model.specs.Turn.{HttpTexts}
use Rattle.run_model.specs.Lines.{script_of}
use Rattle.run_model.specs.Report.{Does}
use Rattle.run_ops.specs.Runnable.{IsEntryFor}
use Rattle.run_tasks.proofs.Tasking.{IsTask, line_is}
use Rattle.law_base.proofs.Base.{and_left, and_right}
use Rattle.law_run.specs.Kinds.{is_of_load, is_load_entry}
use Rattle.run_tasks.specs.Entries.{has_block, IsLineFor}

-- The entry is a line, and asks for that line's script.
pub record IsLine (http : HttpTexts) (net : Network) (w : World) (site : Site) (entry : Entry) : Type 0 where
  pub line : Line
  pub is : entry ≡ entries.Line line
  pub task : IsTask http net 1 w (Does entry) line.number (script_of http site line.command)

pub entry_is : (http : HttpTexts) (net : Network) (w : World) (d : Declared) (entry : Entry) → net.site ≡ site_of d → IsLineFor d entry → IsLine http net w (site_of d) entry
entry_is http net w d (entries.Line line) sited fit = record {
  line = line;
  is = refl;
  task = subst (λ (s : Site). IsTask http net 1 w (Does (entries.Line line)) line.number (script_of http s line.command)) sited (line_is http net 1 w line);
}
entry_is http net w d (entries.Block lines) sited fit = absurd fit

-- If the entries fit a site and none is a block, each is a line that fits it.
pub all_lines : (d : Declared) (list : List Entry) → All (IsEntryFor d) list → has_block list ≡ false → AllByRecursion (IsLineFor d) list
all_lines d [] fit none = tt
all_lines d (entries.Line line ∷ list) fit none =
    (All-head (IsEntryFor d) (entries.Line line) list fit, all_lines d list (All-tail (IsEntryFor d) (entries.Line line) list fit) none)
all_lines d (entries.Block lines ∷ list) fit none = absurd cc

-- No entry of a load is a block.
pub no_block : (list : List Entry) → list_all is_load_entry list ≡ true → has_block list ≡ false
no_block [] load = refl
no_block (entries.Line line ∷ list) load = no_block list (and_right (is_of_load line.command) (list_all is_load_entry list) load)
no_block (entries.Block lines ∷ list) load = cc

-- The first entry of a load's list is one of a load, and so are the others.
pub first_load : (entry : Entry) (list : List Entry) → list_all is_load_entry (entry ∷ list) ≡ true → is_load_entry entry ≡ true
first_load entry list load = and_left (is_load_entry entry) (list_all is_load_entry list) load

pub more_load : (entry : Entry) (list : List Entry) → list_all is_load_entry (entry ∷ list) ≡ true → list_all is_load_entry list ≡ true
more_load entry list load = and_right (is_load_entry entry) (list_all is_load_entry list) load
