-- What tasks report of ledgers, and what they ask for.
use Rattle.std.proofs.Common.{◌≡◌, ◌∙◌, ℕ, Bool, true, false, cond, List, [], ◌∷◌, ◌++◌, refl, sym, ap, append_assoc}
use Rattle.std.specs.List.{list_all}
use Rattle.std.proofs.lemmas.List.Elements.{filter-append}
use Rattle.qkd_base.specs.declared.lane.Lane.{Lane}
use Rattle.net_model.specs.Site.{Site}
use Rattle.net_model.specs.World.{Network, World}
use Rattle.net_model.specs.Action.{Action}
use Rattle.run_types.specs.declared.entry.Entry.TheVariants as entries
use Rattle.run_types.specs.declared.command.Command.{Command}
use Rattle.run_types.specs.declared.command.Command.TheVariants as commands
use Rattle.run_types.specs.declared.item.NumberedItem.{NumberedItem}
use Rattle.run_model.specs.Headline.{is_ledger}
use Rattle.run_model.specs.Turn.{HttpTexts}
use Rattle.run_model.specs.Lines.{script_of, begins}
use Rattle.run_model.specs.Play.{Ending, Whole, CutShort, ForgedAt, NoMemory, Played, OneOf, reporting, play, IsPlay}
use Rattle.run_model.specs.Report.{Task, Begins, Does, Performed, Acts, Together, perform, IsPerformed, is_whole, with_rest, report, IsRunOf, actions_for, actions_of}
use Rattle.law_base.proofs.Base.{and_left, and_right, was_not}
use Rattle.law_run.specs.Handed.{asks_no_key, is_of_pairs}
use Rattle.law_run.specs.Kinds.{is_ledger_line, is_unhanding, is_of_load, is_load_task, has_no_ledger, is_ledger_task}
use Rattle.law_run.specs.Ledgers.{ledgers_of}
use Rattle.law_run.proofs.Scripts.{all_both, all_weaker, goes_reports, goes_asks}
use Rattle.law_run.proofs.Reports.{is_other}
use Rattle.law_run.proofs.Lines.{hands_none, any_item, any_action, quiet_begins, line_goes, ledger_goes, unhanding_goes, load_goes, none_of_keys, none_of_pairs, plain_none, plain_pairs}

-- Lemmas on lists.

abbrev OthersAlone : List NumberedItem → Type 0
OthersAlone items = list_all (λ (i : NumberedItem). is_other i.item) items ≡ true

abbrev LedgersAlone : List NumberedItem → Type 0
LedgersAlone items = list_all (λ (i : NumberedItem). is_ledger i.item) items ≡ true

none_of : (items : List NumberedItem) → OthersAlone items → ledgers_of items ≡ []
none_of [] h = refl
none_of (i ∷ items) h =
    ap (λ (t : Bool). cond t (i ∷ ledgers_of items) (ledgers_of items)) (was_not (is_ledger i.item) (and_left (is_other i.item) (list_all (λ (x : NumberedItem). is_other x.item) items) h))
    ∙ none_of items (and_right (is_other i.item) (list_all (λ (x : NumberedItem). is_other x.item) items) h)

all_of : (items : List NumberedItem) → LedgersAlone items → ledgers_of items ≡ items
all_of [] h = refl
all_of (i ∷ items) h =
    ap (λ (t : Bool). cond t (i ∷ ledgers_of items) (ledgers_of items)) (and_left (is_ledger i.item) (list_all (λ (x : NumberedItem). is_ledger x.item) items) h)
    ∙ ap (λ (xs : List NumberedItem). i ∷ xs) (all_of items (and_right (is_ledger i.item) (list_all (λ (x : NumberedItem). is_ledger x.item) items) h))

-- Lemmas on lines.

begins_none : (net : Network) (number : ℕ) (w : World) (v : ℕ) (actions : List Action) → OthersAlone (play net number w (begins v) actions).items
begins_none net number w v actions = goes_reports is_other hands_none net number w (begins v) actions (quiet_begins v)

line_none : (http : HttpTexts) (net : Network) (number : ℕ) (w : World) (site : Site) (c : Command) (actions : List Action) → is_ledger_line c ≡ false →
    OthersAlone (play net number w (script_of http site c) actions).items
line_none http net number w site c actions e = goes_reports is_other any_action net number w (script_of http site c) actions (line_goes http site c e)

line_alone : (http : HttpTexts) (net : Network) (number : ℕ) (w : World) (site : Site) (c : Command) (actions : List Action) → is_ledger_line c ≡ true →
    LedgersAlone (play net number w (script_of http site c) actions).items
line_alone http net number w site (commands.Ledger l) actions e =
    goes_reports is_ledger hands_none net number w (script_of http site (commands.Ledger l)) actions (ledger_goes http site l)
line_alone http net number w site _ actions e = cc

-- Lemmas on one task.

task_none : (http : HttpTexts) (net : Network) (w : World) (t : Task) (d : Performed) → has_no_ledger t ≡ true → OthersAlone (perform http net w t d).items
unfolding perform
task_none http net w (Begins number v) (Acts actions) e = begins_none net number w v actions
task_none http net w (Does (entries.Line line)) (Acts actions) e = line_none http net line.number w net.site line.command actions (was_not (is_ledger_line line.command) e)
task_none http net w (Does (entries.Block lines)) d e = cc
task_none http net w (Begins number v) (Together works) e = refl
task_none http net w (Does (entries.Line line)) (Together works) e = refl

task_alone : (http : HttpTexts) (net : Network) (w : World) (t : Task) (d : Performed) → is_ledger_task t ≡ true → LedgersAlone (perform http net w t d).items
unfolding perform
task_alone http net w (Begins number v) d e = cc
task_alone http net w (Does (entries.Line line)) (Acts actions) e = line_alone http net line.number w net.site line.command actions e
task_alone http net w (Does (entries.Line line)) (Together works) e = refl
task_alone http net w (Does (entries.Block lines)) d e = cc

-- Lemmas on several tasks.

-- If all items of a task and of the rest pass a test, all items together do.
rest_passes : (q : NumberedItem → Bool) (e : Ending) (p rest : Played) → list_all q p.items ≡ true → list_all q rest.items ≡ true → list_all q (with_rest e p rest).items ≡ true
rest_passes q Whole p rest h k = all_both q p.items rest.items h k
rest_passes q CutShort p rest h k = h
rest_passes q (ForgedAt number) p rest h k = h
rest_passes q NoMemory p rest h k = h

tasks_pass : (q : NumberedItem → Bool) (test : Task → Bool) (http : HttpTexts) (net : Network) →
    ((w : World) (t : Task) (d : Performed) → test t ≡ true → list_all q (perform http net w t d).items ≡ true) →
    (w : World) (ts : List Task) (ds : List Performed) → list_all test ts ≡ true → list_all q (report http net w ts ds).items ≡ true
unfolding report
tasks_pass q test http net one w [] ds h = refl
tasks_pass q test http net one w (t ∷ ts) [] h = refl
tasks_pass q test http net one w (t ∷ ts) (d ∷ ds) h =
    let p = perform http net w t d in
    rest_passes q p.ending p (report http net p.world ts ds) (one w t d (and_left (test t) (list_all test ts) h)) (tasks_pass q test http net one p.world ts ds (and_right (test t) (list_all test ts) h))

tasks_none : (http : HttpTexts) (net : Network) (w : World) (ts : List Task) (ds : List Performed) → list_all has_no_ledger ts ≡ true → OthersAlone (report http net w ts ds).items
tasks_none http net w ts ds h = tasks_pass (λ (i : NumberedItem). is_other i.item) has_no_ledger http net (task_none http net) w ts ds h

tasks_alone : (http : HttpTexts) (net : Network) (w : World) (ts : List Task) (ds : List Performed) → list_all is_ledger_task ts ≡ true → LedgersAlone (report http net w ts ds).items
tasks_alone http net w ts ds h = tasks_pass (λ (i : NumberedItem). is_ledger i.item) is_ledger_task http net (task_alone http net) w ts ds h

-- The report of tasks and of others after them, if the first ones ended whole.

reporting_both : (xs ys : List NumberedItem) (p : Played) → reporting xs (reporting ys p) ≡ reporting (xs ++ ys) p
reporting_both xs ys p = ap (λ (zs : List NumberedItem). record { items = zs; world = p.world; ending = p.ending }) (sym (append_assoc xs ys p.items))

-- One task and the tasks after it.
task_then : (e : Ending) (p q long : Played) (more : World → Played) (A : Type 0) → p.ending ≡ e → OneOf (is_whole e) A (q ≡ q) → (with_rest e p q).ending ≡ Whole →
    (A → q.ending ≡ Whole → long ≡ reporting q.items (more q.world)) → with_rest e p long ≡ reporting (with_rest e p q).items (more (with_rest e p q).world)
task_then Whole p q long more A is one whole h = ap (reporting p.items) (h one whole) ∙ reporting_both p.items q.items (more q.world)
task_then CutShort p q long more A is one whole h = absurd (let wrong : CutShort ≡ Whole = sym is ∙ whole in cc)
task_then (ForgedAt number) p q long more A is one whole h = absurd (let wrong : ForgedAt number ≡ Whole = sym is ∙ whole in cc)
task_then NoMemory p q long more A is one whole h = absurd (let wrong : NoMemory ≡ Whole = sym is ∙ whole in cc)

still : (e : Ending) (A B : Type 0) (q : Played) → OneOf (is_whole e) A B → OneOf (is_whole e) A (q ≡ q)
still Whole A B q h = h
still CutShort A B q h = refl
still (ForgedAt number) A B q h = refl
still NoMemory A B q h = refl

report_then : (http : HttpTexts) (net : Network) (workers : ℕ) (w : World) (xs ys : List Task) (ds es : List Performed) → IsRunOf http net workers w xs ds →
    (report http net w xs ds).ending ≡ Whole →
    report http net w (xs ++ ys) (ds ++ es) ≡ reporting (report http net w xs ds).items (report http net (report http net w xs ds).world ys es)
unfolding report
report_then http net workers w [] ys [] es h whole = refl
report_then http net workers w [] ys (d ∷ ds) es h whole = absurd h
report_then http net workers w (t ∷ ts) ys [] es h whole = absurd (let wrong : CutShort ≡ Whole = whole in cc)
report_then http net workers w (t ∷ ts) ys (d ∷ ds) es h whole =
    let p = perform http net w t d in
    let q = report http net p.world ts ds in
    task_then p.ending p q (report http net p.world (ts ++ ys) (ds ++ es)) (λ (x : World). report http net x ys es) (IsRunOf http net workers p.world ts ds) refl
    (still p.ending (IsRunOf http net workers p.world ts ds) (ds ≡ []) q h.1) whole (λ later end. report_then http net workers p.world ts ys ds es later end)

pub ledgers_then : (http : HttpTexts) (net : Network) (workers : ℕ) (w : World) (xs ys : List Task) (ds es : List Performed) → IsRunOf http net workers w xs ds →
    (report http net w xs ds).ending ≡ Whole →
    ledgers_of (report http net w (xs ++ ys) (ds ++ es)).items ≡ ledgers_of (report http net w xs ds).items ++ ledgers_of (report http net (report http net w xs ds).world ys es).items
ledgers_then http net workers w xs ys ds es h whole =
    ap (λ (p : Played). ledgers_of p.items) (report_then http net workers w xs ys ds es h whole)
    ∙ filter-append (λ (i : NumberedItem). is_ledger i.item) (report http net w xs ds).items (report http net (report http net w xs ds).world ys es).items

-- Lemmas on the ledgers among the items.

pub begins_ledgers : (net : Network) (number : ℕ) (w : World) (v : ℕ) (actions : List Action) → ledgers_of (play net number w (begins v) actions).items ≡ []
begins_ledgers net number w v actions = none_of (play net number w (begins v) actions).items (begins_none net number w v actions)

pub other_ledgers : (http : HttpTexts) (net : Network) (number : ℕ) (w : World) (site : Site) (c : Command) (actions : List Action) → is_ledger_line c ≡ false →
    ledgers_of (play net number w (script_of http site c) actions).items ≡ []
other_ledgers http net number w site c actions e = none_of (play net number w (script_of http site c) actions).items (line_none http net number w site c actions e)

pub line_ledgers : (http : HttpTexts) (net : Network) (number : ℕ) (w : World) (site : Site) (l : Lane) (actions : List Action) →
    ledgers_of (play net number w (script_of http site (commands.Ledger l)) actions).items ≡ (play net number w (script_of http site (commands.Ledger l)) actions).items
line_ledgers http net number w site l actions =
    all_of (play net number w (script_of http site (commands.Ledger l)) actions).items (line_alone http net number w site (commands.Ledger l) actions refl)

pub no_ledgers : (http : HttpTexts) (net : Network) (w : World) (ts : List Task) (ds : List Performed) → list_all has_no_ledger ts ≡ true → ledgers_of (report http net w ts ds).items ≡ []
no_ledgers http net w ts ds h = none_of (report http net w ts ds).items (tasks_none http net w ts ds h)

pub ledgers_alone : (http : HttpTexts) (net : Network) (w : World) (ts : List Task) (ds : List Performed) → list_all is_ledger_task ts ≡ true →
    ledgers_of (report http net w ts ds).items ≡ (report http net w ts ds).items
ledgers_alone http net w ts ds h = all_of (report http net w ts ds).items (tasks_alone http net w ts ds h)

-- Lemmas on what is asked for.

pub begins_unasking : (net : Network) (w : World) (v : ℕ) (actions : List Action) → IsPlay net w (begins v) actions → list_all asks_no_key actions ≡ true
begins_unasking net w v actions h = all_weaker hands_none asks_no_key none_of_keys actions (goes_asks is_other hands_none plain_none net w (begins v) actions (quiet_begins v) h)

pub line_unasking : (http : HttpTexts) (net : Network) (w : World) (site : Site) (c : Command) (actions : List Action) → is_unhanding c ≡ true →
    IsPlay net w (script_of http site c) actions → list_all asks_no_key actions ≡ true
line_unasking http net w site c actions e h =
    all_weaker hands_none asks_no_key none_of_keys actions (goes_asks any_item hands_none plain_none net w (script_of http site c) actions (unhanding_goes http site c e) h)

pub begins_pairs : (net : Network) (w : World) (v : ℕ) (actions : List Action) → IsPlay net w (begins v) actions → list_all is_of_pairs actions ≡ true
begins_pairs net w v actions h = all_weaker hands_none is_of_pairs none_of_pairs actions (goes_asks is_other hands_none plain_none net w (begins v) actions (quiet_begins v) h)

pub line_pairs : (http : HttpTexts) (net : Network) (w : World) (site : Site) (c : Command) (actions : List Action) → is_of_load c ≡ true → IsPlay net w (script_of http site c) actions →
    list_all is_of_pairs actions ≡ true
line_pairs http net w site c actions e h = goes_asks any_item is_of_pairs plain_pairs net w (script_of http site c) actions (load_goes http site c e) h

task_pairs : (http : HttpTexts) (net : Network) (workers : ℕ) (w : World) (t : Task) (d : Performed) → is_load_task t ≡ true → IsPerformed http net workers w t d →
    list_all is_of_pairs (actions_for net d) ≡ true
task_pairs http net workers w (Begins number v) (Acts actions) e h = begins_pairs net w v actions h
task_pairs http net workers w (Does (entries.Line line)) (Acts actions) e h = line_pairs http net w net.site line.command actions e h
task_pairs http net workers w (Does (entries.Block lines)) d e h = cc
task_pairs http net workers w (Begins number v) (Together works) e h = absurd h
task_pairs http net workers w (Does (entries.Line line)) (Together works) e h = absurd h

rest_pairs : (net : Network) (e : Ending) (ds : List Performed) (A : Type 0) → OneOf (is_whole e) A (ds ≡ []) → (A → list_all is_of_pairs (actions_of net ds) ≡ true) →
    list_all is_of_pairs (actions_of net ds) ≡ true
unfolding actions_of
rest_pairs net Whole ds A h more = more h
rest_pairs net CutShort [] A h more = refl
rest_pairs net CutShort (d ∷ ds) A h more = cc
rest_pairs net (ForgedAt number) [] A h more = refl
rest_pairs net (ForgedAt number) (d ∷ ds) A h more = cc
rest_pairs net NoMemory [] A h more = refl
rest_pairs net NoMemory (d ∷ ds) A h more = cc

pub tasks_pairs : (http : HttpTexts) (net : Network) (workers : ℕ) (w : World) (ts : List Task) (ds : List Performed) → list_all is_load_task ts ≡ true → IsRunOf http net workers w ts ds →
    list_all is_of_pairs (actions_of net ds) ≡ true
unfolding actions_of
tasks_pairs http net workers w [] [] e h = refl
tasks_pairs http net workers w [] (d ∷ ds) e h = absurd h
tasks_pairs http net workers w (t ∷ ts) [] e h = refl
tasks_pairs http net workers w (t ∷ ts) (d ∷ ds) e h =
    let p = perform http net w t d in
    all_both is_of_pairs (actions_for net d) (actions_of net ds) (task_pairs http net workers w t d (and_left (is_load_task t) (list_all is_load_task ts) e) h.0)
    (rest_pairs net p.ending ds (IsRunOf http net workers p.world ts ds) h.1
    (λ later. tasks_pairs http net workers p.world ts ds (and_right (is_load_task t) (list_all is_load_task ts) e) later))
