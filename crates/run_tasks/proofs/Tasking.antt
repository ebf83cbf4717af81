-- Tasks that are done in order.
use Rattle.std.proofs.Common.{◌≡◌, ℕ, ◌+◌, ◌<◌, ◌≤◌, Bool, true, false, List, [], ◌∷◌, ◌++◌, length, get_or, drop, refl, sym, ap, subst, ◌∙◌, add-one, arith}
use Rattle.std.specs.Prelude.{if◌then◌else◌, count_by, Result, Ok, Err}
use Rattle.std.proofs.Math.Seq.{drop-cons}
use Rattle.std.proofs.lemmas.List.{append_assoc, append-nil, drop_all}
use Rattle.std.proofs.lemmas.List.Concat.{flat_map-append}
use Rattle.std.proofs.lemmas.List.Sums.{sum_by-cons}
use Rattle.net_model.specs.Site.{Site}
use Rattle.net_model.specs.World.{Network, World}
use Rattle.net_model.specs.Action.{Action}
use Rattle.run_types.specs.declared.item.NumberedItem.{NumberedItem}
use Rattle.run_types.specs.declared.line.Line.{Line}
use Rattle.run_types.specs.declared.entry.Entry.{Entry}
use Rattle.run_types.specs.declared.entry.Entry.TheVariants as entries
use Rattle.run_model.specs.Script.{Script}
use Rattle.run_model.specs.Turn.{HttpTexts}
use Rattle.run_model.specs.Lines.{script_of, begins}
use Rattle.run_model.specs.Play.{Ending, Whole, CutShort, ForgedAt, NoMemory, Played, numbered, reporting, stopped_at, play, OneOf, IsPlay}
use Rattle.run_model.specs.Report.{Task, Begins, Does, Performed, Acts, starts_from, perform, IsPerformed, is_whole, with_rest, report, IsRunOf, actions_for, actions_of}
use Rattle.run_model.specs.Headline.{Took, TookFirst, Given, report_pieces}
use Rattle.run_ops.proofs.Plays.{reported}
use Rattle.run_ops.specs.Acting.{IsReady}
use Rattle.run_ops.specs.Runnable.{arms_a_disk}
use Rattle.run_lines.specs.declared.stop.Stop.{Stop}
use Rattle.run_lines.specs.declared.stop.Stop.TheVariants.{WriteFault, Memory, Forged}
use Rattle.run_lines.specs.Running.{StopsAs, Finishes, Stops, Ran}
use Rattle.run_tasks.specs.Tasks.{RanTasks}
use Rattle.run_lines.proofs.Taking.{took_none, took_on, pieces_on, pieces_none}
use Rattle.run_tasks.proofs.Cuts.{taken_of, cut_first, cut_none, cut_on, cut_as, front_runs}
use Rattle.run_lines.proofs.Going.{Ways, stops_as}

-- What was done is a first part of a run of these tasks. It reports these items and leads to a world where `rest` is left to do.
pub record LeadsOn (http : HttpTexts) (net : Network) (workers : ℕ) (w : World) (tasks : List Task) (done : List Performed) (items : List NumberedItem) (after : World) (rest : List Task) : Type 0 where
  pub is : (more : List Performed) → IsRunOf http net workers after rest more → IsRunOf http net workers w tasks (done ++ more)
  pub said : (more : List Performed) → report http net w tasks (done ++ more) ≡ reporting items (report http net after rest more)

pub record DidSo {S : Type 0} (Stands : S → Network → World → Type 0) (Tallied : S → S → Site → List Action → Type 0) (nodes : List (List ℕ)) (old now : S) (before taken : Given)
    (http : HttpTexts) (net : Network) (workers : ℕ) (w : World) (tasks : List Task) (after : World) (rest : List Task) : Type 0 where
  pub done : List Performed
  pub items : List NumberedItem
  pub leads : LeadsOn http net workers w tasks done items after rest
  pub ready : IsReady Stands now net after
  pub tallied : Tallied old now net.site (actions_of net done)
  pub took : Took before taken (report_pieces nodes items)

-- The task plays this script, and reports under this number.
pub record IsTask (http : HttpTexts) (net : Network) (workers : ℕ) (w : World) (task : Task) (number : ℕ) (script : Script) : Type 0 where
  pub is : (actions : List Action) → IsPlay net w script actions → IsPerformed http net workers w task (Acts actions)
  pub said : (actions : List Action) → perform http net w task (Acts actions) ≡ play net number w script actions

pub begins_is : (http : HttpTexts) (net : Network) (workers : ℕ) (w : World) (number v : ℕ) → IsTask http net workers w (Begins number v) number (begins v)
unfolding perform
begins_is http net workers w number v = record { is = λ actions h. h; said = λ actions. refl }

pub line_is : (http : HttpTexts) (net : Network) (workers : ℕ) (w : World) (line : Line) → IsTask http net workers w (Does (entries.Line line)) line.number (script_of http net.site line.command)
unfolding perform
line_is http net workers w line = record { is = λ actions h. h; said = λ actions. refl }

-- the number of entries that arm a disk
pub one_more : (entry : Entry) (list : List Entry) → count_by arms_a_disk (entry ∷ list) ≡ (if arms_a_disk entry then 1 else 0) + count_by arms_a_disk list
one_more entry list = sum_by-cons (λ (e : Entry). if arms_a_disk e then 1 else 0) entry list

-- The starts from node i on are the start of node i, and then those of the nodes after it.
pub one_begins : (lines : List ℕ) (i : ℕ) → i < length lines → starts_from i (drop i lines) ≡ Begins (get_or lines i 0) i ∷ starts_from (i + 1) (drop (i + 1) lines)
one_begins lines i below =
    ap (starts_from i) (drop-cons lines i 0 below) ∙ ap (λ (n : ℕ). Begins (get_or lines i 0) i ∷ starts_from (i + 1) (drop n lines)) (sym (add-one i))

pub none_begins : (lines : List ℕ) (i : ℕ) → length lines ≤ i → starts_from i (drop i lines) ≡ []
none_begins lines i past = ap (starts_from i) (drop_all i lines past)

pub is_none : {A : Type 0} (xs : List A) → length xs ≡ 0 → xs ≡ []
is_none [] h = refl
is_none (x ∷ xs) h = absurd (omega (arith, h))

-- ---- actions

pub acts_none : (net : Network) → actions_of net [] ≡ []
unfolding actions_of
acts_none net = refl

acts_on : (net : Network) (xs ys : List Performed) → actions_of net (xs ++ ys) ≡ actions_of net xs ++ actions_of net ys
unfolding actions_of
acts_on net xs ys = flat_map-append (actions_for net) xs ys

acts_one : (net : Network) (actions : List Action) → actions_of net (Acts actions ∷ []) ≡ actions
unfolding actions_of
acts_one net actions = append-nil actions

-- ---- the report

first_done : (http : HttpTexts) (net : Network) (w : World) (task : Task) (tasks : List Task) (d : Performed) (more : List Performed) →
    report http net w (task ∷ tasks) (d ∷ more) ≡ with_rest (perform http net w task d).ending (perform http net w task d) (report http net (perform http net w task d).world tasks more)
unfolding report
first_done http net w task tasks d more = refl

pub nothing_more : (http : HttpTexts) (net : Network) (w : World) (tasks : List Task) → (report http net w tasks []).world ≡ w
unfolding report
nothing_more http net w [] = refl
nothing_more http net w (t ∷ ts) = refl

nothing_told : (http : HttpTexts) (net : Network) (w : World) (tasks : List Task) → (report http net w tasks []).items ≡ []
unfolding report
nothing_told http net w [] = refl
nothing_told http net w (t ∷ ts) = refl

pub all_done : (http : HttpTexts) (net : Network) (w : World) → report http net w [] [] ≡ stopped_at w Whole
unfolding report
all_done http net w = refl

-- ---- one task

leads_none : (http : HttpTexts) (net : Network) (workers : ℕ) (w : World) (tasks : List Task) → LeadsOn http net workers w tasks [] [] w tasks
leads_none http net workers w tasks = record { is = λ more h. h; said = λ more. refl }

pub leads_one : (http : HttpTexts) (net : Network) (workers : ℕ) (w after : World) (task : Task) (tasks : List Task) (d : Performed) (items : List NumberedItem) → IsPerformed http net workers w task d →
    perform http net w task d ≡ record { items = items; world = after; ending = Whole } → LeadsOn http net workers w (task ∷ tasks) (d ∷ []) items after tasks
leads_one http net workers w after task tasks d items is said = record {
  is = λ more h. (is, subst (λ (p : Played). OneOf (is_whole p.ending) (IsRunOf http net workers p.world tasks more) (more ≡ [])) (sym said) h);
  said = λ more. first_done http net w task tasks d more ∙ ap (λ (p : Played). with_rest p.ending p (report http net p.world tasks more)) said;
}

leads_on : (http : HttpTexts) (net : Network) (workers : ℕ) (w m after : World) (tasks mid rest : List Task) (first second : List Performed) (told more_told : List NumberedItem) → LeadsOn http net workers w tasks first told m mid →
    LeadsOn http net workers m mid second more_told after rest → LeadsOn http net workers w tasks (first ++ second) (told ++ more_told) after rest
leads_on http net workers w m after tasks mid rest first second told more_told p q = record {
  is = λ more h. subst (IsRunOf http net workers w tasks) (sym (append_assoc first second more)) (p.is (second ++ more) (q.is more h));
  said = λ more.
      ap (report http net w tasks) (append_assoc first second more) ∙ p.said (second ++ more)
      ∙ reported told more_told (report http net after rest more) _ (q.said more);
}

-- A whole run of some tasks leads on to the tasks after them.

follow_one : (http : HttpTexts) (net : Network) (workers : ℕ) (w : World) (task : Task) (tasks last : List Task) (d : Performed) (ds : List Performed) (e : Ending) → (perform http net w task d).ending ≡ e →
    IsPerformed http net workers w task d → OneOf (is_whole e) (IsRunOf http net workers (perform http net w task d).world tasks ds) (ds ≡ []) →
    (with_rest e (perform http net w task d) (report http net (perform http net w task d).world tasks ds)).ending ≡ Whole →
    ((w : World) → IsRunOf http net workers w tasks ds → (report http net w tasks ds).ending ≡ Whole → LeadsOn http net workers w (tasks ++ last) ds (report http net w tasks ds).items (report http net w tasks ds).world last) →
    LeadsOn http net workers w (task ∷ (tasks ++ last)) (d ∷ ds) (with_rest e (perform http net w task d) (report http net (perform http net w task d).world tasks ds)).items
    (with_rest e (perform http net w task d) (report http net (perform http net w task d).world tasks ds)).world last
follow_one http net workers w task tasks last d ds Whole whole is rest ends again =
    let p = perform http net w task d in
    leads_on http net workers w p.world (report http net p.world tasks ds).world (task ∷ (tasks ++ last)) (tasks ++ last) last (d ∷ []) ds p.items (report http net p.world tasks ds).items
    (leads_one http net workers w p.world task (tasks ++ last) d p.items is (ap (λ (e : Ending). record { items = p.items; world = p.world; ending = e }) whole))
    (again p.world rest ends)
follow_one http net workers w task tasks last d ds CutShort whole is rest ends again = absurd (let wrong : CutShort ≡ Whole = sym whole ∙ ends in cc)
follow_one http net workers w task tasks last d ds (ForgedAt number) whole is rest ends again = absurd (let wrong : ForgedAt number ≡ Whole = sym whole ∙ ends in cc)
follow_one http net workers w task tasks last d ds NoMemory whole is rest ends again = absurd (let wrong : NoMemory ≡ Whole = sym whole ∙ ends in cc)

leads_all : (http : HttpTexts) (net : Network) (workers : ℕ) (last : List Task) (tasks : List Task) (done : List Performed) (w : World) → IsRunOf http net workers w tasks done →
    (report http net w tasks done).ending ≡ Whole → LeadsOn http net workers w (tasks ++ last) done (report http net w tasks done).items (report http net w tasks done).world last
unfolding report
leads_all http net workers last [] [] w is ends = leads_none http net workers w last
leads_all http net workers last [] (d ∷ ds) w is ends = absurd is
leads_all http net workers last (task ∷ tasks) [] w is ends = absurd (let wrong : CutShort ≡ Whole = ends in cc)
leads_all http net workers last (task ∷ tasks) (d ∷ ds) w is ends =
    follow_one http net workers w task tasks last d ds (perform http net w task d).ending refl is.0 is.1 ends (leads_all http net workers last tasks ds)

-- If not all tasks were done, tasks after them change nothing: what was done is a run of the longer list, and reports the same.

pub record SameBefore (http : HttpTexts) (net : Network) (workers : ℕ) (w : World) (tasks last : List Task) (done : List Performed) : Type 0 where
  pub is : IsRunOf http net workers w (tasks ++ last) done
  pub world : (report http net w (tasks ++ last) done).world ≡ (report http net w tasks done).world
  pub items : (report http net w (tasks ++ last) done).items ≡ (report http net w tasks done).items
  pub forged : (number : ℕ) → (report http net w tasks done).ending ≡ ForgedAt number → report http net w (tasks ++ last) done ≡ report http net w tasks done

same_one : (http : HttpTexts) (net : Network) (workers : ℕ) (p : Played) (tasks last : List Task) (ds : List Performed) (e : Ending) → OneOf (is_whole e) (IsRunOf http net workers p.world tasks ds) (ds ≡ []) →
    ((w : World) → IsRunOf http net workers w tasks ds → SameBefore http net workers w tasks last ds) →
    OneOf (is_whole e) (IsRunOf http net workers p.world (tasks ++ last) ds) (ds ≡ [])
    × ((with_rest e p (report http net p.world (tasks ++ last) ds)).world ≡ (with_rest e p (report http net p.world tasks ds)).world)
    × ((with_rest e p (report http net p.world (tasks ++ last) ds)).items ≡ (with_rest e p (report http net p.world tasks ds)).items)
    × ((number : ℕ) → (with_rest e p (report http net p.world tasks ds)).ending ≡ ForgedAt number →
    with_rest e p (report http net p.world (tasks ++ last) ds) ≡ with_rest e p (report http net p.world tasks ds))
same_one http net workers p tasks last ds Whole rest again =
    let q = again p.world rest in (q.is, q.world, ap (λ (xs : List NumberedItem). p.items ++ xs) q.items, λ number is. ap (reporting p.items) (q.forged number is))
same_one http net workers p tasks last ds CutShort rest again = (rest, refl, refl, λ number is. refl)
same_one http net workers p tasks last ds (ForgedAt line) rest again = (rest, refl, refl, λ number is. refl)
same_one http net workers p tasks last ds NoMemory rest again = (rest, refl, refl, λ number is. refl)

same_before : (http : HttpTexts) (net : Network) (workers : ℕ) (last : List Task) (tasks : List Task) (done : List Performed) (w : World) → IsRunOf http net workers w tasks done → SameBefore http net workers w tasks last done
unfolding report
same_before http net workers last [] [] w is = record {
  is = tt;
  world = nothing_more http net w last;
  items = nothing_told http net w last;
  forged = λ number wrong. absurd (let off : Whole ≡ ForgedAt number = wrong in cc);
}
same_before http net workers last [] (d ∷ ds) w is = absurd is
same_before http net workers last (task ∷ tasks) [] w is = record { is = tt; world = refl; items = refl; forged = λ number wrong. refl }
same_before http net workers last (task ∷ tasks) (d ∷ ds) w is =
    let p = perform http net w task d in
    let all = same_one http net workers p tasks last ds p.ending is.1 (same_before http net workers last tasks ds) in
    record { is = (is.0, all.0); world = all.1; items = all.2; forged = all.3 }

-- ---- where a run stops

cut_world : (e : Ending) (p q : Played) → q.world ≡ p.world → (with_rest e p q).world ≡ p.world
cut_world Whole p q same = same
cut_world CutShort p q same = refl
cut_world (ForgedAt number) p q same = refl
cut_world NoMemory p q same = refl

cut_items : (e : Ending) (p q : Played) → q.items ≡ [] → (with_rest e p q).items ≡ p.items
cut_items Whole p q none = ap (λ (xs : List NumberedItem). p.items ++ xs) none ∙ append-nil p.items
cut_items CutShort p q none = refl
cut_items (ForgedAt number) p q none = refl
cut_items NoMemory p q none = refl

cut_told : (nodes : List (List ℕ)) (e : Ending) (p q : Played) (stop : Stop) (a b : Given) → p.ending ≡ e → q.items ≡ [] → StopsAs stop nodes p a b → StopsAs stop nodes (with_rest e p q) a b
cut_told nodes e p q WriteFault a b is none told = subst (λ (xs : List NumberedItem). TookFirst a b (report_pieces nodes xs)) (sym (cut_items e p q none)) told
cut_told nodes e p q Memory a b is none told = subst (λ (xs : List NumberedItem). TookFirst a b (report_pieces nodes xs)) (sym (cut_items e p q none)) told
cut_told nodes Whole p q (Forged line) a b is none told = absurd (let wrong : Whole ≡ ForgedAt line = sym is ∙ told.0 in cc)
cut_told nodes CutShort p q (Forged line) a b is none told = told
cut_told nodes (ForgedAt number) p q (Forged line) a b is none told = told
cut_told nodes NoMemory p q (Forged line) a b is none told = told

abbrev none_left : List Performed → List Performed
none_left more = more

either : (b : Bool) (A B : Type 0) → A → B → OneOf b A B
either true A B a c = a
either false A B a c = c

module _ {S : Type 0} (Stands Rests : S → Network → World → Type 0) (Tallied : S → S → Site → List Action → Type 0) (ways : Ways Stands Rests Tallied) (nodes : List (List ℕ)) (http : HttpTexts)
    (net : Network) (workers : ℕ) where
  pub did_none : (a : S) (r : Given) (w : World) (tasks : List Task) → IsReady Stands a net w → DidSo Stands Tallied nodes a a r r http net workers w tasks w tasks
  did_none a r w tasks ready = record {
    done = [];
    items = [];
    leads = leads_none http net workers w tasks;
    ready = ready;
    tallied = subst (Tallied a a net.site) (sym (acts_none net)) (ways.none a net w ready.stands);
    took = subst (Took r r) (sym (pieces_none nodes)) (took_none r);
  }

  pub did_on : (a b c : S) (r t u : Given) (w m after : World) (tasks mid rest : List Task) → DidSo Stands Tallied nodes a b r t http net workers w tasks m mid →
      DidSo Stands Tallied nodes b c t u http net workers m mid after rest → DidSo Stands Tallied nodes a c r u http net workers w tasks after rest
  did_on a b c r t u w m after tasks mid rest p q = record {
    done = p.done ++ q.done;
    items = p.items ++ q.items;
    leads = leads_on http net workers w m after tasks mid rest p.done q.done p.items q.items p.leads q.leads;
    ready = q.ready;
    tallied = subst (Tallied a c net.site) (sym (acts_on net p.done q.done)) (ways.more a b c net.site (actions_of net p.done) (actions_of net q.done) p.tallied q.tallied);
    took = subst (Took r u) (sym (pieces_on nodes p.items q.items)) (took_on r t u _ _ p.took q.took);
  }

  pub did_one : (a b : S) (r t : Given) (w : World) (task : Task) (tasks : List Task) (number : ℕ) (script : Script) → IsTask http net workers w task number script →
      (f : Finishes Stands Tallied nodes a b r t number net w script) → DidSo Stands Tallied nodes a b r t http net workers w (task ∷ tasks) f.plays.after tasks
  did_one a b r t w task tasks number script is f = record {
    done = Acts f.plays.actions ∷ [];
    items = numbered number f.items;
    leads = leads_one http net workers w f.plays.after task tasks (Acts f.plays.actions) (numbered number f.items) (is.is f.plays.actions f.plays.is) (is.said f.plays.actions ∙ f.plays.said number);
    ready = f.plays.ready;
    tallied = subst (Tallied a b net.site) (sym (acts_one net f.plays.actions)) f.plays.tallied;
    took = f.took;
  }

  pub all_ran : (T : Type 0) (answer : T) (a b : S) (r t : Given) (w after : World) (tasks : List Task) → DidSo Stands Tallied nodes a b r t http net workers w tasks after [] →
      RanTasks {T = T} Stands Rests Tallied nodes a b r t http net workers w tasks (Ok answer)
  all_ran T answer a b r t w after tasks p =
      let said : report http net w tasks p.done ≡ reporting p.items (stopped_at after Whole) =
      ap (report http net w tasks) (sym (append-nil p.done)) ∙ p.leads.said [] ∙ ap (reporting p.items) (all_done http net after) in
      let took : Took r t (report_pieces nodes (report http net w tasks p.done).items) =
      subst (λ (q : Played). Took r t (report_pieces nodes q.items)) (sym said) (subst (λ (xs : List NumberedItem). Took r t (report_pieces nodes xs)) (sym (append-nil p.items)) p.took) in
      record {
        done = p.done;
        is = subst (IsRunOf http net workers w tasks) (append-nil p.done) (p.leads.is [] tt);
        left = subst (λ (q : Played). IsReady Stands b net q.world) (sym said) p.ready;
        tallied = p.tallied;
        told = (ap (λ (q : Played). q.ending) said, took);
        cut = cut_none (λ items. items) nodes http net w tasks p.done r t took;
      }

  pub one_stopped : (T : Type 0) (a b : S) (r t : Given) (w : World) (task : Task) (tasks : List Task) (number : ℕ) (script : Script) (stop : Stop) → IsTask http net workers w task number script →
      Stops Rests Tallied nodes a b r t number net w script stop → RanTasks {T = T} Stands Rests Tallied nodes a b r t http net workers w (task ∷ tasks) (Err stop)
  one_stopped T a b r t w task tasks number script stop is s =
      let d = Acts s.actions in
      let p = perform http net w task d in
      let rest = report http net p.world tasks [] in
      let same = is.said s.actions in
      record {
        done = d ∷ [];
        is = (is.is s.actions s.is, either (is_whole p.ending) (IsRunOf http net workers p.world tasks []) (none_left [] ≡ []) tt refl);
        left = subst (λ (q : World). Rests b net q) (sym (ap (λ (q : Played). q.world) (first_done http net w task tasks d []) ∙ cut_world p.ending p rest (nothing_more http net p.world tasks)))
            (subst (λ (q : Played). Rests b net q.world) (sym same) s.rests);
        tallied = subst (Tallied a b net.site) (sym (acts_one net s.actions)) s.tallied;
        told = subst (λ (q : Played). StopsAs stop nodes q r t) (sym (first_done http net w task tasks d []))
            (cut_told nodes p.ending p rest stop r t refl (nothing_told http net p.world tasks) (subst (λ (q : Played). StopsAs stop nodes q r t) (sym same) s.told));
        cut = cut_first (λ items. items) nodes http net w (task ∷ tasks) (d ∷ []) r t refl (omega arith) (taken_of stop nodes _ r t s.told);
      }

  pub did_stop : (T : Type 0) (a b c : S) (r t u : Given) (w m : World) (tasks mid : List Task) (stop : Stop) → DidSo Stands Tallied nodes a b r t http net workers w tasks m mid →
      RanTasks {T = T} Stands Rests Tallied nodes b c t u http net workers m mid (Err stop) → RanTasks {T = T} Stands Rests Tallied nodes a c r u http net workers w tasks (Err stop)
  did_stop T a b c r t u w m tasks mid stop p q =
      let said = p.leads.said q.done in
      record {
        done = p.done ++ q.done;
        is = p.leads.is q.done q.is;
        left = subst (λ (x : Played). Rests c net x.world) (sym said) q.left;
        tallied = subst (Tallied a c net.site) (sym (acts_on net p.done q.done)) (ways.more a b c net.site (actions_of net p.done) (actions_of net q.done) p.tallied q.tallied);
        told = stops_as nodes _ _ p.items r t u stop said p.took q.told;
        cut = cut_on (λ items. items) nodes http net w m tasks mid p.done q.done p.items r t u (λ xs ys. refl) p.leads.said p.took q.cut;
      }

  -- ---- tasks that follow others

  pub did_all : {T : Type 0} (answer : T) (a b : S) (r t : Given) (w : World) (tasks last : List Task) → (p : RanTasks {T = T} Stands Rests Tallied nodes a b r t http net workers w tasks (Ok answer)) →
      DidSo Stands Tallied nodes a b r t http net workers w (tasks ++ last) (report http net w tasks p.done).world last
  did_all answer a b r t w tasks last p = record {
    done = p.done;
    items = (report http net w tasks p.done).items;
    leads = leads_all http net workers last tasks p.done w p.is p.told.0;
    ready = p.left;
    tallied = p.tallied;
    took = p.told.1;
  }

  pub ran_after : {T U : Type 0} (answer : T) (a b c : S) (r t u : Given) (w : World) (tasks last : List Task) (result : Result U Stop) →
      (p : RanTasks {T = T} Stands Rests Tallied nodes a b r t http net workers w tasks (Ok answer)) → RanTasks Stands Rests Tallied nodes b c t u http net workers (report http net w tasks p.done).world last result →
      RanTasks Stands Rests Tallied nodes a c r u http net workers w (tasks ++ last) result
  ran_after {U = U} answer a b c r t u w tasks last (Ok done) p q =
      let m = (report http net w tasks p.done).world in
      let here = did_all answer a b r t w tasks last p in
      let there = did_all done b c t u m last [] q in
      all_ran U done a c r u w (report http net m last q.done).world (tasks ++ last)
      (did_on a b c r t u w m (report http net m last q.done).world (tasks ++ last) last [] here
      (subst (λ (ts : List Task). DidSo Stands Tallied nodes b c t u http net workers m ts (report http net m last q.done).world []) (append-nil last) there))
  ran_after {U = U} answer a b c r t u w tasks last (Err stop) p q =
      did_stop U a b c r t u w (report http net w tasks p.done).world (tasks ++ last) last stop (did_all answer a b r t w tasks last p) q

  told_before : (w : World) (tasks last : List Task) (done : List Performed) (stop : Stop) (r t : Given) → SameBefore http net workers w tasks last done →
      StopsAs stop nodes (report http net w tasks done) r t → StopsAs stop nodes (report http net w (tasks ++ last) done) r t
  told_before w tasks last done WriteFault r t same told = subst (λ (xs : List NumberedItem). TookFirst r t (report_pieces nodes xs)) (sym same.items) told
  told_before w tasks last done Memory r t same told = subst (λ (xs : List NumberedItem). TookFirst r t (report_pieces nodes xs)) (sym same.items) told
  told_before w tasks last done (Forged line) r t same told = subst (λ (p : Played). StopsAs (Forged line) nodes p r t) (sym (same.forged line told.0)) told

  pub ran_short : (U : Type 0) (a b : S) (r t : Given) (w : World) (tasks last : List Task) (stop : Stop) →
      RanTasks {T = U} Stands Rests Tallied nodes a b r t http net workers w tasks (Err stop) → RanTasks {T = U} Stands Rests Tallied nodes a b r t http net workers w (tasks ++ last) (Err stop)
  ran_short U a b r t w tasks last stop p =
      let same = same_before http net workers last tasks p.done w p.is in
      record {
        done = p.done;
        is = same.is;
        left = subst (Rests b net) (sym same.world) p.left;
        tallied = p.tallied;
        told = told_before w tasks last p.done stop r t same p.told;
        cut = cut_as (λ items. items) nodes http net w tasks (tasks ++ last) p.done r t p.cut
            (same_before http net workers last tasks p.cut.front w (front_runs http net workers tasks p.cut.front p.cut.last w (subst (IsRunOf http net workers w tasks) p.cut.split p.is))).items;
      }

  -- ---- a single task that is a line

  pub ran_line : {T : Type 0} (a b : S) (r t : Given) (w : World) (task : Task) (number : ℕ) (script : Script) (result : Result T Stop) → IsTask http net workers w task number script →
      Ran Stands Rests Tallied nodes a b r t number net w script result → RanTasks Stands Rests Tallied nodes a b r t http net workers w (task ∷ []) result
  ran_line {T = T} a b r t w task number script (Ok done) is f =
      all_ran T done a b r t w f.plays.after (task ∷ []) (did_one a b r t w task [] number script is f)
  ran_line {T = T} a b r t w task number script (Err stop) is s = one_stopped T a b r t w task [] number script stop is s
