-- How much of a report a sink took, where a run was cut.
use Rattle.std.proofs.Common.{◌≡◌, ◌∙◌, ℕ, ◌≤◌, Bool, true, false, List, [], ◌∷◌, ◌++◌, length, refl, sym, ap, subst, arith}
use Rattle.std.proofs.lemmas.List.{append_assoc, append-nil}
use Rattle.net_model.specs.World.{Network, World}
use Rattle.run_types.specs.declared.item.NumberedItem.{NumberedItem}
use Rattle.run_model.specs.Turn.{HttpTexts}
use Rattle.run_model.specs.Play.{Played, reporting, OneOf}
use Rattle.run_model.specs.Report.{Task, Performed, perform, is_whole, report, IsRunOf}
use Rattle.run_model.specs.Headline.{Given, Took, TookUpTo, TookFirst, report_pieces}
use Rattle.run_lines.specs.declared.stop.Stop.{Stop}
use Rattle.run_lines.specs.declared.stop.Stop.TheVariants.{WriteFault, Memory, Forged}
use Rattle.run_lines.specs.Running.{StopsAs}
use Rattle.run_lines.proofs.Taking.{took_none, up_to, up_to_after, pieces_on, pieces_none}
use Rattle.run_tasks.specs.Tasks.{IsCut}

-- what a sink took until a stop
pub record HasTaken (before taken : Given) : Type 0 where
  pub texts : List (List ℕ)
  pub part : List ℕ
  pub took : TookUpTo before taken texts part

pub taken_whole : (r t : Given) (texts : List (List ℕ)) → Took r t texts → HasTaken r t
taken_whole r t texts took = record { texts = texts; part = []; took = up_to r t texts took }

pub taken_first : (r t : Given) (texts : List (List ℕ)) → TookFirst r t texts → HasTaken r t
taken_first r t texts told = record { texts = told.first; part = told.part; took = told.took }

pub taken_of : (stop : Stop) (nodes : List (List ℕ)) (p : Played) (r t : Given) → StopsAs stop nodes p r t → HasTaken r t
taken_of WriteFault nodes p r t told = taken_first r t (report_pieces nodes p.items) told
taken_of Memory nodes p r t told = taken_first r t (report_pieces nodes p.items) told
taken_of (Forged line) nodes p r t told = taken_whole r t (report_pieces nodes p.items) told.1

nothing_told : (http : HttpTexts) (net : Network) (w : World) (tasks : List Task) → (report http net w tasks []).items ≡ []
unfolding report
nothing_told http net w [] = refl
nothing_told http net w (t ∷ ts) = refl

module _ (written : List NumberedItem → List NumberedItem) (nodes : List (List ℕ)) (http : HttpTexts) (net : Network) where
  -- At most one task was done.
  pub cut_first : (w : World) (tasks : List Task) (done : List Performed) (r t : Given) → written [] ≡ [] → length done ≤ 1 → HasTaken r t → IsCut written nodes http net w tasks done r t
  cut_first w tasks done r t none few taken =
      let silent : report_pieces nodes (written (report http net w tasks []).items) ≡ [] =
      ap (λ (xs : List NumberedItem). report_pieces nodes (written xs)) (nothing_told http net w tasks) ∙ ap (report_pieces nodes) none ∙ pieces_none nodes in
      record {
        front = [];
        last = done;
        split = refl;
        one = few;
        more = taken.texts;
        part = taken.part;
        took = subst (λ (texts : List (List ℕ)). TookUpTo r t (texts ++ taken.texts) taken.part) (sym silent) taken.took;
      }

  -- All that was reported was taken, and then the sink took more.
  pub cut_behind : (w : World) (tasks : List Task) (done : List Performed) (r t u : Given) → Took r t (report_pieces nodes (written (report http net w tasks done).items)) → HasTaken t u →
      IsCut written nodes http net w tasks done r u
  cut_behind w tasks done r t u took taken = record {
    front = done;
    last = [];
    split = sym (append-nil done);
    one = omega arith;
    more = taken.texts;
    part = taken.part;
    took = up_to_after r t u (report_pieces nodes (written (report http net w tasks done).items)) taken.texts taken.part took taken.took;
  }

  -- All that was reported was taken.
  pub cut_none : (w : World) (tasks : List Task) (done : List Performed) (r t : Given) → Took r t (report_pieces nodes (written (report http net w tasks done).items)) →
      IsCut written nodes http net w tasks done r t
  cut_none w tasks done r t took = cut_behind w tasks done r t t took (taken_whole t t [] (took_none t))

  -- Other tasks were done before, and all that they reported was taken.
  pub cut_on : (w m : World) (tasks mid : List Task) (first second : List Performed) (told : List NumberedItem) (r t u : Given) →
      ((xs ys : List NumberedItem) → written (xs ++ ys) ≡ written xs ++ written ys) →
      ((more : List Performed) → report http net w tasks (first ++ more) ≡ reporting told (report http net m mid more)) → Took r t (report_pieces nodes (written told)) →
      IsCut written nodes http net m mid second t u → IsCut written nodes http net w tasks (first ++ second) r u
  cut_on w m tasks mid first second told r t u splits said took p =
      let items = (report http net m mid p.front).items in
      let here = report_pieces nodes (written told) in
      let there = report_pieces nodes (written items) in
      let both : report_pieces nodes (written (report http net w tasks (first ++ p.front)).items) ≡ here ++ there =
      ap (λ (q : Played). report_pieces nodes (written q.items)) (said p.front) ∙ ap (report_pieces nodes) (splits told items) ∙ pieces_on nodes (written told) (written items) in
      record {
        front = first ++ p.front;
        last = p.last;
        split = ap (λ (ds : List Performed). first ++ ds) p.split ∙ sym (append_assoc first p.front p.last);
        one = p.one;
        more = p.more;
        part = p.part;
        took = subst (λ (texts : List (List ℕ)). TookUpTo r u texts p.part) (sym (ap (λ (texts : List (List ℕ)). texts ++ p.more) both ∙ append_assoc here there p.more))
            (up_to_after r t u here (there ++ p.more) p.part took p.took);
      }

  -- The same, where more tasks were asked for that report nothing.
  pub cut_as : (w : World) (tasks others : List Task) (done : List Performed) (r t : Given) (p : IsCut written nodes http net w tasks done r t) →
      (report http net w others p.front).items ≡ (report http net w tasks p.front).items → IsCut written nodes http net w others done r t
  cut_as w tasks others done r t p same = record {
    front = p.front;
    last = p.last;
    split = p.split;
    one = p.one;
    more = p.more;
    part = p.part;
    took = subst (λ (xs : List NumberedItem). TookUpTo r t (report_pieces nodes (written xs) ++ p.more) p.part) (sym same) p.took;
  }

-- The first part of a run is a run.

none_of : (ds more : List Performed) → ds ++ more ≡ [] → ds ≡ []
none_of [] more h = refl
none_of (d ∷ ds) more h = cc

front_one : (b : Bool) (A B : Type 0) (ds more : List Performed) → (A → B) → OneOf b A (ds ++ more ≡ []) → OneOf b B (ds ≡ [])
front_one true A B ds more f h = f h
front_one false A B ds more f h = none_of ds more h

pub front_runs : (http : HttpTexts) (net : Network) (workers : ℕ) (tasks : List Task) (ds more : List Performed) (w : World) → IsRunOf http net workers w tasks (ds ++ more) → IsRunOf http net workers w tasks ds
front_runs http net workers tasks [] more w h = tt
front_runs http net workers [] (d ∷ ds) more w h = absurd h
front_runs http net workers (task ∷ tasks) (d ∷ ds) more w h =
    let p = perform http net w task d in
    (h.0, front_one (is_whole p.ending) (IsRunOf http net workers p.world tasks (ds ++ more)) (IsRunOf http net workers p.world tasks ds) ds more (front_runs http net workers tasks ds more p.world) h.1)
