-- Writing a report in parts.
use Rattle.std.proofs.Common.{◌≡◌, ℕ, ◌+◌, ◌<◌, ◌≤◌, List, [], ◌∷◌, ◌++◌, length, get_or, drop, map, refl, sym, ap, subst, ◌∙◌, add-one}
use Rattle.std.specs.Prelude.{Result, Ok, Err}
use Rattle.std.specs.List.{flat_map}
use Rattle.std.proofs.Math.Seq.{drop-cons}
use Rattle.std.proofs.lemmas.List.{append_assoc, append-nil, drop_all}
use Rattle.run_types.specs.declared.item.NumberedItem.{NumberedItem}
use Rattle.run_model.specs.Headline.{Took, TookFirst, Given, report_pieces}
use Rattle.run_lines.specs.declared.stop.Stop.{Stop}
use Rattle.run_lines.specs.declared.stop.Stop.TheVariants.{WriteFault, Memory, Forged}
use Rattle.run_lines.specs.Reporting.{Wrote}
use Rattle.run_lines.proofs.Taking.{took_none, took_on, first_within, first_after, pieces_on, pieces_none}

-- Some first items of the report were written, and these are left.
pub record IsTold (nodes : List (List ℕ)) (before taken : Given) (whole left : List NumberedItem) : Type 0 where
  pub said : List NumberedItem
  pub is : whole ≡ said ++ left
  pub took : Took before taken (report_pieces nodes said)

module _ (nodes : List (List ℕ)) where
  pub told_none : (a : Given) (whole : List NumberedItem) → IsTold nodes a a whole whole
  told_none a whole = record { said = []; is = refl; took = subst (Took a a) (sym (pieces_none nodes)) (took_none a) }

  pub told_on : (a b c : Given) (whole left next rest : List NumberedItem) → left ≡ next ++ rest → IsTold nodes a b whole left → Took b c (report_pieces nodes next) →
      IsTold nodes a c whole rest
  told_on a b c whole left next rest e p took = record {
    said = p.said ++ next;
    is = p.is ∙ ap (λ (xs : List NumberedItem). p.said ++ xs) e ∙ sym (append_assoc p.said next rest);
    took = subst (Took a c) (sym (pieces_on nodes p.said next)) (took_on a b c _ _ p.took took);
  }

  pub told_all : (a b : Given) (whole left : List NumberedItem) → left ≡ [] → IsTold nodes a b whole left → Took a b (report_pieces nodes whole)
  told_all a b whole left e p =
      subst (λ (xs : List NumberedItem). Took a b (report_pieces nodes xs)) (sym (p.is ∙ ap (λ (xs : List NumberedItem). p.said ++ xs) e ∙ append-nil p.said)) p.took

  whole_text : (a b : Given) (whole left : List NumberedItem) → (p : IsTold nodes a b whole left) → report_pieces nodes whole ≡ report_pieces nodes p.said ++ report_pieces nodes left
  whole_text a b whole left p = ap (report_pieces nodes) p.is ∙ pieces_on nodes p.said left

  pub told_ends : {T : Type 0} (a b c : Given) (whole left : List NumberedItem) (result : Result T Stop) → IsTold nodes a b whole left →
      Wrote result b c (report_pieces nodes left) → Wrote result a c (report_pieces nodes whole)
  told_ends a b c whole left (Ok done) p wrote = subst (Took a c) (sym (whole_text a b whole left p)) (took_on a b c _ _ p.took wrote)
  told_ends a b c whole left (Err WriteFault) p wrote = subst (TookFirst a c) (sym (whole_text a b whole left p)) (first_after a b c _ _ p.took wrote)
  told_ends a b c whole left (Err Memory) p wrote = subst (TookFirst a c) (sym (whole_text a b whole left p)) (first_after a b c _ _ p.took wrote)
  told_ends a b c whole left (Err (Forged line)) p wrote = wrote

  within : (a b : Given) (x y : List (List ℕ)) (stop : Stop) → Wrote {T = Unit {0}} (Err stop) a b x → Wrote {T = Unit {0}} (Err stop) a b (x ++ y)
  within a b x y WriteFault p = first_within a b x y p
  within a b x y Memory p = first_within a b x y p
  within a b x y (Forged line) p = p

  pub told_stop : (a b c : Given) (whole left next rest : List NumberedItem) (stop : Stop) → left ≡ next ++ rest → IsTold nodes a b whole left →
      Wrote {T = Unit {0}} (Err stop) b c (report_pieces nodes next) → Wrote {T = Unit {0}} (Err stop) a c (report_pieces nodes whole)
  told_stop a b c whole left next rest stop e p wrote =
      told_ends {T = Unit {0}} a b c whole left (Err stop) p
      (subst (Wrote {T = Unit {0}} (Err stop) b c) (sym (ap (report_pieces nodes) e ∙ pieces_on nodes next rest)) (within b c _ (report_pieces nodes rest) stop wrote))

-- the elements of a list, in order

pub one_left : {A : Type 0} (f : A → List NumberedItem) (xs : List A) (i : ℕ) (x d : A) → i < length xs → x ≡ get_or xs i d →
    flat_map f (drop i xs) ≡ f x ++ flat_map f (drop (i + 1) xs)
one_left {A = A} f xs i x d below is =
    ap (flat_map f) (drop-cons xs i d below) ∙ ap (λ (n : ℕ). f (get_or xs i d) ++ flat_map f (drop n xs)) (sym (add-one i))
    ∙ ap (λ (y : A). f y ++ flat_map f (drop (i + 1) xs)) (sym is)

pub one_mapped : {A : Type 0} (f : A → NumberedItem) (xs : List A) (i : ℕ) (x d : A) → i < length xs → x ≡ get_or xs i d →
    map f (drop i xs) ≡ (f x ∷ []) ++ map f (drop (i + 1) xs)
one_mapped {A = A} f xs i x d below is =
    ap (map f) (drop-cons xs i d below) ∙ ap (λ (n : ℕ). f (get_or xs i d) ∷ map f (drop n xs)) (sym (add-one i))
    ∙ ap (λ (y : A). f y ∷ map f (drop (i + 1) xs)) (sym is)

pub none_left : {A : Type 0} (f : A → List NumberedItem) (xs : List A) (i : ℕ) → length xs ≤ i → flat_map f (drop i xs) ≡ []
none_left f xs i past = ap (flat_map f) (drop_all i xs past)

pub none_mapped : {A : Type 0} (f : A → NumberedItem) (xs : List A) (i : ℕ) → length xs ≤ i → map f (drop i xs) ≡ []
none_mapped f xs i past = ap (map f) (drop_all i xs past)
