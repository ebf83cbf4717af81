-- A sink that takes only ledgers.
use Rattle.std.proofs.Common.{◌≡◌, ◌∙◌, ℕ, List, [], ◌++◌, refl, sym, ap, subst}
use Rattle.std.proofs.lemmas.List.Elements.{filter-append}
use Rattle.run_types.specs.declared.item.NumberedItem.{NumberedItem}
use Rattle.run_model.specs.Headline.{is_ledger, Took, Given, report_pieces, unknown}
use Rattle.run_model.specs.Play.{Played}
use Rattle.run_lines.specs.declared.stop.Stop.{Stop}
use Rattle.run_lines.specs.declared.stop.Stop.TheVariants.{WriteFault, Memory, Forged}
use Rattle.run_lines.specs.Running.{StopsAs}
use Rattle.run_lines.proofs.Taking.{took_none, took_unknown, first_none, pieces_on, pieces_none}
use Rattle.law_run.specs.Ledgers.{ledgers_of}
use Rattle.run_tasks.specs.Told.{ledgers_alone}

pub ledgers_on : (xs ys : List NumberedItem) → ledgers_of (xs ++ ys) ≡ ledgers_of xs ++ ledgers_of ys
ledgers_on xs ys = filter-append (λ (i : NumberedItem). is_ledger i.item) xs ys

-- If it isn't known what a sink took, it may have taken any texts.
pub unheard_took : (x : List (List ℕ)) → Took unknown unknown x
unheard_took x = took_unknown unknown unknown x refl refl

module _ (nodes : List (List ℕ)) where
  pub pieces_both : (xs ys : List NumberedItem) → report_pieces nodes (ledgers_of (xs ++ ys)) ≡ report_pieces nodes (ledgers_of xs) ++ report_pieces nodes (ledgers_of ys)
  pieces_both xs ys = ap (report_pieces nodes) (ledgers_on xs ys) ∙ pieces_on nodes (ledgers_of xs) (ledgers_of ys)

  pub none_took : (r : Given) (items : List NumberedItem) → ledgers_of items ≡ [] → Took r r (report_pieces nodes (ledgers_of items))
  none_took r items none = subst (Took r r) (sym (ap (report_pieces nodes) none ∙ pieces_none nodes)) (took_none r)

  -- If a report has no ledgers, a sink for ledgers takes nothing of it.
  pub none_told : (p : Played) (r a b : Given) (stop : Stop) → ledgers_of p.items ≡ [] → StopsAs stop nodes p a b → StopsAs stop nodes (ledgers_alone p) r r
  none_told p r a b WriteFault none told = first_none r (report_pieces nodes (ledgers_of p.items))
  none_told p r a b Memory none told = first_none r (report_pieces nodes (ledgers_of p.items))
  none_told p r a b (Forged line) none told = (told.0, none_took r p.items none)

  -- If a report has only ledgers, a sink for ledgers takes all of it.
  pub all_told : (p : Played) (a b : Given) (stop : Stop) → ledgers_of p.items ≡ p.items → StopsAs stop nodes p a b → StopsAs stop nodes (ledgers_alone p) a b
  all_told p a b stop all told =
      subst (λ (xs : List NumberedItem). StopsAs stop nodes (record { items = xs; world = p.world; ending = p.ending }) a b) (sym all) told
