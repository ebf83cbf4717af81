-- Jobs are made of the lines of a block, in order.
use Rattle.std.proofs.Common.{◌≡◌, List, [], ◌∷◌, ◌++◌, map, refl, sym, ap, subst, ◌∙◌}
use Rattle.std.specs.List.{All}
use Rattle.std.proofs.lemmas.List.{map-append}
use Rattle.std.proofs.lemmas.List.Elements.{All-push}
use Rattle.std.proofs.lemmas.List.Concat.{flat_map-append}
use Rattle.net_model.specs.Site.{Site}
use Rattle.net_model.specs.World.{World}
use Rattle.run_types.specs.declared.line.Line.{Line}
use Rattle.run_types.specs.declared.item.Item.{Item}
use Rattle.run_types.specs.declared.item.NumberedItem.{NumberedItem}
use Rattle.run_model.specs.Play.{numbered}
use Rattle.run_model.specs.Turn.{HttpTexts}
use Rattle.run_model.specs.Works.{block_turn}
use Rattle.run_model.specs.Block.{unasked_items, all_unasked}
use Rattle.run_ops.specs.declared.job.Job.{Job}
use Rattle.run_tasks.specs.declared.prepared.Made.{Made}
use Rattle.run_tasks.specs.declared.prepared.Made.TheVariants as makings
use Rattle.run_tasks.specs.declared.prepared.Place.{Place}
use Rattle.run_tasks.specs.declared.prepared.Prepared.{Prepared}
use Rattle.run_tasks.specs.Prepared.{IsAllowed, IsMadeAllowed, IsLineMade, IsOfLine, AreOfLines, IsPrepared, told_item, job_made, place_made, told_made}

module _ (http : HttpTexts) (site : Site) (w : World) where
  one_line : (line : Line) (made : Made) → IsLineMade http site w line.command made → IsOfLine http site w line (job_made made) (place_made line.number made)
  one_line line (makings.Job job telling) h = (refl, h.0)
  one_line line (makings.Told item) h = (refl, h.0)

  lines_on : (line : Line) (job : Job) (place : Place) → IsOfLine http site w line job place → (before : List Line) (jobs : List Job) (places : List Place) →
      AreOfLines http site w before jobs places → AreOfLines http site w (before ++ line ∷ []) (jobs ++ job ∷ []) (places ++ place ∷ [])
  lines_on line job place one [] [] [] h = (one, tt)
  lines_on line job place one [] [] (p ∷ ps) h = absurd h
  lines_on line job place one [] (j ∷ js) places h = absurd h
  lines_on line job place one (l ∷ ls) [] places h = absurd h
  lines_on line job place one (l ∷ ls) (j ∷ js) [] h = absurd h
  lines_on line job place one (l ∷ ls) (j ∷ js) (p ∷ ps) h = (h.0, lines_on line job place one ls js ps h.1)

  said_of : Line → List NumberedItem
  said_of line = numbered line.number (unasked_items (block_turn http site w line.command))

  told_one : (line : Line) (made : Made) → IsLineMade http site w line.command made → map told_item (told_made line.number made) ≡ said_of line ++ []
  unfolding said_of
  told_one line (makings.Job job telling) h = ap (λ (xs : List Item). numbered line.number xs ++ []) (sym h.1)
  told_one line (makings.Told item) h = ap (λ (xs : List Item). numbered line.number xs ++ []) (sym h.1)

  told_more : (before : List Line) (line : Line) → all_unasked http site w (before ++ line ∷ []) ≡ all_unasked http site w before ++ (said_of line ++ [])
  unfolding said_of
  told_more before line = flat_map-append said_of before (line ∷ [])

  pub made_on : (before : List Line) (line : Line) (p q : Prepared) (made : Made) → IsPrepared http site w before p → IsLineMade http site w line.command made →
      q.jobs.items ≡ p.jobs.items ++ job_made made ∷ [] → q.places.items ≡ p.places.items ++ place_made line.number made ∷ [] → q.told.items ≡ p.told.items ++ told_made line.number made →
      IsPrepared http site w (before ++ line ∷ []) q
  made_on before line p q made h one jobs places told = record {
    places =
        subst (λ (ps : List Place). AreOfLines http site w (before ++ line ∷ []) q.jobs.items ps) (sym places)
        (subst (λ (js : List Job). AreOfLines http site w (before ++ line ∷ []) js (p.places.items ++ place_made line.number made ∷ [])) (sym jobs)
        (lines_on line (job_made made) (place_made line.number made) (one_line line made one) before p.jobs.items p.places.items h.places));
    told =
        ap (map told_item) told ∙ map-append told_item p.told.items (told_made line.number made) ∙ ap (λ (xs : List NumberedItem). xs ++ map told_item (told_made line.number made)) h.told
        ∙ ap (λ (xs : List NumberedItem). all_unasked http site w before ++ xs) (told_one line made one) ∙ sym (told_more before line);
  }

-- Jobs were made of some first lines of the block, and these lines are left.
pub record IsMade (http : HttpTexts) (site : Site) (w : World) (whole left : List Line) (p : Prepared) : Type 0 where
  pub first : List Line
  pub is : whole ≡ first ++ left
  pub prepared : IsPrepared http site w first p

pub allowed_on : (site : Site) (w : World) (jobs more : List Job) (made : Made) → All (IsAllowed site w) jobs → IsMadeAllowed site w made → more ≡ jobs ++ job_made made ∷ [] →
    All (IsAllowed site w) more
allowed_on site w jobs more (makings.Job job telling) h one e = subst (All (IsAllowed site w)) (sym e) (All-push (IsAllowed site w) jobs job h one)
allowed_on site w jobs more (makings.Told item) h one e = subst (All (IsAllowed site w)) (sym e) (All-push (IsAllowed site w) jobs (job_made (makings.Told item)) h (refl, tt))
