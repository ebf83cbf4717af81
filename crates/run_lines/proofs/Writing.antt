-- Items that are written in order.
use Rattle.std.proofs.Common.{◌≡◌, ℕ, ◌+◌, ◌<◌, List, [], ◌∷◌, ◌++◌, length, get_or, take, drop, sym, ap, subst, ◌∙◌}
use Rattle.std.specs.Prelude.{Option, Some, None, Err}
use Rattle.std.proofs.lemmas.List.{take_more, append_assoc, append-nil, take-append-drop}
use Rattle.std.specs.Io.KnownBytes.{Appends}
use Rattle.edge_io.specs.Writes.{AppendsPrefix, Adds}
use Rattle.run_types.specs.declared.item.Item.{Item}
use Rattle.run_types.specs.Texts.{line_text}
use Rattle.run_model.specs.Play.{numbered}
use Rattle.run_model.specs.Headline.{Given, Took, TookFirst, report_pieces}
use Rattle.run_lines.specs.declared.stop.Stop.{Stop}
use Rattle.run_lines.specs.declared.stop.Stop.TheVariants.{WriteFault, Memory, Forged}
use Rattle.run_lines.specs.Reporting.{Wrote}
use Rattle.run_lines.proofs.Taking.{took_none, took_on, took_of, first_of, first_within, first_after, pieces_on, pieces_one, pieces_none, numbered_on}

pub adds_none : {A : Type 0} (a : Option (List A)) → Adds a a []
adds_none {A = A} None = tt
adds_none {A = A} (Some xs) = ap (λ (ys : List A). Some ys) (sym (append-nil xs))

pub adds_more : {A : Type 0} (a b c : Option (List A)) (x y : List A) → Adds a b x → Adds b c y → Adds a c (x ++ y)
adds_more {A = A} None b c x y p q = tt
adds_more {A = A} (Some xs) b c x y p q =
    let r = subst (λ (o : Option (List A)). Adds o c y) p q in r ∙ ap (λ (ys : List A). Some ys) (append_assoc xs x y)

module _ (nodes : List (List ℕ)) (number : ℕ) where
  abbrev texts : List Item → List (List ℕ)
  texts items = report_pieces nodes (numbered number items)

  -- one item

  one_text : (item : Item) (line told : List ℕ) → told ≡ line → line ≡ line_text nodes (record { number = number; item = item }) → told ∷ [] ≡ texts (item ∷ [])
  one_text item line told same is = ap (λ (text : List ℕ). text ∷ []) (same ∙ is) ∙ sym (pieces_one nodes number item)

  pub one_took : (item : Item) (line told : List ℕ) (a b : Given) → told ≡ line → line ≡ line_text nodes (record { number = number; item = item }) → Appends a.octets b.octets told →
      Adds a.pieces b.pieces (told ∷ []) → Took a b (texts (item ∷ []))
  one_took item line told a b same is bytes piece = subst (Took a b) (one_text item line told same is) (took_of a b told bytes piece)

  pub one_first : (item : Item) (line told : List ℕ) (a b : Given) → told ≡ line → line ≡ line_text nodes (record { number = number; item = item }) → AppendsPrefix a.octets b.octets told →
      Adds a.pieces b.pieces [] → TookFirst a b (texts (item ∷ []))
  one_first item line told a b same is bytes piece = subst (TookFirst a b) (one_text item line told same is) (first_of a b told bytes piece)

  -- several items, in order

  pub none_took : (a : Given) → Took a a (texts [])
  none_took a = subst (Took a a) (sym (pieces_none nodes)) (took_none a)

  texts_on : (xs ys : List Item) → texts (xs ++ ys) ≡ texts xs ++ texts ys
  texts_on xs ys = ap (report_pieces nodes) (numbered_on number xs ys) ∙ pieces_on nodes (numbered number xs) (numbered number ys)

  one_more : (i : ℕ) (items : List Item) (x d : Item) → i < length items → x ≡ get_or items i d → take (i + 1) items ≡ take i items ++ x ∷ []
  one_more i items x d below is = take_more items i d below ∙ ap (λ (y : Item). take i items ++ y ∷ []) (sym is)

  pub more_took : (i : ℕ) (items : List Item) (x d : Item) (a b c : Given) → i < length items → x ≡ get_or items i d → Took a b (texts (take i items)) →
      Took b c (texts (x ∷ [])) → Took a c (texts (take (i + 1) items))
  more_took i items x d a b c below is p q =
      subst (Took a c) (sym (ap texts (one_more i items x d below is) ∙ texts_on (take i items) (x ∷ []))) (took_on a b c (texts (take i items)) (texts (x ∷ [])) p q)

  stopped : (a b c : Given) (x y : List (List ℕ)) (stop : Stop) → Took a b x → Wrote {T = Unit {0}} (Err stop) b c y → Wrote {T = Unit {0}} (Err stop) a c (x ++ y)
  stopped a b c x y WriteFault p q = first_after a b c x y p q
  stopped a b c x y Memory p q = first_after a b c x y p q
  stopped a b c x y (Forged line) p q = q

  within : (a b : Given) (x y : List (List ℕ)) (stop : Stop) → Wrote {T = Unit {0}} (Err stop) a b x → Wrote {T = Unit {0}} (Err stop) a b (x ++ y)
  within a b x y WriteFault p = first_within a b x y p
  within a b x y Memory p = first_within a b x y p
  within a b x y (Forged line) p = p

  pub stopped_at : (i : ℕ) (items : List Item) (x d : Item) (a b c : Given) (stop : Stop) → i < length items → x ≡ get_or items i d → Took a b (texts (take i items)) →
      Wrote {T = Unit {0}} (Err stop) b c (texts (x ∷ [])) → Wrote {T = Unit {0}} (Err stop) a c (texts items)
  stopped_at i items x d a b c stop below is p q =
      let here : Wrote {T = Unit {0}} (Err stop) a c (texts (take (i + 1) items)) =
      subst (Wrote {T = Unit {0}} (Err stop) a c) (sym (ap texts (one_more i items x d below is) ∙ texts_on (take i items) (x ∷ [])))
      (stopped a b c (texts (take i items)) (texts (x ∷ [])) stop p q) in
      subst (Wrote {T = Unit {0}} (Err stop) a c) (sym (texts_on (take (i + 1) items) (drop (i + 1) items)) ∙ ap texts (take-append-drop (i + 1) items))
      (within a c (texts (take (i + 1) items)) (texts (drop (i + 1) items)) stop here)
