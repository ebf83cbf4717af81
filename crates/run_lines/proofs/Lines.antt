-- Lines that are written one by one.
use Rattle.std.proofs.Common.{◌≡◌, ℕ, List, [], ◌∷◌, ◌++◌, take, drop, refl, sym, ap, subst, ◌∙◌}
use Rattle.std.specs.Prelude.{Option, Result, Ok, Err}
use Rattle.std.proofs.lemmas.List.{append_assoc, append-nil, take-append-drop}
use Rattle.std.proofs.lemmas.List.Elements.{All-nil, All-push, All-append}
use Rattle.std.specs.Io.KnownBytes.{Appends}
use Rattle.edge_io.specs.Writes.{AppendsPrefix, Adds}
use Rattle.run_types.specs.declared.item.Item.TheVariants as items
use Rattle.run_types.specs.Texts.{line_text}
use Rattle.run_model.specs.Headline.{joined, Gained}
use Rattle.run_lines.specs.Reporting.{IsItemLine, IsPart, TookLines, InLines}
use Rattle.run_lines.proofs.Taking.{gained_none, gained_on, gained_bytes, joined_on}
use Rattle.run_lines.proofs.Writing.{adds_none, adds_more}

module _ {S : Type 0} (taken : S → Option (List ℕ)) (pieces : S → Option (List (List ℕ))) (IsLine : List ℕ → Type 0) where
  -- no line was written
  pub none_lined : (s : S) → TookLines taken pieces IsLine s s []
  none_lined s = record { lines = []; each = All-nil IsLine; pieces_are = adds_none (pieces s); text = gained_none (taken s) }

  -- lines written after other lines
  pub lined_on : (a b c : S) (part : List ℕ) → TookLines taken pieces IsLine a b [] → TookLines taken pieces IsLine b c part → TookLines taken pieces IsLine a c part
  lined_on a b c part p q = record {
    lines = p.lines ++ q.lines;
    each = All-append IsLine p.lines q.lines p.each q.each;
    pieces_are = adds_more (pieces a) (pieces b) (pieces c) p.lines q.lines p.pieces_are q.pieces_are;
    text = subst (Gained (taken a) (taken c))
        (ap (λ (bs : List ℕ). bs ++ (joined q.lines ++ part)) (append-nil (joined p.lines))
        ∙ sym (append_assoc (joined p.lines) (joined q.lines) part)
        ∙ ap (λ (bs : List ℕ). bs ++ part) (sym (joined_on p.lines q.lines)))
        (gained_on (taken a) (taken b) (taken c) (joined p.lines ++ []) (joined q.lines ++ part) p.text q.text);
  }

  -- a run that may stop after some lines
  pub in_lines_on : {T E : Type 0} (a b c : S) (result : Result T E) → TookLines taken pieces IsLine a b [] → InLines taken pieces IsLine b c result → InLines taken pieces IsLine a c result
  in_lines_on a b c (Ok done) p q = lined_on a b c [] p q
  in_lines_on a b c (Err stop) p q = (q.0, q.1, lined_on a b c q.0 p q.2)

  -- one line, whether the sink keeps text or not
  pub one_lined : (a b : S) (told line : List ℕ) → told ≡ line → IsLine line → Appends (taken a) (taken b) told → Adds (pieces a) (pieces b) (told ∷ []) → TookLines taken pieces IsLine a b []
  one_lined a b told line same is bytes piece = record {
    lines = told ∷ [];
    each = All-push IsLine [] told (All-nil IsLine) (subst IsLine (sym same) is);
    pieces_are = piece;
    text = subst (Gained (taken a) (taken b)) (sym (append-nil told) ∙ sym (append-nil (told ++ []))) (gained_bytes (taken a) (taken b) told bytes);
  }

  pub one_stopped : (a b : S) (told line : List ℕ) → told ≡ line → IsLine line → AppendsPrefix (taken a) (taken b) told → Adds (pieces a) (pieces b) [] →
      (part : List ℕ) × IsPart IsLine part × TookLines taken pieces IsLine a b part
  one_stopped a b told line same is bytes piece = (
    take bytes.0 told,
    (told, subst IsLine (sym same) is, (drop bytes.0 told, sym (take-append-drop bytes.0 told))),
    record { lines = []; each = All-nil IsLine; pieces_are = piece; text = gained_bytes (taken a) (taken b) (take bytes.0 told) bytes.1 },
  )

  -- a run that stops before any line is written
  pub none_stopped : (s : S) (line : List ℕ) → IsLine line → (part : List ℕ) × IsPart IsLine part × TookLines taken pieces IsLine s s part
  none_stopped s line is = ([], (line, is, (line, refl)), none_lined s)

-- some item has a line
pub some_line : (nodes : List (List ℕ)) → IsItemLine nodes (line_text nodes (record { number = 0; item = items.Crashed }))
some_line nodes = (record { number = 0; item = items.Crashed }, refl)

pub stopped_unwritten : {S : Type 0} (taken : S → Option (List ℕ)) (pieces : S → Option (List (List ℕ))) (nodes : List (List ℕ)) (s : S) →
    (part : List ℕ) × IsPart (IsItemLine nodes) part × TookLines taken pieces (IsItemLine nodes) s s part
stopped_unwritten taken pieces nodes s = none_stopped taken pieces (IsItemLine nodes) s (line_text nodes (record { number = 0; item = items.Crashed })) (some_line nodes)

-- a run that stops after whole lines
pub stopped_lined : {S : Type 0} (taken : S → Option (List ℕ)) (pieces : S → Option (List (List ℕ))) (nodes : List (List ℕ)) (a b : S) → TookLines taken pieces (IsItemLine nodes) a b [] →
    (part : List ℕ) × IsPart (IsItemLine nodes) part × TookLines taken pieces (IsItemLine nodes) a b part
stopped_lined taken pieces nodes a b h =
    let line = line_text nodes (record { number = 0; item = items.Crashed }) in ([], (line, some_line nodes, (line, refl)), h)
