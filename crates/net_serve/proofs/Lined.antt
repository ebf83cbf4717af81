-- The lines of a scenario's report, then the line that counts the connections.
use Rattle.std.proofs.Common.{◌≡◌, ℕ, List, [], refl, sym, subst, inl, inr}
use Rattle.std.specs.Prelude.{Option, Result, Ok, Err, MatchResult}
use Rattle.run_types.specs.Texts.{served_text}
use Rattle.run_lines.specs.Reporting.{IsItemLine, IsPart, TookLines, InLines}
use Rattle.run_lines.specs.declared.stop.Stop.{Stop}
use Rattle.run_lines.proofs.Lines.{none_stopped, in_lines_on}
use Rattle.run_tasks.proofs.Pieces.{took_also, in_lines_also}
use Rattle.net_serve.specs.Lines.{IsServedLine, IsServeLine}
use Rattle.net_serve.specs.declared.stop.ServeStop.{ServeStop}
use Rattle.net_serve.specs.declared.stop.ServeStop.TheVariants.{Stopped}

item_too : (nodes : List (List ℕ)) (line : List ℕ) → IsItemLine nodes line → IsServeLine nodes line
item_too nodes line h = inl h

served_too : (nodes : List (List ℕ)) (line : List ℕ) → IsServedLine line → IsServeLine nodes line
served_too nodes line h = inr h

-- a property that needs that the lines came to their end
pub where_ended : {T : Type 0} (A : Type 0) (B : Stop → Type 0) (lines : Result T Stop) (done : T) → lines ≡ Ok done → A → MatchResult lines (λ x. A) B
where_ended {T} A B lines done is a = subst (λ (r : Result T Stop). MatchResult r (λ x. A) B) (sym is) a

module _ {S : Type 0} (taken : S → Option (List ℕ)) (pieces : S → Option (List (List ℕ))) where
  -- a sink to which nothing was written took no line
  pub unserved : (s : S) → (part : List ℕ) × IsPart IsServedLine part × TookLines taken pieces IsServedLine s s part
  unserved s = none_stopped taken pieces IsServedLine s (served_text 0) (0, refl)

  module _ (nodes : List (List ℕ)) where
    pub unlined : (s : S) → (part : List ℕ) × IsPart (IsServeLine nodes) part × TookLines taken pieces (IsServeLine nodes) s s part
    unlined s = none_stopped taken pieces (IsServeLine nodes) s (served_text 0) (inr (0, refl))

    of_lines : (T U : Type 0) (a b : S) (stop : Stop) → InLines {T = T} taken pieces (IsItemLine nodes) a b (Err stop) → InLines {T = U} taken pieces (IsServeLine nodes) a b (Err (Stopped stop))
    of_lines T U a b stop h = (h.0, (h.1.0, item_too nodes h.1.0 h.1.1, h.1.2), took_also taken pieces (IsItemLine nodes) (IsServeLine nodes) (item_too nodes) a b h.0 h.2)

    pub lined_behind : (T U : Type 0) (a b c : S) (lines : Result T Stop) (result : Result U ServeStop) → InLines taken pieces (IsItemLine nodes) a b lines →
        MatchResult lines (λ done. InLines taken pieces IsServedLine b c result) (λ stop. (result ≡ Err (Stopped stop)) × (c ≡ b)) → InLines taken pieces (IsServeLine nodes) a c result
    lined_behind T U a b c (Ok done) result lines last =
        in_lines_on taken pieces (IsServeLine nodes) a b c result
        (took_also taken pieces (IsItemLine nodes) (IsServeLine nodes) (item_too nodes) a b [] lines)
        (in_lines_also taken pieces IsServedLine (IsServeLine nodes) (served_too nodes) b c result last)
    lined_behind T U a b c (Err stop) result lines last =
        subst (λ (s : S). InLines taken pieces (IsServeLine nodes) a s result) (sym last.1)
        (subst (λ (r : Result U ServeStop). InLines taken pieces (IsServeLine nodes) a b r) (sym last.0) (of_lines T U a b stop lines))
