-- A run whose lines were kept, and of which the asked ones were written.
use Rattle.std.proofs.Common.{◌≡◌, ℕ, List, [], ◌++◌, Some, refl, ap, subst, inl, inr}
use Rattle.std.specs.Prelude.{◌⊎◌, Option, Result, Ok, Err}
use Rattle.std.specs.List.{All}
use Rattle.run_model.specs.Headline as headline
use Rattle.run_model.specs.Headline.{Given}
use Rattle.run_lines.specs.Reporting.{IsItemLine, InLines}
use Rattle.run_lines.specs.declared.stop.Stop.{Stop}
use Rattle.run_lines.specs.declared.stop.Stop.TheVariants as stops
use Rattle.asked_lines.specs.Telling.{text_of, ToldAsked}
use Rattle.net_world.specs.Running.{ended, WasLeft}
use Rattle.net_world.specs.declared.bench.Bench.{Bench}
use Rattle.qkd_network.specs.Quiet.{given_lines, IsQuiet}

abbrev kept_text : List (List ℕ) × ℕ → Option (List ℕ)
kept_text k = Some (text_of k.0)

abbrev kept_pieces : List (List ℕ) × ℕ → Option (List (List ℕ))
kept_pieces k = Some k.0

same_lines : (kept lines : List (List ℕ)) → Some kept ≡ Some lines → lines ≡ kept
same_lines kept lines e = cc

-- all that was kept are lines of items
each_kept : {T E : Type 0} (nodes : List (List ℕ)) (kept : List (List ℕ) × ℕ) (run : Result T E) → InLines kept_text kept_pieces (IsItemLine nodes) ([], 0) kept run → All (IsItemLine nodes) kept.0
each_kept nodes kept (Ok done) h = subst (All (IsItemLine nodes)) (same_lines kept.0 h.lines h.pieces_are) h.each
each_kept nodes kept (Err stop) h = subst (All (IsItemLine nodes)) (same_lines kept.0 h.2.lines h.2.pieces_are) h.2.each

pub quietly : {K Q E X W : Type 0} (given back : Bench K Q E X) (taken : W → Option (List ℕ)) (pieces : W → Option (List (List ℕ))) (Ran : Given → headline.Stop → Type 0)
    (nodes : List (List ℕ)) (kept : List (List ℕ) × ℕ) (before after : W) (run call : Result (Unit {0}) Stop) →
    WasLeft given back ([], 0) kept run ⊎ Ran (given_lines kept.0) (ended run) →
    InLines kept_text kept_pieces (IsItemLine nodes) ([], 0) kept run →
    (kept.0 ≡ [] → after ≡ before) → (kept.0 ≡ [] → run ≡ Err stops.Memory → call ≡ Err stops.Memory) → ToldAsked taken pieces nodes kept.0 before after run call →
    WasLeft given back before after call ⊎ IsQuiet taken pieces Ran nodes before after (ended call)
quietly given back taken pieces Ran nodes kept before after run call (inl l) lined untouched wanting told =
    let none : kept.0 ≡ [] = ap (λ (k : List (List ℕ) × ℕ). k.0) l.sink in
    inl (record { wanting = wanting none l.wanting; bench = l.bench; sink = untouched none })
quietly given back taken pieces Ran nodes kept before after run call (inr ran) lined untouched wanting told =
    inr (record { lines = kept.0; each = each_kept nodes kept run lined; run = run; ran = ran; call = call; ends = refl; told = told })
