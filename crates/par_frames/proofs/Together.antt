-- The calls of all workers on a lane merge to a log of calls.
use Rattle.std.proofs.Common.{◌≡◌, ℕ, ◌+◌, List, [], ◌∷◌, ◌++◌, length, map, refl, sym, ◌∙◌, ap, ap₂, subst, append_assoc}
use Rattle.std.specs.Prelude.{slice_get}
use Rattle.std.specs.List.{flat_map, AllZip, AllByRecursion}
use Rattle.std.proofs.lemmas.List.{length-append}
use Rattle.net_model.specs.Tick.{Emission}
use Rattle.net_model.specs.BlockOrder.{IsMerge}
use Rattle.lane_sender.specs.Lane.{LaneForm}
use Rattle.par_lanes.specs.declared.ask.LaneAsk.{LaneAsk}
use Rattle.par_lanes.specs.declared.ask.LaneAnswer.{LaneAnswer}
use Rattle.law_base.proofs.Lists.{get_last, get_prefix}
use Rattle.shared_objects.proofs.Holding.{all_of_merge, all_of_parts}
use Rattle.shared_objects.proofs.Mapping.{merge_map}
use Rattle.law_parallel.specs.Beside.{at_its_place}
use Rattle.law_parallel.specs.Calls.{placed_from}
use Rattle.shared_objects.proofs.Making.{made_of}
use Rattle.law_parallel.proofs.SideBySide.{as_log, placed_deeds}
use Rattle.par_lanes.specs.declared.emitted.Emitted.{Emitted}
use Rattle.par_lanes.specs.Calls.{CallAllBy}
use Rattle.par_frames.specs.LaneCalls.{LaneCall, deed_of, kept_of, kept_in, IsSound}
use Rattle.par_frames.specs.Working.{IsOfItsLine, kept, HaveCalled, DidFor, HaveDone}
use Rattle.par_frames.proofs.Merges.{merge_made}
use Rattle.par_frames.proofs.OneWorker.{StandsIn, entry, IsWorkOf, worked}

-- Each entry of a log is at its place.

stands_from : (all rest front : List LaneCall) → all ≡ front ++ rest → AllByRecursion (StandsIn all) (placed_from (length front) rest)
stands_from all [] front is = tt
stands_from all (c ∷ rest) front is =
    let moved : all ≡ (front ++ c ∷ []) ++ rest = is ∙ sym (append_assoc front (c ∷ []) rest) in (
      ap (λ (xs : List LaneCall). slice_get xs (length front)) moved ∙ get_prefix (front ++ c ∷ []) rest (length front) c (get_last front c),
      subst (λ (n : ℕ). AllByRecursion (StandsIn all) (placed_from n rest)) (length-append front (c ∷ [])) (stands_from all rest (front ++ c ∷ []) moved),
    )

kept_placed : (place : ℕ) (log : List LaneCall) → flat_map (λ (c : ℕ × LaneCall). kept_of c.1) (placed_from place log) ≡ kept_in log
kept_placed place [] = refl
kept_placed place (c ∷ log) = ap (λ (es : List Emitted). kept_of c ++ es) (kept_placed (place + 1) log)

module _ {X : Type 0} (side : LaneForm X) where
  record AllWorked (outs : List (List (Emission × Emitted))) (calls : List (List (ℕ × (LaneAsk × LaneAnswer)))) : Type 0 where
    mine : List (List (ℕ × LaneCall))
    are : map (map (at_its_place (entry side))) mine ≡ calls
    each : AllZip (IsWorkOf side) outs mine

  all_worked : (outs : List (List (Emission × Emitted))) (calls : List (List (ℕ × (LaneAsk × LaneAnswer)))) → AllZip (CallAllBy side) outs calls → AllByRecursion (AllByRecursion IsOfItsLine) outs →
      AllWorked outs calls
  all_worked [] [] h of = record { mine = []; are = refl; each = tt }
  all_worked [] (cs ∷ calls) h of = absurd h
  all_worked (xs ∷ outs) [] h of = absurd h
  all_worked (xs ∷ outs) (cs ∷ calls) h of =
      let one = worked side xs cs h.0 of.0 in
      let rest = all_worked outs calls h.1 of.1 in
      record { mine = one.mine ∷ rest.mine; are = ap₂ (λ (ys : List (ℕ × (LaneAsk × LaneAnswer))) (zs : List (List (ℕ × (LaneAsk × LaneAnswer)))). ys ∷ zs) one.are rest.are; each = (one.is, rest.each) }

  all_did : (outs : List (List (Emission × Emitted))) (mine : List (List (ℕ × LaneCall))) → AllZip (IsWorkOf side) outs mine → AllZip DidFor outs (map (map (at_its_place deed_of)) mine)
  all_did [] [] h = tt
  all_did [] (cs ∷ mine) h = absurd h
  all_did (xs ∷ outs) [] h = absurd h
  all_did (xs ∷ outs) (cs ∷ mine) h = (h.0.did, all_did outs mine h.1)

  all_keep : (outs : List (List (Emission × Emitted))) (mine : List (List (ℕ × LaneCall))) → AllZip (IsWorkOf side) outs mine → map (flat_map (λ (c : ℕ × LaneCall). kept_of c.1)) mine ≡ map kept outs
  all_keep [] [] h = refl
  all_keep [] (cs ∷ mine) h = absurd h
  all_keep (xs ∷ outs) [] h = absurd h
  all_keep (xs ∷ outs) (cs ∷ mine) h = ap₂ (λ (es : List Emitted) (ess : List (List Emitted)). es ∷ ess) h.0.keeps (all_keep outs mine h.1)

  all_sound : (log : List LaneCall) (outs : List (List (Emission × Emitted))) (mine : List (List (ℕ × LaneCall))) → AllZip (IsWorkOf side) outs mine →
      AllByRecursion (AllByRecursion (StandsIn log)) mine → AllByRecursion (AllByRecursion (IsSound side.lane side.bytes log)) mine
  all_sound log [] [] h s = tt
  all_sound log [] (cs ∷ mine) h s = absurd h
  all_sound log (xs ∷ outs) [] h s = absurd h
  all_sound log (xs ∷ outs) (cs ∷ mine) h s = (h.0.sound log s.0, all_sound log outs mine h.1 s.1)

  pub done : (outs : List (List (Emission × Emitted))) (calls : List (List (ℕ × (LaneAsk × LaneAnswer)))) (history : List (LaneAsk × LaneAnswer)) → HaveCalled side outs calls history → HaveDone side outs history
  done outs calls history h =
      let a = all_worked outs calls h.by h.each in
      let m = made_of (at_its_place (entry side)) a.mine (placed_from 0 history) (subst (λ (cs : List (List (ℕ × (LaneAsk × LaneAnswer)))). IsMerge cs (placed_from 0 history)) (sym a.are) h.merged) in
      let g = as_log (entry side) deed_of 0 history m.merge m.of in
      let merged : IsMerge a.mine (placed_from 0 g.log) = subst (IsMerge a.mine) g.is m.is in
      record {
        log = g.log;
        entries = g.entries;
        sound = all_of_merge (IsSound side.lane side.bytes g.log) merged (all_sound g.log outs a.mine a.each (all_of_parts (StandsIn g.log) merged (stands_from g.log g.log [] refl)));
        done = map (map (at_its_place deed_of)) a.mine;
        merged = subst (IsMerge (map (map (at_its_place deed_of)) a.mine)) (placed_deeds (entry side) deed_of 0 g.log) (merge_map (at_its_place deed_of) merged);
        each = all_did outs a.mine a.each;
        keep = subst (λ (ess : List (List Emitted)). IsMerge ess (kept_in g.log)) (all_keep outs a.mine a.each)
            (subst (IsMerge (map (flat_map (λ (c : ℕ × LaneCall). kept_of c.1)) a.mine)) (kept_placed 0 g.log) (merge_made (λ (c : ℕ × LaneCall). kept_of c.1) a.mine (placed_from 0 g.log) merged));
      }
