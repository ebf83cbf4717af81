-- The deeds of calls form a log in the order of the calls.
use Rattle.std.proofs.Common.{◌≡◌, ℕ, ◌+◌, List, [], ◌∷◌, map, refl, ◌∙◌, ap, subst}
use Rattle.net_model.specs.BlockOrder.{IsMerge}
use Rattle.shared_objects.proofs.Making.{made_of}
use Rattle.shared_objects.proofs.Mapping.{merge_map}
use Rattle.law_parallel.specs.Logs.{Deed}
use Rattle.law_parallel.specs.Calls.{placed_from}
use Rattle.law_parallel.specs.Beside.{at_its_place, HasLog}

module _ {E P : Type 0} (entry : P → E) (deed : P → Deed) where
  pub record IsLog (place : ℕ) (history : List E) (merge : List (ℕ × P)) : Type 0 where
    pub log : List P
    pub is : merge ≡ placed_from place log
    pub entries : map entry log ≡ history

  pub as_log : (place : ℕ) (history : List E) (merge : List (ℕ × P)) → map (at_its_place entry) merge ≡ placed_from place history → IsLog place history merge
  as_log place [] [] h = record { log = []; is = refl; entries = refl }
  as_log place [] (c ∷ merge) h = cc
  as_log place (e ∷ history) [] h = cc
  as_log place (e ∷ history) (c ∷ merge) h =
      let first : at_its_place entry c ≡ (place, e) = cc in
      let others : map (at_its_place entry) merge ≡ placed_from (place + 1) history = cc in
      let rest = as_log (place + 1) history merge others in
      let more = rest.is in
      let known = rest.entries in
      record { log = c.1 ∷ rest.log; is = λ i. ((first i).0, c.1) ∷ more i; entries = λ i. (first i).1 ∷ known i }

  pub placed_deeds : (place : ℕ) (log : List P) → map (at_its_place deed) (placed_from place log) ≡ placed_from place (map deed log)
  placed_deeds place [] = refl
  placed_deeds place (p ∷ log) = ap (λ (ds : List (ℕ × Deed)). (place, deed p) ∷ ds) (placed_deeds (place + 1) log)

  pub come_together : (kept : List (List (ℕ × P))) (history : List E) → IsMerge (map (map (at_its_place entry)) kept) (placed_from 0 history) → HasLog entry deed kept history
  come_together kept history merged =
      let m = made_of (at_its_place entry) kept (placed_from 0 history) merged in
      let l = as_log 0 history m.merge m.of in
      record {
        log = l.log;
        entries = l.entries;
        deeds = subst (IsMerge (map (map (at_its_place deed)) kept)) (ap (map (at_its_place deed)) l.is ∙ placed_deeds 0 l.log) (merge_map (at_its_place deed) m.is);
      }
