-- The owners of a lane's bytes after its frames were forgotten.
use Rattle.std.proofs.Common.{◌≡◌, ℕ, zero, suc, ◌-◌, false, List, [], ◌∷◌, length, map, refl, ◌∙◌, arith}
use Rattle.std.specs.Prelude.{slice_get}
use Rattle.std.proofs.lemmas.List.{length-map}
use Rattle.net_model.specs.declared.fact.Fact.{Fact}
use Rattle.net_model.specs.World.{Allocation, Transmission, Owner, HashKey, Frame, Burnt}
use Rattle.net_model.specs.Ownership.{is_frame, is_key, IsOwned, HasRoom}
use Rattle.net_model.specs.Start.{burnt_to}
use Rattle.law_base.proofs.Lists.{burnt_length}
use Rattle.law_invariant.proofs.Starting.{burnt_owned}
use Rattle.law_lives.specs.AtRest.{spent}

spent_frame : (o : Owner) (os : List Owner) (j : ℕ) → is_frame j (slice_get (map spent (o ∷ os)) 0) ≡ false
spent_frame HashKey os j = refl
spent_frame (Frame k) os j = refl
spent_frame Burnt os j = refl

no_frame : (own : List Owner) (x j : ℕ) → is_frame j (slice_get (map spent own) x) ≡ false
no_frame [] x j = refl
no_frame (o ∷ own) zero j = spent_frame o own j
no_frame (o ∷ own) (suc x) j = no_frame own x j

spent_key : (o : Owner) (os : List Owner) → is_key (slice_get (map spent (o ∷ os)) 0) ≡ is_key (slice_get (o ∷ os) 0)
spent_key HashKey os = refl
spent_key (Frame k) os = refl
spent_key Burnt os = refl

same_key : (own : List Owner) (x : ℕ) → is_key (slice_get (map spent own) x) ≡ is_key (slice_get own x)
same_key [] x = refl
same_key (o ∷ own) zero = spent_key o own
same_key (o ∷ own) (suc x) = same_key own x

module _ (facts : List Fact) (own : List Owner) (frames : List Allocation) (got : ℕ) (o : IsOwned facts own frames got) where
  forgotten : IsOwned facts (map spent own) [] got
  forgotten = record {
    frame = λ x j. no_frame own x j;
    key = λ x. same_key own x ∙ o.key x;
    reach = λ some. let r = o.reach some in omega (arith, r, length-map own spent);
  }

  -- Without frames the hash key is owned as before, and all other bytes are burnt.
  pub owned_at_rest : (lease : ℕ) → IsOwned facts (burnt_to lease (map spent own)) [] got
  owned_at_rest lease = burnt_owned facts (map spent own) [] got forgotten (lease - length (map spent own))

module _ (facts : List Fact) (own : List Owner) (unclaimed : List Transmission) (lease got : ℕ) (r : HasRoom facts own unclaimed lease got) where
  pub length_at_rest : length (burnt_to lease (map spent own)) ≡ lease
  length_at_rest = let planned = r.planned in burnt_length lease (map spent own) (omega (arith, planned, length-map own spent))

  pub room_at_rest : HasRoom facts (burnt_to lease (map spent own)) [] lease got
  room_at_rest = record { planned = omega (arith, length_at_rest); leased = r.leased }
