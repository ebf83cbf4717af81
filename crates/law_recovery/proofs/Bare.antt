-- A checkpoint leaves out only bytes that are zeros since the node doesn't need them any more.
use Rattle.std.proofs.Common.{◌≡◌, ℕ, ◌+◌, true, false, not, ◌&&◌, List, [], ◌∷◌, refl, sym, ◌∙◌, ap, Some, map}
use Rattle.std.specs.Prelude.{slice_get, nat_lt, if◌then◌else◌}
use Rattle.std.specs.List.{AllByRecursion, flat_map}
use Rattle.net_model.specs.declared.fact.Fact.{Fact}
use Rattle.net_model.specs.declared.fact.Fact.TheVariants.{Key, Chunk, Stored, Open, Joined, Part}
use Rattle.net_model.specs.declared.record.Record.{Record}
use Rattle.net_model.specs.declared.record.Record.TheVariants.{Lease, Learned, Acked, Handed, Closed, Bare}
use Rattle.net_model.specs.Table.{is_secret, bytes_of, zeros_for, without_bytes}
use Rattle.net_model.specs.Site.{Site}
use Rattle.net_model.specs.Journal.{block_records, lease_records, fact_record, checkpoint_records}
use Rattle.net_model.specs.View.{View, Port}
use Rattle.net_model.specs.Needed.{is_needed, masked_fact, masked}
use Rattle.net_model.specs.Fold.{view_restarted}
use Rattle.law_base.proofs.Base.{was_not, and_left, and_right, when_false}
use Rattle.law_base.proofs.Lists.{all_both, all_at}
use Rattle.law_recovery.specs.GivesBack.{GivesBack}
use Rattle.law_recovery.proofs.Restarting.{masked_restarts, recovered_masked}

-- The bytes that the record leaves out are those of a secret fact, and they are zeros.
abbrev pub IsTrulyBare : Record → Type 0
IsTrulyBare (Bare f) = (is_secret f ≡ true) × (bytes_of f ≡ zeros_for (bytes_of f))
IsTrulyBare _ = Unit {0}

zeros_are : (f : Fact) → bytes_of (without_bytes f) ≡ zeros_for (bytes_of f)
zeros_are (Key name master slave route bytes) = refl
zeros_are (Chunk name stream index route bytes) = refl
zeros_are (Stored note about route) = refl
zeros_are (Open stream source peer size route) = refl
zeros_are (Joined note about route) = refl
zeros_are (Part name key master slave route bytes) = refl

all_mapped : {A : Type 0} (spelled : A → Record) → ((x : A) → IsTrulyBare (spelled x)) → (xs : List A) → AllByRecursion IsTrulyBare (map spelled xs)
all_mapped spelled each [] = tt
all_mapped spelled each (x ∷ xs) = (each x, all_mapped spelled each xs)

all_flat : (spelled : Port → List Record) → ((p : Port) → AllByRecursion IsTrulyBare (spelled p)) → (ps : List Port) → AllByRecursion IsTrulyBare (flat_map spelled ps)
all_flat spelled each [] = tt
all_flat spelled each (p ∷ ps) = all_both IsTrulyBare (spelled p) (flat_map spelled ps) (each p) (all_flat spelled each ps)

no_block : (link number : ℕ) (bs : List (List ℕ)) → AllByRecursion IsTrulyBare (block_records link number bs)
no_block link number [] = tt
no_block link number (b ∷ bs) = (tt, no_block link (number + 1) bs)

no_lease : (p : Port) → AllByRecursion IsTrulyBare (lease_records p)
no_lease p = elim (nat_lt 8 p.lease) as (λ t. AllByRecursion IsTrulyBare (if t then Lease p.lane p.lease ∷ [] else [])) [ true ↦ (tt, tt) | false ↦ tt ]

module _ (v : View) where
  one_fact : (f : Fact) → masked_fact v f ≡ f → IsTrulyBare (fact_record v f)
  one_fact f same =
      elim (is_secret f && not (is_needed v f)) as (λ t. (is_secret f && not (is_needed v f)) ≡ t → IsTrulyBare (if t then Bare f else Learned f)) [
        | false ↦ λ e. tt
        | true ↦ λ e.
            let unneeded = was_not (is_needed v f) (and_right (is_secret f) (not (is_needed v f)) e) in
            let zeros : without_bytes f ≡ f = sym (when_false (is_needed v f) f (without_bytes f) unneeded) ∙ same in
            (and_left (is_secret f) (not (is_needed v f)) e, ap bytes_of (sym zeros) ∙ zeros_are f)
      ] refl

  all_facts : (fs : List Fact) → map (masked_fact v) fs ≡ fs → AllByRecursion IsTrulyBare (map (fact_record v) fs)
  all_facts [] same = tt
  all_facts (f ∷ fs) same =
      let head : masked_fact v f ≡ f = cc in
      let tail : map (masked_fact v) fs ≡ fs = cc in
      (one_fact f head, all_facts fs tail)

  all_records : map (masked_fact v) v.facts ≡ v.facts → AllByRecursion IsTrulyBare (checkpoint_records v)
  unfolding checkpoint_records
  all_records same =
      let both = all_both IsTrulyBare in
      both _ _ (both _ _ (both _ _ (both _ _ (both _ _ (all_flat (λ (p : Port). block_records p.lane.link 0 p.blocks) (λ p. no_block p.lane.link 0 p.blocks) v.ports)
      (all_flat lease_records no_lease v.ports)) (all_facts v.facts same)) (all_mapped (λ n. Acked n) (λ n. tt) v.acked)) (all_mapped (λ h. Handed h.0 h.1) (λ h. tt) v.handed))
      (all_mapped (λ h. Closed h.0 h.1) (λ h. tt) v.closed)

given_masked : (site : Site) (me : ℕ) (batches : List (List Record)) (v : View) → GivesBack site me batches v → map (masked_fact v) v.facts ≡ v.facts
unfolding masked view_restarted is_needed
given_masked site me batches v h = ap (λ (x : View). x.facts) (sym (masked_restarts v) ∙ ap masked (sym h) ∙ recovered_masked site me batches ∙ h)

pub bare_records : (site : Site) (me : ℕ) (batches : List (List Record)) (v : View) → GivesBack site me batches v → (k : ℕ) (f : Fact) →
    slice_get (checkpoint_records v) k ≡ Some (Bare f) → (is_secret f ≡ true) × (bytes_of f ≡ zeros_for (bytes_of f))
bare_records site me batches v h k f at = all_at IsTrulyBare (checkpoint_records v) k (Bare f) (all_records v (given_masked site me batches v h)) at
