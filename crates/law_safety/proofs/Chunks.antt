-- The bytes of a chunk that is handed out are those of the table.
use Rattle.std.proofs.Common.{not, ◌≡◌, ◌≢◌, ℕ, ◌<◌, Bool, true, false, ◌&&◌, List, length, refl, sym, ◌∙◌, ap, subst, arith, Option, Some}
use Rattle.std.specs.Prelude.{◌==◌, if◌then◌else◌}
use Rattle.qkd_base.specs.Name.{Name, name_eq}
use Rattle.qkd_base.specs.Route.{first_of, last_of}
use Rattle.qkd_base.specs.declared.lane.Lane.{Lane}
use Rattle.net_model.specs.declared.fact.Fact.{Fact}
use Rattle.net_model.specs.declared.fact.Fact.TheVariants.{Chunk, Open}
use Rattle.net_model.specs.Facts.{IsWellFormedFact}
use Rattle.net_model.specs.Table.{name_of, bytes_of, fact_at, was_handed, stream_end}
use Rattle.net_model.specs.Site.{Site}
use Rattle.net_model.specs.World.{Durable, Allocation, Transmission}
use Rattle.net_model.specs.Knowledge.{IsOpenBetween, IsPair}
use Rattle.net_model.specs.Handings.{is_single}
use Rattle.net_model.specs.Invariant.{Invariant}
use Rattle.net_model.specs.Premises.{IsSite}
use Rattle.net_model.specs.Streams.{is_chunk_at}
use Rattle.net_model.specs.View.{View}
use Rattle.net_model.specs.Needed.{has_it, is_needed}
use Rattle.law_base.proofs.Base.{name_eq_from, eq_from, and_left, and_right}
use Rattle.law_base.proofs.Tables.{found_name}
use Rattle.law_base.proofs.Masked.{masked_same, place_blind}
use Rattle.law_base.proofs.Seen.{Sees, IsSeen, seen_needed, bare_there}
use Rattle.law_invariant.proofs.Streams.{IsStream}
use Rattle.law_safety.proofs.Bytes.{HasTrueBytes, one_true, needed_first, needed_last, unhanded}

-- The fact is the chunk of a stream at an index.
pub record IsChunk (stream : Name) (index : ℕ) (f : Fact) : Type 0 where
  pub name : Name
  pub nodes : List ℕ
  pub bytes : List ℕ
  pub is : f ≡ Chunk name stream index nodes bytes

pub chunk_is : (stream : Name) (index : ℕ) (f : Fact) → is_chunk_at stream index f ≡ true → IsChunk stream index f
chunk_is stream index (Chunk name stream' index' nodes bytes) h =
    let a : stream' ≡ stream = name_eq_from stream' stream (and_left (name_eq stream' stream) (index' == index) h) in
    let b : index' ≡ index = eq_from index' index (and_right (name_eq stream' stream) (index' == index) h) in
    record { name = name; nodes = nodes; bytes = bytes; is = ap (λ (x : Name). Chunk name x index' nodes bytes) a ∙ ap (λ (x : ℕ). Chunk name stream x nodes bytes) b }
chunk_is stream index _ h = cc

module _ (s : Site) (d : Durable) (frames : Lane → List Allocation) (unclaimed : Lane → List Transmission) (inv : Invariant s d frames unclaimed) (see bare : View)
    (h : Sees s d see bare) where
  -- The chunk is needed until the application that asks for it, which is at home here, has got it.
  chunk_needed : IsSite s → (stream : Name) (source peer size index caller : ℕ) (nodes : List ℕ) → IsStream s d see.me stream source peer size nodes → (g : Fact) →
      IsSeen d see.me bare g → (x : Fact) → fact_at d.facts (name_of x) ≡ Some x → IsChunk stream index x → s.home caller ≡ see.me →
      ((caller == source) ≡ false → caller ≡ peer) → was_handed see.handed (name_of x) caller ≡ false → is_needed bare x ≡ true
  chunk_needed site stream source peer size index caller nodes st g seen x there c home other free =
      subst (λ (y : Fact). is_needed bare y ≡ true) (sym c.is) (elim (caller == source) as (λ t. (caller == source) ≡ t → is_needed bare (Chunk c.name stream index c.nodes c.bytes) ≡ true) [
        | true ↦ λ e.
            let same : caller ≡ source = eq_from caller source e in
            needed_first s d frames unclaimed inv see bare h f (between.0 ∙ pair.from ∙ ap s.home (sym same) ∙ home)
            (ap (λ (o : Option ℕ). not (has_it bare c.name o)) (ends true) ∙ ap (λ (u : ℕ). not (was_handed bare.handed c.name u)) (sym same) ∙ open')
        | false ↦ λ e.
            let same : caller ≡ peer = other e in
            let at_peer : s.home peer ≡ see.me = ap s.home (sym same) ∙ home in
            let away : first_of c.nodes ≢ see.me = λ y. (site.pairs source peer pair.allowed).apart (sym (between.0 ∙ pair.from) ∙ y ∙ sym at_peer) in
            needed_last s d frames unclaimed inv see bare h f away (between.1 ∙ pair.to ∙ at_peer)
            (ap (λ (o : Option ℕ). not (has_it bare c.name o)) (ends false) ∙ ap (λ (u : ℕ). not (was_handed bare.handed c.name u)) (sym same) ∙ open')
      ] refl)
    where
      f : Fact
      f = Chunk c.name stream index c.nodes c.bytes

      pair : IsPair s source peer nodes
      pair = st.fact.entitled

      named : name_of x ≡ c.name
      named = ap name_of c.is

      between : (first_of c.nodes ≡ first_of nodes) × (last_of c.nodes ≡ last_of nodes)
      between = subst (IsOpenBetween c.nodes) st.there (inv.table c.name f (sym (ap (fact_at d.facts) named) ∙ there ∙ ap Some c.is)).entitled

      ends : (at_first : Bool) → stream_end at_first (fact_at bare.facts stream) ≡ Some (if at_first then source else peer)
      ends at_first = ap (stream_end at_first) (bare_there s d see bare h stream (Open stream source peer size nodes) st.there st.knows)

      open' : not (was_handed bare.handed c.name caller) ≡ true
      open' = ap (λ (y : Name). not (was_handed bare.handed y caller)) (sym named) ∙ unhanded s d frames unclaimed inv see bare h (name_of x) caller free

  -- The chunk that the manager sees has the table's bytes.
  pub record IsTrueChunk (g : Fact) (caller : ℕ) : Type 0 where
    pub true' : HasTrueBytes d.facts (name_of g) caller (bytes_of g)
    pub some : 0 < length (bytes_of g)

  pub true_chunk : IsSite s → (stream : Name) (source peer size index caller : ℕ) (nodes : List ℕ) → IsStream s d see.me stream source peer size nodes →
      (g : Fact) → is_chunk_at stream index g ≡ true → IsSeen d see.me bare g → s.home caller ≡ see.me → ((caller == source) ≡ false → caller ≡ peer) →
      was_handed see.handed (name_of g) caller ≡ false → IsTrueChunk g caller
  true_chunk site stream source peer size index caller nodes st g at seen home other free =
      let x : Fact = seen.fact in
      let passes : is_chunk_at stream index x ≡ true = sym (masked_same (is_chunk_at stream index) (place_blind stream index) bare x) ∙ sym (ap (is_chunk_at stream index) seen.is) ∙ at in
      let named : name_of x ≡ name_of g = found_name d.facts (name_of g) x seen.there in
      let there : fact_at d.facts (name_of x) ≡ Some x = ap (fact_at d.facts) named ∙ seen.there in
      let c = chunk_is stream index x passes in
      let needs = chunk_needed site stream source peer size index caller nodes st g seen x there c home other (ap (λ (n : Name). was_handed see.handed n caller) named ∙ free) in
      let same : g ≡ x = seen_needed s d see bare h g seen needs in
      record {
        true' = one_true d.facts (name_of g) caller g inv.groups (seen.there ∙ ap Some (sym same)) (ap is_single (same ∙ c.is));
        some = subst (λ (y : Fact). 0 < length (bytes_of y)) (sym same) (long x c (inv.table (name_of x) x there).formed);
      }
    where
      long : (x : Fact) → IsChunk stream index x → IsWellFormedFact x → 0 < length (bytes_of x)
      long x c formed =
          let size' = subst IsWellFormedFact c.is formed in
          subst (λ (y : Fact). 0 < length (bytes_of y)) (sym c.is) (omega (arith, size'.2.0))
