-- The tallies stay right when a fact is learned.
use Rattle.std.proofs.Common.{◌≡◌, ℕ, ◌+◌, ◌-◌, ◌<◌, Bool, true, false, cond, ◌&&◌, List, [], ◌∷◌, length, refl, sym, ◌∙◌, ap, subst, arith, Option, Some, None}
use Rattle.std.specs.Prelude.{count_by}
use Rattle.qkd_base.specs.Name.{Name, name_eq}
use Rattle.net_model.specs.declared.fact.Fact.{Fact}
use Rattle.net_model.specs.declared.fact.Fact.TheVariants.{Key, Chunk, Stored, Open, Joined, Part}
use Rattle.net_model.specs.Table.{name_of, was_handed}
use Rattle.net_model.specs.Streams.{is_chunk_of}
use Rattle.relay_core.proofs.Firsts.{not_true}
use Rattle.relay_core.proofs.Names.{name_eq_from}
use Rattle.end_store.proofs.Counted.{count_is, number_of}
use Rattle.stream_core.specs.declared.tallies.Tally.{Tally}
use Rattle.stream_core.specs.Tallied.{tally_at, IsPut, is_given, IsTally, AreTallies, all_but_last, last_of_facts}
use Rattle.end_store.proofs.Numbers.{none_of, one_of, number-push, last_at}

module _ (facts : List Fact) (f : Fact) (last : last_of_facts facts ≡ Some f) where
  has_some : 0 < length facts
  has_some = by facts last
    where
      by : (fs : List Fact) → last_of_facts fs ≡ Some f → 0 < length fs
      by [] h = cc
      by (g ∷ gs) h = omega arith

  count_last : (t : Fact → Bool) → count_by t facts ≡ count_by t (all_but_last facts) + cond (t f) 1 0
  count_last t =
      let some = has_some in
      let whole = last_at facts f (length facts - 1) (omega arith) last in
      count_is t facts ∙ ap (λ (fs : List Fact). number_of t fs) whole ∙ number-push t (all_but_last facts) f ∙ ap (λ (n : ℕ). n + cond (t f) 1 0) (sym (count_is t (all_but_last facts)))

  module _ (handed : List (Name × ℕ)) where
    same_tally : (s : Name) (t : Tally) → is_chunk_of s f ≡ false → IsTally (all_but_last facts) handed s t → IsTally facts handed s t
    same_tally s t miss h = record {
      chunks = let c = count_last (is_chunk_of s) in let z = none_of (is_chunk_of s f) miss in let k = h.chunks in omega arith;
      given =
          let c = count_last (is_given handed s t.source) in
          let z = none_of (is_given handed s t.source f) (ap (λ (b : Bool). b && was_handed handed (name_of f) t.source) miss) in
          let k = h.given in
          omega arith;
    }

    pub more_tally : (s : Name) (t u : Tally) → is_chunk_of s f ≡ true → IsTally (all_but_last facts) handed s t → u.source ≡ t.source → u.chunks ≡ t.chunks + 1 →
        u.given ≡ t.given + cond (was_handed handed (name_of f) t.source) 1 0 → IsTally facts handed s u
    more_tally s t u hit h source chunks given = record {
      chunks = let c = count_last (is_chunk_of s) in let z = one_of (is_chunk_of s f) hit in let k = h.chunks in omega arith;
      given =
          let c = count_last (is_given handed s t.source) in
          let z : ◌≡◌ {A = ℕ} (cond (is_given handed s t.source f) 1 0) (cond (was_handed handed (name_of f) t.source) 1 0) =
          ap (λ (b : Bool). cond (b && was_handed handed (name_of f) t.source) 1 0) hit in
          let k = h.given in
          let all : u.given ≡ count_by (is_given handed s t.source) facts = omega arith in
          all ∙ ap (λ (y : ℕ). count_by (is_given handed s y) facts) (sym source);
    }

    pub tallies_stay : (ts : List (List ℕ × Tally)) → AreTallies (all_but_last facts) handed ts → ((s : Name) (t : Tally) → tally_at ts s ≡ Some t → is_chunk_of s f ≡ false) → AreTallies facts handed ts
    tallies_stay ts right none = record { right = λ s t h. same_tally s t (none s t h) (right.right s t h) }

    pub tallies_put : (old new : List (List ℕ × Tally)) (stream : Name) (t : Tally) → AreTallies (all_but_last facts) handed old → IsPut old new stream t → IsTally facts handed stream t →
        ((s : Name) → name_eq stream s ≡ false → is_chunk_of s f ≡ false) → AreTallies facts handed new
    tallies_put old new stream t right put own others = record { right = λ s u h. by s u h (name_eq stream s) refl }
      where
        by : (s : Name) (u : Tally) → tally_at new s ≡ Some u → (b : Bool) → name_eq stream s ≡ b → IsTally facts handed s u
        by s u h true e =
            let same = name_eq_from stream s e in
            let is = put.own u (ap (tally_at new) same ∙ h) in
            subst (λ (r : Name). IsTally facts handed r u) same (subst (IsTally facts handed stream) (sym is) own)
        by s u h false e = same_tally s u (others s e) (right.right s u (sym (put.others s e) ∙ h))

-- a chunk belongs to one stream only
pub other_stream : (s r : Name) (f : Fact) → is_chunk_of s f ≡ true → name_eq s r ≡ false → is_chunk_of r f ≡ false
other_stream s r (Chunk name stream index route bytes) hit miss = ap (λ (n : Name). name_eq n r) (name_eq_from stream s hit) ∙ miss
other_stream s r (Key name master slave route bytes) hit miss = refl
other_stream s r (Stored note about route) hit miss = refl
other_stream s r (Open stream source peer size route) hit miss = refl
other_stream s r (Joined note about route) hit miss = refl
other_stream s r (Part name key master slave route bytes) hit miss = refl

-- a stream with a tally differs from a stream without one
pub absent_stream : (ts : List (List ℕ × Tally)) (s r : Name) (t : Tally) → tally_at ts s ≡ None → tally_at ts r ≡ Some t → name_eq s r ≡ false
absent_stream ts s r t absent there = not_true (name_eq s r) (λ e.
    let both : ◌≡◌ {A = Option Tally} None (Some t) = sym absent ∙ ap (tally_at ts) (name_eq_from s r e) ∙ there in
    let u : ⊥ = cc in
    u)

pub not_chunk : (s : Name) (f : Fact) → ((name stream : Name) (index : ℕ) (route bytes : List ℕ) → f ≡ Chunk name stream index route bytes → ⊥) → is_chunk_of s f ≡ false
not_chunk s (Chunk name stream index route bytes) h = absurd (h name stream index route bytes refl)
not_chunk s (Key name master slave route bytes) h = refl
not_chunk s (Stored note about route) h = refl
not_chunk s (Open stream source peer size route) h = refl
not_chunk s (Joined note about route) h = refl
not_chunk s (Part name key master slave route bytes) h = refl
