-- The tallies stay right when a chunk is handed out.
use Rattle.std.proofs.Common.{◌≡◌, ℕ, ◌+◌, ◌≤◌, Bool, true, false, ◌&&◌, ◌||◌, List, [], ◌∷◌, ◌++◌, length, refl, sym, ◌∙◌, ap, subst, arith, Option, Some, None}
use Rattle.std.specs.Prelude.{slice_get, count_by, is_some, ◌==◌, if◌then◌else◌}
use Rattle.std.proofs.lemmas.List.Folds.{list_any-append}
use Rattle.std.proofs.lemmas.List.Sums.{count_by-le-length}
use Rattle.qkd_base.specs.Name.{Name, name_eq}
use Rattle.net_model.specs.declared.fact.Fact.{Fact}
use Rattle.net_model.specs.declared.fact.Fact.TheVariants.{Key, Chunk, Stored, Open, Joined, Part}
use Rattle.net_model.specs.Table.{name_of, fact_at, was_handed}
use Rattle.net_model.specs.Streams.{is_chunk_of}
use Rattle.net_model.specs.Fold.{marked}
use Rattle.relay_core.specs.Knowledge.{AreDistinct}
use Rattle.relay_core.proofs.Firsts.{not_true, find_hits}
use Rattle.relay_core.proofs.Names.{name_eq_from, name_eq_same, names_same, eq_same, eq_from, and_left, and_right}
use Rattle.relay_core.proofs.Kept.{IsSomewhere, somewhere}
use Rattle.end_store.proofs.Counted.{count_is}
use Rattle.stream_core.specs.declared.tallies.Tally.{Tally}
use Rattle.stream_core.specs.Tallied.{tally_at, IsPut, is_given, IsTally, AreTallies, chunk_stream}
use Rattle.end_store.proofs.Numbers.{number_same, number_one}

or_none : (a : Bool) → (a || (false || false)) ≡ a
or_none true = refl
or_none false = refl

or_all : (a : Bool) → (a || (true || false)) ≡ true
or_all true = refl
or_all false = refl

and_none : (a : Bool) → (a && false) ≡ false
and_none true = refl
and_none false = refl

chunk_is : (s : Name) (f : Fact) → is_chunk_of s f ≡ true → chunk_stream (Some f) ≡ Some s
chunk_is s (Chunk name stream index route bytes) h = ap Some (name_eq_from stream s h)
chunk_is s (Key name master slave route bytes) h = cc
chunk_is s (Stored note about route) h = cc
chunk_is s (Open stream source peer size route) h = cc
chunk_is s (Joined note about route) h = cc
chunk_is s (Part name key master slave route bytes) h = cc

is_chunk : (s : Name) (f : Fact) → chunk_stream (Some f) ≡ Some s → is_chunk_of s f ≡ true
is_chunk s (Chunk name stream index route bytes) h = let same : stream ≡ s = cc in names_same stream s same
is_chunk s (Key name master slave route bytes) h = cc
is_chunk s (Stored note about route) h = cc
is_chunk s (Open stream source peer size route) h = cc
is_chunk s (Joined note about route) h = cc
is_chunk s (Part name key master slave route bytes) h = cc

pub not_equal : (a b : ℕ) → (a == b) ≡ false → a ≡ b → ⊥
not_equal a b miss e = let t : true ≡ false = sym (eq_same b) ∙ ap (λ (x : ℕ). x == b) (sym e) ∙ miss in let u : ⊥ = cc in u

-- the place of the chunk that has this name
pub record IsChunkAt (facts : List Fact) (n s : Name) : Type 0 where
  pub place : ℕ
  pub fact : Fact
  pub there : slice_get facts place ≡ Some fact
  pub named : name_of fact ≡ n
  pub chunk : is_chunk_of s fact ≡ true

chunk_there : (facts : List Fact) (n s : Name) → chunk_stream (fact_at facts n) ≡ Some s → IsChunkAt facts n s
chunk_there facts n s h = with_place (somewhere (λ f. name_eq (name_of f) n) facts (has (fact_at facts n) h))
  where
    has : (o : Option Fact) → chunk_stream o ≡ Some s → is_some o ≡ true
    has None h = cc
    has (Some f) h = refl

    with_place : IsSomewhere (λ f. name_eq (name_of f) n) facts → IsChunkAt facts n s
    with_place at = record {
      place = at.place;
      fact = at.item;
      there = at.there;
      named = name_eq_from (name_of at.item) n at.passes;
      chunk = is_chunk s at.item (sym (ap chunk_stream at.found) ∙ h);
    }

module _ (facts : List Fact) (handed : List (Name × ℕ)) (n : Name) (x : ℕ) (d : AreDistinct facts) (fresh : was_handed handed n x ≡ false) where
  after : List (Name × ℕ)
  after = handed ++ (n, x) ∷ []

  is_marked : marked handed n x ≡ handed ++ (n, x) ∷ []
  is_marked = ap (λ (b : Bool). if b then handed else handed ++ (n, x) ∷ []) fresh

  was_more : (m : Name) (y : ℕ) → was_handed (handed ++ (n, x) ∷ []) m y ≡ (was_handed handed m y || ((name_eq n m && (x == y)) || false))
  was_more m y = list_any-append (λ h. name_eq h.0 m && (h.1 == y)) handed ((n, x) ∷ [])

  other_fact : (s : Name) (y : ℕ) (f : Fact) → (name_eq n (name_of f) && (x == y)) ≡ false → is_given handed s y f ≡ is_given (handed ++ (n, x) ∷ []) s y f
  other_fact s y f miss =
      sym (ap (λ (b : Bool). is_chunk_of s f && b) (was_more (name_of f) y ∙ ap (λ (b : Bool). was_handed handed (name_of f) y || (b || false)) miss ∙ or_none (was_handed handed (name_of f) y)))

  other_kind : (s : Name) (y : ℕ) (f : Fact) → is_chunk_of s f ≡ false → is_given handed s y f ≡ is_given (handed ++ (n, x) ∷ []) s y f
  other_kind s y f miss =
      ap (λ (b : Bool). b && was_handed handed (name_of f) y) miss ∙ sym (ap (λ (b : Bool). b && was_handed (handed ++ (n, x) ∷ []) (name_of f) y) miss)

  found : (i : ℕ) (f : Fact) → slice_get facts i ≡ Some f → name_of f ≡ n → fact_at facts n ≡ Some f
  found i f there named = same (somewhere (λ g. name_eq (name_of g) n) facts (find_hits (λ g. name_eq (name_of g) n) facts i f there (names_same (name_of f) n named)))
    where
      same : IsSomewhere (λ g. name_eq (name_of g) n) facts → fact_at facts n ≡ Some f
      same at =
          let one : at.place ≡ i = d.apart at.place i n (record { fact = at.item; there = at.there; named = name_eq_from (name_of at.item) n at.passes }) (record { fact = f; there = there; named = named }) in
          at.found ∙ sym at.there ∙ ap (slice_get facts) one ∙ there

  count_same : (s : Name) (y : ℕ) → ((i : ℕ) (f : Fact) → slice_get facts i ≡ Some f → (name_eq n (name_of f) && (x == y)) ≡ true → is_chunk_of s f ≡ false) →
      count_by (is_given handed s y) facts ≡ count_by (is_given (handed ++ (n, x) ∷ []) s y) facts
  count_same s y none =
      count_is (is_given handed s y) facts
      ∙ number_same (is_given handed s y) (is_given (handed ++ (n, x) ∷ []) s y) facts (λ i f there. by i f there (name_eq n (name_of f) && (x == y)) refl)
      ∙ sym (count_is (is_given (handed ++ (n, x) ∷ []) s y) facts)
    where
      by : (i : ℕ) (f : Fact) → slice_get facts i ≡ Some f → (b : Bool) → (name_eq n (name_of f) && (x == y)) ≡ b → is_given handed s y f ≡ is_given (handed ++ (n, x) ∷ []) s y f
      by i f there true e = other_kind s y f (none i f there e)
      by i f there false e = other_fact s y f e

  count_more : (s : Name) (at : IsChunkAt facts n s) → count_by (is_given (handed ++ (n, x) ∷ []) s x) facts ≡ count_by (is_given handed s x) facts + 1
  count_more s at =
      count_is (is_given (handed ++ (n, x) ∷ []) s x) facts
      ∙ number_one (is_given handed s x) (is_given (handed ++ (n, x) ∷ []) s x) facts at.place at.fact at.there was is
      (λ j g there apart. sym (other_fact s x g (and_false (name_eq n (name_of g)) (x == x) (not_true (name_eq n (name_of g)) (λ e. apart (same j g there e))))))
      ∙ ap (λ (k : ℕ). k + 1) (sym (count_is (is_given handed s x) facts))
    where
      and_false : (a b : Bool) → a ≡ false → (a && b) ≡ false
      and_false a b h = ap (λ (c : Bool). c && b) h

      same : (j : ℕ) (g : Fact) → slice_get facts j ≡ Some g → name_eq n (name_of g) ≡ true → j ≡ at.place
      same j g there e = d.apart j at.place n (record { fact = g; there = there; named = sym (name_eq_from n (name_of g) e) }) (record { fact = at.fact; there = at.there; named = at.named })

      was : is_given handed s x at.fact ≡ false
      was = ap (λ (m : Name). is_chunk_of s at.fact && was_handed handed m x) at.named ∙ ap (λ (b : Bool). is_chunk_of s at.fact && b) fresh ∙ and_none (is_chunk_of s at.fact)

      is : is_given (handed ++ (n, x) ∷ []) s x at.fact ≡ true
      is =
          ap (λ (m : Name). is_chunk_of s at.fact && was_handed (handed ++ (n, x) ∷ []) m x) at.named
          ∙ ap (λ (b : Bool). is_chunk_of s at.fact && b)
          (was_more n x ∙ ap (λ (b : Bool). was_handed handed n x || ((b && (x == x)) || false)) (name_eq_same n) ∙ ap (λ (b : Bool). was_handed handed n x || (b || false)) (eq_same x) ∙ or_all (was_handed handed n x))
          ∙ ap (λ (b : Bool). b && true) at.chunk

  kept : (s : Name) (t : Tally) → IsTally facts handed s t → (chunk_stream (fact_at facts n) ≡ Some s → t.source ≡ x → ⊥) → IsTally facts (marked handed n x) s t
  kept s t h other = subst (λ (pairs : List (Name × ℕ)). IsTally facts pairs s t) (sym is_marked) (record {
    chunks = h.chunks;
    given = h.given ∙ count_same s t.source (λ i f there e.
        not_true (is_chunk_of s f) (λ hit.
        let named = name_eq_from n (name_of f) (and_left (name_eq n (name_of f)) (x == t.source) e) in
        other (ap chunk_stream (found i f there (sym named)) ∙ chunk_is s f hit) (sym (eq_from x t.source (and_right (name_eq n (name_of f)) (x == t.source) e)))));
  })

  module _ (old : List (List ℕ × Tally)) (right : AreTallies facts handed old) where
    pub handing_none : chunk_stream (fact_at facts n) ≡ None → AreTallies facts (marked handed n x) old
    handing_none none = record { right = λ s t h. kept s t (right.right s t h) (λ is e. let u : ⊥ = cc in u) }

    pub handing_absent : (stream : Name) → chunk_stream (fact_at facts n) ≡ Some stream → tally_at old stream ≡ None → AreTallies facts (marked handed n x) old
    handing_absent stream of absent = record {
      right = λ s t h. kept s t (right.right s t h) (λ is e.
          let same : stream ≡ s = cc in
          let both : ◌≡◌ {A = Option Tally} None (Some t) = sym absent ∙ ap (tally_at old) same ∙ h in
          let u : ⊥ = cc in
          u);
    }

    pub handing_other : (stream : Name) (t : Tally) → chunk_stream (fact_at facts n) ≡ Some stream → tally_at old stream ≡ Some t → (t.source ≡ x → ⊥) → AreTallies facts (marked handed n x) old
    handing_other stream t of there other = record {
      right = λ s u h. kept s u (right.right s u h) (λ is e.
          let same : stream ≡ s = cc in
          let both : Some t ≡ Some u = sym there ∙ ap (tally_at old) same ∙ h in
          let one : t ≡ u = cc in
          other (ap (λ (v : Tally). v.source) one ∙ e));
    }

    pub handing_fits : (stream : Name) (t : Tally) → chunk_stream (fact_at facts n) ≡ Some stream → tally_at old stream ≡ Some t → t.source ≡ x → t.given + 1 ≤ length facts
    handing_fits stream t of there is =
        let h = right.right stream t there in
        let g = h.given ∙ ap (λ (y : ℕ). count_by (is_given handed stream y) facts) is in
        let m = count_more stream (chunk_there facts n stream of) in
        let w = count_by-le-length (is_given (handed ++ (n, x) ∷ []) stream x) facts in
        omega arith

    pub handing_put : (new : List (List ℕ × Tally)) (stream : Name) (t u : Tally) → chunk_stream (fact_at facts n) ≡ Some stream → tally_at old stream ≡ Some t → t.source ≡ x →
        IsPut old new stream u → u.source ≡ t.source → u.chunks ≡ t.chunks → u.given ≡ t.given + 1 → AreTallies facts (marked handed n x) new
    handing_put new stream t u of there is put source chunks given = record { right = λ s v h. by s v h (name_eq stream s) refl }
      where
        own : IsTally facts (marked handed n x) stream u
        own =
            let h = right.right stream t there in
            subst (λ (pairs : List (Name × ℕ)). IsTally facts pairs stream u) (sym is_marked) (record {
              chunks = chunks ∙ h.chunks;
              given = given ∙ ap (λ (k : ℕ). k + 1) (h.given ∙ ap (λ (y : ℕ). count_by (is_given handed stream y) facts) is)
                  ∙ sym (count_more stream (chunk_there facts n stream of)) ∙ ap (λ (y : ℕ). count_by (is_given (handed ++ (n, x) ∷ []) stream y) facts) (sym is ∙ sym source);
            })

        by : (s : Name) (v : Tally) → tally_at new s ≡ Some v → (b : Bool) → name_eq stream s ≡ b → IsTally facts (marked handed n x) s v
        by s v h true e =
            let same = name_eq_from stream s e in
            let one = put.own v (ap (tally_at new) same ∙ h) in
            subst (λ (r : Name). IsTally facts (marked handed n x) r v) same (subst (IsTally facts (marked handed n x) stream) (sym one) own)
        by s v h false e = kept s v (right.right s v (sym (put.others s e) ∙ h)) (λ at z.
            let same : stream ≡ s = cc in
            let both : true ≡ false = sym (names_same stream s same) ∙ e in
            let w : ⊥ = cc in
            w)

-- handing out a pair that is recorded already, or that is no chunk's, changes no tally

pub handing_twice : (facts : List Fact) (handed : List (Name × ℕ)) (n : Name) (x : ℕ) (old : List (List ℕ × Tally)) → was_handed handed n x ≡ true → AreTallies facts handed old → AreTallies facts (marked handed n x) old
handing_twice facts handed n x old was right =
    subst (λ (hs : List (Name × ℕ)). AreTallies facts hs old) (sym (ap (λ (b : Bool). if b then handed else handed ++ (n, x) ∷ []) was)) right

pub handing_anyway : (facts : List Fact) (handed : List (Name × ℕ)) (n : Name) (x : ℕ) (old : List (List ℕ × Tally)) → AreTallies facts handed old →
    (was_handed handed n x ≡ false → AreTallies facts (marked handed n x) old) → AreTallies facts (marked handed n x) old
handing_anyway facts handed n x old right new = by (was_handed handed n x) refl
  where
    by : (b : Bool) → was_handed handed n x ≡ b → AreTallies facts (marked handed n x) old
    by true e = handing_twice facts handed n x old e right
    by false e = new e

pub no_tallies : (facts : List Fact) (handed : List (Name × ℕ)) (old : List (List ℕ × Tally)) → length old ≡ 0 → AreTallies facts handed old
no_tallies facts handed [] e = record { right = λ s t h. absurd (let u : ⊥ = cc in u) }
no_tallies facts handed (p ∷ ps) e = absurd (omega arith)
