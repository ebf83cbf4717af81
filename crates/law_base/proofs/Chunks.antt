-- After a node learned a fact, the chunks of a stream still have different indexes below the number that its home
-- knows.
use Rattle.std.proofs.Common.{◌≡◌, ℕ, ◌+◌, ◌<◌, ◌≤◌, Bool, true, cond, List, [], ◌∷◌, ◌++◌, refl, sym, ◌∙◌, ap, subst, arith, Option, Some, inl, inr}
use Rattle.std.specs.Prelude.{◌==◌, count_by, if◌then◌else◌}
use Rattle.std.proofs.lemmas.List.Sums.{sum_by-append}
use Rattle.qkd_base.specs.Name.{Name, name_eq}
use Rattle.qkd_base.specs.Route.{first_of}
use Rattle.net_model.specs.declared.fact.Fact.{Fact}
use Rattle.net_model.specs.declared.fact.Fact.TheVariants.{Chunk, Open}
use Rattle.net_model.specs.Table.{name_of, origin, fact_at, facts_of}
use Rattle.net_model.specs.Site.{Site}
use Rattle.net_model.specs.Streams.{is_chunk_of, is_chunk_at}
use Rattle.net_model.specs.World.{Durable}
use Rattle.net_model.specs.Knowledge.{IsOpenBetween, IsEntitled, IsTable, IsStreams, IsKnowledge, chunks_known}
use Rattle.net_model.specs.Doubt.{MayBeMade}
use Rattle.law_base.proofs.Base.{name_eq_from, by_number, and_left}
use Rattle.law_base.proofs.Tables.{facts_of-push, facts_of_one}
use Rattle.law_base.proofs.Knowing.{known_with, known_with_here, AreThere, facts_stay}
use Rattle.law_base.proofs.Learning.{Learns}

-- The stream of the chunk is in the table, and has the same origin as the chunk.
record HasOpen (facts : List Fact) (stream : Name) (f : Fact) : Type 0 where
  open' : Fact
  there : fact_at facts stream ≡ Some open'
  origin' : origin f ≡ origin open'

open_between : (facts : List Fact) (stream : Name) (f : Fact) (nodes : List ℕ) (o : Option Fact) → origin f ≡ first_of nodes → fact_at facts stream ≡ o →
    IsOpenBetween nodes o → HasOpen facts stream f
open_between facts stream f nodes (Some (Open n source peer size route)) at e h =
    record { open' = Open n source peer size route; there = e; origin' = at ∙ h.0 }
open_between facts stream f nodes _ at e h = absurd h

open_of : (s : Site) (facts : List Fact) (stream : Name) (index : ℕ) (f : Fact) → is_chunk_at stream index f ≡ true → IsEntitled s facts f →
    HasOpen facts stream f
open_of s facts stream index (Chunk name of i nodes bytes) h e =
    subst (λ (n : Name). HasOpen facts n (Chunk name of i nodes bytes)) (name_eq_from of stream (and_left (name_eq of stream) (i == index) h))
    (open_between facts of (Chunk name of i nodes bytes) nodes (fact_at facts of) refl refl e)
open_of s facts stream index _ h e = cc

same_origin : (facts : List Fact) (stream : Name) (f g : Fact) → HasOpen facts stream f → HasOpen facts stream g → origin f ≡ origin g
same_origin facts stream f g x y =
    let same : x.open' ≡ y.open' = cc in
    x.origin' ∙ ap origin same ∙ sym y.origin'

is_of : (stream : Name) (index : ℕ) (f : Fact) → is_chunk_at stream index f ≡ true → is_chunk_of stream f ≡ true
is_of stream index (Chunk name of i nodes bytes) h = and_left (name_eq of stream) (i == index) h
is_of stream index _ h = cc

-- One more known name raises the count of a stream's chunks exactly if it names one of them.
count_push : (facts : List Fact) (ns : List Name) (n : Name) (f : Fact) (stream : Name) → fact_at facts n ≡ Some f →
    chunks_known facts (ns ++ n ∷ []) stream ≡ chunks_known facts ns stream + cond (is_chunk_of stream f) 1 0
count_push facts ns n f stream h =
    let split : chunks_known facts (ns ++ n ∷ []) stream ≡ count_by (is_chunk_of stream) (facts_of facts ns ++ f ∷ []) =
    ap (count_by (is_chunk_of stream)) (facts_of-push facts ns n ∙ ap (λ (fs : List Fact). facts_of facts ns ++ fs) (facts_of_one facts n f h)) in
    let sum : count_by (is_chunk_of stream) (facts_of facts ns ++ f ∷ []) ≡ chunks_known facts ns stream + count_by (is_chunk_of stream) (f ∷ []) =
    sum_by-append (λ (x : Fact). cond (is_chunk_of stream x) 1 0) (facts_of facts ns) (f ∷ []) in
    let one : count_by (is_chunk_of stream) (f ∷ []) ≡ cond (is_chunk_of stream f) 1 0 = omega arith in
    omega (arith, split, sum, one)

module _ (s : Site) (d : Durable) (v : ℕ) (f : Fact) (facts : List Fact) (l : Learns s d v f facts)
    (table : IsTable s d.facts d.known) (knowledge : IsKnowledge d.facts d.known) (streams : IsStreams d.facts d.known) where
  abbrev known' : ℕ → List Name
  known' = known_with d.known v (name_of f)

  known_there : (u : ℕ) → AreThere d.facts (d.known u)
  known_there u n h = let x = knowledge.each u n h in (x.fact, x.there)

  counts_stay : (u : ℕ) (stream : Name) → chunks_known facts (d.known u) stream ≡ chunks_known d.facts (d.known u) stream
  counts_stay u stream = ap (count_by (is_chunk_of stream)) (facts_stay d.facts facts l.grows (d.known u) (known_there u))

  count_here : (stream : Name) → chunks_known facts (known' v) stream ≡ chunks_known d.facts (d.known v) stream + cond (is_chunk_of stream f) 1 0
  count_here stream =
      ap (λ (ns : List Name). chunks_known facts ns stream) (known_with_here d.known v (name_of f)) ∙
      count_push facts (d.known v) (name_of f) f stream l.there ∙
      ap (λ (k : ℕ). k + cond (is_chunk_of stream f) 1 0) (counts_stay v stream)

  counts_grow : (u : ℕ) (stream : Name) → chunks_known d.facts (d.known u) stream ≤ chunks_known facts (known' u) stream
  counts_grow u stream = by_number (λ k t. chunks_known d.facts (d.known k) stream ≤ chunks_known facts (if t then d.known v ++ name_of f ∷ [] else d.known k) stream) v
      (let e = count_push facts (d.known v) (name_of f) f stream l.there in let e2 = counts_stay v stream in omega (arith, e, e2))
      (λ k ne. let e = counts_stay k stream in omega (arith, e)) u

  -- Every older chunk of the stream has a smaller index.
  no_second : (m : Name) (g : Fact) (stream : Name) (index : ℕ) → fact_at d.facts m ≡ Some g → is_chunk_at stream index g ≡ true →
      is_chunk_at stream index f ≡ true → MayBeMade s d.facts d.known d.handed v f → ⊥
  no_second m g stream index old at at' mb =
      let x = table m g old in
      let home : m.node ≡ v =
      x.maker ∙ same_origin d.facts stream g f (open_of s d.facts stream index g at x.entitled) (open_of s d.facts stream index f at' mb.entitled) ∙ mb.starts in
      let below = subst (λ (u : ℕ). index < chunks_known d.facts (d.known u) stream) home (streams.below m g stream index old at) in
      let next = mb.next stream index at' in
      omega (arith, below, next)

  pub learned_streams : IsStreams facts known'
  learned_streams =
      record {
        differ = λ n m g h stream index at at' is is'. elim (l.cases n g at) [
          | inl old ↦ elim (l.cases m h at') [
            | inl old' ↦ streams.differ n m g h stream index old old' is is'
            | inr x' ↦ absurd (no_second n g stream index old is (ap (is_chunk_at stream index) (sym x'.same) ∙ is') x'.made)
          ]
          | inr x ↦ elim (l.cases m h at') [
            | inl old' ↦ absurd (no_second m h stream index old' is' (ap (is_chunk_at stream index) (sym x.same) ∙ is) x.made)
            | inr x' ↦ x.name ∙ sym x'.name
          ]
        ];
        below = λ n g stream index at is. elim (l.cases n g at) [
          | inl old ↦ let a = streams.below n g stream index old is in let b = counts_grow n.node stream in omega (arith, a, b)
          | inr x ↦
              let is_new : is_chunk_at stream index f ≡ true = ap (is_chunk_at stream index) (sym x.same) ∙ is in
              let next = x.made.next stream index is_new in
              let one : cond {A = ℕ} (is_chunk_of stream f) 1 0 ≡ 1 = ap (λ (t : Bool). cond t 1 0) (is_of stream index f is_new) in
              let home : n.node ≡ v = ap (λ (y : Name). y.node) x.name ∙ x.made.mine in
              let here = count_here stream in
              subst (λ (u : ℕ). index < chunks_known facts (known' u) stream) (sym home) (omega (arith, next, one, here))
        ];
      }
