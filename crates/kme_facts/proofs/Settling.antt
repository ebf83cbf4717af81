-- How bytes become zeros, step by step.
use Rattle.std.proofs.Common.{◌≡◌, ℕ, zero, suc, ◌+◌, ◌<◌, ◌≤◌, Bool, true, false, List, [], ◌∷◌, length, refl, sym, ◌∙◌, ap, subst, arith, Option, Some, None, ◌⊎◌, inl, inr, map}
use Rattle.std.specs.Prelude.{slice_get, if◌then◌else◌, IfSome}
use Rattle.qkd_base.specs.Name.{Name, name_eq}
use Rattle.net_model.specs.declared.fact.Fact.{Fact}
use Rattle.net_model.specs.declared.fact.Fact.TheVariants.{Key, Chunk, Stored, Open, Joined, Part}
use Rattle.net_model.specs.Table.{name_of, fact_at, without_bytes}
use Rattle.net_model.specs.View.{View}
use Rattle.net_model.specs.Needed.{is_needed, masked, masked_fact}
use Rattle.law_base.proofs.Masked.{IsBlind, name_blind}
use Rattle.law_base.specs.Touched.{IsAlike}
use Rattle.law_base.proofs.Blind.{shapes, shape_blind, needed_alike, masked_shapes, masked_fact_alike}
use Rattle.relay_core.specs.declared.group.Group.{Group}
use Rattle.relay_core.specs.declared.group.Group.TheVariants.{Named, PartsOf, ChunksOf}
use Rattle.relay_core.specs.Firsts.{IsFirstFrom, IsNoneFrom}
use Rattle.relay_core.specs.Index.{belongs}
use Rattle.relay_core.specs.Knowledge.{Knowledge, forgotten}
use Rattle.relay_core.proofs.Forgotten.{belongs_stays}
use Rattle.end_store.specs.Waiting.{Ends}
use Rattle.end_store.specs.Pooled.{ends_view}
use Rattle.stream_core.specs.Kept.{StreamEnds}
use Rattle.kme_facts.specs.Needs.{kept_view, needs_at}
use Rattle.kme_facts.specs.Settled.{IsSettled, AreSettled, LetsGo, opened_by, key_of, IsLearnedSettled, IsToldSettled, IsGivenSettled}
use Rattle.kme_facts.proofs.Finding.{sides}

abbrev pub facts_in : StreamEnds → List Fact
facts_in s = s.ends.known.facts

-- no step, and several steps in order

pub lets_nothing : (s : StreamEnds) → LetsGo s s
lets_nothing s = record { same = refl; still = λ p h. h; facts_spare = refl; acked_spare = refl; handed_spare = refl; closed_spare = refl }

pub lets_both : (a b c : StreamEnds) → LetsGo a b → LetsGo b c → LetsGo a c
lets_both a b c f g = record {
  same = g.same ∙ f.same;
  still = λ p h. g.still p (f.still p h);
  facts_spare = g.facts_spare ∙ f.facts_spare;
  acked_spare = g.acked_spare ∙ f.acked_spare;
  handed_spare = g.handed_spare ∙ f.handed_spare;
  closed_spare = g.closed_spare ∙ f.closed_spare;
}

-- parts of the state that a step doesn't change

pub me_stays : (a b : StreamEnds) → LetsGo a b → b.ends.known.me ≡ a.ends.known.me
unfolding masked
me_stays a b h = ap (λ (v : View). v.me) h.same

pub acked_stays : (a b : StreamEnds) → LetsGo a b → b.ends.known.acked ≡ a.ends.known.acked
unfolding masked
acked_stays a b h = ap (λ (v : View). v.acked) h.same

pub handed_stays : (a b : StreamEnds) → LetsGo a b → b.ends.handed ≡ a.ends.handed
unfolding masked
handed_stays a b h = ap (λ (v : View). v.handed) h.same

pub shapes_stay : (a b : StreamEnds) → LetsGo a b → shapes (facts_in b) ≡ shapes (facts_in a)
unfolding masked
shapes_stay a b h = sym (masked_shapes (kept_view b) (facts_in b)) ∙ ap (λ (v : View). shapes v.facts) h.same ∙ masked_shapes (kept_view a) (facts_in a)

length_shapes : (xs : List Fact) → length (shapes xs) ≡ length xs
length_shapes [] = refl
length_shapes (x ∷ xs) = let e = length_shapes xs in omega arith

pub length_stays : (a b : StreamEnds) → LetsGo a b → length (facts_in b) ≡ length (facts_in a)
length_stays a b h = sym (length_shapes (facts_in b)) ∙ ap (λ (fs : List Fact). length fs) (shapes_stay a b h) ∙ length_shapes (facts_in a)

-- the earlier fact at a place, which differs at most in its bytes

pub record StoodAt (xs : List Fact) (i : ℕ) (f : Fact) : Type 0 where
  pub old : Fact
  pub there : slice_get xs i ≡ Some old
  pub shape : without_bytes f ≡ without_bytes old

pub stood : (xs ys : List Fact) (i : ℕ) (f : Fact) → shapes ys ≡ shapes xs → slice_get ys i ≡ Some f → StoodAt xs i f
stood [] [] i f e h = cc
stood [] (y ∷ ys) i f e h = cc
stood (x ∷ xs) [] i f e h = cc
stood (x ∷ xs) (y ∷ ys) zero f e h =
    let is : y ≡ f = cc in
    let head : without_bytes y ≡ without_bytes x = cc in
    record { old = x; there = refl; shape = ap without_bytes (sym is) ∙ head }
stood (x ∷ xs) (y ∷ ys) (suc i) f e h =
    let tail : shapes ys ≡ shapes xs = cc in
    let at = stood xs ys i f tail h in
    record { old = at.old; there = at.there; shape = at.shape }

pub blind_same : {A : Type 0} (q : Fact → A) → IsBlind q → (f g : Fact) → without_bytes f ≡ without_bytes g → q f ≡ q g
blind_same q blind f g e = sym (blind f) ∙ ap q e ∙ blind g

-- overwriting one fact

forgotten_shapes : (fs : List Fact) (p : ℕ) → shapes (forgotten fs p) ≡ shapes fs
forgotten_shapes [] p = refl
forgotten_shapes (f ∷ fs) zero = ap (λ (g : Fact). g ∷ shapes fs) (shape_blind f)
forgotten_shapes (f ∷ fs) (suc p) = ap (λ (gs : List Fact). without_bytes f ∷ gs) (forgotten_shapes fs p)

zeros_settled : (v : View) (f : Fact) → masked_fact v (without_bytes f) ≡ without_bytes f
zeros_settled v f = elim (is_needed v (without_bytes f)) as (λ b. (if b then without_bytes f else without_bytes (without_bytes f)) ≡ without_bytes f) [ true ↦ refl | false ↦ shape_blind f ]

unneeded_zeros : (v : View) (f : Fact) → is_needed v f ≡ false → masked_fact v (without_bytes f) ≡ masked_fact v f
unneeded_zeros v f h = zeros_settled v f ∙ sym (ap (λ (b : Bool). if b then f else without_bytes f) h)

forgotten_masked : (v : View) (fs : List Fact) (p : ℕ) → needs_at v (slice_get fs p) ≡ false → map (masked_fact v) (forgotten fs p) ≡ map (masked_fact v) fs
forgotten_masked v [] p h = refl
forgotten_masked v (f ∷ fs) zero h = ap (λ (g : Fact). g ∷ map (masked_fact v) fs) (unneeded_zeros v f h)
forgotten_masked v (f ∷ fs) (suc p) h = ap (λ (gs : List Fact). masked_fact v f ∷ gs) (forgotten_masked v fs p h)

pub alike_masked : (a b : View) → IsAlike a b → (fs : List Fact) → map (masked_fact a) fs ≡ map (masked_fact b) fs
alike_masked a b h [] = refl
alike_masked a b h (f ∷ fs) = let one = masked_fact_alike a b f h in let rest = alike_masked a b h fs in λ i. one i ∷ rest i

settled_forgotten : (a b : View) → IsAlike b a → (fs : List Fact) (p i : ℕ) → IfSome (slice_get fs i) (λ f. masked_fact a f ≡ f) → IfSome (slice_get (forgotten fs p) i) (λ f. masked_fact b f ≡ f)
settled_forgotten a b alike [] p i h = h
settled_forgotten a b alike (f ∷ fs) zero zero h = zeros_settled b f
settled_forgotten a b alike (f ∷ fs) zero (suc i) h = settled_alike (slice_get fs i) h
  where
    settled_alike : (o : Option Fact) → IfSome o (λ g. masked_fact a g ≡ g) → IfSome o (λ g. masked_fact b g ≡ g)
    settled_alike None k = k
    settled_alike (Some g) k = masked_fact_alike b a g alike ∙ k
settled_forgotten a b alike (f ∷ fs) (suc p) zero h = masked_fact_alike b a f alike ∙ h
settled_forgotten a b alike (f ∷ fs) (suc p) (suc i) h = settled_forgotten a b alike fs p i h

settled_there : (v : View) (fs : List Fact) (p : ℕ) → IfSome (slice_get (forgotten fs p) p) (λ f. masked_fact v f ≡ f)
settled_there v [] p = tt
settled_there v (f ∷ fs) zero = zeros_settled v f
settled_there v (f ∷ fs) (suc p) = settled_there v fs p

-- the other lists, and the room that is left
pub record StaysBeside (old new : StreamEnds) : Type 0 where
  pub me : new.ends.known.me ≡ old.ends.known.me
  pub acked : new.ends.known.acked ≡ old.ends.known.acked
  pub handed : new.ends.handed ≡ old.ends.handed
  pub closed : new.closed ≡ old.closed
  pub facts_spare : new.ends.known.facts_spare ≡ old.ends.known.facts_spare
  pub acked_spare : new.ends.known.acked_spare ≡ old.ends.known.acked_spare
  pub handed_spare : new.ends.handed_spare ≡ old.ends.handed_spare
  pub closed_spare : new.closed_spare ≡ old.closed_spare

module _ (old new : StreamEnds) (place : ℕ) (facts : facts_in new ≡ forgotten (facts_in old) place) (beside : StaysBeside old new) where
  forgets_alike : IsAlike (kept_view new) (kept_view old)
  forgets_alike = record { me = beside.me; acked = beside.acked; handed = beside.handed; facts = ap shapes facts ∙ forgotten_shapes (facts_in old) place }

  masked_same : needs_at (kept_view old) (slice_get (facts_in old) place) ≡ false → masked (kept_view new) ≡ masked (kept_view old)
  unfolding masked
  masked_same h =
      let me = beside.me in
      let acked = beside.acked in
      let handed = beside.handed in
      let closed = beside.closed in
      let fs = ap (map (masked_fact (kept_view new))) facts ∙ alike_masked (kept_view new) (kept_view old) forgets_alike (forgotten (facts_in old) place) ∙ forgotten_masked (kept_view old) (facts_in old) place h in
      λ i. record (kept_view old) { me = me i; facts = fs i; acked = acked i; handed = handed i; closed = closed i }

  pub forgets : needs_at (kept_view old) (slice_get (facts_in old) place) ≡ false → LetsGo old new
  forgets h = record {
    same = masked_same h;
    still = λ p settled. subst (λ (fs : List Fact). IfSome (slice_get fs p) (λ f. masked_fact (kept_view new) f ≡ f)) (sym facts)
        (settled_forgotten (kept_view old) (kept_view new) forgets_alike (facts_in old) place p settled);
    facts_spare = beside.facts_spare;
    acked_spare = beside.acked_spare;
    handed_spare = beside.handed_spare;
    closed_spare = beside.closed_spare;
  }

  pub forgets_settled : IsSettled new place
  forgets_settled = subst (λ (fs : List Fact). IfSome (slice_get fs place) (λ f. masked_fact (kept_view new) f ≡ f)) (sym facts) (settled_there (kept_view new) (facts_in old) place)

pub needed_settled : (s : StreamEnds) (place : ℕ) → needs_at (kept_view s) (slice_get (facts_in s) place) ≡ true → IsSettled s place
needed_settled s place h = by (slice_get (facts_in s) place) h
  where
    by : (o : Option Fact) → needs_at (kept_view s) o ≡ true → IfSome o (λ f. masked_fact (kept_view s) f ≡ f)
    by None k = cc
    by (Some f) k = ap (λ (b : Bool). if b then f else without_bytes f) k

-- overwriting the facts of a group

module _ (s : StreamEnds) (g : Group) where
  abbrev pub in_group : Fact → Bool
  in_group = belongs s.ends.known.me s.ends.known.acked g

  -- each fact of the group before a place is settled
  pub record AreSettledBelow (from : ℕ) : Type 0 where
    pub each : (p : ℕ) (f : Fact) → p < from → slice_get (facts_in s) p ≡ Some f → in_group f ≡ true → IsSettled s p

  pub below_start : AreSettledBelow 0
  below_start = record { each = λ p f lt at h. absurd (omega arith) }

  pub below_all : (from : ℕ) → AreSettledBelow from → IsNoneFrom in_group (facts_in s) from → AreSettled s g
  below_all from below none = record {
    each = λ p f at h. elim (sides p from) [
      | inl lt ↦ below.each p f lt at h
      | inr behind ↦ let c : true ≡ false = sym h ∙ none.none p f (low p behind) at in absurd (let u : ⊥ = cc in u)
    ];
  }
    where
      low : (p : ℕ) → (p ≡ from) ⊎ (from < p) → from ≤ p
      low p (inl e) = omega arith
      low p (inr lt) = omega arith

  pub below_end : (from : ℕ) → AreSettledBelow from → length (facts_in s) ≤ from → AreSettled s g
  below_end from below le = record { each = λ p f at h. below.each p f (let lt = within (facts_in s) p f at in omega arith) at h }
    where
      within : (xs : List Fact) (i : ℕ) (x : Fact) → slice_get xs i ≡ Some x → i < length xs
      within [] i x h = cc
      within (y ∷ ys) zero x h = omega arith
      within (y ∷ ys) (suc i) x h = let lt = within ys i x h in omega arith

-- a settled fact stays settled

pub group_stays : (a b : StreamEnds) (g : Group) → LetsGo a b → (f : Fact) → in_group b g f ≡ in_group a g f
group_stays a b g h f = let me = me_stays a b h in let acked = acked_stays a b h in λ i. belongs (me i) (acked i) g f

pub group_shape : (s : StreamEnds) (g : Group) (f h : Fact) → without_bytes f ≡ without_bytes h → in_group s g f ≡ in_group s g h
group_shape s g f h e = blind_same (in_group s g) (belongs_stays s.ends.known.me s.ends.known.acked g) f h e

pub settled_still : (a b : StreamEnds) (g : Group) → LetsGo a b → AreSettled a g → AreSettled b g
settled_still a b g go settled = record {
  each = λ p f at h.
      let was = stood (facts_in a) (facts_in b) p f (shapes_stay a b go) at in
      go.still p (settled.each p was.old was.there (sym (group_shape a g f was.old was.shape) ∙ sym (group_stays a b g go f) ∙ h));
}

pub below_more : (a b : StreamEnds) (g : Group) (from place : ℕ) → LetsGo a b → AreSettledBelow a g from → IsFirstFrom (in_group a g) (facts_in a) from place → IsSettled b place →
    AreSettledBelow b g (place + 1)
below_more a b g from place go below first here = record {
  each = λ p f lt at h.
      let was = stood (facts_in a) (facts_in b) p f (shapes_stay a b go) at in
      let old = sym (group_shape a g f was.old was.shape) ∙ sym (group_stays a b g go f) ∙ h in
      elim (sides p from) [
        | inl before ↦ go.still p (below.each p was.old before was.there old)
        | inr behind ↦ elim (sides p place) [
          | inl less ↦ let c : true ≡ false = sym old ∙ first.before p was.old (low p behind) less was.there in absurd (let u : ⊥ = cc in u)
          | inr (inl e) ↦ subst (IsSettled b) (sym e) here
          | inr (inr more) ↦ absurd (omega arith)
        ]
      ];
}
  where
    low : (p : ℕ) → (p ≡ from) ⊎ (from < p) → from ≤ p
    low p (inl e) = omega arith
    low p (inr lt) = omega arith

-- the facts that a fact, an acknowledgement or a pair concerns stay the same

opened_shapes : (xs : List Fact) (i : ℕ) → opened_by (slice_get (shapes xs) i) ≡ opened_by (slice_get xs i)
opened_shapes [] i = refl
opened_shapes (Key name master slave route bytes ∷ xs) zero = refl
opened_shapes (Chunk name stream index route bytes ∷ xs) zero = refl
opened_shapes (Stored note about route ∷ xs) zero = refl
opened_shapes (Open stream source peer size route ∷ xs) zero = refl
opened_shapes (Joined note about route ∷ xs) zero = refl
opened_shapes (Part name key master slave route bytes ∷ xs) zero = refl
opened_shapes (x ∷ xs) (suc i) = opened_shapes xs i

pub opened_stays : (a b : StreamEnds) (p : ℕ) → LetsGo a b → opened_by (slice_get (facts_in b) p) ≡ opened_by (slice_get (facts_in a) p)
opened_stays a b p go = sym (opened_shapes (facts_in b) p) ∙ ap (λ (fs : List Fact). opened_by (slice_get fs p)) (shapes_stay a b go) ∙ opened_shapes (facts_in a) p

pub key_one : (f : Fact) → key_of (Some (without_bytes f)) ≡ key_of (Some f)
key_one (Key name master slave route bytes) = refl
key_one (Chunk name stream index route bytes) = refl
key_one (Stored note about route) = refl
key_one (Open stream source peer size route) = refl
key_one (Joined note about route) = refl
key_one (Part name key master slave route bytes) = refl

key_shapes : (xs : List Fact) (n : Name) → key_of (fact_at (shapes xs) n) ≡ key_of (fact_at xs n)
key_shapes [] n = refl
key_shapes (x ∷ xs) n =
    ap (λ (m : Name). key_of (if name_eq m n then Some (without_bytes x) else fact_at (shapes xs) n)) (name_blind x)
    ∙ elim (name_eq (name_of x) n) as (λ b. key_of (if b then Some (without_bytes x) else fact_at (shapes xs) n) ≡ key_of (if b then Some x else fact_at xs n)) [
      | true ↦ key_one x
      | false ↦ key_shapes xs n
    ]

pub key_stays : (a b : StreamEnds) (n : Name) → LetsGo a b → key_of (fact_at (facts_in b) n) ≡ key_of (fact_at (facts_in a) n)
key_stays a b n go = sym (key_shapes (facts_in b) n) ∙ ap (λ (fs : List Fact). key_of (fact_at fs n)) (shapes_stay a b go) ∙ key_shapes (facts_in a) n

pub learned_still : (a b : StreamEnds) (p : ℕ) → LetsGo a b → IsLearnedSettled a p → IsLearnedSettled b p
learned_still a b p go settled = record {
  there = go.still p settled.there;
  chunks = λ stream e. settled_still a b (ChunksOf stream) go (settled.chunks stream (sym (opened_stays a b p go) ∙ e));
}

pub told_still : (a b : StreamEnds) (n : Name) → LetsGo a b → IsToldSettled a n → IsToldSettled b n
told_still a b n go settled = record {
  named = settled_still a b (Named n) go settled.named;
  parts = λ key e. settled_still a b (PartsOf key) go (settled.parts key (sym (key_stays a b n go) ∙ e));
}

pub given_still : (a b : StreamEnds) (n : Name) → LetsGo a b → IsGivenSettled a n → IsGivenSettled b n
given_still a b n go settled = record { named = settled_still a b (Named n) go settled.named; parts = settled_still a b (PartsOf n) go settled.parts }

-- the same facts, in the form of the functions' contracts

pub need_in : (s : StreamEnds) (e : Ends) (place : ℕ) (r b : Bool) → e ≡ s.ends → r ≡ needs_at (ends_view e) (slice_get e.known.facts place) → r ≡ b → needs_at (kept_view s) (slice_get (facts_in s) place) ≡ b
need_in s e place r b is h k =
    same (slice_get (facts_in s) place) ∙ ap (λ (x : Ends). needs_at (ends_view x) (slice_get x.known.facts place)) (sym is) ∙ sym h ∙ k
  where
    same : (o : Option Fact) → needs_at (kept_view s) o ≡ needs_at (ends_view s.ends) o
    same None = refl
    same (Some f) = needed_alike (kept_view s) (ends_view s.ends) f (record { me = refl; acked = refl; handed = refl; facts = refl })

pub first_in : (s : StreamEnds) (k : Knowledge) (g : Group) (from place : ℕ) → k ≡ s.ends.known → IsFirstFrom (belongs k.me k.acked g) k.facts from place → IsFirstFrom (in_group s g) (facts_in s) from place
first_in s k g from place e first = subst (λ (x : Knowledge). IsFirstFrom (belongs x.me x.acked g) x.facts from place) e first

pub none_in : (s : StreamEnds) (k : Knowledge) (g : Group) (from : ℕ) → k ≡ s.ends.known → IsNoneFrom (belongs k.me k.acked g) k.facts from → IsNoneFrom (in_group s g) (facts_in s) from
none_in s k g from e none = subst (λ (x : Knowledge). IsNoneFrom (belongs x.me x.acked g) x.facts from) e none

-- one more place of a suffix

pub learned_more : (a b : StreamEnds) (from place : ℕ) → LetsGo a b → ((p : ℕ) → from ≤ p → p < place → IsLearnedSettled a p) → IsLearnedSettled b place →
    (p : ℕ) → from ≤ p → p < place + 1 → IsLearnedSettled b p
learned_more a b from place go before here p low high = elim (sides p place) [
  | inl lt ↦ learned_still a b p go (before p low lt)
  | inr (inl e) ↦ subst (IsLearnedSettled b) (sym e) here
  | inr (inr gt) ↦ absurd (omega arith)
]

pub told_more : (a b : StreamEnds) (from place : ℕ) → LetsGo a b → ((p : ℕ) → from ≤ p → p < place → IfSome (slice_get a.ends.known.acked p) (IsToldSettled a)) →
    IfSome (slice_get a.ends.known.acked place) (IsToldSettled b) → (p : ℕ) → from ≤ p → p < place + 1 → IfSome (slice_get b.ends.known.acked p) (IsToldSettled b)
told_more a b from place go before here p low high =
    subst (λ (ns : List Name). IfSome (slice_get ns p) (IsToldSettled b)) (sym (acked_stays a b go))
    (elim (sides p place) [
      | inl lt ↦ each (slice_get a.ends.known.acked p) (before p low lt)
      | inr (inl e) ↦ subst (λ (q : ℕ). IfSome (slice_get a.ends.known.acked q) (IsToldSettled b)) (sym e) here
      | inr (inr gt) ↦ absurd (omega arith)
    ])
  where
    each : (o : Option Name) → IfSome o (IsToldSettled a) → IfSome o (IsToldSettled b)
    each None h = h
    each (Some n) h = told_still a b n go h

pub given_more : (a b : StreamEnds) (from place : ℕ) → LetsGo a b → ((p : ℕ) → from ≤ p → p < place → IfSome (slice_get a.ends.handed p) (λ h. IsGivenSettled a h.0)) →
    IfSome (slice_get a.ends.handed place) (λ h. IsGivenSettled b h.0) → (p : ℕ) → from ≤ p → p < place + 1 → IfSome (slice_get b.ends.handed p) (λ h. IsGivenSettled b h.0)
given_more a b from place go before here p low high =
    subst (λ (hs : List (Name × ℕ)). IfSome (slice_get hs p) (λ h. IsGivenSettled b h.0)) (sym (handed_stays a b go))
    (elim (sides p place) [
      | inl lt ↦ each (slice_get a.ends.handed p) (before p low lt)
      | inr (inl e) ↦ subst (λ (q : ℕ). IfSome (slice_get a.ends.handed q) (λ h. IsGivenSettled b h.0)) (sym e) here
      | inr (inr gt) ↦ absurd (omega arith)
    ])
  where
    each : (o : Option (Name × ℕ)) → IfSome o (λ x. IsGivenSettled a x.0) → IfSome o (λ x. IsGivenSettled b x.0)
    each None h = h
    each (Some x) h = given_still a b x.0 go h

-- there is no item after the end of a list
pub past_end : {A : Type 0} (xs : List A) (p : ℕ) (P : A → Type 0) → length xs ≤ p → IfSome (slice_get xs p) P
past_end [] p P le = tt
past_end (x ∷ xs) zero P le = absurd (omega arith)
past_end (x ∷ xs) (suc p) P le = past_end xs p P (omega arith)

pub same_some : (a b : Name) → Some a ≡ Some b → a ≡ b
same_some a b e = cc
