-- If all facts that an event concerns are settled, every fact is: its bytes are needed, or they are zeros.
use Rattle.std.proofs.Common.{◌≡◌, ℕ, zero, suc, ◌+◌, ◌<◌, ◌≤◌, Bool, true, false, ◌&&◌, ◌||◌, List, [], ◌∷◌, ◌++◌, length, take, drop, refl, sym, ◌∙◌, ap, subst, arith, Option, Some, None, inl, inr, map}
use Rattle.std.specs.Prelude.{slice_get, IfSome}
use Rattle.std.specs.List.{list_any}
use Rattle.qkd_base.specs.Name.{Name, name_eq, has}
use Rattle.net_model.specs.declared.fact.Fact.{Fact}
use Rattle.net_model.specs.declared.fact.Fact.TheVariants.{Key, Chunk, Stored, Open, Joined, Part}
use Rattle.net_model.specs.Table.{PartOf, part_of, is_named, is_part_of, parts_of, name_of, fact_at, without_bytes}
use Rattle.net_model.specs.Needed.{masked, masked_fact}
use Rattle.net_model.specs.Fold.{is_stream_of}
use Rattle.law_base.proofs.Base.{and_left, and_right, or_cases, name_eq_from, name_eq_same}
use Rattle.law_base.specs.Touched.{IsLater, is_given, is_touched_part, is_opened, is_touched}
use Rattle.law_base.proofs.Staying.{untouched_masked}
use Rattle.relay_core.specs.declared.group.Group.{Group}
use Rattle.relay_core.specs.declared.group.Group.TheVariants.{Named, PartsOf, ChunksOf}
use Rattle.relay_core.specs.Knowledge.{AreDistinct}
use Rattle.relay_core.proofs.Firsts.{get_within, find_hits}
use Rattle.relay_core.proofs.Kept.{IsPassing, IsSomewhere, any_somewhere, somewhere}
use Rattle.relay_core.proofs.Forgotten.{belongs_stays}
use Rattle.stream_core.specs.Kept.{StreamEnds}
use Rattle.kme_facts.specs.Needs.{kept_view}
use Rattle.kme_facts.specs.Settled.{IsSettled, AreSettled, LetsGo, opened_by, key_of, IsLearnedSettled, IsToldSettled, IsGivenSettled, kept_before, WasMasked}
use Rattle.kme_facts.proofs.Finding.{sides, any_filtered}
use Rattle.kme_facts.proofs.Settling.{facts_in, in_group, shapes_stay, acked_stays, handed_stays, length_stays, stood, blind_same, opened_stays, key_stays, lets_both, learned_still, told_still}

-- lists split in two

pub get_drop : {A : Type 0} (n : ℕ) (xs : List A) (j : ℕ) → slice_get (drop n xs) j ≡ slice_get xs (n + j)
get_drop {A} zero xs j = let e : j ≡ 0 + j = omega arith in ap (λ (k : ℕ). slice_get xs k) e
get_drop (suc n) [] j = refl
get_drop {A} (suc n) (x ∷ xs) j = get_drop n xs j ∙ ap (λ (k : ℕ). slice_get (x ∷ xs) k) (let e : suc (n + j) ≡ suc n + j = omega arith in e)

pub get_take : {A : Type 0} (n : ℕ) (xs : List A) (p : ℕ) (x : A) → p < n → slice_get xs p ≡ Some x → slice_get (take n xs) p ≡ Some x
get_take zero xs p x lt h = absurd (omega arith)
get_take (suc n) [] p x lt h = cc
get_take (suc n) (y ∷ ys) zero x lt h = h
get_take (suc n) (y ∷ ys) (suc p) x lt h = get_take n ys p x (omega arith) h

pub took : {A : Type 0} (n : ℕ) (xs : List A) (p : ℕ) (x : A) → slice_get (take n xs) p ≡ Some x → slice_get xs p ≡ Some x
took zero xs p x h = cc
took (suc n) [] p x h = cc
took (suc n) (y ∷ ys) zero x h = h
took (suc n) (y ∷ ys) (suc p) x h = took n ys p x h

in_two : {A : Type 0} (n : ℕ) (xs : List A) → xs ≡ take n xs ++ drop n xs
in_two zero xs = refl
in_two (suc n) [] = refl
in_two (suc n) (x ∷ xs) = ap (λ ys. x ∷ ys) (in_two n xs)

pub later_than : (s : StreamEnds) (nf na nh : ℕ) → IsLater (kept_before s nf na nh) (kept_view s) (drop nf (facts_in s)) (drop na s.ends.known.acked) (drop nh s.ends.handed)
later_than s nf na nh = record {
  me = refl;
  facts_are = in_two nf (facts_in s);
  acked_are = in_two na s.ends.known.acked;
  handed_are = in_two nh s.ends.handed;
}

all_mapped : (p : Fact → Fact) (fs : List Fact) → ((i : ℕ) → IfSome (slice_get fs i) (λ f. p f ≡ f)) → map p fs ≡ fs
all_mapped p [] h = refl
all_mapped p (f ∷ fs) h = let one : p f ≡ f = h 0 in let rest = all_mapped p fs (λ i. h (suc i)) in λ i. one i ∷ rest i

key_is : (f : Fact) (key : Name) → is_part_of key f ≡ true → key_of (Some f) ≡ Some key
key_is (Part name key' master slave route bytes) key h = ap (λ (n : Name). Some n) (name_eq_from key' key h)
key_is _ key h = cc

part_is : (f : Fact) (p : PartOf) → part_of f ≡ Some p → is_part_of p.key f ≡ true
part_is f p e = ap (λ (o : Option PartOf). is_named o p.key) e ∙ name_eq_same p.key

opened_is : (o : Option Fact) (stream : Name) → IfSome o (λ f. is_stream_of stream f ≡ true) → (f : Fact) → o ≡ Some f → opened_by o ≡ Some stream
opened_is None stream h f e = cc
opened_is (Some (Open stream' source peer size route)) stream h f e = ap (λ (n : Name). Some n) (name_eq_from stream' stream h)
opened_is (Some _) stream h f e = cc

module _ (old new : StreamEnds) (nf na nh : ℕ) (distinct : AreDistinct (facts_in old)) (was : WasMasked old nf na nh) (go : LetsGo old new)
    (learned : (p : ℕ) → nf ≤ p → p < length (facts_in new) → IsLearnedSettled new p)
    (told : (p : ℕ) → na ≤ p → IfSome (slice_get new.ends.known.acked p) (IsToldSettled new))
    (given : (p : ℕ) → nh ≤ p → IfSome (slice_get new.ends.handed p) (λ h. IsGivenSettled new h.0)) where
  -- the fact at a place now has the groups of the fact that was there before
  group_settled : (g : Group) (p : ℕ) (f : Fact) → slice_get (facts_in old) p ≡ Some f → in_group new g f ≡ true → AreSettled new g → IsSettled new p
  group_settled g p f at h settled = by (slice_get (facts_in new) p) refl
    where
      by : (o : Option Fact) → slice_get (facts_in new) p ≡ o → IsSettled new p
      by None e = subst (λ (o : Option Fact). IfSome o (λ x. masked_fact (kept_view new) x ≡ x)) (sym e) tt
      by (Some x) e =
          let here = stood (facts_in old) (facts_in new) p x (shapes_stay old new go) e in
          let same : Some here.old ≡ Some f = sym here.there ∙ at in
          let is : here.old ≡ f = cc in
          settled.each p x e (blind_same (in_group new g) (belongs_stays new.ends.known.me new.ends.known.acked g) x f (here.shape ∙ ap without_bytes is) ∙ h)

  told_at : (n : Name) → IsPassing (λ m. name_eq m n) (drop na old.ends.known.acked) → IsToldSettled new n
  told_at n at =
      let there : slice_get new.ends.known.acked (na + at.place) ≡ Some at.item =
      ap (λ (ns : List Name). slice_get ns (na + at.place)) (acked_stays old new go) ∙ sym (get_drop na old.ends.known.acked at.place) ∙ at.there in
      subst (IsToldSettled new) (name_eq_from at.item n at.passes) (subst (λ (o : Option Name). IfSome o (IsToldSettled new)) there (told (na + at.place) (omega arith)))

  told_named : (n : Name) → has (drop na old.ends.known.acked) n ≡ true → IsToldSettled new n
  told_named n h = told_at n (any_somewhere (λ m. name_eq m n) (drop na old.ends.known.acked) h)

  given_at : (n : Name) → IsPassing (λ (x : Name × ℕ). name_eq x.0 n) (drop nh old.ends.handed) → IsGivenSettled new n
  given_at n at =
      let there : slice_get new.ends.handed (nh + at.place) ≡ Some at.item =
      ap (λ (hs : List (Name × ℕ)). slice_get hs (nh + at.place)) (handed_stays old new go) ∙ sym (get_drop nh old.ends.handed at.place) ∙ at.there in
      subst (IsGivenSettled new) (name_eq_from at.item.0 n at.passes)
      (subst (λ (o : Option (Name × ℕ)). IfSome o (λ x. IsGivenSettled new x.0)) there (given (nh + at.place) (omega arith)))

  given_named : (n : Name) → is_given (drop nh old.ends.handed) n ≡ true → IsGivenSettled new n
  given_named n h = given_at n (any_somewhere (λ (x : Name × ℕ). name_eq x.0 n) (drop nh old.ends.handed) h)

  opened_at : (stream : Name) → IsPassing (is_stream_of stream) (drop nf (facts_in old)) → AreSettled new (ChunksOf stream)
  opened_at stream at =
      let there : slice_get (facts_in old) (nf + at.place) ≡ Some at.item = sym (get_drop nf (facts_in old) at.place) ∙ at.there in
      let within : nf + at.place < length (facts_in new) =
      (let lt = get_within (facts_in old) (nf + at.place) at.item there in let e = length_stays old new go in omega arith) in
      let opens = ap opened_by there ∙ opened_is (Some at.item) stream at.passes at.item refl in
      (learned (nf + at.place) (omega arith) within).chunks stream (opened_stays old new (nf + at.place) go ∙ opens)

  stream_opened : (stream : Name) → list_any (is_stream_of stream) (drop nf (facts_in old)) ≡ true → AreSettled new (ChunksOf stream)
  stream_opened stream h = opened_at stream (any_somewhere (is_stream_of stream) (drop nf (facts_in old)) h)

  -- the parts of a group key of which one was acknowledged

  same_there : (p q : ℕ) (f g : Fact) → slice_get (facts_in old) p ≡ Some f → slice_get (facts_in old) q ≡ Some g → name_of f ≡ name_of g → Some f ≡ Some g
  same_there p q f g a b e = sym a ∙ ap (slice_get (facts_in old)) (distinct.apart p q (name_of g) (record { fact = f; there = a; named = e }) (record { fact = g; there = b; named = refl })) ∙ b

  key_told : (p : ℕ) (g : Fact) (key : Name) → slice_get (facts_in old) p ≡ Some g → is_part_of key g ≡ true → IsSomewhere (λ f. name_eq (name_of f) (name_of g)) (facts_in old) →
      key_of (fact_at (facts_in new) (name_of g)) ≡ Some key
  key_told p g key there part found =
      key_stays old new (name_of g) go
      ∙ ap key_of (found.found ∙ same_there found.place p found.item g found.there there (name_eq_from (name_of found.item) (name_of g) found.passes)) ∙ key_is g key part

  part_told : (key : Name) → IsPassing (λ g. is_part_of key g && has (drop na old.ends.known.acked) (name_of g)) (take nf (facts_in old)) → AreSettled new (PartsOf key)
  part_told key at =
      let part = and_left (is_part_of key at.item) (has (drop na old.ends.known.acked) (name_of at.item)) at.passes in
      let acked = and_right (is_part_of key at.item) (has (drop na old.ends.known.acked) (name_of at.item)) at.passes in
      let there = took nf (facts_in old) at.place at.item at.there in
      (told_named (name_of at.item) acked).parts key
      (key_told at.place at.item key there part
      (somewhere (λ f. name_eq (name_of f) (name_of at.item)) (facts_in old)
      (find_hits (λ f. name_eq (name_of f) (name_of at.item)) (facts_in old) at.place at.item there (name_eq_same (name_of at.item)))))

  parts_told : (key : Name) → list_any (λ g. has (drop na old.ends.known.acked) (name_of g)) (parts_of (take nf (facts_in old)) key) ≡ true → AreSettled new (PartsOf key)
  parts_told key h =
      part_told key
      (any_somewhere (λ g. is_part_of key g && has (drop na old.ends.known.acked) (name_of g)) (take nf (facts_in old))
      (sym (any_filtered (is_part_of key) (λ g. has (drop na old.ends.known.acked) (name_of g)) (take nf (facts_in old))) ∙ h))

  part_settled : (p : ℕ) (f : Fact) (o : Option PartOf) → slice_get (facts_in old) p ≡ Some f → part_of f ≡ o →
      is_touched_part (take nf (facts_in old)) (drop na old.ends.known.acked) (drop nh old.ends.handed) o ≡ true → IsSettled new p
  part_settled p f None at is h = cc
  part_settled p f (Some q) at is h =
      group_settled (PartsOf q.key) p f at (part_is f q is)
      (elim (or_cases (is_given (drop nh old.ends.handed) q.key) (list_any (λ g. has (drop na old.ends.known.acked) (name_of g)) (parts_of (take nf (facts_in old)) q.key)) h) [
        | inl one ↦ (given_named q.key one).parts
        | inr one ↦ parts_told q.key one
      ])

  chunk_settled : (p : ℕ) (f : Fact) → slice_get (facts_in old) p ≡ Some f → is_opened (drop nf (facts_in old)) f ≡ true → IsSettled new p
  chunk_settled p (Chunk name stream index route bytes) at h = group_settled (ChunksOf stream) p (Chunk name stream index route bytes) at (name_eq_same stream) (stream_opened stream h)
  chunk_settled p (Key name master slave route bytes) at h = cc
  chunk_settled p (Stored note about route) at h = cc
  chunk_settled p (Open stream source peer size route) at h = cc
  chunk_settled p (Joined note about route) at h = cc
  chunk_settled p (Part name key master slave route bytes) at h = cc

  old_settled : (p : ℕ) (f : Fact) → p < nf → slice_get (facts_in old) p ≡ Some f → IsSettled new p
  old_settled p f lt at = by (is_touched (take nf (facts_in old)) (drop nf (facts_in old)) (drop na old.ends.known.acked) (drop nh old.ends.handed) f) refl
    where
      by : (t : Bool) → is_touched (take nf (facts_in old)) (drop nf (facts_in old)) (drop na old.ends.known.acked) (drop nh old.ends.handed) f ≡ t → IsSettled new p
      by false e =
          go.still p (subst (λ (o : Option Fact). IfSome o (λ x. masked_fact (kept_view old) x ≡ x)) (sym at)
          (untouched_masked (kept_before old nf na nh) (kept_view old) (drop nf (facts_in old)) (drop na old.ends.known.acked) (drop nh old.ends.handed) p f was.same (later_than old nf na nh)
          (get_take nf (facts_in old) p f lt at) e))
      by true e =
          let acked = has (drop na old.ends.known.acked) (name_of f) in
          let handed = is_given (drop nh old.ends.handed) (name_of f) in
          let part = is_touched_part (take nf (facts_in old)) (drop na old.ends.known.acked) (drop nh old.ends.handed) (part_of f) in
          elim (or_cases (acked || handed || part) (is_opened (drop nf (facts_in old)) f) e) [
            | inr one ↦ chunk_settled p f at one
            | inl three ↦ elim (or_cases (acked || handed) part three) [
              | inr one ↦ part_settled p f (part_of f) at refl one
              | inl two ↦ elim (or_cases acked handed two) [
                | inl one ↦ group_settled (Named (name_of f)) p f at (name_eq_same (name_of f)) (told_named (name_of f) one).named
                | inr one ↦ group_settled (Named (name_of f)) p f at (name_eq_same (name_of f)) (given_named (name_of f) one).named
              ]
            ]
          ]

  each_settled : (p : ℕ) → IsSettled new p
  each_settled p = by (slice_get (facts_in new) p) refl
    where
      by : (o : Option Fact) → slice_get (facts_in new) p ≡ o → IsSettled new p
      by None e = subst (λ (o : Option Fact). IfSome o (λ x. masked_fact (kept_view new) x ≡ x)) (sym e) tt
      by (Some x) e =
          let here = stood (facts_in old) (facts_in new) p x (shapes_stay old new go) e in
          elim (sides p nf) [
            | inl lt ↦ old_settled p here.old lt here.there
            | inr (inl same) ↦ (learned p (omega arith) (get_within (facts_in new) p x e)).there
            | inr (inr gt) ↦ (learned p (omega arith) (get_within (facts_in new) p x e)).there
          ]

  all_settled : masked (kept_view new) ≡ kept_view new
  unfolding masked
  all_settled = let fs = all_mapped (masked_fact (kept_view new)) (facts_in new) each_settled in λ i. record (kept_view new) { facts = fs i }

  pub is_masked : kept_view new ≡ masked (kept_view old)
  is_masked = sym all_settled ∙ go.same

pub let_go_masks : (old a b new : StreamEnds) (nf na nh : ℕ) → AreDistinct (facts_in old) → WasMasked old nf na nh →
    LetsGo old a → ((p : ℕ) → nf ≤ p → p < length (facts_in a) → IsLearnedSettled a p) →
    LetsGo a b → ((p : ℕ) → na ≤ p → IfSome (slice_get b.ends.known.acked p) (IsToldSettled b)) →
    LetsGo b new → ((p : ℕ) → nh ≤ p → IfSome (slice_get new.ends.handed p) (λ h. IsGivenSettled new h.0)) → kept_view new ≡ masked (kept_view old)
let_go_masks old a b new nf na nh distinct was f learned g told h given =
    is_masked old new nf na nh distinct was (lets_both old a new f (lets_both a b new g h))
    (λ p low high. learned_still a new p (lets_both a b new g h) (learned p low (let e = length_stays a new (lets_both a b new g h) in omega arith)))
    (λ p low. later_told p (told p low))
    given
  where
    told_each : (o : Option Name) → IfSome o (IsToldSettled b) → IfSome o (IsToldSettled new)
    told_each None t = t
    told_each (Some n) t = told_still b new n h t

    later_told : (p : ℕ) → IfSome (slice_get b.ends.known.acked p) (IsToldSettled b) → IfSome (slice_get new.ends.known.acked p) (IsToldSettled new)
    later_told p t = told_each (slice_get new.ends.known.acked p) (subst (λ (ns : List Name). IfSome (slice_get ns p) (IsToldSettled b)) (sym (acked_stays b new h)) t)
