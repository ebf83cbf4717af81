-- Layers of nodes, and the first walk through them.
use Rattle.std.proofs.Common.{◌≡◌, ◌≢◌, ℕ, zero, suc, ◌+◌, ◌-◌, ◌<◌, ◌≤◌, ◌==◌, ◌&&◌, ◌||◌, not, Bool, true, false, List, [], ◌∷◌, ◌++◌, length, get_or, take, set, replicate, add-one, append_assoc, get_or-set_other, get_or-set_same, Option, Some, None, refl, sym, ap, ◌∙◌, subst, inl, inr, arith}
use Rattle.std.proofs.lemmas.Bool.{cases_lt, cases_eq, eqb-true, eq-eqb, ne_eqb, or_cases, and_parts, and_from, or_left, or_right, false≢true}
use Rattle.std.proofs.Math.Seq.{take-suc, take-suc-set}
use Rattle.std.proofs.lemmas.List.{get_or-replicate, length-replicate, length-set}
use Rattle.std.specs.Prelude.{IsBitSet, bit_and, ◌^◌}
use Rattle.route_table.specs.Table.{Table, ends_of}
use Rattle.route_table.specs.Walk.{Joins, AreJoined, IsWalk, IsNotAfter, links_of}
use Rattle.route_table.specs.Layer.{has_node, leads, bit_is_set, IsNextTo, AreNextTo, HasWalk, IsLayer, IsFirstStep, IsFirstWalk}
use Rattle.route_table.proofs.Walks.{not_empty, step_walk, from_other}

pub meet : (t : Table) (up v b : ℕ) (walk : List ℕ) → IsWalk t up v b walk → links_of walk ≡ 0 → v ≡ b
meet t up v b [] h long = absurd h
meet t up v b (x ∷ []) h long = sym h.0 ∙ h.1
meet t up v b (x ∷ y ∷ rest) h long = absurd (omega (arith, long))

-- with no link, only the node itself is reached
pub first_layer : (t : Table) (up b : ℕ) (nodes : List Bool) → ((v : ℕ) → has_node nodes v ≡ (v == b)) → IsLayer t up b 0 nodes
first_layer t up b nodes is = record {
  reached = λ v here. record { walk = v ∷ []; walks = (refl, eqb-true v b (sym (is v) ∙ here)); long = omega arith };
  all = λ v has. is v ∙ eq-eqb v b (meet t up v b has.walk has.walks has.long);
}

first_link : (t : Table) (up v b links : ℕ) (near : List Bool) → IsLayer t up b links near → (walk : List ℕ) → IsWalk t up v b walk → links_of walk ≡ links + 1 → IsNextTo t up near v
first_link t up v b links near h [] walks long = absurd walks
first_link t up v b links near h (x ∷ []) walks long = absurd (omega (arith, long))
first_link t up v b links near h (x ∷ y ∷ rest) walks long = record {
  node = y;
  joined = subst (λ (z : ℕ). AreJoined t up z y) walks.0 walks.1;
  is_near = h.all y (record { walk = y ∷ rest; walks = walks.2; long = omega (arith, long) });
}

-- the layer for one more link
pub next_layer : (t : Table) (up b links : ℕ) (near far : List Bool) → IsLayer t up b links near → AreNextTo t up near far → IsLayer t up b (links + 1) far
next_layer t up b links near far h step = record {
  reached = λ v here.
      let next = step.next v here in
      let on = h.reached next.node next.is_near in
      record {
        walk = v ∷ on.walk;
        walks = step_walk t up v next.node b on.walk next.joined on.walks;
        long = omega (arith, on.long, not_empty t up next.node b on.walk on.walks);
      };
  all = λ v has. step.all v (first_link t up v b links near h has.walk has.walks has.long);
}

-- any walk of one more link begins with a step into the layer
pub next_of_walk : (t : Table) (up v b links : ℕ) (near : List Bool) → IsLayer t up b links near → HasWalk t up v b (links + 1) → IsNextTo t up near v
next_of_walk t up v b links near h has = first_link t up v b links near h has.walk has.walks has.long

before_other : (t : Table) (up w y b : ℕ) (tail rest : List ℕ) → IsWalk t up w b tail → w < y → IsNotAfter tail (y ∷ rest)
before_other t up w y b [] rest walks less = absurd walks
before_other t up w y b (z ∷ []) rest walks less = inl (omega (arith, walks.0, less))
before_other t up w y b (z ∷ x ∷ more) rest walks less = inl (omega (arith, walks.0, less))

-- the first step, followed by the first walk from there, is the first walk
pub first_cons : (t : Table) (up v w b links : ℕ) (near : List Bool) (tail : List ℕ) → IsLayer t up b links near → IsFirstStep t up near v w → IsFirstWalk t up w b links tail → IsFirstWalk t up v b (links + 1) (v ∷ tail)
first_cons t up v w b links near tail layer step h = record {
  walks = step_walk t up v w b tail step.joined h.walks;
  long = omega (arith, h.long, not_empty t up w b tail h.walks);
  first = not_after t up v w b links near tail layer step h;
}
  where
    not_after : (t : Table) (up v w b links : ℕ) (near : List Bool) (tail : List ℕ) → IsLayer t up b links near → IsFirstStep t up near v w → IsFirstWalk t up w b links tail → (other : List ℕ) → IsWalk t up v b other → links_of other ≡ links + 1 → IsNotAfter (v ∷ tail) other
    not_after t up v w b links near tail layer step h [] walks long = absurd walks
    not_after t up v w b links near tail layer step h (x ∷ []) walks long = absurd (omega (arith, long))
    not_after t up v w b links near tail layer step h (x ∷ y ∷ rest) walks long =
        let onward : links_of (y ∷ rest) ≡ links = omega (arith, long) in
        let joined : AreJoined t up v y = subst (λ (z : ℕ). AreJoined t up z y) walks.0 walks.1 in
        let least : w ≤ y = step.first y joined (layer.all y (record { walk = y ∷ rest; walks = walks.2; long = onward })) in
        inr (
          sym walks.0,
          elim (cases_lt w y) [
            | inl less ↦ before_other t up w y b tail rest h.walks less
            | inr not_less ↦ h.first (y ∷ rest) (from_other t up y w b (y ∷ rest) (omega (arith, least, not_less)) walks.2) onward
          ],
        )

-- the layers up to this number of links are right
pub record AreLayersTo (t : Table) (up b links : ℕ) (layers : List (List Bool)) : Type 0 where
  pub room : length layers ≡ 9
  pub each : (k : ℕ) → k ≤ links → IsLayer t up b k (get_or layers k [])

pub layers_first : (t : Table) (up b : ℕ) (nodes : List Bool) → ((v : ℕ) → has_node nodes v ≡ (v == b)) → AreLayersTo t up b 0 (replicate 9 nodes)
layers_first t up b nodes is = record {
  room = refl;
  each = λ k none. subst (λ (i : ℕ). IsLayer t up b i (get_or (replicate 9 nodes) i [])) (omega (arith, none)) (first_layer t up b nodes is);
}

pub layers_next : (t : Table) (up b links : ℕ) (layers : List (List Bool)) (far : List Bool) → links < 8 → AreLayersTo t up b links layers → AreNextTo t up (get_or layers links []) far → AreLayersTo t up b (links + 1) (set layers (links + 1) far)
layers_next t up b links layers far below h step = record {
  room = length-set layers (links + 1) far ∙ h.room;
  each = λ k up_to. elim (cases_eq k (links + 1)) [
    | inl last ↦
        let new : IsLayer t up b (links + 1) far = next_layer t up b links (get_or layers links []) far (h.each links (omega arith)) step in
        subst (λ (i : ℕ). IsLayer t up b i (get_or (set layers (links + 1) far) i [])) (sym last)
        (subst (IsLayer t up b (links + 1)) (sym (get_or-set_same layers (links + 1) far [] (omega (arith, below, h.room)))) new)
    | inr other ↦ subst (IsLayer t up b k) (sym (get_or-set_other layers (links + 1) k far [] other)) (h.each k (omega (arith, up_to, other)))
  ];
}

-- the state of the loop that builds the first walk: the first walk from `here`, with the links that are left, completes
-- it
pub record IsUnderway (t : Table) (up a b links step : ℕ) (nodes : List ℕ) (here : ℕ) : Type 0 where
  pub reached : HasWalk t up here b (links - step)
  pub room : length nodes ≡ 9
  pub filled : (k : ℕ) → step ≤ k → k < 9 → get_or nodes k 0 ≡ b
  pub onward : (tail : List ℕ) → IsFirstWalk t up here b (links - step) tail → IsFirstWalk t up a b links (take step nodes ++ tail)

pub underway_first : (t : Table) (up a b links : ℕ) → HasWalk t up a b links → IsUnderway t up a b links 0 (replicate 9 b) a
underway_first t up a b links has = record {
  reached = record { walk = has.walk; walks = has.walks; long = omega (arith, has.long) };
  room = refl;
  filled = λ k from below. get_or-replicate 9 k b 0 below;
  onward = λ tail h. record { walks = h.walks; long = omega (arith, h.long); first = λ other walks long. h.first other walks (omega (arith, long)) };
}

pub underway_next : (t : Table) (up a b links step : ℕ) (nodes : List ℕ) (here next : ℕ) (near : List Bool) → step < links → links ≤ 8 → IsLayer t up b (links - 1 - step) near → IsFirstStep t up near here next → IsUnderway t up a b links step nodes here → IsUnderway t up a b links (step + 1) (set nodes step here) next
underway_next t up a b links step nodes here next near more short layer first h =
    let left : links - step ≡ links - 1 - step + 1 = omega (arith, more) in
    let on : HasWalk t up next b (links - 1 - step) = layer.reached next first.is_near in
    record {
      reached = record { walk = on.walk; walks = on.walks; long = omega (arith, on.long) };
      room = length-set nodes step here ∙ h.room;
      filled = λ k from below. let other : k ≢ step = omega (arith, from) in get_or-set_other nodes step k here 0 other ∙ h.filled k (omega (arith, from)) below;
      onward = λ tail walk.
          let exact : IsFirstWalk t up next b (links - 1 - step) tail = record { walks = walk.walks; long = omega (arith, walk.long); first = λ other walks long. walk.first other walks (omega (arith, long)) } in
          let whole : IsFirstWalk t up here b (links - step) (here ∷ tail) = subst (λ (k : ℕ). IsFirstWalk t up here b k (here ∷ tail)) (sym left) (first_cons t up here next b (links - 1 - step) near tail layer first exact) in
          let prefix : take (step + 1) (set nodes step here) ≡ take step nodes ++ here ∷ [] = rw add-one (take-suc-set nodes step here (omega (arith, more, short, h.room))) in
          let same : take step nodes ++ here ∷ tail ≡ take (step + 1) (set nodes step here) ++ tail = sym (ap (λ (xs : List ℕ). xs ++ tail) prefix ∙ append_assoc (take step nodes) (here ∷ []) tail) in
          subst (IsFirstWalk t up a b links) same (h.onward (here ∷ tail) whole);
    }

head_is : (t : Table) (up v b x : ℕ) (rest : List ℕ) → IsWalk t up v b (x ∷ rest) → x ≡ v
head_is t up v b x [] walks = walks.0
head_is t up v b x (y ∷ rest) walks = walks.0

not_before : (t : Table) (up v b : ℕ) → v ≡ b → (other : List ℕ) → IsWalk t up v b other → links_of other ≡ 0 → IsNotAfter (b ∷ []) other
not_before t up v b e [] walks long = absurd walks
not_before t up v b e (x ∷ rest) walks long = inr (sym e ∙ sym (head_is t up v b x rest walks), tt)

-- with no link, the node itself is the only walk
alone : (t : Table) (up v b : ℕ) → v ≡ b → IsFirstWalk t up v b 0 (b ∷ [])
alone t up v b e = record { walks = (sym e, refl); long = omega arith; first = not_before t up v b e }

pub underway_last : (t : Table) (up a b links : ℕ) (nodes : List ℕ) (here : ℕ) → links ≤ 8 → IsUnderway t up a b links links nodes here → IsFirstWalk t up a b links (take (links + 1) nodes)
underway_last t up a b links nodes here short h =
    let there : here ≡ b = meet t up here b h.reached.walk h.reached.walks (omega (arith, h.reached.long)) in
    let none_left : 0 ≡ links - links = omega arith in
    let whole : IsFirstWalk t up here b (links - links) (b ∷ []) = subst (λ (k : ℕ). IsFirstWalk t up here b k (b ∷ [])) none_left (alone t up here b there) in
    let last : get_or nodes links 0 ≡ b = h.filled links (omega arith) (omega (arith, short)) in
    let prefix : take (links + 1) nodes ≡ take links nodes ++ get_or nodes links 0 ∷ [] = rw add-one (take-suc nodes links 0 (omega (arith, short, h.room))) in
    let same : take links nodes ++ b ∷ [] ≡ take (links + 1) nodes = sym (prefix ∙ ap (λ (x : ℕ). take links nodes ++ x ∷ []) last) in
    subst (IsFirstWalk t up a b links) same (h.onward (b ∷ []) whole)

-- whether a link that is up, of a number less than i, leads to node v
abbrev pub crossed : Table → ℕ → List Bool → ℕ → ℕ → Bool
crossed t up near v zero = false
crossed t up near v (suc i) = crossed t up near v i || (bit_is_set up i && leads (ends_of t i) near v)

pub crossed_more : (t : Table) (up : ℕ) (near : List Bool) (v i : ℕ) → crossed t up near v (i + 1) ≡ (crossed t up near v i || (bit_is_set up i && leads (ends_of t i) near v))
crossed_more t up near v i = rw add-one refl

next_over : (t : Table) (up : ℕ) (near : List Bool) (v link : ℕ) (ends : Option (ℕ × ℕ)) → ends_of t link ≡ ends → IsBitSet up link → leads ends near v ≡ true → IsNextTo t up near v
next_over t up near v link None is bit h = absurd (false≢true h)
next_over t up near v link (Some e) is bit h =
    elim (or_cases ((v == e.1) && has_node near e.0) ((v == e.0) && has_node near e.1) h) [
      | inl down ↦
          let parts = and_parts (v == e.1) (has_node near e.0) down in
          record { node = e.0; joined = record { link = link; is_up = bit; joins = inr (is ∙ ap (λ (w : ℕ). Some (e.0, w)) (sym (eqb-true v e.1 parts.0))) }; is_near = parts.1 }
      | inr upward ↦
          let parts = and_parts (v == e.0) (has_node near e.1) upward in
          record { node = e.1; joined = record { link = link; is_up = bit; joins = inl (is ∙ ap (λ (w : ℕ). Some (w, e.1)) (sym (eqb-true v e.0 parts.0))) }; is_near = parts.1 }
    ]

set_bit : (up link : ℕ) → bit_is_set up link ≡ true → IsBitSet up link
set_bit up link h e = false≢true (sym (ap not (eq-eqb (bit_and up (2 ^ link)) 0 e)) ∙ h)

bit_set : (up link : ℕ) → IsBitSet up link → bit_is_set up link ≡ true
bit_set up link h = ap not (ne_eqb (bit_and up (2 ^ link)) 0 h)

pub next_of_crossed : (t : Table) (up : ℕ) (near : List Bool) (v i : ℕ) → crossed t up near v i ≡ true → IsNextTo t up near v
next_of_crossed t up near v zero h = absurd (false≢true h)
next_of_crossed t up near v (suc i) h =
    elim (or_cases (crossed t up near v i) (bit_is_set up i && leads (ends_of t i) near v) h) [
      | inl before ↦ next_of_crossed t up near v i before
      | inr here ↦
          let parts = and_parts (bit_is_set up i) (leads (ends_of t i) near v) here in
          next_over t up near v i (ends_of t i) refl (set_bit up i parts.0) parts.1
    ]

leads_there : (t : Table) (near : List Bool) (v w link : ℕ) → Joins t link v w → has_node near w ≡ true → leads (ends_of t link) near v ≡ true
leads_there t near v w link (inl is) here =
    ap (λ (o : Option (ℕ × ℕ)). leads o near v) is
    ∙ or_right ((v == w) && has_node near v) ((v == v) && has_node near w) (and_from (v == v) (has_node near w) (eq-eqb v v refl) here)
leads_there t near v w link (inr is) here =
    ap (λ (o : Option (ℕ × ℕ)). leads o near v) is
    ∙ or_left ((v == v) && has_node near w) ((v == w) && has_node near v) (and_from (v == v) (has_node near w) (eq-eqb v v refl) here)

pub crossed_of_next : (t : Table) (up : ℕ) (near : List Bool) (v i : ℕ) → (n : IsNextTo t up near v) → n.joined.link < i → crossed t up near v i ≡ true
crossed_of_next t up near v zero n below = absurd (omega (arith, below))
crossed_of_next t up near v (suc i) n below =
    elim (cases_lt n.joined.link i) [
      | inl before ↦ or_left (crossed t up near v i) _ (crossed_of_next t up near v i n before)
      | inr not_before ↦
          let here : n.joined.link ≡ i = omega (arith, below, not_before) in
          or_right (crossed t up near v i) _ (and_from (bit_is_set up i) (leads (ends_of t i) near v)
          (ap (bit_is_set up) (sym here) ∙ bit_set up n.joined.link n.joined.is_up)
          (ap (λ (k : ℕ). leads (ends_of t k) near v) (sym here) ∙ leads_there t near v n.node n.joined.link n.joined.joins n.is_near))
    ]

pub link_below : (t : Table) (link : ℕ) (ends : ℕ × ℕ) → ends_of t link ≡ Some ends → link < length t
link_below [] link ends h = absurd (cc)
link_below (e ∷ rest) zero ends h = omega arith
link_below (e ∷ rest) (suc link) ends h = omega (arith, link_below rest link ends h)

joins_below : (t : Table) (link v w : ℕ) → Joins t link v w → link < length t
joins_below t link v w (inl is) = link_below t link (v, w) is
joins_below t link v w (inr is) = link_below t link (w, v) is

pub all_crossed : (t : Table) (up : ℕ) (near far : List Bool) → length t ≡ 32 → ((v : ℕ) → has_node far v ≡ crossed t up near v 32) → AreNextTo t up near far
all_crossed t up near far whole is = record {
  next = λ v h. next_of_crossed t up near v 32 (sym (is v) ∙ h);
  all = λ v n. is v ∙ crossed_of_next t up near v 32 n (omega (arith, whole, joins_below t n.joined.link v n.node n.joined.joins));
}

pub only_one : (node : ℕ) → node < 16 → (v : ℕ) → has_node (set (replicate 16 false) node true) v ≡ (v == node)
only_one node below v =
    elim (cases_eq v node) [
      | inl same ↦ ap (has_node (set (replicate 16 false) node true)) same ∙ get_or-set_same (replicate 16 false) node true false (omega (arith, below, length-replicate 16 false)) ∙ sym (eq-eqb v node same)
      | inr other ↦ get_or-set_other (replicate 16 false) node v true false other ∙ never 16 v ∙ sym (ne_eqb v node other)
    ]
  where
    never : (n v : ℕ) → get_or (replicate n false) v false ≡ false
    never zero v = refl
    never (suc n) zero = refl
    never (suc n) (suc v) = never n v
