-- The lines that declare a site are the site's spelling, apart from the order of kinds, of a link's two nodes and of pairs.
use Rattle.std.proofs.Common.{◌≡◌, ◌∙◌, ◌⊎◌, inl, inr, ℕ, ◌+◌, ◌<◌, ◌==◌, Bool, true, false, not, ◌&&◌, ◌||◌, List, [], ◌∷◌, ◌++◌, length, Option, Some, None, refl, sym, ap, subst, arith, append_assoc, length-append}
use Rattle.std.specs.Prelude.{if◌then◌else◌, nat_lt, map, is_none, slice_get, unwrap_or}
use Rattle.std.specs.List.{flat_map, position_from}
use Rattle.std.specs.Str.{bytes_eq}
use Rattle.std.proofs.lemmas.Bool.{and_parts, or_parts, or_cases, eq-eqb, eqb-true, false≢true}
use Rattle.std.proofs.lemmas.List.{map-append}
use Rattle.std.proofs.lemmas.Slice.Eq.{bytes_eq-Decides}
use lib.Chars.{codes}
use Rattle.route_table.specs.Table.{lower_then_higher, with_link}
use Rattle.sae_entitlements.specs.Grants.{Sae, Grants, find_sae, home_of, is_allowed, with_sae, with_pair}
use Rattle.sae_entitlements.proofs.Pairs.{allowed_after}
use Rattle.declared_site.specs.declared.site.Site.{Site}
use Rattle.scenario_text.specs.Words.{Word, one_of, two_of, is_name}
use Rattle.scenario_text.specs.Fields.{node_of, sae_of}
use Rattle.scenario_text.specs.Declaring.{declared_node, declared_link, declared_sae, declared_pair, is_joined, free_link}
use Rattle.scenario_text.specs.Line.{is_declaration}
use Rattle.scenario_format.specs.Form.{Said, words, of_kind, place, in_order, is_allowed_in}
use Rattle.scenario_format.specs.Spelled.{node_line, link_lines, sae_line, allowed_at, may}
use Rattle.scenario_format.proofs.Given.{same_some, bound, asserted, guarded}
use Rattle.scenario_format.proofs.Values.{one_word, two_words, found, same_bytes}
use Rattle.scenario_format.proofs.Places.{place_below, found_front, IsFoundLast, found_last, named, IsFilled, filled_at, lines_at}
use Rattle.scenario_format.proofs.FirstWords.{more, kept_words, same_words, one_pair, same_pairs}

-- the site with these nodes added
abbrev pub later : Site → List Word → Site
later site names = record site { nodes = site.nodes ++ names }

abbrev pub IsKnown : Grants → Type 0
IsKnown g = (m s : ℕ) → is_allowed g m s ≡ true → (m < length g.saes) × (s < length g.saes)

-- The lines that were read so far declare this site. That stays so whichever nodes are declared later.
pub record IsSite (site : Site) (lines : List Said) : Type 0 where
  pub nodes : words (of_kind (codes "node") lines) ≡ map node_line site.nodes
  pub links : (names : List Word) → map (in_order (site.nodes ++ names)) (words (of_kind (codes "link") lines)) ≡ flat_map (link_lines (later site names)) site.routes
  pub saes : (names : List Word) → words (of_kind (codes "sae") lines) ≡ map (sae_line (later site names)) site.entitlements.saes
  pub pairs : (m s : Word) → is_allowed_in lines m s ≡ may site.entitlements m s
  pub filled : IsFilled site.routes
  pub known : IsKnown site.entitlements

abbrev is_node : Word → Bool
is_node w = bytes_eq w (codes "node")

abbrev is_link : Word → Bool
is_link w = bytes_eq w (codes "link")

abbrev is_sae : Word → Bool
is_sae w = bytes_eq w (codes "sae")

abbrev is_allow : Word → Bool
is_allow w = bytes_eq w (codes "allow")

-- A line that declares nothing leaves the site as it was.
pub other_line : (site : Site) (lines : List Said) (n : ℕ) (w : Word) (ws : List Word) → is_declaration w ≡ false → IsSite site lines → IsSite site (more lines n w ws)
other_line site lines n w ws other h =
    let front = or_parts (is_node w || is_link w || is_sae w) (is_allow w) other in
    let middle = or_parts (is_node w || is_link w) (is_sae w) front.0 in
    let first = or_parts (is_node w) (is_link w) middle.0 in
    record {
      nodes = same_words is_node lines n w ws first.0 ∙ h.nodes;
      links = λ names. ap (map (in_order (site.nodes ++ names))) (same_words is_link lines n w ws first.1) ∙ h.links names;
      saes = λ names. same_words is_sae lines n w ws middle.1 ∙ h.saes names;
      pairs = λ m s. same_pairs lines n w ws m s front.1 ∙ h.pairs m s;
      filled = h.filled;
      known = h.known;
    }

-- ---- nodes

with_node : (site : Site) (lines : List Said) (n : ℕ) (name : Word) → IsSite site lines → IsSite (record site { nodes = site.nodes ++ name ∷ [] }) (more lines n (codes "node") (name ∷ []))
with_node site lines n name h =
    record {
      nodes =
          kept_words is_node lines n (codes "node") (name ∷ []) refl
          ∙ ap (λ (xs : List (List Word)). xs ++ node_line name ∷ []) h.nodes
          ∙ sym (map-append node_line site.nodes (name ∷ []));
      links = λ names.
          ap (map (in_order ((site.nodes ++ name ∷ []) ++ names))) (same_words is_link lines n (codes "node") (name ∷ []) refl)
          ∙ subst (λ (ns : List Word). map (in_order ns) (words (of_kind (codes "link") lines)) ≡ flat_map (link_lines (record site { nodes = ns })) site.routes) (sym (append_assoc site.nodes (name ∷ []) names)) (h.links (name ∷ names));
      saes = λ names.
          same_words is_sae lines n (codes "node") (name ∷ []) refl
          ∙ subst (λ (ns : List Word). words (of_kind (codes "sae") lines) ≡ map (sae_line (record site { nodes = ns })) site.entitlements.saes) (sym (append_assoc site.nodes (name ∷ []) names)) (h.saes (name ∷ names));
      pairs = λ m s. same_pairs lines n (codes "node") (name ∷ []) m s refl ∙ h.pairs m s;
      filled = h.filled;
      known = h.known;
    }

pub node_said : (site : Site) (lines : List Said) (n : ℕ) (ws : List Word) (now : Site) → IsSite site lines → declared_node site ws ≡ Some now → IsSite now (more lines n (codes "node") ws)
unfolding declared_node
node_said site lines n ws now h e =
    let name = bound (one_of ws) _ now e in
    let made = guarded (is_name 32 name.0 && is_none (position_from (λ other. bytes_eq other name.0) 0 site.nodes) && nat_lt (length site.nodes) 16) _ now name.2 in
    subst (λ (us : List Word). IsSite now (more lines n (codes "node") us)) (sym (one_word ws name.0 name.1))
    (subst (λ (s : Site). IsSite s (more lines n (codes "node") (name.0 ∷ []))) made.1 (with_node site lines n name.0 h))

-- ---- links

node_place : (site : Site) (w : Word) (v : ℕ) → node_of site w ≡ Some v → position_from (λ name. bytes_eq name w) 0 site.nodes ≡ Some v
unfolding node_of
node_place site w v e =
    let at = bound (position_from (λ name. bytes_eq name w) 0 site.nodes) _ v e in
    at.1 ∙ ap (λ (x : ℕ). Some x) (guarded (nat_lt at.0 16) at.0 v at.2).1

abbrev name_at : List Word → ℕ → Word
name_at names v = unwrap_or (slice_get names v) []

abbrev ends_by : Bool → ℕ → ℕ → ℕ × ℕ
ends_by low v w = if low then (v, w) else (w, v)

ordered_by : (low : Bool) (names : List Word) (a b : Word) (v w : ℕ) → name_at names v ≡ a → name_at names w ≡ b
    → (if low then codes "link" ∷ a ∷ b ∷ [] else codes "link" ∷ b ∷ a ∷ []) ≡ codes "link" ∷ name_at names (ends_by low v w).0 ∷ name_at names (ends_by low v w).1 ∷ []
ordered_by true names a b v w first second = rw (first, second) refl
ordered_by false names a b v w first second = rw (first, second) refl

ordered : (names : List Word) (a b : Word) (v w : ℕ) → (name_at names v ≡ a) × (place names a ≡ v) → (name_at names w ≡ b) × (place names b ≡ w)
    → in_order names (codes "link" ∷ a ∷ b ∷ []) ≡ codes "link" ∷ name_at names (lower_then_higher v w).0 ∷ name_at names (lower_then_higher v w).1 ∷ []
ordered names a b v w first second =
    ap (λ (x : ℕ). if nat_lt x (place names b) then codes "link" ∷ a ∷ b ∷ [] else codes "link" ∷ b ∷ a ∷ []) first.1
    ∙ ap (λ (x : ℕ). if nat_lt v x then codes "link" ∷ a ∷ b ∷ [] else codes "link" ∷ b ∷ a ∷ []) second.1
    ∙ ordered_by (nat_lt v w) names a b v w first.0 second.0

with_ends : (site : Site) (lines : List Said) (n : ℕ) (a b : Word) (v w link : ℕ) → node_of site a ≡ Some v → node_of site b ≡ Some w → free_link site.routes ≡ Some link → IsSite site lines
    → IsSite (record site { routes = with_link site.routes link v w }) (more lines n (codes "link") (a ∷ b ∷ []))
with_ends site lines n a b v w link first second free h =
    let zero_more : link ≡ 0 + link = omega arith in
    record {
      nodes = same_words is_node lines n (codes "link") (a ∷ b ∷ []) refl ∙ h.nodes;
      links = λ names.
          ap (map (in_order (site.nodes ++ names))) (kept_words is_link lines n (codes "link") (a ∷ b ∷ []) refl)
          ∙ map-append (in_order (site.nodes ++ names)) (words (of_kind (codes "link") lines)) ((codes "link" ∷ a ∷ b ∷ []) ∷ [])
          ∙ ap (λ (xs : List (List Word)). xs ++ in_order (site.nodes ++ names) (codes "link" ∷ a ∷ b ∷ []) ∷ []) (h.links names)
          ∙ ap (λ (line : List Word). flat_map (link_lines (later site names)) site.routes ++ line ∷ [])
          (ordered (site.nodes ++ names) a b v w (named site.nodes names a v (node_place site a v first)) (named site.nodes names b w (node_place site b w second)))
          ∙ sym (lines_at (link_lines (later site names)) refl site.routes 0 link link (lower_then_higher v w) h.filled free zero_more);
      saes = λ names. same_words is_sae lines n (codes "link") (a ∷ b ∷ []) refl ∙ h.saes names;
      pairs = λ m s. same_pairs lines n (codes "link") (a ∷ b ∷ []) m s refl ∙ h.pairs m s;
      filled = filled_at site.routes 0 link link (lower_then_higher v w) h.filled free zero_more;
      known = h.known;
    }

pub link_said : (site : Site) (lines : List Said) (n : ℕ) (ws : List Word) (now : Site) → IsSite site lines → declared_link site ws ≡ Some now → IsSite now (more lines n (codes "link") ws)
unfolding declared_link
link_said site lines n ws now h e =
    let w = bound (two_of ws) _ now e in
    let a = bound (node_of site w.0.0) _ now w.2 in
    let b = bound (node_of site w.0.1) _ now a.2 in
    let link = bound (free_link site.routes) _ now b.2 in
    let made = guarded (not (a.0 == b.0) && not (is_joined site.routes a.0 b.0)) _ now link.2 in
    subst (λ (us : List Word). IsSite now (more lines n (codes "link") us)) (sym (two_words ws w.0 w.1))
    (subst (λ (s : Site). IsSite s (more lines n (codes "link") (w.0.0 ∷ w.0.1 ∷ []))) made.1 (with_ends site lines n w.0.0 w.0.1 a.0 b.0 link.0 a.1 b.1 link.1 h))

-- ---- applications

module _ (g : Grants) (known : IsKnown g) where
  nobody_by : (m s : ℕ) (b : Bool) → is_allowed g m s ≡ b → (m ≡ length g.saes) ⊎ (s ≡ length g.saes) → b ≡ false
  nobody_by m s false is last = refl
  nobody_by m s true is (inl last) = let there = known m s is in let below = there.0 in absurd (omega (arith, below, last))
  nobody_by m s true is (inr last) = let there = known m s is in let below = there.1 in absurd (omega (arith, below, last))

  -- No pair has an application that is only declared now, so the allowed pairs stay the same.
  allowed_before : (om os pm ps : Option ℕ) → ((v : ℕ) → om ≡ Some v → pm ≡ Some v) → (om ≡ None → IsFoundLast (length g.saes) pm) → ((v : ℕ) → os ≡ Some v → ps ≡ Some v) → (os ≡ None → IsFoundLast (length g.saes) ps)
      → allowed_at g pm ps ≡ allowed_at g om os
  allowed_before (Some m) (Some s) pm ps first _ second _ = rw (first m refl, second s refl) refl
  allowed_before (Some m) None pm None first _ _ second = rw (first m refl) refl
  allowed_before (Some m) None pm (Some s) first _ _ second = rw (first m refl) (nobody_by m s (is_allowed g m s) refl (inr (second refl)))
  allowed_before None os None ps _ first _ second = refl
  allowed_before None os (Some m) None _ first _ second = refl
  allowed_before None os (Some m) (Some s) _ first _ second = nobody_by m s (is_allowed g m s) refl (inl (first refl))

  may_before : (new : Sae) (m s : Word) → allowed_at g (find_sae (g.saes ++ new ∷ []) m) (find_sae (g.saes ++ new ∷ []) s) ≡ may g m s
  may_before new m s =
      allowed_before (find_sae g.saes m) (find_sae g.saes s) (find_sae (g.saes ++ new ∷ []) m) (find_sae (g.saes ++ new ∷ []) s) (still m) (last m) (still s) (last s)
    where
      still : (id : Word) (v : ℕ) → find_sae g.saes id ≡ Some v → find_sae (g.saes ++ new ∷ []) id ≡ Some v
      still id v e = found_front (λ (x : Sae). bytes_eq x.id id) 0 g.saes (new ∷ []) v e

      at_length : (n : ℕ) (o : Option ℕ) → IsFoundLast (0 + n) o → IsFoundLast n o
      at_length n None h = tt
      at_length n (Some v) h = omega (arith, h)

      last : (id : Word) → find_sae g.saes id ≡ None → IsFoundLast (length g.saes) (find_sae (g.saes ++ new ∷ []) id)
      last id e = at_length (length g.saes) (find_sae (g.saes ++ new ∷ []) id) (found_last (λ (x : Sae). bytes_eq x.id id) 0 g.saes new e)

with_application : (site : Site) (lines : List Said) (n : ℕ) (id a : Word) (home : ℕ) → node_of site a ≡ Some home → IsSite site lines
    → IsSite (record site { entitlements = with_sae site.entitlements id home }) (more lines n (codes "sae") (id ∷ a ∷ []))
with_application site lines n id a home at h =
    let new : Sae = record { id = id; home = home } in
    record {
      nodes = same_words is_node lines n (codes "sae") (id ∷ a ∷ []) refl ∙ h.nodes;
      links = λ names. ap (map (in_order (site.nodes ++ names))) (same_words is_link lines n (codes "sae") (id ∷ a ∷ []) refl) ∙ h.links names;
      saes = λ names.
          kept_words is_sae lines n (codes "sae") (id ∷ a ∷ []) refl
          ∙ ap (λ (xs : List (List Word)). xs ++ (codes "sae" ∷ id ∷ a ∷ []) ∷ []) (h.saes names)
          ∙ ap (λ (w : Word). map (sae_line (later site names)) site.entitlements.saes ++ (codes "sae" ∷ id ∷ w ∷ []) ∷ []) (sym (named site.nodes names a home (node_place site a home at)).0)
          ∙ sym (map-append (sae_line (later site names)) site.entitlements.saes (new ∷ []));
      pairs = λ m s. same_pairs lines n (codes "sae") (id ∷ a ∷ []) m s refl ∙ h.pairs m s ∙ sym (may_before site.entitlements h.known new m s);
      filled = h.filled;
      known = λ m s e.
          let there = h.known m s e in
          let first = there.0 in
          let second = there.1 in
          let long = length-append site.entitlements.saes (new ∷ []) in
          (omega (arith, first, long), omega (arith, second, long));
    }

pub sae_said : (site : Site) (lines : List Said) (n : ℕ) (ws : List Word) (now : Site) → IsSite site lines → declared_sae site ws ≡ Some now → IsSite now (more lines n (codes "sae") ws)
unfolding declared_sae
sae_said site lines n ws now h e =
    let w = bound (two_of ws) _ now e in
    let home = bound (node_of site w.0.1) _ now w.2 in
    let made = guarded (is_name 64 w.0.0 && is_none (find_sae site.entitlements.saes w.0.0) && nat_lt (length site.entitlements.saes) 256) _ now home.2 in
    subst (λ (us : List Word). IsSite now (more lines n (codes "sae") us)) (sym (two_words ws w.0 w.1))
    (subst (λ (s : Site). IsSite s (more lines n (codes "sae") (w.0.0 ∷ w.0.1 ∷ []))) made.1 (with_application site lines n w.0.0 w.0.1 home.0 home.1 h))

-- ---- allowed pairs

id_at : (saes : List Sae) (w : Word) (m : ℕ) → find_sae saes w ≡ Some m → (sae : Sae) × (slice_get saes m ≡ Some sae) × (sae.id ≡ w)
id_at saes w m e = let at = found (λ (s : Sae). bytes_eq s.id w) saes m e in (at.0, at.1, same_bytes at.0.id w at.2)

-- Two applications with the same number have the same ID.
same_id : (saes : List Sae) (w x : Word) (m a : ℕ) → find_sae saes w ≡ Some m → find_sae saes x ≡ Some a → a ≡ m → w ≡ x
same_id saes w x m a first second same =
    let here = id_at saes w m first in
    let there = id_at saes x a second in
    let one : here.0 ≡ there.0 = same_some here.0 there.0 (sym here.1 ∙ ap (slice_get saes) (sym same) ∙ there.1) in
    sym here.2 ∙ ap (λ (s : Sae). s.id) one ∙ there.2

same_number : (saes : List Sae) (w x : Word) (m a : ℕ) → find_sae saes w ≡ Some m → find_sae saes x ≡ Some a → w ≡ x → a ≡ m
same_number saes w x m a first second same = same_some a m (sym second ∙ ap (find_sae saes) (sym same) ∙ first)

tests_agree : (P : Type 0) (b c : Bool) → (b ≡ true → P) → (P → b ≡ true) → (c ≡ true → P) → (P → c ≡ true) → b ≡ c
tests_agree P true true f g h k = refl
tests_agree P true false f g h k = absurd (false≢true (k (f refl)))
tests_agree P false true f g h k = absurd (false≢true (g (h refl)))
tests_agree P false false f g h k = refl

same_test : (saes : List Sae) (w x : Word) (m a : ℕ) → find_sae saes w ≡ Some m → find_sae saes x ≡ Some a → bytes_eq w x ≡ (a == m)
same_test saes w x m a first second =
    tests_agree (w ≡ x) (bytes_eq w x) (a == m) (same_bytes w x) (bytes_eq-Decides w x).1
    (λ e. same_id saes w x m a first second (eqb-true a m e)) (λ e. eq-eqb a m (same_number saes w x m a first second e))

other_id : (saes : List Sae) (w x : Word) (m : ℕ) (b : Bool) → find_sae saes w ≡ Some m → find_sae saes x ≡ None → bytes_eq w x ≡ b → b ≡ false
other_id saes w x m false first none is = refl
other_id saes w x m true first none is = let same = ap (find_sae saes) (same_bytes w x is) in absurd cc

or_swap : (a b : Bool) → (a || b) ≡ (b || a)
or_swap true true = refl
or_swap true false = refl
or_swap false true = refl
or_swap false false = refl

and_no : (a b : Bool) → b ≡ false → (a && b) ≡ false
and_no true b e = e
and_no false b e = refl

no_and : (a b : Bool) → a ≡ false → (a && b) ≡ false
no_and true b e = absurd (false≢true (sym e))
no_and false b e = refl

module _ (g : Grants) (w z : Word) (m s : ℕ) (first : find_sae g.saes w ≡ Some m) (second : find_sae g.saes z ≡ Some s) where
  pair_by : (x y : Word) (ox oy : Option ℕ) → find_sae g.saes x ≡ ox → find_sae g.saes y ≡ oy → (allowed_at g ox oy || (bytes_eq w x && bytes_eq z y)) ≡ allowed_at (with_pair g m s) ox oy
  pair_by x y (Some a) (Some b) ex ey =
      ap (λ (t : Bool). is_allowed g a b || (t && bytes_eq z y)) (same_test g.saes w x m a first ex)
      ∙ ap (λ (t : Bool). is_allowed g a b || ((a == m) && t)) (same_test g.saes z y s b second ey)
      ∙ or_swap (is_allowed g a b) ((a == m) && (b == s))
      ∙ sym (allowed_after g m s a b)
  pair_by x y (Some a) None ex ey = and_no (bytes_eq w x) (bytes_eq z y) (other_id g.saes z y s (bytes_eq z y) second ey refl)
  pair_by x y None oy ex ey = no_and (bytes_eq w x) (bytes_eq z y) (other_id g.saes w x m (bytes_eq w x) first ex refl)

  known_by : IsKnown g → (a b : ℕ) → (((a == m) && (b == s)) ≡ true) ⊎ (is_allowed g a b ≡ true) → (a < length g.saes) × (b < length g.saes)
  known_by known a b (inr before) = known a b before
  known_by known a b (inl new) =
      let parts = and_parts (a == m) (b == s) new in
      let same = eqb-true a m parts.0 in
      let other = eqb-true b s parts.1 in
      let here = id_at g.saes w m first in
      let there = id_at g.saes z s second in
      let low = place_below g.saes m here.0 here.1 in
      let high = place_below g.saes s there.0 there.1 in
      (omega (arith, same, low), omega (arith, other, high))

with_two : (site : Site) (lines : List Said) (n : ℕ) (w z : Word) (m s : ℕ) → find_sae site.entitlements.saes w ≡ Some m → find_sae site.entitlements.saes z ≡ Some s → IsSite site lines
    → IsSite (record site { entitlements = with_pair site.entitlements m s }) (more lines n (codes "allow") (w ∷ z ∷ []))
with_two site lines n w z m s first second h =
    let g = site.entitlements in
    record {
      nodes = same_words is_node lines n (codes "allow") (w ∷ z ∷ []) refl ∙ h.nodes;
      links = λ names. ap (map (in_order (site.nodes ++ names))) (same_words is_link lines n (codes "allow") (w ∷ z ∷ []) refl) ∙ h.links names;
      saes = λ names. same_words is_sae lines n (codes "allow") (w ∷ z ∷ []) refl ∙ h.saes names;
      pairs = λ x y.
          one_pair lines n (codes "allow") (w ∷ z ∷ []) x y
          ∙ ap (λ (b : Bool). b || (bytes_eq w x && bytes_eq z y)) (h.pairs x y)
          ∙ pair_by g w z m s first second x y (find_sae g.saes x) (find_sae g.saes y) refl refl;
      filled = h.filled;
      known = λ a b e. known_by g w z m s first second h.known a b (or_cases ((a == m) && (b == s)) (is_allowed g a b) (sym (allowed_after g m s a b) ∙ e));
    }

sae_place : (site : Site) (w : Word) (m : ℕ) → sae_of site w ≡ Some m → find_sae site.entitlements.saes w ≡ Some m
unfolding sae_of
sae_place site w m e = (asserted (is_name 64 w) (find_sae site.entitlements.saes w) m e).1

pub pair_said : (site : Site) (lines : List Said) (n : ℕ) (ws : List Word) (now : Site) → IsSite site lines → declared_pair site ws ≡ Some now → IsSite now (more lines n (codes "allow") ws)
unfolding declared_pair
pair_said site lines n ws now h e =
    let w = bound (two_of ws) _ now e in
    let m = bound (sae_of site w.0.0) _ now w.2 in
    let s = bound (sae_of site w.0.1) _ now m.2 in
    let hm = bound (home_of site.entitlements m.0) _ now s.2 in
    let hs = bound (home_of site.entitlements s.0) _ now hm.2 in
    let made = guarded (not (hm.0 == hs.0)) _ now hs.2 in
    subst (λ (us : List Word). IsSite now (more lines n (codes "allow") us)) (sym (two_words ws w.0 w.1))
    (subst (λ (x : Site). IsSite x (more lines n (codes "allow") (w.0.0 ∷ w.0.1 ∷ []))) made.1 (with_two site lines n w.0.0 w.0.1 m.0 s.0 (sae_place site w.0.0 m.0 m.1) (sae_place site w.0.1 s.0 s.1) h))
