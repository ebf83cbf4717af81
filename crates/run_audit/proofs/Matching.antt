-- What the table of contents tells: whether a content matches all earlier ones.
use Rattle.std.proofs.Common.{◌≡◌, ℕ, Bool, true, not, ◌&&◌, ◌||◌, cond, eqb, List, [], ◌∷◌, Option, Some, None, refl, ap, ◌∙◌, subst, inl, inr}
use Rattle.std.specs.List.{list_all}
use Rattle.std.specs.BTreeMap.{BTreeMap}
use Rattle.std.proofs.lemmas.Bool.{cases_Bool, and_parts, eqb-true}
use Rattle.qkd_base.specs.declared.lane.Lane.{Lane}
use Rattle.qkd_base.specs.Lane.{lane_eq}
use Rattle.qkd_base.specs.Name.{Name, name_eq}
use Rattle.run_audit.specs.declared.frames.Frame.{Frame}
use Rattle.run_audit.specs.declared.contents.Content.{Content}
use Rattle.run_audit.specs.Table.{at}
use Rattle.run_audit.specs.Contents.{offset_of, payload_number, is_like, matches}
use Rattle.run_audit.specs.Kept.{place_key, known_at, AreMatching}
use Rattle.run_audit.proofs.Apart.{lane_same}
use Rattle.run_audit.proofs.Keys.{place_keys}
use Rattle.run_audit.proofs.Placing.{Puts}
use Rattle.run_audit.proofs.Telling.{name_same}

-- the test of a content by its parts
abbrev match_parts : Lane → (offset kind : ℕ) → Name → Content → Bool
match_parts l offset kind name d = not (lane_eq d.lane l && eqb d.offset offset) || (eqb (payload_number d.kind) kind && name_eq d.name name)

-- A content that is like an earlier one of its place matches what the earlier one matches.
matches_like : (c d : Content) (ds : List Content) → (lane_eq d.lane c.lane && eqb d.offset c.offset) ≡ true → is_like c d ≡ true → list_all (matches d) ds ≡ true → list_all (matches c) ds ≡ true
matches_like c d ds place like h =
    let where_it_is = and_parts (lane_eq d.lane c.lane) (eqb d.offset c.offset) place in
    let what_it_is = and_parts (eqb (payload_number d.kind) (payload_number c.kind)) (name_eq d.name c.name) like in
    let lane : d.lane ≡ c.lane = lane_same d.lane c.lane where_it_is.0 in
    let offset : d.offset ≡ c.offset = eqb-true d.offset c.offset where_it_is.1 in
    let kind : payload_number d.kind ≡ payload_number c.kind = eqb-true (payload_number d.kind) (payload_number c.kind) what_it_is.0 in
    let name : d.name ≡ c.name = name_same d.name c.name what_it_is.1 in
    subst (λ (n : Name). list_all (match_parts c.lane c.offset (payload_number c.kind) n) ds ≡ true) name
    (subst (λ (k : ℕ). list_all (match_parts c.lane c.offset k d.name) ds ≡ true) kind
    (subst (λ (o : ℕ). list_all (match_parts c.lane o (payload_number d.kind) d.name) ds ≡ true) offset
    (subst (λ (l : Lane). list_all (match_parts l d.offset (payload_number d.kind) d.name) ds ≡ true) lane h)))

-- whether a content is like what is known of its place
abbrev pub is_like_known : Content → Option Content → Bool
is_like_known c None = true
is_like_known c (Some d) = is_like c d

-- A content that is like what is known of its place matches all earlier ones.
pub matches_known : (c : Content) (cs : List Content) → AreMatching cs → is_like_known c (known_at c.lane c.offset cs) ≡ list_all (matches c) cs
matches_known c [] h = refl
matches_known c (d ∷ ds) h = elim (cases_Bool (lane_eq d.lane c.lane && eqb d.offset c.offset)) [
  | inl same ↦ elim (cases_Bool (is_like c d)) [
    | inl like ↦ rw (same, like, matches_like c d ds same like h.0) refl
    | inr unlike ↦ rw (same, unlike) refl
  ]
  | inr other ↦ rw other (matches_known c ds h.1)
]

pub known_more : (old new : BTreeMap (List ℕ) Content) (c : Content) (cs : List Content) → ((l : Lane) (offset : ℕ) → at old (place_key l offset) ≡ known_at l offset cs) → Puts old new (place_key c.lane c.offset) c
    → (l : Lane) (offset : ℕ) → at new (place_key l offset) ≡ known_at l offset (c ∷ cs)
known_more old new c cs has put l offset =
    put (place_key l offset)
    ∙ ap (λ (b : Bool). cond b (Some c) (at old (place_key l offset))) (place_keys c.lane l c.offset offset)
    ∙ ap (λ (o : Option Content). cond (lane_eq c.lane l && eqb c.offset offset) (Some c) o) (has l offset)

pub numbers_more : (old new : BTreeMap (List ℕ) ℕ) (f : Frame) (fs : List Frame) → ((l : Lane) (number : ℕ) → at old (place_key l number) ≡ offset_of l number fs) → Puts old new (place_key f.lane f.number) f.offset
    → (l : Lane) (number : ℕ) → at new (place_key l number) ≡ offset_of l number (f ∷ fs)
numbers_more old new f fs has put l number =
    put (place_key l number)
    ∙ ap (λ (b : Bool). cond b (Some f.offset) (at old (place_key l number))) (place_keys f.lane l f.number number)
    ∙ ap (λ (o : Option ℕ). cond (lane_eq f.lane l && eqb f.number number) (Some f.offset) o) (has l number)
