-- A value that was read from a word is spelled by that word.
use Rattle.std.proofs.Common.{◌≡◌, ◌∙◌, inl, inr, ◌++◌, append-nil, append_assoc, ℕ, suc, ◌+◌, ◌<◌, ◌%◌, ◌^◌, ◌==◌, Bool, true, false, not, ◌&&◌, ◌||◌, List, [], ◌∷◌, length, Option, Some, None, refl, sym, ap, subst, arith, rules}
use Rattle.std.specs.Prelude.{if◌then◌else◌, nat_lt, nat_le, map, is_some, slice_get, unwrap_or}
use Rattle.std.specs.List.{position_from, list_all, list_any}
use Rattle.std.proofs.lemmas.List.{map-append}
use Rattle.std.specs.Option.{option_map}
use Rattle.std.specs.Str.{bytes_eq}
use Rattle.std.specs.Fmt.{decimal}
use Rattle.std.proofs.lemmas.Bool.{and_parts, or_cases, ltb-true, eqb-true, eqb-false, not-true}
use Rattle.std.proofs.lemmas.Slice.Eq.{bytes_eq-Decides}
use Rattle.std.proofs.lemmas.Fmt.{decimal-digits_value}
use Rattle.std.proofs.lemmas.Str.Parse.{IsNumeralModel, numerals_by_fold}
use lib.Chars.{codes}
use Rattle.uuid.specs.Text.{parsed, hyphenated_text, lower}
use Rattle.qkd_base.specs.declared.lane.Way.{Way}
use Rattle.qkd_base.specs.declared.lane.Way.TheVariants.{Up, Down}
use Rattle.qkd_base.specs.declared.lane.Lane.{Lane}
use Rattle.qkd_base.specs.declared.key_name.NameKind.TheVariants.{Stream}
use Rattle.qkd_base.specs.Name.{Name, name_at, octets_of, kind_eq}
use Rattle.route_table.specs.Table.{ends_of}
use Rattle.sae_entitlements.specs.Grants.{Sae, find_sae}
use Rattle.declared_site.specs.declared.site.Site.{Site}
use Rattle.run_types.specs.declared.end.Ends.{Ends}
use Rattle.run_types.specs.declared.end.Ends.TheVariants.{Low, High, Both}
use Rattle.run_types.specs.declared.image.Image.{Image}
use Rattle.run_types.specs.declared.image.Image.TheVariants.{Lost, Kept, Torn}
use Rattle.scenario_text.specs.Words.{Word, first_of, one_of, two_of, three_of, four_of, five_of, is_name, is_digit, is_numeral, number_on, number_of, number_in}
use Rattle.scenario_text.specs.Fields.{node_of, sae_of, link_of, way_of, lane_of, name_of, stream_of, size_of, ends_named, image_named}
use Rattle.scenario_text.specs.Commanding.{names_of, few_names_of, slaves_after, group_of}
use Rattle.scenario_format.specs.Spelling.{node_word, sae_word, way_word, ends_word, image_word, name_word}
use Rattle.scenario_format.proofs.Given.{same_some, bound, asserted, guarded, excluded}

-- ---- fixed numbers of words

pub first_words : (ws : List Word) (p : Word × List Word) → first_of ws ≡ Some p → ws ≡ p.0 ∷ p.1
first_words [] p e = absurd cc
first_words (w ∷ ws) p e = ap (λ (q : Word × List Word). q.0 ∷ q.1) (same_some (w, ws) p e)

pub none_left : (ws : List Word) → (length ws == 0) ≡ true → ws ≡ []
none_left [] e = refl
none_left (w ∷ ws) e = let never = eqb-true (length (w ∷ ws)) 0 e in absurd (omega (arith, never))

pub one_word : (ws : List Word) (w : Word) → one_of ws ≡ Some w → ws ≡ w ∷ []
one_word ws w e =
    let p = bound (first_of ws) _ w e in
    let kept = guarded (length p.0.1 == 0) p.0.0 w p.2 in
    first_words ws p.0 p.1 ∙ ap (λ (rest : List Word). p.0.0 ∷ rest) (none_left p.0.1 kept.0) ∙ ap (λ (x : Word). x ∷ []) kept.1

pub two_words : (ws : List Word) (t : Word × Word) → two_of ws ≡ Some t → ws ≡ t.0 ∷ t.1 ∷ []
two_words ws t e =
    let p = bound (first_of ws) _ t e in
    let last = bound (one_of p.0.1) _ t p.2 in
    first_words ws p.0 p.1 ∙ ap (λ (rest : List Word). p.0.0 ∷ rest) (one_word p.0.1 last.0 last.1) ∙ ap (λ (x : Word × Word). x.0 ∷ x.1 ∷ []) (same_some (p.0.0, last.0) t last.2)

pub three_words : (ws : List Word) (t : Word × Word × Word) → three_of ws ≡ Some t → ws ≡ t.0 ∷ t.1 ∷ t.2 ∷ []
three_words ws t e =
    let p = bound (first_of ws) _ t e in
    let rest = bound (two_of p.0.1) _ t p.2 in
    first_words ws p.0 p.1 ∙ ap (λ (rest : List Word). p.0.0 ∷ rest) (two_words p.0.1 rest.0 rest.1)
    ∙ ap (λ (x : Word × Word × Word). x.0 ∷ x.1 ∷ x.2 ∷ []) (same_some (p.0.0, rest.0.0, rest.0.1) t rest.2)

pub four_words : (ws : List Word) (t : Word × Word × Word × Word) → four_of ws ≡ Some t → ws ≡ t.0 ∷ t.1 ∷ t.2 ∷ t.3 ∷ []
four_words ws t e =
    let p = bound (first_of ws) _ t e in
    let rest = bound (three_of p.0.1) _ t p.2 in
    first_words ws p.0 p.1 ∙ ap (λ (rest : List Word). p.0.0 ∷ rest) (three_words p.0.1 rest.0 rest.1)
    ∙ ap (λ (x : Word × Word × Word × Word). x.0 ∷ x.1 ∷ x.2 ∷ x.3 ∷ []) (same_some (p.0.0, rest.0.0, rest.0.1, rest.0.2) t rest.2)

pub five_words : (ws : List Word) (t : Word × Word × Word × Word × Word) → five_of ws ≡ Some t → ws ≡ t.0 ∷ t.1 ∷ t.2 ∷ t.3 ∷ t.4 ∷ []
five_words ws t e =
    let p = bound (first_of ws) _ t e in
    let rest = bound (four_of p.0.1) _ t p.2 in
    first_words ws p.0 p.1 ∙ ap (λ (rest : List Word). p.0.0 ∷ rest) (four_words p.0.1 rest.0 rest.1)
    ∙ ap (λ (x : Word × Word × Word × Word × Word). x.0 ∷ x.1 ∷ x.2 ∷ x.3 ∷ x.4 ∷ []) (same_some (p.0.0, rest.0.0, rest.0.1, rest.0.2, rest.0.3) t rest.2)

-- ---- nodes, applications and links

pub same_bytes : (x y : List ℕ) → bytes_eq x y ≡ true → x ≡ y
same_bytes x y e = (bytes_eq-Decides x y).0 e

-- A value was read by one of two rules: the first for the word `kind`, the second for all other words. What each rule implies holds for the value.
pub by_word : {X : Type 0} (P : Word → Type 0) (word kind : Word) (b : Bool) (o p : Option X) (x : X) → bytes_eq word kind ≡ b → (o ≡ Some x → P kind) → (b ≡ false → p ≡ Some x → P word) → (if b then o else p) ≡ Some x → P word
by_word P word kind true o p x is first other e = subst P (sym (same_bytes word kind is)) (first e)
by_word P word kind false o p x is first other e = other refl e

-- The element at the place that a search found passes the search's test.
found_step : {X : Type 0} (t : X → Bool) (x : X) (xs : List X) (i v : ℕ) (b : Bool) (o : Option ℕ) → t x ≡ b →
    (o ≡ Some v → (n : ℕ) × (y : X) × (v ≡ i + 1 + n) × (slice_get xs n ≡ Some y) × (t y ≡ true)) → (if b then Some i else o) ≡ Some v →
    (n : ℕ) × (y : X) × (v ≡ i + n) × (slice_get (x ∷ xs) n ≡ Some y) × (t y ≡ true)
found_step t x xs i v true o is later e = let here = same_some i v e in (0, x, omega (arith, here), refl, is)
found_step t x xs i v false o is later e = let more = later e in (suc more.0, more.1, (let at = more.2 in omega (arith, at)), more.3, more.4)

found_at : {X : Type 0} (t : X → Bool) (i : ℕ) (xs : List X) (v : ℕ) → position_from t i xs ≡ Some v → (n : ℕ) × (x : X) × (v ≡ i + n) × (slice_get xs n ≡ Some x) × (t x ≡ true)
found_at t i [] v e = absurd cc
found_at t i (x ∷ xs) v e = found_step t x xs i v (t x) (position_from t (i + 1) xs) refl (found_at t (i + 1) xs v) e

pub found : {X : Type 0} (t : X → Bool) (xs : List X) (v : ℕ) → position_from t 0 xs ≡ Some v → (x : X) × (slice_get xs v ≡ Some x) × (t x ≡ true)
found t xs v e =
    let at = found_at t 0 xs v e in
    let is : v ≡ at.0 = (let place = at.2 in omega (arith, place)) in
    (at.1, ap (slice_get xs) is ∙ at.3, at.4)

pub node_spelled : (site : Site) (w : Word) (v : ℕ) → node_of site w ≡ Some v → node_word site v ≡ w
unfolding node_of
node_spelled site w v e =
    let at = bound (position_from (λ name. bytes_eq name w) 0 site.nodes) _ v e in
    let same = (guarded (nat_lt at.0 16) at.0 v at.2).1 in
    let name = found (λ name. bytes_eq name w) site.nodes at.0 at.1 in
    ap (node_word site) (sym same) ∙ ap (λ (o : Option Word). unwrap_or o []) name.1 ∙ same_bytes name.0 w name.2

pub sae_spelled : (site : Site) (w : Word) (n : ℕ) → sae_of site w ≡ Some n → sae_word site n ≡ w
unfolding sae_of
sae_spelled site w n e =
    let named = asserted (is_name 64 w) (find_sae site.entitlements.saes w) n e in
    let sae = found (λ (s : Sae). bytes_eq s.id w) site.entitlements.saes n named.1 in
    ap (λ (o : Option Sae). unwrap_or (option_map (λ (s : Sae). s.id) o) []) sae.1 ∙ same_bytes sae.0.id w sae.2

-- ---- decimal numbers

own : IsNumeralModel (λ ds. list_all is_digit ds ≡ true) (number_on 0)
own = numerals_by_fold _ (search rules) number_on (search rules)

lone_zero : (c : ℕ) (cs : List ℕ) → (length cs == 0 || not (c == 48)) ≡ true → c ≡ 48 → length (c ∷ cs) ≡ 1
lone_zero c [] e is = refl
lone_zero c (d ∷ cs) e is =
    elim (or_cases (length (d ∷ cs) == 0) (not (c == 48)) e) [
      | inl none ↦ let never = eqb-true (length (d ∷ cs)) 0 none in absurd (omega (arith, never))
      | inr other ↦ let differ = eqb-false c 48 (not-true (c == 48) other) in absurd (omega (arith, differ, is))
    ]

numeral_spelled : (w : Word) → is_numeral w ≡ true → number_on 0 w < 2 ^ 64 → decimal (number_on 0 w) ≡ w
numeral_spelled [] e small = absurd cc
numeral_spelled (c ∷ cs) e small =
    let parts = and_parts (list_all is_digit (c ∷ cs)) (length cs == 0 || not (c == 48)) e in
    decimal-digits_value own (c ∷ cs) parts.0 (omega arith) (lone_zero c cs parts.1) small

pub number_spelled : (w : Word) (n : ℕ) → number_of w ≡ Some n → decimal n ≡ w
unfolding number_of
number_spelled w n e =
    let kept = guarded (is_numeral w && nat_lt (number_on 0 w) (2 ^ 32)) (number_on 0 w) n e in
    let parts = and_parts (is_numeral w) (nat_lt (number_on 0 w) (2 ^ 32)) kept.0 in
    let small = ltb-true (number_on 0 w) (2 ^ 32) parts.1 in
    ap decimal (sym kept.1) ∙ numeral_spelled w parts.0 (omega (arith, small))

pub number_in_spelled : (least most : ℕ) (w : Word) (n : ℕ) → number_in least most w ≡ Some n → decimal n ≡ w
unfolding number_in
number_in_spelled least most w n e =
    let number = bound (number_of w) _ n e in
    let kept = guarded (nat_le least number.0 && nat_le number.0 most) number.0 n number.2 in
    ap decimal (sym kept.1) ∙ number_spelled w number.0 number.1

pub size_spelled : (w : Word) (bits : ℕ) → size_of w ≡ Some bits → decimal bits ≡ w
unfolding size_of
size_spelled w bits e =
    let number = bound (number_in 64 4096 w) _ bits e in
    let kept = guarded (number.0 % 8 == 0) number.0 bits number.2 in
    ap decimal (sym kept.1) ∙ number_in_spelled 64 4096 w number.0 number.1

pub link_spelled : (site : Site) (w : Word) (l : ℕ) → link_of site w ≡ Some l → decimal l ≡ w
unfolding link_of
link_spelled site w l e =
    let number = bound (number_in 0 31 w) _ l e in
    let kept = guarded (is_some (ends_of site.routes number.0)) number.0 l number.2 in
    ap decimal (sym kept.1) ∙ number_in_spelled 0 31 w number.0 number.1

-- ---- words of a fixed choice

-- A word that was read as one of a fixed choice is that one's word.
chosen : {X : Type 0} (word : X → Word) (w : Word) (x y : X) → bytes_eq w (word x) ≡ true → Some x ≡ Some y → word y ≡ w
chosen word w x y here e = ap word (sym (same_some x y e)) ∙ sym (same_bytes w (word x) here)

choice : {X : Type 0} (word : X → Word) (w : Word) (x y : X) (b : Bool) (o : Option X) → bytes_eq w (word x) ≡ b → (o ≡ Some y → word y ≡ w) → (if b then Some x else o) ≡ Some y → word y ≡ w
choice word w x y true o is other e = chosen word w x y is e
choice word w x y false o is other e = other e

pub way_spelled : (w : Word) (way : Way) → way_of w ≡ Some way → way_word way ≡ w
way_spelled w way e = choice way_word w Up way (bytes_eq w (codes "up")) _ refl (choice way_word w Down way (bytes_eq w (codes "down")) None refl (λ none. absurd cc)) e

pub ends_spelled : (w : Word) (ends : Ends) → ends_named w ≡ Some ends → ends_word ends ≡ w
ends_spelled w ends e =
    choice ends_word w Low ends (bytes_eq w (codes "low")) _ refl
    (choice ends_word w High ends (bytes_eq w (codes "high")) _ refl (choice ends_word w Both ends (bytes_eq w (codes "both")) None refl (λ none. absurd cc))) e

pub image_spelled : (w : Word) (image : Image) → image_named w ≡ Some image → image_word image ≡ w
image_spelled w image e =
    choice image_word w Lost image (bytes_eq w (codes "lost")) _ refl
    (choice image_word w Kept image (bytes_eq w (codes "kept")) _ refl (choice image_word w Torn image (bytes_eq w (codes "torn")) None refl (λ none. absurd cc))) e

pub lane_spelled : (site : Site) (link way : Word) (l : Lane) → lane_of site link way ≡ Some l → (decimal l.link ≡ link) × (way_word l.way ≡ way)
unfolding lane_of
lane_spelled site link way l e =
    let number = bound (link_of site link) _ l e in
    let side = bound (way_of way) _ l number.2 in
    let made : record { link = number.0; way = side.0 } ≡ l = same_some _ l side.2 in
    (ap (λ (x : Lane). decimal x.link) (sym made) ∙ link_spelled site link number.0 number.1, ap (λ (x : Lane). way_word x.way) (sym made) ∙ way_spelled way side.0 side.1)

-- ---- names of keys

pub name_spelled : (w : Word) (n : Name) → name_of w ≡ Some n → name_word n ≡ w
unfolding name_of
name_spelled w n e =
    let os = bound (parsed w) _ n e in
    let named = bound (name_at os.0) _ n os.2 in
    let kept = guarded (bytes_eq w (hyphenated_text lower (octets_of named.0))) named.0 n named.2 in
    ap name_word (sym kept.1) ∙ sym (same_bytes w (name_word named.0) kept.0)

pub stream_spelled : (w : Word) (n : Name) → stream_of w ≡ Some n → name_word n ≡ w
unfolding stream_of
stream_spelled w n e =
    let named = bound (name_of w) _ n e in
    let kept = guarded (kind_eq named.0.kind Stream) named.0 n named.2 in
    ap name_word (sym kept.1) ∙ name_spelled w named.0 named.1

names_each : (ws : List Word) (names : List Name) → names_of ws ≡ Some names → map name_word names ≡ ws
names_each [] names e = ap (map name_word) (sym (same_some [] names e))
names_each (w ∷ ws) names e =
    let first = bound (name_of w) _ names e in
    let others = bound (names_of ws) _ names first.2 in
    ap (map name_word) (sym (same_some (first.0 ∷ others.0) names others.2))
    ∙ ap (λ (x : Word). x ∷ map name_word others.0) (name_spelled w first.0 first.1)
    ∙ ap (λ (xs : List Word). w ∷ xs) (names_each ws others.0 others.1)

pub names_spelled : (ws : List Word) (names : List Name) → few_names_of ws ≡ Some names → map name_word names ≡ ws
unfolding few_names_of
names_spelled ws names e = names_each ws names (asserted (nat_le 1 (length ws) && nat_le (length ws) 128) (names_of ws) names e).1

-- ---- slaves of a group

slaves_each : (site : Site) (before : List ℕ) (ws : List Word) (slaves : List ℕ) → slaves_after site before ws ≡ Some slaves → map (sae_word site) slaves ≡ map (sae_word site) before ++ ws
slaves_each site before [] slaves e = ap (map (sae_word site)) (sym (same_some before slaves e)) ∙ sym (append-nil (map (sae_word site) before))
slaves_each site before (w ∷ ws) slaves e =
    let sae = bound (sae_of site w) _ slaves e in
    let others = excluded (list_any (λ other. other == sae.0) before) (slaves_after site (before ++ sae.0 ∷ []) ws) slaves sae.2 in
    slaves_each site (before ++ sae.0 ∷ []) ws slaves others.1
    ∙ ap (λ (xs : List Word). xs ++ ws) (map-append (sae_word site) before (sae.0 ∷ []))
    ∙ append_assoc (map (sae_word site) before) (sae_word site sae.0 ∷ []) ws
    ∙ ap (λ (x : Word). map (sae_word site) before ++ x ∷ ws) (sae_spelled site w sae.0 sae.1)

pub group_spelled : (site : Site) (ws : List Word) (slaves : List ℕ) → group_of site ws ≡ Some slaves → map (sae_word site) slaves ≡ ws
unfolding group_of
group_spelled site ws slaves e = slaves_each site [] ws slaves (asserted (nat_le 2 (length ws) && nat_le (length ws) 5) (slaves_after site [] ws) slaves e).1
