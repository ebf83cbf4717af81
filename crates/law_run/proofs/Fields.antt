-- If a word of a line names something, that is declared or in range.
use Rattle.std.proofs.Common.{◌≡◌, ℕ, zero, suc, ◌+◌, ◌<◌, ◌%◌, ◌^◌, ◌==◌, Bool, true, false, ◌&&◌, List, [], ◌∷◌, length, Option, Some, Result, Ok, Err, refl, ap, subst, arith}
use Rattle.std.specs.Prelude.{if◌then◌else◌, nat_lt, nat_le, is_some, slice_index, unwrap_or}
use Rattle.std.specs.Result.{result_ok}
use Rattle.std.specs.List.{position_from, list_all}
use Rattle.std.specs.Str.{bytes_eq}
use Rattle.std.proofs.lemmas.Bool.{and_parts, and_from, lt-ltb, leb-true}
use Rattle.hex.specs.Hex.{decode_of}
use Rattle.hex.specs.declared.error.FromHexError.{FromHexError}
use Rattle.hex.proofs.HexLemmas.{decode_of-ok}
use Rattle.uuid.specs.Text.{parsed, hyphenated_text, lower}
use Rattle.qkd_base.specs.declared.key_name.NameKind.TheVariants.{Stream}
use Rattle.qkd_base.specs.declared.lane.Lane.{Lane}
use Rattle.qkd_base.specs.Name.{Name, name_at, candidate, octets_of, kind_eq}
use Rattle.net_model.specs.Events.{is_name, is_stream}
use Rattle.net_model.specs.Streams.{is_size}
use Rattle.route_table.specs.Table.{ends_of}
use Rattle.sae_entitlements.specs.Grants.{Sae, find_sae}
use Rattle.declared_site.specs.declared.site.Site.{Site}
use Rattle.scenario_text.specs.Words.{Word, is_name as is_name_word, number_in, number_of, number_on, is_numeral}
use Rattle.scenario_text.specs.Fields.{node_of, sae_of, link_of, way_of, lane_of, name_of, stream_of, size_of, octets_of_hex}
use Rattle.law_run.proofs.FitGiven.{same_some, bound, asserted, guarded}

found_step : (i n v : ℕ) (b : Bool) (o : Option ℕ) → (o ≡ Some v → v < i + 1 + n) → (if b then Some i else o) ≡ Some v → v < i + suc n
found_step i n v true o later e = let here = same_some i v e in omega (arith, here)
found_step i n v false o later e = let more = later e in omega (arith, more)

found_below : {X : Type 0} (t : X → Bool) (i : ℕ) (xs : List X) (v : ℕ) → position_from t i xs ≡ Some v → v < i + length xs
found_below t i [] v e = absurd cc
found_below t i (x ∷ xs) v e = found_step i (length xs) v (t x) (position_from t (i + 1) xs) (found_below t (i + 1) xs v) e

pub node_below : (d : Site) (w : Word) (v : ℕ) → node_of d w ≡ Some v → v < length d.nodes
unfolding node_of
node_below d w v e =
    let place = bound (position_from (λ name. bytes_eq name w) 0 d.nodes) _ v e in
    let found = found_below (λ name. bytes_eq name w) 0 d.nodes place.0 place.1 in
    let same = (guarded (nat_lt place.0 16) place.0 v place.2).1 in
    omega (arith, found, same)

pub sae_below : (d : Site) (w : Word) (n : ℕ) → sae_of d w ≡ Some n → n < length d.entitlements.saes
unfolding sae_of
sae_below d w n e =
    let named = asserted (is_name_word 64 w) (find_sae d.entitlements.saes w) n e in
    let found = found_below (λ (s : Sae). bytes_eq s.id w) 0 d.entitlements.saes n named.1 in
    omega (arith, found)

pub number_within : (least most : ℕ) (w : Word) (n : ℕ) → number_in least most w ≡ Some n → (nat_le least n && nat_le n most) ≡ true
unfolding number_in
number_within least most w n e =
    let number = bound (number_of w) _ n e in
    let kept = guarded (nat_le least number.0 && nat_le number.0 most) number.0 n number.2 in
    subst (λ (m : ℕ). (nat_le least m && nat_le m most) ≡ true) kept.1 kept.0

pub number_below : (w : Word) (n : ℕ) → number_in 0 65535 w ≡ Some n → nat_lt n 65536 ≡ true
number_below w n e =
    let most = leb-true n 65535 (and_parts (nat_le 0 n) (nat_le n 65535) (number_within 0 65535 w n e)).1 in
    lt-ltb n 65536 (omega (arith, most))

pub link_there : (d : Site) (w : Word) (l : ℕ) → link_of d w ≡ Some l → is_some (ends_of d.routes l) ≡ true
unfolding link_of
link_there d w l e =
    let number = bound (number_in 0 31 w) _ l e in
    let kept = guarded (is_some (ends_of d.routes number.0)) number.0 l number.2 in
    subst (λ (m : ℕ). is_some (ends_of d.routes m) ≡ true) kept.1 kept.0

pub lane_there : (d : Site) (link way : Word) (l : Lane) → lane_of d link way ≡ Some l → is_some (ends_of d.routes l.link) ≡ true
unfolding lane_of
lane_there d link way l e =
    let number = bound (link_of d link) _ l e in
    let side = bound (way_of way) _ l number.2 in
    let made : record { link = number.0; way = side.0 } ≡ l = same_some _ l side.2 in
    subst (λ (m : Lane). is_some (ends_of d.routes m.link) ≡ true) made (link_there d link number.0 number.1)

named_at : (os : List ℕ) (n : Name) → name_at os ≡ Some n → is_name n ≡ true
unfolding name_at
named_at os n e =
    let kept = guarded (is_name (candidate os) && bytes_eq os (octets_of (candidate os))) (candidate os) n e in
    subst (λ (m : Name). is_name m ≡ true) kept.1 (and_parts (is_name (candidate os)) _ kept.0).0

pub name_right : (w : Word) (n : Name) → name_of w ≡ Some n → is_name n ≡ true
unfolding name_of
name_right w n e =
    let os = bound (parsed w) _ n e in
    let named = bound (name_at os.0) _ n os.2 in
    let kept = guarded (bytes_eq w (hyphenated_text lower (octets_of named.0))) named.0 n named.2 in
    subst (λ (m : Name). is_name m ≡ true) kept.1 (named_at os.0 named.0 named.1)

pub stream_right : (w : Word) (n : Name) → stream_of w ≡ Some n → is_stream n ≡ true
unfolding stream_of
stream_right w n e =
    let named = bound (name_of w) _ n e in
    let kept = guarded (kind_eq named.0.kind Stream) named.0 n named.2 in
    subst (λ (m : Name). is_stream m ≡ true) kept.1 (and_from (is_name named.0) (kind_eq named.0.kind Stream) (name_right w named.0 named.1) kept.0)

pub size_right : (w : Word) (bits : ℕ) → size_of w ≡ Some bits → is_size bits ≡ true
unfolding size_of
size_right w bits e =
    let number = bound (number_in 64 4096 w) _ bits e in
    let kept = guarded (number.0 % 8 == 0) number.0 bits number.2 in
    subst (λ (m : ℕ). is_size m ≡ true) kept.1 (and_from (nat_le 64 number.0 && nat_le number.0 4096) (number.0 % 8 == 0) (number_within 64 4096 w number.0 number.1) kept.0)

all_octets : (os : List ℕ) → ((i : ℕ) → slice_index os i < 256) → list_all (λ b. nat_lt b 256) os ≡ true
all_octets [] h = refl
all_octets (b ∷ bs) h = and_from (nat_lt b 256) (list_all (λ c. nat_lt c 256) bs) (lt-ltb b 256 (h zero)) (all_octets bs (λ i. h (suc i)))

decoded : (r : Result (List ℕ) FromHexError) (os : List ℕ) → result_ok r ≡ Some os → r ≡ Ok os
decoded (Ok x) os e = ap (λ (o : Option (List ℕ)). Ok (unwrap_or o [])) e
decoded (Err x) os e = absurd cc

pub octets_right : (most : ℕ) (w : Word) (os : List ℕ) → octets_of_hex most w ≡ Some os
    → ((nat_le 1 (length os) && nat_le (length os) most) ≡ true) × (list_all (λ b. nat_lt b 256) os ≡ true)
unfolding octets_of_hex
octets_right most w os e =
    let octets = bound (result_ok (decode_of w)) _ os e in
    let kept = guarded (nat_le 1 (length octets.0) && nat_le (length octets.0) most) octets.0 os octets.2 in
    let bytes = decode_of-ok w octets.0 (decoded (decode_of w) octets.0 octets.1) in (
      subst (λ (bs : List ℕ). (nat_le 1 (length bs) && nat_le (length bs) most) ≡ true) kept.1 kept.0,
      subst (λ (bs : List ℕ). list_all (λ b. nat_lt b 256) bs ≡ true) kept.1 (all_octets octets.0 bytes.3),
    )

pub number_small : (w : Word) (n : ℕ) → number_of w ≡ Some n → nat_lt n 4294967296 ≡ true
unfolding number_of
number_small w n e =
    let kept = guarded (is_numeral w && nat_lt (number_on 0 w) (2 ^ 32)) (number_on 0 w) n e in
    subst (λ (m : ℕ). nat_lt m 4294967296 ≡ true) kept.1 (and_parts (is_numeral w) (nat_lt (number_on 0 w) (2 ^ 32)) kept.0).1
