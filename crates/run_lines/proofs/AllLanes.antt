-- The lanes of the first links.
use Rattle.std.proofs.Common.{◌≡◌, ℕ, zero, suc, ◌+◌, ◌<◌, ◌≤◌, min, nat_lt, Bool, true, false, List, [], ◌∷◌, ◌++◌, length, get_or, refl, sym, ap, ◌∙◌, arith}
use Rattle.std.proofs.lemmas.Bool.{lt-ltb, and_from}
use Rattle.std.proofs.lemmas.List.{append_assoc, append-nil}
use Rattle.std.proofs.lemmas.List.Concat.{flat_map-append}
use Rattle.std.proofs.lemmas.List.Folds.{list_all-append, list_all_at}
use Rattle.std.specs.List.{flat_map, list_all}
use Rattle.qkd_base.specs.declared.lane.Lane.{Lane}
use Rattle.qkd_base.specs.declared.lane.Way.TheVariants.{Up, Down}
use Rattle.net_model.specs.Site.{Site, lane_of, count_up}
use Rattle.net_model.specs.Events.{is_lane}
use Rattle.run_model.specs.Lines.{all_lanes}

abbrev both : ℕ → List Lane
both link = lane_of link Up ∷ lane_of link Down ∷ []

abbrev pub lanes_below : ℕ → List Lane
lanes_below n = flat_map (λ link. lane_of link Up ∷ lane_of link Down ∷ []) (count_up n)

one_link : (n : ℕ) → lanes_below (suc n) ≡ lanes_below n ++ both n
one_link n = flat_map-append both (count_up n) (n ∷ []) ∙ ap (λ (ls : List Lane). lanes_below n ++ ls) (append-nil (both n))

pub more_lanes : (n links : ℕ) → n < links → lanes_below (min (n + 1) links) ≡ (lanes_below (min n links) ++ lane_of n Up ∷ []) ++ lane_of n Down ∷ []
more_lanes n links below =
    let now : min (n + 1) links ≡ suc n = omega arith in
    let before : min n links ≡ n = omega arith in
    ap lanes_below now ∙ one_link n ∙ ap (λ (m : ℕ). lanes_below m ++ both n) (sym before) ∙ sym (append_assoc (lanes_below (min n links)) (lane_of n Up ∷ []) (lane_of n Down ∷ []))

pub no_lanes : (n links : ℕ) → links ≤ n → lanes_below (min (n + 1) links) ≡ lanes_below (min n links)
no_lanes n links past = let same : min (n + 1) links ≡ min n links = omega arith in ap lanes_below same

pub whole : (n links : ℕ) → links ≤ n → lanes_below (min n links) ≡ lanes_below links
whole n links past = let same : min n links ≡ links = omega arith in ap lanes_below same

-- each of these is a lane of the site

are_lanes : (site : Site) (n : ℕ) → n ≤ site.links → list_all (is_lane site) (lanes_below n) ≡ true
are_lanes site zero h = refl
are_lanes site (suc n) h =
    let here : nat_lt n site.links ≡ true = lt-ltb n site.links (omega (arith, h)) in
    ap (list_all (is_lane site)) (one_link n) ∙ list_all-append (is_lane site) (lanes_below n) (both n)
    ∙ and_from (list_all (is_lane site) (lanes_below n)) (list_all (is_lane site) (both n)) (are_lanes site n (omega (arith, h)))
    (and_from (is_lane site (lane_of n Up)) _ here (and_from (is_lane site (lane_of n Down)) true here refl))

true_by : (b all : Bool) → (b ≡ false → all ≡ false) → all ≡ true → b ≡ true
true_by true all wrong whole_true = refl
true_by false all wrong whole_true = sym (wrong refl) ∙ whole_true

pub lane_there : (site : Site) (lanes : List Lane) (i : ℕ) (lane d : Lane) → lanes ≡ all_lanes site → i < length lanes → lane ≡ get_or lanes i d → is_lane site lane ≡ true
lane_there site lanes i lane d all below is =
    true_by (is_lane site lane) (list_all (is_lane site) lanes) (λ off. list_all_at (is_lane site) lanes i d below (ap (is_lane site) (sym is) ∙ off))
    (ap (list_all (is_lane site)) all ∙ are_lanes site site.links (omega arith))
