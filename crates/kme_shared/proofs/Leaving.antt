-- Rows of shares: one share of each lane, by the lane's place.
use Rattle.std.proofs.Common.{◌≡◌, ℕ, zero, suc, ◌+◌, ◌-◌, ◌<◌, Bool, true, false, List, [], ◌∷◌, ◌++◌, length, map, take, refl, sym, ap, subst, ◌∙◌, arith, Option, Some}
use Rattle.std.specs.Prelude.{◌==◌, get_or, slice_get, slice_index_or}
use Rattle.std.specs.List.{AllZip}
use Rattle.std.specs.Option.{option_map}
use Rattle.std.proofs.Math.ListN.{set}
use Rattle.std.proofs.lemmas.List.{take_more, map-append}
use Rattle.std.proofs.lemmas.Option.{slice_get-map, slice_get_within}
use Rattle.law_base.proofs.Base.{eq_same, eq_from}
use Rattle.net_model.specs.Site.{Site, sender}
use Rattle.lane_shares.specs.declared.share.Share.{Share}
use Rattle.lane_shares.specs.declared.shares.Shares.{Shares}
use Rattle.lane_shares.specs.declared.view.View.{View}
use Rattle.lane_shares.specs.Names.{knows, Fits}
use Rattle.lane_shares.specs.Views.{with_amount, spent}
use Rattle.lane_sender.specs.Lane.{LaneForm}
use Rattle.par_lanes.specs.Grants.{IsShareOf}
use Rattle.par_lanes.specs.Emitting.{grant_at}
use Rattle.shared_objects.proofs.Zips.{zip_at, zip_same, zip_weaker, item_at}
use Rattle.kme_shared.specs.Rows.{mix, IsRowOf, AreAsElsewhere}
use Rattle.kme_shared.proofs.Mixing.{mix_other, mix_mine, mix_zip}

pub less_none : (v : View) → with_amount v (v.amount - 0) ≡ v
less_none v = ap (with_amount v) (none v.amount)
  where
    none : (n : ℕ) → n - 0 ≡ n
    none n = omega arith

pub zip_more : {A B : Type 0} (R : A → B → Type 0) (xs : List A) (i : ℕ) (x : A) (ys : List B) (y : B) → i < length xs → x ≡ get_or xs i x → AllZip R (take i xs) ys → R x y → AllZip R (take (i + 1) xs) (ys ++ y ∷ [])
zip_more {A} {B} R xs i x ys y below is h one =
    subst (λ (zs : List A). AllZip R zs (ys ++ y ∷ [])) (sym (take_more xs i x below ∙ ap (λ (z : A). take i xs ++ z ∷ []) (sym is))) (behind (take i xs) ys h)
  where
    behind : (zs : List A) (us : List B) → AllZip R zs us → AllZip R (zs ++ x ∷ []) (us ++ y ∷ [])
    behind [] [] k = (one, tt)
    behind [] (u ∷ us) k = absurd k
    behind (z ∷ zs) [] k = absurd k
    behind (z ∷ zs) (u ∷ us) k = (k.0, behind zs us k.1)

pub same_set : {A B : Type 0} (f : A → B) (xs : List A) (i : ℕ) (x y : A) → x ≡ get_or xs i x → i < length xs → f y ≡ f x → map f (set xs i y) ≡ map f xs
same_set f [] i x y is below same = absurd (omega (arith, below))
same_set {A} {B} f (z ∷ xs) zero x y is below same = ap (λ (b : B). b ∷ map f xs) (same ∙ ap f is)
same_set {A} {B} f (z ∷ xs) (suc i) x y is below same = ap (λ (bs : List B). f z ∷ bs) (same_set f xs i x y is (omega (arith, below)) same)

-- a row with the issuers of the lanes that leave a node

unequal : (a b : ℕ) → (a ≡ b → ⊥) → (a == b) ≡ false
unequal a b apart = elim (a == b) as (λ t. (a == b) ≡ t → t ≡ false) [ true ↦ λ e. absurd (apart (eq_from a b e)) | false ↦ λ e. refl ] refl

module _ {X : Type 0} (s : Site) (v : ℕ) (lanes : List (LaneForm X)) (shares : List Shares) (issuers issuers₁ issuers₂ row₁ row₂ : List Share) (same : map knows issuers₁ ≡ map knows issuers)
    (fits : AllZip Fits shares issuers₁) (bare : AllZip (λ d r. IsShareOf d 0 r) shares row₁) (left : issuers₂ ≡ mix (map (λ side. sender s side.lane == v) lanes) issuers₁ row₁)
    (took : row₂ ≡ mix (map (λ side. sender s side.lane == v) lanes) row₁ issuers₁) where
  abbrev marks : List Bool
  marks = map (λ (side : LaneForm X). sender s side.lane == v) lanes

  row_fits : AllZip Fits shares row₁
  row_fits = zip_weaker (λ d r. IsShareOf d 0 r) Fits (λ d r h. h.fits) shares row₁ bare

  long : length issuers₁ ≡ length row₁
  long = zip_same Fits shares issuers₁ fits ∙ sym (zip_same Fits shares row₁ row_fits)

  pub issuers_fit : AllZip Fits shares issuers₂
  issuers_fit = subst (AllZip Fits shares) (sym left) (mix_zip Fits marks shares issuers₁ row₁ fits row_fits)

  module _ (i : ℕ) (side : LaneForm X) (at : slice_get lanes i ≡ Some side) where
    mark : (t : Bool) → (sender s side.lane == v) ≡ t → slice_get marks i ≡ Some t
    mark t e = slice_get-map (λ (x : LaneForm X). sender s x.lane == v) lanes i ∙ ap (option_map (λ (x : LaneForm X). sender s x.lane == v)) at ∙ ap (λ (b : Bool). Some b) e

    pub own_grant : sender s side.lane ≡ v → grant_at i row₂ ≡ grant_at i issuers
    own_grant from =
        ap (grant_at i) took ∙ mix_mine knows marks row₁ issuers₁ i spent long (mark true (ap (λ (n : ℕ). n == v) from ∙ eq_same v))
        ∙ ap (λ (vs : List View). slice_index_or vs i spent) same

    pub other_grant : (sender s side.lane ≡ v → ⊥) → grant_at i issuers₂ ≡ grant_at i issuers
    other_grant apart =
        ap (grant_at i) left ∙ mix_other knows marks issuers₁ row₁ i spent (mark false (unequal (sender s side.lane) v apart))
        ∙ ap (λ (vs : List View). slice_index_or vs i spent) same

    pub bare_grant : length shares ≡ length lanes → (sender s side.lane ≡ v → ⊥) → (grant_at i row₂).amount ≡ 0
    bare_grant many apart =
        let within = slice_get_within lanes i side at in
        let one = item_at row₁ i (let a = zip_same Fits shares row₁ row_fits in omega (arith, within, many, a)) in
        let d = item_at shares i (omega (arith, within, many)) in
        ap (λ (x : View). x.amount) (ap (grant_at i) took ∙ mix_other knows marks row₁ issuers₁ i spent (mark false (unequal (sender s side.lane) v apart)) ∙ read row₁ i one.0 one.1)
        ∙ (zip_at (λ d r. IsShareOf d 0 r) shares row₁ i d.0 one.0 bare d.1 one.1).has
      where
        read : (xs : List Share) (i : ℕ) (x : Share) → slice_get xs i ≡ Some x → grant_at i xs ≡ knows x
        read [] i x at = cc
        read (y ∷ xs) zero x at = ap knows (inner at)
          where
            inner : {a b : Share} → ◌≡◌ {A = Option Share} (Some a) (Some b) → a ≡ b
            inner h = cc
        read (y ∷ xs) (suc i) x at = read xs i x at

  pub node_row : length shares ≡ length lanes → IsRowOf s v lanes shares issuers row₂
  node_row many = record {
    fits = subst (AllZip Fits shares) (sym took) (mix_zip Fits marks shares row₁ issuers₁ row_fits fits);
    own = λ i side at from. own_grant i side at from;
    bare = λ i side at apart. bare_grant i side at many apart;
  }
