-- Rows of shares: one share of each lane, by the lane's place.
use Rattle.std.specs.Prelude.{◌≡◌, ℕ, Bool, List, [], ◌∷◌, slice_get, Some, if◌then◌else◌}
use Rattle.std.specs.List.{AllZip}
use Rattle.net_model.specs.Site.{Site, sender}
use Rattle.lane_shares.specs.declared.share.Share.{Share}
use Rattle.lane_shares.specs.declared.shares.Shares.{Shares}
use Rattle.lane_shares.specs.Names.{Fits}
use Rattle.lane_sender.specs.Lane.{LaneForm}
use Rattle.par_lanes.specs.Emitting.{grant_at}

-- the list `xs`, with the items of `ys` at the marked places
abbrev pub mix : {A : Type 0} → List Bool → List A → List A → List A
mix [] xs ys = xs
mix (b ∷ bs) (x ∷ xs) (y ∷ ys) = (if b then y else x) ∷ mix bs xs ys
mix (b ∷ bs) xs ys = xs

module _ {X : Type 0} (s : Site) (v : ℕ) (lanes : List (LaneForm X)) where
  -- the row has the same grants as before for each lane that doesn't leave the node
  abbrev pub AreAsElsewhere : (old new : List Share) → Type 0
  AreAsElsewhere old new = (i : ℕ) (side : LaneForm X) → slice_get lanes i ≡ Some side → (sender s side.lane ≡ v → ⊥) → grant_at i new ≡ grant_at i old

  -- A row has a share of each lane. A lane that leaves the node has the same grant as among the issuers; any other share has no bytes.
  pub record IsRowOf (shares : List Shares) (issuers row : List Share) : Type 0 where
    pub fits : AllZip Fits shares row
    pub own : (i : ℕ) (side : LaneForm X) → slice_get lanes i ≡ Some side → sender s side.lane ≡ v → grant_at i row ≡ grant_at i issuers
    pub bare : (i : ℕ) (side : LaneForm X) → slice_get lanes i ≡ Some side → (sender s side.lane ≡ v → ⊥) → (grant_at i row).amount ≡ 0
