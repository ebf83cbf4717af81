-- A site has at most one lane from one node to another.
use Rattle.std.proofs.Common.{◌≡◌, ℕ, ◌<◌, true, refl, arith}
use Rattle.std.proofs.lemmas.Bool.{ltb-true}
use Rattle.qkd_base.specs.declared.lane.Lane.{Lane}
use Rattle.qkd_base.specs.declared.lane.Way.{Way}
use Rattle.qkd_base.specs.declared.lane.Way.TheVariants.{Up, Down}
use Rattle.net_model.specs.Premises.{IsSite}
use Rattle.net_model.specs.Site.{Site, sender, receiver, of_way}
use Rattle.net_model.specs.Events.{is_lane}

module _ (s : Site) (site : IsSite s) where
  -- Links and ways with the same ends are the same.
  same_ends : (a b : Way) (j k : ℕ) → j < s.links → k < s.links → of_way a (s.low j) (s.high j) ≡ of_way b (s.low k) (s.high k) → of_way a (s.high j) (s.low j) ≡ of_way b (s.high k) (s.low k) →
      (a ≡ b) × (j ≡ k)
  same_ends Up Up j k h i from to = (refl, site.single j k h i from to)
  same_ends Up Down j k h i from to = let x = (site.ends j h).order in let y = (site.ends k i).order in absurd (omega (arith, x, y, from, to))
  same_ends Down Up j k h i from to = let x = (site.ends j h).order in let y = (site.ends k i).order in absurd (omega (arith, x, y, from, to))
  same_ends Down Down j k h i from to = (refl, site.single j k h i to from)

  pub one_lane : (a b : Lane) → is_lane s a ≡ true → is_lane s b ≡ true → sender s a ≡ sender s b → receiver s a ≡ receiver s b → a ≡ b
  one_lane a b here there from to =
      let same = same_ends a.way b.way a.link b.link (ltb-true a.link s.links here) (ltb-true b.link s.links there) from to in
      λ i. record { link = same.1 i; way = same.0 i }
