-- What holds of one life's end holds of all later lives, and their frames take later bytes.
use Rattle.std.proofs.Common.{◌≡◌, ℕ, zero, suc, ◌<◌, true, false, List, [], ◌∷◌, ◌++◌, length, sym, ◌∙◌, ap, subst, arith, Some, length-append, inl, inr}
use Rattle.std.specs.Prelude.{slice_get}
use Rattle.qkd_base.specs.Name.{Name}
use Rattle.qkd_base.specs.declared.lane.Lane.{Lane}
use Rattle.net_model.specs.Table.{was_handed}
use Rattle.net_model.specs.Site.{Site}
use Rattle.net_model.specs.Handings.{MayHaveOne}
use Rattle.net_model.specs.World.{World, Durable, Owner}
use Rattle.net_model.specs.Ownership.{covers}
use Rattle.net_model.specs.Invariant.{Conserved}
use Rattle.net_model.specs.Deliveries.{Delivery, is_of_name, IsTrueDelivery}
use Rattle.law_base.proofs.Base.{not_both}
use Rattle.law_base.proofs.Grow.{sae_grows, stored_grows}
use Rattle.law_recovery.proofs.Runs.{IsHeld, run_held}
use Rattle.law_run.proofs.Resting.{rest_fits}
use Rattle.law_run.proofs.Continuing.{OwnsOn, run_owns, frames_above}
use Rattle.run_model.specs.Begin.{IsAtRest}
use Rattle.law_lives.specs.Lasting.{Lasts}
use Rattle.law_lives.specs.Lives.{Life, end_of, rest_of, handed_in, IsLife, IsNextLife, Follow, AreLives, IsEarlier}
use Rattle.law_lives.proofs.Handings.{IsNewHanding, run_new}
use Rattle.law_lives.proofs.Lastings.{lasts_then, rest_lasts, rest_leases, frames_below}
use Rattle.law_lives.proofs.NextNetworks.{drawn_aside, goes_on}
use Rattle.law_lives.proofs.Runs.{run_lasts}
use Rattle.law_lives.proofs.Worlds.{one_world}

-- An application that may have a key or chunk may have it as long as nothing is lost.
still_ready : (a b : Durable) → Lasts a b → (s : Site) (n : Name) (sae : ℕ) → MayHaveOne s a.facts a.known n sae → MayHaveOne s b.facts b.known n sae
still_ready a b h s n sae k = record {
  fact = k.fact;
  there = h.facts n k.fact k.there;
  single = k.single;
  knows = h.known (s.home sae) n k.knows;
  is_end = elim k.is_end [
    | inl (e, stored) ↦ inl (
      sae_grows a.facts b.facts a.known b.known h.facts h.known true k.fact sae e,
      stored_grows a.facts b.facts a.known b.known h.facts h.known (s.home sae) n stored,
    )
    | inr e ↦ inr (sae_grows a.facts b.facts a.known b.known h.facts h.known false k.fact sae e)
  ];
}

-- The life begins in a world at rest.
pub record Begins (l : Life) : Type 0 where
  pub rest : IsAtRest l.begin
  pub conserved : Conserved l.net l.begin

-- What an earlier life had is in this world, and its frames' bytes are below those that are free.
pub record IsBefore (a : Life) (w : World) : Type 0 where
  pub lasts : Lasts (end_of a).durable w.durable
  pub below : (k : Lane) (j x : ℕ) → covers (end_of a).durable.facts (slice_get ((end_of a).frames k) j) x ≡ true → x < length (w.durable.own k)

module _ (l : Life) (b : Begins l) (h : IsLife l) where
  pub kept : IsHeld l.net (end_of l)
  kept = run_held l.net h.network l.actions l.begin (record { conserved = b.conserved; fits = rest_fits l.net l.begin b.rest }) h.steps

  pub grown : Lasts l.begin.durable (end_of l).durable
  grown = run_lasts l.net l.actions l.begin

  pub owns : OwnsOn l.begin.durable (end_of l).durable
  owns = run_owns l.net h.network l.actions l.begin b.conserved h.steps

  pub handed_new : (k : ℕ) (d : Delivery) → slice_get (handed_in l) k ≡ Some d → IsNewHanding l.begin (end_of l) d
  handed_new k d at = run_new l.net h.network l.actions l.begin b.conserved kept.conserved h.steps k d at

  pub rests : IsAtRest (rest_of l) × Conserved l.net (rest_of l)
  rests = let one = one_world l.net (end_of l) kept.conserved kept.fits l.made l.journals l.images h.sized h.read in (one.rest, one.conserved)

  -- The life's end itself is before what it left.
  pub rest_after : IsBefore l (rest_of l)
  rest_after = record {
    lasts = rest_lasts l.net (end_of l) l.made l.journals;
    below = λ k j x covered.
        let low = frames_below l.net (end_of l) kept.conserved kept.fits l.made l.journals k j x covered in
        let owned = rests.0.owned k in
        omega (arith, low, owned);
  }

  -- So is each life that came before.
  rest_later : (a : Life) → IsBefore a l.begin → IsBefore a (rest_of l)
  rest_later a before = record {
    lasts = lasts_then (end_of a).durable l.begin.durable (rest_of l).durable before.lasts
        (lasts_then l.begin.durable (end_of l).durable (rest_of l).durable grown rest_after.lasts);
    below = λ k j x covered.
        let low = before.below k j x covered in
        let more = owns k in
        let longer : length ((end_of l).durable.own k) ≡ length (l.begin.durable.own k ++ more.0) = ap (λ (os : List Owner). length os) more.1 in
        let room = kept.conserved.now.room k in
        let lease = rest_leases l.net (end_of l) kept.conserved kept.fits l.made l.journals k in
        let owned = rests.0.owned k in
        omega (arith, low, longer, length-append (l.begin.durable.own k) more.0, room.planned, lease, owned);
  }

  module _ (a : Life) (x : Begins a) (y : IsLife a) (before : IsBefore a l.begin) (marks : (k : ℕ) (d : Delivery) → slice_get (handed_in a) k ≡ Some d → IsNewHanding a.begin (end_of a) d) where
    once : (i j : ℕ) (d e : Delivery) → slice_get (handed_in a) i ≡ Some d → slice_get (handed_in l) j ≡ Some e → d.name ≡ e.name → d.sae ≡ e.sae → ⊥
    once i j d e at at2 name sae =
        let marked : was_handed l.begin.durable.handed d.name d.sae ≡ true = before.lasts.handed d.name d.sae (marks i d at).marked in
        let same : was_handed l.begin.durable.handed d.name d.sae ≡ was_handed l.begin.durable.handed e.name e.sae = (λ p. was_handed l.begin.durable.handed (name p) (sae p)) in
        not_both (was_handed l.begin.durable.handed e.name e.sae) (sym same ∙ marked) (handed_new j e at2).fresh

    equal : (i j : ℕ) (d e : Delivery) → slice_get (handed_in a) i ≡ Some d → slice_get (handed_in l) j ≡ Some e → d.name ≡ e.name → d.bytes ≡ e.bytes
    equal i j d e at at2 name =
        let first : IsTrueDelivery (end_of a).durable.facts d = (marks i d at).bytes in
        let second : IsTrueDelivery (end_of l).durable.facts e = (handed_new j e at2).bytes in
        let there = grown.facts first.name first.fact (before.lasts.facts first.name first.fact first.there) in
        let is : is_of_name e.name first.fact ≡ true = ap (λ (n : Name). is_of_name n first.fact) (sym name) ∙ first.is in
        first.bytes first.name first.fact first.there first.is ∙ sym (second.bytes first.name first.fact there is)

    all_lasts : Lasts (end_of a).durable (end_of l).durable
    all_lasts = lasts_then (end_of a).durable l.begin.durable (end_of l).durable before.lasts grown

    is_earlier : IsEarlier a l
    is_earlier = record {
      lasts = all_lasts;
      ready = still_ready (end_of a).durable (end_of l).durable all_lasts;
      apart = λ k i j x early late.
          let low = before.below k i x early in
          let high = frames_above l.net l.begin (end_of l) b.rest b.conserved kept.conserved owns k j x late in
          let owned = b.rest.owned k in
          omega (arith, low, high, owned);
      once = once;
      equal = equal;
    }

module _ (l next : Life) (b : Begins l) (h : IsLife l) (n : IsNextLife l next) where
  next_begins : Begins next
  next_begins =
      let r = rests l b h in
      record {
        rest = subst IsAtRest (sym n.begin) (drawn_aside n.drawn (rest_of l) r.0);
        conserved = subst (λ (w : World). Conserved next.net w) (sym n.begin) (goes_on l.net next.net n.drawn (rest_of l) n.network r.0 r.1).conserved;
      }

  to_begin : (a : Life) → IsBefore a (rest_of l) → IsBefore a next.begin
  to_begin a before = subst (IsBefore a) (sym n.begin) (record { lasts = before.lasts; below = before.below })

-- All lives that follow a life are later than one that came before them.
all_later : (ls : List Life) (l : Life) → Begins l → IsLife l → Follow l ls → (a : Life) → Begins a → IsLife a → IsBefore a (rest_of l) → (j : ℕ) (m : Life) →
    slice_get ls j ≡ Some m → IsEarlier a m
all_later [] l b h f a x y before j m at = absurd (cc)
all_later (n ∷ ls) l b h f a x y before zero m at =
    let is : n ≡ m = cc in
    subst (IsEarlier a) is (is_earlier n (next_begins l n b h f.0) f.1 a x y (to_begin l n b h f.0 a before) (handed_new a x y))
all_later (n ∷ ls) l b h f a x y before (suc j) m at =
    let begins = next_begins l n b h f.0 in
    all_later ls n begins f.1 f.2 a x y (rest_later n begins f.1 a (to_begin l n b h f.0 a before)) j m at

following : (ls : List Life) (l : Life) → Begins l → IsLife l → Follow l ls → (i j : ℕ) (a m : Life) → i < j → slice_get (l ∷ ls) i ≡ Some a → slice_get (l ∷ ls) j ≡ Some m → IsEarlier a m
following ls l b h f i zero a m less at at2 = absurd (omega (arith, less))
following ls l b h f zero (suc j) a m less at at2 =
    let is : l ≡ a = cc in subst (λ (x : Life). IsEarlier x m) is (all_later ls l b h f l b h (rest_after l b h) j m at2)
following [] l b h f (suc i) (suc j) a m less at at2 = absurd (cc)
following (n ∷ ls) l b h f (suc i) (suc j) a m less at at2 = following ls n (next_begins l n b h f.0) f.1 f.2 i j a m (omega (arith, less)) at at2

kept_after : (ls : List Life) (l : Life) → Begins l → IsLife l → Follow l ls → (i : ℕ) (a : Life) → slice_get (l ∷ ls) i ≡ Some a → Conserved a.net (end_of a)
kept_after ls l b h f zero a at = let is : l ≡ a = cc in subst (λ (x : Life). Conserved x.net (end_of x)) is (kept l b h).conserved
kept_after [] l b h f (suc i) a at = absurd (cc)
kept_after (n ∷ ls) l b h f (suc i) a at = kept_after ls n (next_begins l n b h f.0) f.1 f.2 i a at

pub earlier : (l : Life) (ls : List Life) → IsAtRest l.begin → Conserved l.net l.begin → AreLives (l ∷ ls) → (i j : ℕ) (a b : Life) → i < j →
    slice_get (l ∷ ls) i ≡ Some a → slice_get (l ∷ ls) j ≡ Some b → IsEarlier a b
earlier l ls rest c h i j a b less at at2 = following ls l (record { rest = rest; conserved = c }) h.0 h.1 i j a b less at at2

pub conserved_at : (l : Life) (ls : List Life) → IsAtRest l.begin → Conserved l.net l.begin → AreLives (l ∷ ls) → (i : ℕ) (a : Life) → slice_get (l ∷ ls) i ≡ Some a → Conserved a.net (end_of a)
conserved_at l ls rest c h i a at = kept_after ls l (record { rest = rest; conserved = c }) h.0 h.1 i a at
