-- Frames that were sent in order.
use Rattle.std.proofs.Common.{◌≡◌, ℕ, ◌+◌, ◌-◌, List, [], ◌∷◌, ◌++◌, map, refl, sym, ap, ap₂, subst, ◌∙◌, arith, append_assoc, append-nil}
use Rattle.std.specs.List.{AllByRecursion}
use Rattle.std.proofs.lemmas.List.{map-append}
use Rattle.net_model.specs.Tick.{Emission}
use Rattle.shared_objects.specs.declared.either.Either.{Either}
use Rattle.shared_objects.specs.Said.{Said}
use Rattle.lane_shares.specs.declared.share.Share.{Share}
use Rattle.lane_shares.specs.declared.view.View.{View}
use Rattle.lane_shares.specs.Views.{with_amount}
use Rattle.lane_sender.specs.Lane.{LaneForm}
use Rattle.par_lanes.specs.declared.ask.LaneAsk.{LaneAsk}
use Rattle.par_lanes.specs.declared.ask.LaneAnswer.{LaneAnswer}
use Rattle.par_lanes.specs.declared.emitted.Emitted.{Emitted}
use Rattle.par_lanes.specs.declared.frame_log.FrameLog.{FrameLog}
use Rattle.par_lanes.specs.Wants.{bytes_at}
use Rattle.par_lanes.specs.Calls.{IsOf}
use Rattle.par_lanes.specs.Emitting.{grant_at, AreLogged, HasEmitted}
use Rattle.par_lanes.proofs.Wanting.{bytes_more}
use Rattle.par_lanes.proofs.Saying.{says_more}

all_more : {A : Type 0} (P : A → Type 0) (xs ys : List A) → AllByRecursion P xs → AllByRecursion P ys → AllByRecursion P (xs ++ ys)
all_more P [] ys h k = k
all_more P (x ∷ xs) ys h k = (h.0, all_more P xs ys h.1 k)

less_twice : (v w u : View) (a b : ℕ) → w ≡ with_amount v (v.amount - a) → u ≡ with_amount w (w.amount - b) → u ≡ with_amount v (v.amount - (a + b))
less_twice v w u a b h k =
    let both : (v.amount - a) - b ≡ v.amount - (a + b) = omega arith in
    k ∙ ap (λ (x : View). with_amount x (x.amount - b)) h ∙ ap (with_amount v) both

logged_more : (xs ys : List Emitted) (l m n : FrameLog) → AreLogged xs l m → AreLogged ys m n → AreLogged (xs ++ ys) l n
logged_more xs ys l m n h k = record {
  whole = λ is. h.whole (k.whole is);
  added = λ is. k.added is ∙ ap (λ (v : List Emitted). v ++ ys) (h.added (k.whole is)) ∙ append_assoc l.frames.items xs ys;
}

module _ {M D X Q A : Type 0} (machines : List (Either M D)) (side : D → LaneForm X) (first : ℕ) (line : ℕ) where
  pub emitted_none : (went : List (Said (Either Q LaneAsk) (Either A LaneAnswer)) → Type 0) (s : List Share) (l : FrameLog) → went [] → HasEmitted machines side first went line [] s l s l
  emitted_none went s l still = record {
    said = [];
    went = still;
    outs = [];
    all = refl;
    told = tt;
    says = refl;
    less = λ i. let none : (grant_at i s).amount ≡ (grant_at i s).amount - 0 = omega arith in ap (with_amount (grant_at i s)) none;
    logged = record { whole = λ is. is; added = λ is. sym (append-nil l.frames.items) };
  }

  pub emitted_more : (one two both : List (Said (Either Q LaneAsk) (Either A LaneAnswer)) → Type 0) → ((a b : List (Said (Either Q LaneAsk) (Either A LaneAnswer))) → one a → two b → both (a ++ b)) →
      (xs ys : List Emission) (s t u : List Share) (l m n : FrameLog) → HasEmitted machines side first one line xs s l t m → HasEmitted machines side first two line ys t m u n → HasEmitted machines side first both line (xs ++ ys) s l u n
  emitted_more one two both onward xs ys s t u l m n h k = record {
    said = h.said ++ k.said;
    went = onward h.said k.said h.went k.went;
    outs = h.outs ++ k.outs;
    all = map-append (λ (x : Emission × Emitted). x.0) h.outs k.outs ∙ ap₂ (λ (a b : List Emission). a ++ b) h.all k.all;
    told = all_more (λ (x : Emission × Emitted). IsOf line x.0 x.1) h.outs k.outs h.told k.told;
    says = says_more machines side first h.outs k.outs h.said k.said h.says k.says;
    less = λ i. less_twice (grant_at i s) (grant_at i t) (grant_at i u) (bytes_at i xs) (bytes_at i ys) (h.less i) (k.less i) ∙ ap (λ (b : ℕ). with_amount (grant_at i s) ((grant_at i s).amount - b)) (sym (bytes_more i xs ys));
    logged = subst (λ (v : List Emitted). AreLogged v l n) (sym (map-append (λ (x : Emission × Emitted). x.1) h.outs k.outs)) (logged_more (map (λ x. x.1) h.outs) (map (λ x. x.1) k.outs) l m n h.logged k.logged);
  }
