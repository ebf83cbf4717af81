-- Node by node, each doubt is made or not. A node doesn't see the doubts of others, and its own is still permitted.
use Rattle.std.proofs.Common.{◌≡◌, ◌≢◌, ℕ, zero, suc, ◌<◌, ◌≤◌, Bool, true, false, List, [], ◌∷◌, ◌++◌, refl, sym, ◌∙◌, ap, subst, arith, inl, inr, ◌⊎◌, map, Some}
use Rattle.std.specs.Prelude.{if◌then◌else◌}
use Rattle.qkd_base.specs.Name.{Name}
use Rattle.net_model.specs.declared.fact.Fact.{Fact}
use Rattle.net_model.specs.declared.record.Record.{Record}
use Rattle.net_model.specs.Table.{fact_at, is_secret}
use Rattle.net_model.specs.Site.{Site, count_up}
use Rattle.net_model.specs.World.{Network, World, Durable, no_volatile}
use Rattle.net_model.specs.Records.{replay}
use Rattle.net_model.specs.Doubt.{MayReplay}
use Rattle.net_model.specs.Drawn.{IsDrawn}
use Rattle.net_model.specs.View.{View}
use Rattle.net_model.specs.Needed.{masked, view_of}
use Rattle.net_model.specs.Fold.{view_records, view_batch, view_restarted}
use Rattle.net_model.specs.Invariant.{Invariant, Conserved, with_doubts}
use Rattle.law_base.proofs.Keeping.{replay_keeps}
use Rattle.law_base.proofs.Doubts.{doubt_stays}
use Rattle.law_base.proofs.Growing.{AreFew, replay_few, replay_cases}
use Rattle.law_locality.proofs.Durables.{SameDurable, same_durable, same_durable_then, other_replay}
use Rattle.law_recovery.specs.Fitting.{AllFit}
use Rattle.law_recovery.specs.Saved.{saved, DoubtsFit}
use Rattle.law_recovery.specs.Starting.{resolved_view}
use Rattle.law_recovery.proofs.Shapes.{masked_like}
use Rattle.law_recovery.proofs.Following.{Follows, follows_like, seen}
use Rattle.law_recovery.proofs.Batches.{batch_follows, view_follows}
use Rattle.law_recovery.proofs.Starting.{at_lease}
use Rattle.law_recovery.proofs.Restarting.{batch_restarts}
use Rattle.law_recovery.proofs.Views.{saved_same, restarted_fits, fits_before}

-- A view that follows another one restarts as that one does.
restart_same : (a b : View) → Follows a b → view_restarted (masked a) ≡ view_restarted (masked b)
unfolding masked view_restarted
restart_same a b h =
    let me = h.me in
    let facts = masked_like a b (follows_like a b h) a.facts ∙ h.facts in
    let acked = h.acked in
    let handed = h.handed in
    let closed = h.closed in
    let ports = ap (map at_lease) h.ports in
    λ i. record { me = me i; facts = facts i; acked = acked i; handed = handed i; closed = closed i; ports = ports i; volatile = no_volatile }

pub made_then : (s : Site) (w : World) (made : ℕ → Bool) (xs ys : List ℕ) (d : Durable) → with_doubts s w made (xs ++ ys) d ≡ with_doubts s w made ys (with_doubts s w made xs d)
made_then s w made [] ys d = refl
made_then s w made (x ∷ xs) ys d = made_then s w made xs ys (if made x then replay s x (w.in_doubt x).batch d else d)

below_or_last : (u n : ℕ) → u < suc n → (u < n) ⊎ (u ≡ n)
below_or_last u n h = grind arith

module _ (net : Network) (w : World) (c : Conserved net w) (fits : DoubtsFit net w) (made : ℕ → Bool) where
  abbrev batch : ℕ → List Record
  batch v = (w.in_doubt v).batch

  abbrev pub with_durable : Durable → World
  with_durable d = record w { durable = d }

  -- The doubts of the first n nodes are settled. The nodes from n on don't see it, and may still make their batches.
  -- Each of the first n sees what it saw, with its batch if that was made.
  pub record AreSettled (n : ℕ) (d : Durable) : Type 0 where
    pub now : Invariant net.site d w.frames w.unclaimed
    pub doubts : (u : ℕ) → n ≤ u → MayReplay net.site d u (batch u)
    pub waits : (u : ℕ) → n ≤ u → SameDurable net.site u w.durable d
    pub sees : (u : ℕ) → u < n → saved net (with_durable d) u ≡ view_restarted (resolved_view net w u (made u))
    pub table : (m : Name) (f : Fact) → fact_at d.facts m ≡ Some f → is_secret f ≡ true → IsDrawn net w f
    pub few : AreFew d

  saved_with : (a b : Durable) (u : ℕ) → SameDurable net.site u a b → saved net (with_durable b) u ≡ saved net (with_durable a) u
  saved_with a b u h = saved_same net u (with_durable a) (with_durable b) h.extends h.acked h.closed h.handed

  -- A node's own batch, made behind the batches of others, gives what it gives by itself.
  made_here : (n : ℕ) (d : Durable) → AreSettled n d → saved net (with_durable (replay net.site n (batch n) d)) n ≡ view_restarted (view_batch (view_of net w n) (batch n))
  unfolding view_of
  made_here n d h =
      let same : saved net (with_durable d) n ≡ saved net w n = saved_with w.durable d n (h.waits n (omega arith)) in
      let here : View = view_of net (with_durable d) n in
      let may : MayReplay net.site d n (batch n) = h.doubts n (omega arith) in
      let fit : AllFit net here (batch n) =
      fits_before net (batch n) here (subst (λ (a : View). AllFit net a (batch n)) (sym same) (restarted_fits net (batch n) (view_of net w n) (fits n))) in
      let follows = batch_follows net (with_durable d) n (batch n) d h.now here may fit (view_follows net (with_durable d) n) in
      sym (restart_same (view_records (batch n) here) (seen net (with_durable d) n (replay net.site n (batch n) d)) follows) ∙ batch_restarts here (batch n) ∙
      ap (λ (a : View). view_restarted (view_batch a (batch n))) same ∙ sym (batch_restarts (view_of net w n) (batch n))

  other : (n : ℕ) (d : Durable) → AreSettled n d → (u : ℕ) → u ≢ n → SameDurable net.site u d (replay net.site n (batch n) d)
  other n d h u apart = other_replay net.site u n apart d w.frames w.unclaimed h.now (batch n) (h.doubts n (omega arith))

  abbrev SeesAt : Durable → ℕ → Bool → Type 0
  SeesAt d u t = saved net (with_durable d) u ≡ view_restarted (resolved_view net w u t)

  settled_one : (n : ℕ) (d : Durable) → AreSettled n d → (t : Bool) → made n ≡ t → AreSettled (suc n) (if t then replay net.site n (batch n) d else d)
  settled_one n d h true is =
      let next : Durable = replay net.site n (batch n) d in
      let may : MayReplay net.site d n (batch n) = h.doubts n (omega arith) in
      record {
        now = replay_keeps net.site d w.frames w.unclaimed h.now n (batch n) may;
        doubts = λ u le. doubt_stays net.site d w.frames w.unclaimed h.now u n (λ e. omega (arith, le, e)) (batch n) (batch u) may (h.doubts u (omega (arith, le)));
        waits = λ u le. same_durable_then net.site u w.durable d next (h.waits u (omega (arith, le))) (other n d h u (λ e. omega (arith, le, e)));
        sees = λ u less. elim (below_or_last u n less) [
          | inl before ↦ saved_with d next u (other n d h u (λ e. omega (arith, before, e))) ∙ h.sees u before
          | inr last ↦ subst (λ (x : ℕ). SeesAt next x (made x)) (sym last) (subst (SeesAt next n) (sym is) (made_here n d h))
        ];
        table = λ m f there secret. elim (replay_cases net.site n (batch n) d may m f there) [
          | inl old ↦ h.table m f old secret
          | inr (k, at) ↦ c.drawn.doubts n k f at secret
        ];
        few = replay_few net.site n (batch n) d may h.few;
      }
  settled_one n d h false is =
      record {
        now = h.now;
        doubts = λ u le. h.doubts u (omega (arith, le));
        waits = λ u le. h.waits u (omega (arith, le));
        sees = λ u less. elim (below_or_last u n less) [
          | inl before ↦ h.sees u before
          | inr last ↦ subst (λ (x : ℕ). SeesAt d x (made x)) (sym last) (subst (SeesAt d n) (sym is) (saved_with w.durable d n (h.waits n (omega arith))))
        ];
        table = h.table;
        few = h.few;
      }

  pub all_settled : (n : ℕ) → AreSettled n (with_doubts net.site w made (count_up n) w.durable)
  all_settled zero =
      record {
        now = c.now;
        doubts = λ u le. c.doubts u;
        waits = λ u le. same_durable net.site u w.durable;
        sees = λ u less. absurd (omega (arith, less));
        table = c.drawn.table;
        few = c.few_blocks;
      }
  all_settled (suc n) =
      subst (λ (x : Durable). AreSettled (suc n) x) (sym (made_then net.site w made (count_up n) (n ∷ []) w.durable))
      (settled_one n (with_doubts net.site w made (count_up n) w.durable) (all_settled n) (made n) refl)
