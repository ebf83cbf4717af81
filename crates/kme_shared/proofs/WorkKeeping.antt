-- The replies and frames that the workers of a block keep.
use Rattle.std.proofs.Common.{◌≡◌, ℕ, zero, suc, ◌<◌, true, List, [], ◌∷◌, ◌++◌, length, map, refl, sym, ◌∙◌, ap, ap₂, subst, Some}
use Rattle.std.specs.Prelude.{slice_get}
use Rattle.std.specs.List.{AllByRecursion, flat_map}
use Rattle.qkd_base.specs.declared.lane.Lane.{Lane}
use Rattle.net_model.specs.Action.{Replies}
use Rattle.net_model.specs.Events.{is_lane}
use Rattle.net_model.specs.Site.{Site}
use Rattle.net_model.specs.Tick.{Emission, Again, New}
use Rattle.run_model.specs.Works.{wanted_put}
use Rattle.shared_objects.specs.Rising.{together}
use Rattle.law_base.proofs.Lists.{all_both}
use Rattle.par_lanes.specs.declared.emitted.Emitted.{Emitted}
use Rattle.par_lanes.specs.Wants.{lane_for}
use Rattle.par_managers.specs.Wanted.{CanLeave}
use Rattle.par_frames.specs.Working.{IsOfItsLine, wanted_for, kept}
use Rattle.par_managers.specs.declared.keep.Replied.{Replied}
use Rattle.par_managers.specs.declared.keep.Keep.{Keep}
use Rattle.par_managers.specs.Talking.{wanted_in}
use Rattle.par_managers.specs.Together.{HaveKept}
use Rattle.kme_shared.specs.WorkGathering.{AreBare}
use Rattle.kme_shared.proofs.Called.{Leaves}
use Rattle.kme_shared.proofs.Lists.{all_flat, from_map}

module _ (first : ℕ) where
  -- there is one list of replies and one of frames for each worker

  pub as_many : (keeps : List Keep) (mines : List (List Replied)) (outs : List (List (Emission × Emitted))) (nexts : List Keep) → HaveKept first keeps mines outs nexts → (length mines ≡ length keeps) × (length outs ≡ length keeps)
  as_many [] [] [] [] h = (refl, refl)
  as_many (k ∷ ks) (m ∷ ms) (o ∷ os) (n ∷ ns) h = let rest = as_many ks ms os ns h.1 in (ap suc rest.0, ap suc rest.1)
  as_many [] [] [] (n ∷ ns) h = absurd h
  as_many [] [] (o ∷ os) ns h = absurd h
  as_many [] (m ∷ ms) os ns h = absurd h
  as_many (k ∷ ks) [] os ns h = absurd h
  as_many (k ∷ ks) (m ∷ ms) [] ns h = absurd h
  as_many (k ∷ ks) (m ∷ ms) (o ∷ os) [] h = absurd h

  pub all_replies : (keeps : List Keep) (mines : List (List Replied)) (outs : List (List (Emission × Emitted))) (nexts : List Keep) → HaveKept first keeps mines outs nexts → AreBare keeps →
      flat_map (λ (keep : Keep). keep.replies.items) nexts ≡ together mines
  all_replies [] [] [] [] h bare = refl
  all_replies (k ∷ ks) (m ∷ ms) (o ∷ os) (n ∷ ns) h bare =
      ap₂ (λ (xs ys : List Replied). xs ++ ys) (h.0.kept ∙ ap (λ (xs : List Replied). xs ++ m) bare.0.0) (all_replies ks ms os ns h.1 bare.1)
  all_replies [] [] [] (n ∷ ns) h bare = absurd h
  all_replies [] [] (o ∷ os) ns h bare = absurd h
  all_replies [] (m ∷ ms) os ns h bare = absurd h
  all_replies (k ∷ ks) [] os ns h bare = absurd h
  all_replies (k ∷ ks) (m ∷ ms) [] ns h bare = absurd h
  all_replies (k ∷ ks) (m ∷ ms) (o ∷ os) [] h bare = absurd h

  pub all_frames : (keeps : List Keep) (mines : List (List Replied)) (outs : List (List (Emission × Emitted))) (nexts : List Keep) → HaveKept first keeps mines outs nexts → AreBare keeps →
      AllByRecursion (λ (keep : Keep). keep.log.is_whole ≡ true) nexts → flat_map (λ (keep : Keep). keep.log.frames.items) nexts ≡ together (map kept outs)
  all_frames [] [] [] [] h bare whole = refl
  all_frames (k ∷ ks) (m ∷ ms) (o ∷ os) (n ∷ ns) h bare whole =
      ap₂ (λ (xs ys : List Emitted). xs ++ ys) (h.0.logged.added whole.0 ∙ ap (λ (xs : List Emitted). xs ++ kept o) bare.0.1) (all_frames ks ms os ns h.1 bare.1 whole.1)
  all_frames [] [] [] (n ∷ ns) h bare whole = absurd h
  all_frames [] [] (o ∷ os) ns h bare whole = absurd h
  all_frames [] (m ∷ ms) os ns h bare whole = absurd h
  all_frames (k ∷ ks) [] os ns h bare whole = absurd h
  all_frames (k ∷ ks) (m ∷ ms) [] ns h bare whole = absurd h
  all_frames (k ∷ ks) (m ∷ ms) (o ∷ os) [] h bare whole = absurd h

  -- what each worker kept

  pub record OneKept (mine : List Replied) (out : List (Emission × Emitted)) : Type 0 where
    pub of : AllByRecursion IsOfItsLine out
    pub wanted : map wanted_for out ≡ flat_map wanted_in mine
    pub nodes : AllByRecursion (λ (r : Replied). r.node < first) mine

  abbrev pub AllKept : List (List Replied) → List (List (Emission × Emitted)) → Type 0
  AllKept [] [] = Unit {0}
  AllKept (m ∷ ms) (o ∷ os) = OneKept m o × AllKept ms os
  AllKept _ _ = ⊥

  pub each_kept : (keeps : List Keep) (mines : List (List Replied)) (outs : List (List (Emission × Emitted))) (nexts : List Keep) → HaveKept first keeps mines outs nexts → AllKept mines outs
  each_kept [] [] [] [] h = tt
  each_kept (k ∷ ks) (m ∷ ms) (o ∷ os) (n ∷ ns) h = (record { of = h.0.of; wanted = h.0.wanted; nodes = h.0.nodes }, each_kept ks ms os ns h.1)
  each_kept [] [] [] (n ∷ ns) h = absurd h
  each_kept [] [] (o ∷ os) ns h = absurd h
  each_kept [] (m ∷ ms) os ns h = absurd h
  each_kept (k ∷ ks) [] os ns h = absurd h
  each_kept (k ∷ ks) (m ∷ ms) [] ns h = absurd h
  each_kept (k ∷ ks) (m ∷ ms) (o ∷ os) [] h = absurd h

  pub all_below_first : (mines : List (List Replied)) (outs : List (List (Emission × Emitted))) → AllKept mines outs → AllByRecursion (AllByRecursion (λ (r : Replied). r.node < first)) mines
  all_below_first [] [] h = tt
  all_below_first (m ∷ ms) (o ∷ os) h = (h.0.nodes, all_below_first ms os h.1)
  all_below_first [] (o ∷ os) h = absurd h
  all_below_first (m ∷ ms) [] h = absurd h

  pub all_of_lines : (mines : List (List Replied)) (outs : List (List (Emission × Emitted))) → AllKept mines outs → AllByRecursion (AllByRecursion IsOfItsLine) outs
  all_of_lines [] [] h = tt
  all_of_lines (m ∷ ms) (o ∷ os) h = (h.0.of, all_of_lines ms os h.1)
  all_of_lines [] (o ∷ os) h = absurd h
  all_of_lines (m ∷ ms) [] h = absurd h

  pub one_kept : (mines : List (List Replied)) (outs : List (List (Emission × Emitted))) → AllKept mines outs → (k : ℕ) (out : List (Emission × Emitted)) → slice_get outs k ≡ Some out →
      (mine : List Replied) × (slice_get mines k ≡ Some mine) × (map wanted_for out ≡ flat_map wanted_in mine)
  one_kept [] [] h k out at = cc
  one_kept (m ∷ ms) (o ∷ os) h zero out at =
      let same : o ≡ out = cc in (m, refl, subst (λ (xs : List (Emission × Emitted)). map wanted_for xs ≡ flat_map wanted_in m) same h.0.wanted)
  one_kept (m ∷ ms) (o ∷ os) h (suc k) out at = one_kept ms os h.1 k out at
  one_kept [] (o ∷ os) h k out at = absurd h
  one_kept (m ∷ ms) [] h k out at = absurd h

  -- the frames are on declared lanes, since what the replies want can leave the nodes

  module _ (s : Site) where
    declared_for : (v : ℕ) (e : Emission) → CanLeave s v e → is_lane s (lane_for e) ≡ true
    declared_for v (Again r) h = h.0
    declared_for v (New o) h = h.0

    abbrev Declared : ℕ × Emission → Type 0
    Declared x = is_lane s (lane_for x.1) ≡ true

    one_declared : (r : Replied) (es : List Emission) → AllByRecursion (CanLeave s r.node) es → AllByRecursion Declared (map (λ e. (r.turned.place, e)) es)
    one_declared r [] h = tt
    one_declared r (e ∷ es) h = (declared_for r.node e h.0, one_declared r es h.1)

    all_declared : (mine : List Replied) → AllByRecursion (Leaves s) mine → AllByRecursion Declared (flat_map wanted_in mine)
    all_declared [] h = tt
    all_declared (r ∷ rs) h = all_both Declared (wanted_in r) (flat_map wanted_in rs) (one_declared r (wanted_put (Replies r.turned.reply)) h.0) (all_declared rs h.1)

    abbrev OnLane : Emitted → Type 0
    OnLane e = is_lane s e.lane ≡ true

    on_lanes : (out : List (Emission × Emitted)) → AllByRecursion IsOfItsLine out → AllByRecursion (λ (x : Emission × Emitted). is_lane s (lane_for x.0) ≡ true) out → AllByRecursion OnLane (kept out)
    on_lanes [] of there = tt
    on_lanes (x ∷ out) of there = (ap (λ (l : Lane). is_lane s l) of.0.lane ∙ there.0, on_lanes out of.1 there.1)

    each_on_lanes : (mines : List (List Replied)) (outs : List (List (Emission × Emitted))) → AllKept mines outs → AllByRecursion (AllByRecursion (Leaves s)) mines → AllByRecursion (AllByRecursion OnLane) (map kept outs)
    each_on_lanes [] [] h leaves = tt
    each_on_lanes (m ∷ ms) (o ∷ os) h leaves = (
      on_lanes o h.0.of (from_map Declared wanted_for o (subst (AllByRecursion Declared) (sym h.0.wanted) (all_declared m leaves.0))),
      each_on_lanes ms os h.1 leaves.1,
    )
    each_on_lanes [] (o ∷ os) h leaves = absurd h
    each_on_lanes (m ∷ ms) [] h leaves = absurd h

    pub all_on_lanes : (mines : List (List Replied)) (outs : List (List (Emission × Emitted))) → AllKept mines outs → AllByRecursion (AllByRecursion (Leaves s)) mines →
        AllByRecursion (λ (e : Emitted). is_lane s e.lane ≡ true) (together (map kept outs))
    all_on_lanes mines outs h leaves = all_flat OnLane (map kept outs) (each_on_lanes mines outs h leaves)
