-- Plays of two scripts in sequence.
use Rattle.std.proofs.Common.{◌≡◌, ℕ, Bool, true, false, List, [], ◌∷◌, ◌++◌, refl, sym, ap, subst, ◌∙◌}
use Rattle.std.specs.Prelude.{if◌then◌else◌}
use Rattle.std.proofs.lemmas.List.{append_assoc}
use Rattle.net_model.specs.World.{Network, World}
use Rattle.net_model.specs.Action.{Action}
use Rattle.net_model.specs.Step.{step}
use Rattle.run_types.specs.declared.item.NumberedItem.{NumberedItem}
use Rattle.run_model.specs.Script.{Script, Ends, Reports, Looks, Asks, GivesUp, then_comes}
use Rattle.run_model.specs.Play.{ForgedAt, Played, numbered, is_forged, reporting, stopped_at, play, OneOf, IsPlay}
use Rattle.run_model.specs.Report.{is_whole}

pub reported : (xs ys : List NumberedItem) (p q : Played) → q ≡ reporting ys p → reporting xs q ≡ reporting (xs ++ ys) p
reported xs ys p q same =
    ap (reporting xs) same ∙ ap (λ (zs : List NumberedItem). record { items = zs; world = p.world; ending = p.ending }) (sym (append_assoc xs ys p.items))

module _ (net : Network) (number : ℕ) (last : Script) where
  -- The second script is played in the world in which the first one ended.
  abbrev Follows : World → Script → List Action → List Action → Type 0
  Follows w s prefix rest =
      let p = play net number w s prefix in
      IsPlay net p.world last rest →
      IsPlay net w (then_comes s last) (prefix ++ rest) × (play net number w (then_comes s last) (prefix ++ rest) ≡ reporting p.items (play net number p.world last rest))

  -- The first script goes on with an action after which the run may end on a forged match.
  asked : (prefix rest : List Action) (w : World) (A B : Type 0) (p q : Played) (forged : Bool) → OneOf forged (prefix ≡ []) A →
      is_whole (if forged then stopped_at w (ForgedAt number) else p).ending ≡ true →
      (A → is_whole p.ending ≡ true → IsPlay net p.world last rest → B × (q ≡ reporting p.items (play net number p.world last rest))) →
      IsPlay net (if forged then stopped_at w (ForgedAt number) else p).world last rest →
      OneOf forged (prefix ++ rest ≡ []) B ×
      ((if forged then stopped_at w (ForgedAt number) else q) ≡
      reporting (if forged then stopped_at w (ForgedAt number) else p).items (play net number (if forged then stopped_at w (ForgedAt number) else p).world last rest))
  asked prefix rest w A B p q true is whole again second = cc
  asked prefix rest w A B p q false is whole again second = again is whole second

  pub follows : (w : World) (s : Script) (prefix rest : List Action) → IsPlay net w s prefix → is_whole (play net number w s prefix).ending ≡ true → Follows w s prefix rest
  unfolding play then_comes
  follows w Ends prefix rest is whole second =
      (subst (λ (before : List Action). IsPlay net w last (before ++ rest)) (sym is) second, ap (λ (before : List Action). play net number w last (before ++ rest)) is)
  follows w (Reports items next) prefix rest is whole second =
      let more = follows w next prefix rest is whole second in (more.0, reported (numbered number items) (play net number w next prefix).items _ _ more.1)
  follows w (Looks next) prefix rest is whole second = follows w (next w) prefix rest is whole second
  follows w (Asks action next) [] rest is whole second = cc
  follows w (Asks action next) (a ∷ prefix) rest is whole second =
      let out = step net w a in
      let more = asked prefix rest out.0 (IsPlay net out.0 (next out.1) prefix) (IsPlay net out.0 (then_comes (next out.1) last) (prefix ++ rest)) (play net number out.0 (next out.1) prefix)
      (play net number out.0 (then_comes (next out.1) last) (prefix ++ rest)) (is_forged out.1) is.2 whole (follows out.0 (next out.1) prefix rest) second in
      ((is.0, is.1, more.0), more.1)
  follows w GivesUp prefix rest is whole second = cc

  -- If the first script ends early, the second one isn't begun.

  cut : (prefix : List Action) (w : World) (A B : Type 0) (p q : Played) (forged : Bool) → OneOf forged (prefix ≡ []) A →
      is_whole (if forged then stopped_at w (ForgedAt number) else p).ending ≡ false → (A → is_whole p.ending ≡ false → B × (q ≡ p)) →
      OneOf forged (prefix ≡ []) B × ((if forged then stopped_at w (ForgedAt number) else q) ≡ (if forged then stopped_at w (ForgedAt number) else p))
  cut prefix w A B p q true is whole again = (is, refl)
  cut prefix w A B p q false is whole again = again is whole

  pub stays_cut : (w : World) (s : Script) (prefix : List Action) → IsPlay net w s prefix → is_whole (play net number w s prefix).ending ≡ false →
      IsPlay net w (then_comes s last) prefix × (play net number w (then_comes s last) prefix ≡ play net number w s prefix)
  unfolding play then_comes
  stays_cut w Ends prefix is whole = cc
  stays_cut w (Reports items next) prefix is whole = let more = stays_cut w next prefix is whole in (more.0, ap (reporting (numbered number items)) more.1)
  stays_cut w (Looks next) prefix is whole = stays_cut w (next w) prefix is whole
  stays_cut w (Asks action next) [] is whole = (tt, refl)
  stays_cut w (Asks action next) (a ∷ prefix) is whole =
      let out = step net w a in
      let more = cut prefix out.0 (IsPlay net out.0 (next out.1) prefix) (IsPlay net out.0 (then_comes (next out.1) last) prefix) (play net number out.0 (next out.1) prefix)
      (play net number out.0 (then_comes (next out.1) last) prefix) (is_forged out.1) is.2 whole (stays_cut out.0 (next out.1) prefix) in
      ((is.0, is.1, more.0), more.1)
  stays_cut w GivesUp prefix is whole = (is, refl)
