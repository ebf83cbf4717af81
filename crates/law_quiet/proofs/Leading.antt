-- What holds after each play of a script that comes to its end and reports only items of one kind.
use Rattle.std.proofs.Common.{◌≡◌, ℕ, Bool, true, List, [], ◌∷◌, ◌++◌, refl, sym, ◌∙◌, ap, subst}
use Rattle.std.specs.List.{list_all}
use Rattle.net_model.specs.World.{Network, World}
use Rattle.net_model.specs.Action.{Action}
use Rattle.net_model.specs.Step.{step, IsStep}
use Rattle.run_types.specs.declared.item.Item.{Item}
use Rattle.run_types.specs.declared.item.NumberedItem.{NumberedItem}
use Rattle.run_model.specs.Script.{Script, Ends, Reports, Looks, Asks, GivesUp, then_comes}
use Rattle.run_model.specs.Play.{Whole, Played, numbered, plain, play, IsPlay}
use Rattle.law_base.proofs.Base.{and_left, and_right, and_both}
use Rattle.law_quiet.proofs.Plays.{answered}

-- All items of the list are of the kind.
abbrev pub are_told : (Item → Bool) → List NumberedItem → Bool
are_told good items = list_all (λ (i : NumberedItem). good i.item) items

pub any_told : (items : List NumberedItem) → are_told (λ item. true) items ≡ true
any_told [] = refl
any_told (i ∷ items) = any_told items

-- Of items that were told one after another.

pub told_first : (good : Item → Bool) (xs ys : List NumberedItem) → are_told good (xs ++ ys) ≡ true → are_told good xs ≡ true
told_first good [] ys h = refl
told_first good (x ∷ xs) ys h =
    and_both (good x.item) (are_told good xs) (and_left (good x.item) (are_told good (xs ++ ys)) h) (told_first good xs ys (and_right (good x.item) (are_told good (xs ++ ys)) h))

pub told_later : (good : Item → Bool) (xs ys : List NumberedItem) → are_told good (xs ++ ys) ≡ true → are_told good ys ≡ true
told_later good [] ys h = h
told_later good (x ∷ xs) ys h = told_later good xs ys (and_right (good x.item) (are_told good (xs ++ ys)) h)

pub same_told : (xs ys zs : List NumberedItem) → xs ++ ys ≡ xs ++ zs → ys ≡ zs
same_told [] ys zs h = h
same_told (x ∷ xs) ys zs h = same_told xs ys zs (tail h)
  where
    tail : {a b : NumberedItem} {us vs : List NumberedItem} → a ∷ us ≡ b ∷ vs → us ≡ vs
    tail h = cc

first_told : (good : Item → Bool) (number : ℕ) (items : List Item) (rest : List NumberedItem) → are_told good (numbered number items ++ rest) ≡ true → list_all good items ≡ true
first_told good number [] rest h = refl
first_told good number (i ∷ items) rest h =
    and_both (good i) (list_all good items) (and_left (good i) _ h) (first_told good number items rest (and_right (good i) (are_told good (numbered number items ++ rest)) h))

later_told : (good : Item → Bool) (number : ℕ) (items : List Item) (rest : List NumberedItem) → are_told good (numbered number items ++ rest) ≡ true → are_told good rest ≡ true
later_told good number [] rest h = h
later_told good number (i ∷ items) rest h = later_told good number items rest (and_right (good i) (are_told good (numbered number items ++ rest)) h)

module _ (net : Network) (good : Item → Bool) where
  -- However the outside answers what the script asks for, this holds where the script ends.
  abbrev pub Leads : (World → Type 0) → World → Script → Type 0
  Leads Q w Ends = Q w
  Leads Q w (Reports items next) = list_all good items ≡ true → Leads Q w next
  Leads Q w (Looks next) = Leads Q w (next w)
  Leads Q w (Asks action next) = (a : Action) → plain a ≡ action → IsStep net w a → Leads Q (step net w a).0 (next (step net w a).1)
  Leads Q w GivesUp = Unit {0}

  pub leads_then : (Q R : World → Type 0) (s last : Script) → ((x : World) → Q x → Leads R x last) → (w : World) → Leads Q w s → Leads R w (then_comes s last)
  unfolding then_comes
  leads_then Q R Ends last more w h = more w h
  leads_then Q R (Reports items next) last more w h = λ told. leads_then Q R next last more w (h told)
  leads_then Q R (Looks next) last more w h = leads_then Q R (next w) last more w h
  leads_then Q R (Asks action next) last more w h = λ a asked may. leads_then Q R (next (step net w a).1) last more (step net w a).0 (h a asked may)
  leads_then Q R GivesUp last more w h = tt

  pub leads_play : (Q : World → Type 0) (number : ℕ) (s : Script) (w : World) (actions : List Action) → Leads Q w s → IsPlay net w s actions →
      (play net number w s actions).ending ≡ Whole → are_told good (play net number w s actions).items ≡ true → Q (play net number w s actions).world
  unfolding play
  leads_play Q number Ends w actions h plays whole told = h
  leads_play Q number (Reports items next) w actions h plays whole told =
      let rest = (play net number w next actions).items in
      leads_play Q number next w actions (h (first_told good number items rest told)) plays whole (later_told good number items rest told)
  leads_play Q number (Looks next) w actions h plays whole told = leads_play Q number (next w) w actions h plays whole told
  leads_play Q number (Asks action next) w [] h plays whole told = cc
  leads_play Q number (Asks action next) w (b ∷ rest) h plays whole told =
      let a = answered net number w action next (b ∷ rest) plays whole in
      let out = step net w a.one in
      subst (λ (p : Played). Q p.world) (sym a.same)
      (leads_play Q number (next out.1) out.0 a.rest (h a.one a.asked a.may) a.plays (ap (λ (p : Played). p.ending) (sym a.same) ∙ whole)
      (ap (λ (p : Played). are_told good p.items) (sym a.same) ∙ told))
  leads_play Q number GivesUp w actions h plays whole told = cc
