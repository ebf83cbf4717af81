-- A line that asks for keys hands out those that it reports.
use Rattle.std.proofs.Common.{◌≡◌, ◌∙◌, ℕ, Bool, true, false, List, [], ◌∷◌, refl, ap, arith}
use Rattle.std.specs.Prelude.{if◌then◌else◌}
use Rattle.net_model.specs.declared.event.Event.TheVariants.{Enc, Dec}
use Rattle.net_model.specs.declared.reply.Reply.TheVariants.{Handed}
use Rattle.net_model.specs.World.{Network, World}
use Rattle.net_model.specs.Action.{Action, Outcome, Ask, Replies}
use Rattle.net_model.specs.Step.{step}
use Rattle.run_model.specs.Outcomes.{handed_items}
use Rattle.run_model.specs.Script.{asks}
use Rattle.run_model.specs.Play.{ForgedAt, Whole, plain, numbered, reporting, stopped_at, is_forged, play, IsPlay, OneOf}
use Rattle.law_run.specs.Handed.{keys_in, enc_in, dec_in, counted, keys_told}

-- Counts don't depend on the answers of the outside.

pub enc_plain : (a : Action) (out : Outcome) → enc_in a out ≡ enc_in (plain a) out
enc_plain (Ask v (Enc m s n bits) environment) out = refl
enc_plain (Ask v event environment) out = refl
enc_plain a out = refl

pub dec_plain : (a : Action) (out : Outcome) → dec_in a out ≡ dec_in (plain a) out
dec_plain (Ask v (Dec s m names) environment) out = refl
dec_plain (Ask v event environment) out = refl
dec_plain a out = refl

-- The keys of an outcome are reported. A forged match hands out none.

told_items : (number : ℕ) (w : World) (out : Outcome) →
    keys_in out ≡ keys_told (if is_forged out then stopped_at w (ForgedAt number) else reporting (numbered number (handed_items out)) (stopped_at w Whole)).items
told_items number w (Replies (Handed keys)) = omega arith
told_items number w out = refl

nothing_more : (forged : Bool) (rest : List Action) → OneOf forged (rest ≡ []) (rest ≡ []) → rest ≡ []
nothing_more true rest h = h
nothing_more false rest h = h

module _ (count : Action → Outcome → ℕ) (same : (a : Action) (out : Outcome) → count a out ≡ count (plain a) out) (net : Network) (w : World) (action : Action) where
  none_counted : counted count net w [] ≡ 0
  unfolding counted
  none_counted = refl

  one_counted : (a : Action) (rest : List Action) → IsPlay net w (asks action handed_items) (a ∷ rest) → counted count net w (a ∷ rest) ≡ count action (step net w a).1
  unfolding counted
  one_counted a rest h =
      let out = step net w a in
      let later : counted count net out.0 rest ≡ 0 = ap (counted count net out.0) (nothing_more (is_forged out.1) rest h.2) in
      let here : count a out.1 ≡ count action out.1 = same a out.1 ∙ ap (λ (x : Action). count x out.1) h.0 in
      omega (arith, later, here)

  -- If the count is that of the requested action's keys, it equals the number of keys that are reported.
  pub all_told : ((out : Outcome) → count action out ≡ keys_in out) → (number : ℕ) (actions : List Action) → IsPlay net w (asks action handed_items) actions →
      counted count net w actions ≡ keys_told (play net number w (asks action handed_items) actions).items
  unfolding play
  all_told is number [] h = none_counted
  all_told is number (a ∷ rest) h = let out = step net w a in one_counted a rest h ∙ is out.1 ∙ told_items number out.0 out.1

  -- If the count ignores the requested action, it is zero.
  pub none_told : ((out : Outcome) → count action out ≡ 0) → (actions : List Action) → IsPlay net w (asks action handed_items) actions → counted count net w actions ≡ 0
  none_told is [] h = none_counted
  none_told is (a ∷ rest) h = one_counted a rest h ∙ is (step net w a).1
