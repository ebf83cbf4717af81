-- Frames are put in order, until all are put or the run ends.
use Rattle.std.proofs.Common.{ℕ, List, [], ◌++◌, refl, sym, ap, subst, ◌∙◌, append-nil, append_assoc}
use Rattle.net_model.specs.declared.placing.Placing.{Placing}
use Rattle.net_model.specs.World.{Network, World}
use Rattle.net_model.specs.Action.{Action}
use Rattle.net_model.specs.Tick.{Emission}
use Rattle.run_types.specs.declared.item.Item.{Item}
use Rattle.run_types.specs.declared.item.NumberedItem.{NumberedItem}
use Rattle.run_model.specs.Play.{Played, numbered, reporting, play, IsPlay}
use Rattle.run_model.specs.Lines.{emitted}
use Rattle.world_state.specs.Stands.{Stands}
use Rattle.world_state.specs.Tallied.{Tallied}
use Rattle.world_state.specs.Sending.{Sending, Puts, PutsOn, Breaks}
use Rattle.world_state.specs.declared.state.State.{State}
use Rattle.world_state.proofs.Disks.{has_disks}
use Rattle.world_state.proofs.Plays.{none_is, none_said, reporting_both, numbered_both}
use Rattle.world_state.proofs.Tallies.{none_tallied, tallied_more}
use Rattle.world_state.specs.Outside.{Outside}

module _ {K Q E X : Type 0} (outside : Outside K Q E X) where
  abbrev Going : State K Q E X → State K Q E X → Network → World → ℕ → List Emission → List Emission → List Item → List Placing → Type 0
  Going old new net w v from to reported placings = Puts outside old new net w v from to reported placings

  abbrev GoingOn : State K Q E X → State K Q E X → Network → World → ℕ → List Emission → List Emission → List Item → List Item → List Placing → Type 0
  GoingOn old new net w v from to before now placings = PutsOn outside old new net w v from to before now placings

  abbrev Broken : State K Q E X → State K Q E X → Network → World → ℕ → List Emission → Type 0
  Broken old new net w v from = Breaks outside old new net w v from

  pub puts_none : (s : State K Q E X) (net : Network) (w : World) (v : ℕ) (es : List Emission) (placings : List Placing) → Sending outside s net w v es placings →
      Going s s net w v es es [] placings
  puts_none s net w v es placings h = record {
    actions = [];
    after = w;
    is = λ rest p. p;
    said = λ number rest. refl;
    sending = h;
    tallied = none_tallied outside net.site s (has_disks outside s net w h.stands);
  }

  module _ (old mid new : State K Q E X) (net : Network) (w : World) (v : ℕ) (from to : List Emission) (reported : List Item) (placings : List Placing) (h : Going old mid net w v from to reported placings) where
    pub puts_more : (last : List Emission) (more : List Item) (others : List Placing) → Going mid new net h.after v to last more others → Going old new net w v from last (reported ++ more) others
    puts_more last more others k = record {
      actions = h.actions ++ k.actions;
      after = k.after;
      is = λ rest p. subst (λ (xs : List Action). IsPlay net w (emitted v from) xs) (sym (append_assoc h.actions k.actions rest)) (h.is (k.actions ++ rest) (k.is rest p));
      said = λ number rest.
          let last' = play net number k.after (emitted v last) rest in
          ap (λ (xs : List Action). play net number w (emitted v from) xs) (append_assoc h.actions k.actions rest) ∙ h.said number (k.actions ++ rest)
          ∙ ap (reporting (numbered number reported)) (k.said number rest) ∙ reporting_both (numbered number reported) (numbered number more) last'
          ∙ ap (λ (xs : List NumberedItem). reporting xs last') (numbered_both number reported more);
      sending = k.sending;
      tallied = tallied_more outside net.site old mid new h.actions k.actions h.tallied k.tallied;
    }

    pub puts_broken : Broken mid new net h.after v to → Broken old new net w v from
    puts_broken k = record {
      actions = h.actions ++ k.actions;
      is = h.is k.actions k.is;
      rests = subst (λ (x : World). Stands outside new net x) (sym (ap (λ (p : Played). p.world) (h.said 0 k.actions))) k.rests;
      tallied = tallied_more outside net.site old mid new h.actions k.actions h.tallied k.tallied;
    }

    pub puts_ends : Broken old mid net w v from
    puts_ends = record {
      actions = h.actions ++ [];
      is = h.is [] (none_is net h.after v to);
      rests = subst (λ (x : World). Stands outside mid net x) (sym (ap (λ (p : Played). p.world) (h.said 0 [] ∙ ap (reporting (numbered 0 reported)) (none_said net h.after v to)))) h.sending.stands;
      tallied = subst (λ (xs : List Action). Tallied outside old mid net.site xs) (sym (append-nil h.actions)) h.tallied;
    }

  -- the same with the items that were reported before

  pub puts_on_none : (s : State K Q E X) (net : Network) (w : World) (v : ℕ) (es : List Emission) (items : List Item) (placings : List Placing) →
      Sending outside s net w v es placings → GoingOn s s net w v es es items items placings
  puts_on_none s net w v es items placings h = record { reported = []; items = sym (append-nil items); puts = puts_none s net w v es placings h }

  pub puts_on_more : (old mid new : State K Q E X) (net : Network) (w : World) (v : ℕ) (from to last : List Emission) (before items now : List Item) (placings others : List Placing) →
      (h : GoingOn old mid net w v from to before items placings) → GoingOn mid new net h.puts.after v to last items now others → GoingOn old new net w v from last before now others
  puts_on_more old mid new net w v from to last before items now placings others h k = record {
    reported = h.reported ++ k.reported;
    items = k.items ∙ ap (λ (xs : List Item). xs ++ k.reported) h.items ∙ append_assoc before h.reported k.reported;
    puts = puts_more old mid new net w v from to h.reported placings h.puts last k.reported others k.puts;
  }
