-- The items that a block reports, place by place.
use Rattle.std.proofs.Common.{◌≡◌, ℕ, zero, suc, List, [], ◌∷◌, ◌++◌, map, refl, sym, ap, subst, ◌∙◌, arith}
use Rattle.std.specs.Prelude.{slice_get, Option, Some, None}
use Rattle.std.specs.List.{AllByRecursion, flat_map}
use Rattle.std.proofs.lemmas.List.Folds.{flat_map-map}
use Rattle.net_model.specs.declared.reply.Reply.{Reply}
use Rattle.net_model.specs.Site.{Site}
use Rattle.net_model.specs.World.{Network, World}
use Rattle.net_model.specs.Action.{Action, Outcome, Replies}
use Rattle.run_types.specs.declared.line.Line.{Line}
use Rattle.run_types.specs.declared.item.Item.{Item}
use Rattle.run_types.specs.declared.item.NumberedItem.{NumberedItem}
use Rattle.run_model.specs.Play.{numbered}
use Rattle.run_model.specs.Turn.{HttpTexts, Turn, Unasked, Asked}
use Rattle.run_model.specs.Works.{Works, Done, flat, block_turn, turn_at, turns_done}
use Rattle.run_model.specs.Block.{PutDone, outcome_items, all_unasked, turn_items, block_items, number_at, number_of as number_of_line}
use Rattle.run_ops.specs.declared.job.Job.{Job}
use Rattle.run_ops.specs.declared.done_block.DoneBlock.{DoneBlock}
use Rattle.run_ops.specs.declared.done_block.Turned.{Turned}
use Rattle.run_ops.specs.declared.done_block.PutFrame.{PutFrame}
use Rattle.run_ops.specs.Together.{AreWorks, turned, turn_done, frame_put, put_done, puts_reported}
use Rattle.run_tasks.specs.declared.prepared.Place.{Place}
use Rattle.run_tasks.specs.declared.prepared.Prepared.{Prepared}
use Rattle.run_tasks.specs.Prepared.{asked_in, said_in, AreOfLines, IsPrepared, told_item}
use Rattle.run_tasks.specs.Reported.{number_in, reply_told, turn_told, turns_told, frames_told}
use Rattle.run_tasks.proofs.Merged.{all_before, all_after}
use Rattle.run_tasks.proofs.Asked.{IsAsked, asks_at, turns_asked}

-- If a turn asks for an action, it reports the items that it has for the action's reply.
asked_says : (turn : Turn) (action : Action) (reply : Reply) → asked_in turn ≡ Some action → outcome_items turn (Replies reply) ≡ said_in turn reply
asked_says (Unasked said) action reply e = absurd (let wrong : None ≡ Some action = e in cc)
asked_says (Asked asked said) action reply e = refl

module _ (http : HttpTexts) (site : Site) (w : World) where
  -- ---- the replies

  line_told : Option Line → Outcome → List NumberedItem
  line_told line out = numbered (number_of_line line) (outcome_items (turn_at http site w line) out)

  same_told : (lines : List Line) (jobs : List Job) (places : List Place) → AreOfLines http site w lines jobs places → (i : ℕ) (action : Action) → asks_at (slice_get jobs i) ≡ Some action →
      (t : Turned) → line_told (slice_get lines i) (Replies t.reply) ≡ reply_told http t (slice_get jobs i) (slice_get places i)
  unfolding line_told
  same_told lines [] places h i action asks t = absurd (let wrong : None ≡ Some action = asks in cc)
  same_told [] (j ∷ js) places h i action asks t = absurd h
  same_told (l ∷ ls) (j ∷ js) [] h i action asks t = absurd h
  same_told (l ∷ ls) (j ∷ js) (p ∷ ps) h zero action asks t =
      let turn = block_turn http site w l.command in
      ap (λ (n : ℕ). numbered n (outcome_items turn (Replies t.reply))) (sym h.0.0)
      ∙ ap (numbered p.number) (asked_says turn action t.reply (sym h.0.1.asks ∙ asks) ∙ sym (h.0.1.told t.reply))
  same_told (l ∷ ls) (j ∷ js) (p ∷ ps) h (suc i) action asks t = same_told ls js ps h.1 i action asks t

  said_at : List Line → ℕ × Outcome → List NumberedItem
  said_at lines o = line_told (slice_get lines o.0) o.1

  each_told : (lines : List Line) (jobs : List Job) (places : List Place) → AreOfLines http site w lines jobs places → (ts : List Turned) →
      AllByRecursion (λ (t : Turned). IsAsked jobs 0 t.place) ts → flat_map (λ (t : Turned). said_at lines (turned t)) ts ≡ turns_told http jobs places ts
  unfolding said_at
  each_told lines jobs places h [] asked = refl
  each_told lines jobs places h (t ∷ ts) asked =
      let a = asked.0 in
      let is : t.place ≡ a.at = (let h = a.is in omega (arith, h)) in
      let one : line_told (slice_get lines t.place) (Replies t.reply) ≡ turn_told http jobs places t =
      subst (λ (i : ℕ). line_told (slice_get lines i) (Replies t.reply) ≡ reply_told http t (slice_get jobs i) (slice_get places i)) (sym is)
      (same_told lines jobs places h a.at a.action a.asks t) in
      ap (λ (xs : List NumberedItem). xs ++ flat_map (λ (u : Turned). line_told (slice_get lines u.place) (Replies u.reply)) ts) one
      ∙ ap (λ (xs : List NumberedItem). turn_told http jobs places t ++ xs) (each_told lines jobs places h ts asked.1)

  turns_same : (lines : List Line) (jobs : List Job) (places : List Place) → AreOfLines http site w lines jobs places → (ts : List Turned) (ds : List Done) → map turned ts ≡ map turn_done ds →
      AllByRecursion (λ (d : Done). IsAsked jobs 0 d.work.place) ds → turn_items http site w lines ds ≡ turns_told http jobs places ts
  unfolding said_at line_told
  turns_same lines jobs places h ts ds same asked =
      let said = said_at lines in
      let placed : AllByRecursion (λ (o : ℕ × Outcome). IsAsked jobs 0 o.0) (map turned ts) =
      subst (AllByRecursion (λ (o : ℕ × Outcome). IsAsked jobs 0 o.0)) (sym same) (all_after (λ (o : ℕ × Outcome). IsAsked jobs 0 o.0) turn_done ds asked) in
      sym (flat_map-map said turn_done ds) ∙ ap (flat_map said) (sym same) ∙ flat_map-map said turned ts
      ∙ each_told lines jobs places h ts (all_before (λ (o : ℕ × Outcome). IsAsked jobs 0 o.0) turned ts placed)

  -- ---- the frames

  same_number : (lines : List Line) (jobs : List Job) (places : List Place) → AreOfLines http site w lines jobs places → (i : ℕ) → number_at lines i ≡ number_in places i
  same_number [] [] [] h i = refl
  same_number [] [] (p ∷ ps) h i = absurd h
  same_number [] (j ∷ js) places h i = absurd h
  same_number (l ∷ ls) [] places h i = absurd h
  same_number (l ∷ ls) (j ∷ js) [] h i = absurd h
  same_number (l ∷ ls) (j ∷ js) (p ∷ ps) h zero = sym h.0.0
  same_number (l ∷ ls) (j ∷ js) (p ∷ ps) h (suc i) = same_number ls js ps h.1 i

  frame_at : List Line → ℕ × List Item → List NumberedItem
  frame_at lines o = numbered (number_at lines o.0) o.1

  each_frame : (lines : List Line) (jobs : List Job) (places : List Place) → AreOfLines http site w lines jobs places → (fs : List PutFrame) →
      flat_map (λ (f : PutFrame). frame_at lines (frame_put f)) fs ≡ frames_told places fs
  unfolding frame_at
  each_frame lines jobs places h [] = refl
  each_frame lines jobs places h (f ∷ fs) =
      ap (λ (n : ℕ). numbered n (f.item ∷ []) ++ flat_map (λ (g : PutFrame). numbered (number_at lines g.place) (g.item ∷ [])) fs) (same_number lines jobs places h f.place)
      ∙ ap (λ (xs : List NumberedItem). numbered (number_in places f.place) (f.item ∷ []) ++ xs) (each_frame lines jobs places h fs)

  frames_same : (lines : List Line) (jobs : List Job) (places : List Place) → AreOfLines http site w lines jobs places → (fs : List PutFrame) (ps : List PutDone) →
      map frame_put fs ≡ map put_done ps → flat_map (λ (p : PutDone). numbered (number_at lines p.place) p.reported) ps ≡ frames_told places fs
  unfolding frame_at
  frames_same lines jobs places h fs ps same =
      let said = frame_at lines in
      sym (flat_map-map said put_done ps) ∙ ap (flat_map said) (sym same) ∙ flat_map-map said frame_put fs ∙ each_frame lines jobs places h fs

-- ---- the whole report

abbrev pub items_told : HttpTexts → Prepared → DoneBlock → List NumberedItem
items_told http p done = map told_item p.told.items ++ turns_told http p.jobs.items p.places.items done.turns.items ++ frames_told p.places.items done.frames.items

pub same_items : (http : HttpTexts) (net : Network) (workers : ℕ) (w : World) (lines : List Line) (p : Prepared) (works : Works) (done : DoneBlock) →
    IsPrepared http net.site w lines p → AreWorks net workers w p.jobs.items works → map turned done.turns.items ≡ map turn_done (flat (turns_done net w works)) →
    map frame_put done.frames.items ≡ map put_done (puts_reported net w works) → items_told http p done ≡ block_items http net w lines works
unfolding block_items
same_items http net workers w lines p works done is are turns frames =
    let jobs = p.jobs.items in
    let places = p.places.items in
    let replied = turns_same http net.site w lines jobs places is.places done.turns.items (flat (turns_done net w works)) turns (turns_asked net w jobs workers works are) in
    let framed = frames_same http net.site w lines jobs places is.places done.frames.items (puts_reported net w works) frames in
    let unasked = all_unasked http net.site w lines in
    let turn_told = turn_items http net.site w lines (flat (turns_done net w works)) in
    ap (λ (xs : List NumberedItem). xs ++ turns_told http jobs places done.turns.items ++ frames_told places done.frames.items) is.told
    ∙ ap (λ (xs : List NumberedItem). unasked ++ xs ++ frames_told places done.frames.items) (sym replied)
    ∙ ap (λ (xs : List NumberedItem). unasked ++ turn_told ++ xs) (sym framed)
