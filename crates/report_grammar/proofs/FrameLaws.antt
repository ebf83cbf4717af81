-- The rows of links, ticks, frames and lanes are read back as the items that they were written from.
use Rattle.std.proofs.Common.{◌≡◌, ℕ, ◌<◌, ◌^◌, Bool, true, List, [], ◌∷◌, Some, refl, ap, ◌∙◌, arith}
use Rattle.std.specs.List.{slice_split}
use Rattle.std.specs.Fmt.{decimal}
use lib.Chars.{codes}
use Rattle.qkd_base.specs.declared.lane.Lane.{Lane}
use Rattle.net_model.specs.declared.counts.Counts4.{Counts4}
use Rattle.run_types.specs.declared.end.End.{End}
use Rattle.scenario_text.specs.Words.{Word, is_space}
use Rattle.scenario_format.proofs.Numerals.{number_is}
use Rattle.run_types.specs.declared.refusal.Refusal.{Refusal}
use Rattle.run_types.specs.declared.frame_result.FrameResult.{FrameResult}
use Rattle.run_types.specs.declared.unsent_cause.UnsentCause.{UnsentCause}
use Rattle.run_types.specs.declared.item.Item.TheVariants as items
use Rattle.run_types.specs.Words.{words, end_text, way_text, lane_text, node_text, cause_text, up_text, counts_words}
use Rattle.run_types.specs.Texts.{refusal_text, result_text}
use Rattle.report_grammar.specs.Refusals.{refusal_at}
use Rattle.report_grammar.specs.Rows.{item_at, plain_at, lane_row_at, on_lane_at, took_at, bits_at, ticked_at, not_ticked_at, tick_at, idle_at, short_at, sent_at, unsent_at, passed_at, flipped_at, forged_at, link_set_at, counted_at, ledger_at}
use Rattle.report_grammar.specs.Tellable.{HasName, CanRefuse, CanResult, AreCounts}
use Rattle.report_grammar.proofs.Spaceless.{is_spaceless, split_behind, split_all, lane_apart, long_spaceless, digits_spaceless, way_spaceless}
use Rattle.report_grammar.proofs.FieldLaws.{long_is, short_is, node_is, link_is, lane_is, end_is, end_spaceless, up_is, up_spaceless, cause_is, cause_spaceless}
use Rattle.report_grammar.proofs.RefusalLaws.{refuses, Other, others, result_is}

-- ---- links

link_spaceless : (l : ℕ) → l < 32 → is_spaceless (decimal l) ≡ true
link_spaceless l h = digits_spaceless l (omega arith)

pub took_is : (nodes : List (List ℕ)) (l : ℕ) (e : End) (n : ℕ) → l < 32 → n < 2 ^ 32 → item_at nodes (slice_split is_space (words (codes "bits" ∷ decimal l ∷ end_text e ∷ decimal n ∷ []))) ≡ Some (items.Took l e n)
unfolding item_at plain_at bits_at took_at
took_is nodes l e n h k =
    ap (item_at nodes) (split_all (codes "bits") (decimal l ∷ end_text e ∷ decimal n ∷ []) (rw (link_spaceless l h, end_spaceless e, digits_spaceless n k) refl))
    ∙ rw (link_is l h, end_is e, number_is n k) refl

no_block : (l : ℕ) (e : End) (w : Word) (ws : List Word) (r : Refusal) → Other w → refusal_at (w ∷ ws) ≡ Some r → took_at l e (w ∷ ws) ≡ Some (items.TookNone l e r)
unfolding took_at
no_block l e w ws r o read = rw (o.number, read) refl

pub took_none_is : (nodes : List (List ℕ)) (l : ℕ) (e : End) (r : Refusal) → l < 32 → CanRefuse r → item_at nodes (slice_split is_space (words (codes "bits" ∷ decimal l ∷ end_text e ∷ refusal_text r ∷ []))) ≡ Some (items.TookNone l e r)
unfolding item_at plain_at bits_at
took_none_is nodes l e r h k =
    let p = refuses r k in
    ap (item_at nodes) (split_behind (codes "bits" ∷ decimal l ∷ end_text e ∷ []) (refusal_text r) (rw (link_spaceless l h, end_spaceless e) refl) ∙ ap (λ (ws : List Word). codes "bits" ∷ decimal l ∷ end_text e ∷ ws) p.is)
    ∙ rw (link_is l h, end_is e) (no_block l e p.first p.rest r (others p) p.read)

pub link_set_is : (nodes : List (List ℕ)) (l : ℕ) (b : Bool) → l < 32 → item_at nodes (slice_split is_space (words (codes "link" ∷ decimal l ∷ up_text b ∷ []))) ≡ Some (items.LinkSet l b)
unfolding item_at plain_at link_set_at
link_set_is nodes l b h =
    ap (item_at nodes) (split_all (codes "link") (decimal l ∷ up_text b ∷ []) (rw (link_spaceless l h, up_spaceless b) refl)) ∙ rw (link_is l h, up_is b) refl

-- ---- ticks

pub ticked_is : (nodes : List (List ℕ)) (v fresh again : ℕ) → HasName nodes v → fresh < 2 ^ 32 → again < 2 ^ 32 →
    item_at nodes (slice_split is_space (words (codes "tick" ∷ node_text nodes v ∷ codes "new" ∷ decimal fresh ∷ codes "again" ∷ decimal again ∷ []))) ≡ Some (items.Ticked v fresh again)
unfolding item_at plain_at tick_at ticked_at
ticked_is nodes v fresh again h f a =
    ap (item_at nodes) (split_all (codes "tick") (node_text nodes v ∷ codes "new" ∷ decimal fresh ∷ codes "again" ∷ decimal again ∷ []) (rw (h.spaceless, digits_spaceless fresh f, digits_spaceless again a) refl))
    ∙ rw (node_is nodes v h, number_is fresh f, number_is again a) refl

pub idle_is : (nodes : List (List ℕ)) (v : ℕ) → HasName nodes v → item_at nodes (slice_split is_space (words (codes "idle" ∷ node_text nodes v ∷ []))) ≡ Some (items.Idle v)
unfolding item_at plain_at idle_at
idle_is nodes v h = ap (item_at nodes) (split_all (codes "idle") (node_text nodes v ∷ []) (rw h.spaceless refl)) ∙ rw (node_is nodes v h) refl

pub not_ticked_is : (nodes : List (List ℕ)) (v : ℕ) (r : Refusal) → HasName nodes v → CanRefuse r → item_at nodes (slice_split is_space (words (codes "tick" ∷ node_text nodes v ∷ refusal_text r ∷ []))) ≡ Some (items.NotTicked v r)
unfolding item_at plain_at tick_at not_ticked_at
not_ticked_is nodes v r h k =
    let p = refuses r k in
    let o = others p in
    ap (item_at nodes) (split_behind (codes "tick" ∷ node_text nodes v ∷ []) (refusal_text r) (rw h.spaceless refl) ∙ ap (λ (ws : List Word). codes "tick" ∷ node_text nodes v ∷ ws) p.is)
    ∙ rw (node_is nodes v h, o.new, p.read) refl

-- ---- lanes

lane_split : (w : Word) (l : Lane) (v : Word) (vs : List Word) → is_spaceless w ≡ true → l.link < 32 →
    slice_split is_space (words (w ∷ lane_text l ∷ v ∷ vs)) ≡ w ∷ decimal l.link ∷ way_text l.way ∷ slice_split is_space (words (v ∷ vs))
lane_split w l v vs plain h =
    ap (slice_split is_space) (lane_apart w v l vs)
    ∙ split_behind (w ∷ decimal l.link ∷ way_text l.way ∷ []) (words (v ∷ vs)) (rw (plain, link_spaceless l.link h, way_spaceless l.way) refl)

-- A row of a lane has its first word, the lane's two words, and then the words of the text behind them.
lane_words : (w : Word) (l : Lane) (v : Word) (vs read : List Word) → is_spaceless w ≡ true → l.link < 32 → slice_split is_space (words (v ∷ vs)) ≡ read →
    slice_split is_space (words (w ∷ lane_text l ∷ v ∷ vs)) ≡ w ∷ decimal l.link ∷ way_text l.way ∷ read
lane_words w l v vs read plain h e = lane_split w l v vs plain h ∙ ap (λ (ws : List Word). w ∷ decimal l.link ∷ way_text l.way ∷ ws) e

pub short_is_read : (nodes : List (List ℕ)) (l : Lane) (used need received : ℕ) → l.link < 32 → used < 2 ^ 64 → need < 2 ^ 64 → received < 2 ^ 64 →
    item_at nodes (slice_split is_space (words (codes "short" ∷ lane_text l ∷ decimal used ∷ decimal need ∷ decimal received ∷ []))) ≡ Some (items.Short l used need received)
unfolding item_at plain_at lane_row_at on_lane_at short_at
short_is_read nodes l used need received h u n r =
    ap (item_at nodes)
    (lane_words (codes "short") l (decimal used) (decimal need ∷ decimal received ∷ []) (decimal used ∷ decimal need ∷ decimal received ∷ []) refl h
    (split_all (decimal used) (decimal need ∷ decimal received ∷ []) (rw (long_spaceless used u, long_spaceless need n, long_spaceless received r) refl)))
    ∙ rw (lane_is l h, long_is used u, long_is need n, long_is received r) refl

pub sent_is : (nodes : List (List ℕ)) (l : Lane) (number offset length : ℕ) → l.link < 32 → number < 2 ^ 64 → offset < 2 ^ 64 → length < 2 ^ 16 →
    item_at nodes (slice_split is_space (words (codes "sent" ∷ lane_text l ∷ decimal number ∷ decimal offset ∷ decimal length ∷ []))) ≡ Some (items.Sent l number offset length)
unfolding item_at plain_at lane_row_at on_lane_at sent_at
sent_is nodes l number offset length h n o k =
    ap (item_at nodes)
    (lane_words (codes "sent") l (decimal number) (decimal offset ∷ decimal length ∷ []) (decimal number ∷ decimal offset ∷ decimal length ∷ []) refl h
    (split_all (decimal number) (decimal offset ∷ decimal length ∷ []) (rw (long_spaceless number n, long_spaceless offset o, digits_spaceless length (omega arith)) refl)))
    ∙ rw (lane_is l h, long_is number n, long_is offset o, short_is length k) refl

pub unsent_is : (nodes : List (List ℕ)) (l : Lane) (offset : ℕ) (cause : UnsentCause) → l.link < 32 → offset < 2 ^ 64 →
    item_at nodes (slice_split is_space (words (codes "unsent" ∷ lane_text l ∷ decimal offset ∷ cause_text cause ∷ []))) ≡ Some (items.Unsent l offset cause)
unfolding item_at plain_at lane_row_at on_lane_at unsent_at
unsent_is nodes l offset cause h o =
    ap (item_at nodes)
    (lane_words (codes "unsent") l (decimal offset) (cause_text cause ∷ []) (decimal offset ∷ cause_text cause ∷ []) refl h (split_all (decimal offset) (cause_text cause ∷ []) (rw (long_spaceless offset o, cause_spaceless cause) refl)))
    ∙ rw (lane_is l h, long_is offset o, cause_is cause) refl

pub passed_is : (nodes : List (List ℕ)) (l : Lane) (number : ℕ) (result : FrameResult) → l.link < 32 → number < 2 ^ 32 → CanResult result →
    item_at nodes (slice_split is_space (words (codes "pass" ∷ lane_text l ∷ decimal number ∷ result_text result ∷ []))) ≡ Some (items.Passed l number result)
unfolding item_at plain_at lane_row_at on_lane_at passed_at
passed_is nodes l number result h n r =
    ap (item_at nodes)
    (lane_words (codes "pass") l (decimal number) (result_text result ∷ []) (decimal number ∷ slice_split is_space (result_text result)) refl h (split_behind (decimal number ∷ []) (result_text result) (rw (digits_spaceless number n) refl)))
    ∙ rw (lane_is l h, number_is number n, result_is result r) refl

pub flipped_is : (nodes : List (List ℕ)) (l : Lane) (number bit : ℕ) (result : FrameResult) → l.link < 32 → number < 2 ^ 32 → bit < 2 ^ 32 → CanResult result →
    item_at nodes (slice_split is_space (words (codes "flip" ∷ lane_text l ∷ decimal number ∷ decimal bit ∷ result_text result ∷ []))) ≡ Some (items.Flipped l number bit result)
unfolding item_at plain_at lane_row_at on_lane_at flipped_at
flipped_is nodes l number bit result h n b r =
    ap (item_at nodes)
    (lane_words (codes "flip") l (decimal number) (decimal bit ∷ result_text result ∷ []) (decimal number ∷ decimal bit ∷ slice_split is_space (result_text result)) refl h
    (split_behind (decimal number ∷ decimal bit ∷ []) (result_text result) (rw (digits_spaceless number n, digits_spaceless bit b) refl)))
    ∙ rw (lane_is l h, number_is number n, number_is bit b, result_is result r) refl

pub forged_is : (nodes : List (List ℕ)) (l : Lane) (result : FrameResult) → l.link < 32 → CanResult result →
    item_at nodes (slice_split is_space (words (codes "forge" ∷ lane_text l ∷ result_text result ∷ []))) ≡ Some (items.Forged l result)
unfolding item_at plain_at lane_row_at on_lane_at forged_at
forged_is nodes l result h r =
    ap (item_at nodes) (lane_words (codes "forge") l (result_text result) [] (slice_split is_space (result_text result)) refl h refl)
    ∙ rw (lane_is l h, result_is result r) refl

pub counted_is : (nodes : List (List ℕ)) (l : Lane) (c : Counts4) → l.link < 32 → AreCounts c → item_at nodes (slice_split is_space (words (codes "ledger" ∷ lane_text l ∷ counts_words c))) ≡ Some (items.Counted l c)
unfolding item_at plain_at lane_row_at on_lane_at ledger_at counted_at
counted_is nodes l c h k =
    ap (item_at nodes)
    (lane_words (codes "ledger") l (codes "received") (decimal c.received ∷ codes "unused" ∷ decimal c.unused ∷ codes "spent" ∷ decimal c.spent ∷ codes "burnt" ∷ decimal c.burnt ∷ []) (counts_words c) refl h
    (split_all (codes "received") (decimal c.received ∷ codes "unused" ∷ decimal c.unused ∷ codes "spent" ∷ decimal c.spent ∷ codes "burnt" ∷ decimal c.burnt ∷ [])
    (rw (long_spaceless c.received k.received, long_spaceless c.unused k.unused, long_spaceless c.spent k.spent, long_spaceless c.burnt k.burnt) refl)))
    ∙ rw (lane_is l h, long_is c.received k.received, long_is c.unused k.unused, long_is c.spent k.spent, long_is c.burnt k.burnt) refl

pub not_counted_is : (nodes : List (List ℕ)) (l : Lane) (r : Refusal) → l.link < 32 → CanRefuse r → item_at nodes (slice_split is_space (words (codes "ledger" ∷ lane_text l ∷ refusal_text r ∷ []))) ≡ Some (items.NotCounted l r)
unfolding item_at plain_at lane_row_at on_lane_at ledger_at
not_counted_is nodes l r h k =
    let p = refuses r k in
    let o = others p in
    ap (item_at nodes) (lane_words (codes "ledger") l (refusal_text r) [] (p.first ∷ p.rest) refl h p.is)
    ∙ rw (lane_is l h, o.received, p.read) refl
