-- Which outcomes report ledgers.
use Rattle.std.proofs.Common.{◌≡◌, ℕ, not, Bool, true, false, List, [], ◌∷◌, map, refl, Option, Some, None}
use Rattle.std.specs.List.{list_all}
use Rattle.qkd_base.specs.Name.{Name}
use Rattle.qkd_base.specs.declared.lane.Lane.{Lane}
use Rattle.net_model.specs.declared.reply.Reply.{Reply}
use Rattle.net_model.specs.declared.reply.Reply.TheVariants as replies
use Rattle.net_model.specs.declared.short_of.ShortOf.{ShortOf}
use Rattle.net_model.specs.World.{World}
use Rattle.net_model.specs.Action.{Outcome, Replies, Started, WasUp, StartStopped, StartMemory, ForeignAt, Crashed, Armed, LinkSet, Put, Unsent}
use Rattle.run_types.specs.declared.end.End.{End}
use Rattle.run_types.specs.declared.stream_call.StreamCall.{StreamCall}
use Rattle.run_types.specs.declared.frame_result.FrameResult.{FrameResult}
use Rattle.run_types.specs.declared.frame_result.FrameResult.TheVariants as results
use Rattle.run_types.specs.declared.payload_kind.PayloadKind.{PayloadKind}
use Rattle.run_types.specs.declared.refusal.Refusal.{Refusal}
use Rattle.run_types.specs.declared.item.Item.{Item}
use Rattle.run_types.specs.declared.item.Item.TheVariants as items
use Rattle.run_model.specs.Refusals.{refused_in, reported_by, kind_of_octet}
use Rattle.run_model.specs.Outcomes.{made_items, handed_items, status_items, stream_items, http_items, show_items, ledger_items, heard, frame_items, put_items, block_items, crash_items, start_items, arm_items, link_items, is_idle, idle_items, short_item, plan_items}
use Rattle.run_model.specs.Headline.{is_ledger}
use Rattle.law_base.proofs.Base.{and_both, by_test}

abbrev pub is_other : Item → Bool
is_other item = not (is_ledger item)

pub refused : (p : Item → Bool) (item : Refusal → Item) → ((r : Refusal) → p (item r) ≡ true) → (o : Option Refusal) → list_all p (reported_by item o) ≡ true
refused p item h None = refl
refused p item h (Some r) = and_both (p (item r)) true (h r) refl

pub no_made : (out : Outcome) → list_all is_other (made_items out) ≡ true
no_made (Replies (replies.MadeKeys count first)) = refl
no_made out = refused is_other items.Refused (λ r. refl) (refused_in out)

pub no_handed : (out : Outcome) → list_all is_other (handed_items out) ≡ true
no_handed (Replies (replies.Handed keys)) = refl
no_handed out = refused is_other items.Refused (λ r. refl) (refused_in out)

pub no_status : (out : Outcome) → list_all is_other (status_items out) ≡ true
no_status (Replies (replies.ReadyCount count)) = refl
no_status out = refused is_other items.Refused (λ r. refl) (refused_in out)

pub no_stream : (call : StreamCall) (out : Outcome) → list_all is_other (stream_items call out) ≡ true
no_stream call (Replies (replies.Stream status stream index bytes)) = refl
no_stream call out = refused is_other items.Refused (λ r. refl) (refused_in out)

pub no_http : (v : ℕ) (response : Reply → ℕ × List ℕ) (out : Outcome) → list_all is_other (http_items v response out) ≡ true
no_http v response (Replies reply) = refl
no_http v response out = refl

pub no_shown : (v : ℕ) (n : Name) (out : Outcome) → list_all is_other (show_items v n out) ≡ true
no_shown v n (Replies (replies.Shown held bytes)) = refl
no_shown v n out = refused is_other (items.NotShown v n) (λ r. refl) (refused_in out)

pub no_heard : (item : FrameResult → Item) → ((r : FrameResult) → is_other (item r) ≡ true) → (fresh : Bool) (name : Name) (o : Option PayloadKind) →
    list_all is_other (map item (heard fresh name o)) ≡ true
no_heard item h fresh name None = refl
no_heard item h true name (Some kind) = and_both (is_other (item (results.Taken kind name))) true (h (results.Taken kind name)) refl
no_heard item h false name (Some kind) = and_both (is_other (item (results.Again kind name))) true (h (results.Again kind name)) refl

pub no_frame : (item : FrameResult → Item) → ((r : FrameResult) → is_other (item r) ≡ true) → (out : Outcome) → list_all is_other (frame_items item out) ≡ true
no_frame item h (Replies (replies.HeardFact fresh kind name)) = no_heard item h fresh name (kind_of_octet kind)
no_frame item h out = refused is_other (λ r. item (results.Refused r)) (λ r. h (results.Refused r)) (refused_in out)

pub no_put : (l : Lane) (offset size : ℕ) (out : Outcome) → list_all is_other (put_items l offset size out) ≡ true
no_put l offset size (Put number) = refl
no_put l offset size (Unsent for_memory) = refl
no_put l offset size out = refl

pub no_block : (link : ℕ) (end : End) (out : Outcome) → list_all is_other (block_items link end out) ≡ true
no_block link end (Replies (replies.Took number)) = refl
no_block link end out = refused is_other (items.TookNone link end) (λ r. refl) (refused_in out)

pub no_crash : (out : Outcome) → list_all is_other (crash_items out) ≡ true
no_crash Crashed = refl
no_crash out = refused is_other items.Refused (λ r. refl) (refused_in out)

pub no_start : (out : Outcome) → list_all is_other (start_items out) ≡ true
no_start Started = refl
no_start WasUp = refl
no_start StartStopped = refl
no_start (ForeignAt place) = refl
no_start StartMemory = refl
no_start out = refl

pub no_arm : (out : Outcome) → list_all is_other (arm_items out) ≡ true
no_arm Armed = refl
no_arm out = refl

pub no_link : (link : ℕ) (up : Bool) (out : Outcome) → list_all is_other (link_items link up out) ≡ true
no_link link up LinkSet = refl
no_link link up out = refl

pub no_idle : (quiet : Bool) (v : ℕ) → list_all is_other (idle_items quiet v) ≡ true
no_idle true v = refl
no_idle false v = refl

pub no_short : (shorts : List ShortOf) → list_all is_other (map short_item shorts) ≡ true
no_short [] = refl
no_short (s ∷ shorts) = no_short shorts

pub no_plan : (quiet : Bool) (v : ℕ) (out : Outcome) → list_all is_other (plan_items quiet v out) ≡ true
no_plan quiet v (Replies (replies.Planned orders repeats shorts)) =
    by_test (λ (xs : List Item). list_all is_other xs ≡ true) (is_idle orders repeats shorts) _ _ (λ e. no_idle quiet v) (λ e. no_short shorts)
no_plan quiet v out = refused is_other (items.NotTicked v) (λ r. refl) (refused_in out)

pub counts_lane : (l : Lane) (w : World) (out : Outcome) → list_all is_ledger (ledger_items l w out) ≡ true
counts_lane l w (Replies (replies.Counted counts)) = refl
counts_lane l w out = refused is_ledger (items.NotCounted l) (λ r. refl) (refused_in out)
