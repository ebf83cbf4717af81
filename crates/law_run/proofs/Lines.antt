-- What lines report and ask for.
use Rattle.std.proofs.Common.{◌≡◌, ℕ, zero, suc, ◌+◌, ◌-◌, Bool, true, false, ◌&&◌, List, [], ◌∷◌, length, refl}
use Rattle.std.specs.Prelude.{nat_lt}
use Rattle.std.specs.List.{list_all}
use Rattle.qkd_base.specs.declared.lane.Lane.{Lane}
use Rattle.net_model.specs.declared.event.Event.{Event}
use Rattle.net_model.specs.declared.event.Event.TheVariants as events
use Rattle.net_model.specs.declared.reply.Reply.{Reply}
use Rattle.net_model.specs.declared.reply.Reply.TheVariants as replies
use Rattle.net_model.specs.Facts.{payload_len}
use Rattle.net_model.specs.Site.{Site, count_up, outgoing_lanes}
use Rattle.net_model.specs.World.{World}
use Rattle.net_model.specs.Tick.{Emission, Again, New, tick_order}
use Rattle.net_model.specs.Action.{Action, Outcome, Replies, Ask, StartStopped, StartMemory, ForeignAt}
use Rattle.run_types.specs.declared.end.End.{End}
use Rattle.run_types.specs.declared.end.End.TheVariants.{Low, High}
use Rattle.run_types.specs.declared.command.Command.{Command}
use Rattle.run_types.specs.declared.command.Command.TheVariants as commands
use Rattle.run_types.specs.declared.item.Item.{Item}
use Rattle.run_types.specs.declared.item.Item.TheVariants as items
use Rattle.run_model.specs.Outcomes.{made_items, handed_items}
use Rattle.run_model.specs.Turn.{HttpTexts, Request, AnswersAtOnce, Calls, Turn, Unasked, Asked, http_turn, turn_of}
use Rattle.run_model.specs.Script.{Script, then_comes}
use Rattle.run_model.specs.Play.{plain}
use Rattle.run_model.specs.Headline.{is_ledger}
use Rattle.run_model.specs.Lines.{block_at_end, is_taken, blocks, has_low, has_high, offset_in, emitted, after_plan, ticked, all_lanes, ticks, passes, all_passes, on_wires, settle, script_of_turn, script_of, begun, begins}
use Rattle.law_base.proofs.Base.{and_left, and_right, by_test}
use Rattle.law_run.specs.Handed.{asks_no_key, is_of_pairs}
use Rattle.law_run.specs.Kinds.{is_of_load, is_unhanding, is_ledger_line}
use Rattle.law_run.proofs.Scripts.{Goes, goes_then, goes_weaker}
use Rattle.law_run.proofs.Reports.{is_other, no_arm, no_block, no_crash, no_frame, no_handed, no_http, no_link, no_made, no_plan, no_put, no_shown, no_start, no_status, no_stream, counts_lane}

-- Scripts that report no ledger and ask for no key.

abbrev pub hands_none : Action → Bool
hands_none a = asks_no_key a && is_of_pairs a

abbrev Quiet : Script → Type 0
Quiet s = Goes is_other hands_none s

quiet_end : (site : Site) (link : ℕ) (end : End) (goes_on : Bool) (next : Bool → Script) → ((b : Bool) → Quiet (next b)) → Quiet (block_at_end site link end goes_on next)
quiet_end site link end false next h = h false
quiet_end site link end true next h = (refl, λ out. (no_block link end out, h (is_taken out)))

quiet_blocks : (site : Site) (link : ℕ) (low high : Bool) (count : ℕ) → Quiet (blocks site link low high count)
unfolding blocks
quiet_blocks site link low high zero = tt
quiet_blocks site link low high (suc n) =
    quiet_end site link Low low (λ l. block_at_end site link High high (λ h. blocks site link l h n))
    (λ l. quiet_end site link High high (λ h. blocks site link l h n) (λ h. quiet_blocks site link l h n))

quiet_emitted : (v : ℕ) (emissions : List Emission) → Quiet (emitted v emissions)
unfolding emitted
quiet_emitted v [] = (refl, λ out. tt)
quiet_emitted v (Again r ∷ rest) = λ w. (refl, λ out. (no_put r.lane r.offset (r.length - 24) out, quiet_emitted v rest))
quiet_emitted v (New o ∷ rest) = (refl, λ claimed w. (refl, λ out. (no_put o.lane (offset_in claimed) (payload_len o.payload) out, quiet_emitted v rest)))

quiet_planned : (site : Site) (v : ℕ) (out : Outcome) → Quiet (after_plan site v out)
quiet_planned site v (Replies (replies.Planned orders repeats shorts)) = quiet_emitted v (tick_order (outgoing_lanes site v) repeats orders)
quiet_planned site v out = tt

quiet_tick : (site : Site) (quiet : Bool) (v : ℕ) → Quiet (ticked site quiet v)
unfolding ticked
quiet_tick site quiet v = (refl, λ out. (no_plan quiet v out, quiet_planned site v out))

quiet_then : (s last : Script) → Quiet s → Quiet last → Quiet (then_comes s last)
quiet_then s last h k = goes_then is_other hands_none s last h k

quiet_ticks : (site : Site) (vs : List ℕ) → Quiet (ticks site vs)
quiet_ticks site [] = tt
quiet_ticks site (v ∷ vs) = λ w. quiet_then _ (ticks site vs) (by_test Quiet (w.up v) _ _ (λ e. quiet_tick site true v) (λ e. tt)) (quiet_ticks site vs)

quiet_passes : (l : Lane) (number count : ℕ) → Quiet (passes l number count)
quiet_passes l number zero = tt
quiet_passes l number (suc more) = (refl, λ out. (no_frame (items.Passed l number) (λ r. refl) out, quiet_passes l (number + 1) more))

quiet_all_passes : (before now : World) (ls : List Lane) → Quiet (all_passes before now ls)
quiet_all_passes before now [] = tt
quiet_all_passes before now (l ∷ ls) =
    quiet_then _ (all_passes before now ls) (quiet_passes l (length (before.wire l)) (length (now.wire l) - length (before.wire l))) (quiet_all_passes before now ls)

quiet_settle : (site : Site) (rounds : ℕ) → Quiet (settle site rounds)
unfolding settle
quiet_settle site zero = tt
quiet_settle site (suc rounds) = λ before.
    quiet_then (ticks site (count_up site.nodes)) _ (quiet_ticks site (count_up site.nodes)) (λ now.
    quiet_then (all_passes before now (all_lanes site)) _ (quiet_all_passes before now (all_lanes site))
    (by_test Quiet (nat_lt (on_wires site before) (on_wires site now)) _ _ (λ e. quiet_settle site rounds) (λ e. tt)))

quiet_begun : (out : Outcome) → Quiet (begun out)
quiet_begun StartStopped = (refl, tt)
quiet_begun (ForeignAt place) = (refl, tt)
quiet_begun StartMemory = tt
quiet_begun out = tt

pub quiet_begins : (v : ℕ) → Goes is_other hands_none (begins v)
quiet_begins v = (refl, quiet_begun)

-- Lemmas on lines.

abbrev pub any_action : Action → Bool
any_action a = true

abbrev pub any_item : Item → Bool
any_item i = true

weaker : (s : Script) → Quiet s → Goes is_other any_action s
weaker s h = goes_weaker is_other is_other hands_none any_action (λ i e. e) (λ a e. refl) s h

-- The turn reports no ledger.
abbrev Reportless : Turn → Type 0
Reportless (Unasked reported) = list_all is_other reported ≡ true
Reportless (Asked action reported) = (out : Outcome) → list_all is_other (reported out) ≡ true

turn_goes : (turn : Turn) → Reportless turn → Goes is_other any_action (script_of_turn turn)
turn_goes (Unasked reported) h = (h, tt)
turn_goes (Asked action reported) h = (refl, λ out. (h out, tt))

http_reports : (v : ℕ) (response : Event → Reply → ℕ × List ℕ) (r : Request) → Reportless (http_turn v response r)
http_reports v response (AnswersAtOnce status body) = refl
http_reports v response (Calls event) = no_http v (response event)

turn_reports : (http : HttpTexts) (site : Site) (c : Command) → Reportless (turn_of http site c)
unfolding turn_of
turn_reports http site (commands.Bits link at count) = refl
turn_reports http site (commands.Settle rounds) = refl
turn_reports http site (commands.Ledger l) = refl
turn_reports http site (commands.Tick v) = no_plan false v
turn_reports http site (commands.Fill master slave bits count) = no_made
turn_reports http site (commands.Feed stream count) = no_made
turn_reports http site (commands.Pass lane number) = no_frame (items.Passed lane number) (λ r. refl)
turn_reports http site (commands.Flip lane number bit) = no_frame (items.Flipped lane number bit) (λ r. refl)
turn_reports http site (commands.Forge lane octets) = no_frame (items.Forged lane) (λ r. refl)
turn_reports http site (commands.Crash v) = no_crash
turn_reports http site (commands.Start v) = no_start
turn_reports http site (commands.Cut v call image) = no_arm
turn_reports http site (commands.Fail v call) = no_arm
turn_reports http site (commands.LinkUp link) = no_link link true
turn_reports http site (commands.LinkDown link) = no_link link false
turn_reports http site (commands.Enc v master slave count bits) = no_handed
turn_reports http site (commands.Dec v slave master names) = no_handed
turn_reports http site (commands.Status v master slave) = no_status
turn_reports http site (commands.Http v octets) = http_reports v http.response (http.request v octets)
turn_reports http site (commands.Stream v call) = no_stream call
turn_reports http site (commands.Show v name) = no_shown v name
turn_reports http site (commands.FillGroup master bits count slaves) = no_made
turn_reports http site (commands.EncGroup v master count bits slaves) = no_handed

pub line_goes : (http : HttpTexts) (site : Site) (c : Command) → is_ledger_line c ≡ false → Goes is_other any_action (script_of http site c)
line_goes http site (commands.Bits link at count) e = weaker (blocks site link (has_low at) (has_high at) count) (quiet_blocks site link (has_low at) (has_high at) count)
line_goes http site (commands.Tick v) e = weaker (ticked site false v) (quiet_tick site false v)
line_goes http site (commands.Settle rounds) e = weaker (settle site rounds) (quiet_settle site rounds)
line_goes http site (commands.Ledger l) e = cc
line_goes http site c e = turn_goes (turn_of http site c) (turn_reports http site c)

pub ledger_goes : (http : HttpTexts) (site : Site) (l : Lane) → Goes is_ledger hands_none (script_of http site (commands.Ledger l))
ledger_goes http site l = (refl, λ out w. (counts_lane l w out, tt))

any_items : (reported : List Item) → list_all any_item reported ≡ true
any_items [] = refl
any_items (x ∷ xs) = any_items xs

any_told : (p : Item → Bool) (s : Script) → Goes p hands_none s → Goes any_item hands_none s
any_told p s h = goes_weaker p any_item hands_none hands_none (λ i k. refl) (λ a k. k) s h

-- Lines that ask for no key.
pub unhanding_goes : (http : HttpTexts) (site : Site) (c : Command) → is_unhanding c ≡ true → Goes any_item hands_none (script_of http site c)
unfolding turn_of
unhanding_goes http site (commands.Bits link at count) e = any_told is_other (blocks site link (has_low at) (has_high at) count) (quiet_blocks site link (has_low at) (has_high at) count)
unhanding_goes http site (commands.Settle rounds) e = any_told is_other (settle site rounds) (quiet_settle site rounds)
unhanding_goes http site (commands.Fill master slave bits count) e = (refl, λ out. (any_items (made_items out), tt))
unhanding_goes http site (commands.Ledger l) e = any_told is_ledger (script_of http site (commands.Ledger l)) (ledger_goes http site l)
unhanding_goes http site _ e = cc

pub none_of_keys : (a : Action) → hands_none a ≡ true → asks_no_key a ≡ true
none_of_keys a h = and_left (asks_no_key a) (is_of_pairs a) h

pub none_of_pairs : (a : Action) → hands_none a ≡ true → is_of_pairs a ≡ true
none_of_pairs a h = and_right (asks_no_key a) (is_of_pairs a) h

unhanding_pairs : (http : HttpTexts) (site : Site) (c : Command) → is_unhanding c ≡ true → Goes any_item is_of_pairs (script_of http site c)
unhanding_pairs http site c e = goes_weaker any_item any_item hands_none is_of_pairs (λ i k. k) none_of_pairs (script_of http site c) (unhanding_goes http site c e)

pub load_goes : (http : HttpTexts) (site : Site) (c : Command) → is_of_load c ≡ true → Goes any_item is_of_pairs (script_of http site c)
unfolding turn_of
load_goes http site (commands.Bits link at count) e = unhanding_pairs http site (commands.Bits link at count) refl
load_goes http site (commands.Settle rounds) e = unhanding_pairs http site (commands.Settle rounds) refl
load_goes http site (commands.Fill master slave bits count) e = unhanding_pairs http site (commands.Fill master slave bits count) refl
load_goes http site (commands.Ledger l) e = unhanding_pairs http site (commands.Ledger l) refl
load_goes http site (commands.Enc v master slave count bits) e = (refl, λ out. (any_items (handed_items out), tt))
load_goes http site (commands.Dec v slave master names) e = (refl, λ out. (any_items (handed_items out), tt))
load_goes http site _ e = cc

-- Neither test depends on the answers of the outside.

plain_keys : (a : Action) → asks_no_key a ≡ asks_no_key (plain a)
plain_keys (Ask v (events.Enc m s n bits) environment) = refl
plain_keys (Ask v event environment) = refl
plain_keys a = refl

pub plain_pairs : (a : Action) → is_of_pairs a ≡ is_of_pairs (plain a)
plain_pairs (Ask v (events.EncGroup m slaves n bits) environment) = refl
plain_pairs (Ask v event environment) = refl
plain_pairs a = refl

pub plain_none : (a : Action) → hands_none a ≡ hands_none (plain a)
plain_none a = let keys = plain_keys a in let pairs = plain_pairs a in λ i. keys i && pairs i
