-- The calls on streams, and the choice among all forms of lines.
use Rattle.std.proofs.Common.{◌≡◌, ℕ, true, List, Some, refl, subst}
use Rattle.std.specs.Prelude.{nat_lt, not}
use Rattle.std.specs.Str.{bytes_eq}
use lib.Chars.{codes}
use Rattle.std.proofs.lemmas.Bool.{and_from}
use Rattle.net_model.specs.Step.{is_asked}
use Rattle.net_model.specs.Events.{is_valid_event, is_stream}
use Rattle.declared_site.specs.declared.site.Site.{Site}
use Rattle.declared_site.specs.SiteOf.{IsDeclared, site_of}
use Rattle.run_types.specs.declared.command.Command.{Command}
use Rattle.run_types.specs.declared.command.Command.TheVariants.{Stream}
use Rattle.run_types.specs.declared.stream_call.StreamCall.{StreamCall}
use Rattle.run_types.specs.declared.stream_call.StreamCall.TheVariants as calls
use Rattle.scenario_text.specs.Words.{Word, first_of, two_of, three_of, four_of, number_of, number_in}
use Rattle.scenario_text.specs.Fields.{node_of, sae_of, stream_of}
use Rattle.scenario_text.specs.Calling.{open_or_join, open_at, get_at, close_at, call_at, stream_at}
use Rattle.scenario_text.specs.Line.{further_command_at, command_at}
use Rattle.run_model.specs.Turn.{turn_of, event_of}
use Rattle.run_ops.specs.Fitting.{is_plan}
use Rattle.run_ops.specs.Runnable.{IsCommandFor}
use Rattle.law_run.proofs.FitGiven.{same_some, bound, either}
use Rattle.law_run.proofs.Fields.{number_below, number_small, stream_right}
use Rattle.law_run.proofs.Sites.{made, node_fits, ask_fits}
use Rattle.law_run.proofs.Commands.{bits_fits, fill_fits, feed_fits, tick_fits, settle_fits, pass_fits, flip_fits, forge_fits, crash_fits, start_fits, cut_fits, fail_fits, link_up_fits, link_down_fits, enc_fits, dec_fits, status_fits, http_fits, show_fits, ledger_fits, fill_group_fits, enc_group_fits}

-- The call on a stream may be asked for at every node.
record IsCallFor (d : Site) (call : StreamCall) : Type 0 where
  asked : is_asked (event_of call) ≡ true
  other : not (is_plan (event_of call)) ≡ true
  valid : (v : ℕ) → is_valid_event (site_of d) v (event_of call) ≡ true

made_call : (d : Site) (x call : StreamCall) → Some x ≡ Some call → IsCallFor d x → IsCallFor d call
made_call d x call e h = subst (IsCallFor d) (same_some x call e) h

module _ (d : Site) where
  join_fits : (caller other bits : ℕ) → nat_lt bits 65536 ≡ true → (word : Word) (call : StreamCall) → open_or_join caller other bits word ≡ Some call → IsCallFor d call
  unfolding is_valid_event
  join_fits caller other bits low word call e =
      either (IsCallFor d call) (bytes_eq word (codes "-")) _ _ call
      (λ opened. made_call d (calls.Open caller other bits) call opened (record { asked = refl {a = true}; other = refl {a = true}; valid = λ v. low }))
      (λ joined.
      let stream = bound (stream_of word) _ call joined in
      made_call d (calls.Join caller other stream.0 bits) call stream.2
      (record { asked = refl {a = true}; other = refl {a = true}; valid = λ v. and_from (is_stream stream.0) (nat_lt bits 65536) (stream_right word stream.0 stream.1) low })) e

  open_fits : (ws : List Word) (call : StreamCall) → open_at d ws ≡ Some call → IsCallFor d call
  unfolding open_at
  open_fits ws call e =
      let w = bound (four_of ws) _ call e in
      let caller = bound (sae_of d w.0.0) _ call w.2 in
      let other = bound (sae_of d w.0.1) _ call caller.2 in
      let bits = bound (number_in 0 65535 w.0.3) _ call other.2 in
      join_fits caller.0 other.0 bits.0 (number_below w.0.3 bits.0 bits.1) w.0.2 call bits.2

  get_fits : (ws : List Word) (call : StreamCall) → get_at d ws ≡ Some call → IsCallFor d call
  unfolding get_at is_valid_event
  get_fits ws call e =
      let w = bound (three_of ws) _ call e in
      let caller = bound (sae_of d w.0.0) _ call w.2 in
      let stream = bound (stream_of w.0.1) _ call caller.2 in
      let index = bound (number_of w.0.2) _ call stream.2 in
      let valid = and_from (is_stream stream.0) (nat_lt index.0 4294967296) (stream_right w.0.1 stream.0 stream.1) (number_small w.0.2 index.0 index.1) in
      made_call d (calls.Get caller.0 stream.0 index.0) call index.2 (record { asked = refl {a = true}; other = refl {a = true}; valid = λ v. valid })

  close_fits : (ws : List Word) (call : StreamCall) → close_at d ws ≡ Some call → IsCallFor d call
  unfolding close_at is_valid_event
  close_fits ws call e =
      let w = bound (two_of ws) _ call e in
      let caller = bound (sae_of d w.0.0) _ call w.2 in
      let stream = bound (stream_of w.0.1) _ call caller.2 in
      made_call d (calls.Close caller.0 stream.0) call stream.2 (record { asked = refl {a = true}; other = refl {a = true}; valid = λ v. stream_right w.0.1 stream.0 stream.1 })

  call_fits : (word : Word) (ws : List Word) (call : StreamCall) → call_at d word ws ≡ Some call → IsCallFor d call
  unfolding call_at
  call_fits word ws call e =
      let P = IsCallFor d call in
      either P (bytes_eq word (codes "OPEN_CONNECT")) _ _ call (open_fits ws call) (λ e.
      either P (bytes_eq word (codes "GET_KEY")) _ _ call (get_fits ws call) (λ e.
      either P (bytes_eq word (codes "CLOSE")) _ _ call (close_fits ws call) (λ e. absurd cc) e) e) e

module _ (d : Site) (k : IsDeclared d) where
  stream_fits : (ws : List Word) (c : Command) → stream_at d ws ≡ Some c → IsCommandFor d c
  unfolding stream_at turn_of
  stream_fits ws c e =
      let first = bound (first_of ws) _ c e in
      let second = bound (first_of first.0.1) _ c first.2 in
      let node = bound (node_of d first.0.0) _ c second.2 in
      let call = bound (call_at d second.0.0 second.0.1) _ c node.2 in
      let right = call_fits d second.0.0 second.0.1 call.0 call.1 in
      made d (Stream node.0 call.0) c call.2 (λ http. ask_fits d k node.0 (event_of call.0) (node_fits d k first.0.0 node.0 node.1) right.asked right.other (right.valid node.0))

  further_fits : (word : Word) (ws : List Word) (c : Command) → further_command_at d word ws ≡ Some c → IsCommandFor d c
  unfolding further_command_at
  further_fits word ws c e =
      let P = IsCommandFor d c in
      either P (bytes_eq word (codes "link-up")) _ _ c (link_up_fits d k ws c) (λ e.
      either P (bytes_eq word (codes "link-down")) _ _ c (link_down_fits d k ws c) (λ e.
      either P (bytes_eq word (codes "enc")) _ _ c (enc_fits d k ws c) (λ e.
      either P (bytes_eq word (codes "dec")) _ _ c (dec_fits d k ws c) (λ e.
      either P (bytes_eq word (codes "status")) _ _ c (status_fits d k ws c) (λ e.
      either P (bytes_eq word (codes "http")) _ _ c (http_fits d k ws c) (λ e.
      either P (bytes_eq word (codes "q004")) _ _ c (stream_fits ws c) (λ e.
      either P (bytes_eq word (codes "show")) _ _ c (show_fits d k ws c) (λ e.
      either P (bytes_eq word (codes "ledger")) _ _ c (ledger_fits d k ws c) (λ e.
      either P (bytes_eq word (codes "fill-group")) _ _ c (fill_group_fits d k ws c) (λ e.
      either P (bytes_eq word (codes "enc-group")) _ _ c (enc_group_fits d k ws c) (λ e. absurd cc) e) e) e) e) e) e) e) e) e) e) e

  pub command_fits : (word : Word) (ws : List Word) (c : Command) → command_at d word ws ≡ Some c → IsCommandFor d c
  unfolding command_at
  command_fits word ws c e =
      let P = IsCommandFor d c in
      either P (bytes_eq word (codes "bits")) _ _ c (bits_fits d k ws c) (λ e.
      either P (bytes_eq word (codes "fill")) _ _ c (fill_fits d k ws c) (λ e.
      either P (bytes_eq word (codes "feed")) _ _ c (feed_fits d k ws c) (λ e.
      either P (bytes_eq word (codes "tick")) _ _ c (tick_fits d k ws c) (λ e.
      either P (bytes_eq word (codes "settle")) _ _ c (settle_fits d k ws c) (λ e.
      either P (bytes_eq word (codes "pass")) _ _ c (pass_fits d k ws c) (λ e.
      either P (bytes_eq word (codes "flip")) _ _ c (flip_fits d k ws c) (λ e.
      either P (bytes_eq word (codes "forge")) _ _ c (forge_fits d k ws c) (λ e.
      either P (bytes_eq word (codes "crash")) _ _ c (crash_fits d k ws c) (λ e.
      either P (bytes_eq word (codes "start")) _ _ c (start_fits d k ws c) (λ e.
      either P (bytes_eq word (codes "cut")) _ _ c (cut_fits d k ws c) (λ e.
      either P (bytes_eq word (codes "fail")) _ _ c (fail_fits d k ws c) (further_fits word ws c) e) e) e) e) e) e) e) e) e) e) e) e
