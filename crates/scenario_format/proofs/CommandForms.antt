-- The words of a line that was read as a command are the spelling of that command.
use Rattle.std.proofs.Common.{◌≡◌, ◌∙◌, ℕ, Bool, true, false, List, [], ◌∷◌, Some, refl, ap}
use Rattle.std.specs.Prelude.{if◌then◌else◌, not, nat_le, length, map}
use Rattle.std.specs.Fmt.{decimal}
use Rattle.std.specs.Str.{bytes_eq}
use lib.Chars.{codes}
use Rattle.qkd_base.specs.declared.lane.Lane.{Lane}
use Rattle.declared_site.specs.declared.site.Site.{Site}
use Rattle.run_types.specs.declared.stream_call.StreamCall.{StreamCall}
use Rattle.run_types.specs.declared.stream_call.StreamCall.TheVariants as calls
use Rattle.run_types.specs.declared.command.Command.{Command}
use Rattle.run_types.specs.declared.command.Command.TheVariants as commands
use Rattle.scenario_text.specs.Words.{◌>>=◌, Word, first_of, one_of, two_of, three_of, four_of, five_of, number_of, number_in}
use Rattle.scenario_text.specs.Fields.{node_of, sae_of, link_of, lane_of, name_of, stream_of, size_of, ends_named, image_named, octets_of_hex}
use Rattle.scenario_text.specs.Commanding as forms
use Rattle.scenario_text.specs.Commanding.{few_names_of, group_of}
use Rattle.scenario_text.specs.Calling.{open_at, get_at, close_at, call_at, stream_at}
use Rattle.scenario_text.specs.Line.{further_command_at, command_at}
use Rattle.scenario_format.specs.Spelling.{node_word, sae_word, call_words}
use Rattle.scenario_format.specs.Form.{one_case}
use Rattle.scenario_format.specs.Spelled.{command_words}
use Rattle.scenario_format.proofs.Given.{same_some, bound, guarded}
use Rattle.scenario_format.proofs.Values.{same_bytes, by_word, first_words, one_word, two_words, three_words, four_words, five_words, node_spelled, sae_spelled, number_spelled, number_in_spelled, size_spelled, link_spelled, lane_spelled, ends_spelled, image_spelled, name_spelled, stream_spelled, names_spelled, group_spelled}
use Rattle.scenario_format.proofs.Digits.{hex_spelled}

-- The words of a line are the spelling of a command, apart from the case of hexadecimal digits.
abbrev pub IsSpelled : Site → Word → List Word → Command → Type 0
IsSpelled site word ws c = one_case (word ∷ ws) ≡ command_words site c

-- Equal words and equal commands can be put in the place of each other.
made : (site : Site) (word : Word) (ws us : List Word) (x c : Command) → ws ≡ us → Some x ≡ Some c → IsSpelled site word us x → IsSpelled site word ws c
made site word ws us x c same e h = ap (λ (vs : List Word). one_case (word ∷ vs)) same ∙ h ∙ ap (command_words site) (same_some x c e)

-- Two lists of words are equal if their first five words are equal, and the words behind these.
four_then : (k a b c d p q r s : Word) (xs ys : List Word) → p ≡ a → q ≡ b → r ≡ c → s ≡ d → ys ≡ xs → k ∷ a ∷ b ∷ c ∷ d ∷ xs ≡ k ∷ p ∷ q ∷ r ∷ s ∷ ys
four_then k a b c d p q r s xs ys first second third fourth others = rw (first, second, third, fourth, others) refl

module _ (site : Site) where
  bits_spelled : (ws : List Word) (c : Command) → forms.bits_at site ws ≡ Some c → IsSpelled site (codes "bits") ws c
  unfolding forms.bits_at
  bits_spelled ws c e =
      let w = bound (three_of ws) _ c e in
      let link = bound (link_of site w.0.0) _ c w.2 in
      let ends = bound (ends_named w.0.1) _ c link.2 in
      let count = bound (number_in 1 1024 w.0.2) _ c ends.2 in
      made site (codes "bits") ws (w.0.0 ∷ w.0.1 ∷ w.0.2 ∷ []) (commands.Bits link.0 ends.0 count.0) c (three_words ws w.0 w.1) count.2
      (rw (link_spelled site w.0.0 link.0 link.1, ends_spelled w.0.1 ends.0 ends.1, number_in_spelled 1 1024 w.0.2 count.0 count.1) refl)

  fill_spelled : (ws : List Word) (c : Command) → forms.fill_at site ws ≡ Some c → IsSpelled site (codes "fill") ws c
  unfolding forms.fill_at
  fill_spelled ws c e =
      let w = bound (four_of ws) _ c e in
      let master = bound (sae_of site w.0.0) _ c w.2 in
      let slave = bound (sae_of site w.0.1) _ c master.2 in
      let bits = bound (size_of w.0.2) _ c slave.2 in
      let count = bound (number_in 1 128 w.0.3) _ c bits.2 in
      made site (codes "fill") ws (w.0.0 ∷ w.0.1 ∷ w.0.2 ∷ w.0.3 ∷ []) (commands.Fill master.0 slave.0 bits.0 count.0) c (four_words ws w.0 w.1) count.2
      (rw (sae_spelled site w.0.0 master.0 master.1, sae_spelled site w.0.1 slave.0 slave.1, size_spelled w.0.2 bits.0 bits.1, number_in_spelled 1 128 w.0.3 count.0 count.1) refl)

  tick_spelled : (ws : List Word) (c : Command) → forms.tick_at site ws ≡ Some c → IsSpelled site (codes "tick") ws c
  unfolding forms.tick_at
  tick_spelled ws c e =
      let w = bound (one_of ws) _ c e in
      let node = bound (node_of site w.0) _ c w.2 in
      made site (codes "tick") ws (w.0 ∷ []) (commands.Tick node.0) c (one_word ws w.0 w.1) node.2
      (rw (node_spelled site w.0 node.0 node.1) refl)

  settle_spelled : (ws : List Word) (c : Command) → forms.settle_at ws ≡ Some c → IsSpelled site (codes "settle") ws c
  unfolding forms.settle_at
  settle_spelled ws c e =
      let w = bound (one_of ws) _ c e in
      let rounds = bound (number_in 1 1000 w.0) _ c w.2 in
      made site (codes "settle") ws (w.0 ∷ []) (commands.Settle rounds.0) c (one_word ws w.0 w.1) rounds.2
      (rw (number_in_spelled 1 1000 w.0 rounds.0 rounds.1) refl)

  pass_spelled : (ws : List Word) (c : Command) → forms.pass_at site ws ≡ Some c → IsSpelled site (codes "pass") ws c
  unfolding forms.pass_at
  pass_spelled ws c e =
      let w = bound (three_of ws) _ c e in
      let lane = bound (lane_of site w.0.0 w.0.1) _ c w.2 in
      let l : Lane = lane.0 in
      let there = lane_spelled site w.0.0 w.0.1 l lane.1 in
      let number = bound (number_of w.0.2) _ c lane.2 in
      made site (codes "pass") ws (w.0.0 ∷ w.0.1 ∷ w.0.2 ∷ []) (commands.Pass l number.0) c (three_words ws w.0 w.1) number.2
      (rw (there.0, there.1, number_spelled w.0.2 number.0 number.1) refl)

  flip_spelled : (ws : List Word) (c : Command) → forms.flip_at site ws ≡ Some c → IsSpelled site (codes "flip") ws c
  unfolding forms.flip_at
  flip_spelled ws c e =
      let w = bound (four_of ws) _ c e in
      let lane = bound (lane_of site w.0.0 w.0.1) _ c w.2 in
      let l : Lane = lane.0 in
      let there = lane_spelled site w.0.0 w.0.1 l lane.1 in
      let number = bound (number_of w.0.2) _ c lane.2 in
      let bit = bound (number_of w.0.3) _ c number.2 in
      made site (codes "flip") ws (w.0.0 ∷ w.0.1 ∷ w.0.2 ∷ w.0.3 ∷ []) (commands.Flip l number.0 bit.0) c (four_words ws w.0 w.1) bit.2
      (rw (there.0, there.1, number_spelled w.0.2 number.0 number.1, number_spelled w.0.3 bit.0 bit.1) refl)

  forge_spelled : (ws : List Word) (c : Command) → forms.forge_at site ws ≡ Some c → IsSpelled site (codes "forge") ws c
  unfolding forms.forge_at
  forge_spelled ws c e =
      let w = bound (three_of ws) _ c e in
      let lane = bound (lane_of site w.0.0 w.0.1) _ c w.2 in
      let l : Lane = lane.0 in
      let there = lane_spelled site w.0.0 w.0.1 l lane.1 in
      let octets = bound (octets_of_hex 600 w.0.2) _ c lane.2 in
      made site (codes "forge") ws (w.0.0 ∷ w.0.1 ∷ w.0.2 ∷ []) (commands.Forge l octets.0) c (three_words ws w.0 w.1) octets.2
      (rw (there.0, there.1, hex_spelled 600 w.0.2 octets.0 octets.1) refl)

  crash_spelled : (ws : List Word) (c : Command) → forms.crash_at site ws ≡ Some c → IsSpelled site (codes "crash") ws c
  unfolding forms.crash_at
  crash_spelled ws c e =
      let w = bound (one_of ws) _ c e in
      let node = bound (node_of site w.0) _ c w.2 in
      made site (codes "crash") ws (w.0 ∷ []) (commands.Crash node.0) c (one_word ws w.0 w.1) node.2
      (rw (node_spelled site w.0 node.0 node.1) refl)

  start_spelled : (ws : List Word) (c : Command) → forms.start_at site ws ≡ Some c → IsSpelled site (codes "start") ws c
  unfolding forms.start_at
  start_spelled ws c e =
      let w = bound (one_of ws) _ c e in
      let node = bound (node_of site w.0) _ c w.2 in
      made site (codes "start") ws (w.0 ∷ []) (commands.Start node.0) c (one_word ws w.0 w.1) node.2
      (rw (node_spelled site w.0 node.0 node.1) refl)

  cut_spelled : (ws : List Word) (c : Command) → forms.cut_at site ws ≡ Some c → IsSpelled site (codes "cut") ws c
  unfolding forms.cut_at
  cut_spelled ws c e =
      let w = bound (three_of ws) _ c e in
      let node = bound (node_of site w.0.0) _ c w.2 in
      let call = bound (number_in 1 1000000 w.0.1) _ c node.2 in
      let image = bound (image_named w.0.2) _ c call.2 in
      made site (codes "cut") ws (w.0.0 ∷ w.0.1 ∷ w.0.2 ∷ []) (commands.Cut node.0 call.0 image.0) c (three_words ws w.0 w.1) image.2
      (rw (node_spelled site w.0.0 node.0 node.1, number_in_spelled 1 1000000 w.0.1 call.0 call.1, image_spelled w.0.2 image.0 image.1) refl)

  fail_spelled : (ws : List Word) (c : Command) → forms.fail_at site ws ≡ Some c → IsSpelled site (codes "fail") ws c
  unfolding forms.fail_at
  fail_spelled ws c e =
      let w = bound (two_of ws) _ c e in
      let node = bound (node_of site w.0.0) _ c w.2 in
      let call = bound (number_in 1 1000000 w.0.1) _ c node.2 in
      made site (codes "fail") ws (w.0.0 ∷ w.0.1 ∷ []) (commands.Fail node.0 call.0) c (two_words ws w.0 w.1) call.2
      (rw (node_spelled site w.0.0 node.0 node.1, number_in_spelled 1 1000000 w.0.1 call.0 call.1) refl)

  link_up_spelled : (ws : List Word) (c : Command) → forms.link_up_at site ws ≡ Some c → IsSpelled site (codes "link-up") ws c
  unfolding forms.link_up_at
  link_up_spelled ws c e =
      let w = bound (one_of ws) _ c e in
      let link = bound (link_of site w.0) _ c w.2 in
      made site (codes "link-up") ws (w.0 ∷ []) (commands.LinkUp link.0) c (one_word ws w.0 w.1) link.2
      (rw (link_spelled site w.0 link.0 link.1) refl)

  link_down_spelled : (ws : List Word) (c : Command) → forms.link_down_at site ws ≡ Some c → IsSpelled site (codes "link-down") ws c
  unfolding forms.link_down_at
  link_down_spelled ws c e =
      let w = bound (one_of ws) _ c e in
      let link = bound (link_of site w.0) _ c w.2 in
      made site (codes "link-down") ws (w.0 ∷ []) (commands.LinkDown link.0) c (one_word ws w.0 w.1) link.2
      (rw (link_spelled site w.0 link.0 link.1) refl)

  enc_spelled : (ws : List Word) (c : Command) → forms.enc_at site ws ≡ Some c → IsSpelled site (codes "enc") ws c
  unfolding forms.enc_at
  enc_spelled ws c e =
      let w = bound (five_of ws) _ c e in
      let node = bound (node_of site w.0.0) _ c w.2 in
      let master = bound (sae_of site w.0.1) _ c node.2 in
      let slave = bound (sae_of site w.0.2) _ c master.2 in
      let count = bound (number_in 1 128 w.0.3) _ c slave.2 in
      let bits = bound (size_of w.0.4) _ c count.2 in
      made site (codes "enc") ws (w.0.0 ∷ w.0.1 ∷ w.0.2 ∷ w.0.3 ∷ w.0.4 ∷ []) (commands.Enc node.0 master.0 slave.0 count.0 bits.0) c (five_words ws w.0 w.1) bits.2
      (rw (node_spelled site w.0.0 node.0 node.1, sae_spelled site w.0.1 master.0 master.1, sae_spelled site w.0.2 slave.0 slave.1, number_in_spelled 1 128 w.0.3 count.0 count.1, size_spelled w.0.4 bits.0 bits.1) refl)

  dec_spelled : (ws : List Word) (c : Command) → forms.dec_at site ws ≡ Some c → IsSpelled site (codes "dec") ws c
  unfolding forms.dec_at
  dec_spelled ws c e =
      let first = bound (first_of ws) _ c e in
      let second = bound (first_of first.0.1) _ c first.2 in
      let third = bound (first_of second.0.1) _ c second.2 in
      let node = bound (node_of site first.0.0) _ c third.2 in
      let slave = bound (sae_of site second.0.0) _ c node.2 in
      let master = bound (sae_of site third.0.0) _ c slave.2 in
      let names = bound (few_names_of third.0.1) _ c master.2 in
      made site (codes "dec") ws (first.0.0 ∷ second.0.0 ∷ third.0.0 ∷ third.0.1) (commands.Dec node.0 slave.0 master.0 names.0) c (first_words ws first.0 first.1 ∙ ap (λ (rest : List Word). first.0.0 ∷ rest) (first_words first.0.1 second.0 second.1) ∙ ap (λ (rest : List Word). first.0.0 ∷ second.0.0 ∷ rest) (first_words second.0.1 third.0 third.1)) names.2
      (rw (node_spelled site first.0.0 node.0 node.1, sae_spelled site second.0.0 slave.0 slave.1, sae_spelled site third.0.0 master.0 master.1, names_spelled third.0.1 names.0 names.1) refl)

  status_spelled : (ws : List Word) (c : Command) → forms.status_at site ws ≡ Some c → IsSpelled site (codes "status") ws c
  unfolding forms.status_at
  status_spelled ws c e =
      let w = bound (three_of ws) _ c e in
      let node = bound (node_of site w.0.0) _ c w.2 in
      let master = bound (sae_of site w.0.1) _ c node.2 in
      let slave = bound (sae_of site w.0.2) _ c master.2 in
      made site (codes "status") ws (w.0.0 ∷ w.0.1 ∷ w.0.2 ∷ []) (commands.Status node.0 master.0 slave.0) c (three_words ws w.0 w.1) slave.2
      (rw (node_spelled site w.0.0 node.0 node.1, sae_spelled site w.0.1 master.0 master.1, sae_spelled site w.0.2 slave.0 slave.1) refl)

  http_spelled : (ws : List Word) (c : Command) → forms.http_at site ws ≡ Some c → IsSpelled site (codes "http") ws c
  unfolding forms.http_at
  http_spelled ws c e =
      let w = bound (two_of ws) _ c e in
      let node = bound (node_of site w.0.0) _ c w.2 in
      let octets = bound (octets_of_hex 73728 w.0.1) _ c node.2 in
      made site (codes "http") ws (w.0.0 ∷ w.0.1 ∷ []) (commands.Http node.0 octets.0) c (two_words ws w.0 w.1) octets.2
      (rw (node_spelled site w.0.0 node.0 node.1, hex_spelled 73728 w.0.1 octets.0 octets.1) refl)

  show_spelled : (ws : List Word) (c : Command) → forms.show_at site ws ≡ Some c → IsSpelled site (codes "show") ws c
  unfolding forms.show_at
  show_spelled ws c e =
      let w = bound (two_of ws) _ c e in
      let node = bound (node_of site w.0.0) _ c w.2 in
      let name = bound (name_of w.0.1) _ c node.2 in
      made site (codes "show") ws (w.0.0 ∷ w.0.1 ∷ []) (commands.Show node.0 name.0) c (two_words ws w.0 w.1) name.2
      (rw (node_spelled site w.0.0 node.0 node.1, name_spelled w.0.1 name.0 name.1) refl)

  feed_spelled : (ws : List Word) (c : Command) → forms.feed_at site ws ≡ Some c → IsSpelled site (codes "feed") ws c
  unfolding forms.feed_at
  feed_spelled ws c e =
      let w = bound (two_of ws) _ c e in
      let name = bound (name_of w.0.0) _ c w.2 in
      let count = bound (number_in 1 128 w.0.1) _ c name.2 in
      let kept = guarded (not (nat_le (length site.nodes) name.0.node)) (commands.Feed name.0 count.0) c count.2 in
      made site (codes "feed") ws (w.0.0 ∷ w.0.1 ∷ []) (commands.Feed name.0 count.0) c (two_words ws w.0 w.1) (ap (λ (x : Command). Some x) kept.1)
      (rw (name_spelled w.0.0 name.0 name.1, number_in_spelled 1 128 w.0.1 count.0 count.1) refl)

  ledger_spelled : (ws : List Word) (c : Command) → forms.ledger_at site ws ≡ Some c → IsSpelled site (codes "ledger") ws c
  unfolding forms.ledger_at
  ledger_spelled ws c e =
      let w = bound (two_of ws) _ c e in
      let lane = bound (lane_of site w.0.0 w.0.1) _ c w.2 in
      let l : Lane = lane.0 in
      let there = lane_spelled site w.0.0 w.0.1 l lane.1 in
      made site (codes "ledger") ws (w.0.0 ∷ w.0.1 ∷ []) (commands.Ledger l) c (two_words ws w.0 w.1) lane.2
      (rw (there.0, there.1) refl)

  fill_group_spelled : (ws : List Word) (c : Command) → forms.fill_group_at site ws ≡ Some c → IsSpelled site (codes "fill-group") ws c
  unfolding forms.fill_group_at
  fill_group_spelled ws c e =
      let first = bound (first_of ws) _ c e in
      let second = bound (first_of first.0.1) _ c first.2 in
      let third = bound (first_of second.0.1) _ c second.2 in
      let master = bound (sae_of site first.0.0) _ c third.2 in
      let bits = bound (size_of second.0.0) _ c master.2 in
      let count = bound (number_in 1 128 third.0.0) _ c bits.2 in
      let slaves = bound (group_of site third.0.1) _ c count.2 in
      made site (codes "fill-group") ws (first.0.0 ∷ second.0.0 ∷ third.0.0 ∷ third.0.1) (commands.FillGroup master.0 bits.0 count.0 slaves.0) c (first_words ws first.0 first.1 ∙ ap (λ (rest : List Word). first.0.0 ∷ rest) (first_words first.0.1 second.0 second.1) ∙ ap (λ (rest : List Word). first.0.0 ∷ second.0.0 ∷ rest) (first_words second.0.1 third.0 third.1)) slaves.2
      (rw (sae_spelled site first.0.0 master.0 master.1, size_spelled second.0.0 bits.0 bits.1, number_in_spelled 1 128 third.0.0 count.0 count.1, group_spelled site third.0.1 slaves.0 slaves.1) refl)

  enc_group_spelled : (ws : List Word) (c : Command) → forms.enc_group_at site ws ≡ Some c → IsSpelled site (codes "enc-group") ws c
  unfolding forms.enc_group_at
  enc_group_spelled ws c e =
      let first = bound (first_of ws) _ c e in
      let second = bound (first_of first.0.1) _ c first.2 in
      let third = bound (first_of second.0.1) _ c second.2 in
      let fourth = bound (first_of third.0.1) _ c third.2 in
      let node = bound (node_of site first.0.0) _ c fourth.2 in
      let master = bound (sae_of site second.0.0) _ c node.2 in
      let count = bound (number_in 1 128 third.0.0) _ c master.2 in
      let bits = bound (size_of fourth.0.0) _ c count.2 in
      let slaves = bound (group_of site fourth.0.1) _ c bits.2 in
      made site (codes "enc-group") ws (first.0.0 ∷ second.0.0 ∷ third.0.0 ∷ fourth.0.0 ∷ fourth.0.1) (commands.EncGroup node.0 master.0 count.0 bits.0 slaves.0) c (first_words ws first.0 first.1 ∙ ap (λ (rest : List Word). first.0.0 ∷ rest) (first_words first.0.1 second.0 second.1) ∙ ap (λ (rest : List Word). first.0.0 ∷ second.0.0 ∷ rest) (first_words second.0.1 third.0 third.1) ∙ ap (λ (rest : List Word). first.0.0 ∷ second.0.0 ∷ third.0.0 ∷ rest) (first_words third.0.1 fourth.0 fourth.1)) slaves.2
      (four_then (codes "enc-group") first.0.0 second.0.0 third.0.0 fourth.0.0 (node_word site node.0) (sae_word site master.0) (decimal count.0) (decimal bits.0) fourth.0.1 (map (sae_word site) slaves.0)
      (node_spelled site first.0.0 node.0 node.1) (sae_spelled site second.0.0 master.0 master.1) (number_in_spelled 1 128 third.0.0 count.0 count.1) (size_spelled fourth.0.0 bits.0 bits.1) (group_spelled site fourth.0.1 slaves.0 slaves.1))

  -- ---- calls of streams

  abbrev IsCallSpelled : Word → List Word → StreamCall → Type 0
  IsCallSpelled word ws call = word ∷ ws ≡ call_words site call

  made_call : (word : Word) (ws us : List Word) (x call : StreamCall) → ws ≡ us → Some x ≡ Some call → IsCallSpelled word us x → IsCallSpelled word ws call
  made_call word ws us x call same e h = ap (λ (vs : List Word). word ∷ vs) same ∙ h ∙ ap (call_words site) (same_some x call e)

  open_or_join_spelled : (b : Bool) (a o w n : Word) (caller other bits : ℕ) (call : StreamCall) → sae_of site a ≡ Some caller → sae_of site o ≡ Some other → number_in 0 65535 n ≡ Some bits → bytes_eq w (codes "-") ≡ b →
      (if b then Some (calls.Open caller other bits) else (stream_of w >>= λ stream. Some (calls.Join caller other stream bits))) ≡ Some call → IsCallSpelled (codes "OPEN_CONNECT") (a ∷ o ∷ w ∷ n ∷ []) call
  open_or_join_spelled true a o w n caller other bits call first second third is e =
      made_call (codes "OPEN_CONNECT") (a ∷ o ∷ w ∷ n ∷ []) (a ∷ o ∷ codes "-" ∷ n ∷ []) (calls.Open caller other bits) call (ap (λ (x : Word). a ∷ o ∷ x ∷ n ∷ []) (same_bytes w (codes "-") is)) e
      (rw (sae_spelled site a caller first, sae_spelled site o other second, number_in_spelled 0 65535 n bits third) refl)
  open_or_join_spelled false a o w n caller other bits call first second third is e =
      let stream = bound (stream_of w) _ call e in
      made_call (codes "OPEN_CONNECT") (a ∷ o ∷ w ∷ n ∷ []) (a ∷ o ∷ w ∷ n ∷ []) (calls.Join caller other stream.0 bits) call refl stream.2
      (rw (sae_spelled site a caller first, sae_spelled site o other second, stream_spelled w stream.0 stream.1, number_in_spelled 0 65535 n bits third) refl)

  open_spelled : (ws : List Word) (call : StreamCall) → open_at site ws ≡ Some call → IsCallSpelled (codes "OPEN_CONNECT") ws call
  unfolding open_at
  open_spelled ws call e =
      let w = bound (four_of ws) _ call e in
      let caller = bound (sae_of site w.0.0) _ call w.2 in
      let other = bound (sae_of site w.0.1) _ call caller.2 in
      let bits = bound (number_in 0 65535 w.0.3) _ call other.2 in
      ap (λ (vs : List Word). codes "OPEN_CONNECT" ∷ vs) (four_words ws w.0 w.1)
      ∙ open_or_join_spelled (bytes_eq w.0.2 (codes "-")) w.0.0 w.0.1 w.0.2 w.0.3 caller.0 other.0 bits.0 call caller.1 other.1 bits.1 refl bits.2

  get_spelled : (ws : List Word) (call : StreamCall) → get_at site ws ≡ Some call → IsCallSpelled (codes "GET_KEY") ws call
  unfolding get_at
  get_spelled ws call e =
      let w = bound (three_of ws) _ call e in
      let caller = bound (sae_of site w.0.0) _ call w.2 in
      let stream = bound (stream_of w.0.1) _ call caller.2 in
      let index = bound (number_of w.0.2) _ call stream.2 in
      made_call (codes "GET_KEY") ws (w.0.0 ∷ w.0.1 ∷ w.0.2 ∷ []) (calls.Get caller.0 stream.0 index.0) call (three_words ws w.0 w.1) index.2
      (rw (sae_spelled site w.0.0 caller.0 caller.1, stream_spelled w.0.1 stream.0 stream.1, number_spelled w.0.2 index.0 index.1) refl)

  close_spelled : (ws : List Word) (call : StreamCall) → close_at site ws ≡ Some call → IsCallSpelled (codes "CLOSE") ws call
  unfolding close_at
  close_spelled ws call e =
      let w = bound (two_of ws) _ call e in
      let caller = bound (sae_of site w.0.0) _ call w.2 in
      let stream = bound (stream_of w.0.1) _ call caller.2 in
      made_call (codes "CLOSE") ws (w.0.0 ∷ w.0.1 ∷ []) (calls.Close caller.0 stream.0) call (two_words ws w.0 w.1) stream.2
      (rw (sae_spelled site w.0.0 caller.0 caller.1, stream_spelled w.0.1 stream.0 stream.1) refl)

  -- ---- commands by their first words

  call_spelled : (word : Word) (ws : List Word) (call : StreamCall) → call_at site word ws ≡ Some call → IsCallSpelled word ws call
  unfolding call_at
  call_spelled word ws call e =
      let P : Word → Type 0 = λ w. IsCallSpelled w ws call in
      by_word P word (codes "OPEN_CONNECT") (bytes_eq word (codes "OPEN_CONNECT")) _ _ call refl (open_spelled ws call) (λ no e.
      by_word P word (codes "GET_KEY") (bytes_eq word (codes "GET_KEY")) _ _ call refl (get_spelled ws call) (λ no e.
      by_word P word (codes "CLOSE") (bytes_eq word (codes "CLOSE")) _ _ call refl (close_spelled ws call) (λ no e. absurd cc) e) e) e

  q004_spelled : (ws : List Word) (c : Command) → stream_at site ws ≡ Some c → IsSpelled site (codes "q004") ws c
  unfolding stream_at
  q004_spelled ws c e =
      let first = bound (first_of ws) _ c e in
      let second = bound (first_of first.0.1) _ c first.2 in
      let node = bound (node_of site first.0.0) _ c second.2 in
      let call = bound (call_at site second.0.0 second.0.1) _ c node.2 in
      let same = call_spelled second.0.0 second.0.1 call.0 call.1 in
      made site (codes "q004") ws (first.0.0 ∷ second.0.0 ∷ second.0.1) (commands.Stream node.0 call.0) c (first_words ws first.0 first.1 ∙ ap (λ (rest : List Word). first.0.0 ∷ rest) (first_words first.0.1 second.0 second.1)) call.2
      (rw (node_spelled site first.0.0 node.0 node.1) (ap (λ (vs : List Word). codes "q004" ∷ first.0.0 ∷ vs) same))

  further_spelled : (word : Word) (ws : List Word) (c : Command) → further_command_at site word ws ≡ Some c → IsSpelled site word ws c
  unfolding further_command_at
  further_spelled word ws c e =
      let P : Word → Type 0 = λ w. IsSpelled site w ws c in
      by_word P word (codes "link-up") (bytes_eq word (codes "link-up")) _ _ c refl (link_up_spelled ws c) (λ no e.
      by_word P word (codes "link-down") (bytes_eq word (codes "link-down")) _ _ c refl (link_down_spelled ws c) (λ no e.
      by_word P word (codes "enc") (bytes_eq word (codes "enc")) _ _ c refl (enc_spelled ws c) (λ no e.
      by_word P word (codes "dec") (bytes_eq word (codes "dec")) _ _ c refl (dec_spelled ws c) (λ no e.
      by_word P word (codes "status") (bytes_eq word (codes "status")) _ _ c refl (status_spelled ws c) (λ no e.
      by_word P word (codes "http") (bytes_eq word (codes "http")) _ _ c refl (http_spelled ws c) (λ no e.
      by_word P word (codes "q004") (bytes_eq word (codes "q004")) _ _ c refl (q004_spelled ws c) (λ no e.
      by_word P word (codes "show") (bytes_eq word (codes "show")) _ _ c refl (show_spelled ws c) (λ no e.
      by_word P word (codes "ledger") (bytes_eq word (codes "ledger")) _ _ c refl (ledger_spelled ws c) (λ no e.
      by_word P word (codes "fill-group") (bytes_eq word (codes "fill-group")) _ _ c refl (fill_group_spelled ws c) (λ no e.
      by_word P word (codes "enc-group") (bytes_eq word (codes "enc-group")) _ _ c refl (enc_group_spelled ws c) (λ no e. absurd cc) e) e) e) e) e) e) e) e) e) e) e

  pub command_spelled : (word : Word) (ws : List Word) (c : Command) → command_at site word ws ≡ Some c → IsSpelled site word ws c
  unfolding command_at
  command_spelled word ws c e =
      let P : Word → Type 0 = λ w. IsSpelled site w ws c in
      by_word P word (codes "bits") (bytes_eq word (codes "bits")) _ _ c refl (bits_spelled ws c) (λ no e.
      by_word P word (codes "fill") (bytes_eq word (codes "fill")) _ _ c refl (fill_spelled ws c) (λ no e.
      by_word P word (codes "feed") (bytes_eq word (codes "feed")) _ _ c refl (feed_spelled ws c) (λ no e.
      by_word P word (codes "tick") (bytes_eq word (codes "tick")) _ _ c refl (tick_spelled ws c) (λ no e.
      by_word P word (codes "settle") (bytes_eq word (codes "settle")) _ _ c refl (settle_spelled ws c) (λ no e.
      by_word P word (codes "pass") (bytes_eq word (codes "pass")) _ _ c refl (pass_spelled ws c) (λ no e.
      by_word P word (codes "flip") (bytes_eq word (codes "flip")) _ _ c refl (flip_spelled ws c) (λ no e.
      by_word P word (codes "forge") (bytes_eq word (codes "forge")) _ _ c refl (forge_spelled ws c) (λ no e.
      by_word P word (codes "crash") (bytes_eq word (codes "crash")) _ _ c refl (crash_spelled ws c) (λ no e.
      by_word P word (codes "start") (bytes_eq word (codes "start")) _ _ c refl (start_spelled ws c) (λ no e.
      by_word P word (codes "cut") (bytes_eq word (codes "cut")) _ _ c refl (cut_spelled ws c) (λ no e.
      by_word P word (codes "fail") (bytes_eq word (codes "fail")) _ _ c refl (fail_spelled ws c) (λ no. further_spelled word ws c) e) e) e) e) e) e) e) e) e) e) e) e
