-- Lower bounds for rows: some item of a row shares with a text at least as many leading octets as the row's reach says.
use Rattle.std.proofs.Common.{◌≡◌, ℕ, zero, suc, ◌+◌, ◌≤◌, ◌<◌, ◌^◌, Bool, true, false, cond, eqb, List, [], ◌∷◌, ◌++◌, length, Some, None, refl, sym, ap, ◌∙◌, subst, append_assoc, arith}
use Rattle.std.specs.List.{flat_map}
use Rattle.std.specs.Fmt.{decimal}
use lib.Chars.{codes}
use Rattle.hex.specs.Hex.{IsBytes, encode_lower}
use Rattle.qkd_base.specs.declared.lane.Way.{Way}
use Rattle.qkd_base.specs.declared.lane.Lane.{Lane}
use Rattle.qkd_base.specs.Name.{Name, IsName}
use Rattle.net_model.specs.declared.held.Held.{Held}
use Rattle.net_model.specs.declared.held.Held.TheVariants as states
use Rattle.scenario_text.specs.Words.{Word}
use Rattle.run_types.specs.declared.refusal.Refusal.{Refusal}
use Rattle.run_types.specs.declared.refusal.Refusal.TheVariants as refused
use Rattle.run_types.specs.declared.frame_result.FrameResult.{FrameResult}
use Rattle.run_types.specs.declared.frame_result.FrameResult.TheVariants as came
use Rattle.run_types.specs.declared.start_result.StartResult.TheVariants as starts
use Rattle.run_types.specs.declared.stream_answer.StreamAnswer.TheVariants as answers
use Rattle.run_types.specs.declared.item.Item.{Item}
use Rattle.run_types.specs.declared.item.Item.TheVariants as items
use Rattle.run_types.specs.declared.item.NumberedItem.{NumberedItem}
use Rattle.run_types.specs.Words.{words, way_text, end_text, lane_text, name_text, node_text, state_text, bytes_text}
use Rattle.run_types.specs.Texts.{refusal_text, result_text, start_text, answer_text, key_words, item_text, line_text}
use Rattle.report_grammar.specs.Tellable.{HasName, CanRefuse, CanResult, AreKeys, CanItem, CanTell}
use Rattle.report_grammar.proofs.Spaceless.{lane_apart}
use Rattle.report_parser.specs.declared.part.Part.{Part}
use Rattle.report_parser.specs.declared.part.Part.TheVariants as parts
use Rattle.report_parser.specs.Runs.{common, end_reach}
use Rattle.report_parser.specs.Walk.{part_reach, parts_reach, row_reach, farthest}
use Rattle.report_parser.specs.Rows.{bare_refusals, bare_reach, counted_refusals, counted_reach, refusal_reach, results, result_reach, keys_from, keys_reach, body_reach, ledger_parts, of_links, link_rows, of_lanes, lane_rows, of_keys, key_rows, of_nodes, node_rows, of_states, state_rows, item_reach}
use Rattle.report_parser.specs.Misfit.{line_reach, AreNamed, IsReached}
use Rattle.report_parser.proofs.ItemUppers.{line_upper}
use Rattle.report_parser.proofs.Upper.{spaced, words_spaced}
use Rattle.report_parser.proofs.Lower.{Lower, Lines, IsEnd, IsHeld, Known, Pick, lower_map, end_lower, whole_lower, tail_lower, row_lower, parts_lower, number_lower, far_lower, far_rows, OfParts, Behind}
use Rattle.report_parser.proofs.PartLowers as known
use Rattle.report_parser.proofs.NameLowers.{name_known}

-- ---- refusals

abbrev RefusalText : List ℕ → Type 0
RefusalText text = (r : Refusal) × CanRefuse r × (text ≡ refusal_text r)

refuses : (nodes : List (List ℕ)) (w : Word) (r : Refusal) → CanRefuse r → w ≡ refusal_text r → Lower (Lines RefusalText) (row_reach nodes (32 ∷ w) [] end_reach)
refuses nodes w r h e = whole_lower nodes w [] tt RefusalText (λ vs valids. (r, h, e))

one_long : (nodes : List (List ℕ)) (w : Word) (f : ℕ → Refusal) → ((n : ℕ) → n < 2 ^ 64 → CanRefuse (f n)) → ((n : ℕ) → words (w ∷ decimal n ∷ []) ≡ refusal_text (f n)) → Lower (Lines RefusalText) (row_reach nodes (32 ∷ w) (parts.Long ∷ []) end_reach)
one_long nodes w f can e = whole_lower nodes w (parts.Long ∷ []) (known.long_known nodes, tt) RefusalText (λ vs valids. (f vs.0, can vs.0 valids.0, e vs.0))

one_number : (nodes : List (List ℕ)) (w : Word) (f : ℕ → Refusal) → ((n : ℕ) → n < 2 ^ 32 → CanRefuse (f n)) → ((n : ℕ) → words (w ∷ decimal n ∷ []) ≡ refusal_text (f n)) → Lower (Lines RefusalText) (row_reach nodes (32 ∷ w) (parts.Number ∷ []) end_reach)
one_number nodes w f can e = whole_lower nodes w (parts.Number ∷ []) (known.number_known nodes, tt) RefusalText (λ vs valids. (f vs.0, can vs.0 valids.0, e vs.0))

one_short : (nodes : List (List ℕ)) (w : Word) (f : ℕ → Refusal) → ((n : ℕ) → n < 2 ^ 16 → CanRefuse (f n)) → ((n : ℕ) → words (w ∷ decimal n ∷ []) ≡ refusal_text (f n)) → Lower (Lines RefusalText) (row_reach nodes (32 ∷ w) (parts.Short ∷ []) end_reach)
one_short nodes w f can e = whole_lower nodes w (parts.Short ∷ []) (known.short_known nodes, tt) RefusalText (λ vs valids. (f vs.0, can vs.0 valids.0, e vs.0))

-- one row of several
pick : (Q : List ℕ → Type 0) (reach : List ℕ → ℕ) (text : List ℕ) → Lower Q reach → Pick Q text (reach text)
pick Q reach text h = h text

bare_lower : (nodes : List (List ℕ)) → Lower (Lines RefusalText) (bare_reach nodes)
unfolding bare_reach refusal_text
bare_lower nodes text =
    far_rows (Lines RefusalText) text (bare_refusals nodes text) (omega arith) (
      refuses nodes (codes "down") refused.Down tt refl text,
      (
        refuses nodes (codes "stopped") refused.Stopped tt refl text,
        (
          refuses nodes (codes "memory") refused.Memory tt refl text,
          (
            refuses nodes (codes "link-full 1024") refused.LinkFull tt refl text,
            (
              refuses nodes (codes "no-bits") refused.NoBlock tt refl text,
              (
                refuses nodes (codes "device-fault") refused.DeviceFault tt refl text,
                (
                  refuses nodes (codes "not-allowed") refused.NotAllowed tt refl text,
                  (
                    refuses nodes (codes "no-route") refused.NoRoute tt refl text,
                    (
                      refuses nodes (codes "pool-full 4096") refused.PoolFull tt refl text,
                      (refuses nodes (codes "unknown-stream") refused.UnknownStream tt refl text, (refuses nodes (codes "no-random") refused.NoRandom tt refl text, tt)),
                    ),
                  ),
                ),
              ),
            ),
          ),
        ),
      ),
    )

counted_lower : (nodes : List (List ℕ)) → Lower (Lines RefusalText) (counted_reach nodes)
unfolding counted_reach refusal_text
counted_lower nodes text =
    far_rows (Lines RefusalText) text (counted_refusals nodes text) (omega arith) (
      whole_lower nodes (codes "journal-full") (parts.Long ∷ parts.Long ∷ []) (known.long_known nodes, (known.long_known nodes, tt)) RefusalText (λ vs valids. (refused.JournalFull vs.0 vs.1.0, (valids.0, valids.1.0), refl)) text,
      (
        one_long nodes (codes "no-frame") refused.NoFrame (λ n h. h) (λ n. refl) text,
        (
          one_number nodes (codes "no-bit") refused.NoBit (λ n h. h) (λ n. refl) text,
          (
            one_number nodes (codes "bad-frame") refused.BadFrame (λ n h. h) (λ n. refl) text,
            (
              whole_lower nodes (codes "wrong-lane") (parts.Byte ∷ parts.Byte ∷ []) (known.byte_known nodes, (known.byte_known nodes, tt)) RefusalText (λ vs valids. (refused.WrongLane vs.0 vs.1.0, (valids.0, valids.1.0), refl)) text,
              (
                one_long nodes (codes "no-bits") refused.NoBits (λ n h. h) (λ n. refl) text,
                (
                  whole_lower nodes (codes "bad-tag") (parts.Tag ∷ parts.Tag ∷ []) (known.tag_known nodes, (known.tag_known nodes, tt)) RefusalText (λ vs valids. (refused.BadTag vs.0 vs.1.0, (valids.0, valids.1.0), refl)) text,
                  (
                    one_number nodes (codes "few") refused.Few (λ n h. h) (λ n. refl) text,
                    (
                      one_short nodes (codes "unknown") refused.Unknown (λ n h. h) (λ n. refl) text,
                      (
                        one_short nodes (codes "repeated") refused.Repeated (λ n h. h) (λ n. refl) text,
                        (one_short nodes (codes "handed") refused.Handed (λ n h. h) (λ n. refl) text, tt),
                      ),
                    ),
                  ),
                ),
              ),
            ),
          ),
        ),
      ),
    )

refusal_lower : (nodes : List (List ℕ)) → Lower (Lines RefusalText) (refusal_reach nodes)
unfolding refusal_reach
refusal_lower nodes text = far_lower (Lines RefusalText) text (bare_reach nodes text) (counted_reach nodes text ∷ []) (bare_lower nodes text, (counted_lower nodes text, tt))

-- ---- results of frames

abbrev ResultText : List ℕ → Type 0
ResultText text = (r : FrameResult) × CanResult r × (text ≡ result_text r)

refused_result : (x : List ℕ) → Lines RefusalText x → Lines ResultText x
unfolding result_text
refused_result x (text, (r, h, e), f) = (text, (came.Refused r, h, e), f)

result_lower : (nodes : List (List ℕ)) → Lower (Lines ResultText) (result_reach nodes)
unfolding result_reach result_text
result_lower nodes text =
    far_rows (Lines ResultText) text (results nodes text) (omega arith) (
      whole_lower nodes (codes "taken") (parts.Kind ∷ parts.Name ∷ []) (known.kind_known nodes, (name_known nodes, tt)) ResultText (λ vs valids. (came.Taken vs.0 vs.1.0, valids.1.0, refl)) text,
      (
        whole_lower nodes (codes "again") (parts.Kind ∷ parts.Name ∷ []) (known.kind_known nodes, (name_known nodes, tt)) ResultText (λ vs valids. (came.Again vs.0 vs.1.0, valids.1.0, refl)) text,
        (lower_map (Lines RefusalText) (Lines ResultText) (refusal_reach nodes) refused_result (refusal_lower nodes) text, tt),
      ),
    )

-- ---- items

abbrev ItemText : (nodes : List (List ℕ)) → List ℕ → Type 0
ItemText nodes text = (item : Item) × CanItem nodes item × (text ≡ item_text nodes item)

abbrev Items : (nodes : List (List ℕ)) → List ℕ → Type 0
Items nodes x = Lines (ItemText nodes) x

links_lower : (nodes : List (List ℕ)) → Lower (Items nodes) (link_rows nodes)
unfolding link_rows item_text
links_lower nodes text =
    far_rows (Items nodes) text (of_links nodes text) (omega arith) (
      whole_lower nodes (codes "bits") (parts.Link ∷ parts.End ∷ parts.Number ∷ []) (known.link_known nodes, (known.end_known nodes, (known.number_known nodes, tt))) (ItemText nodes) (λ vs valids. (items.Took vs.0 vs.1.0 vs.1.1.0, (valids.0, valids.1.1.0), refl)) text,
      (
        tail_lower nodes (codes "bits") (parts.Link ∷ parts.End ∷ []) (known.link_known nodes, (known.end_known nodes, tt)) RefusalText (ItemText nodes) (refusal_reach nodes) (refusal_lower nodes)
            (λ vs t valids s. (items.TookNone vs.0 vs.1.0 s.0, (valids.0, s.1), ap (λ (x : List ℕ). words (codes "bits" ∷ decimal vs.0 ∷ end_text vs.1.0 ∷ x ∷ [])) s.2)) text,
        (whole_lower nodes (codes "link") (parts.Link ∷ parts.Up ∷ []) (known.link_known nodes, (known.up_known nodes, tt)) (ItemText nodes) (λ vs valids. (items.LinkSet vs.0 vs.1.0, valids.0, refl)) text, tt),
      ),
    )

lane : ℕ → Way → Lane
lane l w = record { link = l; way = w }

-- A lane is two words of its row.
lane_words : (w v : Word) (l : ℕ) (way : Way) (ws : List Word) → words (w ∷ decimal l ∷ way_text way ∷ v ∷ ws) ≡ words (w ∷ lane_text (lane l way) ∷ v ∷ ws)
unfolding lane
lane_words w v l way ws = sym (lane_apart w v (record { link = l; way = way }) ws)

abbrev on_lane : (nodes : List (List ℕ)) → Known nodes parts.Link × Known nodes parts.Way
on_lane nodes = (known.link_known nodes, known.way_known nodes)

lanes_lower : (nodes : List (List ℕ)) → Lower (Items nodes) (lane_rows nodes)
unfolding lane_rows item_text lane
lanes_lower nodes text =
    far_rows (Items nodes) text (of_lanes nodes text) (omega arith) (
      whole_lower nodes (codes "short") (parts.Link ∷ parts.Way ∷ parts.Long ∷ parts.Long ∷ parts.Long ∷ []) (known.link_known nodes, (known.way_known nodes, (known.long_known nodes, (known.long_known nodes, (known.long_known nodes, tt))))) (ItemText nodes)
          (λ vs valids. (items.Short (lane vs.0 vs.1.0) vs.1.1.0 vs.1.1.1.0 vs.1.1.1.1.0, (valids.0, valids.1.1.0, valids.1.1.1.0, valids.1.1.1.1.0), lane_words (codes "short") (decimal vs.1.1.0) vs.0 vs.1.0 (decimal vs.1.1.1.0 ∷ decimal vs.1.1.1.1.0 ∷ []))) text,
      (
        whole_lower nodes (codes "sent") (parts.Link ∷ parts.Way ∷ parts.Long ∷ parts.Long ∷ parts.Short ∷ []) (known.link_known nodes, (known.way_known nodes, (known.long_known nodes, (known.long_known nodes, (known.short_known nodes, tt))))) (ItemText nodes)
            (λ vs valids. (items.Sent (lane vs.0 vs.1.0) vs.1.1.0 vs.1.1.1.0 vs.1.1.1.1.0, (valids.0, valids.1.1.0, valids.1.1.1.0, valids.1.1.1.1.0), lane_words (codes "sent") (decimal vs.1.1.0) vs.0 vs.1.0 (decimal vs.1.1.1.0 ∷ decimal vs.1.1.1.1.0 ∷ []))) text,
        (
          whole_lower nodes (codes "unsent") (parts.Link ∷ parts.Way ∷ parts.Long ∷ parts.Cause ∷ []) (known.link_known nodes, (known.way_known nodes, (known.long_known nodes, (known.cause_known nodes, tt)))) (ItemText nodes)
              (λ vs valids. (items.Unsent (lane vs.0 vs.1.0) vs.1.1.0 vs.1.1.1.0, (valids.0, valids.1.1.0), lane_words (codes "unsent") (decimal vs.1.1.0) vs.0 vs.1.0 (_ ∷ []))) text,
          (
            tail_lower nodes (codes "pass") (parts.Link ∷ parts.Way ∷ parts.Number ∷ []) (known.link_known nodes, (known.way_known nodes, (known.number_known nodes, tt))) ResultText (ItemText nodes) (result_reach nodes) (result_lower nodes)
                (λ vs t valids s. (items.Passed (lane vs.0 vs.1.0) vs.1.1.0 s.0, (valids.0, valids.1.1.0, s.1), lane_words (codes "pass") (decimal vs.1.1.0) vs.0 vs.1.0 (t ∷ []) ∙ ap (λ (x : List ℕ). words (codes "pass" ∷ lane_text (lane vs.0 vs.1.0) ∷ decimal vs.1.1.0 ∷ x ∷ [])) s.2)) text,
            (
              tail_lower nodes (codes "flip") (parts.Link ∷ parts.Way ∷ parts.Number ∷ parts.Number ∷ []) (known.link_known nodes, (known.way_known nodes, (known.number_known nodes, (known.number_known nodes, tt)))) ResultText (ItemText nodes) (result_reach nodes) (result_lower nodes)
                  (λ vs t valids s. (items.Flipped (lane vs.0 vs.1.0) vs.1.1.0 vs.1.1.1.0 s.0, (valids.0, valids.1.1.0, valids.1.1.1.0, s.1), lane_words (codes "flip") (decimal vs.1.1.0) vs.0 vs.1.0 (decimal vs.1.1.1.0 ∷ t ∷ []) ∙ ap (λ (x : List ℕ). words (codes "flip" ∷ lane_text (lane vs.0 vs.1.0) ∷ decimal vs.1.1.0 ∷ decimal vs.1.1.1.0 ∷ x ∷ [])) s.2)) text,
              (
                tail_lower nodes (codes "forge") (parts.Link ∷ parts.Way ∷ []) (known.link_known nodes, (known.way_known nodes, tt)) ResultText (ItemText nodes) (result_reach nodes) (result_lower nodes)
                    (λ vs t valids s. (items.Forged (lane vs.0 vs.1.0) s.0, (valids.0, s.1), lane_words (codes "forge") t vs.0 vs.1.0 [] ∙ ap (λ (x : List ℕ). words (codes "forge" ∷ lane_text (lane vs.0 vs.1.0) ∷ x ∷ [])) s.2)) text,
                (
                  whole_lower nodes (codes "ledger") ledger_parts
                      (known.link_known nodes, (known.way_known nodes, (known.received_known nodes, (known.long_known nodes, (known.unused_known nodes, (known.long_known nodes, (known.spent_known nodes, (known.long_known nodes, (known.burnt_known nodes, (known.long_known nodes, tt)))))))))) (ItemText nodes)
                      (λ vs valids. (
                        items.Counted (lane vs.0 vs.1.0) (record { received = vs.1.1.1.0; unused = vs.1.1.1.1.1.0; spent = vs.1.1.1.1.1.1.1.0; burnt = vs.1.1.1.1.1.1.1.1.1.0 }),
                        (valids.0, record { received = valids.1.1.1.0; unused = valids.1.1.1.1.1.0; spent = valids.1.1.1.1.1.1.1.0; burnt = valids.1.1.1.1.1.1.1.1.1.0 }),
                        lane_words (codes "ledger") (codes "received") vs.0 vs.1.0 (decimal vs.1.1.1.0 ∷ codes "unused" ∷ decimal vs.1.1.1.1.1.0 ∷ codes "spent" ∷ decimal vs.1.1.1.1.1.1.1.0 ∷ codes "burnt" ∷ decimal vs.1.1.1.1.1.1.1.1.1.0 ∷ []),
                      )) text,
                  (
                    tail_lower nodes (codes "ledger") (parts.Link ∷ parts.Way ∷ []) (known.link_known nodes, (known.way_known nodes, tt)) RefusalText (ItemText nodes) (refusal_reach nodes) (refusal_lower nodes)
                        (λ vs t valids s. (items.NotCounted (lane vs.0 vs.1.0) s.0, (valids.0, s.1), lane_words (codes "ledger") t vs.0 vs.1.0 [] ∙ ap (λ (x : List ℕ). words (codes "ledger" ∷ lane_text (lane vs.0 vs.1.0) ∷ x ∷ [])) s.2)) text,
                    tt,
                  ),
                ),
              ),
            ),
          ),
        ),
      ),
    )

-- ---- keys

abbrev KeysEnd : List ℕ → Type 0
KeysEnd x = (keys : List (Name × List ℕ)) × AreKeys keys × (x ≡ spaced (flat_map key_words keys) (10 ∷ []))

abbrev key_parts : List Part
key_parts = parts.Name ∷ parts.Octets ∷ []

no_keys : (x : List ℕ) → IsEnd x → KeysEnd x
no_keys x e = ([], tt, e)

one_key : (nodes : List (List ℕ)) (x : List ℕ) → OfParts nodes key_parts KeysEnd x → KeysEnd x
one_key nodes x (vs, valids, z, (keys, are, e), f) = ((vs.0, vs.1.0) ∷ keys, (valids.0, valids.1.0, are), f ∙ ap (spaced (name_text vs.0 ∷ encode_lower vs.1.0 ∷ [])) e)

end_or_more : (text : List ℕ) (b : Bool) (other : ℕ) → eqb (end_reach text) 1 ≡ b → Pick KeysEnd text (end_reach text) → Pick KeysEnd text other → Pick KeysEnd text (cond b 1 other)
end_or_more text true other e (x, q, h) more = let one : end_reach text ≡ 1 = grind (arith, e) in (x, q, omega arith)
end_or_more text false other e last more = more

from_lower : (nodes : List (List ℕ)) (n : ℕ) → Lower KeysEnd (keys_from nodes n)
from_lower nodes zero text = lower_map IsEnd KeysEnd end_reach no_keys end_lower text
from_lower nodes (suc n) text =
    end_or_more text (eqb (end_reach text) 1) (parts_reach nodes key_parts (keys_from nodes n) text) refl (lower_map IsEnd KeysEnd end_reach no_keys end_lower text)
    (lower_map (OfParts nodes key_parts KeysEnd) KeysEnd (parts_reach nodes key_parts (keys_from nodes n)) (one_key nodes) (parts_lower nodes key_parts (name_known nodes, (known.octets_known nodes, tt)) KeysEnd (keys_from nodes n) (from_lower nodes n)) text)

keys_end : (nodes : List (List ℕ)) → Lower KeysEnd (keys_reach nodes)
unfolding keys_reach
keys_end nodes text = from_lower nodes (length text) text

keys_line : (nodes : List (List ℕ)) (x : List ℕ) → Behind (codes " keys") (OfParts nodes [] KeysEnd) x → Items nodes x
unfolding item_text
keys_line nodes x (y, (vs, valids, z, (keys, are, e), f), g) =
    (words (codes "keys" ∷ flat_map key_words keys), (items.Keys keys, are, refl), g ∙ ap (λ (t : List ℕ). codes " keys" ++ t) (f ∙ e) ∙ sym (words_spaced (codes "keys") (flat_map key_words keys) (10 ∷ [])))

keys_lower : (nodes : List (List ℕ)) → Lower (Items nodes) (key_rows nodes)
unfolding key_rows item_text answer_text
keys_lower nodes text =
    far_rows (Items nodes) text (of_keys nodes text) (omega arith) (
      whole_lower nodes (codes "made") (parts.Short ∷ parts.Name ∷ []) (known.short_known nodes, (name_known nodes, tt)) (ItemText nodes) (λ vs valids. (items.Made vs.0 vs.1.0, (valids.0, valids.1.0), refl)) text,
      (
        lower_map (Behind (codes " keys") (OfParts nodes [] KeysEnd)) (Items nodes) (row_reach nodes (codes " keys") [] (keys_reach nodes)) (keys_line nodes) (row_lower nodes (codes " keys") [] tt KeysEnd (keys_reach nodes) (keys_end nodes)) text,
        (
          whole_lower nodes (codes "status") (parts.Number ∷ []) (known.number_known nodes, tt) (ItemText nodes) (λ vs valids. (items.Ready vs.0, valids.0, refl)) text,
          (
            whole_lower nodes (codes "OPEN_CONNECT") (parts.Byte ∷ []) (known.byte_known nodes, tt) (ItemText nodes) (λ vs valids. (items.Stream (answers.OpenConnect vs.0 None), (valids.0, tt), refl)) text,
            (
              whole_lower nodes (codes "OPEN_CONNECT") (parts.Byte ∷ parts.Name ∷ []) (known.byte_known nodes, (name_known nodes, tt)) (ItemText nodes) (λ vs valids. (items.Stream (answers.OpenConnect vs.0 (Some vs.1.0)), (valids.0, valids.1.0), refl)) text,
              (
                whole_lower nodes (codes "GET_KEY") (parts.Byte ∷ []) (known.byte_known nodes, tt) (ItemText nodes) (λ vs valids. (items.Stream (answers.GetKey vs.0 None), (valids.0, tt), refl)) text,
                (
                  whole_lower nodes (codes "GET_KEY") (parts.Byte ∷ parts.Number ∷ parts.Octets ∷ []) (known.byte_known nodes, (known.number_known nodes, (known.octets_known nodes, tt))) (ItemText nodes)
                      (λ vs valids. (items.Stream (answers.GetKey vs.0 (Some (record { index = vs.1.0; bytes = vs.1.1.0 }))), (valids.0, (valids.1.0, valids.1.1.0)), refl)) text,
                  (whole_lower nodes (codes "CLOSE") (parts.Byte ∷ []) (known.byte_known nodes, tt) (ItemText nodes) (λ vs valids. (items.Stream (answers.Close vs.0), valids.0, refl)) text, tt),
                ),
              ),
            ),
          ),
        ),
      ),
    )

-- ---- rows with the name of a node

abbrev AnyText : List ℕ → Type 0
AnyText text = Unit {0}

-- A text, with a line feed behind it, begins with the whole text.
body_near : (text : List ℕ) → length text ≤ common (text ++ 10 ∷ []) text
body_near [] = omega arith
body_near (b ∷ bs) = at (eqb b b) (grind arith) (body_near bs)
  where
    at : (c : Bool) → c ≡ true → length bs ≤ common (bs ++ 10 ∷ []) bs → suc (length bs) ≤ cond c (1 + common (bs ++ 10 ∷ []) bs) 0
    at true e h = omega arith
    at false e h = absurd cc

body_step : (b : ℕ) (bs : List ℕ) → cond (eqb b 32) (1 + length bs) 0 ≤ cond (eqb 32 b) (1 + common (bs ++ 10 ∷ []) bs) 0
body_step b bs = at (eqb b 32) (eqb 32 b) (grind arith) (body_near bs)
  where
    at : (c d : Bool) → c ≡ d → length bs ≤ common (bs ++ 10 ∷ []) bs → cond c (1 + length bs) 0 ≤ cond d (1 + common (bs ++ 10 ∷ []) bs) 0
    at true true e h = omega arith
    at true false e h = absurd cc
    at false d e h = omega arith

body_lower : Lower (Lines AnyText) body_reach
body_lower [] = (32 ∷ 10 ∷ [], ([], tt, refl), omega arith)
body_lower (b ∷ bs) = (32 ∷ (bs ++ 10 ∷ []), (bs, tt, refl), body_step b bs)

held_item : (nodes : List (List ℕ)) (v : ℕ) (n : Name) (s : Held) (bs : List ℕ) → HasName nodes v → IsName n → IsHeld s → IsBytes bs → ItemText nodes (words (codes "show" ∷ node_text nodes v ∷ name_text n ∷ state_text s ∷ bytes_text bs ∷ []))
unfolding item_text
held_item nodes v n states.Absent bs h k i b = absurd i
held_item nodes v n states.Given bs h k i b = (items.Shown v n states.Given bs, (h, k, b), refl)
held_item nodes v n states.Ready bs h k i b = (items.Shown v n states.Ready bs, (h, k, b), refl)
held_item nodes v n states.Made bs h k i b = (items.Shown v n states.Made bs, (h, k, b), refl)
held_item nodes v n states.Kept bs h k i b = (items.Shown v n states.Kept bs, (h, k, b), refl)
held_item nodes v n states.Relayed bs h k i b = (items.Shown v n states.Relayed bs, (h, k, b), refl)

named_lower : (nodes : List (List ℕ)) → Known nodes parts.Node → Lower (Items nodes) (λ text. farthest text (of_nodes nodes text))
unfolding item_text
named_lower nodes node text =
    far_rows (Items nodes) text (of_nodes nodes text) (omega arith) (
      whole_lower nodes (codes "tick") (parts.Node ∷ parts.New ∷ parts.Number ∷ parts.Again ∷ parts.Number ∷ []) (node, (known.new_known nodes, (known.number_known nodes, (known.again_known nodes, (known.number_known nodes, tt))))) (ItemText nodes)
          (λ vs valids. (items.Ticked vs.0 vs.1.1.0 vs.1.1.1.1.0, (valids.0, valids.1.1.0, valids.1.1.1.1.0), refl)) text,
      (
        tail_lower nodes (codes "tick") (parts.Node ∷ []) (node, tt) RefusalText (ItemText nodes) (refusal_reach nodes) (refusal_lower nodes)
            (λ vs t valids s. (items.NotTicked vs.0 s.0, (valids.0, s.1), ap (λ (x : List ℕ). words (codes "tick" ∷ node_text nodes vs.0 ∷ x ∷ [])) s.2)) text,
        (
          whole_lower nodes (codes "idle") (parts.Node ∷ []) (node, tt) (ItemText nodes) (λ vs valids. (items.Idle vs.0, valids.0, refl)) text,
          (
            tail_lower nodes (codes "http") (parts.Node ∷ parts.Short ∷ []) (node, (known.short_known nodes, tt)) AnyText (ItemText nodes) body_reach body_lower (λ vs t valids s. (items.Http vs.0 vs.1.0 t, (valids.0, valids.1.0), refl)) text,
            (
              whole_lower nodes (codes "show") (parts.Node ∷ parts.Name ∷ parts.Absent ∷ []) (node, (name_known nodes, (known.absent_known nodes, tt))) (ItemText nodes) (λ vs valids. (items.Shown vs.0 vs.1.0 states.Absent [], (valids.0, valids.1.0, refl), refl)) text,
              (
                whole_lower nodes (codes "show") (parts.Node ∷ parts.Name ∷ parts.State ∷ parts.Bytes ∷ []) (node, (name_known nodes, (known.state_known nodes, (known.bytes_known nodes, tt)))) (ItemText nodes)
                    (λ vs valids. held_item nodes vs.0 vs.1.0 vs.1.1.0 vs.1.1.1.0 valids.0 valids.1.0 valids.1.1.0 valids.1.1.1.0) text,
                (
                  tail_lower nodes (codes "show") (parts.Node ∷ parts.Name ∷ []) (node, (name_known nodes, tt)) RefusalText (ItemText nodes) (refusal_reach nodes) (refusal_lower nodes)
                      (λ vs t valids s. (items.NotShown vs.0 vs.1.0 s.0, (valids.0, valids.1.0, s.1), ap (λ (x : List ℕ). words (codes "show" ∷ node_text nodes vs.0 ∷ name_text vs.1.0 ∷ x ∷ [])) s.2)) text,
                  tt,
                ),
              ),
            ),
          ),
        ),
      ),
    )

-- ---- keys that are shown, or refused

refused_item : (nodes : List (List ℕ)) (x : List ℕ) → Lines RefusalText x → Items nodes x
unfolding item_text
refused_item nodes x (text, (r, h, e), f) = (text, (items.Refused r, h, e), f)

states_lower : (nodes : List (List ℕ)) → Lower (Items nodes) (state_rows nodes)
unfolding state_rows item_text start_text
states_lower nodes text =
    far_rows (Items nodes) text (of_states nodes text) (omega arith) (
      whole_lower nodes (codes "crashed") [] tt (ItemText nodes) (λ vs valids. (items.Crashed, tt, refl)) text,
      (
        whole_lower nodes (codes "started") [] tt (ItemText nodes) (λ vs valids. (items.Start starts.Started, tt, refl)) text,
        (
          whole_lower nodes (codes "up") [] tt (ItemText nodes) (λ vs valids. (items.Start starts.WasUp, tt, refl)) text,
          (
            whole_lower nodes (codes "foreign") (parts.Long ∷ []) (known.long_known nodes, tt) (ItemText nodes) (λ vs valids. (items.Start (starts.Foreign vs.0), valids.0, refl)) text,
            (
              whole_lower nodes (codes "armed") [] tt (ItemText nodes) (λ vs valids. (items.Armed, tt, refl)) text,
              (lower_map (Lines RefusalText) (Items nodes) (refusal_reach nodes) (refused_item nodes) (refusal_lower nodes) text, tt),
            ),
          ),
        ),
      ),
    )

-- ---- all items

-- The rows with the name of a node count only if some node is declared.
where_some : (nodes : List (List ℕ)) → AreNamed nodes → (text : List ℕ) (b : Bool) → eqb (length nodes) 0 ≡ b → Pick (Items nodes) text 0 → Pick (Items nodes) text (cond b 0 (farthest text (of_nodes nodes text)))
where_some nodes named text true e none = none
where_some nodes named text false e none = named_lower nodes (known.node_known nodes named (grind (arith, e))) text

nothing : (nodes : List (List ℕ)) (text : List ℕ) (n : ℕ) → Pick (Items nodes) text n → Pick (Items nodes) text 0
nothing nodes text n (x, q, h) = (x, q, omega arith)

nodes_lower : (nodes : List (List ℕ)) → AreNamed nodes → Lower (Items nodes) (node_rows nodes)
unfolding node_rows
nodes_lower nodes named text = where_some nodes named text (eqb (length nodes) 0) refl (nothing nodes text _ (states_lower nodes text))

item_lower : (nodes : List (List ℕ)) → AreNamed nodes → Lower (Items nodes) (item_reach nodes)
unfolding item_reach
item_lower nodes named text =
    far_lower (Items nodes) text (link_rows nodes text) (lane_rows nodes text ∷ key_rows nodes text ∷ node_rows nodes text ∷ state_rows nodes text ∷ [])
    (links_lower nodes text, (lanes_lower nodes text, (keys_lower nodes text, (nodes_lower nodes named text, (states_lower nodes text, tt)))))

-- ---- lines

pub line_lower : (nodes : List (List ℕ)) (line : List ℕ) → AreNamed nodes → (told : NumberedItem) × CanTell nodes told × (line_reach nodes line ≤ common (line_text nodes told) line)
unfolding line_reach line_text
line_lower nodes line named =
    let m = number_lower nodes (known.number_known nodes) (Items nodes) (item_reach nodes) (item_lower nodes named) line in at m.0 m.1 m.2
  where
    at : (x : List ℕ) → (v : ℕ) × (v < 2 ^ 32) × (y : List ℕ) × Items nodes y × (x ≡ decimal v ++ y) → part_reach nodes parts.Number (item_reach nodes) line ≤ common x line
        → (told : NumberedItem) × CanTell nodes told × (part_reach nodes parts.Number (item_reach nodes) line ≤ common (line_text nodes told) line)
    at x (v, lt, y, (text, (item, can, e), f), g) h =
        let told : NumberedItem = record { number = v; item = item } in
        let same : x ≡ decimal v ++ codes " " ++ item_text nodes item ++ 10 ∷ [] = g ∙ ap (λ (t : List ℕ). decimal v ++ t) (f ∙ ap (λ (t : List ℕ). 32 ∷ (t ++ 10 ∷ [])) e) ∙ simp append_assoc in
        (told, (lt, can), subst (λ (t : List ℕ). part_reach nodes parts.Number (item_reach nodes) line ≤ common t line) same h)

pub line_reached : (nodes : List (List ℕ)) (line : List ℕ) → AreNamed nodes → IsReached nodes line (line_reach nodes line)
line_reached nodes line named =
    let m = line_lower nodes line named in
    let least : line_reach nodes line ≤ common (line_text nodes m.0) line = m.2 in
    let most : common (line_text nodes m.0) line ≤ line_reach nodes line = line_upper nodes line m.0 m.1 in
    (m.0, m.1, omega arith)
