-- Upper bounds for rows: no item of a row shares with a text more leading octets than the row's reach says.
use Rattle.std.proofs.Common.{◌≡◌, ℕ, zero, suc, ◌≤◌, Bool, true, false, cond, eqb, List, [], ◌∷◌, ◌++◌, length, Some, None, refl, sym, subst, append_assoc, rules}
use Rattle.std.specs.List.{flat_map}
use Rattle.std.specs.Fmt.{decimal}
use Rattle.std.proofs.lemmas.List.Sums.{common_prefix_len-le}
use lib.Chars.{codes}
use Rattle.hex.specs.Hex.{encode_lower}
use Rattle.qkd_base.specs.declared.lane.Lane.{Lane}
use Rattle.qkd_base.specs.Name.{Name, IsName}
use Rattle.net_model.specs.declared.held.Held.{Held}
use Rattle.net_model.specs.declared.held.Held.TheVariants as states
use Rattle.scenario_text.specs.Words.{Word}
use Rattle.run_types.specs.declared.refusal.Refusal.{Refusal}
use Rattle.run_types.specs.declared.refusal.Refusal.TheVariants as refused
use Rattle.run_types.specs.declared.frame_result.FrameResult.{FrameResult}
use Rattle.run_types.specs.declared.frame_result.FrameResult.TheVariants as came
use Rattle.run_types.specs.declared.start_result.StartResult.{StartResult}
use Rattle.run_types.specs.declared.start_result.StartResult.TheVariants as starts
use Rattle.run_types.specs.declared.stream_answer.StreamAnswer.{StreamAnswer}
use Rattle.run_types.specs.declared.stream_answer.StreamAnswer.TheVariants as answers
use Rattle.run_types.specs.declared.item.Item.{Item}
use Rattle.run_types.specs.declared.item.Item.TheVariants as items
use Rattle.run_types.specs.Words.{words, way_text, end_text, lane_text, name_text, node_text, tag_text, kind_text, cause_text, up_text, bytes_text}
use Rattle.run_types.specs.Texts.{refusal_text, result_text, start_text, answer_text, shown_words, key_words, item_text, line_text}
use Rattle.report_grammar.specs.Tellable.{HasName, CanRefuse, CanResult, CanStart, CanAnswer, AreKeys, CanHold, CanItem}
use Rattle.report_grammar.proofs.Spaceless.{lane_apart}
use Rattle.report_parser.specs.declared.part.Part.{Part}
use Rattle.report_parser.specs.declared.part.Part.TheVariants as parts
use Rattle.report_parser.specs.Runs.{common, end_reach}
use Rattle.report_parser.specs.Walk.{part_reach, row_reach, farthest}
use Rattle.report_parser.specs.Rows.{bare_refusals, bare_reach, counted_refusals, counted_reach, refusals, refusal_reach, results, result_reach, keys_reach, body_reach, ledger_parts, of_links, link_rows, of_lanes, lane_rows, of_keys, key_rows, of_nodes, node_rows, of_states, state_rows, groups, item_reach}
use Rattle.report_parser.specs.Misfit.{line_reach, IsFitted}
use Rattle.report_parser.proofs.Upper.{Upper, Fits, nth, far, end_upper, space_upper, start_upper, row_upper, text_upper, part_upper, spaced, words_spaced}
use Rattle.report_parser.proofs.PartUppers as fits
use Rattle.report_parser.proofs.NameUppers.{name_fits}
use Rattle.report_parser.proofs.KeyUppers.{keys_upper}

abbrev row_text : Word → List Word → List ℕ
row_text w ts = 32 ∷ (words (w ∷ ts) ++ 10 ∷ [])

-- The bound for a row that is a first word, the words of its parts, and the end of the line.
whole : (nodes : List (List ℕ)) (w : Word) (ps : List Part) (ts : List Word) → Fits nodes ps ts → Upper (32 ∷ (words (w ∷ ts) ++ 10 ∷ [])) (row_reach nodes (32 ∷ w) ps end_reach)
whole nodes w ps ts f = row_upper nodes w ps ts 10 [] end_reach refl f end_upper

-- ---- refusals

bare : (nodes : List (List ℕ)) (x : List ℕ) (i : ℕ) → Upper x (λ text. nth (bare_refusals nodes text) i) → Upper x (refusal_reach nodes)
unfolding refusal_reach bare_reach
bare nodes x i h text = far x text (refusals nodes text) zero (far x text (bare_refusals nodes text) i (h text))

counted : (nodes : List (List ℕ)) (x : List ℕ) (i : ℕ) → Upper x (λ text. nth (counted_refusals nodes text) i) → Upper x (refusal_reach nodes)
unfolding refusal_reach counted_reach
counted nodes x i h text = far x text (refusals nodes text) (suc zero) (far x text (counted_refusals nodes text) i (h text))

pub refusal_upper : (nodes : List (List ℕ)) (r : Refusal) → CanRefuse r → Upper (32 ∷ (refusal_text r ++ 10 ∷ [])) (refusal_reach nodes)
unfolding refusal_text
refusal_upper nodes refused.Down h = bare nodes (row_text (codes "down") []) zero (whole nodes (codes "down") [] [] tt)
refusal_upper nodes refused.Stopped h = bare nodes (row_text (codes "stopped") []) (suc zero) (whole nodes (codes "stopped") [] [] tt)
refusal_upper nodes refused.Memory h = bare nodes (row_text (codes "memory") []) (suc (suc zero)) (whole nodes (codes "memory") [] [] tt)
refusal_upper nodes refused.LinkFull h = bare nodes (row_text (codes "link-full 1024") []) (suc (suc (suc zero))) (whole nodes (codes "link-full 1024") [] [] tt)
refusal_upper nodes refused.NoBlock h = bare nodes (row_text (codes "no-bits") []) (suc (suc (suc (suc zero)))) (whole nodes (codes "no-bits") [] [] tt)
refusal_upper nodes refused.DeviceFault h = bare nodes (row_text (codes "device-fault") []) (suc (suc (suc (suc (suc zero))))) (whole nodes (codes "device-fault") [] [] tt)
refusal_upper nodes refused.NotAllowed h = bare nodes (row_text (codes "not-allowed") []) (suc (suc (suc (suc (suc (suc zero)))))) (whole nodes (codes "not-allowed") [] [] tt)
refusal_upper nodes refused.NoRoute h = bare nodes (row_text (codes "no-route") []) (suc (suc (suc (suc (suc (suc (suc zero))))))) (whole nodes (codes "no-route") [] [] tt)
refusal_upper nodes refused.PoolFull h = bare nodes (row_text (codes "pool-full 4096") []) (suc (suc (suc (suc (suc (suc (suc (suc zero)))))))) (whole nodes (codes "pool-full 4096") [] [] tt)
refusal_upper nodes refused.UnknownStream h = bare nodes (row_text (codes "unknown-stream") []) (suc (suc (suc (suc (suc (suc (suc (suc (suc zero))))))))) (whole nodes (codes "unknown-stream") [] [] tt)
refusal_upper nodes refused.NoRandom h = bare nodes (row_text (codes "no-random") []) (suc (suc (suc (suc (suc (suc (suc (suc (suc (suc zero)))))))))) (whole nodes (codes "no-random") [] [] tt)
refusal_upper nodes (refused.JournalFull length need) h =
    counted nodes (row_text (codes "journal-full") (decimal length ∷ decimal need ∷ [])) zero (whole nodes (codes "journal-full") (parts.Long ∷ parts.Long ∷ []) (decimal length ∷ decimal need ∷ []) (fits.long_fits nodes length h.0, (fits.long_fits nodes need h.1, tt)))
refusal_upper nodes (refused.NoFrame count) h = counted nodes (row_text (codes "no-frame") (decimal count ∷ [])) (suc zero) (whole nodes (codes "no-frame") (parts.Long ∷ []) (decimal count ∷ []) (fits.long_fits nodes count h, tt))
refusal_upper nodes (refused.NoBit bits) h = counted nodes (row_text (codes "no-bit") (decimal bits ∷ [])) (suc (suc zero)) (whole nodes (codes "no-bit") (parts.Number ∷ []) (decimal bits ∷ []) (fits.number_fits nodes bits h, tt))
refusal_upper nodes (refused.BadFrame place) h = counted nodes (row_text (codes "bad-frame") (decimal place ∷ [])) (suc (suc (suc zero))) (whole nodes (codes "bad-frame") (parts.Number ∷ []) (decimal place ∷ []) (fits.number_fits nodes place h, tt))
refusal_upper nodes (refused.WrongLane link way) h =
    counted nodes (row_text (codes "wrong-lane") (decimal link ∷ decimal way ∷ [])) (suc (suc (suc (suc zero)))) (whole nodes (codes "wrong-lane") (parts.Byte ∷ parts.Byte ∷ []) (decimal link ∷ decimal way ∷ []) (fits.byte_fits nodes link h.0, (fits.byte_fits nodes way h.1, tt)))
refusal_upper nodes (refused.NoBits have) h = counted nodes (row_text (codes "no-bits") (decimal have ∷ [])) (suc (suc (suc (suc (suc zero))))) (whole nodes (codes "no-bits") (parts.Long ∷ []) (decimal have ∷ []) (fits.long_fits nodes have h, tt))
refusal_upper nodes (refused.BadTag given computed) h =
    counted nodes (row_text (codes "bad-tag") (tag_text given ∷ tag_text computed ∷ [])) (suc (suc (suc (suc (suc (suc zero)))))) (whole nodes (codes "bad-tag") (parts.Tag ∷ parts.Tag ∷ []) (tag_text given ∷ tag_text computed ∷ []) (fits.tag_fits nodes given, (fits.tag_fits nodes computed, tt)))
refusal_upper nodes (refused.Few count) h = counted nodes (row_text (codes "few") (decimal count ∷ [])) (suc (suc (suc (suc (suc (suc (suc zero))))))) (whole nodes (codes "few") (parts.Number ∷ []) (decimal count ∷ []) (fits.number_fits nodes count h, tt))
refusal_upper nodes (refused.Unknown place) h = counted nodes (row_text (codes "unknown") (decimal place ∷ [])) (suc (suc (suc (suc (suc (suc (suc (suc zero)))))))) (whole nodes (codes "unknown") (parts.Short ∷ []) (decimal place ∷ []) (fits.short_fits nodes place h, tt))
refusal_upper nodes (refused.Repeated place) h = counted nodes (row_text (codes "repeated") (decimal place ∷ [])) (suc (suc (suc (suc (suc (suc (suc (suc (suc zero))))))))) (whole nodes (codes "repeated") (parts.Short ∷ []) (decimal place ∷ []) (fits.short_fits nodes place h, tt))
refusal_upper nodes (refused.Handed place) h = counted nodes (row_text (codes "handed") (decimal place ∷ [])) (suc (suc (suc (suc (suc (suc (suc (suc (suc (suc zero)))))))))) (whole nodes (codes "handed") (parts.Short ∷ []) (decimal place ∷ []) (fits.short_fits nodes place h, tt))

-- ---- results of frames

result : (nodes : List (List ℕ)) (x : List ℕ) (i : ℕ) → Upper x (λ text. nth (results nodes text) i) → Upper x (result_reach nodes)
unfolding result_reach
result nodes x i h text = far x text (results nodes text) i (h text)

pub result_upper : (nodes : List (List ℕ)) (r : FrameResult) → CanResult r → Upper (32 ∷ (result_text r ++ 10 ∷ [])) (result_reach nodes)
unfolding result_text
result_upper nodes (came.Taken kind name) h = result nodes (row_text (codes "taken") (kind_text kind ∷ name_text name ∷ [])) zero (whole nodes (codes "taken") (parts.Kind ∷ parts.Name ∷ []) (kind_text kind ∷ name_text name ∷ []) (fits.kind_fits nodes kind, (name_fits nodes name h, tt)))
result_upper nodes (came.Again kind name) h = result nodes (row_text (codes "again") (kind_text kind ∷ name_text name ∷ [])) (suc zero) (whole nodes (codes "again") (parts.Kind ∷ parts.Name ∷ []) (kind_text kind ∷ name_text name ∷ []) (fits.kind_fits nodes kind, (name_fits nodes name h, tt)))
result_upper nodes (came.Refused r) h = result nodes (32 ∷ (refusal_text r ++ 10 ∷ [])) (suc (suc zero)) (refusal_upper nodes r h)

-- ---- groups of rows

of_link : (nodes : List (List ℕ)) (x : List ℕ) (i : ℕ) → Upper x (λ text. nth (of_links nodes text) i) → Upper x (item_reach nodes)
unfolding item_reach link_rows
of_link nodes x i h text = far x text (groups nodes text) zero (far x text (of_links nodes text) i (h text))

of_lane : (nodes : List (List ℕ)) (x : List ℕ) (i : ℕ) → Upper x (λ text. nth (of_lanes nodes text) i) → Upper x (item_reach nodes)
unfolding item_reach lane_rows
of_lane nodes x i h text = far x text (groups nodes text) (suc zero) (far x text (of_lanes nodes text) i (h text))

of_key : (nodes : List (List ℕ)) (x : List ℕ) (i : ℕ) → Upper x (λ text. nth (of_keys nodes text) i) → Upper x (item_reach nodes)
unfolding item_reach key_rows
of_key nodes x i h text = far x text (groups nodes text) (suc (suc zero)) (far x text (of_keys nodes text) i (h text))

some_nodes : (nodes : List (List ℕ)) (v : ℕ) → HasName nodes v → eqb (length nodes) 0 ≡ false
some_nodes [] v h = let e : None ≡ Some v = h.own in absurd cc
some_nodes (n ∷ ns) v h = search rules

where_some : (b : Bool) (total other : ℕ) → b ≡ false → total ≤ other → total ≤ cond b 0 other
where_some true total other e h = absurd cc
where_some false total other e h = h

of_node : (nodes : List (List ℕ)) (v : ℕ) → HasName nodes v → (x : List ℕ) (i : ℕ) → Upper x (λ text. nth (of_nodes nodes text) i) → Upper x (item_reach nodes)
unfolding item_reach node_rows
of_node nodes v n x i h text =
    far x text (groups nodes text) (suc (suc (suc zero)))
    (where_some (eqb (length nodes) 0) (common x text) (farthest text (of_nodes nodes text)) (some_nodes nodes v n) (far x text (of_nodes nodes text) i (h text)))

of_state : (nodes : List (List ℕ)) (x : List ℕ) (i : ℕ) → Upper x (λ text. nth (of_states nodes text) i) → Upper x (item_reach nodes)
unfolding item_reach state_rows
of_state nodes x i h text = far x text (groups nodes text) (suc (suc (suc (suc zero)))) (far x text (of_states nodes text) i (h text))

-- ---- lanes

-- A lane is two words of its row.
apart : (w v : Word) (l : Lane) (ws : List Word) (reach : List ℕ → ℕ) → Upper (32 ∷ (words (w ∷ decimal l.link ∷ way_text l.way ∷ v ∷ ws) ++ 10 ∷ [])) reach → Upper (32 ∷ (words (w ∷ lane_text l ∷ v ∷ ws) ++ 10 ∷ [])) reach
apart w v l ws reach h = subst (λ (x : List ℕ). Upper (32 ∷ (x ++ 10 ∷ [])) reach) (sym (lane_apart w v l ws)) h

abbrev Text : (nodes : List (List ℕ)) → List ℕ → Type 0
Text nodes text = Upper (32 ∷ (text ++ 10 ∷ [])) (item_reach nodes)

-- ---- all items

body_upper : (body : List ℕ) → Upper (32 ∷ (body ++ 10 ∷ [])) body_reach
body_upper body = space_upper (body ++ 10 ∷ []) length (λ text. (common_prefix_len-le (λ a b. eqb a b) (body ++ 10 ∷ []) text).1)

keys_row : (nodes : List (List ℕ)) (keys : List (Name × List ℕ)) → AreKeys keys → Text nodes (words (codes "keys" ∷ flat_map key_words keys))
keys_row nodes keys h =
    subst (λ (x : List ℕ). Upper x (item_reach nodes)) (sym (words_spaced (codes "keys") (flat_map key_words keys) (10 ∷ [])))
    (of_key nodes ((codes " keys") ++ (spaced (flat_map key_words keys) (10 ∷ []))) (suc zero) (start_upper nodes (codes " keys") (spaced (flat_map key_words keys) (10 ∷ [])) [] (keys_reach nodes) (keys_upper nodes keys h)))

start_row : (nodes : List (List ℕ)) (s : StartResult) → CanStart s → Text nodes (start_text s)
unfolding start_text refusal_text
start_row nodes starts.Started h = of_state nodes (row_text (codes "started") []) (suc zero) (whole nodes (codes "started") [] [] tt)
start_row nodes starts.WasUp h = of_state nodes (row_text (codes "up") []) (suc (suc zero)) (whole nodes (codes "up") [] [] tt)
start_row nodes starts.Stopped h = of_state nodes (32 ∷ (refusal_text refused.Stopped ++ 10 ∷ [])) (suc (suc (suc (suc (suc zero))))) (refusal_upper nodes refused.Stopped tt)
start_row nodes (starts.Foreign place) h = of_state nodes (row_text (codes "foreign") (decimal place ∷ [])) (suc (suc (suc zero))) (whole nodes (codes "foreign") (parts.Long ∷ []) (decimal place ∷ []) (fits.long_fits nodes place h, tt))
start_row nodes starts.Memory h = of_state nodes (32 ∷ (refusal_text refused.Memory ++ 10 ∷ [])) (suc (suc (suc (suc (suc zero))))) (refusal_upper nodes refused.Memory tt)

answer_row : (nodes : List (List ℕ)) (a : StreamAnswer) → CanAnswer a → Text nodes (answer_text a)
unfolding answer_text
answer_row nodes (answers.OpenConnect status None) h = of_key nodes (row_text (codes "OPEN_CONNECT") (decimal status ∷ [])) (suc (suc (suc zero))) (whole nodes (codes "OPEN_CONNECT") (parts.Byte ∷ []) (decimal status ∷ []) (fits.byte_fits nodes status h.0, tt))
answer_row nodes (answers.OpenConnect status (Some n)) h =
    of_key nodes (row_text (codes "OPEN_CONNECT") (decimal status ∷ name_text n ∷ [])) (suc (suc (suc (suc zero)))) (whole nodes (codes "OPEN_CONNECT") (parts.Byte ∷ parts.Name ∷ []) (decimal status ∷ name_text n ∷ []) (fits.byte_fits nodes status h.0, (name_fits nodes n h.1, tt)))
answer_row nodes (answers.GetKey status None) h = of_key nodes (row_text (codes "GET_KEY") (decimal status ∷ [])) (suc (suc (suc (suc (suc zero))))) (whole nodes (codes "GET_KEY") (parts.Byte ∷ []) (decimal status ∷ []) (fits.byte_fits nodes status h.0, tt))
answer_row nodes (answers.GetKey status (Some c)) h =
    of_key nodes (row_text (codes "GET_KEY") (decimal status ∷ decimal c.index ∷ encode_lower c.bytes ∷ [])) (suc (suc (suc (suc (suc (suc zero))))))
    (whole nodes (codes "GET_KEY") (parts.Byte ∷ parts.Number ∷ parts.Octets ∷ []) (decimal status ∷ decimal c.index ∷ encode_lower c.bytes ∷ [])
    (fits.byte_fits nodes status h.0, (fits.number_fits nodes c.index h.1.0, (fits.octets_fits nodes c.bytes h.1.1, tt))))
answer_row nodes (answers.Close status) h = of_key nodes (row_text (codes "CLOSE") (decimal status ∷ [])) (suc (suc (suc (suc (suc (suc (suc zero))))))) (whole nodes (codes "CLOSE") (parts.Byte ∷ []) (decimal status ∷ []) (fits.byte_fits nodes status h, tt))

held_row : (nodes : List (List ℕ)) (v : ℕ) (n : Name) (s : Word) (bytes : List ℕ) → HasName nodes v → IsName n → Fits nodes (parts.State ∷ parts.Bytes ∷ []) (s ∷ bytes_text bytes ∷ []) → Text nodes (words (codes "show" ∷ node_text nodes v ∷ name_text n ∷ s ∷ bytes_text bytes ∷ []))
held_row nodes v n s bytes h k f =
    of_node nodes v h (row_text (codes "show") (node_text nodes v ∷ name_text n ∷ s ∷ bytes_text bytes ∷ [])) (suc (suc (suc (suc (suc zero))))) (whole nodes (codes "show") (parts.Node ∷ parts.Name ∷ parts.State ∷ parts.Bytes ∷ []) (node_text nodes v ∷ name_text n ∷ s ∷ bytes_text bytes ∷ []) (fits.node_fits nodes v h, (name_fits nodes n k, f)))

shown_row : (nodes : List (List ℕ)) (v : ℕ) (n : Name) (s : Held) (bytes : List ℕ) → HasName nodes v → IsName n → CanHold s bytes → Text nodes (words (codes "show" ∷ node_text nodes v ∷ name_text n ∷ shown_words s bytes))
shown_row nodes v n states.Absent bytes h k b =
    of_node nodes v h (row_text (codes "show") (node_text nodes v ∷ name_text n ∷ codes "absent" ∷ [])) (suc (suc (suc (suc zero)))) (whole nodes (codes "show") (parts.Node ∷ parts.Name ∷ parts.Absent ∷ []) (node_text nodes v ∷ name_text n ∷ codes "absent" ∷ []) (fits.node_fits nodes v h, (name_fits nodes n k, (fits.absent_fits nodes, tt))))
shown_row nodes v n states.Given bytes h k b = held_row nodes v n (codes "given") bytes h k (fits.given_fits nodes, (fits.bytes_fits nodes bytes b, tt))
shown_row nodes v n states.Ready bytes h k b = held_row nodes v n (codes "ready") bytes h k (fits.ready_fits nodes, (fits.bytes_fits nodes bytes b, tt))
shown_row nodes v n states.Made bytes h k b = held_row nodes v n (codes "made") bytes h k (fits.made_fits nodes, (fits.bytes_fits nodes bytes b, tt))
shown_row nodes v n states.Kept bytes h k b = held_row nodes v n (codes "kept") bytes h k (fits.kept_fits nodes, (fits.bytes_fits nodes bytes b, tt))
shown_row nodes v n states.Relayed bytes h k b = held_row nodes v n (codes "relayed") bytes h k (fits.relayed_fits nodes, (fits.bytes_fits nodes bytes b, tt))

pub item_upper : (nodes : List (List ℕ)) (item : Item) → CanItem nodes item → Text nodes (item_text nodes item)
unfolding item_text
item_upper nodes (items.Refused r) h = of_state nodes (32 ∷ (refusal_text r ++ 10 ∷ [])) (suc (suc (suc (suc (suc zero))))) (refusal_upper nodes r h)
item_upper nodes (items.Took l e n) h =
    of_link nodes (row_text (codes "bits") (decimal l ∷ end_text e ∷ decimal n ∷ [])) zero (whole nodes (codes "bits") (parts.Link ∷ parts.End ∷ parts.Number ∷ []) (decimal l ∷ end_text e ∷ decimal n ∷ []) (fits.link_fits nodes l h.0, (fits.end_fits nodes e, (fits.number_fits nodes n h.1, tt))))
item_upper nodes (items.TookNone l e r) h =
    of_link nodes (row_text (codes "bits") ((decimal l ∷ end_text e ∷ []) ++ (refusal_text r) ∷ [])) (suc zero) (text_upper nodes (codes "bits") (parts.Link ∷ parts.End ∷ []) (decimal l ∷ end_text e ∷ []) (refusal_text r) (refusal_reach nodes) (fits.link_fits nodes l h.0, (fits.end_fits nodes e, tt)) (refusal_upper nodes r h.1))
item_upper nodes (items.Made count first) h = of_key nodes (row_text (codes "made") (decimal count ∷ name_text first ∷ [])) zero (whole nodes (codes "made") (parts.Short ∷ parts.Name ∷ []) (decimal count ∷ name_text first ∷ []) (fits.short_fits nodes count h.0, (name_fits nodes first h.1, tt)))
item_upper nodes (items.Ticked v fresh again) h =
    of_node nodes v h.0 (row_text (codes "tick") (node_text nodes v ∷ codes "new" ∷ decimal fresh ∷ codes "again" ∷ decimal again ∷ [])) zero
    (whole nodes (codes "tick") (parts.Node ∷ parts.New ∷ parts.Number ∷ parts.Again ∷ parts.Number ∷ []) (node_text nodes v ∷ codes "new" ∷ decimal fresh ∷ codes "again" ∷ decimal again ∷ [])
    (fits.node_fits nodes v h.0, (fits.new_fits nodes, (fits.number_fits nodes fresh h.1, (fits.again_fits nodes, (fits.number_fits nodes again h.2, tt))))))
item_upper nodes (items.Idle v) h = of_node nodes v h (row_text (codes "idle") (node_text nodes v ∷ [])) (suc (suc zero)) (whole nodes (codes "idle") (parts.Node ∷ []) (node_text nodes v ∷ []) (fits.node_fits nodes v h, tt))
item_upper nodes (items.NotTicked v r) h = of_node nodes v h.0 (row_text (codes "tick") ((node_text nodes v ∷ []) ++ (refusal_text r) ∷ [])) (suc zero) (text_upper nodes (codes "tick") (parts.Node ∷ []) (node_text nodes v ∷ []) (refusal_text r) (refusal_reach nodes) (fits.node_fits nodes v h.0, tt) (refusal_upper nodes r h.1))
item_upper nodes (items.Short l used need received) h =
    apart (codes "short") (decimal used) l (decimal need ∷ decimal received ∷ []) (item_reach nodes)
    (of_lane nodes (row_text (codes "short") (decimal l.link ∷ way_text l.way ∷ decimal used ∷ decimal need ∷ decimal received ∷ [])) zero
    (whole nodes (codes "short") (parts.Link ∷ parts.Way ∷ parts.Long ∷ parts.Long ∷ parts.Long ∷ []) (decimal l.link ∷ way_text l.way ∷ decimal used ∷ decimal need ∷ decimal received ∷ [])
    (fits.link_fits nodes l.link h.0, (fits.way_fits nodes l.way, (fits.long_fits nodes used h.1, (fits.long_fits nodes need h.2, (fits.long_fits nodes received h.3, tt)))))))
item_upper nodes (items.Sent l number offset length) h =
    apart (codes "sent") (decimal number) l (decimal offset ∷ decimal length ∷ []) (item_reach nodes)
    (of_lane nodes (row_text (codes "sent") (decimal l.link ∷ way_text l.way ∷ decimal number ∷ decimal offset ∷ decimal length ∷ [])) (suc zero)
    (whole nodes (codes "sent") (parts.Link ∷ parts.Way ∷ parts.Long ∷ parts.Long ∷ parts.Short ∷ []) (decimal l.link ∷ way_text l.way ∷ decimal number ∷ decimal offset ∷ decimal length ∷ [])
    (fits.link_fits nodes l.link h.0, (fits.way_fits nodes l.way, (fits.long_fits nodes number h.1, (fits.long_fits nodes offset h.2, (fits.short_fits nodes length h.3, tt)))))))
item_upper nodes (items.Unsent l offset cause) h =
    apart (codes "unsent") (decimal offset) l (cause_text cause ∷ []) (item_reach nodes)
    (of_lane nodes (row_text (codes "unsent") (decimal l.link ∷ way_text l.way ∷ decimal offset ∷ cause_text cause ∷ [])) (suc (suc zero))
    (whole nodes (codes "unsent") (parts.Link ∷ parts.Way ∷ parts.Long ∷ parts.Cause ∷ []) (decimal l.link ∷ way_text l.way ∷ decimal offset ∷ cause_text cause ∷ [])
    (fits.link_fits nodes l.link h.0, (fits.way_fits nodes l.way, (fits.long_fits nodes offset h.1, (fits.cause_fits nodes cause, tt))))))
item_upper nodes (items.Passed l number r) h =
    apart (codes "pass") (decimal number) l (result_text r ∷ []) (item_reach nodes)
    (of_lane nodes (row_text (codes "pass") ((decimal l.link ∷ way_text l.way ∷ decimal number ∷ []) ++ (result_text r) ∷ [])) (suc (suc (suc zero)))
    (text_upper nodes (codes "pass") (parts.Link ∷ parts.Way ∷ parts.Number ∷ []) (decimal l.link ∷ way_text l.way ∷ decimal number ∷ []) (result_text r) (result_reach nodes)
    (fits.link_fits nodes l.link h.0, (fits.way_fits nodes l.way, (fits.number_fits nodes number h.1, tt))) (result_upper nodes r h.2)))
item_upper nodes (items.Flipped l number bit r) h =
    apart (codes "flip") (decimal number) l (decimal bit ∷ result_text r ∷ []) (item_reach nodes)
    (of_lane nodes (row_text (codes "flip") ((decimal l.link ∷ way_text l.way ∷ decimal number ∷ decimal bit ∷ []) ++ (result_text r) ∷ [])) (suc (suc (suc (suc zero))))
    (text_upper nodes (codes "flip") (parts.Link ∷ parts.Way ∷ parts.Number ∷ parts.Number ∷ []) (decimal l.link ∷ way_text l.way ∷ decimal number ∷ decimal bit ∷ []) (result_text r) (result_reach nodes)
    (fits.link_fits nodes l.link h.0, (fits.way_fits nodes l.way, (fits.number_fits nodes number h.1, (fits.number_fits nodes bit h.2, tt)))) (result_upper nodes r h.3)))
item_upper nodes (items.Forged l r) h =
    apart (codes "forge") (result_text r) l [] (item_reach nodes)
    (of_lane nodes (row_text (codes "forge") ((decimal l.link ∷ way_text l.way ∷ []) ++ (result_text r) ∷ [])) (suc (suc (suc (suc (suc zero)))))
    (text_upper nodes (codes "forge") (parts.Link ∷ parts.Way ∷ []) (decimal l.link ∷ way_text l.way ∷ []) (result_text r) (result_reach nodes) (fits.link_fits nodes l.link h.0, (fits.way_fits nodes l.way, tt)) (result_upper nodes r h.1)))
item_upper nodes items.Crashed h = of_state nodes (row_text (codes "crashed") []) zero (whole nodes (codes "crashed") [] [] tt)
item_upper nodes (items.Start s) h = start_row nodes s h
item_upper nodes items.Armed h = of_state nodes (row_text (codes "armed") []) (suc (suc (suc (suc zero)))) (whole nodes (codes "armed") [] [] tt)
item_upper nodes (items.LinkSet l up) h = of_link nodes (row_text (codes "link") (decimal l ∷ up_text up ∷ [])) (suc (suc zero)) (whole nodes (codes "link") (parts.Link ∷ parts.Up ∷ []) (decimal l ∷ up_text up ∷ []) (fits.link_fits nodes l h, (fits.up_fits nodes up, tt)))
item_upper nodes (items.Keys keys) h = keys_row nodes keys h
item_upper nodes (items.Ready count) h = of_key nodes (row_text (codes "status") (decimal count ∷ [])) (suc (suc zero)) (whole nodes (codes "status") (parts.Number ∷ []) (decimal count ∷ []) (fits.number_fits nodes count h, tt))
item_upper nodes (items.Http v status body) h =
    of_node nodes v h.0 (row_text (codes "http") ((node_text nodes v ∷ decimal status ∷ []) ++ body ∷ [])) (suc (suc (suc zero))) (text_upper nodes (codes "http") (parts.Node ∷ parts.Short ∷ []) (node_text nodes v ∷ decimal status ∷ []) body body_reach (fits.node_fits nodes v h.0, (fits.short_fits nodes status h.1, tt)) (body_upper body))
item_upper nodes (items.Stream answer) h = answer_row nodes answer h
item_upper nodes (items.Shown v name held bytes) h = shown_row nodes v name held bytes h.0 h.1 h.2
item_upper nodes (items.NotShown v name r) h =
    of_node nodes v h.0 (row_text (codes "show") ((node_text nodes v ∷ name_text name ∷ []) ++ (refusal_text r) ∷ [])) (suc (suc (suc (suc (suc (suc zero))))))
    (text_upper nodes (codes "show") (parts.Node ∷ parts.Name ∷ []) (node_text nodes v ∷ name_text name ∷ []) (refusal_text r) (refusal_reach nodes) (fits.node_fits nodes v h.0, (name_fits nodes name h.1, tt)) (refusal_upper nodes r h.2))
item_upper nodes (items.Counted l c) h =
    apart (codes "ledger") (codes "received") l (decimal c.received ∷ codes "unused" ∷ decimal c.unused ∷ codes "spent" ∷ decimal c.spent ∷ codes "burnt" ∷ decimal c.burnt ∷ []) (item_reach nodes)
    (of_lane nodes (row_text (codes "ledger") (decimal l.link ∷ way_text l.way ∷ codes "received" ∷ decimal c.received ∷ codes "unused" ∷ decimal c.unused ∷ codes "spent" ∷ decimal c.spent ∷ codes "burnt" ∷ decimal c.burnt ∷ [])) (suc (suc (suc (suc (suc (suc zero))))))
    (whole nodes (codes "ledger") ledger_parts
    (decimal l.link ∷ way_text l.way ∷ codes "received" ∷ decimal c.received ∷ codes "unused" ∷ decimal c.unused ∷ codes "spent" ∷ decimal c.spent ∷ codes "burnt" ∷ decimal c.burnt ∷ []) (
      fits.link_fits nodes l.link h.0,
      (
        fits.way_fits nodes l.way,
        (
          fits.received_fits nodes,
          (
            fits.long_fits nodes c.received h.1.received,
            (
              fits.unused_fits nodes,
              (
                fits.long_fits nodes c.unused h.1.unused,
                (fits.spent_fits nodes, (fits.long_fits nodes c.spent h.1.spent, (fits.burnt_fits nodes, (fits.long_fits nodes c.burnt h.1.burnt, tt)))),
              ),
            ),
          ),
        ),
      ),
    )))
item_upper nodes (items.NotCounted l r) h =
    apart (codes "ledger") (refusal_text r) l [] (item_reach nodes)
    (of_lane nodes (row_text (codes "ledger") ((decimal l.link ∷ way_text l.way ∷ []) ++ (refusal_text r) ∷ [])) (suc (suc (suc (suc (suc (suc (suc zero)))))))
    (text_upper nodes (codes "ledger") (parts.Link ∷ parts.Way ∷ []) (decimal l.link ∷ way_text l.way ∷ []) (refusal_text r) (refusal_reach nodes) (fits.link_fits nodes l.link h.0, (fits.way_fits nodes l.way, tt)) (refusal_upper nodes r h.1)))

-- ---- lines

pub line_upper : (nodes : List (List ℕ)) (line : List ℕ) → IsFitted nodes line (line_reach nodes line)
unfolding line_reach line_text
line_upper nodes line told h =
    let same : line_text nodes told ≡ decimal told.number ++ 32 ∷ (item_text nodes told.item ++ 10 ∷ []) = simp append_assoc in
    let u = part_upper nodes parts.Number (decimal told.number) 32 (item_text nodes told.item ++ 10 ∷ []) (item_reach nodes) (fits.number_fits nodes told.number h.0) refl (item_upper nodes told.item h.1) line in
    subst (λ (x : List ℕ). common x line ≤ part_reach nodes parts.Number (item_reach nodes) line) (sym same) u
