-- The rows of keys, and of requests of applications and operators, are read back as the items that they were written from.
use Rattle.std.proofs.Common.{◌≡◌, ℕ, ◌<◌, ◌^◌, List, [], ◌∷◌, ◌++◌, Some, None, refl, sym, ap, ◌∙◌, append-nil, append_assoc, arith}
use Rattle.std.specs.List.{slice_split, flat_map}
use Rattle.std.specs.Fmt.{decimal}
use lib.Chars.{codes}
use Rattle.hex.specs.Hex.{IsBytes, encode_lower}
use Rattle.qkd_base.specs.Name.{Name, IsName}
use Rattle.net_model.specs.declared.held.Held.{Held}
use Rattle.net_model.specs.declared.held.Held.TheVariants as states
use Rattle.scenario_text.specs.Words.{Word, is_space}
use Rattle.scenario_format.proofs.Numerals.{number_is}
use Rattle.scenario_format.proofs.Names.{name_is}
use Rattle.run_types.specs.declared.refusal.Refusal.{Refusal}
use Rattle.run_types.specs.declared.stream_answer.Chunk.{Chunk}
use Rattle.run_types.specs.declared.stream_answer.StreamAnswer.{StreamAnswer}
use Rattle.run_types.specs.declared.stream_answer.StreamAnswer.TheVariants as answers
use Rattle.run_types.specs.declared.item.Item.TheVariants as items
use Rattle.run_types.specs.Words.{words, name_text, node_text, state_text, bytes_text}
use Rattle.run_types.specs.Texts.{refusal_text, answer_text, key_words, shown_words}
use Rattle.report_grammar.specs.Refusals.{refusal_at}
use Rattle.report_grammar.specs.Rows.{item_at, plain_at, made_at, keys_after, keys_at, ready_at, http_at, connected_at, chunk_of, got_at, closed_at, shown_or_not, shown_at, show_at}
use Rattle.report_grammar.specs.Tellable.{HasName, CanRefuse, CanAnswer, AreKeys, CanHold}
use Rattle.report_grammar.proofs.Parts.{joined_again}
use Rattle.report_grammar.proofs.Spaceless.{split_behind, split_all, digits_spaceless, name_spaceless, hex_spaceless, keys_spaceless}
use Rattle.report_grammar.proofs.FieldLaws.{short_is, byte_is, node_is, state_is, state_spaceless, octets_are, bytes_are, bytes_spaceless}
use Rattle.report_grammar.proofs.RefusalLaws.{refuses, Other, others}

pub made_is : (nodes : List (List ℕ)) (count : ℕ) (first : Name) → count < 2 ^ 16 → IsName first → item_at nodes (slice_split is_space (words (codes "made" ∷ decimal count ∷ name_text first ∷ []))) ≡ Some (items.Made count first)
unfolding item_at plain_at made_at
made_is nodes count first h k =
    ap (item_at nodes) (split_all (codes "made") (decimal count ∷ name_text first ∷ []) (rw (digits_spaceless count (omega arith), name_spaceless first) refl))
    ∙ rw (short_is count h, name_is first k) refl

-- ---- keys

keys_are : (before keys : List (Name × List ℕ)) → AreKeys keys → keys_after before (flat_map key_words keys) ≡ Some (before ++ keys)
keys_are before [] h = ap Some (sym (append-nil before))
keys_are before (k ∷ ks) h = rw (name_is k.0 h.0, octets_are k.1 h.1) (keys_are (before ++ k ∷ []) ks h.2 ∙ ap Some (append_assoc before (k ∷ []) ks))

pub keys_is : (nodes : List (List ℕ)) (keys : List (Name × List ℕ)) → AreKeys keys → item_at nodes (slice_split is_space (words (codes "keys" ∷ flat_map key_words keys))) ≡ Some (items.Keys keys)
unfolding item_at keys_at
keys_is nodes keys h =
    ap (item_at nodes) (split_all (codes "keys") (flat_map key_words keys) (keys_spaceless keys)) ∙ rw (keys_are [] keys h) refl

pub ready_is : (nodes : List (List ℕ)) (count : ℕ) → count < 2 ^ 32 → item_at nodes (slice_split is_space (words (codes "status" ∷ decimal count ∷ []))) ≡ Some (items.Ready count)
unfolding item_at plain_at ready_at
ready_is nodes count h = ap (item_at nodes) (split_all (codes "status") (decimal count ∷ []) (rw (digits_spaceless count h) refl)) ∙ rw (number_is count h) refl

-- ---- requests

pub http_is : (nodes : List (List ℕ)) (v status : ℕ) (body : List ℕ) → HasName nodes v → status < 2 ^ 16 →
    item_at nodes (slice_split is_space (words (codes "http" ∷ node_text nodes v ∷ decimal status ∷ body ∷ []))) ≡ Some (items.Http v status body)
unfolding item_at http_at
http_is nodes v status body h k =
    ap (item_at nodes) (split_behind (codes "http" ∷ node_text nodes v ∷ decimal status ∷ []) body (rw (h.spaceless, digits_spaceless status (omega arith)) refl))
    ∙ rw (node_is nodes v h, short_is status k, joined_again body) refl

-- ---- stream calls

opened_is : (nodes : List (List ℕ)) (status : ℕ) → status < 2 ^ 8 → item_at nodes (slice_split is_space (words (codes "OPEN_CONNECT" ∷ decimal status ∷ []))) ≡ Some (items.Stream (answers.OpenConnect status None))
unfolding item_at plain_at connected_at
opened_is nodes status h = ap (item_at nodes) (split_all (codes "OPEN_CONNECT") (decimal status ∷ []) (rw (digits_spaceless status (omega arith)) refl)) ∙ rw (byte_is status h) refl

connected_is : (nodes : List (List ℕ)) (status : ℕ) (n : Name) → status < 2 ^ 8 → IsName n →
    item_at nodes (slice_split is_space (words (codes "OPEN_CONNECT" ∷ decimal status ∷ name_text n ∷ []))) ≡ Some (items.Stream (answers.OpenConnect status (Some n)))
unfolding item_at plain_at connected_at
connected_is nodes status n h k =
    ap (item_at nodes) (split_all (codes "OPEN_CONNECT") (decimal status ∷ name_text n ∷ []) (rw (digits_spaceless status (omega arith), name_spaceless n) refl))
    ∙ rw (byte_is status h, name_is n k) refl

no_chunk_is : (nodes : List (List ℕ)) (status : ℕ) → status < 2 ^ 8 → item_at nodes (slice_split is_space (words (codes "GET_KEY" ∷ decimal status ∷ []))) ≡ Some (items.Stream (answers.GetKey status None))
unfolding item_at got_at
no_chunk_is nodes status h = ap (item_at nodes) (split_all (codes "GET_KEY") (decimal status ∷ []) (rw (digits_spaceless status (omega arith)) refl)) ∙ rw (byte_is status h) refl

chunk_is : (nodes : List (List ℕ)) (status : ℕ) (c : Chunk) → status < 2 ^ 8 → c.index < 2 ^ 32 → IsBytes c.bytes →
    item_at nodes (slice_split is_space (words (codes "GET_KEY" ∷ decimal status ∷ decimal c.index ∷ encode_lower c.bytes ∷ []))) ≡ Some (items.Stream (answers.GetKey status (Some c)))
unfolding item_at got_at chunk_of
chunk_is nodes status c h i b =
    ap (item_at nodes) (split_all (codes "GET_KEY") (decimal status ∷ decimal c.index ∷ encode_lower c.bytes ∷ []) (rw (digits_spaceless status (omega arith), digits_spaceless c.index i, hex_spaceless c.bytes) refl))
    ∙ rw (byte_is status h, number_is c.index i, octets_are c.bytes b) refl

closed_is : (nodes : List (List ℕ)) (status : ℕ) → status < 2 ^ 8 → item_at nodes (slice_split is_space (words (codes "CLOSE" ∷ decimal status ∷ []))) ≡ Some (items.Stream (answers.Close status))
unfolding item_at plain_at closed_at
closed_is nodes status h = ap (item_at nodes) (split_all (codes "CLOSE") (decimal status ∷ []) (rw (digits_spaceless status (omega arith)) refl)) ∙ rw (byte_is status h) refl

pub answer_is : (nodes : List (List ℕ)) (a : StreamAnswer) → CanAnswer a → item_at nodes (slice_split is_space (answer_text a)) ≡ Some (items.Stream a)
unfolding answer_text
answer_is nodes (answers.OpenConnect status None) h = opened_is nodes status h.0
answer_is nodes (answers.OpenConnect status (Some n)) h = connected_is nodes status n h.0 h.1
answer_is nodes (answers.GetKey status None) h = no_chunk_is nodes status h.0
answer_is nodes (answers.GetKey status (Some c)) h = chunk_is nodes status c h.0 h.1.0 h.1.1
answer_is nodes (answers.Close status) h = closed_is nodes status h

-- ---- keys that are shown

shown_by : (nodes : List (List ℕ)) (v : ℕ) (n : Name) (text : List ℕ) (ws : List Word) → HasName nodes v → IsName n → slice_split is_space text ≡ ws →
    item_at nodes (slice_split is_space (words (codes "show" ∷ node_text nodes v ∷ name_text n ∷ text ∷ []))) ≡ shown_at v n ws
unfolding item_at show_at
shown_by nodes v n text ws h k e =
    ap (item_at nodes) (split_behind (codes "show" ∷ node_text nodes v ∷ name_text n ∷ []) text (rw (h.spaceless, name_spaceless n) refl) ∙ ap (λ (rest : List Word). codes "show" ∷ node_text nodes v ∷ name_text n ∷ rest) e)
    ∙ rw (node_is nodes v h, name_is n k) refl

absent_is : (v : ℕ) (n : Name) → shown_at v n (state_text states.Absent ∷ []) ≡ Some (items.Shown v n states.Absent [])
unfolding shown_at
absent_is v n = refl

-- The text of a key's state and octets has two words.
held_words : (s : Held) (bs : List ℕ) → IsBytes bs → slice_split is_space (words (state_text s ∷ bytes_text bs ∷ [])) ≡ state_text s ∷ bytes_text bs ∷ []
held_words s bs h = split_all (state_text s) (bytes_text bs ∷ []) (rw (state_spaceless s, bytes_spaceless bs) refl)

held_is : (v : ℕ) (n : Name) (s : Held) (bs : List ℕ) → (shown_or_not v n (bytes_text bs ∷ []) (state_text s ∷ bytes_text bs ∷ []) (Some s) ≡ Some (items.Shown v n s bs)) → shown_at v n (state_text s ∷ bytes_text bs ∷ []) ≡ Some (items.Shown v n s bs)
unfolding shown_at
held_is v n s bs e = rw (state_is s) e

pub shown_is : (nodes : List (List ℕ)) (v : ℕ) (n : Name) (s : Held) (bs : List ℕ) → HasName nodes v → IsName n → CanHold s bs →
    item_at nodes (slice_split is_space (words (codes "show" ∷ node_text nodes v ∷ name_text n ∷ shown_words s bs))) ≡ Some (items.Shown v n s bs)
shown_is nodes v n states.Absent bs h k b =
    shown_by nodes v n (state_text states.Absent) (state_text states.Absent ∷ []) h k refl ∙ absent_is v n ∙ ap (λ (x : List ℕ). Some (items.Shown v n states.Absent x)) (sym b)
shown_is nodes v n states.Given bs h k b = shown_by nodes v n (words (state_text states.Given ∷ bytes_text bs ∷ [])) _ h k (held_words states.Given bs b) ∙ held_is v n states.Given bs (rw (bytes_are bs b) refl)
shown_is nodes v n states.Ready bs h k b = shown_by nodes v n (words (state_text states.Ready ∷ bytes_text bs ∷ [])) _ h k (held_words states.Ready bs b) ∙ held_is v n states.Ready bs (rw (bytes_are bs b) refl)
shown_is nodes v n states.Made bs h k b = shown_by nodes v n (words (state_text states.Made ∷ bytes_text bs ∷ [])) _ h k (held_words states.Made bs b) ∙ held_is v n states.Made bs (rw (bytes_are bs b) refl)
shown_is nodes v n states.Kept bs h k b = shown_by nodes v n (words (state_text states.Kept ∷ bytes_text bs ∷ [])) _ h k (held_words states.Kept bs b) ∙ held_is v n states.Kept bs (rw (bytes_are bs b) refl)
shown_is nodes v n states.Relayed bs h k b = shown_by nodes v n (words (state_text states.Relayed ∷ bytes_text bs ∷ [])) _ h k (held_words states.Relayed bs b) ∙ held_is v n states.Relayed bs (rw (bytes_are bs b) refl)

not_held : (v : ℕ) (n : Name) (w : Word) (ws : List Word) (r : Refusal) → Other w → refusal_at (w ∷ ws) ≡ Some r → shown_at v n (w ∷ ws) ≡ Some (items.NotShown v n r)
unfolding shown_at
not_held v n w ws r o read = rw (o.state, read) refl

pub not_shown_is : (nodes : List (List ℕ)) (v : ℕ) (n : Name) (r : Refusal) → HasName nodes v → IsName n → CanRefuse r →
    item_at nodes (slice_split is_space (words (codes "show" ∷ node_text nodes v ∷ name_text n ∷ refusal_text r ∷ []))) ≡ Some (items.NotShown v n r)
not_shown_is nodes v n r h k c = let p = refuses r c in shown_by nodes v n (refusal_text r) (p.first ∷ p.rest) h k p.is ∙ not_held v n p.first p.rest r (others p) p.read
