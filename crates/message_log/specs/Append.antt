-- Append: its stores, its refusals and its result. Document 02, A.10.
use Rattle.std.specs.Prelude.{cond, List, [], ◌++◌, ℕ, zero, suc, ◌+◌, ◌*◌, ◌%◌, eqb, ltb, length}
use Rattle.prelude.specs.Refusal.{refuse_if, or_else}
use Rattle.words.specs.Word.{word}
use Rattle.layout.specs.Line.{version_fault}
use Rattle.stores.specs.Store.{Store}
use Rattle.stores.specs.Written.{marked, run, line_stores}
use Rattle.message_log.specs.Area.{cells_in, area_fault, marked_line, payload_line}
use Rattle.message_log.specs.Bit.{differing_place, store_count, bit_pair, packed}
use Rattle.message_log.specs.Message.{highest}
use Rattle.message_log.specs.LogOutcome.{short_fault, LogResult, handing, LogListResult, handing_list}

-- "Messages are padded with zeros": the words of payload line i
abbrev pub message_line : (message : List ℕ) → (i : ℕ) → ℕ → ℕ
message_line message i j = word message (8 * i + j)

-- how many words of payload line i of cell c are stored
abbrev pub line_count : (m : ℕ → ℕ) → (c : ℕ) → (message : List ℕ) → (i : ℕ) → ℕ
line_count m c message i = store_count (differing_place 8 (payload_line m c i) (message_line message i))

-- its stores: "words 0 up to that one are stored, in order"
unfoldable pub payload_stores : (m : ℕ → ℕ) → (c : ℕ) → (message : List ℕ) → (i : ℕ) → List Store
payload_stores m c message i = run (8 * (7 * c + 1 + i)) (message_line message i) 0 (line_count m c message i)

-- those of the n payload lines from line k on
unfoldable pub payloads_from : (m : ℕ → ℕ) → (c : ℕ) → (message : List ℕ) → (k n : ℕ) → List Store
payloads_from m c message k zero = []
payloads_from m c message k (suc n) = payload_stores m c message k ++ payloads_from m c message (suc k) n

-- "word 2 holds six ten-bit pairs"
unfoldable pub pairs_word : (m : ℕ → ℕ) → (c : ℕ) → (message : List ℕ) → ℕ
pairs_word m c message = packed (λ i. bit_pair (payload_line m c i) (message_line message i)) 0 6

-- "In the marked line word 1 is the length, words 3 to 6 are zero": its words 1 to 6
unfoldable pub marked_body : (size pairs i : ℕ) → ℕ
marked_body size pairs i = cond (eqb i 1) size (cond (eqb i 2) pairs 0)

-- the words of the marked line of message s, over the line that stands there
abbrev pub marked_words : (m : ℕ → ℕ) → (c s : ℕ) → (message : List ℕ) → ℕ → ℕ
marked_words m c s message = marked (marked_line m c 7) s (marked_body (length message) (pairs_word m c message))

-- the stores of message s for cell c: "the marked line's first"
unfoldable pub message_stores : (m : ℕ → ℕ) → (c s : ℕ) → (message : List ℕ) → List Store
message_stores m c s message = line_stores (7 * c) (marked_words m c s message) ++ payloads_from m c message 0 6

-- "numbered one above the highest complete number, from 1"
unfoldable pub next_message : (cells : ℕ) → (m : ℕ → ℕ) → ℕ
next_message cells m = suc (highest cells m)

-- "Message s .. stands in cell s mod K"
unfoldable pub append_stores : (cells : ℕ) → (m : ℕ → ℕ) → (message : List ℕ) → List Store
append_stores cells m message = message_stores m (next_message cells m % cells) (next_message cells m) message

-- "29 when a message is empty or over 384 bytes"
unfoldable pub message_fault : (size : ℕ) → ℕ
message_fault size = refuse_if (eqb size 0) 29 (refuse_if (ltb 384 size) 29 0)

-- "30 is tested first, and in an append 29, then 9 for a number of 2^63 or more, then 13 for a list shorter than the
-- stores"; ats and vals are the lengths of the lists
unfoldable pub append_fault : (area message : List ℕ) → (ats vals : ℕ) → ℕ
append_fault area message ats vals =
    or_else (area_fault area)
    (or_else (message_fault (length message))
    (or_else (version_fault (next_message (cells_in area) (word area)))
    (short_fault (length (append_stores (cells_in area) (word area) message)) ats vals)))

-- "An append answers its number and its count of stores"
unfoldable pub append_result : (area message at value : List ℕ) → LogResult
append_result area message at value =
    handing (append_fault area message (length at) (length value)) (next_message (cells_in area) (word area))
    (append_stores (cells_in area) (word area) message) at value

-- the same with one lent list of records
unfoldable pub append_list_result : (area message : List ℕ) → (list : List Store) → LogListResult
append_list_result area message list =
    handing_list (append_fault area message (length list) (length list)) (next_message (cells_in area) (word area))
    (append_stores (cells_in area) (word area) message) list
