-- Which messages are complete, and which of them readers are shown. Document 02, A.10.
use Rattle.std.specs.Prelude.{Bool, cond, not, ◌&&◌, List, ℕ, ◌+◌, ◌-◌, ◌*◌, ◌/◌, ◌%◌, eqb, leb, ltb, take, drop}
use Rattle.prelude.specs.Range.{any_of, greatest}
use Rattle.words.specs.Word.{word}
use Rattle.layout.specs.Line.{whole, version_of}
use Rattle.message_log.specs.Area.{marked_line, payload_line}
use Rattle.message_log.specs.Bit.{line_bit, pair_in}

-- the bit that a pair names in the payload line L is not the pair's value
abbrev pub pair_differs : (pair : ℕ) → (L : ℕ → ℕ) → Bool
pair_differs pair L = not (eqb (line_bit L (pair % 512)) (pair / 512))

-- the same of pair i of word 2
unfoldable pub bit_differs : (w : ℕ) → (L : ℕ → ℕ) → (i : ℕ) → Bool
bit_differs w L i = pair_differs (pair_in w i) L

-- not "all six bits match"
unfoldable pub bits_differ : (m : ℕ → ℕ) → (c : ℕ) → Bool
bits_differ m c = any_of (λ i. bit_differs (marked_line m c 2) (payload_line m c i) i) 0 6

-- cell c holds message s: s is "at least 1", the "marked line is whole with version s, its length is 1 to 384 and all
-- six bits match"
unfoldable pub holds_message : (m : ℕ → ℕ) → (c s : ℕ) → Bool
holds_message m c s =
    leb 1 s && whole (marked_line m c 0) (marked_line m c 7) && eqb (version_of (marked_line m c 7)) s
    && (leb 1 (marked_line m c 1) && leb (marked_line m c 1) 384) && not (bits_differ m c)

-- "Message s .. stands in cell s mod K and is complete when": in an area of `cells` cells
abbrev pub is_complete : (cells : ℕ) → (m : ℕ → ℕ) → (s : ℕ) → Bool
is_complete cells m s = holds_message m (s % cells) s

-- the complete number that stands in cell c, 0 if none does
unfoldable pub message_number : (cells : ℕ) → (m : ℕ → ℕ) → (c : ℕ) → ℕ
message_number cells m c =
    cond (eqb (version_of (marked_line m c 7) % cells) c && holds_message m c (version_of (marked_line m c 7)))
    (version_of (marked_line m c 7)) 0

-- "the highest complete number", over cells 0 to K − 1; 0 if none is complete
unfoldable pub highest : (cells : ℕ) → (m : ℕ → ℕ) → ℕ
highest cells m = greatest (λ n. message_number cells m (n - 1)) cells

-- s is among "the last K − 1 numbers up to" h, from 1
unfoldable pub in_window : (cells h s : ℕ) → Bool
in_window cells h s = leb 1 s && leb s h && ltb (h - s) (cells - 1)

-- "Readers are shown the last K − 1 numbers up to the highest complete one, those that are complete"
unfoldable pub shown : (cells : ℕ) → (m : ℕ → ℕ) → (s : ℕ) → Bool
shown cells m s = in_window cells (highest cells m) s && is_complete cells m s

-- where the bytes of the message in cell c begin: after the marked line
abbrev pub message_start : (c : ℕ) → ℕ
message_start c = 448 * c + 64

-- these bytes: as many as the length says
unfoldable pub message_in : (area : List ℕ) → (c : ℕ) → List ℕ
message_in area c = take (marked_line (word area) c 1) (drop (message_start c) area)
