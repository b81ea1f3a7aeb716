-- What the log's functions ask of their callers, and what their plans give.
use Rattle.std.specs.Prelude.{◌≡◌, List, ℕ, suc, ◌+◌, ◌*◌, ◌%◌, ◌^◌, ◌≤◌, ◌<◌, length}
use Rattle.std.proofs.lemmas.List.Edits.{sets}
use Rattle.words.specs.Word.{word}
use Rattle.layout.specs.Line.{line}
use Rattle.stores.specs.Store.{Store}
use Rattle.stores.specs.Play.{word_numbers, values}
use Rattle.message_log.specs.Area.{cells_in, marked_line}
use Rattle.message_log.specs.Bit.{differing_place}
use Rattle.message_log.specs.Append.{message_line, payloads_from, pairs_word, next_message, append_stores}
use Rattle.message_log.specs.AppendAfter.{append_after_stores}
use Rattle.message_log.specs.Recover.{invalidations}

-- ---- the area

-- an area of len bytes has k cells
pub record CellCount (len k : ℕ) : Type 0 where
  pub some : 2 ≤ k
  pub few : k ≤ 1000
  pub size : len ≡ 448 * k

-- and c is one of them
pub record CellInside (len k c : ℕ) : Type 0 where
  pub all : CellCount len k
  pub one : c < k

-- line n is inside an area of len bytes, and i is the number of a payload line
pub record LineInside (len n i : ℕ) : Type 0 where
  pub room : 64 * n + 64 ≤ len
  pub payload : i < 6

-- and place is that of its highest word that differs, or 8
pub record Pairable (area : List ℕ) (n : ℕ) (message : List ℕ) (i place : ℕ) : Type 0 where
  pub inside : LineInside (length area) n i
  pub found : place ≡ differing_place 8 (line (word area) n) (message_line message i)

-- cell c is inside the area, and its length is that of a message
pub record Readable (area : List ℕ) (c : ℕ) : Type 0 where
  pub inside : 448 * (c + 1) ≤ length area
  pub short : marked_line (word area) c 1 ≤ 384

-- ---- the lists

-- the stores ss stand in the lists from position k on, and nothing else has changed
pub record Filled (at value at' value' : List ℕ) (k : ℕ) (ss : List Store) : Type 0 where
  pub ats : at' ≡ sets at k (word_numbers ss)
  pub vals : value' ≡ sets value k (values ss)

-- n stores from position k on are inside lists of these lengths
pub record ListRoom (ats vals k n : ℕ) : Type 0 where
  pub at_room : k + n ≤ ats
  pub value_room : k + n ≤ vals

-- those of the marked line of cell c at the front
pub record MarkedRoom (ats vals c number : ℕ) : Type 0 where
  pub room : ListRoom ats vals 0 8
  pub cell : c < 1000
  pub number_fits : number < 2 ^ 63

-- those of the first count words of line n
pub record LineRoom (ats vals from n i count : ℕ) : Type 0 where
  pub room : ListRoom ats vals from count
  pub few : count ≤ 8
  pub line_low : n < 7000
  pub payload : i < 6

-- those of the payload lines of a message after the marked line's
pub record PayloadRoom (area message : List ℕ) (c ats vals : ℕ) : Type 0 where
  pub room : ListRoom ats vals 8 (length (payloads_from (word area) c message 0 6))
  pub cell : c < 1000
  pub inside : 448 * (c + 1) ≤ length area

-- and all of them; pairs is word 2 of the marked line
pub record MessageRoom (area message : List ℕ) (c number pairs ats vals : ℕ) : Type 0 where
  pub payload : PayloadRoom area message c ats vals
  pub number_fits : number < 2 ^ 63
  pub pairs_are : pairs ≡ pairs_word (word area) c message

-- the store that opens cell c, if there is one, at position n
pub record InvalidationRoom (area : List ℕ) (ats vals n top c : ℕ) : Type 0 where
  pub inside : 448 * (c + 1) ≤ length area
  pub cell : c < 1000
  pub room : ListRoom ats vals n (length (invalidations (word area) top c 1))

-- and all of them at the front
pub record InvalidationsRoom (area : List ℕ) (ats vals k top : ℕ) : Type 0 where
  pub all : CellCount (length area) k
  pub room : ListRoom ats vals 0 (length (invalidations (word area) top 0 k))

-- ---- plans

-- the payload lines of a message for cell c
pub record PayloadPlanned (area : List ℕ) (c : ℕ) (message : List ℕ) (pairs count : ℕ) : Type 0 where
  pub pairs_are : pairs ≡ pairs_word (word area) c message
  pub size : count ≡ length (payloads_from (word area) c message 0 6)
  pub few : count ≤ 48

-- an append that is not refused
pub record AppendReady (area message : List ℕ) (ats vals number cell pairs count : ℕ) : Type 0 where
  pub next : number ≡ next_message (cells_in area) (word area)
  pub there : cell ≡ next_message (cells_in area) (word area) % cells_in area
  pub size : count ≡ length (append_stores (cells_in area) (word area) message)
  pub room : MessageRoom area message cell number pairs ats vals

-- an append after this number that is not refused
pub record AppendAfterReady (area : List ℕ) (last : ℕ) (message : List ℕ) (ats vals number cell pairs count : ℕ) : Type 0 where
  pub next : number ≡ suc last
  pub there : cell ≡ suc last % cells_in area
  pub size : count ≡ length (append_after_stores (cells_in area) (word area) last message)
  pub room : MessageRoom area message cell number pairs ats vals
