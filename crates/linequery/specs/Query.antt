-- What a sender asks of a single line, 64 bytes, and is answered in 8 lent bytes. Document 02, A.12, "Asking from C".
use Rattle.std.specs.Prelude.{cond, not, List, ℕ, eqb, length}
use Rattle.words.specs.Word.{word, set_word}
use Rattle.prelude.specs.Refusal.{refuse_if, or_else, unless_refused}
use Rattle.layout.specs.Line.{whole, version_of, first_word, last_word_of, version_fault}

-- "33 when a slice has not its length": the line's 64 bytes and the answer's 8
unfoldable pub slice_fault : (line answer : ℕ) → ℕ
slice_fault line answer = refuse_if (not (eqb line 64)) 33 (refuse_if (not (eqb answer 8)) 33 0)

-- "then 9 when the next version is 2^63 or more"
unfoldable pub next_fault : (line answer version : ℕ) → ℕ
next_fault line answer version = or_else (slice_fault line answer) (version_fault version)

-- what is returned, and the 8 bytes afterwards
pub record QueryResult : Type 0 where
  pub returns : ℕ
  pub answer : List ℕ

-- what a query that returned this code left
abbrev pub query_end : (code : ℕ) → (answer : List ℕ) → QueryResult
query_end code answer = record { returns = code; answer = answer }

-- "Each puts its answer .. in a lent slice of 8 bytes and returns 0 or the refusal": as a word; a refusal leaves the
-- bytes as they were
unfoldable pub queried : (fault value : ℕ) → (lent : List ℕ) → QueryResult
queried fault value lent = record { returns = fault; answer = unless_refused fault (set_word lent 0 value) lent }

-- "whether the line is whole", "yes being 1": word 0 of the line is the mark and word 7 the stamp
unfoldable pub whole_query : (line lent : List ℕ) → QueryResult
whole_query line lent = queried (slice_fault (length line) (length lent)) (cond (whole (word line 0) (word line 7)) 1 0) lent

-- "its version", of an open line too
unfoldable pub version_query : (line lent : List ℕ) → QueryResult
version_query line lent = queried (slice_fault (length line) (length lent)) (version_of (word line 7)) lent

-- "the first .. word for a given next version": what a call stores first into the line
unfoldable pub first_query : (version : ℕ) → (line lent : List ℕ) → QueryResult
first_query version line lent = queried (next_fault (length line) (length lent) version) (first_word (word line 7)) lent

-- "and last word": what it stores last
unfoldable pub last_query : (version : ℕ) → (line lent : List ℕ) → QueryResult
last_query version line lent = queried (next_fault (length line) (length lent) version) (last_word_of (word line 7) version) lent
