-- WHAT IS ANSWERED OF A LINE, beside the set's own rules. Document 02, A.12: "They agree with the set's own rules on
-- every line."
use Rattle.std.specs.Prelude.{◌≡◌, Bool, false, cond, List, ℕ, ◌+◌, ◌*◌, ◌/◌, ◌^◌, ◌≤◌, ◌<◌, max, eqb, length, get_or, take, drop}
use Rattle.words.specs.Word.{AreBytes, word}
use Rattle.layout.specs.Line.{line, whole, version_of, first_word, last_word_of}
use Rattle.layout.specs.Slot.{slot_verdict}
use Rattle.layout.specs.declared.Verdict.{Verdict}
use Rattle.layout.specs.declared.Verdict.TheVariants.{Valid, Empty, Broken}
use Rattle.stores.specs.Store.{on_line}
use Rattle.stores.specs.Play.{values}
use Rattle.stores.specs.Written.{record_stores}
use Rattle.linequery.specs.Query.{QueryResult, slice_fault, whole_query, version_query, first_query, last_query}

-- the 64 bytes of line n of an image
unfoldable pub line_bytes : (image : List ℕ) → (n : ℕ) → List ℕ
line_bytes image n = take 64 (drop (64 * n) image)

-- the word that a query of line n puts into these 8 bytes
abbrev pub answer_of : (query : List ℕ → List ℕ → QueryResult) → (image lent : List ℕ) → (n : ℕ) → ℕ
answer_of query image lent n = word (query (line_bytes image n) lent).answer 0

-- of line n: no query gives 33 or, for a next version below 2^63, 9: each returns 0, and answers what the set's rules
-- say of the line's mark and stamp
pub record LineAgreement (image lent : List ℕ) (n : ℕ) : Type 0 where
  pub sized : slice_fault (length (line_bytes image n)) (length lent) ≡ 0
  pub is_whole : answer_of whole_query image lent n ≡ cond (whole (line (word image) n 0) (line (word image) n 7)) 1 0
  pub has-version : answer_of version_query image lent n ≡ version_of (line (word image) n 7)
  pub first-word : (version : ℕ) → version < 2 ^ 63 → answer_of (first_query version) image lent n ≡ first_word (line (word image) n 7)
  pub last_word : (version : ℕ) → version < 2 ^ 63 → answer_of (last_query version) image lent n ≡ last_word_of (line (word image) n 7) version
  pub whole_returns : (whole_query (line_bytes image n) lent).returns ≡ 0
  pub version_returns : (version_query (line_bytes image n) lent).returns ≡ 0
  pub first_returns : (version : ℕ) → version < 2 ^ 63 → (first_query version (line_bytes image n) lent).returns ≡ 0
  pub last_returns : (version : ℕ) → version < 2 ^ 63 → (last_query version (line_bytes image n) lent).returns ≡ 0

-- both lines are whole, by the answers on them, and have one version
unfoldable pub paired_by : (wholeA versionA wholeB versionB : ℕ) → Bool
paired_by wholeA versionA wholeB versionB = cond (eqb wholeA 1) (cond (eqb wholeB 1) (eqb versionA versionB) false) false

-- "A slot is valid when both lines are whole and carry the same version, at least 1. It is empty when both are whole
-- with version 0. Every other slot is broken": Broken has the highest version on a whole line
unfoldable pub verdict_by : (wholeA versionA wholeB versionB : ℕ) → Verdict
verdict_by wholeA versionA wholeB versionB =
    cond (paired_by wholeA versionA wholeB versionB) (cond (eqb versionA 0) Empty (Valid versionA))
    (Broken (max (cond (eqb wholeA 1) versionA 0) (cond (eqb wholeB 1) versionB 0)))

-- eight words, the first of them this and the last that
pub record Framed (words : List ℕ) (first last : ℕ) : Type 0 where
  pub eight : length words ≡ 8
  pub begins : get_or words 0 0 ≡ first
  pub ends : get_or words 7 0 ≡ last

-- of slot s: the answers on its two lines give the slot's verdict; the first and the last word are those of the stores
-- that a call hands out for the line, whatever record it writes
pub record SlotAgreement (image lent : List ℕ) (s : ℕ) : Type 0 where
  pub verdict :
      verdict_by (answer_of whole_query image lent (2 * s)) (answer_of version_query image lent (2 * s))
      (answer_of whole_query image lent (2 * s + 1)) (answer_of version_query image lent (2 * s + 1)) ≡
      slot_verdict (word image) s
  pub stores : (l n key kind number : ℕ) (value : List ℕ) (version : ℕ) → n / 2 ≡ s → version < 2 ^ 63
      → Framed (values (on_line n (record_stores l (word image) s key kind number value version))) (answer_of (first_query version) image lent n)
      (answer_of (last_query version) image lent n)

-- "on every line": of any bytes, with 8 lent bytes, on each line and each slot that lies in them
pub record Agreement (image lent : List ℕ) : Type 0 where
  pub on-line : (n : ℕ) → 64 * (n + 1) ≤ length image → LineAgreement image lent n
  pub on_slot : (s : ℕ) → 128 * (s + 1) ≤ length image → SlotAgreement image lent s

abbrev pub QueriesAgree : Type 0
QueriesAgree = (image lent : List ℕ) → AreBytes image → length lent ≡ 8 → Agreement image lent
