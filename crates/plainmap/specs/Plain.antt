-- The plain map. Document 01, "The plain map and the cut rule".
use Rattle.std.specs.Prelude.{Bool, cond, List, [], ◌∷◌, ◌++◌, ℕ, ◌+◌, eqb, ltb, leb, length, drop}
use Rattle.std.proofs.Math.Option.{Option, some, none}
use Rattle.prelude.specs.Refusal.{refuse_if, or_else}
use Rattle.prelude.specs.Answer.{Answer, gives, absent}
use Rattle.layout.specs.Record.{limit}
use Rattle.table.specs.Table.{is_held}
use Rattle.layout.specs.Line.{version_fault}
use Rattle.index.specs.Change.{inserts_of, key_fault}
use Rattle.plainmap.specs.World.{Call, write, remove, get, locate}

-- "Its state is a set of keys with a value each, perhaps of 0 bytes"
abbrev pub PlainMap : Type 0
PlainMap = ℕ → Option (List ℕ)

-- "fed only which call it is, its key, a put's value": what a call makes of the map where it is not refused, one key at
-- a time
pub data Update : Type 0 where
  giving : (key : ℕ) → (value : List ℕ) → Update
  dropping : (key : ℕ) → Update

-- of a call, what the plain map is fed; a call that only reads updates no key
unfoldable pub updates : Call → List Update
updates (write mode key value) = giving key value ∷ []
updates (remove key) = dropping key ∷ []
updates (get key out) = []
updates (locate key) = []

-- an insert or a replace gives its key the value; "A remove drops a held key"
unfoldable pub updated : Update → PlainMap → PlainMap
updated (giving key value) m k = cond (eqb k key) (some value) (m k)
updated (dropping key) m k = cond (eqb k key) none (m k)

-- all updates, in their order
unfoldable pub plain_next : List Update → PlainMap → PlainMap
plain_next [] m = m
plain_next (u ∷ us) m = plain_next us (updated u m)

-- "A refused call changes nothing"; is_refused is "whether these rules refuse it"
unfoldable pub plain_step : List Update → (is_refused : Bool) → PlainMap → PlainMap
plain_step us is_refused m = cond is_refused m (plain_next us m)

-- ---- what a call answers, by the plain map before it

-- the length of a key's value, 0 for none
unfoldable pub size_of : Option (List ℕ) → ℕ
size_of none = 0
size_of (some value) = length value

-- of a set with its own index: how many slots it has, how many keys are held, how many slots may be taken, and the next
-- version
pub record Room : Type 0 where
  pub slots : ℕ
  pub held : ℕ
  pub takeable : ℕ
  pub version : ℕ

-- document 02, A.7: "28 when too few slots may be taken or, by the live count, no spare slot would be left, in place of
-- 12 as the rule on room, before 9"
unfoldable pub room_rule : Room → (wanted inserts removes : ℕ) → ℕ
room_rule r wanted inserts removes =
    refuse_if (ltb r.takeable wanted) 28
    (refuse_if (leb (r.slots + removes) (r.held + inserts)) 28 (version_fault r.version))

-- where the rules refuse a call on an image with its own index: an insert with 10, 20, 28 or 9, a replace with 10, 21,
-- 28 or 9, a remove with 28 or 9, a get with 13, a locate never
unfoldable pub rule_fault : (l : ℕ) → Room → PlainMap → Call → ℕ
rule_fault l r m (write mode key value) =
    refuse_if (ltb (limit l) (length value)) 10 (or_else (key_fault mode (is_held (m key))) (room_rule r 1 (inserts_of mode) 0))
rule_fault l r m (remove key) = cond (is_held (m key)) (room_rule r 1 0 1) 0
rule_fault l r m (get key out) = refuse_if (ltb (length out) (size_of (m key))) 13 0
rule_fault l r m (locate key) = 0

-- "A get answers the value and its length, or absent"
unfoldable pub length_answer : Option (List ℕ) → Answer
length_answer none = absent
length_answer (some value) = gives (length value ∷ [])

-- the output after a get: "the value fills the front of the output and the bytes after it keep what they had"
unfoldable pub filled : Option (List ℕ) → (out : List ℕ) → List ℕ
filled none out = out
filled (some value) out = value ++ drop (length value) out

-- a call that is not refused: insert, replace and remove answer the slot taken and the version; "A remove drops a held
-- key; for another it answers absent". A locate answers the slot that holds the key and its version: `holder` gives
-- both
unfoldable pub plain_answer : (slot version : ℕ) → (holder : ℕ → List ℕ) → PlainMap → Call → Answer
plain_answer slot version holder m (write mode key value) = gives (slot ∷ version ∷ [])
plain_answer slot version holder m (remove key) = cond (is_held (m key)) (gives (slot ∷ version ∷ [])) absent
plain_answer slot version holder m (get key out) = length_answer (m key)
plain_answer slot version holder m (locate key) = cond (is_held (m key)) (gives (holder key)) absent

-- the output that a call leaves; a get alone has one
unfoldable pub plain_out : PlainMap → Call → List ℕ
plain_out m (write mode key value) = []
plain_out m (remove key) = []
plain_out m (get key out) = filled (m key) out
plain_out m (locate key) = []
