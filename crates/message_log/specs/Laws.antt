-- What recovery's stores and an append leave of what is shown, whatever stands in the area. Document 02, A.10.
use Rattle.std.specs.Prelude.{◌≡◌, Bool, true, false, not, ◌&&◌, List, ℕ, ◌+◌, ◌*◌, ◌≤◌, ◌<◌, eqb}
use Rattle.words.specs.Word.{AreBytes, word}
use Rattle.layout.specs.Line.{whole, version_of}
use Rattle.stores.specs.Store.{played, standing}
use Rattle.message_log.specs.Area.{cells_in, area_fault, marked_line}
use Rattle.message_log.specs.Message.{highest, shown}
use Rattle.message_log.specs.Append.{next_message, append_stores, append_fault}
use Rattle.message_log.specs.Recover.{recovery_stores}
use Rattle.message_log.specs.Read.{read_part}
use Rattle.message_log.specs.Event.{is_torn}

-- readers are shown the same in area' as in area: numbers and bytes
pub record ShowsSame (area area' : List ℕ) : Type 0 where
  pub top : highest (cells_in area) (word area') ≡ highest (cells_in area) (word area)
  pub numbers : (s : ℕ) → shown (cells_in area) (word area') s ≡ shown (cells_in area) (word area) s
  pub parts : (s : ℕ) → read_part area' s ≡ read_part area s

-- they are shown one more, and no longer the oldest of the last K − 1, which is K − 2 below the highest
pub record ShowsMore (area message area' : List ℕ) : Type 0 where
  pub top : highest (cells_in area) (word area') ≡ next_message (cells_in area) (word area)
  pub newest : shown (cells_in area) (word area') (next_message (cells_in area) (word area)) ≡ true
  pub newest_part : read_part area' (next_message (cells_in area) (word area)) ≡ message
  pub numbers : (s : ℕ) → s ≤ highest (cells_in area) (word area)
      → shown (cells_in area) (word area') s ≡ shown (cells_in area) (word area) s && not (eqb (s + cells_in area) (highest (cells_in area) (word area) + 2))
  pub parts : (s : ℕ) → s ≤ highest (cells_in area) (word area) → shown (cells_in area) (word area') s ≡ true → read_part area' s ≡ read_part area s

-- ---- recovery

-- any part of recovery's stores leaves what is shown, in any area
abbrev pub RecoveryKeeps : Type 0
RecoveryKeeps =
    (area : List ℕ) → AreBytes area → area_fault area ≡ 0 → (counts : ℕ → ℕ)
    → ShowsSame area (played (standing counts (recovery_stores (cells_in area) (word area))) area)

-- ---- append

-- no whole marked line is above the highest complete number: so it is after recovery
abbrev pub Closed : (cells : ℕ) → (m : ℕ → ℕ) → Type 0
Closed cells m =
    (c : ℕ) → c < cells → whole (marked_line m c 0) (marked_line m c 7) ≡ true → version_of (marked_line m c 7) ≤ highest cells m

-- with all its stores an append shows its message; with one missing nothing changes
pub data AppendLeaves (area message area' : List ℕ) : (torn : Bool) → Type 0 where
  whole_there : ShowsMore area message area' → AppendLeaves area message area' false
  wholly_absent : ShowsSame area area' → AppendLeaves area message area' true

-- from any such area, for any accepted append and any number of first stores of each line
abbrev pub AppendAllOrNone : Type 0
AppendAllOrNone =
    (area message : List ℕ) → AreBytes area → AreBytes message → Closed (cells_in area) (word area)
    → (ats vals : ℕ) → append_fault area message ats vals ≡ 0 → (counts : ℕ → ℕ)
    → AppendLeaves area message (played (standing counts (append_stores (cells_in area) (word area) message)) area)
    (is_torn counts (append_stores (cells_in area) (word area) message) (7 * cells_in area))
