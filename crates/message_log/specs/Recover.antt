-- The log's recovery: its stores, its refusals and its result. Document 02, A.10.
use Rattle.std.specs.Prelude.{Bool, cond, ◌&&◌, List, [], ◌∷◌, ℕ, zero, suc, ◌*◌, ltb, length}
use Rattle.prelude.specs.Refusal.{or_else}
use Rattle.words.specs.Word.{word}
use Rattle.layout.specs.Line.{whole, version_of, first_word}
use Rattle.stores.specs.Store.{Store}
use Rattle.message_log.specs.Area.{cells_in, area_fault, marked_line}
use Rattle.message_log.specs.Message.{highest}
use Rattle.message_log.specs.LogOutcome.{short_fault, LogResult, handing, LogListResult, handing_list}

-- the marked line of cell c is whole and above number h
unfoldable pub is_above : (m : ℕ → ℕ) → (h c : ℕ) → Bool
is_above m h c = whole (marked_line m c 0) (marked_line m c 7) && ltb h (version_of (marked_line m c 7))

-- the store that opens the marked line of cell c: its mark is turned against its close bit, as the first store of a
-- record does
abbrev pub invalidation : (m : ℕ → ℕ) → (c : ℕ) → Store
invalidation m c = record { word = 8 * (7 * c); value = first_word (marked_line m c 7) }

-- "by cell, a store that opens each whole marked line above that number": the n cells from cell k on
unfoldable pub invalidations : (m : ℕ → ℕ) → (h k n : ℕ) → List Store
invalidations m h k zero = []
invalidations m h k (suc n) = cond (is_above m h k) (invalidation m k ∷ invalidations m h (suc k) n) (invalidations m h (suc k) n)

-- "that number" is the highest complete one
unfoldable pub recovery_stores : (cells : ℕ) → (m : ℕ → ℕ) → List Store
recovery_stores cells m = invalidations m (highest cells m) 0 cells

-- 30, and 13 "which its recovery gives too"
unfoldable pub log_recover_fault : (area : List ℕ) → (ats vals : ℕ) → ℕ
log_recover_fault area ats vals =
    or_else (area_fault area) (short_fault (length (recovery_stores (cells_in area) (word area))) ats vals)

-- "recovery the highest complete number, 0 if none, and its count"
unfoldable pub log_recover_result : (area at value : List ℕ) → LogResult
log_recover_result area at value =
    handing (log_recover_fault area (length at) (length value)) (highest (cells_in area) (word area))
    (recovery_stores (cells_in area) (word area)) at value

-- the same with one lent list of records
unfoldable pub log_recover_list_result : (area : List ℕ) → (list : List Store) → LogListResult
log_recover_list_result area list =
    handing_list (log_recover_fault area (length list) (length list)) (highest (cells_in area) (word area))
    (recovery_stores (cells_in area) (word area)) list
