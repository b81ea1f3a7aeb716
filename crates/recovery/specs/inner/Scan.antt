-- What recovery's scan of the slots keeps: rank, key and place of each slot, and what all slots together say. A key is
-- kept as its low and its high word.
use Rattle.std.specs.Prelude.{◌≡◌, Bool, true, false, cond, List, ℕ, suc, ◌+◌, ◌-◌, ◌*◌, ◌≤◌, ◌<◌, max, eqb, ltb, length, get_or}
use Rattle.prelude.specs.Refusal.{refuse_if, or_else}
use Rattle.prelude.specs.Range.{any_of, greatest, lowest, at_lowest, count}
use Rattle.layout.specs.Line.{line_a, line_b}
use Rattle.layout.specs.Record.{Layout, key_of, key_with, kind_of}
use Rattle.layout.specs.Content.{Content, broken, empty, put_record, remove_record, content, highest_whole_in, Table}
use Rattle.layout.specs.Fault.{mark_fault, fault_of, record_fault}
use Rattle.layout.specs.inner.Key.{high_word}
use Rattle.table.specs.Table.{key_in, broken_count}
use Rattle.table.specs.Order.{rank_of}
use Rattle.table.specs.Class.{is_empty, is_put}
use Rattle.table.specs.Takeable.{is_remove}
use Rattle.index.specs.Index.{head_of}
use Rattle.recovery.specs.declared.Summary.{Summary}
use Rattle.recovery.specs.declared.Classes.{Classes}
use Rattle.recovery.specs.declared.Scan.{Scan}

-- a chain as a number: 0 is the reuse chain, h + 1 the chain of head h. A put belongs to its key's head, any other slot
-- to reuse
unfoldable pub put_place : (b : ℕ) → Content → ℕ
put_place b (broken top) = 0
put_place b empty = 0
put_place b (put_record version key value) = head_of key b + 1
put_place b (remove_record version key) = 0

-- the image has n slots, the lists an entry for each slot and entry 0, but in layout 1 highs has none, and there are b
-- heads
pub record Scannable (image : List ℕ) (l : ℕ) (ranks lows highs places : List ℕ) (n b : ℕ) : Type 0 where
  pub layout : Layout l
  pub image-size : length image ≡ 128 * (n + 1)
  pub ranks_size : length ranks ≡ n + 1
  pub lows_size : length lows ≡ n + 1
  pub highs_size : length highs ≡ (l - 1) * (n + 1)
  pub places_size : length places ≡ n + 1
  pub few : n ≤ 65535
  pub heads_low : 1 ≤ b
  pub heads_high : b ≤ 65536

-- what is kept of a valid slot of this version, and whether a mark of it is bad
unfoldable pub valid_summary : (l : ℕ) → (m : ℕ → ℕ) → (s b version : ℕ) → (mark : Bool) → Summary
valid_summary l m s b version mark =
    record {
      rank = 2 + version;
      low = line_a m s 1;
      high = high_word l (line_a m s);
      place = cond (eqb (kind_of (line_a m s (l + 1))) 2) 0 (head_of (key_of l (line_a m s)) b + 1);
      top = version;
      mark = mark;
      fault = fault_of l (line_a m s) (line_b m s);
    }

-- what is kept of slot s
pub record Summed (l : ℕ) (m : ℕ → ℕ) (s b : ℕ) (r : Summary) : Type 0 where
  pub rank_is : r.rank ≡ rank_of (content l m s)
  pub key_is : key_with r.low r.high ≡ key_in (content l m s)
  -- the high word is 0 in layout 1
  pub no_high : l ≡ 1 → r.high ≡ 0
  pub place_is : r.place ≡ put_place b (content l m s)
  pub top_is : r.top ≡ highest_whole_in (content l m s)
  pub mark_is : r.mark ≡ mark_fault m s
  pub fault_is : r.fault ≡ record_fault l m s

-- is a slot of this rank and this place a remove: a record without a head's chain?
unfoldable pub is_remove_by : (rank place : ℕ) → Bool
is_remove_by rank place = cond (ltb rank 2) false (eqb place 0)

-- r counts one slot more, of this rank (0 broken, 1 empty) and this place (that of a put is not 0)
pub record ClassesWith (classes : Classes) (rank place : ℕ) (r : Classes) : Type 0 where
  pub broken_is : r.broken ≡ cond (eqb rank 0) (suc classes.broken) classes.broken
  pub empty_is : r.empty ≡ cond (eqb rank 1) (suc classes.empty) classes.empty
  pub puts_are : r.puts ≡ cond (ltb 0 place) (suc classes.puts) classes.puts
  pub removes_are : r.removes ≡ cond (is_remove_by rank place) (suc classes.removes) classes.removes

-- the slots of all classes
abbrev pub slots_counted : Classes → ℕ
slots_counted classes = classes.broken + classes.empty + classes.puts + classes.removes

-- r is a scan with slot s joined, of which `slot` is kept
pub record ScanWith (scan : Scan) (slot : Summary) (s : ℕ) (r : Scan) : Type 0 where
  pub mark_is : r.mark ≡ cond scan.mark true slot.mark
  pub fault_is : r.fault ≡ or_else scan.fault slot.fault
  pub slot_is : r.slot ≡ or_else scan.slot (refuse_if (eqb slot.fault 0) 0 s)
  pub classes_are : ClassesWith scan.classes slot.rank slot.place r.classes
  pub top_is : r.top ≡ max scan.top slot.top

-- the key of slot x by its words in two lists: past the end of highs the high word is 0
unfoldable pub key_at : (lows highs : List ℕ) → ℕ → ℕ
key_at lows highs x = key_with (get_or lows x 0) (get_or highs x 0)

-- the lists have the ranks and the places of the slots 1 to n, and the keys of the records among them
pub record Listed (f : Table) (n b : ℕ) (ranks lows highs places : List ℕ) : Type 0 where
  pub rank_at : (s : ℕ) → 0 < s → s ≤ n → get_or ranks s 0 ≡ rank_of (f s)
  pub key-at : (s : ℕ) → 0 < s → s ≤ n → 2 ≤ rank_of (f s) → key_at lows highs s ≡ key_in (f s)
  pub place_at : (s : ℕ) → 0 < s → s ≤ n → get_or places s 0 ≡ put_place b (f s)

-- how many of the slots 1 to n are of each class
pub record Classed (f : Table) (n : ℕ) (r : Classes) : Type 0 where
  pub broken_is : r.broken ≡ broken_count f n
  pub empty_is : r.empty ≡ count (λ s. is_empty (f s)) n
  pub puts_are : r.puts ≡ count (λ s. is_put (f s)) n
  pub removes_are : r.removes ≡ count (λ s. is_remove (f s)) n

-- what the scan of slots 1 to n leaves and answers
pub record Scanned (l : ℕ) (m : ℕ → ℕ) (n b : ℕ) (ranks lows highs places : List ℕ) (r : Scan) : Type 0 where
  pub listed : Listed (content l m) n b ranks lows highs places
  pub marks_are : r.mark ≡ any_of (mark_fault m) 1 n
  pub fault_is : r.fault ≡ at_lowest (record_fault l m) n
  pub slot_is : r.slot ≡ lowest (record_fault l m) n
  pub classed : Classed (content l m) n r.classes
  pub top_is : r.top ≡ greatest (λ s. highest_whole_in (content l m s)) n
