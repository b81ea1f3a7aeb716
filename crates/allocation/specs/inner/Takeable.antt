-- Which slots may be taken, as the functions test it.
use Rattle.std.specs.Prelude.{◌≡◌, Bool, true, cond, not, ◌&&◌, List, ℕ, ◌+◌, ◌*◌, ◌≤◌, eqb, ltb, length, get_or}
use Rattle.prelude.specs.Range.{any_of}
use Rattle.layout.specs.Line.{line_a, version_of}
use Rattle.layout.specs.Record.{Layout, kind_of}
use Rattle.layout.specs.Slot.{slot_verdict}
use Rattle.layout.specs.Content.{highest_whole_in, Table}
use Rattle.layout.specs.declared.Verdict.{Verdict}
use Rattle.layout.specs.declared.Verdict.TheVariants.{Valid, Empty, Broken}
use Rattle.table.specs.Table.{is_record, key_in}
use Rattle.table.specs.Takeable.{takeable_if, is_remove, older}

-- the image and next are those of n slots, in layout l
pub record Walkable (image next : List ℕ) (l n : ℕ) : Type 0 where
  pub layout : Layout l
  pub image-size : length image ≡ 128 * (n + 1)
  pub next_size : length next ≡ n + 1
  pub some : 2 ≤ n
  pub few : n ≤ 65535

-- the version of a valid slot, 0 for any other
unfoldable pub version_in : Verdict → ℕ
version_in (Valid version) = version
version_in Empty = 0
version_in (Broken top) = 0

-- the same of slot s, by the words of an image
unfoldable pub slot_version : (ℕ → ℕ) → ℕ → ℕ
slot_version m s = version_in (slot_verdict m s)

-- slot t has a valid record of this key, older than this version
unfoldable pub older_than : Table → (key version t : ℕ) → Bool
older_than f key version t = is_record (f t) && (eqb (key_in (f t)) key && ltb (highest_whole_in (f t)) version)

-- slot s has a remove record while slot t has an older valid record of its key
unfoldable pub older_left : Table → (s t : ℕ) → Bool
older_left f s t = is_remove (f s) && older f s t

-- may slot s be taken? An older record of its key may remain unless `scan` says that the image is looked through, and
-- none is found
unfoldable pub takeable : Table → (n top : ℕ) → (scan : Bool) → (s : ℕ) → Bool
takeable f n top scan s = takeable_if top (cond scan (any_of (older f s) 1 n) true) (f s)

-- by its line A alone, slot s is below `top` and no remove record
unfoldable pub low_put : (l : ℕ) → (ℕ → ℕ) → (top s : ℕ) → Bool
low_put l m top s = ltb (version_of (line_a m s 7)) top && not (eqb (kind_of (line_a m s (l + 1))) 2)

-- the chain's first slot is such a one, and its link is one that a chain has
pub record OpenFirst (l : ℕ) (m : ℕ → ℕ) (next : List ℕ) (n top first : ℕ) : Type 0 where
  pub low : first ≡ 0 → ⊥
  pub high : first ≤ n
  pub link : get_or next first 0 ≤ n
  pub put : low_put l m top first ≡ true
