-- What the functions on stores ask of their callers.
use Rattle.std.specs.Prelude.{List, ℕ, ◌+◌, ◌*◌, ◌^◌, ◌≤◌, ◌<◌, length, get_or}
use Rattle.layout.specs.Record.{Layout, limit}

-- a record of layout l can be made of these
pub record Recordable (l kind number : ℕ) (value : List ℕ) (version : ℕ) : Type 0 where
  pub layout : Layout l
  pub kind_fits : kind < 256
  pub number_fits : number < 256
  pub size : length value ≤ limit l
  pub version_fits : version < 2 ^ 63

-- both lists have the stores with the numbers `from` to `from` + `count` - 1, and an image of len bytes has their words
pub record Makeable (len : ℕ) (at value : List ℕ) (from count : ℕ) : Type 0 where
  pub numbers : from + count ≤ length at
  pub values : from + count ≤ length value
  pub inside : (k : ℕ) → from ≤ k → k < from + count → 8 * get_or at k 0 + 8 ≤ len
