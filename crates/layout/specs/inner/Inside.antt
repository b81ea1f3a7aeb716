-- When a slot is inside an image, as the functions ask for it.
use Rattle.std.specs.Prelude.{List, ℕ, ◌+◌, ◌*◌, ◌≤◌, length}
use Rattle.layout.specs.Record.{Layout}

-- slot s of layout l is inside the image
pub record SlotInside (image : List ℕ) (l s : ℕ) : Type 0 where
  pub layout : Layout l
  pub room : 128 * (s + 1) ≤ length image
