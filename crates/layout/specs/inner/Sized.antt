-- The sizes of what is lent, as the functions ask for them.
use Rattle.std.specs.Prelude.{◌≡◌, List, ℕ, ◌+◌, ◌*◌, ◌≤◌, length}
use Rattle.layout.specs.Size.{slots_in}

-- the image has n slots and the index the size for them
pub record Sized (image heads next : List ℕ) (n : ℕ) : Type 0 where
  pub slot_count : slots_in image ≡ n
  pub image-size : length image ≡ 128 * (n + 1)
  pub next_size : length next ≡ n + 1
  pub some_head : 1 ≤ length heads
  pub few : n ≤ 65535
