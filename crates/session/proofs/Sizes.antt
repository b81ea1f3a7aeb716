-- The lengths of a session's set: n slots and one head. Assumes nothing.
use mathlib.Core.Path.{◌≡◌, ◌∙◌}
use Prim.Native.Nat.{ℕ, ◌+◌, ◌*◌}
use native.Mathlib.Omega.{arith}
use lib.ListN.{length}
use Rattle.interface.specs.Set.{World, PlainMap, slots_in}
use Rattle.interface.specs.Laws.{SetLaws}

pub record OneHead (n : ℕ) (w : World) : Type 0 where
  pub image-size : length w.image ≡ 128 * (n + 1)
  pub heads_size : length w.index.heads ≡ 1
  pub next_size : length w.index.next ≡ n + 1

-- by its heads and its number of slots
pub one-head : (Inv : World → PlainMap → Type 0) → SetLaws 1 Inv → (n : ℕ) (w : World) (m : PlainMap) → Inv w m → slots_in w.image ≡ n
    → length w.index.heads ≡ 1 → OneHead n w
one-head Inv laws n w m i e h =
    let lengths = laws.lengths w m i in
    record {
      image-size = omega (arith, lengths.image-size, e);
      heads_size = h;
      next_size = lengths.next_size ∙ omega (arith, e);
    }
