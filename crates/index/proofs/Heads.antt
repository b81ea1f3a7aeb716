-- The head of a key goes by its low word. Assumes nothing.
use mathlib.Core.Path.{◌≡◌, ap, ◌∙◌}
use Prim.Native.Nat.{ℕ, ◌-◌, ◌%◌, ◌^◌, ◌≤◌, ◌<◌}
use native.Mathlib.Nat.{mod-lt}
use native.Mathlib.Omega.{arith}
use lib.Bits.{bit_and}
use Rattle.prelude.proofs.Bits.{mask_remainder}
use Rattle.layout.specs.Record.{key_with}
use Rattle.index.specs.Index.{head_of}

pub head_by_low : (low high b : ℕ) → low < 2 ^ 64 → low % b ≡ head_of (key_with low high) b
head_by_low low high b h = let e : low ≡ key_with low high % 2 ^ 64 = omega arith in ap (λ (k : ℕ). k % b) e

-- by the mask of a power of two
pub head_by_mask : (low b : ℕ) → 1 ≤ b → low < 2 ^ 64 → bit_and b (b - 1) ≡ 0
    → (bit_and low (b - 1) < b) × ((high : ℕ) → bit_and low (b - 1) ≡ head_of (key_with low high) b)
head_by_mask low b some h e =
    let m = mask_remainder low b some e in
    (rw m (mod-lt low some), λ high. m ∙ head_by_low low high b h)
