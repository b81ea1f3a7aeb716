-- What is lent and not refused: its sizes. Assumes nothing.
use mathlib.Core.Path.{◌≡◌, sym, ◌∙◌}
use mathlib.Core.List.{List}
use Prim.Native.Nat.{ℕ, ◌+◌, ◌≤◌, ◌^◌, ◌<◌}
use native.Mathlib.Omega.{arith}
use lib.ListN.{length}
use borrow.Author.Tests.{ltb-false, eqb-true, eqb-false, not-false, leb-false}
use Rattle.layout.specs.Size.{slots_in}
use Rattle.layout.specs.Header.{image_fault, index_fault, lent_fault}
use Rattle.prelude.proofs.Refusals.{refuse_if_zero, or_else_zero}
use Rattle.layout.proofs.Size.{Long, long}
use Rattle.layout.specs.inner.Sized.{Sized}
use Rattle.layout.specs.Line.{version_fault}

image_long : (l : ℕ) (image : List ℕ) → image_fault l image ≡ 0 → Long (length image)
unfolding image_fault
image_long l image e = long (length image) (eqb-false (slots_in image) 0 (refuse_if_zero _ _ _ e (omega arith)).0)

-- what an index that 4 does not refuse has for sizes
pub index_sized : (n heads next : ℕ) → index_fault n heads next ≡ 0 → (1 ≤ heads) × (heads ≤ 65536) × (next ≡ n + 1)
unfolding index_fault
index_sized n heads next e =
    let a = refuse_if_zero _ _ _ e (omega arith) in
    let b = refuse_if_zero _ _ _ a.1 (omega arith) in
    let c = refuse_if_zero _ _ _ b.1 (omega arith) in
    (ltb-false heads 1 a.0, ltb-false 65536 heads b.0, eqb-true next (n + 1) (not-false _ c.0))

-- f is what lent_fault says, and it refuses nothing
module _ (l f : ℕ) (image heads next : List ℕ) (ef : f ≡ lent_fault l image (length heads) (length next)) (zf : f ≡ 0) where
  parts : (image_fault l image ≡ 0) × (index_fault (slots_in image) (length heads) (length next) ≡ 0)
  unfolding lent_fault
  parts = or_else_zero _ _ (sym ef ∙ zf)

  pub lent_heads : length heads ≤ 65536
  lent_heads = (index_sized (slots_in image) (length heads) (length next) parts.1).1

  module _ (n : ℕ) (e : n ≡ slots_in image) where
    pub lent_sized : Sized image heads next n
    lent_sized =
        let i = image_long l image parts.0 in
        let x = index_sized (slots_in image) (length heads) (length next) parts.1 in
        record {
          slot_count = sym e;
          image-size = omega (arith, e, i.size);
          next_size = omega (arith, e, x.2);
          some_head = x.0;
          few = omega (arith, e, i.high);
        }

    pub lent_slots : 2 ≤ n
    lent_slots = omega (arith, e, (image_long l image parts.0).low)

pub version_fine : (v : ℕ) → version_fault v ≡ 0 → v < 2 ^ 63
unfolding version_fault
version_fine v e = leb-false _ _ (refuse_if_zero _ _ _ e (omega arith)).0
