-- The fields of a record in the bytes of an image, and its faults, by what the tests gave. Assumes nothing.
use mathlib.Core.Path.{◌≡◌, sym, ap, ap₂, ◌∙◌}
use mathlib.Core.Bool.{Bool, true, false, cond}
use Prim.Native.Nat.{ℕ, ◌+◌, ◌*◌, ◌≤◌, ◌<◌}
use native.Mathlib.Omega.{arith}
use lib.Dec.{eqb, ltb}
use borrow.Author.Tests.{eq-eqb, ne_eqb, lt-ltb, le-ltb, ltb-false}
use Rattle.layout.specs.Line.{line_a}
use Rattle.layout.specs.Record.{kind_of, length_of, limit}
use Rattle.layout.specs.Fault.{bits_fault, kind_fault, kind_limit, word_fault, tail_fault, fault_of}
use Rattle.prelude.specs.Refusal.{refuse_if}
use Rattle.prelude.proofs.Choice.{pick_true, pick_false}
use Rattle.prelude.proofs.Refusals.{refuse_if-true, refuse_if-false, refuse_if_zero, or_else_first, or_else_later}

pub second_at : (m : ℕ → ℕ) (s : ℕ) → m (16 * s + 2) ≡ line_a m s 2
second_at m s = ap m (omega arith)

-- ---- word_fault: b says whether the bits above the length byte are a fault, k whether the kind is, most is the greatest length of that kind

pub bad_bits : (l w : ℕ) (b : Bool) → b ≡ bits_fault w → b ≡ true → 6 ≡ word_fault l w
unfolding word_fault
bad_bits l w b e h = sym (refuse_if-true (bits_fault w) 6 _ (sym e ∙ h))

module _ (l w kind : ℕ) (b : Bool) (eb : b ≡ bits_fault w) (h : b ≡ false) (a-kind : kind ≡ kind_of w) (k : Bool) (e : k ≡ kind_fault kind) where
  past_bits : refuse_if k 22 (refuse_if (ltb (kind_limit l kind) (length_of w)) 23 0) ≡ word_fault l w
  unfolding word_fault
  past_bits = rw (e, a-kind) (sym (refuse_if-false (bits_fault w) 6 _ (sym eb ∙ h)))

  pub bad_kind : k ≡ true → 22 ≡ word_fault l w
  bad_kind t = sym (refuse_if-true k 22 _ t) ∙ past_bits

  module _ (t : k ≡ false) (most size : ℕ) (a-most : most ≡ kind_limit l kind) (a-size : size ≡ length_of w) where
    past_kind : refuse_if (ltb most size) 23 0 ≡ word_fault l w
    past_kind = rw (a-most, a-size) (sym (refuse_if-false k 22 _ t) ∙ past_bits)

    pub bad_length : most < size → 23 ≡ word_fault l w
    bad_length p = sym (refuse_if-true (ltb most size) 23 0 (lt-ltb most size p)) ∙ past_kind

    pub no_word_fault : size ≤ most → 0 ≡ word_fault l w
    no_word_fault p = sym (refuse_if-false (ltb most size) 23 0 (le-ltb most size p)) ∙ past_kind

kind-limit_most : (l kind : ℕ) → kind_limit l kind ≤ limit l
unfolding kind_limit
kind-limit_most l kind = go (eqb kind 2)
  where
    go : (b : Bool) → cond b 0 (limit l) ≤ limit l
    go true = omega arith
    go false = omega arith

-- without a fault by the kind word the length is within the limit
pub within : (l w size : ℕ) → size ≡ length_of w → word_fault l w ≡ 0 → size ≤ limit l
unfolding word_fault
within l w size e clear =
    let bits = refuse_if_zero (bits_fault w) 6 _ clear (omega arith) in
    let kind = refuse_if_zero (kind_fault (kind_of w)) 22 _ bits.1 (omega arith) in
    let long = refuse_if_zero (ltb (kind_limit l (kind_of w)) (length_of w)) 23 _ kind.1 (omega arith) in
    omega (arith, ltb-false (kind_limit l (kind_of w)) (length_of w) long.0, kind-limit_most l (kind_of w))

-- ---- record_fault: w is the kind word, and t its fault by itself

module _ (l : ℕ) (A B : ℕ → ℕ) (w : ℕ) (e : w ≡ A (l + 1)) (t : ℕ) (f : t ≡ word_fault l w) where
  pub fault_by_word : (t ≡ 0 → ⊥) → t ≡ fault_of l A B
  unfolding fault_of
  fault_by_word ne = f ∙ ap (word_fault l) e ∙ sym (or_else_first (word_fault l (A (l + 1))) _ (λ z. ne (f ∙ ap (word_fault l) e ∙ z)))

  module _ (z : t ≡ 0) (size : ℕ) (a-size : size ≡ length_of w) (r : Bool) (g : r ≡ tail_fault l A B size) where
    past_word : refuse_if r 24 0 ≡ fault_of l A B
    unfolding fault_of
    past_word =
        rw (g, a-size, e) (sym (or_else_later (word_fault l (A (l + 1))) _ (sym (f ∙ ap (word_fault l) e) ∙ z)))

    pub fault_by_tail : r ≡ true → 24 ≡ fault_of l A B
    fault_by_tail h = sym (refuse_if-true r 24 0 h) ∙ past_word

    pub no_fault : r ≡ false → 0 ≡ fault_of l A B
    no_fault h = sym (refuse_if-false r 24 0 h) ∙ past_word
