-- Complete messages, the highest complete number, and the numbers of the window. Assumes nothing.
use mathlib.Core.Path.{◌≡◌, refl, sym, ap, ap₂, ◌∙◌, subst}
use mathlib.Core.Bool.{Bool, true, false, cond, not, ◌&&◌}
use mathlib.Core.Logic.{◌⊎◌, inl, inr}
use Prim.Native.Nat.{ℕ, zero, suc, ◌-◌, ◌%◌, ◌≤◌, ◌<◌, max}
use native.Mathlib.Nat.{mod-lt}
use native.Mathlib.Omega.{arith}
use lib.Dec.{eqb, leb, ltb}
use borrow.Author.Tests.{eqb-true, eq-eqb, leb-true, ltb-true, ltb-false, le-leb, lt-ltb, not-true}
use Rattle.prelude.specs.Range.{greatest}
use Rattle.prelude.proofs.Choice.{pick_true, pick_false, split, both, both_of, both_left, both_right}
use Rattle.prelude.proofs.Any.{any_same}
use Rattle.prelude.proofs.Most.{greatest_above}
use Rattle.layout.specs.Line.{whole, version_of}
use Rattle.message_log.specs.Area.{marked_line, payload_line}
use Rattle.message_log.specs.Message.{bit_differs, bits_differ, holds_message, is_complete, message_number, highest, in_window}

-- ---- what it is to hold a message

pub record Held (m : ℕ → ℕ) (c s : ℕ) : Type 0 where
  pub low : 1 ≤ s
  pub is_whole : whole (marked_line m c 0) (marked_line m c 7) ≡ true
  pub version : version_of (marked_line m c 7) ≡ s
  pub size_low : 1 ≤ marked_line m c 1
  pub size_high : marked_line m c 1 ≤ 384
  pub bits : bits_differ m c ≡ false

pub held : (m : ℕ → ℕ) (c s : ℕ) → holds_message m c s ≡ true → Held m c s
unfolding holds_message
held m c s e =
    let all = both_of _ _ e in
    let fields = both_of _ _ all.0 in
    let marks = both_of _ _ fields.0 in
    let start = both_of _ _ marks.0 in
    let sizes = both_of _ _ fields.1 in
    record {
      low = leb-true 1 s start.0;
      is_whole = start.1;
      version = eqb-true (version_of (marked_line m c 7)) s marks.1;
      size_low = leb-true 1 (marked_line m c 1) sizes.0;
      size_high = leb-true (marked_line m c 1) 384 sizes.1;
      bits = not-true (bits_differ m c) all.1;
    }

pub holding : (m : ℕ → ℕ) (c s : ℕ) → Held m c s → holds_message m c s ≡ true
unfolding holds_message
holding m c s h =
    both _ _
    (both _ _
    (both _ _ (both _ _ (le-leb 1 s h.low) h.is_whole) (eq-eqb (version_of (marked_line m c 7)) s h.version))
    (both _ _ (le-leb 1 (marked_line m c 1) h.size_low) (le-leb (marked_line m c 1) 384 h.size_high)))
    (ap not h.bits)

-- a cell whose lines are the same holds the same
pub record SameCell (m m' : ℕ → ℕ) (c : ℕ) : Type 0 where
  pub marked-line : marked_line m' c ≡ marked_line m c
  pub payload : (i : ℕ) → i < 6 → payload_line m' c i ≡ payload_line m c i

pub same_holds : (m m' : ℕ → ℕ) (c s : ℕ) → SameCell m m' c → holds_message m' c s ≡ holds_message m c s
unfolding holds_message bits_differ
same_holds m m' c s e =
    ap₂
    (λ (L : ℕ → ℕ) (b : Bool).
    leb 1 s && whole (L 0) (L 7) && eqb (version_of (L 7)) s && (leb 1 (L 1) && leb (L 1) 384) && not b)
    e.marked-line
    (any_same (λ i. bit_differs (marked_line m' c 2) (payload_line m' c i) i) (λ i. bit_differs (marked_line m c 2) (payload_line m c i) i) 0 6
    (λ i l h. ap₂ (λ (L P : ℕ → ℕ). bit_differs (L 2) P i) e.marked-line (e.payload i (omega arith))))

-- ---- the highest complete number

-- no complete number is above h, and h is one unless there is none
pub record Highest (cells : ℕ) (m : ℕ → ℕ) (h : ℕ) : Type 0 where
  pub above : (s : ℕ) → is_complete cells m s ≡ true → s ≤ h
  pub reached : (h ≡ 0) ⊎ (is_complete cells m h ≡ true)

either_max : (a b : ℕ) → (max a b ≡ a) ⊎ (max a b ≡ b)
either_max a b = go (split (ltb a b))
  where
    go : (ltb a b ≡ true) ⊎ (ltb a b ≡ false) → (max a b ≡ a) ⊎ (max a b ≡ b)
    go (inl e) = inr (omega (arith, ltb-true a b e))
    go (inr e) = inl (omega (arith, ltb-false a b e))

module _ (cells : ℕ) (m : ℕ → ℕ) where
  pub number_of : (s : ℕ) → is_complete cells m s ≡ true → message_number cells m (s % cells) ≡ s
  unfolding message_number
  number_of s e =
      ap (λ (x : ℕ). cond (eqb (x % cells) (s % cells) && holds_message m (s % cells) x) x 0) (held m (s % cells) s e).version
      ∙ pick_true _ _ _ (both _ _ (eq-eqb (s % cells) (s % cells) refl) e)

  -- 0, or a complete number
  abbrev Known : ℕ → Type 0
  Known n = (n ≡ 0) ⊎ (is_complete cells m n ≡ true)

  pub number_known : (c : ℕ) → (message_number cells m c ≡ 0) ⊎ (is_complete cells m (message_number cells m c) ≡ true)
  unfolding message_number
  number_known c = go (split test)
    where
      v : ℕ
      v = version_of (marked_line m c 7)

      test : Bool
      test = eqb (v % cells) c && holds_message m c v

      go : (test ≡ true) ⊎ (test ≡ false) → Known (cond test v 0)
      go (inl e) =
          inr (subst (λ (x : ℕ). is_complete cells m x ≡ true) (sym (pick_true test v 0 e))
          (ap (λ (x : ℕ). holds_message m x v) (eqb-true (v % cells) c (both_left (eqb (v % cells) c) (holds_message m c v) e))
          ∙ both_right (eqb (v % cells) c) (holds_message m c v) e))
      go (inr e) = inl (pick_false test v 0 e)

  greatest_known : (n : ℕ) → Known (greatest (λ k. message_number cells m (k - 1)) n)
  unfolding greatest
  greatest_known zero = inl refl
  greatest_known (suc n) = go (greatest_known n) (either_max (greatest (λ k. message_number cells m (k - 1)) n) (message_number cells m (suc n - 1)))
    where
      at : (x y : ℕ) → y ≡ x → Known x → Known y
      at x y e r = subst Known (sym e) r

      go : Known (greatest (λ k. message_number cells m (k - 1)) n)
          → (max (greatest (λ k. message_number cells m (k - 1)) n) (message_number cells m (suc n - 1)) ≡ greatest (λ k. message_number cells m (k - 1)) n)
          ⊎ (max (greatest (λ k. message_number cells m (k - 1)) n) (message_number cells m (suc n - 1)) ≡ message_number cells m (suc n - 1))
          → Known (max (greatest (λ k. message_number cells m (k - 1)) n) (message_number cells m (suc n - 1)))
      go ih (inl e) = at _ _ e ih
      go ih (inr e) = at _ _ e (number_known (suc n - 1))

  module _ (some : 0 < cells) where
    pub highest_is : Highest cells m (highest cells m)
    unfolding highest
    highest_is = record { above = bound; reached = greatest_known cells }
      where
        pred : (c : ℕ) → suc c - 1 ≡ c
        pred c = omega arith

        bound : (s : ℕ) → is_complete cells m s ≡ true → s ≤ greatest (λ k. message_number cells m (k - 1)) cells
        bound s e =
            omega (
              arith,
              number_of s e,
              ap (message_number cells m) (pred (s % cells)),
              greatest_above (λ k. message_number cells m (k - 1)) cells (suc (s % cells)) (omega arith, omega (arith, mod-lt s some)),
            )

    bounded : (h h' : ℕ) → Highest cells m h → Highest cells m h' → h ≤ h'
    bounded h h' a b = go a.reached
      where
        go : Known h → h ≤ h'
        go (inl e) = omega arith
        go (inr e) = b.above h e

    -- there is only one
    pub highest_by : (h : ℕ) → Highest cells m h → highest cells m ≡ h
    highest_by h a = omega (arith, bounded (highest cells m) h highest_is a, bounded h (highest cells m) a highest_is)

-- ---- the window

pub record Window (cells h s : ℕ) : Type 0 where
  pub low : 1 ≤ s
  pub high : s ≤ h
  pub near : h - s < cells - 1

pub window : (cells h s : ℕ) → in_window cells h s ≡ true → Window cells h s
unfolding in_window
window cells h s e =
    let all = both_of _ _ e in
    let ends = both_of _ _ all.0 in
    record { low = leb-true 1 s ends.0; high = leb-true s h ends.1; near = ltb-true (h - s) (cells - 1) all.1 }

pub in-window : (cells h s : ℕ) → Window cells h s → in_window cells h s ≡ true
unfolding in_window
in-window cells h s w = both _ _ (both _ _ (le-leb 1 s w.low) (le-leb s h w.high)) (lt-ltb (h - s) (cells - 1) w.near)
