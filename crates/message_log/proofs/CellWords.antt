-- What the functions on cells compute: the loop over the six bits, the number of a cell, the highest, and what is shown. Assumes nothing.
use mathlib.Core.Path.{◌≡◌, refl, sym, ap, ◌∙◌, subst}
use mathlib.Core.Bool.{Bool, true, false, cond, ◌&&◌}
use mathlib.Core.Logic.{◌⊎◌, inl, inr}
use Prim.Native.Nat.{ℕ, zero, suc, ◌+◌, ◌-◌, ◌*◌, ◌/◌, ◌%◌, ◌^◌, ◌≤◌, ◌<◌, max}
use native.Mathlib.Nat.{pow-suc, div-div-eq-div-mul, div-one}
use native.Mathlib.Numerals.{add-one}
use native.Mathlib.Omega.{arith}
use lib.Dec.{eqb, leb, ltb}
use borrow.Author.Tests.{eqb-true, eq-eqb, le-leb, lt-leb, lt-ltb, le-ltb}
use Rattle.prelude.specs.Range.{greatest}
use Rattle.prelude.proofs.Choice.{pick_true, pick_false, split, true-false, both, both_of, same_test, positive}
use Rattle.prelude.proofs.Any.{Going, any_start, any_hit, any_next, any_end}
use Rattle.layout.specs.Line.{line, version_of}
use Rattle.message_log.specs.Area.{marked_line, payload_line}
use Rattle.message_log.specs.Bit.{pair_in}
use Rattle.message_log.specs.Message.{pair_differs, bit_differs, bits_differ, holds_message, is_complete, message_number, highest, in_window, shown}
use Rattle.message_log.proofs.Cells.{Held, held, holding, number_of, number_known}

-- ---- the six bits

module _ (m : ℕ → ℕ) (c : ℕ) where
  abbrev differs_at : ℕ → Bool
  differs_at i = bit_differs (marked_line m c 2) (payload_line m c i) i

  -- the bits before i match, and what is left of word 2 is rest
  pub record Matching (i rest : ℕ) : Type 0 where
    pub search : Going (λ j. bit_differs (marked_line m c 2) (payload_line m c j) j) 0 6 6 i
    pub left : rest ≡ marked_line m c 2 / 1024 ^ i

  pub match_start : (rest : ℕ) → rest ≡ m (8 * (7 * c) + 2) → Matching 0 rest
  match_start rest e = record { search = any_start (omega arith); left = e ∙ sym (div-one (m (8 * (7 * c) + 2))) }

  here : (i rest : ℕ) (t : Bool) → Matching i rest → t ≡ pair_differs (rest % 1024) (line m (7 * c + 1 + i)) → t ≡ differs_at i
  unfolding bit_differs pair_in
  here i rest t g e = e ∙ ap (λ (x : ℕ). pair_differs (x % 1024) (line m (7 * c + 1 + i))) g.left

  pub match_hit : (i rest : ℕ) (t : Bool) → Matching i rest → i < 6 → t ≡ pair_differs (rest % 1024) (line m (7 * c + 1 + i)) → t ≡ true
      → true ≡ bits_differ m c
  unfolding bits_differ
  match_hit i rest t g h e q = any_hit g.search h (here i rest t g e) q

  pub match_next : (i rest : ℕ) (t : Bool) → Matching i rest → i < 6 → t ≡ pair_differs (rest % 1024) (line m (7 * c + 1 + i)) → t ≡ false
      → Matching (i + 1) (rest / 1024)
  match_next i rest t g h e q =
      record {
        search = any_next g.search h (here i rest t g e) q;
        left =
            ap (λ (x : ℕ). x / 1024) g.left ∙ div-div-eq-div-mul (marked_line m c 2) (1024 ^ i) 1024
            ∙ ap (λ (x : ℕ). marked_line m c 2 / x) (sym (pow-suc 1024 i) ∙ ap (λ (x : ℕ). 1024 ^ x) (sym (add-one i)));
      }

  pub match_end : (i rest : ℕ) → Matching i rest → 6 ≤ i → false ≡ bits_differ m c
  unfolding bits_differ
  match_end i rest g h = any_end g.search h

-- ---- the number of a cell

module _ (k : ℕ) (m : ℕ → ℕ) (c : ℕ) where
  -- none: the marked line's version is not complete here
  pub no_number : (version_of (marked_line m c 7) % k ≡ c → Held m c (version_of (marked_line m c 7)) → ⊥) → 0 ≡ message_number k m c
  unfolding message_number
  no_number h = sym (go (split (eqb (version_of (marked_line m c 7) % k) c && holds_message m c (version_of (marked_line m c 7)))))
    where
      go : ((eqb (version_of (marked_line m c 7) % k) c && holds_message m c (version_of (marked_line m c 7))) ≡ true)
          ⊎ ((eqb (version_of (marked_line m c 7) % k) c && holds_message m c (version_of (marked_line m c 7))) ≡ false)
          → cond (eqb (version_of (marked_line m c 7) % k) c && holds_message m c (version_of (marked_line m c 7))) (version_of (marked_line m c 7)) 0 ≡ 0
      go (inl e) =
          let b = both_of (eqb (version_of (marked_line m c 7) % k) c) (holds_message m c (version_of (marked_line m c 7))) e in
          absurd (h (eqb-true (version_of (marked_line m c 7) % k) c b.0) (held m c (version_of (marked_line m c 7)) b.1))
      go (inr e) = pick_false _ _ _ e

  -- one: each test passed
  pub a_number : version_of (marked_line m c 7) % k ≡ c → Held m c (version_of (marked_line m c 7)) → version_of (marked_line m c 7) ≡ message_number k m c
  unfolding message_number
  a_number e d =
      sym (pick_true _ _ _ (both _ _ (eq-eqb (version_of (marked_line m c 7) % k) c e) (holding m c (version_of (marked_line m c 7)) d)))

  module _ (mark stamp : ℕ) (a : mark ≡ m (8 * (7 * c))) (b : stamp ≡ m (8 * (7 * c) + 7)) where
    mark_is : mark ≡ marked_line m c 0
    mark_is = a ∙ ap m (let z : 8 * (7 * c) ≡ 8 * (7 * c) + 0 = omega arith in z)

    version_is : stamp / 2 ≡ version_of (marked_line m c 7)
    version_is = ap (λ (x : ℕ). x / 2) b

    pub number_open : (mark ≡ stamp % 2 → ⊥) → 0 ≡ message_number k m c
    number_open ne =
        no_number (λ e d. ne (mark_is ∙ eqb-true (marked_line m c 0) (marked_line m c 7 % 2) d.is_whole ∙ ap (λ (x : ℕ). x % 2) (sym b)))

    pub number_zero : stamp / 2 ≡ 0 → 0 ≡ message_number k m c
    number_zero z = no_number (λ e d. omega (arith, d.low, version_is))

    pub number_elsewhere : (stamp / 2 % k ≡ c → ⊥) → 0 ≡ message_number k m c
    number_elsewhere ne = no_number (λ e d. ne (ap (λ (x : ℕ). x % k) version_is ∙ e))

    module _ (size : ℕ) (f : size ≡ m (8 * (7 * c) + 1)) where
      pub number_empty : size ≡ 0 → 0 ≡ message_number k m c
      number_empty z = no_number (λ e d. omega (arith, d.size_low, f))

      pub number_long : 384 < size → 0 ≡ message_number k m c
      number_long h = no_number (λ e d. omega (arith, d.size_high, f))

      module _ (t : Bool) (g : t ≡ bits_differ m c) where
        pub number_torn : t ≡ true → 0 ≡ message_number k m c
        number_torn q = no_number (λ e d. true-false (sym g ∙ q) d.bits)

        pub number_is : mark ≡ stamp % 2 → (stamp / 2 ≡ 0 → ⊥) → stamp / 2 % k ≡ c → (size ≡ 0 → ⊥) → size ≤ 384 → t ≡ false → stamp / 2 ≡ message_number k m c
        number_is w some place full short q =
            version_is
            ∙ a_number (ap (λ (x : ℕ). x % k) (sym version_is) ∙ place)
            (record {
              low = subst (λ (x : ℕ). 1 ≤ x) version_is (positive (stamp / 2) some);
              is_whole = eq-eqb (marked_line m c 0) (marked_line m c 7 % 2) (sym mark_is ∙ w ∙ ap (λ (x : ℕ). x % 2) b);
              version = refl;
              size_low = subst (λ (x : ℕ). 1 ≤ x) f (positive size full);
              size_high = subst (λ (x : ℕ). x ≤ 384) f short;
              bits = sym g ∙ q;
            })

  -- a number is the version of its cell
  number_within : message_number k m c ≤ version_of (marked_line m c 7)
  unfolding message_number
  number_within = go (eqb (version_of (marked_line m c 7) % k) c && holds_message m c (version_of (marked_line m c 7)))
    where
      go : (t : Bool) → cond t (version_of (marked_line m c 7)) 0 ≤ version_of (marked_line m c 7)
      go true = omega arith
      go false = omega arith

  -- so a version that is not above best leaves it
  pub not_greater : (stamp best : ℕ) → stamp ≡ m (8 * (7 * c) + 7) → stamp / 2 ≤ best → best ≡ max (message_number k m c) best
  not_greater stamp best e h = omega (arith, number_within, ap (λ (x : ℕ). x / 2) e)

-- ---- the highest

module _ (k : ℕ) (m : ℕ → ℕ) where
  -- the cells from c on are done: what is left, with best, is the whole
  pub record Raising (best c : ℕ) : Type 0 where
    pub left : c ≤ k
    pub rest : max (greatest (λ n. message_number k m (n - 1)) c) best ≡ highest k m

  pub raise_start : Raising 0 k
  unfolding highest
  raise_start = record { left = omega arith; rest = omega arith }

  pub raise_next : (best c d r : ℕ) → Raising best c → 0 < c → d ≡ c - 1 → r ≡ max (message_number k m d) best → Raising r d
  unfolding greatest
  raise_next best zero d r g h e f = absurd (omega arith)
  raise_next best (suc c) d r g h e f =
      record {
        left = omega (arith, g.left);
        rest = omega (arith, g.rest, f, ap (greatest (λ n. message_number k m (n - 1))) same, ap (message_number k m) e);
      }
    where
      same : d ≡ c
      same = omega arith

  pub raise_end : (best c : ℕ) → Raising best c → c ≤ 0 → best ≡ highest k m
  unfolding greatest
  raise_end best zero g h = omega (arith, g.rest)
  raise_end best (suc c) g h = absurd (omega arith)

-- ---- what is shown

module _ (k : ℕ) (m : ℕ → ℕ) (top s : ℕ) (e : top ≡ highest k m) where
  not_shown : in_window k top s ≡ false → false ≡ shown k m s
  unfolding shown
  not_shown q = sym (ap (λ (h : ℕ). in_window k h s && is_complete k m s) (sym e) ∙ ap (λ (t : Bool). t && is_complete k m s) q)

  pub shown_zero : s ≡ 0 → false ≡ shown k m s
  unfolding in_window
  shown_zero z = not_shown (ap (λ (t : Bool). t && leb s top && ltb (top - s) (k - 1)) (lt-leb 1 s (omega arith)))

  pub shown_high : top < s → false ≡ shown k m s
  unfolding in_window
  shown_high h = not_shown (falsity (leb 1 s) (leb s top) (ltb (top - s) (k - 1)) (lt-leb s top h))
    where
      falsity : (a b c : Bool) → b ≡ false → (a && b && c) ≡ false
      falsity true b c q = ap (λ (t : Bool). t && c) q
      falsity false b c q = refl

  pub shown_old : k - 1 ≤ top - s → false ≡ shown k m s
  unfolding in_window
  shown_old h = not_shown (falsity (leb 1 s && leb s top) (ltb (top - s) (k - 1)) (le-ltb (top - s) (k - 1) h))
    where
      falsity : (a b : Bool) → b ≡ false → (a && b) ≡ false
      falsity true b q = q
      falsity false b q = refl

  pub shown_by : (s ≡ 0 → ⊥) → s ≤ top → top - s < k - 1 → (number : ℕ) → number ≡ message_number k m (s % k) → eqb number s ≡ shown k m s
  unfolding shown in_window
  shown_by some high near number f =
      ap (λ (x : ℕ). eqb x s) f ∙ same_test (eqb (message_number k m (s % k)) s) (is_complete k m s) there back
      ∙ sym
      (ap (λ (h : ℕ). in_window k h s && is_complete k m s) (sym e)
      ∙ ap (λ (t : Bool). t && is_complete k m s) (both _ _ (both _ _ (le-leb 1 s (positive s some)) (le-leb s top high)) (lt-ltb (top - s) (k - 1) near)))
    where
      there : eqb (message_number k m (s % k)) s ≡ true → is_complete k m s ≡ true
      there q = go (number_known k m (s % k))
        where
          go : (message_number k m (s % k) ≡ 0) ⊎ (is_complete k m (message_number k m (s % k)) ≡ true) → is_complete k m s ≡ true
          go (inl z) = absurd (some (sym (eqb-true (message_number k m (s % k)) s q) ∙ z))
          go (inr d) = ap (is_complete k m) (sym (eqb-true (message_number k m (s % k)) s q)) ∙ d

      back : is_complete k m s ≡ true → eqb (message_number k m (s % k)) s ≡ true
      back q = eq-eqb (message_number k m (s % k)) s (number_of k m s q)
