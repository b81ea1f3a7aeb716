-- Two numbers that differ do so at the trailing zeros of their xor. Assumes nothing.
use mathlib.Core.Path.{◌≡◌, refl, sym, ap, ap₂, ◌∙◌, subst}
use mathlib.Core.Logic.{◌⊎◌, inl, inr, by_cases}
use Prim.Native.Nat.{ℕ, zero, suc, ◌+◌, ◌*◌, ◌/◌, ◌%◌, ◌^◌, ◌≤◌, ◌<◌}
use native.Mathlib.Nat.{zero-lt-suc, mod-lt, div-add-mod', div-one, pow-suc, mul_comm, div-div-eq-div-mul}
use native.Mathlib.Numerals.{add-one}
use native.Mathlib.Decide.{dec_lt}
use native.Mathlib.Omega.{arith}
use lib.Arith.{digits_mod, digits_div, lt-one}
use lib.Bits.{bit_xor, xor_step, differ}
use lib.Pow.{shr_lt}
use lib.Count.{count_trailing_zeros, trailing_le, under}
use Rattle.message_log.specs.Bit.{bit_at}

two_pos : zero < 2
two_pos = zero-lt-suc 1

half_lt_pow : {a : ℕ} (k : ℕ) → a < 2 ^ suc k → a / 2 < 2 ^ k
half_lt_pow {a} k h = shr_lt k 1 (subst (λ (x : ℕ). a < 2 ^ x) (sym (add-one k)) h)

differ_lt : (x y : ℕ) → x < 2 → y < 2 → differ x y < 2
differ_lt zero y hx hy = hy
differ_lt (suc zero) zero hx hy = hx
differ_lt (suc zero) (suc y) hx hy = omega arith
differ_lt (suc (suc x)) y hx hy = absurd (omega arith)

low : (a b : ℕ) → bit_xor a b % 2 ≡ differ (a % 2) (b % 2)
low a b = ap (λ (x : ℕ). x % 2) (xor_step a b) ∙ digits_mod (bit_xor (a / 2) (b / 2)) (differ_lt (a % 2) (b % 2) (mod-lt a two_pos) (mod-lt b two_pos))

half : (a b : ℕ) → bit_xor a b / 2 ≡ bit_xor (a / 2) (b / 2)
half a b = ap (λ (x : ℕ). x / 2) (xor_step a b) ∙ digits_div (bit_xor (a / 2) (b / 2)) (differ_lt (a % 2) (b % 2) (mod-lt a two_pos) (mod-lt b two_pos))

-- equal digits, or digits that differ
sides : (x y : ℕ) → x < 2 → y < 2 → ((x ≡ y) × (differ x y ≡ 0)) ⊎ ((x ≡ y → ⊥) × (differ x y ≡ 1))
sides zero zero hx hy = inl (refl, refl)
sides zero (suc zero) hx hy = inr ((λ e. omega (arith, e)), refl)
sides (suc zero) zero hx hy = inr ((λ e. omega (arith, e)), refl)
sides (suc zero) (suc zero) hx hy = inl (refl, refl)
sides (suc (suc x)) y hx hy = absurd (omega arith)
sides zero (suc (suc y)) hx hy = absurd (omega arith)
sides (suc zero) (suc (suc y)) hx hy = absurd (omega arith)

at_suc : (x i : ℕ) → bit_at x (suc i) ≡ bit_at (x / 2) i
unfolding bit_at
at_suc x i = ap (λ (n : ℕ). x / n % 2) (pow-suc 2 i ∙ mul_comm (2 ^ i) 2) ∙ ap (λ (n : ℕ). n % 2) (sym (div-div-eq-div-mul x 2 (2 ^ i)))

pub at_zero : (x : ℕ) → bit_at x zero ≡ x % 2
unfolding bit_at
at_zero x = ap (λ (n : ℕ). n % 2) (div-one x)

pub bit_low : (x i : ℕ) → bit_at x i < 2
unfolding bit_at
bit_low x i = mod-lt (x / 2 ^ i) two_pos

-- a and b differ at place t
abbrev pub DifferAt : (a b t : ℕ) → Type 0
DifferAt a b t = bit_at a t ≡ bit_at b t → ⊥

-- one digit of the count
count_step : (k a b d : ℕ) → differ (a % 2) (b % 2) ≡ d → count_trailing_zeros (suc k) (bit_xor a b)
    ≡ under d (count_trailing_zeros k (bit_xor (a / 2) (b / 2)))
unfolding count_trailing_zeros
count_step k a b d e = ap₂ (λ (x y : ℕ). under x (count_trailing_zeros k y)) (low a b ∙ e) (half a b)

now_apart : (a b : ℕ) → (a % 2 ≡ b % 2 → ⊥) → DifferAt a b zero
now_apart a b o h = o (sym (at_zero a) ∙ h ∙ at_zero b)

later : (a b t : ℕ) → DifferAt (a / 2) (b / 2) t → DifferAt a b (suc t)
later a b t r h = r (sym (at_suc a t) ∙ h ∙ at_suc b t)

-- numbers that differ differ at the lowest set digit of their xor
pub last_differs : (k a b : ℕ) → a < 2 ^ k → b < 2 ^ k → (a ≡ b → ⊥) → DifferAt a b (count_trailing_zeros k (bit_xor a b))
last_differs zero a b ha hb ne = absurd (ne (lt-one ha ∙ sym (lt-one hb)))
last_differs (suc k) a b ha hb ne =
    go (last_differs k (a / 2) (b / 2) (half_lt_pow k ha) (half_lt_pow k hb)) (sides (a % 2) (b % 2) (mod-lt a two_pos) (mod-lt b two_pos))
  where
    go : ((a / 2 ≡ b / 2 → ⊥) → DifferAt (a / 2) (b / 2) (count_trailing_zeros k (bit_xor (a / 2) (b / 2))))
        → ((a % 2 ≡ b % 2) × (differ (a % 2) (b % 2) ≡ 0)) ⊎ ((a % 2 ≡ b % 2 → ⊥) × (differ (a % 2) (b % 2) ≡ 1))
        → DifferAt a b (count_trailing_zeros (suc k) (bit_xor a b))
    go ih (inl (same, e)) =
        subst (DifferAt a b) (sym (count_step k a b 0 e))
        (later a b _ (ih (λ (q : a / 2 ≡ b / 2). ne (sym (div-add-mod' a 2) ∙ ap₂ (λ (x y : ℕ). x * 2 + y) q same ∙ div-add-mod' b 2))))
    go ih (inr (other, e)) = subst (DifferAt a b) (sym (count_step k a b 1 e)) (now_apart a b other)

-- a place above the width of both is no place where they differ
past : (k a : ℕ) → a < 2 ^ k → bit_at a k ≡ 0
unfolding bit_at
past zero a h = omega (arith, lt-one h, div-one a)
past (suc k) a h = at_suc a k ∙ past k (a / 2) (half_lt_pow k h)

-- so that digit is one of the k
pub last_place : (k a b : ℕ) → a < 2 ^ k → b < 2 ^ k → (a ≡ b → ⊥) → count_trailing_zeros k (bit_xor a b) < k
last_place k a b ha hb ne =
    by_cases (dec_lt (count_trailing_zeros k (bit_xor a b)) k) (λ h. h)
    (λ h.
    absurd
    (subst (DifferAt a b) (at-end (count_trailing_zeros k (bit_xor a b)) (trailing_le k (bit_xor a b)) h) (last_differs k a b ha hb ne)
    (past k a ha ∙ sym (past k b hb))))
  where
    at-end : (t : ℕ) → t ≤ k → (t < k → ⊥) → t ≡ k
    at-end t h n = by_cases (dec_lt t k) (λ l. absurd (n l)) (λ l. omega arith)
