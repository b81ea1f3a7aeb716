-- Words and bytes: a word after a store (the same, another, length, range), and the bytes of a word. Assumes nothing.
use mathlib.Core.Path.{◌≡◌, refl, ap, ap₂, sym, ◌∙◌}
use mathlib.Core.List.{List}
use mathlib.Core.Logic.{◌≢◌, by_cases}
use Prim.Native.Nat.{ℕ, zero, suc, ◌+◌, ◌-◌, ◌*◌, ◌/◌, ◌%◌, ◌^◌, ◌≤◌, ◌<◌, min}
use native.Mathlib.Nat.{div-add-mod, pow-suc, pow-succ', div-one, div-lt_iff_lt-mul, div-div-eq-div-mul, mod-lt, zero-lt-suc}
use native.Mathlib.Decide.{dec_lt, ℕ_discrete}
use native.Mathlib.Omega.{arith}
use lib.ListN.{length, take, drop, get_or, set, length-set, get_or-eq_default}
use lib.Seq.{get_or-set_same, get_or-set_other, set_out, get_or-take, get_or-drop}
use Rattle.words.specs.Word.{AreBytes, word, set_bytes, set_word}

-- the number of the n bytes from a on
abbrev from : ℕ → List ℕ → ℕ → ℕ
from zero s a = 0
from (suc n) s a = get_or s a 0 + 256 * from n s (suc a)

bytes_length : (s : List ℕ) (k n v : ℕ) → length (set_bytes s k n v) ≡ length s
unfolding set_bytes
bytes_length s k zero v = refl
bytes_length s k (suc n) v = bytes_length (set s k (v % 256)) (suc k) n (v / 256) ∙ length-set s k (v % 256)

bytes_other : (s : List ℕ) (a n v k : ℕ) → (a ≤ k → k < a + n → ⊥) → get_or (set_bytes s a n v) k 0 ≡ get_or s k 0
unfolding set_bytes
bytes_other s a zero v k h = refl
bytes_other s a (suc n) v k h =
    bytes_other (set s a (v % 256)) (suc a) n (v / 256) k (λ p q. h (omega arith) (omega arith))
    ∙ get_or-set_other s a k (v % 256) 0 (λ e. h (omega arith) (omega arith))

-- one byte, and then the others
pub byte_next : (s : List ℕ) (at k n v : ℕ) → k < n → set_bytes s (at + k) (n - k) v
    ≡ set_bytes (set s (at + k) (v % 256)) (at + (k + 1)) (n - (k + 1)) (v / 256)
unfolding set_bytes
byte_next s at k n v h =
    let more : n - k ≡ suc (n - (k + 1)) = omega arith in
    let along : suc (at + k) ≡ at + (k + 1) = omega arith in
    ap (λ (x : ℕ). set_bytes s (at + k) x v) more ∙ ap (λ (x : ℕ). set_bytes (set s (at + k) (v % 256)) x (n - (k + 1)) (v / 256)) along

-- and no more
pub bytes_done : (s : List ℕ) (at k n v : ℕ) → n ≤ k → set_bytes s (at + k) (n - k) v ≡ s
unfolding set_bytes
bytes_done s at k n v h =
    let none : n - k ≡ 0 = omega arith in
    ap (λ (x : ℕ). set_bytes s (at + k) x v) none

from_same : (n : ℕ) (s t : List ℕ) (a : ℕ) → ((k : ℕ) → a ≤ k → k < a + n → get_or s k 0 ≡ get_or t k 0) → from n s a ≡ from n t a
from_same zero s t a h = refl
from_same (suc n) s t a h =
    let e : get_or s a 0 ≡ get_or t a 0 = h a (omega arith) (omega arith) in
    let f : from n s (suc a) ≡ from n t (suc a) = from_same n s t (suc a) (λ k p q. h k (omega arith) (omega arith)) in
    omega arith

from_bytes : (s : List ℕ) (a n v : ℕ) → a + n ≤ length s → v < 256 ^ n → from n (set_bytes s a n v) a ≡ v
unfolding set_bytes
from_bytes s a zero v h b = omega arith
from_bytes s a (suc n) v h b =
    let t : List ℕ = set s a (v % 256) in
    let e : get_or (set_bytes t (suc a) n (v / 256)) a 0 ≡ v % 256 =
    bytes_other t (suc a) n (v / 256) a (λ p q. omega arith) ∙ get_or-set_same s a (v % 256) 0 (omega arith)
    in
    let q : v / 256 < 256 ^ n = (div-lt_iff_lt-mul {k = 256} {x = v} {y = 256 ^ n} (omega arith)).1 (rw pow-suc at b) in
    let f : from n (set_bytes t (suc a) n (v / 256)) (suc a) ≡ v / 256 =
    from_bytes t (suc a) n (v / 256) (omega (arith, length-set s a (v % 256))) q
    in
    omega (arith, div-add-mod v 256)

-- the unary successors of an offset, which the recursions above count by
sucs : (a : ℕ)
    → (a + 1 ≡ suc a) × (a + 2 ≡ suc (suc a)) × (a + 3 ≡ suc (suc (suc a))) × (a + 4 ≡ suc (suc (suc (suc a))))
    × (a + 5 ≡ suc (suc (suc (suc (suc a))))) × (a + 6 ≡ suc (suc (suc (suc (suc (suc a))))))
    × (a + 7 ≡ suc (suc (suc (suc (suc (suc (suc a)))))))
sucs a = (omega arith, omega arith, omega arith, omega arith, omega arith, omega arith, omega arith)

word-from : (s : List ℕ) (i : ℕ) → word s i ≡ from 8 s (8 * i)
unfolding word
word-from s i =
    let e = sucs (8 * i) in
    rw (e.0, e.1, e.2, e.3, e.4, e.5, e.6) (omega arith)

-- the eight bytes of a word, one by one
pub bytes_written : (s : List ℕ) (i v : ℕ) →
    set (set (set (set (set (set (set (set s (8 * i) (v % 256)) (8 * i + 1) (v / 256 % 256)) (8 * i + 2) (v / 65536 % 256))
    (8 * i + 3) (v / 16777216 % 256)) (8 * i + 4) (v / 4294967296 % 256)) (8 * i + 5) (v / 1099511627776 % 256))
    (8 * i + 6) (v / 281474976710656 % 256)) (8 * i + 7) (v / 72057594037927936 % 256) ≡ set_word s i v
unfolding set_word set_bytes
bytes_written s i v =
    let e = sucs (8 * i) in
    simp (div-div-eq-div-mul, e.0, e.1, e.2, e.3, e.4, e.5, e.6)

-- word i of n bytes: a whole word, or the bytes that are left
pub bytes_whole : (s : List ℕ) (i n v : ℕ) → i < n / 8 → set_word s i v ≡ set_bytes s (8 * i) (min 8 (n - 8 * i)) v
unfolding set_word
bytes_whole s i n v h =
    let all : 8 ≡ min 8 (n - 8 * i) = omega arith in
    ap (λ (x : ℕ). set_bytes s (8 * i) x v) all

pub bytes_left : (s : List ℕ) (i n v : ℕ) → 8 * i ≤ n → n / 8 ≤ i → set_bytes s (n - n % 8) (n % 8) v ≡ set_bytes s (8 * i) (min 8 (n - 8 * i)) v
bytes_left s i n v room h =
    let start : n - n % 8 ≡ 8 * i = omega arith in
    let left : n % 8 ≡ min 8 (n - 8 * i) = omega arith in
    ap₂ (λ (x y : ℕ). set_bytes s x y v) start left

-- a store keeps the length
pub set_word-length : (s : List ℕ) (i v : ℕ) → length (set_word s i v) ≡ length s
unfolding set_word
set_word-length s i v = bytes_length s (8 * i) 8 v

-- the stored word is read back
pub word_same : (s : List ℕ) (i v : ℕ) → 8 * i + 8 ≤ length s → v < 2 ^ 64 → word (set_word s i v) i ≡ v
unfolding set_word
word_same s i v h b = word-from (set_word s i v) i ∙ from_bytes s (8 * i) 8 v h b

-- any other word stays
pub word_other : (s : List ℕ) (i j v : ℕ) → j ≢ i → word (set_word s i v) j ≡ word s j
unfolding set_word
word_other s i j v ne =
    word-from (set_word s i v) j
    ∙ from_same 8 (set_bytes s (8 * i) 8 v) s (8 * j)
    (λ k p q. bytes_other s (8 * i) 8 v k (λ x y. absurd (ne (between i j k p q x y))))
    ∙ sym (word-from s j)
  where
    between : (i j k : ℕ) → 8 * j ≤ k → k < 8 * j + 8 → 8 * i ≤ k → k < 8 * i + 8 → j ≡ i
    between i j k p q x y = omega arith

-- a word of bytes is below 2 ^ 64
pub word_range : (s : List ℕ) (i : ℕ) → AreBytes s → word s i < 2 ^ 64
unfolding word
word_range s i h =
    omega
    (arith, h (8 * i), h (8 * i + 1), h (8 * i + 2), h (8 * i + 3), h (8 * i + 4), h (8 * i + 5), h (8 * i + 6), h (8 * i + 7))

-- ---- bytes stay bytes

set-bytes : (s : List ℕ) (i v : ℕ) → AreBytes s → v < 256 → AreBytes (set s i v)
set-bytes s i v h b k =
    by_cases (ℕ_discrete k i)
    (λ e.
    by_cases (dec_lt i (length s))
    (λ p. rw e (omega (arith, get_or-set_same s i v 0 p)))
    (λ p. omega (arith, ap (λ (t : List ℕ). get_or t k 0) (set_out s i v (omega arith)), h k)))
    (λ ne. omega (arith, get_or-set_other s i k v 0 ne, h k))

set_bytes_bytes : (s : List ℕ) (k n v : ℕ) → AreBytes s → AreBytes (set_bytes s k n v)
unfolding set_bytes
set_bytes_bytes s k zero v h = h
set_bytes_bytes s k (suc n) v h =
    set_bytes_bytes (set s k (v % 256)) (suc k) n (v / 256) (set-bytes s k (v % 256) h (mod-lt v (zero-lt-suc 255)))

pub set_word_bytes : (s : List ℕ) (i v : ℕ) → AreBytes s → AreBytes (set_word s i v)
unfolding set_word
set_word_bytes s i v h = set_bytes_bytes s (8 * i) 8 v h

-- ---- the bytes of a word

from_head : (n : ℕ) (s : List ℕ) (a : ℕ) → get_or s a 0 < 256 → from (suc n) s a % 256 ≡ get_or s a 0
from_head n s a h = omega arith

from_tail : (n : ℕ) (s : List ℕ) (a : ℕ) → get_or s a 0 < 256 → from (suc n) s a / 256 ≡ from n s (suc a)
from_tail n s a h = omega arith

digit : (n j : ℕ) (s : List ℕ) (a : ℕ) → AreBytes s → j < n → from n s a / 256 ^ j % 256 ≡ get_or s (a + j) 0
digit zero j s a b h = absurd (omega arith)
digit (suc n) zero s a b h =
    ap (λ (x : ℕ). x % 256) (div-one (from (suc n) s a)) ∙ from_head n s a (b a) ∙ ap (λ (x : ℕ). get_or s x 0) (omega arith)
digit (suc n) (suc j) s a b h =
    ap (λ (x : ℕ). from (suc n) s a / x % 256) (pow-succ' 256 j)
    ∙ ap (λ (x : ℕ). x % 256) (sym (div-div-eq-div-mul (from (suc n) s a) 256 (256 ^ j)))
    ∙ ap (λ (x : ℕ). x / 256 ^ j % 256) (from_tail n s a (b a))
    ∙ digit n j s (suc a) b (omega arith) ∙ ap (λ (x : ℕ). get_or s x 0) (omega arith)

-- byte j of word i is byte 8 i + j
pub word_digit : (s : List ℕ) (i j : ℕ) → AreBytes s → j < 8 → word s i / 256 ^ j % 256 ≡ get_or s (8 * i + j) 0
word_digit s i j b h = ap (λ (x : ℕ). x / 256 ^ j % 256) (word-from s i) ∙ digit 8 j s (8 * i) b h

-- byte k stands in word k / 8
pub word_byte : (s : List ℕ) (k : ℕ) → AreBytes s → word s (k / 8) / 256 ^ (k % 8) % 256 ≡ get_or s k 0
word_byte s k b =
    word_digit s (k / 8) (k % 8) b (mod-lt k (zero-lt-suc 7)) ∙ ap (λ (x : ℕ). get_or s x 0) (div-add-mod k 8)

-- a word past the end is 0
pub word_past : (s : List ℕ) (i : ℕ) → length s ≤ 8 * i → word s i ≡ 0
unfolding word
word_past s i past =
    let zero_at : (k : ℕ) → 8 * i ≤ k → get_or s k 0 ≡ 0 = λ k far. get_or-eq_default s 0 {n = k} (omega (arith, past, far)) in
    omega (
      arith,
      zero_at (8 * i) (omega arith),
      zero_at (8 * i + 1) (omega arith),
      zero_at (8 * i + 2) (omega arith),
      zero_at (8 * i + 3) (omega arith),
      zero_at (8 * i + 4) (omega arith),
      zero_at (8 * i + 5) (omega arith),
      zero_at (8 * i + 6) (omega arith),
      zero_at (8 * i + 7) (omega arith),
    )

-- the words of a front
pub word-take : (s : List ℕ) (n i : ℕ) → 8 * i + 8 ≤ n → word (take n s) i ≡ word s i
unfolding word
word-take s n i h =
    omega (
      arith,
      get_or-take n s (8 * i) 0 (omega arith),
      get_or-take n s (8 * i + 1) 0 (omega arith),
      get_or-take n s (8 * i + 2) 0 (omega arith),
      get_or-take n s (8 * i + 3) 0 (omega arith),
      get_or-take n s (8 * i + 4) 0 (omega arith),
      get_or-take n s (8 * i + 5) 0 (omega arith),
      get_or-take n s (8 * i + 6) 0 (omega arith),
      get_or-take n s (8 * i + 7) 0 (omega arith),
    )

-- and of what follows a front
pub word-drop : (s : List ℕ) (k i : ℕ) → word (drop (8 * k) s) i ≡ word s (k + i)
unfolding word
word-drop s k i =
    omega (arith, byte (8 * i) (8 * (k + i)) (omega arith), at 1, at 2, at 3, at 4, at 5, at 6, at 7)
  where
    byte : (a b : ℕ) → 8 * k + a ≡ b → get_or (drop (8 * k) s) a 0 ≡ get_or s b 0
    byte a b e = get_or-drop (8 * k) s a 0 ∙ ap (λ (x : ℕ). get_or s x 0) e

    at : (j : ℕ) → get_or (drop (8 * k) s) (8 * i + j) 0 ≡ get_or s (8 * (k + i) + j) 0
    at j = byte (8 * i + j) (8 * (k + i) + j) (omega arith)
