-- A value copied a word a step: the bytes of each word follow those before them. Assumes nothing.
use mathlib.Core.Path.{◌≡◌, refl, sym, ap, ap₂, ◌∙◌}
use mathlib.Core.List.{List, ◌++◌}
use Prim.Native.Nat.{ℕ, zero, suc, ◌+◌, ◌-◌, ◌*◌, ◌/◌, ◌%◌, ◌^◌, ◌≤◌, ◌<◌, min}
use native.Mathlib.Nat.{div-one, div-div-eq-div-mul, pow-succ', min-zero}
use native.Mathlib.Omega.{arith}
use lib.ListN.{length, drop, set}
use Rattle.words.specs.Word.{set_bytes}
use Rattle.prelude.specs.Range.{tabulate}
use Rattle.layout.specs.Record.{value_word, value_byte}
use Rattle.layout.specs.Moved.{words_moved}
use Rattle.prelude.proofs.Tabulate.{tabulate-set}

-- the front of a list is the values so far
abbrev pub Filled : (ℕ → ℕ) → (old : List ℕ) → (k : ℕ) → (out : List ℕ) → Type 0
Filled f old k out = out ≡ tabulate f 0 k ++ drop k old

module _ (f : ℕ → ℕ) (old : List ℕ) where
  filled_at : (k j : ℕ) (out : List ℕ) → k ≡ j → Filled f old k out → Filled f old j out
  filled_at k j out e filled = filled ∙ ap (λ (x : ℕ). tabulate f 0 x ++ drop x old) e

  -- n bytes of a word follow
  fill_bytes : (k n v : ℕ) (out : List ℕ) → k + n ≤ length old → ((j : ℕ) → j < n → v / 256 ^ j % 256 ≡ f (k + j))
      → Filled f old k out → Filled f old (k + n) (set_bytes out k n v)
  unfolding set_bytes
  fill_bytes k zero v out room digit filled = filled_at k (k + 0) out (omega arith) filled
  fill_bytes k (suc n) v out room digit filled =
      filled_at (suc k + n) (k + suc n) _ (omega arith)
      (fill_bytes (suc k) n (v / 256) (set out k (v % 256)) (omega arith) rest
      (filled_at (k + 1) (suc k) _ (omega arith) (tabulate-set f k old out (v % 256) (omega arith) filled first)))
    where
      first : v % 256 ≡ f k
      first = ap (λ (x : ℕ). x % 256) (sym (div-one v)) ∙ digit 0 (omega arith) ∙ ap f (omega arith)

      rest : (j : ℕ) → j < n → v / 256 / 256 ^ j % 256 ≡ f (suc k + j)
      rest j h =
          ap (λ (x : ℕ). x % 256) (div-div-eq-div-mul v 256 (256 ^ j) ∙ ap (λ (x : ℕ). v / x) (sym (pow-succ' 256 j)))
          ∙ digit (suc j) (omega arith) ∙ ap f (omega arith)

-- the bytes of word i of a value
word_digits : (l : ℕ) (A B : ℕ → ℕ) (i v : ℕ) → v ≡ value_word l A B i → (j : ℕ) → j < 8 → v / 256 ^ j % 256 ≡ value_byte l A B (8 * i + j)
unfolding value_byte
word_digits l A B i v e j h =
    ap (λ (x : ℕ). x / 256 ^ j % 256) e
    ∙ ap₂ (λ (x y : ℕ). value_word l A B x / 256 ^ y % 256) (let p : i ≡ (8 * i + j) / 8 = omega arith in p) (let q : j ≡ (8 * i + j) % 8 = omega arith in q)

-- ---- copy_value: out after i steps of moving n bytes over old
pub record Copied (f : ℕ → ℕ) (old : List ℕ) (n i : ℕ) (out : List ℕ) : Type 0 where
  pub count : 8 * i < n + 8
  pub filled : Filled f old (min n (8 * i)) out

pub copied_none : (f : ℕ → ℕ) (old : List ℕ) (n : ℕ) → Copied f old n 0 old
unfolding tabulate
copied_none f old n = record { count = omega arith; filled = filled_at f old 0 (min n 0) old (sym (min-zero n)) refl }

pub copied_next : (l : ℕ) (A B : ℕ → ℕ) (old : List ℕ) (n i : ℕ) (out : List ℕ) → n ≤ length old → 8 * i < n
    → Copied (value_byte l A B) old n i out → (next : ℕ) (after : List ℕ) → next ≡ i + 1
    → after ≡ set_bytes out (8 * i) (min 8 (n - 8 * i)) (value_word l A B i) → Copied (value_byte l A B) old n next after
copied_next l A B old n i out room h c next after e q =
    record {
      count = omega arith;
      filled =
          q
          ∙ filled_at (value_byte l A B) old (8 * i + min 8 (n - 8 * i)) (min n (8 * next)) _ (omega arith)
          (fill_bytes (value_byte l A B) old (8 * i) (min 8 (n - 8 * i)) (value_word l A B i) out (omega arith)
          (λ j p. word_digits l A B i (value_word l A B i) refl j (omega arith))
          (filled_at (value_byte l A B) old (min n (8 * i)) (8 * i) out (omega arith) c.filled));
    }

pub copied_all : (f : ℕ → ℕ) (old : List ℕ) (n i : ℕ) (out : List ℕ) → n ≤ 8 * i → Copied f old n i out → (i ≡ words_moved n) × Filled f old n out
copied_all f old n i out h c = (omega arith, filled_at f old (min n (8 * i)) n out (omega arith) c.filled)
