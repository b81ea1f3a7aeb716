-- Refusals in the order written. A refusal is its number of document 01 or 02, and 0 is none.
use Rattle.std.specs.Prelude.{Bool, true, false, ℕ, zero, suc}

-- k where the test holds; otherwise what comes after
unfoldable pub refuse_if : Bool → ℕ → ℕ → ℕ
refuse_if true k later = k
refuse_if false k later = later

-- the first refusal if there is one; otherwise what comes after
unfoldable pub or_else : ℕ → ℕ → ℕ
or_else zero later = later
or_else (suc k) later = suc k

module _ {A : Type 0} where
  -- what a call leaves: `new` where its refusal is 0, else `old`
  unfoldable pub unless_refused : ℕ → (new old : A) → A
  unless_refused zero new old = new
  unless_refused (suc k) new old = old
