-- The bytes of a list moved to its front, one after another. Assumes nothing.
use mathlib.Core.Path.{◌≡◌, refl, sym, ap, ◌∙◌}
use mathlib.Core.Logic.{by_cases}
use mathlib.Core.List.{List}
use Prim.Native.Nat.{ℕ, ◌+◌, ◌-◌, ◌≤◌, ◌<◌}
use native.Mathlib.Decide.{ℕ_discrete}
use native.Mathlib.Omega.{arith}
use lib.ListN.{length, get_or, set, length-set}
use lib.Seq.{get_or-set_same, get_or-set_other}

-- the first i bytes from position `from` on are at the front, and the bytes from i on are as they were
pub record Moving (old : List ℕ) (from n i : ℕ) (new : List ℕ) : Type 0 where
  pub upto : i ≤ n
  pub size : length new ≡ length old
  pub moved : (k : ℕ) → k < i → get_or new k 0 ≡ get_or old (from + k) 0
  pub kept : (k : ℕ) → i ≤ k → get_or new k 0 ≡ get_or old k 0

pub moving_start : (old : List ℕ) (from n : ℕ) → Moving old from n 0 old
moving_start old from n =
    record { upto = omega arith; size = refl; moved = λ k h. absurd (omega arith); kept = λ k h. refl }

pub moving_next : (old : List ℕ) (from n i : ℕ) (new : List ℕ) → Moving old from n i new → i < n → from + n ≤ length old
    → Moving old from n (i + 1) (set new i (get_or new (from + i) 0))
moving_next old from n i new g h fits =
    record {
      upto = omega arith;
      size = length-set new i _ ∙ g.size;
      moved =
          λ k l.
          by_cases (ℕ_discrete k i)
          (λ e.
          ap (λ (j : ℕ). get_or (set new i (get_or new (from + i) 0)) j 0) e ∙ get_or-set_same new i _ 0 (omega (arith, g.size))
          ∙ g.kept (from + i) (omega arith) ∙ ap (λ (j : ℕ). get_or old (from + j) 0) (sym e))
          (λ ne. get_or-set_other new i k _ 0 ne ∙ g.moved k (omega arith));
      kept = λ k l. get_or-set_other new i k _ 0 (λ e. omega arith) ∙ g.kept k (omega arith);
    }
