-- All of the stores stand exactly where no line holds fewer than its own. Assumes nothing.
use mathlib.Core.Path.{◌≡◌, refl, sym, ap, ◌∙◌}
use mathlib.Core.Bool.{true, false}
use mathlib.Core.Logic.{◌⊎◌, inl, inr}
use mathlib.Core.List.{List, [], ◌∷◌}
use Prim.Native.Nat.{ℕ, ◌/◌, ◌≤◌, ◌<◌}
use native.Mathlib.Omega.{arith}
use lib.Dec.{eqb}
use lib.ListN.{length}
use borrow.Author.Tests.{eqb-true, eqb-false, ne_eqb}
use Rattle.prelude.proofs.Choice.{pick_true, pick_false, split, true-false, positive}
use Rattle.stores.specs.Store.{Store, less, standing, all_stand, on_line}
use Rattle.stores.proofs.StandingStores.{on_hit, on_miss, one_stands, less_own, less_other, on_few, first_counted}

-- where all stand the first does, and the others do with one fewer for its line
all_first : (counts : ℕ → ℕ) (s : Store) (ss : List Store) → all_stand counts (s ∷ ss) ≡ true
    → (counts (s.word / 8) ≡ 0 → ⊥) × (all_stand (less (s.word / 8) counts) ss ≡ true)
unfolding all_stand
all_first counts s ss e = go (split (eqb (counts (s.word / 8)) 0))
  where
    go : (eqb (counts (s.word / 8)) 0 ≡ true) ⊎ (eqb (counts (s.word / 8)) 0 ≡ false)
        → (counts (s.word / 8) ≡ 0 → ⊥) × (all_stand (less (s.word / 8) counts) ss ≡ true)
    go (inl z) = absurd (true-false e (pick_true (eqb (counts (s.word / 8)) 0) _ _ z))
    go (inr z) = (eqb-false _ 0 z, sym (pick_false (eqb (counts (s.word / 8)) 0) _ _ z) ∙ e)

pub all_standing : (counts : ℕ → ℕ) (ss : List Store) → all_stand counts ss ≡ true → standing counts ss ≡ ss
unfolding standing
all_standing counts [] e = refl
all_standing counts (s ∷ ss) e =
    let f = all_first counts s ss e in
    one_stands counts s ss f.0 ∙ ap (λ (t : List Store). s ∷ t) (all_standing (less (s.word / 8) counts) ss f.1)

-- ALL STAND: then each line holds all its stores
pub stand_lines : (counts : ℕ → ℕ) (ss : List Store) → all_stand counts ss ≡ true → (n : ℕ) → length (on_line n ss) ≤ counts n
unfolding on_line
stand_lines counts [] e n = omega arith
stand_lines counts (s ∷ ss) e n =
    let f = all_first counts s ss e in
    go (split (eqb (s.word / 8) n)) f.0 (stand_lines (less (s.word / 8) counts) ss f.1 n)
  where
    go : (eqb (s.word / 8) n ≡ true) ⊎ (eqb (s.word / 8) n ≡ false) → (counts (s.word / 8) ≡ 0 → ⊥)
        → length (on_line n ss) ≤ less (s.word / 8) counts n → length (on_line n (s ∷ ss)) ≤ counts n
    go (inl q) ne ih =
        let k = eqb-true _ n q in
        let some : 0 < counts n = positive (counts n) (λ z. ne (ap counts k ∙ z)) in
        omega (
          arith,
          ap (λ (t : List Store). length t) (on_hit n s ss k),
          ih,
          ap (λ (x : ℕ). less x counts n) k ∙ less_own n counts,
        )
    go (inr q) ne ih =
        let k = eqb-false _ n q in
        omega (
          arith,
          ap (λ (t : List Store). length t) (on_miss n s ss k),
          ih,
          less_other (s.word / 8) counts n (λ z. k (sym z)),
        )

-- and where each line holds all its stores, all stand
pub lines_stand : (counts : ℕ → ℕ) (ss : List Store) → ((n : ℕ) → length (on_line n ss) ≤ counts n) → all_stand counts ss ≡ true
unfolding all_stand
lines_stand counts [] h = refl
lines_stand counts (s ∷ ss) h =
    let f = first_counted s ss counts h in
    pick_false (eqb (counts (s.word / 8)) 0) _ _ (ne_eqb (counts (s.word / 8)) 0 f.0) ∙ lines_stand (less (s.word / 8) counts) ss f.1

-- so with as many for each line as there are stores, all stand
pub many_stand : (ss : List Store) → all_stand (λ n. length ss) ss ≡ true
many_stand ss = lines_stand (λ n. length ss) ss (λ n. on_few n ss)
