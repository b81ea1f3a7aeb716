-- A lent list at whose front stores were put: laws.
use mathlib.Core.Path.{◌≡◌, refl, ap}
use mathlib.Core.List.{List, [], ◌∷◌, ◌++◌}
use Prim.Native.Nat.{ℕ, zero, suc, ◌≤◌, ◌<◌}
use native.Mathlib.Omega.{arith}
use lib.ListN.{length, get_or, set, take}
use Rattle.stores.specs.Store.{Store, zipped}
use Rattle.stores.specs.Play.{word_numbers, values}
use Rattle.stores.specs.inner.List.{stores_put}

pub put_none : (at words : List ℕ) (list : List Store) → stores_put at words 0 list ≡ list
unfolding zipped
put_none at words list = refl

pub put_length : (at words : List ℕ) (list : List Store) (i : ℕ) → i ≤ length list → i ≤ length at → i ≤ length words
    → length (stores_put at words i list) ≡ length list
unfolding zipped
put_length at words list zero h k m = refl
put_length [] words list (suc i) h k m = absurd (omega arith)
put_length (a ∷ at) [] list (suc i) h k m = absurd (omega arith)
put_length (a ∷ at) (w ∷ words) [] (suc i) h k m = absurd (omega arith)
put_length (a ∷ at) (w ∷ words) (s ∷ list) (suc i) h k m = ap suc (put_length at words list i (omega arith) (omega arith) (omega arith))

pub put_next : (at words : List ℕ) (list : List Store) (i : ℕ) → i < length list → i < length at → i < length words
    → set (stores_put at words i list) i (record { word = get_or at i 0; value = get_or words i 0 }) ≡ stores_put at words (suc i) list
unfolding zipped
put_next [] words list i h k m = absurd (omega arith)
put_next (a ∷ at) [] list i h k m = absurd (omega arith)
put_next (a ∷ at) (w ∷ words) [] i h k m = absurd (omega arith)
put_next (a ∷ at) (w ∷ words) (s ∷ list) zero h k m = refl
put_next (a ∷ at) (w ∷ words) (s ∷ list) (suc i) h k m =
    ap (λ (l : List Store). record { word = a; value = w } ∷ l) (put_next at words list i (omega arith) (omega arith) (omega arith))

-- ---- the stores that two lists name at their fronts

pub zipped-length : (at words : List ℕ) (k : ℕ) → k ≤ length at → k ≤ length words → length (zipped (take k at) (take k words)) ≡ k
unfolding zipped
zipped-length at words zero h m = refl
zipped-length [] words (suc k) h m = absurd (omega arith)
zipped-length (a ∷ at) [] (suc k) h m = absurd (omega arith)
zipped-length (a ∷ at) (w ∷ words) (suc k) h m = ap suc (zipped-length at words k (omega arith) (omega arith))

pub front_stores : (ss : List Store) (x x' y y' : List ℕ)
    → zipped (take (length ss) ((word_numbers ss ++ x) ++ x')) (take (length ss) ((values ss ++ y) ++ y')) ≡ ss
unfolding zipped word_numbers values
front_stores [] x x' y y' = refl
front_stores (s ∷ ss) x x' y y' = ap (λ (t : List Store). s ∷ t) (front_stores ss x x' y y')
