-- The index of given chains. Document 01, "The index": "Records are chained by a next index, and zero ends the chain."
use Rattle.std.specs.Prelude.{cond, List, [], ◌∷◌, ℕ, zero, suc, ◌+◌, eqb}
use Rattle.prelude.specs.Range.{tabulate}
use Rattle.index.specs.Index.{Index, Chain, reuse, head}

-- the first slot of a chain, 0 if it has none
unfoldable pub first_of : List ℕ → ℕ
first_of [] = 0
first_of (x ∷ xs) = x

-- and the last
unfoldable pub last_of : List ℕ → ℕ
last_of [] = 0
last_of (x ∷ []) = x
last_of (x ∷ y ∷ xs) = last_of (y ∷ xs)

-- what follows slot s in a chain, 0 at its end
unfoldable pub after : (s : ℕ) → List ℕ → ℕ
after s [] = 0
after s (x ∷ xs) = cond (eqb x s) (first_of xs) (after s xs)

-- the next of slot s, which stands in chain `place s`; "entry 0 is 0"
unfoldable pub next_in : (chains : Chain → List ℕ) → (place : ℕ → Chain) → ℕ → ℕ
next_in chains place zero = 0
next_in chains place (suc s) = after (suc s) (chains (place (suc s)))

-- the index of n slots and b heads with these chains, this live count, next version and newest slot
unfoldable pub chained : (n b : ℕ) → (chains : Chain → List ℕ) → (place : ℕ → Chain) → (live version newest : ℕ) → Index
chained n b chains place live version newest =
    record {
      heads = tabulate (λ h. first_of (chains (head h))) 0 b;
      next = tabulate (next_in chains place) 0 (n + 1);
      state =
          record {
            first = first_of (chains reuse);
            last = last_of (chains reuse);
            live = live;
            version = version;
            newest = newest;
          };
    }
