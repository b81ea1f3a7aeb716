-- A program that does its duties: it flushes every line of the image before recovery, and the line of each store once,
-- with a fence after each.
use Rattle.std.specs.Prelude.{true, cond, List, [], ◌∷◌, ℕ, zero, suc, ◌+◌, ◌/◌}
use Rattle.stores.specs.Store.{Store}
use Rattle.prelude.specs.Filter.{is_among}
use Rattle.restart_machine.specs.Machine.{Duties}

-- the lines of these stores, each once
unfoldable pub store_lines : List Store → List ℕ
store_lines [] = []
store_lines (s ∷ ss) = cond (is_among (s.word / 8) (store_lines ss)) (store_lines ss) (s.word / 8 ∷ store_lines ss)

-- the lines 0 to k - 1
unfoldable pub lines_to : (k : ℕ) → List ℕ
lines_to zero = []
lines_to (suc k) = k ∷ lines_to k

-- every line that an image of this many bytes reaches
unfoldable pub all_lines : (len : ℕ) → List ℕ
all_lines len = lines_to ((len + 63) / 64)

unfoldable pub each_line : Duties
each_line =
    record {
      before_recovery = λ len. (all_lines len, true);
      after_recovery = λ ss. (store_lines ss, true);
      after_request = λ ss. (store_lines ss, true);
    }
