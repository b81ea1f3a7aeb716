-- The state in lent numbers. Document 01, "The index": "A state beside them holds the reuse chain's first and last
-- slot, the live count and the next version".
use Rattle.std.specs.Prelude.{List, ℕ, get_or}
use Rattle.interface.specs.Set.{State}

-- first, last, live count and the newest slot stand in one lent slice, the next version in another
unfoldable pub state_from : (state version : List ℕ) → State
state_from state version =
    record {
      first = get_or state 0 0;
      last = get_or state 1 0;
      live = get_or state 2 0;
      newest = get_or state 3 0;
      version = get_or version 0 0;
    }
