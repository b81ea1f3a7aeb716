-- The lookup of a call: its refusal, or where its key stands, with the count of slots compared.
use Rattle.std.specs.Prelude.{ℕ}
use Rattle.prelude.specs.Refusal.{unless_refused}
use Rattle.index.specs.declared.Found.{Found}
use Rattle.index.specs.declared.Found.TheVariants.{At, Missing, BadChain}
use Rattle.index.specs.declared.Place.TheVariants.{Held, NotHeld}
use Rattle.index.specs.declared.Lookup.{Lookup}
use Rattle.index.specs.declared.Lookup.TheVariants.{Refused, Accepted}

-- by what following the key's chain found: `fault` is the call's refusal, 0 for none, and not 0 for a bad chain
unfoldable pub lookup_by : (fault : ℕ) → Found → Lookup
lookup_by fault (At slot prev compared) = unless_refused fault (Accepted (Held slot prev) compared) (Refused fault compared)
lookup_by fault (Missing prev compared) = unless_refused fault (Accepted (NotHeld prev) compared) (Refused fault compared)
lookup_by fault BadChain = Refused fault 0
