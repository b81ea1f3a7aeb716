-- THE ONE INDUCTION over lists of events: what each event keeps holds throughout. Assumes nothing.
use mathlib.Core.List.{List, [], ◌∷◌}
use Rattle.prelude.specs.Members.{All, none_left, one_more}
use Rattle.prelude.specs.History.{Throughout}

module _ {S M E : Type 0} (next : S → E → S) (plainAfter : S → M → E → M) (Now : S → M → Type 0)
    (Right : S → M → E → Type 0) (Inv : S → M → Type 0) (FitsEvent : E → Type 0)
    (now : (s : S) (m : M) → Inv s m → Now s m)
    (right : (s : S) (m : M) → Inv s m → (event : E) → FitsEvent event → Right s m event)
    (keeps : (s : S) (m : M) → Inv s m → (event : E) → FitsEvent event → Inv (next s event) (plainAfter s m event)) where
  pub throughout : (s : S) (m : M) (events : List E) → Inv s m → All FitsEvent events → Throughout next plainAfter Now Right s m events
  throughout s m [] i none_left = now s m i
  throughout s m (event ∷ events) i (one_more f rest) = (
    now s m i,
    right s m i event f,
    throughout (next s event) (plainAfter s m event) events (keeps s m i event f) rest,
  )
