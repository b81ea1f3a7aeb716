-- Answers of `allocation_code::look::is_older_left_in`.
use mathlib.Core.Path.{◌≡◌, ◌∙◌}
use mathlib.Core.Bool.{Bool, true, false}
use Prim.Native.Nat.{ℕ}
use native.Mathlib.Omega.{arith}
use lib.ListN.{take}
use borrow.Author.Rules.{rules}
use Rattle.std.proofs.lemmas.Iterator.{cases_from_any, YieldsList-from_slice}
use Rattle.std.proofs.lemmas.Iterator.Adapters.{serves_from_places}
use Rattle.layout.specs.Content.{contents_of}
use Rattle.allocation.specs.inner.Takeable.{older_left}
use Rattle.layout.specs.inner.Inside.{SlotInside}
use Rattle.allocation.proofs.Tested.{any_by_cases, any_chosen, chosen_room}
use Rattle.allocation_code.proofs.look.is_older_left_in.Goals as goal

pub any-requires-clause-callable : goal.any-requires-clause-callable
any-requires-clause-callable c =
    serves_from_places (YieldsList-from_slice (take c.args.got c.args.slots) cc) (λ s q k. search rules)
    (λ s k h e.
    let inside : SlotInside c.args.image.now c.args.l s.now = record { layout = c.requires.0.layout; room = chosen_room _ _ _ c.requires.1 k s.now h e } in
    search (rules, inside))

pub returns : goal.returns
returns c =
    let p : ℕ → Bool = λ s. older_left (contents_of c.args.l c.args.image.now) s c.args.t in
    any_by_cases p (take c.args.got c.args.slots) _
    (cases_from_any _ _ _ (λ s. p s ≡ true) (λ s. p s ≡ false) c.any.ensures.ran (YieldsList-from_slice (take c.args.got c.args.slots) cc)
    (λ s q k. search rules) (λ s q k. search rules))
    ∙ any_chosen p c.args.slots c.args.got (omega (arith, c.requires.1.few))
