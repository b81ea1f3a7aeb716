-- Answers of `exports_basket_code::basket::answer_of`.
use mathlib.Core.Path.{◌∙◌, ap}
use mathlib.Core.List.{List, ◌∷◌}
use Prim.Native.Nat.{ℕ}
use borrow.Author.Rules.{rules}
use Rattle.exports.proofs.Basket.{eight_listed}
use Rattle.exports_basket_code.proofs.basket.answer_of.Goals as goal

pub returns : goal.returns
returns c =
    rw (
      c.slot_as_word.ensures,
      c.slot_as_word-2.ensures,
      c.slot_as_word-3.ensures,
      c.slot_as_word-4.ensures,
      c.slot_as_word-5.ensures,
      c.slot_as_word-6.ensures,
      c.slot_as_word-7.ensures,
      c.slot_as_word-8.ensures,
    )
    (ap (λ (xs : List ℕ). c.args.version ∷ xs) (eight_listed c.args.slots (search (rules, c.well_formed.1.0))))
