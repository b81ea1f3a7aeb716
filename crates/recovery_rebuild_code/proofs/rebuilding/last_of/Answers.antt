-- Answers of `recovery_rebuild_code::rebuilding::last_of`.
use mathlib.Core.Path.{◌≡◌, refl, ◌∙◌}
use mathlib.Core.List.{List, [], ◌∷◌}
use Prim.Native.Nat.{ℕ, ◌-◌}
use native.Mathlib.Omega.{arith}
use lib.ListN.{length, get_or}
use Rattle.std.proofs.lemmas.Grind.{common_steps}
use Rattle.index.specs.Chained.{last_of}
use Rattle.index.proofs.Chained.{last_at, last_none}
use Rattle.recovery_rebuild_code.proofs.rebuilding.last_of.Goals as goal

last_or_0 : (xs : List ℕ) → get_or xs (length xs - 1) 0 ≡ last_of xs
last_or_0 [] = last_none [] refl
last_or_0 (x ∷ xs) = last_at (x ∷ xs) (λ e. omega arith)

pub returns : goal.returns
returns c =
    let e : c.unwrap_or.result ≡ get_or c.args.order.now (length c.args.order.now - 1) 0 = grind (arith, common_steps) in
    e ∙ last_or_0 c.args.order.now
