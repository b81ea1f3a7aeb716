-- Answers of `calls_write_lookup_code::store::lookup_at`.
use mathlib.Core.Path.{◌≡◌, ap, sym, ◌∙◌}
use Prim.Native.Nat.{ℕ}
use borrow.Author.Rules.{rules}
use Rattle.index.specs.declared.Lookup.TheVariants.{Refused}
use Rattle.calls_write_lookup_code.proofs.store.lookup_at.Goals as goal

pub returns-in_default : goal.returns-in_default
returns-in_default g c =
    let some : c.store_fault.result ≡ 0 → ⊥ = search rules in
    record {
      accepted = λ e. absurd (some (c.store_fault.ensures.result ∙ e));
      refused = λ ne. ap (λ (k : ℕ). Refused k c.args.compared) c.store_fault.ensures.result;
    }
