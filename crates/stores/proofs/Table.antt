-- THE TABLE LAW: what a record's stores make of the contents of the slots, whatever a cut leaves of them. Assumes nothing.
use mathlib.Core.Path.{◌≡◌, sym, ap₂, ◌∙◌, subst}
use mathlib.Core.Logic.{by_cases}
use mathlib.Core.List.{List, [], ◌++◌, append-nil}
use Prim.Native.Nat.{ℕ, ◌+◌, ◌*◌, ◌/◌, ◌<◌}
use native.Mathlib.Decide.{ℕ_discrete}
use native.Mathlib.Omega.{arith}
use Rattle.layout.specs.Content.{highest_whole}
use Rattle.stores.specs.Store.{Store, on_line}
use Rattle.stores.specs.Written.{record_stores}
use Rattle.stores.specs.Cut.{after_cut, Fields, Lawful, Written}
use Rattle.stores.proofs.defs.Cut.{Carries, Avoids, SlotStores, avoids, carries}
use Rattle.stores.proofs.Line.{on_append, own_stores, other_stores}
use Rattle.stores.proofs.SlotStores.{carried}
use Rattle.stores.proofs.Confined.{confined}

-- ---- the stores of one record

module _ (l : ℕ) (m : ℕ → ℕ) (s key kind number : ℕ) (value : List ℕ) (version : ℕ) where
  pub record_carries : Carries l m (record_stores l m s key kind number value version) s key kind number value version
  unfolding record_stores
  record_carries =
      record {
        line_A =
            on_append (2 * s) _ _ ∙
            ap₂ (λ (x y : List Store). x ++ y) (own_stores (2 * s) _) (other_stores (2 * s) (2 * s + 1) _ (λ e. omega arith)) ∙ append-nil _;
        line_B =
            on_append (2 * s + 1) _ _ ∙
            ap₂ (λ (x y : List Store). x ++ y) (other_stores (2 * s + 1) (2 * s) _ (λ e. omega arith)) (own_stores (2 * s + 1) _);
      }

  pub record_off : (n : ℕ) → (n / 2 ≡ s → ⊥) → on_line n (record_stores l m s key kind number value version) ≡ []
  unfolding record_stores
  record_off n h =
      on_append n _ _ ∙
      ap₂ (λ (x y : List Store). x ++ y)
      (other_stores n (2 * s) _ (λ (e : 2 * s ≡ n). h (omega arith))) (other_stores n (2 * s + 1) _ (λ (e : 2 * s + 1 ≡ n). h (omega arith)))

  pub record_spares : (t : ℕ) → (t ≡ s → ⊥) → Avoids (record_stores l m s key kind number value version) t
  record_spares t h =
      record {
        line_A = record_off (2 * t) (λ (e : 2 * t / 2 ≡ s). h (omega arith));
        line_B = record_off (2 * t + 1) (λ (e : (2 * t + 1) / 2 ≡ s). h (omega arith));
      }

-- THE TABLE LAW
pub table_law : (l : ℕ) (counts m : ℕ → ℕ) (s key kind number : ℕ) (value : List ℕ) (version : ℕ)
    → Fields l key kind number value → Lawful kind number value → highest_whole m s < version
    → Written l m (after_cut counts (record_stores l m s key kind number value version) m) s key kind number value version (counts (2 * s)) (counts (2 * s + 1))
table_law l counts m s key kind number value version fine good above =
    record {
      here = carried l counts m ss s key kind number value version has fine above;
      rest = confined l counts m ss (λ t. t ≡ s) (record_spares l m s key kind number value version) how;
    }
  where
    ss : List Store
    ss = record_stores l m s key kind number value version

    has : Carries l m ss s key kind number value version
    has = record_carries l m s key kind number value version

    how : (t : ℕ) → SlotStores l m ss t
    how t =
        by_cases (ℕ_discrete t s) (λ e. subst (SlotStores l m ss) (sym e) (carries key kind number value version has fine good above))
        (λ ne. avoids (record_spares l m s key kind number value version t ne))
