-- The count of slots compared, in a sound world. Assumes nothing.
use mathlib.Core.Path.{◌≡◌, refl, sym, ◌∙◌, subst}
use mathlib.Core.Bool.{false}
use mathlib.Core.List.{List}
use Prim.Native.Nat.{ℕ, zero, suc, ◌≤◌}
use native.Mathlib.Omega.{arith}
use lib.ListN.{length}
use Rattle.prelude.specs.Refusal.{or_else, unless_refused}
use Rattle.prelude.proofs.Refusals.{or_else_zero, taken_leaves}
use Rattle.layout.specs.Size.{slots_in}
use Rattle.table.specs.Complete.{table_of}
use Rattle.table.proofs.defs.Keys.{keys_of}
use Rattle.table.proofs.Sharing.{keys_length, chain_keys}
use Rattle.index.specs.Index.{Chain, head, head_of, start, ahead}
use Rattle.index.specs.Walk.{slot_key, search, compared_in, Counted, chain_fault}
use Rattle.index.specs.declared.Found.{Found}
use Rattle.index.specs.declared.Found.TheVariants.{At, Missing, BadChain}
use Rattle.index.proofs.ChainLengths.{formed_linked}
use Rattle.index.proofs.Searches.{search_in_counted, counted_few}
use Rattle.calls.specs.Compared.{compared_after, key_compared}
use Rattle.calls.specs.Change.{write_compared}
use Rattle.calls.specs.Locate.{locate_fault}
use Rattle.calls.proofs.Reports.{write_reports, remove_reports, get_reports}
use Rattle.plainmap.specs.World.{call_result, reads_only, World, Call, write, remove, get, locate, call_key, chain_refusal}
use Rattle.plainmap.specs.Consistency.{IndexConsistent}
use Rattle.plainmap.specs.Claims.{slots_map, FewCompared, CountsPlace}
use Rattle.plainmap.proofs.Sees.{sound_chains, sound_search}

after_few : (lent : ℕ) (found : Found) (n : ℕ) → compared_in found ≤ n → compared_after lent found ≤ n
unfolding compared_after unless_refused
after_few zero found n h = h
after_few (suc k) found n h = omega arith

-- where neither what was lent nor the chain refuses a call it tells the search's count
after_told : (lent : ℕ) (found : Found) → lent ≡ 0 → compared_after lent found ≡ compared_in found
unfolding compared_after
after_told lent found z = taken_leaves _ _ lent z

-- and 0 where one of them does
after_none : (lent : ℕ) (found : Found) → (or_else lent (chain_fault found) ≡ 0 → ⊥) → compared_after lent found ≡ 0
unfolding compared_after compared_in chain_fault unless_refused or_else
after_none (suc k) found nz = refl
after_none zero (At slot prev compared) nz = absurd (nz refl)
after_none zero (Missing prev compared) nz = absurd (nz refl)
after_none zero BadChain nz = refl

module _ (l : ℕ) (w : World) (chains : Chain → List ℕ) (s : IndexConsistent l w chains) where
  -- THE COUNT is the place of the key in its chain, or the chain's whole length
  pub sound_counted : (key : ℕ)
      → Counted (slot_key l w.image) key (chains (head (head_of key (length w.index.heads)))) (search l w.image w.index.heads w.index.next key)
  sound_counted key = search_in_counted _ _ _ _ (sym (sound_search l w chains s key))

  few_by : (key lent : ℕ)
      → FewCompared (slots_map l w.image) (length w.index.heads) key (compared_after lent (search l w.image w.index.heads w.index.next key))
  few_by key lent =
      record {
        sharers = keys_of (table_of l w.image) (chains (head (head_of key (length w.index.heads))));
        share =
            chain_keys (table_of l w.image) (slots_in w.image) (λ k. head_of k (length w.index.heads)) (λ h. chains (head h))
            (sound_chains l w chains s) (slots_map l w.image) (λ k. refl) (head_of key (length w.index.heads));
        at_most =
            omega (
              arith,
              after_few lent _ _ (counted_few _ _ _ _ (sound_counted key)),
              keys_length (table_of l w.image) (chains (head (head_of key (length w.index.heads)))),
            );
      }

  -- IT IS NEVER ABOVE the number of held keys that share the head
  pub few_compared : (call : Call) → FewCompared (slots_map l w.image) (length w.index.heads) (call_key call) (call_result l w call).compared
  unfolding call_key call_result reads_only write_compared key_compared
  few_compared (write mode key value) = subst Few (sym (write_reports l w.image w.index key false mode value)) (few_by key _)
    where
      Few : ℕ → Type 0
      Few = FewCompared (slots_map l w.image) (length w.index.heads) key
  few_compared (remove key) = subst Few (sym (remove_reports l w.image w.index key false)) (few_by key _)
    where
      Few : ℕ → Type 0
      Few = FewCompared (slots_map l w.image) (length w.index.heads) key
  few_compared (get key out) = subst Few (sym (get_reports l w.image w.index.heads w.index.next key out)) (few_by key _)
    where
      Few : ℕ → Type 0
      Few = FewCompared (slots_map l w.image) (length w.index.heads) key
  few_compared (locate key) = few_by key _

  -- ---- the count that a call reports

  placed : (call : Call) (lent : ℕ) → chain_refusal l w call ≡ or_else lent (chain_fault (search l w.image w.index.heads w.index.next (call_key call)))
      → (call_result l w call).compared ≡ compared_after lent (search l w.image w.index.heads w.index.next (call_key call)) → CountsPlace l w call
  unfolding ahead start
  placed call lent refusal count =
      record {
        chain = chains (head (head_of (call_key call) (length w.index.heads)));
        linked = formed_linked _ _ chains (head (head_of (call_key call) (length w.index.heads))) s.index.formed.disjoint;
        counted = sound_counted (call_key call);
        reported = λ z. count ∙ after_told lent _ (or_else_zero lent _ (sym refusal ∙ z)).0;
        none_reported = λ nz. count ∙ after_none lent _ (λ z. nz (refusal ∙ z));
      }

  -- THE COUNT that a call reports is the place of its key in its chain, or the chain's whole length
  pub counts_place : (call : Call) → CountsPlace l w call
  unfolding call_key call_result reads_only chain_refusal write_compared key_compared locate_fault
  counts_place (write mode key value) = placed (write mode key value) _ refl (write_reports l w.image w.index key false mode value)
  counts_place (remove key) = placed (remove key) _ refl (remove_reports l w.image w.index key false)
  counts_place (get key out) = placed (get key out) _ refl (get_reports l w.image w.index.heads w.index.next key out)
  counts_place (locate key) = placed (locate key) _ refl refl
