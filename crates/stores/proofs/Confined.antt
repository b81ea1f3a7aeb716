-- Stores that write nothing, a record or an invalidating store into each slot leave the other slots, and no slot with a new fault. Assumes nothing.
use mathlib.Core.Path.{◌≡◌, refl, sym, ap, ◌∙◌}
use mathlib.Core.Bool.{cond}
use mathlib.Core.Logic.{◌⊎◌, inl, inr, ⊎_elim, by_cases}
use mathlib.Core.List.{List, [], ◌∷◌}
use Prim.Native.Nat.{ℕ, ◌+◌, ◌*◌, ◌/◌, ◌≤◌}
use native.Mathlib.Nat.{div-add-mod}
use native.Mathlib.Decide.{dec_lt, ℕ_discrete}
use native.Mathlib.Omega.{arith}
use lib.Dec.{ltb}
use lib.ListN.{length}
use borrow.Author.Tests.{lt-ltb, le-ltb}
use Rattle.prelude.proofs.Choice.{pick_true, pick_false}
use Rattle.prelude.specs.Members.{In}
use Rattle.layout.specs.Line.{line}
use Rattle.layout.specs.Fault.{record_fault}
use Rattle.stores.specs.Store.{Store, standing, on_line}
use Rattle.stores.specs.Written.{marked, body_a, body_b, run, line_stores}
use Rattle.stores.specs.Cut.{after_cut, Confined}
use Rattle.stores.proofs.defs.Cut.{Avoids, SlotStores, avoids, opens, carries}
use Rattle.stores.proofs.StandingStores.{line_out, all-stand}
use Rattle.stores.proofs.Line.{line_cut, marked_first}
use Rattle.stores.proofs.SlotStores.{spare_content, spare_number, spare_fault, carried_fault}
use Rattle.stores.proofs.Opened.{opened_fault, opened_mark}

-- ---- marks and words

mark_own : (counts m : ℕ → ℕ) (ss : List Store) (n version : ℕ) (body : ℕ → ℕ) → on_line n ss ≡ line_stores n (marked (line m n 7) version body)
    → line m n 0 ≤ 1 → line (after_cut counts ss m) n 0 ≤ 1
mark_own counts m ss n version body own h =
    by_cases (dec_lt 0 (counts n))
    (λ p. omega (arith, now ∙ pick_true (ltb 0 (counts n)) _ _ (lt-ltb 0 (counts n) p) ∙ marked_first (line m n 7) version body))
    (λ p. omega (arith, now ∙ pick_false (ltb 0 (counts n)) _ _ (le-ltb 0 (counts n) (omega arith))))
  where
    now : line (after_cut counts ss m) n 0 ≡ cond (ltb 0 (counts n)) (marked (line m n 7) version body 0) (line m n 0)
    now = line_cut counts m ss n (marked (line m n 7) version body) own 0

mark_off : (counts m : ℕ → ℕ) (ss : List Store) (n : ℕ) → on_line n ss ≡ [] → line m n 0 ≤ 1 → line (after_cut counts ss m) n 0 ≤ 1
mark_off counts m ss n none h = omega (arith, ap (λ (A : ℕ → ℕ). A 0) (line_out counts m ss n none))

word_off : (counts m : ℕ → ℕ) (ss : List Store) (i : ℕ) → on_line (i / 8) ss ≡ [] → after_cut counts ss m i ≡ m i
word_off counts m ss i none =
    ap (after_cut counts ss m) (sym (div-add-mod i 8)) ∙ ap (λ (A : ℕ → ℕ). A i) (line_out counts m ss (i / 8) none) ∙ ap m (div-add-mod i 8)

in_or_out : (t : ℕ) (l : List ℕ) → In t l ⊎ (In t l → ⊥)
in_or_out t [] = inr (λ i. i)
in_or_out t (x ∷ l) = go (in_or_out t l)
  where
    go : In t l ⊎ (In t l → ⊥) → In t (x ∷ l) ⊎ (In t (x ∷ l) → ⊥)
    go (inl i) = inl (inr i)
    go (inr o) = by_cases (ℕ_discrete t x) (λ e. inl (inl e)) (λ ne. inr (⊎_elim ne o))

-- ---- any stores

module _ (l : ℕ) (counts m : ℕ → ℕ) (ss : List Store) where
  mark_A : (s : ℕ) → SlotStores l m ss s → line m (2 * s) 0 ≤ 1 → line (after_cut counts ss m) (2 * s) 0 ≤ 1
  mark_A s (avoids none) h = mark_off counts m ss (2 * s) none.line_A h
  mark_A s (opens one) h = opened_mark l counts m ss s one h
  mark_A s (carries key kind number value version has fine good above) h =
      mark_own counts m ss (2 * s) version (body_a l key kind number value) has.line_A h

  mark_B : (s : ℕ) → SlotStores l m ss s → line m (2 * s + 1) 0 ≤ 1 → line (after_cut counts ss m) (2 * s + 1) 0 ≤ 1
  mark_B s (avoids none) h = mark_off counts m ss (2 * s + 1) none.line_B h
  mark_B s (opens one) h = mark_off counts m ss (2 * s + 1) one.line_B h
  mark_B s (carries key kind number value version has fine good above) h =
      mark_own counts m ss (2 * s + 1) version (body_b l value) has.line_B h

  fault_kept : (s : ℕ) → SlotStores l m ss s → record_fault l m s ≡ 0 → record_fault l (after_cut counts ss m) s ≡ 0
  fault_kept s (avoids none) h = spare_fault l counts m ss s none ∙ h
  fault_kept s (opens one) h = opened_fault l counts m ss s one h
  fault_kept s (carries key kind number value version has fine good above) h =
      carried_fault l counts m ss s key kind number value version has fine above good h

  mark_kept : (n s : ℕ) → n / 2 ≡ s → SlotStores l m ss s → line m n 0 ≤ 1 → line (after_cut counts ss m) n 0 ≤ 1
  mark_kept n s q how h =
      by_cases (ℕ_discrete n (2 * s)) (λ e. rw e (mark_A s how (rw e at h)))
      (λ ne. let e : n ≡ 2 * s + 1 = omega arith in rw e (mark_B s how (rw e at h)))

  line_free : (n s : ℕ) → n / 2 ≡ s → Avoids ss s → on_line n ss ≡ []
  line_free n s q none =
      by_cases (ℕ_discrete n (2 * s)) (λ e. ap (λ (k : ℕ). on_line k ss) e ∙ none.line_A)
      (λ ne. let e : n ≡ 2 * s + 1 = omega arith in ap (λ (k : ℕ). on_line k ss) e ∙ none.line_B)

  pub confined : (written : ℕ → Type 0) → ((t : ℕ) → (written t → ⊥) → Avoids ss t) → ((t : ℕ) → SlotStores l m ss t)
      → Confined l m (after_cut counts ss m) written
  confined written out how =
      record {
        others = λ t ne. spare_content l counts m ss t (out t ne);
        numbers = λ t ne. spare_number l counts m ss t (out t ne);
        elsewhere = λ i ne. word_off counts m ss i (line_free (i / 8) (i / 16) (omega arith) (out (i / 16) ne));
        marks = λ n h. mark_kept n (n / 2) refl (how (n / 2)) h;
        faults = λ t h. fault_kept t (how t) h;
      }

  -- ---- stores into the slots of a list

  module _ (slots : List ℕ) (out : (t : ℕ) → (In t slots → ⊥) → Avoids ss t) (into : (t : ℕ) → In t slots → SlotStores l m ss t) where
    into_each : (t : ℕ) → SlotStores l m ss t
    into_each t = go (in_or_out t slots)
      where
        go : In t slots ⊎ (In t slots → ⊥) → SlotStores l m ss t
        go (inl i) = into t i
        go (inr o) = avoids (out t o)

    pub confined_to : Confined l m (after_cut counts ss m) (λ t. In t slots)
    confined_to = confined (λ t. In t slots) out into_each

    few_on : (n s : ℕ) → n / 2 ≡ s → SlotStores l m ss s → length (on_line n ss) ≤ 8
    unfolding line_stores run
    few_on n s q (avoids none) = omega (arith, ap (λ (t : List Store). length t) (line_free n s q none))
    few_on n s q (opens one) =
        by_cases (ℕ_discrete n (2 * s)) (λ e. rw e (omega (arith, ap (λ (t : List Store). length t) one.line_A)))
        (λ ne. let e : n ≡ 2 * s + 1 = omega arith in rw e (omega (arith, ap (λ (t : List Store). length t) one.line_B)))
    few_on n s q (carries key kind number value version has fine good above) =
        by_cases (ℕ_discrete n (2 * s)) (λ e. rw e (omega (arith, ap (λ (t : List Store). length t) has.line_A)))
        (λ ne. let e : n ≡ 2 * s + 1 = omega arith in rw e (omega (arith, ap (λ (t : List Store). length t) has.line_B)))

    -- with a count of 8 for each line all of them stand
    pub eight_stand : standing (λ n. 8) ss ≡ ss
    eight_stand = all-stand ss (λ n. 8) (λ n. few_on n (n / 2) refl (into_each (n / 2)))
