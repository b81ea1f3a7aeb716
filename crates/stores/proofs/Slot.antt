-- What a cut leaves of a slot whose two lines a record is written over: its content, its top, and no new fault. Assumes nothing.
use mathlib.Core.Path.{◌≡◌, refl, sym, ap, ap₂, ◌∙◌}
use mathlib.Core.Bool.{Bool, true, false, cond, true≢false}
use mathlib.Core.Logic.{◌⊎◌, inl, inr}
use mathlib.Core.List.{List}
use Prim.Native.Nat.{ℕ, ◌≤◌, ◌<◌}
use native.Mathlib.Omega.{arith}
use Rattle.prelude.proofs.Choice.{pick_false}
use Rattle.layout.specs.Line.{whole, version_of, whole_version}
use Rattle.layout.specs.Slot.{paired, highest_whole_of, line_verdict, is_valid}
use Rattle.layout.specs.Content.{content_of_record, content_of}
use Rattle.layout.specs.Fault.{fault_of}
use Rattle.layout.proofs.Content.{top_whole, top_open, unpaired, verdict_broken, broken_content}
use Rattle.stores.specs.Written.{marked, body_a, body_b, new_a, new_b}
use Rattle.stores.specs.Cut.{LineCut, untouched, torn, full, SlotCut, now-old, now-new, now-broken, Fields, Lawful}
use Rattle.stores.proofs.Line.{marked-whole, marked-version}
use Rattle.stores.proofs.Fields.{the_content, the_fault}

-- ---- a cut line's top

module _ (old now : ℕ → ℕ) (stamp version : ℕ) (body : ℕ → ℕ) (k : ℕ) where
  full_version : ((i : ℕ) → i < 8 → now i ≡ marked stamp version body i) → version_of (now 7) ≡ version
  full_version h = ap version_of (h 7 (omega arith)) ∙ marked-version stamp version body

  full_top : ((i : ℕ) → i < 8 → now i ≡ marked stamp version body i) → whole_version (now 0) (now 7) ≡ version
  full_top h =
      top_whole (now 0) (now 7) (ap₂ whole (h 0 (omega arith)) (h 7 (omega arith)) ∙ marked-whole stamp version body) ∙ full_version h

  cut_top : LineCut old (marked stamp version body) now k → whole_version (old 0) (old 7) < version → whole_version (now 0) (now 7) ≤ version
  cut_top (untouched z e) h = rw e (omega arith)
  cut_top (torn p q o) h = omega (arith, top_open (now 0) (now 7) o)
  cut_top (full p w) h = omega (arith, full_top w)

  cut_top_full : LineCut old (marked stamp version body) now k → 8 ≤ k → whole_version (now 0) (now 7) ≡ version
  cut_top_full (untouched z e) h = absurd (omega arith)
  cut_top_full (torn p q o) h = absurd (omega arith)
  cut_top_full (full p w) h = full_top w

  -- an old line that is whole has an older version
  older : now ≡ old → whole_version (old 0) (old 7) < version → whole (now 0) (now 7) ≡ true → version_of (now 7) < version
  older e h = rw e (λ w. omega (arith, top_whole (old 0) (old 7) w))

-- ---- a cut slot: lines A and B before, A' and B' after a stores on A and b on B

module _ (l key kind number : ℕ) (value : List ℕ) (version : ℕ) (fine : Fields l key kind number value) (A A' B B' : ℕ → ℕ) (stampA stampB a b : ℕ)
    (above : highest_whole_of A B < version)
    (cutA : LineCut A (new_a l stampA key kind number value version) A' a) (cutB : LineCut B (new_b l stampB value version) B' b) where
  above_A : whole_version (A 0) (A 7) < version
  unfolding highest_whole_of
  above_A = omega (arith, above)

  above_B : whole_version (B 0) (B 7) < version
  unfolding highest_whole_of
  above_B = omega (arith, above)

  below_A : whole_version (A' 0) (A' 7) ≤ version
  below_A = cut_top A A' stampA version (body_a l key kind number value) a cutA above_A

  below_B : whole_version (B' 0) (B' 7) ≤ version
  below_B = cut_top B B' stampB version (body_b l value) b cutB above_B

  pub slot_top : highest_whole_of A' B' ≤ version
  unfolding highest_whole_of
  slot_top = omega (arith, below_A, below_B)

  pub slot_top_full : (8 ≤ a) ⊎ (8 ≤ b) → highest_whole_of A' B' ≡ version
  unfolding highest_whole_of
  slot_top_full (inl h) = omega (arith, cut_top_full A A' stampA version (body_a l key kind number value) a cutA h, below_B)
  slot_top_full (inr h) = omega (arith, below_A, cut_top_full B B' stampB version (body_b l value) b cutB h)

  -- the three ways of a slot: as it was, the record, or no pair
  data Way : Type 0 where
    as_was : a ≡ 0 → b ≡ 0 → A' ≡ A → B' ≡ B → Way
    all_new : 8 ≤ a → 8 ≤ b → ((i : ℕ) → i < 8 → A' i ≡ new_a l stampA key kind number value version i)
        → ((i : ℕ) → i < 8 → B' i ≡ new_b l stampB value version i) → Way
    no_pair : (a ≡ 0 → b ≡ 0 → ⊥) → (8 ≤ a → 8 ≤ b → ⊥) → paired (A' 0) (A' 7) (B' 0) (B' 7) ≡ false → Way

  open_A : whole (A' 0) (A' 7) ≡ false → paired (A' 0) (A' 7) (B' 0) (B' 7) ≡ false
  open_A o = unpaired (A' 0) (A' 7) (B' 0) (B' 7) (λ x y r. true≢false (sym x ∙ o))

  open_B : whole (B' 0) (B' 7) ≡ false → paired (A' 0) (A' 7) (B' 0) (B' 7) ≡ false
  open_B o = unpaired (A' 0) (A' 7) (B' 0) (B' 7) (λ x y r. true≢false (sym y ∙ o))

  way : Way
  way = go cutA cutB
    where
      go : LineCut A (new_a l stampA key kind number value version) A' a → LineCut B (new_b l stampB value version) B' b → Way
      go (untouched z e) (untouched y f) = as_was z y e f
      go (full p u) (full q w) = all_new p q u w
      go (torn p q o) (untouched z e) = no_pair (λ x y. omega arith) (λ x y. omega arith) (open_A o)
      go (torn p q o) (torn p2 q2 o2) = no_pair (λ x y. omega arith) (λ x y. omega arith) (open_A o)
      go (torn p q o) (full p2 w) = no_pair (λ x y. omega arith) (λ x y. omega arith) (open_A o)
      go (untouched z e) (torn p q o) = no_pair (λ x y. omega arith) (λ x y. omega arith) (open_B o)
      go (full p w) (torn p2 q2 o) = no_pair (λ x y. omega arith) (λ x y. omega arith) (open_B o)
      go (full p w) (untouched z e) =
          no_pair (λ x y. omega arith) (λ x y. omega arith)
          (unpaired (A' 0) (A' 7) (B' 0) (B' 7)
          (λ x y r.
          omega (arith, older B B' stampB version (body_b l value) b e above_B y, full_version A A' stampA version (body_a l key kind number value) a w)))
      go (untouched z e) (full p w) =
          no_pair (λ x y. omega arith) (λ x y. omega arith)
          (unpaired (A' 0) (A' 7) (B' 0) (B' 7)
          (λ x y r.
          omega (arith, older A A' stampA version (body_a l key kind number value) a e above_A x, full_version B B' stampB version (body_b l value) b w)))

  pub slot_cut : SlotCut (content_of l A B) (content_of_record kind version key value) (content_of l A' B') version a b
  slot_cut = go way
    where
      go : Way → SlotCut (content_of l A B) (content_of_record kind version key value) (content_of l A' B') version a b
      go (as_was x y e f) = now-old x y (ap₂ (content_of l) e f)
      go (all_new x y u w) = now-new x y (the_content l stampA stampB key kind number value version fine A' B' u w (omega (arith, above)))
      go (no_pair x y e) = now-broken x y (highest_whole_of A' B') slot_top (broken_content l A' B' e)

  -- a slot without a fault stays so
  pub slot_fault : Lawful kind number value → cond (is_valid (line_verdict A B)) (fault_of l A B) 0 ≡ 0
      → cond (is_valid (line_verdict A' B')) (fault_of l A' B') 0 ≡ 0
  unfolding is_valid
  slot_fault good h = go way
    where
      either : (x : Bool) → ◌≡◌ {A = ℕ} (cond x 0 0) 0
      either true = refl
      either false = refl

      go : Way → cond (is_valid (line_verdict A' B')) (fault_of l A' B') 0 ≡ 0
      go (as_was x y e f) = ap₂ (λ (S T : ℕ → ℕ). cond (is_valid (line_verdict S T)) (fault_of l S T) 0) e f ∙ h
      go (all_new x y u w) =
          ap (λ (t : ℕ). cond (is_valid (line_verdict A' B')) t 0)
          (the_fault l stampA stampB key kind number value version fine A' B' u w good)
          ∙ either (is_valid (line_verdict A' B'))
      go (no_pair x y e) = pick_false (is_valid (line_verdict A' B')) _ _ (ap is_valid (verdict_broken A' B' e))
