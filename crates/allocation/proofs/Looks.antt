-- What one pass over the image tells of the slots that are chosen by a version that is none above the highest, and what the links alone tell. Assumes nothing.
use mathlib.Core.Path.{◌≡◌, refl, sym, ap, ap₂, ◌∙◌, subst}
use mathlib.Core.Bool.{Bool, true, false, cond, not, ◌&&◌, true≢false}
use mathlib.Core.List.{List, [], ◌∷◌}
use Prim.Native.Nat.{ℕ, zero, suc, ◌+◌, ◌-◌, ◌*◌, ◌%◌, ◌^◌, ◌≤◌, ◌<◌}
use native.Mathlib.Omega.{arith}
use lib.Dec.{eqb, ltb, leb}
use lib.ListN.{length, get_or, set, length-set}
use lib.Seq.{get_or-set_same, get_or-set_other}
use Rattle.std.specs.Bool.{MatchBool}
use Rattle.std.specs.List.{range_with_len, AllWithin}
use Rattle.std.proofs.lemmas.List.FromFn.{length-range_with_len, get_or-range_with_len}
use borrow.Author.Tests.{eq-eqb, ne_eqb, lt-ltb, le-ltb, eqb-true, eqb-false, ltb-true, ltb-false}
use Rattle.words.specs.Word.{word}
use Rattle.prelude.specs.Range.{any_of, greatest}
use Rattle.prelude.specs.Filter.{any_in}
use Rattle.prelude.specs.Members.{All, none_left, one_more, Slot}
use Rattle.prelude.specs.Refusal.{refuse_if, or_else}
use Rattle.prelude.proofs.Choice.{pick_true, pick_false, both_left, both_right, false_right, true-false, is_false}
use Rattle.prelude.proofs.Any.{any_clear_slot, or_none}
use Rattle.prelude.proofs.Refusals.{refuse_if-false, or_else_first, or_else_later}
use Rattle.prelude.proofs.Most.{greatest_least}
use Rattle.layout.specs.Line.{line_a}
use Rattle.layout.specs.Record.{Layout, kind_of, key_of, key_with}
use Rattle.layout.specs.Content.{Content, highest_whole_in, Table, content, contents_of}
use Rattle.layout.specs.inner.Key.{high_word}
use Rattle.layout.proofs.KeyWords.{key_parts, same_words}
use Rattle.index.specs.Allocation.{Taken, Allocation, taken, too_few, bad_link, with_taken, at_end, allocation_walk, allocate_from, link_fault, few_fault}
use Rattle.index.specs.Allocation.{ends_fault}
use Rattle.index.specs.Allocation.{reuse_fault, room_fault}
use Rattle.index.specs.inner.Basket.{takens_from}
use Rattle.index.proofs.Takens.{takens_each}
use Rattle.index.proofs.BasketInside.{TakenInside, taking_inside}
use Rattle.table.specs.Table.{is_record, key_in}
use Rattle.table.specs.Takeable.{highest_valid, is_remove, older, may_take, may_take_after, takeable_if}
use Rattle.table.proofs.Takeable.{older_record, older_key}
use Rattle.table.proofs.ReuseOrder.{remove_is_record}
use Rattle.allocation.specs.Allocation.{allocation_by_rule, allocation_chosen, may_take_below, own_allocation, allocation_by}
use Rattle.allocation.specs.inner.Walk.{take_fault, end_fault, ends_well}
use Rattle.allocation.specs.inner.Takeable.{slot_version, older_than, older_left}
use Rattle.allocation.specs.inner.Choice.{chosen_of, ChosenInside, Marked, ClearAt, Clear, Unrefused, Chosen}
use Rattle.allocation.specs.declared.Choice.{Choice}
use Rattle.allocation.proofs.Contents.{Holds, holds_none, holds_put, holds_remove, slot_holds, older_here}
use Rattle.allocation.proofs.Walks.{take_ended, take_above, take_over, with_fault, end-fault, end_good}
use Rattle.allocation.proofs.Takes.{highest_is, choice_fine}

-- ---- is_older_left: slot s has this kind

no_remove : (c : Content) → is_record c ≡ false → is_remove c ≡ false
no_remove c e = is_false (is_remove c) (λ r. true-false (remove_is_record c r) e)

module _ (l : ℕ) (m : ℕ → ℕ) (s t kind : ℕ) (k : kind ≡ kind_of (line_a m s (l + 1))) where
  abbrev f : Table
  f = content l m

  pub left_other : (kind ≡ 2 → ⊥) → false ≡ older_left f s t
  unfolding older_left is_remove
  left_other ne = sym (go (slot_holds l m s))
    where
      go : Holds (kind_of (line_a m s (l + 1))) (key_of l (line_a m s)) (slot_version m s) (f s) → is_remove (f s) && older f s t ≡ false
      go (holds_none z e) = ap (λ (b : Bool). b && older f s t) (no_remove (f s) e)
      go (holds_put value nz p e) = ap (λ (c : Content). is_remove c && older f s t) e
      go (holds_remove nz p e) = absurd (ne (k ∙ p))

  pub left_remove : Layout l → kind ≡ 2 → (v : ℕ) → v ≡ slot_version m s → (x y : ℕ) → x ≡ line_a m s 1 → y ≡ high_word l (line_a m s) → (b : Bool)
      → b ≡ older_than f (key_with x y) v t → b ≡ older_left f s t
  unfolding older_left is_remove older_than
  left_remove lay q v g x y p w b a =
      a ∙ ap₂ (λ (key version : ℕ). older_than f key version t) (ap₂ key_with p w ∙ sym (key_parts l (line_a m s) lay)) g ∙ go (slot_holds l m s)
    where
      nothing : (a b : Bool) → a && (b && false) ≡ false
      nothing a b = false_right a (b && false) (false_right b false refl)

      go : Holds (kind_of (line_a m s (l + 1))) (key_of l (line_a m s)) (slot_version m s) (f s)
          → older_than f (key_of l (line_a m s)) (slot_version m s) t ≡ is_remove (f s) && older f s t
      go (holds_none z e) =
          ap (λ (version : ℕ). older_than f (key_of l (line_a m s)) version t) z
          ∙ ap (λ (c : Bool). is_record (f t) && (eqb (key_in (f t)) (key_of l (line_a m s)) && c)) (le-ltb (highest_whole_in (f t)) 0 (omega arith))
          ∙ nothing (is_record (f t)) (eqb (key_in (f t)) (key_of l (line_a m s)))
          ∙ sym (ap (λ (c : Bool). c && older f s t) (no_remove (f s) e))
      go (holds_put value nz u e) = absurd (u (sym k ∙ q))
      go (holds_remove nz u e) =
          older_here f s _ _ _ (holds_remove nz u e) 0 0 false nz u t ∙ sym (ap (λ (c : Content). is_remove c && older f s t) e)

-- ---- the marks: where that of a slot's low key word is not set, the slot has no key that is looked for

module _ (l : ℕ) (m : ℕ → ℕ) (lay : Layout l) (range : (i : ℕ) → m i < 2 ^ 64) where
  held_key : (s : ℕ) → is_record (content l m s) ≡ true → key_in (content l m s) ≡ key_of l (line_a m s)
  unfolding key_in is_record
  held_key s r = go (slot_holds l m s)
    where
      go : Holds (kind_of (line_a m s (l + 1))) (key_of l (line_a m s)) (slot_version m s) (content l m s) → key_in (content l m s) ≡ key_of l (line_a m s)
      go (holds_none z e) = absurd (true-false r e)
      go (holds_put value nz k e) = ap key_in e
      go (holds_remove nz k e) = ap key_in e

  same_low : (s t : ℕ) → older_left (content l m) s t ≡ true → line_a m t 1 ≡ line_a m s 1
  unfolding older_left
  same_low s t e =
      let o = both_right (is_remove (content l m s)) (older (content l m) s t) e in
      let r = remove_is_record (content l m s) (both_left (is_remove (content l m s)) (older (content l m) s t) e) in
      (same_words (line_a m t 1) (high_word l (line_a m t)) (line_a m s 1) (high_word l (line_a m s)) (range _) (range _)
      (sym (key_parts l (line_a m t) lay) ∙ sym (held_key t (older_record (content l m) s t o)) ∙ older_key (content l m) s t o ∙ held_key s r
      ∙ key_parts l (line_a m s) lay)).0

  pub unmarked : (slots marks : List ℕ) (k t low : ℕ) → Marked m slots marks k → low ≡ line_a m t 1 → get_or marks (low % 4096) 0 ≡ 0
      → any_in (λ s. older_left (content l m) s t) (chosen_of slots k) ≡ false
  unfolding any_in chosen_of
  unmarked slots marks zero t low w e z = refl
  unmarked slots marks (suc k) t low w e z =
      pick_false _ _ _
      (is_false (older_left (content l m) (get_or slots k 0) t)
      (λ o.
      omega (arith, sym z ∙ ap (λ (x : ℕ). get_or marks (x % 4096) 0) (e ∙ same_low (get_or slots k 0) t o) ∙ w.each k (omega arith))))
      ∙ unmarked slots marks k t low (record { size = w.size; each = λ j h. w.each j (omega arith) }) e z

-- ---- is_left: b tells whether the version v of the slot is above the one that is known
pub not_above : (strict b : Bool) (known v : ℕ) → b ≡ strict && ltb known v → b ≡ false → strict ≡ true → v ≤ known
not_above strict b known v e f q = ltb-false known v (sym (ap (λ (x : Bool). x && ltb known v) q) ∙ sym e ∙ f)

-- ---- the pass: each of the slots 1 to n is clear, or it ends at the first that is not

pub clear_by_pass_over : (l : ℕ) (image slots : List ℕ) (k known : ℕ) (strict : Bool) (n : ℕ) (Hit : Type 0) (r : Bool)
    → MatchBool r Hit (AllWithin (ClearAt l image slots k known strict) (range_with_len 1 n) 0 (length (range_with_len 1 n))) → r ≡ false
    → Clear l image slots k known strict n
clear_by_pass_over l image slots k known strict n Hit true h e t i = absurd (true≢false e)
clear_by_pass_over l image slots k known strict n Hit false h e t i =
    let low : t - 1 < length (range_with_len 1 n) = omega (arith, length-range_with_len 1 n) in
    let at : get_or (range_with_len 1 n) (t - 1) 0 ≡ t = get_or-range_with_len 1 n (t - 1) 0 (omega arith) ∙ omega arith in
    subst (ClearAt l image slots k known strict) at (h (t - 1) 0 (omega arith) low)

-- ---- slots that one test takes and another one may take too: the walk by the other is not refused

-- what is taken has the property
abbrev AllTaken : (P : ℕ → Type 0) → Allocation → Type 0
AllTaken P (taken ts) = All (λ (t : Taken). P t.slot) ts
AllTaken P too_few = ⊥
AllTaken P bad_link = ⊥

with-all : (P : ℕ → Type 0) (slot prev : ℕ) (t : Allocation) → AllTaken P (with_taken slot prev t) → P slot × AllTaken P t
unfolding with_taken
with-all P slot prev (taken ts) (one_more h hs) = (h, hs)
with-all P slot prev too_few a = absurd a
with-all P slot prev bad_link a = absurd a

takens_all : (P : ℕ → Type 0) (slots prevs : List ℕ) (i n : ℕ) → ((j : ℕ) → i ≤ j → j < i + n → P (get_or slots j 0))
    → All (λ (t : Taken). P t.slot) (takens_from slots prevs i n)
unfolding takens_from
takens_all P slots prevs i zero h = none_left
takens_all P slots prevs i (suc n) h =
    one_more (h i (omega arith) (omega arith)) (takens_all P slots prevs (suc i) n (λ j a b. h j (omega arith) (omega arith)))

module _ (p : ℕ → Bool) (q : List ℕ → ℕ → Bool) (next : List ℕ) (n : ℕ) (Good : ℕ → Type 0)
    (wider : (chosen : List ℕ) (s : ℕ) → Good s → q chosen s ≡ true → p s ≡ true) where
  -- the walk by p
  abbrev wide : (left fewer prev at : ℕ) → (chosen : List ℕ) → ℕ
  wide left fewer prev at chosen = take_fault (allocation_walk (λ c. p) next n left fewer prev at chosen)

  turn : (may : List ℕ → ℕ → Bool) (left wanted prev at : ℕ) (chosen : List ℕ) → (at ≡ 0 → ⊥) → at ≤ n → 0 < wanted
      → allocation_walk may next n (suc left) wanted prev at chosen
      ≡ cond (may chosen at) (with_taken at prev (allocation_walk may next n left (wanted - 1) prev (get_or next at 0) (at ∷ chosen)))
      (allocation_walk may next n left wanted at (get_or next at 0) chosen)
  unfolding allocation_walk
  turn may left wanted prev at chosen low high some =
      pick_false (eqb at 0) _ _ (ne_eqb at 0 low) ∙ pick_false (ltb n at) _ _ (le-ltb n at high)
      ∙ pick_false (eqb wanted 0) _ _ (ne_eqb wanted 0 (λ e. omega arith))

  module _ (left wanted prev at : ℕ) (chosen : List ℕ) (a : AllTaken Good (allocation_walk q next n left wanted prev at chosen)) where
    at_high : at ≤ n
    at_high = go (ltb n at) refl
      where
        go : (b : Bool) → ltb n at ≡ b → at ≤ n
        go true e = absurd (subst (AllTaken Good) (take_above q next n left wanted prev at chosen (ltb-true n at e)) a)
        go false e = ltb-false n at e

    link_fine : end_fault n left at ≡ 0
    unfolding end_fault refuse_if
    link_fine = go (eqb at 0) refl (eqb left 0) refl
      where
        go : (b : Bool) → eqb at 0 ≡ b → (c : Bool) → eqb left 0 ≡ c → end_fault n left at ≡ 0
        go true e c z = ap (λ (x : Bool). refuse_if x 0 (refuse_if (ltb n at) 11 (refuse_if (eqb left 0) 11 0))) e
        go false e true z = absurd (subst (AllTaken Good) (take_over q next n left wanted prev at chosen (eqb-true left 0 z) (eqb-false at 0 e)) a)
        go false e false z = end_good n left at (omega (arith, eqb-false left 0 z)) at_high

    module _ (some : 0 < wanted) where
      at_low : at ≡ 0 → ⊥
      at_low z = subst (AllTaken Good) (take_ended q next n left wanted prev at chosen z some) a

      met_some : left ≡ 0 → ⊥
      met_some z = subst (AllTaken Good) (take_over q next n left wanted prev at chosen z at_low) a

  none_wanted : (left wanted fewer prev prev' at : ℕ) (chosen chosen' : List ℕ) → fewer ≡ 0
      → AllTaken Good (allocation_walk q next n left wanted prev at chosen)
      → wide left fewer prev' at chosen' ≡ 0
  none_wanted left wanted fewer prev prev' at chosen chosen' z a =
      ap (λ (v : ℕ). wide left v prev' at chosen') z ∙ end-fault (λ c. p) next n left prev' at chosen' ∙ link_fine left wanted prev at chosen a

  pub taken_fine : (left wanted fewer prev prev' at : ℕ) (chosen chosen' : List ℕ) → fewer ≤ wanted
      → AllTaken Good (allocation_walk q next n left wanted prev at chosen)
      → wide left fewer prev' at chosen' ≡ 0
  taken_fine zero wanted fewer prev prev' at chosen chosen' less a = go (eqb fewer 0) refl
    where
      go : (b : Bool) → eqb fewer 0 ≡ b → wide 0 fewer prev' at chosen' ≡ 0
      go true e = none_wanted 0 wanted fewer prev prev' at chosen chosen' (eqb-true fewer 0 e) a
      go false e = absurd (met_some zero wanted prev at chosen a (omega (arith, eqb-false fewer 0 e)) refl)
  taken_fine (suc left) wanted zero prev prev' at chosen chosen' less a = none_wanted (suc left) wanted 0 prev prev' at chosen chosen' refl a
  taken_fine (suc left) wanted (suc fewer) prev prev' at chosen chosen' less a =
      go (q chosen at) refl (p at) refl
      (subst (AllTaken Good) (turn q left wanted prev at chosen low high (omega arith)) a)
      (λ w g pr c h b. taken_fine left w g pr prev' (get_or next at 0) c (at ∷ chosen') h b)
      (λ w g pr c h b. taken_fine left w g pr at (get_or next at 0) c chosen' h b)
    where
      low : at ≡ 0 → ⊥
      low = at_low (suc left) wanted prev at chosen a (omega arith)

      high : at ≤ n
      high = at_high (suc left) wanted prev at chosen a

      link : ℕ
      link = get_or next at 0

      turned : wide (suc left) (suc fewer) prev' at chosen'
          ≡ take_fault (cond (p at) (with_taken at prev' (allocation_walk (λ c. p) next n left (suc fewer - 1) prev' link (at ∷ chosen')))
          (allocation_walk (λ c. p) next n left (suc fewer) at link chosen'))
      turned = ap take_fault (turn (λ c. p) left (suc fewer) prev' at chosen' low high (omega arith))

      took : p at ≡ true → wide left fewer prev' link (at ∷ chosen') ≡ 0 → wide (suc left) (suc fewer) prev' at chosen' ≡ 0
      took b r =
          let d : suc fewer - 1 ≡ fewer = omega arith in
          turned ∙ ap take_fault (pick_true (p at) _ _ b) ∙ with_fault at prev' _ ∙ ap (λ (v : ℕ). wide left v prev' link (at ∷ chosen')) d ∙ r

      passed : p at ≡ false → wide left (suc fewer) at link chosen' ≡ 0 → wide (suc left) (suc fewer) prev' at chosen' ≡ 0
      passed b r = turned ∙ ap take_fault (pick_false (p at) _ _ b) ∙ r

      go : (x : Bool) → q chosen at ≡ x → (y : Bool) → p at ≡ y
          → AllTaken Good (cond (q chosen at) (with_taken at prev (allocation_walk q next n left (wanted - 1) prev link (at ∷ chosen)))
          (allocation_walk q next n left wanted at link chosen))
          → ((w g pr : ℕ) (c : List ℕ) → g ≤ w → AllTaken Good (allocation_walk q next n left w pr link c) → wide left g prev' link (at ∷ chosen') ≡ 0)
          → ((w g pr : ℕ) (c : List ℕ) → g ≤ w → AllTaken Good (allocation_walk q next n left w pr link c) → wide left g at link chosen' ≡ 0)
          → wide (suc left) (suc fewer) prev' at chosen' ≡ 0
      go true x b y all on over =
          let r = with-all Good at prev _ (subst (AllTaken Good) (pick_true (q chosen at) _ _ x) all) in
          took (wider chosen at r.0 x) (on (wanted - 1) fewer prev (at ∷ chosen) (omega arith) r.1)
      go false x true y all on over = took y (on wanted fewer at chosen (omega arith) (subst (AllTaken Good) (pick_false (q chosen at) _ _ x) all))
      go false x false y all on over = passed y (over wanted (suc fewer) at chosen less (subst (AllTaken Good) (pick_false (q chosen at) _ _ x) all))

-- ---- the slots that are chosen by the version that is known, with no older record left: not refused

-- they are slots of the image
pub choice_inside : (image next : List ℕ) (n first wanted : ℕ) (may : List ℕ → ℕ → Bool) (r : Choice) → length image ≡ 128 * (n + 1) → wanted ≤ 8
    → Chosen (allocate_from may next n first wanted) (allocate_from may next n first wanted) wanted r → r.fault ≡ 0 → ChosenInside image r.slots wanted
choice_inside image next n first wanted may r size few ch z =
    record {
      few = few;
      inside =
          λ j h.
          omega (
            arith,
            size,
            (takens_each (TakenInside n) r.slots r.prevs 0 wanted (taking_inside may next n first wanted _ (ch.slots_are z)).0 j (omega arith)
                (omega arith)
                ).slot_high,
          );
    }

module _ (l : ℕ) (image : List ℕ) (n top : ℕ) (bounded : top ≤ greatest (slot_version (word image)) n) where
  -- no older record of the key of a remove record in slot s is left
  abbrev NoneLeft : ℕ → Type 0
  NoneLeft s = (t : ℕ) → Slot n t → older_left (contents_of l image) s t ≡ false

  surely_below : (chosen : List ℕ) (s : ℕ) → NoneLeft s → may_take_below l image top chosen s ≡ true → may_take (contents_of l image) n s ≡ true
  unfolding may_take_below may_take takeable_if older_left
  surely_below chosen s none e =
      go (is_record (contents_of l image s)) (is_remove (contents_of l image s)) refl (any_in (older (contents_of l image) s) chosen) e
    where
      T : ℕ
      T = highest_valid (contents_of l image) n

      v : ℕ
      v = highest_whole_in (contents_of l image s)

      below : ltb v top ≡ true → ltb v T ≡ true
      below h = lt-ltb v T (omega (arith, ltb-true v top h, bounded, highest_is l (word image) n))

      go : (a r : Bool) → is_remove (contents_of l image s) ≡ r → (d : Bool) → cond a (ltb v top && not (r && d)) true ≡ true
          → cond a (ltb v T && not (r && any_of (older (contents_of l image) s) 1 n)) true ≡ true
      go false r x d h = refl
      go true false x d h = ap (λ (b : Bool). b && true) (below (both_left (ltb v top) true h))
      go true true x d h =
          ap₂ (λ (b c : Bool). b && not c) (below (both_left (ltb v top) (not d) h))
          (any_clear_slot (older (contents_of l image) s) n (λ t i. ap (λ (b : Bool). b && older (contents_of l image) s t) (sym x) ∙ none t i))

  each_left : (slots : List ℕ) (k : ℕ) → ((t : ℕ) → Slot n t → any_in (λ s. older_left (contents_of l image) s t) (chosen_of slots k) ≡ false)
      → (j : ℕ) → j < k → NoneLeft (get_or slots j 0)
  unfolding any_in chosen_of
  each_left slots zero h j i = absurd (omega arith)
  each_left slots (suc k) h j i = go (eqb j k) refl (λ m. each_left slots k (λ t u. (parts t u).1) j m)
    where
      parts : (t : ℕ) → Slot n t
          → (older_left (contents_of l image) (get_or slots k 0) t ≡ false) × (any_in (λ s. older_left (contents_of l image) s t) (chosen_of slots k) ≡ false)
      parts t u =
          or_none (older_left (contents_of l image) (get_or slots k 0) t) (any_in (λ s. older_left (contents_of l image) s t) (chosen_of slots k)) (h t u)

      go : (b : Bool) → eqb j k ≡ b → (j < k → NoneLeft (get_or slots j 0)) → NoneLeft (get_or slots j 0)
      go true e ih = subst (λ (x : ℕ). NoneLeft (get_or slots x 0)) (sym (eqb-true j k e)) (λ t u. (parts t u).0)
      go false e ih = ih (omega (arith, eqb-false j k e))

  pub clear_by_pass : (next : List ℕ) (first wanted : ℕ) (r : Choice) (strict : Bool)
      → Chosen (allocate_from (may_take_below l image top) next n first wanted) (allocate_from (may_take_below l image top) next n first wanted) wanted r
      → r.fault ≡ 0 → Clear l image r.slots wanted top strict n → Unrefused l image next n first wanted top strict
  unfolding allocation_by_rule allocate_from
  clear_by_pass next first wanted r strict ch z c =
      record {
        fine =
            taken_fine (may_take (contents_of l image) n) (may_take_below l image top) next n NoneLeft surely_below n wanted wanted 0 0 first [] []
            (omega arith)
            (subst (AllTaken NoneLeft) (sym (ch.slots_are z))
            (takens_all NoneLeft r.slots r.prevs 0 wanted (λ j a b. each_left r.slots wanted (λ t i. (c t i).none_older) j (omega arith))));
        highest = λ e. omega (arith, bounded, greatest_least (slot_version (word image)) n top (λ t i. (c t i).none_above e));
      }

-- ---- the links alone

-- too few slots may be taken
abbrev IsFew : Allocation → Type 0
IsFew (taken ts) = ⊥
IsFew too_few = Unit
IsFew bad_link = ⊥

with_few : (slot prev : ℕ) (t : Allocation) → IsFew (with_taken slot prev t) → IsFew t
unfolding with_taken
with_few slot prev (taken ts) a = absurd a
with_few slot prev too_few a = a
with_few slot prev bad_link a = absurd a

module _ (may : List ℕ → ℕ → Bool) (next : List ℕ) (n : ℕ) where
  -- a walk that comes to the chain's end
  ends_few : (left wanted prev at : ℕ) (chosen : List ℕ) → IsFew (allocation_walk may next n left wanted prev at chosen) → ends_well next n left at ≡ true
  unfolding allocation_walk ends_well
  ends_few zero wanted prev at chosen a = go (eqb at 0) a
    where
      go : (b : Bool) → IsFew (cond b (at_end wanted) bad_link) → b ≡ true
      go true h = refl
      go false h = absurd h
  ends_few (suc left) wanted prev at chosen a =
      go (eqb at 0) (ltb n at) (eqb wanted 0) (may chosen at) a (ends_few left (wanted - 1) prev (get_or next at 0) (at ∷ chosen))
      (ends_few left wanted at (get_or next at 0) chosen)
    where
      X : Allocation
      X = allocation_walk may next n left (wanted - 1) prev (get_or next at 0) (at ∷ chosen)

      Y : Allocation
      Y = allocation_walk may next n left wanted at (get_or next at 0) chosen

      go : (b c d e : Bool) → IsFew (cond b (at_end wanted) (cond c bad_link (cond d (taken []) (cond e (with_taken at prev X) Y))))
          → (IsFew X → ends_well next n left (get_or next at 0) ≡ true) → (IsFew Y → ends_well next n left (get_or next at 0) ≡ true)
          → cond b true (cond c false (ends_well next n left (get_or next at 0))) ≡ true
      go true c d e h x y = refl
      go false true d e h x y = absurd h
      go false false true e h x y = absurd h
      go false false false true h x y = x (with_few at prev X h)
      go false false false false h x y = y h

  with_link : (slot prev : ℕ) (t : Allocation) → link_fault (with_taken slot prev t) ≡ link_fault t
  unfolding with_taken link_fault
  with_link slot prev (taken ts) = refl
  with_link slot prev too_few = refl
  with_link slot prev bad_link = refl

  end_link : (wanted : ℕ) → link_fault (at_end wanted) ≡ 0
  unfolding at_end link_fault
  end_link wanted = go (eqb wanted 0)
    where
      go : (b : Bool) → link_fault (cond b (taken []) too_few) ≡ 0
      go true = refl
      go false = refl

  -- A CHAIN THAT ENDS WELL has no bad link, whichever slots are taken
  pub ends_link : (left wanted prev at : ℕ) (chosen : List ℕ) → ends_well next n left at ≡ true
      → link_fault (allocation_walk may next n left wanted prev at chosen) ≡ 0
  unfolding allocation_walk ends_well link_fault
  ends_link zero wanted prev at chosen e = ap link_fault (pick_true (eqb at 0) _ _ e) ∙ end_link wanted
  ends_link (suc left) wanted prev at chosen e =
      go (eqb at 0) (ltb n at) (eqb wanted 0) (may chosen at) e (ends_link left (wanted - 1) prev (get_or next at 0) (at ∷ chosen))
      (ends_link left wanted at (get_or next at 0) chosen)
    where
      X : Allocation
      X = allocation_walk may next n left (wanted - 1) prev (get_or next at 0) (at ∷ chosen)

      Y : Allocation
      Y = allocation_walk may next n left wanted at (get_or next at 0) chosen

      go : (b c d u : Bool) → cond b true (cond c false (ends_well next n left (get_or next at 0))) ≡ true
          → (ends_well next n left (get_or next at 0) ≡ true → link_fault X ≡ 0) → (ends_well next n left (get_or next at 0) ≡ true → link_fault Y ≡ 0)
          → link_fault (cond b (at_end wanted) (cond c bad_link (cond d (taken []) (cond u (with_taken at prev X) Y)))) ≡ 0
      go true c d u h x y = end_link wanted
      go false true d u h x y = absurd (true≢false (sym h))
      go false false true u h x y = refl
      go false false false true h x y = with_link at prev X ∙ x h
      go false false false false h x y = y h

-- too few by the highest version, where older records are looked for only in the slots chosen: refused
few_told : (t : Allocation) → take_fault t ≡ 28 → IsFew t
unfolding take_fault link_fault few_fault or_else
few_told (taken ts) e = omega arith
few_told too_few e = tt
few_told bad_link e = omega arith

module _ (l : ℕ) (image next : List ℕ) (n first wanted : ℕ) (some : 0 < wanted) where
  pub few_by_choice : (top : ℕ) (r : Choice) → top ≡ greatest (slot_version (word image)) n
      → Chosen (allocate_from (may_take_below l image top) next n first wanted) (allocate_from (may_take_below l image top) next n first wanted) wanted r
      → r.fault ≡ 28
      → 28 ≡ take_fault (allocation_by_rule l image next n first wanted)
  unfolding allocation_by_rule allocation_chosen allocate_from may_take_below may_take_after take_fault or_else link_fault few_fault
  few_by_choice top r h ch e = go (allocation_by_rule l image next n first wanted) refl
    where
      refusal : take_fault (allocation_chosen l image next n first wanted) ≡ 28
      refusal =
          ap (λ (t : ℕ). take_fault (allocate_from (may_take_below l image t) next n first wanted)) (sym (highest_is l (word image) n) ∙ sym h)
          ∙ sym ch.fault_is
          ∙ e

      ends : ends_well next n n first ≡ true
      ends = ends_few (may_take_after (contents_of l image) n) next n n wanted 0 first [] (few_told (allocation_chosen l image next n first wanted) refusal)

      no_link : link_fault (allocation_by_rule l image next n first wanted) ≡ 0
      no_link = ends_link (λ c. may_take (contents_of l image) n) next n n wanted 0 first [] ends

      go : (t : Allocation) → allocation_by_rule l image next n first wanted ≡ t → 28 ≡ take_fault t
      go (taken ts) q = absurd (omega (arith, sym refusal ∙ choice_fine l image next n first wanted some (ap take_fault q)))
      go too_few q = refl
      go bad_link q = absurd (omega (arith, sym no_link ∙ ap link_fault q))

-- ---- is_ending: what is left of the chain answers for the whole

module _ (next : List ℕ) (n : ℕ) where
  ends_more : (left more at : ℕ) → left ≤ more → ends_well next n left at ≡ true → ends_well next n more at ≡ true
  unfolding ends_well
  ends_more zero zero at h e = e
  ends_more zero (suc more) at h e = pick_true (eqb at 0) _ _ e
  ends_more (suc left) zero at h e = absurd (omega arith)
  ends_more (suc left) (suc more) at h e = go (eqb at 0) (ltb n at) e (ends_more left more (get_or next at 0) (omega arith))
    where
      go : (b c : Bool) → cond b true (cond c false (ends_well next n left (get_or next at 0))) ≡ true
          → (ends_well next n left (get_or next at 0) ≡ true → ends_well next n more (get_or next at 0) ≡ true)
          → cond b true (cond c false (ends_well next n more (get_or next at 0))) ≡ true
      go true c q ih = refl
      go false true q ih = absurd (true≢false (sym q))
      go false false q ih = ih q

  pub record Ending (most first at left : ℕ) : Type 0 where
    pub place : at < 2 ^ 32
    pub rest : ends_well next n left at ≡ true → ends_well next n most first ≡ true

  pub ending_starts : (few first : ℕ) → few ≤ n → first < 2 ^ 32 → Ending n first first few
  ending_starts few first h q = record { place = q; rest = ends_more few n first h }

  module _ (most first at left : ℕ) (w : Ending most first at left) where
    pub ending_here : at ≡ 0 → ends_well next n most first ≡ true
    unfolding ends_well
    ending_here z = w.rest (go left)
      where
        go : (k : ℕ) → ends_well next n k at ≡ true
        go zero = eq-eqb at 0 z
        go (suc k) = pick_true (eqb at 0) _ _ (eq-eqb at 0 z)

    pub ending_on : 0 < left → (at ≡ 0 → ⊥) → at ≤ n → get_or next at 0 < 2 ^ 32 → Ending most first (get_or next at 0) (left - 1)
    unfolding ends_well
    ending_on some low high fits = record { place = fits; rest = λ e. w.rest (go left some e) }
      where
        go : (k : ℕ) → 0 < k → ends_well next n (k - 1) (get_or next at 0) ≡ true → ends_well next n k at ≡ true
        go zero h e = absurd (omega arith)
        go (suc k) h e =
            let d : k ≡ suc k - 1 = omega arith in
            pick_false (eqb at 0) _ _ (ne_eqb at 0 low) ∙ pick_false (ltb n at) _ _ (le-ltb n at high)
            ∙ ap (λ (x : ℕ). ends_well next n x (get_or next at 0)) d ∙ e

-- of a call of either family
pub ends_by : (own : Bool) (l : ℕ) (image next : List ℕ) (n first newest wanted : ℕ) → ends_well next n n first ≡ true
    → link_fault (allocation_by own l image next n first newest wanted) ≡ 0
unfolding allocation_by allocation_by_rule own_allocation allocate_from
ends_by false l image next n first newest wanted e = ends_link (λ c. may_take (contents_of l image) n) next n n wanted 0 first [] e
ends_by true l image next n first newest wanted e = ends_link _ next n n wanted 0 first [] e

no_room : (u : Allocation) (b : Bool) (r : ℕ) → r ≡ refuse_if b 28 0 → (r ≡ 0 → ⊥) → r ≡ or_else (few_fault u) (refuse_if b 28 0)
unfolding few_fault or_else refuse_if
no_room (taken ts) b r q ne = q
no_room too_few true r q ne = q
no_room too_few false r q ne = absurd (ne q)
no_room bad_link b r q ne = q

-- A CALL FOR WHICH THE LIVE COUNT LEAVES NO ROOM is refused with 28, whether or not it finds slots that may be taken: a is the refusal by the ends of the
-- chain, r that by the live count, later what comes after
module _ (t : Allocation) (n first last live inserts removes a r later : ℕ) where
  pub full_refused : a ≡ ends_fault n first last → a ≡ 0 → removes ≤ live → link_fault t ≡ 0 → r ≡ refuse_if (leb (n + removes) (live + inserts)) 28 0
      → (r ≡ 0 → ⊥)
      → r ≡ or_else (reuse_fault t n first last live removes) (or_else (room_fault t n live inserts removes) later)
  unfolding reuse_fault room_fault
  full_refused e z h link g ne =
      sym (or_else_first r later ne) ∙ ap (λ (x : ℕ). or_else x later) (no_room t (leb (n + removes) (live + inserts)) r g ne)
      ∙ sym
      (or_else_later _ _
      (or_else_later _ _ (sym e ∙ z) ∙ or_else_later _ _ (refuse_if-false (ltb live removes) 11 0 (le-ltb live removes h)) ∙ link))
