-- What the functions that test slots answer: a slot's version, the highest of all, an older record of a key, and whether a slot may be taken. Assumes nothing.
use mathlib.Core.Path.{◌≡◌, refl, sym, ap, ap₂, ◌∙◌, subst, fun_ext}
use mathlib.Core.Bool.{Bool, true, false, cond, not, ◌&&◌, ◌||◌, true≢false}
use mathlib.Core.List.{List, [], ◌∷◌, ◌++◌}
use Prim.Native.Nat.{ℕ, zero, suc, ◌+◌, ◌-◌, ◌*◌, ◌/◌, ◌≤◌, ◌<◌, max}
use native.Mathlib.Omega.{arith}
use lib.Dec.{eqb, ltb}
use lib.ListN.{get_or, length, take}
use Rattle.std.specs.Bool.{MatchBool}
use Rattle.std.specs.List.{list_any, AllWithin, HoldsAt}
use Rattle.std.proofs.Math.Seq.{take-suc}
use Rattle.std.proofs.lemmas.List.{get_or-take, get_or_default, length-take}
use borrow.Author.Tests.{lt-ltb, le-ltb, eq-eqb, eqb-true, eqb-false, ltb-true}
use Rattle.prelude.specs.Range.{any_of, greatest}
use Rattle.prelude.specs.Filter.{any_in}
use Rattle.prelude.proofs.Choice.{both_left, both_right}
use Rattle.layout.specs.Line.{line_a, line_b, version_of}
use Rattle.layout.specs.Slot.{paired, verdict_of, line_verdict, slot_verdict}
use Rattle.layout.specs.Record.{Layout, kind_of, key_of, key_with}
use Rattle.layout.specs.Content.{highest_whole_in, content}
use Rattle.layout.specs.inner.Key.{high_word}
use Rattle.layout.specs.declared.Verdict.{Verdict}
use Rattle.layout.specs.declared.Verdict.TheVariants.{Valid, Empty, Broken}
use Rattle.layout.proofs.KeyWords.{key_parts}
use Rattle.table.specs.Table.{is_record}
use Rattle.table.specs.Takeable.{is_remove, older, takeable_if}
use Rattle.allocation.specs.inner.Takeable.{version_in, slot_version, older_than, takeable, low_put}
use Rattle.allocation.specs.inner.Choice.{chosen_of, ChosenInside}
use Rattle.allocation.proofs.Contents.{Holds, slot_holds, older_none, older_other, older_same, take_none, take_high, take_put, take_blind, take_looked}
use Rattle.allocation.proofs.Contents.{if_high, if_remove, older_here}

-- ---- valid_version

module _ (m : ℕ → ℕ) (s : ℕ) (d : Verdict) (e : d ≡ slot_verdict m s) where
  pub version_valid : (v : ℕ) → d ≡ Valid v → v ≡ slot_version m s
  unfolding slot_version version_in
  version_valid v q = ap version_in (sym q ∙ e)

  pub version_empty : d ≡ Empty → 0 ≡ slot_version m s
  unfolding slot_version version_in
  version_empty q = ap version_in (sym q ∙ e)

  pub version_broken : (top : ℕ) → d ≡ Broken top → 0 ≡ slot_version m s
  unfolding slot_version version_in
  version_broken top q = ap version_in (sym q ∙ e)

-- ---- highest_valid: v is the version of slot s, and top the highest of those before it

pub greatest_next : (g : ℕ → ℕ) (s top v r : ℕ) → 1 ≤ s → top ≡ greatest g (s - 1) → v ≡ g s → r ≡ max top v → r ≡ greatest g (s + 1 - 1)
unfolding greatest
greatest_next g s top v r h e f q =
    let d : suc (s - 1) ≡ s = omega arith in
    let here : s ≡ s + 1 - 1 = omega arith in
    q ∙ ap₂ max e (f ∙ ap g (sym d)) ∙ ap (greatest g) (d ∙ here)

-- ---- what `any` of a chain answers by its two cases, over a list, over the n numbers from k on and over the first k slots that are chosen

pub any_by_cases : (p : ℕ → Bool) (xs : List ℕ) (r : Bool) → MatchBool r ((k : ℕ) × (k < length xs) × HoldsAt (λ x. p x ≡ true) xs k)
    (AllWithin (λ x. p x ≡ false) xs 0 (length xs)) → r ≡ list_any p xs
any_by_cases p [] true (k, h, y) = absurd (omega arith)
any_by_cases p [] false h = refl
any_by_cases p (x ∷ xs) true (zero, h, y) = sym (ap (λ (b : Bool). b || list_any p xs) (y 0))
any_by_cases p (x ∷ xs) true (suc k, h, y) = go (p x) (any_by_cases p xs true (k, omega arith, y))
  where
    go : (b : Bool) → true ≡ list_any p xs → true ≡ b || list_any p xs
    go true q = refl
    go false q = q
any_by_cases p (x ∷ xs) false h =
    any_by_cases p xs false (λ k d low high. h (suc k) d (omega arith) (omega arith))
    ∙ sym (ap (λ (b : Bool). b || list_any p xs) (h 0 0 (omega arith) (omega arith)))

pub either_is : (a b : Bool) → a || b ≡ cond a true b
either_is true b = refl
either_is false b = refl

any_and_last : (p : ℕ → Bool) (xs : List ℕ) (x : ℕ) → list_any p (xs ++ x ∷ []) ≡ cond (p x) true (list_any p xs)
any_and_last p [] x = either_is (p x) false
any_and_last p (y ∷ xs) x = ap (λ (b : Bool). p y || b) (any_and_last p xs x) ∙ go (p y) (p x) (list_any p xs)
  where
    go : (a b c : Bool) → a || cond b true c ≡ cond b true (a || c)
    go true true c = refl
    go true false c = refl
    go false b c = refl

pub any_chosen : (p : ℕ → Bool) (slots : List ℕ) (k : ℕ) → k ≤ length slots → list_any p (take k slots) ≡ any_in p (chosen_of slots k)
unfolding any_in chosen_of
any_chosen p slots zero h = refl
any_chosen p slots (suc k) h =
    ap (list_any p) (take-suc slots k 0 h) ∙ any_and_last p (take k slots) (get_or slots k 0)
    ∙ ap (λ (b : Bool). cond (p (get_or slots k 0)) true b) (any_chosen p slots k (omega arith))

-- the slot at an index below k is the array's, and the image has it
pub chosen_slot : (slots : List ℕ) (got k d : ℕ) → k < length (take got slots) → get_or (take got slots) k d ≡ get_or slots k 0
chosen_slot slots got k d h =
    let few : k < got = omega (arith, length-take got slots) in
    let room : k < length slots = omega (arith, length-take got slots) in
    get_or-take got slots k d few ∙ get_or_default slots k d 0 room

pub chosen_room : (image slots : List ℕ) (got : ℕ) → ChosenInside image slots got → (k s : ℕ) → k < length (take got slots) → s ≡ get_or (take got slots) k s
    → 128 * (s + 1) ≤ length image
chosen_room image slots got c k s h e =
    let few : k < got = omega (arith, length-take got slots) in
    let here : s ≡ get_or slots k 0 = e ∙ chosen_slot slots got k s h in
    omega (arith, here, c.inside k few)

-- ---- is_older: v is the version of slot t

module _ (l : ℕ) (m : ℕ → ℕ) (t key version : ℕ) (b : Bool) (e : b ≡ eqb (key_of l (line_a m t)) key) where
  pub other_key : b ≡ false → false ≡ older_than (content l m) key version t
  other_key q = older_other (content l m) t _ _ _ (slot_holds l m t) key version (sym e ∙ q)

  module _ (v : ℕ) (f : v ≡ slot_version m t) where
    pub not_valid : v ≡ 0 → false ≡ older_than (content l m) key version t
    not_valid z = older_none (content l m) t _ _ _ (slot_holds l m t) key version (sym f ∙ z)

    pub same_key : b ≡ true → (v ≡ 0 → ⊥) → ltb v version ≡ older_than (content l m) key version t
    same_key q some =
        ap (λ (x : ℕ). ltb x version) f
        ∙ older_same (content l m) t _ _ _ (slot_holds l m t) key version (λ z. some (f ∙ z)) (sym e ∙ q)

-- ---- may_take: v is the version of slot s

module _ (l : ℕ) (m : ℕ → ℕ) (n top : ℕ) (scan : Bool) (s v : ℕ) (e : v ≡ slot_version m s) where
  held : Holds (kind_of (line_a m s (l + 1))) (key_of l (line_a m s)) v (content l m s)
  held = subst (λ (x : ℕ). Holds (kind_of (line_a m s (l + 1))) (key_of l (line_a m s)) x (content l m s)) (sym e) (slot_holds l m s)

  pub may_invalid : v ≡ 0 → true ≡ takeable (content l m) n top scan s
  may_invalid z = take_none (content l m) s _ _ _ held n top scan z

  module _ (some : v ≡ 0 → ⊥) where
    pub may_high : top ≤ v → false ≡ takeable (content l m) n top scan s
    may_high h = take_high (content l m) s _ _ _ held n top scan some h

    module _ (low : v < top) (kind : ℕ) (k : kind ≡ kind_of (line_a m s (l + 1))) where
      pub may_put : (kind ≡ 2 → ⊥) → true ≡ takeable (content l m) n top scan s
      may_put ne = take_put (content l m) s _ _ _ held n top scan some low (λ z. ne (k ∙ z))

      pub may_blind : kind ≡ 2 → scan ≡ false → false ≡ takeable (content l m) n top scan s
      may_blind q b = take_blind (content l m) s _ _ _ held n top scan some low (sym k ∙ q) b

      pub may_looked : Layout l → kind ≡ 2 → scan ≡ true → (x y : ℕ) → x ≡ line_a m s 1 → y ≡ high_word l (line_a m s) → (b : Bool)
          → b ≡ any_of (older_than (content l m) (key_with x y) v) 1 n → not b ≡ takeable (content l m) n top scan s
      may_looked lay q t x y p w b a =
          take_looked (content l m) s _ _ _ held n top scan some low (sym k ∙ q) t b
          (a ∙ ap (λ (key : ℕ). any_of (older_than (content l m) key v) 1 n) (ap₂ key_with p w ∙ sym (key_parts l (line_a m s) lay)))

-- ---- is_low: x is word 7 of line A

module _ (l : ℕ) (m : ℕ → ℕ) (top s x : ℕ) (e : x ≡ m (16 * s + 7)) where
  stamp_at : x ≡ line_a m s 7
  stamp_at = e ∙ ap m (omega arith)

  pub not_low : top ≤ x / 2 → false ≡ low_put l m top s
  unfolding low_put
  not_low h =
      sym (ap (λ (b : Bool). b && not (eqb (kind_of (line_a m s (l + 1))) 2)) (ap (λ (y : ℕ). ltb (y / 2) top) (sym stamp_at) ∙ le-ltb (x / 2) top h))

  pub low_by_kind : x / 2 < top → (kind : ℕ) → kind ≡ kind_of (line_a m s (l + 1)) → not (eqb kind 2) ≡ low_put l m top s
  unfolding low_put
  low_by_kind h kind k =
      ap (λ (y : ℕ). not (eqb y 2)) k
      ∙ sym (ap (λ (b : Bool). b && not (eqb (kind_of (line_a m s (l + 1))) 2)) (ap (λ (y : ℕ). ltb (y / 2) top) (sym stamp_at) ∙ lt-ltb (x / 2) top h))

-- ---- may_take: a slot that is low may be taken

version_on_line : (m : ℕ → ℕ) (s : ℕ) → slot_version m s ≤ version_of (line_a m s 7)
unfolding slot_version slot_verdict line_verdict verdict_of version_in
version_on_line m s = go (paired (line_a m s 0) (line_a m s 7) (line_b m s 0) (line_b m s 7)) (eqb (version_of (line_a m s 7)) 0) _
  where
    go : (p q : Bool) (t : ℕ) → version_in (cond p (cond q Empty (Valid (line_a m s 7 / 2))) (Broken t)) ≤ line_a m s 7 / 2
    go true true t = omega arith
    go true false t = omega arith
    go false q t = omega arith

pub may_low : (l : ℕ) (m : ℕ → ℕ) (n top : ℕ) (scan : Bool) (s : ℕ) (b : Bool) → b ≡ low_put l m top s → b ≡ true
    → true ≡ takeable (content l m) n top scan s
unfolding low_put
may_low l m n top scan s b e q = go (eqb (slot_version m s) 0) refl
  where
    low : version_of (line_a m s 7) < top
    low = ltb-true _ _ (both_left (ltb (version_of (line_a m s 7)) top) _ (sym e ∙ q))

    put : kind_of (line_a m s (l + 1)) ≡ 2 → ⊥
    put z = true≢false (sym (both_right (ltb (version_of (line_a m s 7)) top) _ (sym e ∙ q)) ∙ ap not (eq-eqb _ _ z))

    go : (c : Bool) → eqb (slot_version m s) 0 ≡ c → true ≡ takeable (content l m) n top scan s
    go true z = may_invalid l m n top scan s _ refl (eqb-true (slot_version m s) 0 z)
    go false z =
        may_put l m n top scan s _ refl (eqb-false (slot_version m s) 0 z) (omega (arith, version_on_line m s, low)) _ refl put

-- ---- may_take_after: `sure` tells whether slot s may be taken whatever older records remain, `chosen` are the slots taken before

module _ (l : ℕ) (m : ℕ → ℕ) (n top s : ℕ) (chosen : List ℕ) (sure : Bool) (e : sure ≡ takeable (content l m) n top false s) where
  abbrev answer : Bool
  answer = takeable_if top (any_in (older (content l m) s) chosen) (content l m s)

  pub after_sure : sure ≡ true → true ≡ answer
  unfolding takeable takeable_if
  after_sure q =
      sym (go (is_record (content l m s)) (ltb (highest_whole_in (content l m s)) top) (is_remove (content l m s)) (any_in (older (content l m) s) chosen)
      (sym e ∙ q))
    where
      go : (a b c d : Bool) → cond a (b && not (c && true)) true ≡ true → cond a (b && not (c && d)) true ≡ true
      go false b c d h = refl
      go true false c d h = h
      go true true false d h = h
      go true true true d h = absurd (true≢false (sym h))

  module _ (unsure : sure ≡ false) (v : ℕ) (g : v ≡ slot_version m s) where
    holds : Holds (kind_of (line_a m s (l + 1))) (key_of l (line_a m s)) v (content l m s)
    holds = held l m n top false s v g

    valid : v ≡ 0 → ⊥
    valid z = true≢false (may_invalid l m n top false s v g z ∙ sym e ∙ unsure)

    pub after_high : top ≤ v → false ≡ answer
    after_high h = if_high (content l m) s _ _ _ holds top _ valid h

    module _ (low : v < top) where
      remove : kind_of (line_a m s (l + 1)) ≡ 2
      remove = go (eqb (kind_of (line_a m s (l + 1))) 2) refl
        where
          go : (b : Bool) → eqb (kind_of (line_a m s (l + 1))) 2 ≡ b → kind_of (line_a m s (l + 1)) ≡ 2
          go true q = eqb-true _ _ q
          go false q = absurd (true≢false (may_put l m n top false s v g valid low _ refl (eqb-false _ _ q) ∙ sym e ∙ unsure))

      pub after_looked : Layout l → (x y : ℕ) → x ≡ line_a m s 1 → y ≡ high_word l (line_a m s) → (b : Bool)
          → b ≡ any_in (older_than (content l m) (key_with x y) v) chosen → not b ≡ answer
      after_looked lay x y p w b a =
          ap not
          (a ∙ ap (λ (key : ℕ). any_in (older_than (content l m) key v) chosen) (ap₂ key_with p w ∙ sym (key_parts l (line_a m s) lay))
          ∙ ap (λ (t : ℕ → Bool). any_in t chosen) (fun_ext (older_here (content l m) s _ _ _ holds n top false valid remove)))
          ∙ sym (if_remove (content l m) s _ _ _ holds top _ valid low remove)
