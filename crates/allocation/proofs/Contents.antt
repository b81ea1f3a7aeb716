-- What a slot holds by its version, its kind and its key, and which slots may be taken by them. Assumes nothing.
use mathlib.Core.Path.{◌≡◌, refl, sym, ap, ◌∙◌, fun_ext}
use mathlib.Core.Bool.{Bool, true, false, cond, not, ◌&&◌}
use mathlib.Core.List.{List}
use Prim.Native.Nat.{ℕ, ◌+◌, ◌≤◌, ◌<◌}
use native.Mathlib.Omega.{arith}
use lib.Dec.{eqb, ltb}
use borrow.Author.Tests.{lt-ltb, le-ltb, eqb-true, eqb-false}
use Rattle.prelude.specs.Range.{any_of}
use Rattle.prelude.proofs.Choice.{pick_false}
use Rattle.layout.specs.Line.{line_a, line_b, version_of}
use Rattle.layout.specs.Slot.{line_verdict, slot_verdict}
use Rattle.layout.specs.Record.{kind_of, key_of, value_of}
use Rattle.layout.specs.Content.{Content, put_record, remove_record, content_of, content, highest_whole_in, Table}
use Rattle.layout.proofs.Content.{ValidAt, Reading, reads_broken, reads_empty, reads_put, reads_remove, reading, verdict_valid, verdict_empty, verdict_broken}
use Rattle.table.specs.Table.{is_record, key_in}
use Rattle.table.specs.Takeable.{valid_version, is_remove, older, takeable_if}
use Rattle.allocation.specs.inner.Takeable.{version_in, slot_version, older_than, takeable}

-- what a slot with this content holds, by the version v of a valid slot (0 for any other), the kind and the key in its words
pub data Holds (kind key v : ℕ) (c : Content) : Type 0 where
  holds_none : v ≡ 0 → is_record c ≡ false → Holds kind key v c
  holds_put : (value : List ℕ) → (v ≡ 0 → ⊥) → (kind ≡ 2 → ⊥) → c ≡ put_record v key value → Holds kind key v c
  holds_remove : (v ≡ 0 → ⊥) → kind ≡ 2 → c ≡ remove_record v key → Holds kind key v c

module _ (l : ℕ) (m : ℕ → ℕ) (s : ℕ) where
  pub slot_holds : Holds (kind_of (line_a m s (l + 1))) (key_of l (line_a m s)) (slot_version m s) (content l m s)
  unfolding slot_version slot_verdict version_in content is_record
  slot_holds = go (reading l A B)
    where
      A : ℕ → ℕ
      A = line_a m s

      B : ℕ → ℕ
      B = line_b m s

      version : ValidAt A B (version_of (A 7)) → version_in (line_verdict A B) ≡ version_of (A 7)
      version at = ap version_in (verdict_valid A B at.pair (λ z. omega (arith, at.positive, z)))

      some : ValidAt A B (version_of (A 7)) → version_in (line_verdict A B) ≡ 0 → ⊥
      some at z = omega (arith, at.positive, version at, z)

      go : Reading l A B → Holds (kind_of (A (l + 1))) (key_of l A) (version_in (line_verdict A B)) (content_of l A B)
      go (reads_broken p e) = holds_none (ap version_in (verdict_broken A B p)) (ap is_record e)
      go (reads_empty p z e) = holds_none (ap version_in (verdict_empty A B p z)) (ap is_record e)
      go (reads_put at e) =
          holds_put _ (some at.valid) at.kind (e ∙ ap (λ (v : ℕ). put_record v (key_of l A) (value_of l A B)) (sym (version at.valid)))
      go (reads_remove at e) =
          holds_remove (some at.valid) at.kind (e ∙ ap (λ (v : ℕ). remove_record v (key_of l A)) (sym (version at.valid)))

-- ---- by what it holds

module _ (f : Table) (s kind key v : ℕ) (h : Holds kind key v (f s)) where
  pub held_version : valid_version (f s) ≡ v
  unfolding valid_version is_record highest_whole_in
  held_version = go h
    where
      go : Holds kind key v (f s) → valid_version (f s) ≡ v
      go (holds_none z e) = pick_false (is_record (f s)) _ _ e ∙ sym z
      go (holds_put value ne k e) = ap valid_version e
      go (holds_remove ne k e) = ap valid_version e

  -- ---- an older record of key k

  module _ (k version : ℕ) where
    abbrev older_by : Content → Bool
    older_by c = is_record c && (eqb (key_in c) k && ltb (highest_whole_in c) version)

    of_record : (v ≡ 0 → ⊥) → older_than f k version s ≡ eqb key k && ltb v version
    unfolding older_than is_record key_in highest_whole_in
    of_record some = go h
      where
        go : Holds kind key v (f s) → older_by (f s) ≡ eqb key k && ltb v version
        go (holds_none z e) = absurd (some z)
        go (holds_put value ne x e) = ap older_by e
        go (holds_remove ne x e) = ap older_by e

    pub older_none : v ≡ 0 → false ≡ older_than f k version s
    unfolding older_than
    older_none z = sym (go h)
      where
        go : Holds kind key v (f s) → older_by (f s) ≡ false
        go (holds_none q e) = ap (λ (b : Bool). b && (eqb (key_in (f s)) k && ltb (highest_whole_in (f s)) version)) e
        go (holds_put value ne x e) = absurd (ne z)
        go (holds_remove ne x e) = absurd (ne z)

    pub older_other : eqb key k ≡ false → false ≡ older_than f k version s
    older_other e = go (eqb v 0) refl
      where
        go : (b : Bool) → eqb v 0 ≡ b → false ≡ older_than f k version s
        go true q = older_none (eqb-true v 0 q)
        go false q = sym (of_record (eqb-false v 0 q) ∙ ap (λ (b : Bool). b && ltb v version) e)

    pub older_same : (v ≡ 0 → ⊥) → eqb key k ≡ true → ltb v version ≡ older_than f k version s
    older_same some e = sym (of_record some ∙ ap (λ (b : Bool). b && ltb v version) e)

  -- ---- may it be taken? `b` tells whether an older record of its key may remain

  module _ (top : ℕ) (b : Bool) where
    pub if_none : v ≡ 0 → true ≡ takeable_if top b (f s)
    unfolding takeable_if
    if_none z = sym (go h)
      where
        go : Holds kind key v (f s) → takeable_if top b (f s) ≡ true
        go (holds_none q e) = pick_false (is_record (f s)) _ _ e
        go (holds_put value ne k e) = absurd (ne z)
        go (holds_remove ne k e) = absurd (ne z)

    module _ (some : v ≡ 0 → ⊥) where
      pub if_high : top ≤ v → false ≡ takeable_if top b (f s)
      unfolding takeable_if is_record highest_whole_in is_remove
      if_high q = sym (go h)
        where
          go : Holds kind key v (f s) → takeable_if top b (f s) ≡ false
          go (holds_none z e) = absurd (some z)
          go (holds_put value ne k e) = ap (takeable_if top b) e ∙ ap (λ (x : Bool). x && not (false && b)) (le-ltb v top q)
          go (holds_remove ne k e) = ap (takeable_if top b) e ∙ ap (λ (x : Bool). x && not (true && b)) (le-ltb v top q)

      pub if_put : v < top → (kind ≡ 2 → ⊥) → true ≡ takeable_if top b (f s)
      unfolding takeable_if is_record highest_whole_in is_remove
      if_put q put = sym (go h)
        where
          go : Holds kind key v (f s) → takeable_if top b (f s) ≡ true
          go (holds_none z e) = absurd (some z)
          go (holds_put value ne k e) = ap (takeable_if top b) e ∙ ap (λ (x : Bool). x && not (false && b)) (lt-ltb v top q)
          go (holds_remove ne k e) = absurd (put k)

      pub if_remove : v < top → kind ≡ 2 → takeable_if top b (f s) ≡ not b
      unfolding takeable_if is_record highest_whole_in is_remove
      if_remove q remove = go h
        where
          go : Holds kind key v (f s) → takeable_if top b (f s) ≡ not b
          go (holds_none z e) = absurd (some z)
          go (holds_put value ne k e) = absurd (k remove)
          go (holds_remove ne k e) = ap (takeable_if top b) e ∙ ap (λ (x : Bool). x && not (true && b)) (lt-ltb v top q)

  module _ (n top : ℕ) (scan : Bool) where
    pub take_none : v ≡ 0 → true ≡ takeable f n top scan s
    unfolding takeable
    take_none z = if_none top _ z

    module _ (some : v ≡ 0 → ⊥) where
      pub take_high : top ≤ v → false ≡ takeable f n top scan s
      unfolding takeable
      take_high q = if_high top _ some q

      pub take_put : v < top → (kind ≡ 2 → ⊥) → true ≡ takeable f n top scan s
      unfolding takeable
      take_put q put = if_put top _ some q put

      -- the image is not looked through
      pub take_blind : v < top → kind ≡ 2 → scan ≡ false → false ≡ takeable f n top scan s
      unfolding takeable
      take_blind q remove e = sym (if_remove top _ some q remove ∙ ap (λ (x : Bool). not (cond x (any_of (older f s) 1 n) true)) e)

      pub older_here : kind ≡ 2 → (t : ℕ) → older_than f key v t ≡ older f s t
      unfolding older older_than key_in highest_whole_in
      older_here remove t = sym (go h)
        where
          go : Holds kind key v (f s) → is_record (f t) && (eqb (key_in (f t)) (key_in (f s)) && ltb (highest_whole_in (f t)) (highest_whole_in (f s)))
              ≡ older_than f key v t
          go (holds_none z e) = absurd (some z)
          go (holds_put value ne k e) = absurd (k remove)
          go (holds_remove ne k e) =
              ap (λ (c : Content). is_record (f t) && (eqb (key_in (f t)) (key_in c) && ltb (highest_whole_in (f t)) (highest_whole_in c))) e

      -- it is, and b tells whether there is an older record
      pub take_looked : v < top → kind ≡ 2 → scan ≡ true → (b : Bool) → b ≡ any_of (older_than f key v) 1 n → not b ≡ takeable f n top scan s
      unfolding takeable
      take_looked q remove e b g =
          sym
          (if_remove top _ some q remove ∙ ap (λ (x : Bool). not (cond x (any_of (older f s) 1 n) true)) e
          ∙ ap (λ (p : ℕ → Bool). not (any_of p 1 n)) (sym (fun_ext (older_here remove))) ∙ ap not (sym g))
