-- What a cut leaves of the records that a call writes, seen in the contents of the slots. Assumes nothing.
use mathlib.Core.Path.{◌≡◌, refl, sym, ap, ◌∙◌, subst}
use mathlib.Core.Bool.{Bool, true, false}
use mathlib.Core.Logic.{◌⊎◌, inl, inr, by_cases}
use mathlib.Core.List.{List}
use Prim.Native.Nat.{ℕ, ◌+◌, ◌*◌, ◌/◌, ◌%◌, ◌≤◌, ◌<◌}
use native.Mathlib.Decide.{ℕ_discrete}
use native.Mathlib.Omega.{arith}
use lib.ListN.{length}
use Rattle.prelude.specs.Members.{All, none_left, one_more, In, Once}
use Rattle.prelude.proofs.defs.Among.{member}
use Rattle.prelude.proofs.Among.{member_in, not_member}
use Rattle.prelude.proofs.Choice.{split}
use Rattle.layout.specs.Content.{broken, content, size_field_in, highest_whole_in}
use Rattle.layout.proofs.Content.{top_is}
use Rattle.stores.specs.Store.{Store, all_stand, on_line}
use Rattle.stores.specs.Written.{run, line_stores}
use Rattle.stores.specs.Basket.{BasketRecord, basket_slots, basket_stores}
use Rattle.stores.specs.Cut.{SlotCut, now-old, now-new, now-broken, SlotWritten, LawfulRecord, AllWritten}
use Rattle.stores.proofs.AllStand.{stand_lines, lines_stand}
use Rattle.stores.proofs.Basket.{basket_off, Holds, basket_holds}
use Rattle.table.specs.Table.{is_record}
use Rattle.table.specs.Complete.{size_field_for}
use Rattle.table.proofs.defs.Struck.{SlotAfter, kept, lost, done, Struck, Finished}
use Rattle.table.proofs.defs.Entries.{record_of, record_at}
use Rattle.table.proofs.Entries.{slots_length, EntryAt, entry_at, made_record}

line_eight : (n : ℕ) (words : ℕ → ℕ) → length (line_stores n words) ≡ 8
unfolding line_stores run
line_eight n words = refl

module _ (l : ℕ) (m m' : ℕ → ℕ) (number version : ℕ) (es : List BasketRecord) (counts : ℕ → ℕ) (once : Once (basket_slots es))
    (fine : All (LawfulRecord l m number version) es) (is_number : number ≡ size_field_for (length es)) (w : AllWritten l m m' number version es counts) where
  -- what is known of an entry
  record Was (e : BasketRecord) : Type 0 where
    written : SlotWritten l m m' e.slot e.key e.kind number e.value version (counts (2 * e.slot)) (counts (2 * e.slot + 1))
    writable : LawfulRecord l m number version e
    has : Holds l m number version (basket_stores l m number version es) e

  all_was : {some : List BasketRecord}
      → All (λ (e : BasketRecord). SlotWritten l m m' e.slot e.key e.kind number e.value version (counts (2 * e.slot)) (counts (2 * e.slot + 1)))
      some
      → All (LawfulRecord l m number version) some → All (Holds l m number version (basket_stores l m number version es)) some → All Was some
  all_was none_left none_left none_left = none_left
  all_was (one_more x xs) (one_more y ys) (one_more z zs) = one_more (record { written = x; writable = y; has = z }) (all_was xs ys zs)

  was : (t : ℕ) → In t (basket_slots es) → EntryAt Was version es t
  was t i = entry_at version es once (all_was w.each fine (basket_holds l m number version es once)) t i

  counted : size_field_for (length (basket_slots es)) ≡ number
  counted = ap size_field_for (slots_length es) ∙ sym is_number

  after_slot : (t : ℕ) → In t (basket_slots es)
      → SlotAfter (content l m t) (record_at version es t) (content l m' t) (size_field_in l m t) (size_field_for (length (basket_slots es)))
      (size_field_in l m' t)
  after_slot t i = go (was t i)
    where
      go : EntryAt Was version es t
          → SlotAfter (content l m t) (record_at version es t) (content l m' t) (size_field_in l m t) (size_field_for (length (basket_slots es)))
          (size_field_in l m' t)
      go r =
          subst
          (λ (x : ℕ). SlotAfter (content l m x) (record_at version es t) (content l m' x) (size_field_in l m x) (size_field_for (length (basket_slots es)))
          (size_field_in l m' x))
          r.slot_is (by r.holds.written.cut)
        where
          by : SlotCut (content l m r.entry.slot) (record_of version r.entry) (content l m' r.entry.slot) version (counts (2 * r.entry.slot))
              (counts (2 * r.entry.slot + 1))
              → SlotAfter (content l m r.entry.slot) (record_at version es t) (content l m' r.entry.slot) (size_field_in l m r.entry.slot)
              (size_field_for (length (basket_slots es))) (size_field_in l m' r.entry.slot)
          by (now-old a b e) = kept e (r.holds.written.number_old a)
          by (now-new a b e) = done (e ∙ sym r.here) (r.holds.written.number_new a ∙ sym counted)
          by (now-broken x y top h e) = lost top e

  -- THE CUT in the table
  pub cut_struck : (n : ℕ) → Struck (content l m) (content l m') (size_field_in l m) (size_field_in l m') n (basket_slots es) (record_at version es)
  cut_struck n =
      record { outside = λ t i h. w.rest.others t h; numbers = λ t i h. w.rest.numbers t h; after = after_slot }

  -- ---- all stores stand exactly where all records are written

  pub stand_finished : all_stand counts (basket_stores l m number version es) ≡ true
      → Finished (content l m') (size_field_in l m') (basket_slots es) (record_at version es)
  stand_finished all t i = go (was t i)
    where
      go : EntryAt Was version es t → (content l m' t ≡ record_at version es t) × (size_field_in l m' t ≡ size_field_for (length (basket_slots es)))
      go r =
          subst (λ (x : ℕ). (content l m' x ≡ record_at version es t) × (size_field_in l m' x ≡ size_field_for (length (basket_slots es)))) r.slot_is
          (by r.holds.written.cut)
        where
          at_A : 8 ≤ counts (2 * r.entry.slot)
          at_A =
              omega (
                arith,
                stand_lines counts (basket_stores l m number version es) all (2 * r.entry.slot),
                ap (λ (ss : List Store). length ss) r.holds.has.line_A ∙ line_eight (2 * r.entry.slot) _,
              )

          at_B : 8 ≤ counts (2 * r.entry.slot + 1)
          at_B =
              omega (
                arith,
                stand_lines counts (basket_stores l m number version es) all (2 * r.entry.slot + 1),
                ap (λ (ss : List Store). length ss) r.holds.has.line_B ∙ line_eight (2 * r.entry.slot + 1) _,
              )

          by : SlotCut (content l m r.entry.slot) (record_of version r.entry) (content l m' r.entry.slot) version (counts (2 * r.entry.slot))
              (counts (2 * r.entry.slot + 1))
              → (content l m' r.entry.slot ≡ record_at version es t) × (size_field_in l m' r.entry.slot ≡ size_field_for (length (basket_slots es)))
          by (now-old a b e) = absurd (omega (arith, at_A, a))
          by (now-new a b e) = (e ∙ sym r.here, r.holds.written.number_new a ∙ sym counted)
          by (now-broken x y top h e) = absurd (y at_A at_B)

  -- a written record tells that its stores stand
  both_stand : (t : ℕ) → EntryAt Was version es t → content l m' t ≡ record_at version es t
      → (8 ≤ counts (2 * t)) × (8 ≤ counts (2 * t + 1)) × (length (on_line (2 * t) (basket_stores l m number version es)) ≡ 8)
      × (length (on_line (2 * t + 1) (basket_stores l m number version es)) ≡ 8)
  unfolding is_record
  both_stand t r q =
      subst
      (λ (x : ℕ). (8 ≤ counts (2 * x)) × (8 ≤ counts (2 * x + 1)) × (length (on_line (2 * x) (basket_stores l m number version es)) ≡ 8)
      × (length (on_line (2 * x + 1) (basket_stores l m number version es)) ≡ 8))
      r.slot_is (by r.holds.written.cut)
    where
      new : content l m' r.entry.slot ≡ record_of version r.entry
      new = ap (content l m') r.slot_is ∙ q ∙ r.here

      by : SlotCut (content l m r.entry.slot) (record_of version r.entry) (content l m' r.entry.slot) version (counts (2 * r.entry.slot))
          (counts (2 * r.entry.slot + 1))
          → (8 ≤ counts (2 * r.entry.slot)) × (8 ≤ counts (2 * r.entry.slot + 1))
          × (length (on_line (2 * r.entry.slot) (basket_stores l m number version es)) ≡ 8)
          × (length (on_line (2 * r.entry.slot + 1) (basket_stores l m number version es)) ≡ 8)
      by (now-old a b e) =
          absurd
          (omega (
            arith,
            r.holds.writable.above,
            top_is l m r.entry.slot,
            ap highest_whole_in (sym e ∙ new),
            (made_record r.entry.kind version r.entry.key r.entry.value).tops,
          ))
      by (now-new a b e) = (
        a,
        b,
        ap (λ (ss : List Store). length ss) r.holds.has.line_A ∙ line_eight (2 * r.entry.slot) _,
        ap (λ (ss : List Store). length ss) r.holds.has.line_B ∙ line_eight (2 * r.entry.slot + 1) _,
      )
      by (now-broken x y top h e) =
          absurd
          (not_broken top (sym (made_record r.entry.kind version r.entry.key r.entry.value).counted ∙ ap is_record (sym new ∙ e)))
        where
          not_broken : (t : ℕ) → true ≡ is_record (broken t) → ⊥
          not_broken t z = let k : ◌≡◌ {A = ℕ} 0 1 = cc in omega arith

  pub finished_stand : Finished (content l m') (size_field_in l m') (basket_slots es) (record_at version es)
      → all_stand counts (basket_stores l m number version es) ≡ true
  finished_stand z = lines_stand counts (basket_stores l m number version es) (λ n. go n (split (member (basket_slots es) (n / 2))))
    where
      go : (n : ℕ) → (member (basket_slots es) (n / 2) ≡ true) ⊎ (member (basket_slots es) (n / 2) ≡ false)
          → length (on_line n (basket_stores l m number version es)) ≤ counts n
      go n (inl e) =
          let i = member_in (basket_slots es) (n / 2) e in
          let four = both_stand (n / 2) (was (n / 2) i) (z (n / 2) i).0 in
          by_cases (ℕ_discrete (n % 2) 0)
          (λ (q : n % 2 ≡ 0).
          let d : n ≡ 2 * (n / 2) = omega arith in
          omega (arith, four.0, four.2, ap counts d, ap (λ (k : ℕ). length (on_line k (basket_stores l m number version es))) d))
          (λ (q : n % 2 ≡ 0 → ⊥).
          let d : n ≡ 2 * (n / 2) + 1 = omega arith in
          omega (arith, four.1, four.3, ap counts d, ap (λ (k : ℕ). length (on_line k (basket_stores l m number version es))) d))
      go n (inr e) =
          omega (arith, ap (λ (ss : List Store). length ss) (basket_off l m number version es n (not_member (basket_slots es) (n / 2) e)))
