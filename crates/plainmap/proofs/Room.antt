-- Room for a single call: a formatted image has it, and calls, cuts and restarts keep it. Assumes nothing.
use mathlib.Core.Path.{◌≡◌, refl, sym, ap, ◌∙◌, subst}
use mathlib.Core.Logic.{⊎_elim}
use mathlib.Core.List.{List, [], ◌∷◌}
use Prim.Native.Nat.{ℕ, ◌^◌, ◌≤◌, ◌<◌}
use native.Mathlib.Omega.{arith}
use lib.ListN.{length, length-take}
use Rattle.prelude.specs.Filter.{filter}
use Rattle.prelude.specs.Members.{All, none_left, one_more, Slot}
use Rattle.layout.specs.Size.{slots_of, slots_in}
use Rattle.layout.specs.Record.{Layout}
use Rattle.layout.specs.Header.{index_fault}
use Rattle.layout.specs.Content.{Table, contents_of, size_fields_of}
use Rattle.stores.specs.Store.{Store, played, standing}
use Rattle.stores.specs.Basket.{BasketRecord, basket_slots}
use Rattle.table.specs.Table.{live_count}
use Rattle.table.specs.Complete.{settled, table_of, NoneVoid}
use Rattle.table.specs.Takeable.{may_take, taken_of, takeable_count}
use Rattle.table.proofs.defs.Reuse.{Spares}
use Rattle.table.proofs.defs.Room.{RoomToTake}
use Rattle.table.proofs.defs.Struck.{Finished}
use Rattle.table.proofs.Alike.{alike_count, alike_takeable}
use Rattle.table.proofs.Complete.{settled_same}
use Rattle.table.proofs.Finished.{finished_or, finished_settled}
use Rattle.table.proofs.Formatted.{format_room}
use Rattle.table.proofs.Room.{room_reuse, room_same, unfinished_room, finished_room}
use Rattle.table.proofs.TakeableCount.{takeable-count}
use Rattle.index.specs.Index.{Index, Chain, reuse}
use Rattle.calls.specs.Format.{formatted}
use Rattle.calls.proofs.Formats.{formatted-length, formatted_content}
use Rattle.table.proofs.defs.Entries.{record_at}
use Rattle.plainmap.specs.World.{World, world_after, invalidated_world, Round, after_round, after_rounds, Restart, restarted}
use Rattle.calls.specs.Result.{CallResult}
use Rattle.plainmap.specs.Plain.{Update}
use Rattle.plainmap.specs.Accepted.{Accepted, RightSize}
use Rattle.plainmap.specs.Consistency.{IndexConsistent}
use Rattle.plainmap.proofs.AcceptedImages.{accepted_room}
use Rattle.plainmap.proofs.Wrote.{next_of, WroteRecords, Stepped, stored_none, stored_records}
use Rattle.plainmap.proofs.SoundAfter.{same_slots, spares}
use Rattle.plainmap.proofs.Struck.{struck_image, struck_slots, struck, struck_accepted}
use Rattle.plainmap.proofs.Afters.{cut_image, all-played}
use Rattle.plainmap.proofs.Opens.{SameTable, opened_same, round_same, opened-image}
use Rattle.plainmap.proofs.CallLists.{after-round, after-rounds}

-- some spare slot of the image is not valid, or is below the highest valid version
abbrev pub HasRoom : (l : ℕ) → (image : List ℕ) → Type 0
HasRoom l image = RoomToTake (table_of l image) (slots_in image)

-- ---- what keeps room

-- A FORMATTED IMAGE has room
pub formatted_room : (l len : ℕ) → (slots_of len ≡ 0 → ⊥) → l < 2 ^ 64 → HasRoom l (formatted l len)
formatted_room l len ne b =
    format_room (contents_of l (formatted l len)) (size_fields_of l (formatted l len)) (slots_in (formatted l len))
    (λ t i. formatted_content l l len t ne b i.0)
    (some (slots_in (formatted l len)) (λ z. ne (sym (ap slots_of (formatted-length l len)) ∙ z)))
  where
    some : (n : ℕ) → (n ≡ 0 → ⊥) → 1 ≤ n
    some n h = omega arith

-- an image with the same table
same_room : (l : ℕ) (image image' : List ℕ) → SameTable l image image' → HasRoom l image → HasRoom l image'
same_room l image image' same room = rw (same.table, same.slots) room

module _ (l : ℕ) (w : World) (us : List Update) (r : CallResult) (accepted : Accepted l w.image)
    (none_void : NoneVoid (contents_of l w.image) (size_fields_of l w.image) (slots_in w.image)) (room : HasRoom l w.image) where
  abbrev n : ℕ
  n = slots_in w.image

  -- the records of a call, single or a basket, all of them written or what a cut left
  module _ (es : List BasketRecord) (i : Index) (alive newest : ℕ) (wr : WroteRecords l w es i alive newest) (counts : ℕ → ℕ) where
    abbrev image' : List ℕ
    image' = struck_image l w es i alive newest accepted wr counts

    abbrev f' : Table
    f' = contents_of l image'

    whole_room : Finished f' (size_fields_of l image') (basket_slots es) (record_at (next_of l w.image) es)
        → RoomToTake (settled f' (size_fields_of l image') n) n
    whole_room z =
        let st = struck l w es i alive newest accepted wr counts in
        let same = finished_settled wr.basket st z in
        let left = subst (λ (x : ℕ). live_count (settled f' (size_fields_of l image') x) x < x) (struck_slots l w es i alive newest accepted wr counts)
        (accepted_room l image' (struck_accepted l w es i alive newest accepted wr counts)) in
        room_same f' (settled f' (size_fields_of l image') n) n same
        (finished_room wr.basket st z (subst (λ (k : ℕ). k < n) (alike_count f' (settled f' (size_fields_of l image') n) n same) left) wr.removes)

    records_room : HasRoom l image'
    records_room =
        let st = struck l w es i alive newest accepted wr counts in
        subst (λ (x : ℕ). RoomToTake (settled f' (size_fields_of l image') x) x) (sym (struck_slots l w es i alive newest accepted wr counts))
        (⊎_elim whole_room
        (λ u. unfinished_room wr.basket st u
        (room_same (table_of l w.image) (contents_of l w.image) n (λ t j. sym (settled_same _ _ n t (none_void t j))) room))
        (finished_or wr.basket st))

  -- A CALL keeps room, with its stores all played or what a cut left
  pub cut_room : (counts : ℕ → ℕ) → Stepped l w us r → HasRoom l (cut_image w r counts)
  unfolding standing played
  cut_room counts (stored_none none sound same) = subst (λ (ss : List Store). HasRoom l (played (standing counts ss) w.image)) (sym none) room
  cut_room counts (stored_records es i alive newest stores world wr step) =
      subst (λ (ss : List Store). HasRoom l (played (standing counts ss) w.image)) (sym stores) (records_room es i alive newest wr counts)

  pub done_room : Stepped l w us r → HasRoom l (played r.stores w.image)
  done_room step = subst (HasRoom l) (all-played l w us r accepted) (cut_room (λ k. length r.stores) step)

-- A RESTART keeps room
rounds_room : (l : ℕ) → Layout l → (n : ℕ) (image : List ℕ) → slots_in image ≡ n → Accepted l image → (rs : List Round)
    → All (λ (r : Round). index_fault n (length r.lent.heads) (length r.lent.next) ≡ 0) rs → HasRoom l image → HasRoom l (after_rounds l image rs)
unfolding after_rounds
rounds_room l lay n image e a [] none_left room = room
rounds_room l lay n image e a (r ∷ rs) (one_more f fs) room =
    let fits : RightSize image r.lent.heads r.lent.next = rw e f in
    let t = after-round l lay image a r fits in
    rounds_room l lay n (after_round l image r) (t.slots ∙ e) t.accepted rs fs
    (subst (HasRoom l) (sym (round_same l lay image a r fits)) (same_room l image _ (opened_same l lay image a r.counts) room))

pub restarted_room : (l : ℕ) → Layout l → (image : List ℕ) → Accepted l image → (r : Restart)
    → All (λ (x : Round). index_fault (slots_in image) (length x.lent.heads) (length x.lent.next) ≡ 0) r.rounds
    → index_fault (slots_in image) (length r.lent.heads) (length r.lent.next) ≡ 0 → HasRoom l image → HasRoom l (restarted l image r).image
unfolding restarted invalidated_world world_after
restarted_room l lay image a r fs f room =
    let t = after-rounds l lay (slots_in image) image refl a r.rounds fs in
    let last = after_rounds l image r.rounds in
    let fits = ap (λ (x : ℕ). index_fault x (length r.lent.heads) (length r.lent.next)) t.slots ∙ f in
    subst (HasRoom l) (sym (opened-image l lay last t.accepted r.lent.heads r.lent.next fits))
    (same_room l last _ (opened_same l lay last t.accepted (λ k. 8)) (rounds_room l lay (slots_in image) image refl a r.rounds fs room))

-- ---- what room gives

module _ (l : ℕ) (w : World) (chains : Chain → List ℕ) (g : IndexConsistent l w chains)
    (none_void : NoneVoid (contents_of l w.image) (size_fields_of l w.image) (slots_in w.image)) where
  abbrev f : Table
  f = contents_of l w.image

  same : (t : ℕ) → Slot (slots_in w.image) t → table_of l w.image t ≡ f t
  same = same_slots l w chains g none_void

  sp : Spares f (slots_in w.image) (chains reuse)
  sp = spares l w chains g none_void

  -- SOME SLOT MAY BE TAKEN
  pub room_takeable : HasRoom l w.image → 0 < takeable_count (table_of l w.image) (slots_in w.image)
  unfolding taken_of
  room_takeable room =
      omega (
        arith,
        room_reuse f (slots_in w.image) (chains reuse)
            (room_same (table_of l w.image) f (slots_in w.image) (λ t i. sym (same t i)) room) sp,
        length-take 1 (filter (may_take f (slots_in w.image)) (chains reuse)),
        takeable-count f (slots_in w.image) (chains reuse) sp,
        alike_takeable f (table_of l w.image) (slots_in w.image) same,
      )
