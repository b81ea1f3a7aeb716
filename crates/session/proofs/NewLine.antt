-- A line `n N`: format and recovery, after which the plain map is empty. Assumes nothing.
use mathlib.Core.Path.{◌≡◌, refl, sym, ap, ◌∙◌, subst}
use mathlib.Core.Option.{none}
use mathlib.Core.List.{List, [], ◌∷◌}
use Prim.Native.Nat.{ℕ, ◌+◌, ◌*◌}
use lib.ListN.{length, take}
use Rattle.interface.proofs.SetLaws.{layout_1, call_laws}
use Rattle.interface.specs.Laws.{SetLaws}
use Rattle.interface.specs.Set.{slots_of, slots_in, formatted, World, world_after, recovered_world, invalidated_world, PlainMap}
use Rattle.text.specs.Output.{ok}
use Rattle.session.specs.Step.{StepResult, slots_for, size_fault, make_step, line_step}
use Rattle.session.specs.Stream.{step_after}
use Rattle.text.specs.declared.Line.TheVariants.{New}
use Rattle.std.specs.Prelude.{None}
use Rattle.session.proofs.Steps.{FitsLent, room}
use Rattle.session.specs.Rule.{fault_at, map_by_line, map_after, none_waits, new_world, LineCorrect, new_line}
use Rattle.session.proofs.defs.Keeps.{Keeps}
use Rattle.session.proofs.Sizes.{OneHead, one-head}
use Rattle.session.proofs.Recovered.{goes_on, new_step, new_keeps}
use Rattle.session.proofs.Fronts.{LeftBehind, image_front, heads_front, next_front, slots_front, line_size, line_leaves}

module _ (Inv : World → PlainMap → Type 0) (laws : SetLaws 1 Inv) (r : StepResult) (m : PlainMap) (n : ℕ) (z : fault_at r (New n) ≡ 0) where
  size : size_fault n (length r.image) (length r.heads) (length r.next) ≡ 0
  unfolding slots_for
  size = line_size r m (New n) n refl z

  fitting : FitsLent n (length r.image) (length r.heads) (length r.next)
  fitting = room n (length r.image) (length r.heads) (length r.next) size

  abbrev image : List ℕ
  image = take (128 * (n + 1)) r.image

  abbrev heads : List ℕ
  heads = take 1 r.heads

  abbrev next : List ℕ
  next = take (n + 1) r.next

  -- the set of format and recovery on the front of the image
  abbrev fresh : World
  fresh = invalidated_world 1 (formatted 1 (length image)) heads next

  as_new : fresh ≡ new_world r n
  as_new = ap (λ (len : ℕ). invalidated_world 1 (formatted 1 len) heads next) (image_front r n size)

  fresh_keeps : Inv fresh (λ k. none)
  fresh_keeps =
      new_keeps Inv laws n fitting.some fitting.few r.session image heads next (image_front r n size) (heads_front r n size) (next_front r n size)

  fresh_slots : slots_in fresh.image ≡ n
  unfolding invalidated_world world_after
  fresh_slots =
      ap slots_of ((call_laws 1 layout_1).plays_length _ (formatted 1 (length image)) ∙ (call_laws 1 layout_1).formatted-length (length image))
      ∙ slots_front r n size Inv laws

  fresh_sizes : OneHead n fresh
  unfolding invalidated_world recovered_world world_after
  fresh_sizes =
      one-head Inv laws n fresh (λ k. none) fresh_keeps fresh_slots
      ((call_laws 1 layout_1).recovery_heads (formatted 1 (length image)) heads next ∙ heads_front r n size)

  made : LeftBehind n (ok (n ∷ [])) (new_world r n) None (make_step n r.session image heads next)
  made =
      subst (LeftBehind n (ok (n ∷ [])) (new_world r n) None)
      (sym
      (new_step Inv laws n fitting.some fitting.few r.session image heads next (image_front r n size) (heads_front r n size) (next_front r n size)
      ∙ ap (goes_on (ok (n ∷ [])) n) as_new))
      (record { answer = refl; session = refl; world = refl })

  pub new_goes : LineCorrect r m (New n) × Keeps Inv (step_after r (New n)) (map_after r m (New n))
  unfolding slots_for map_by_line line_step
  new_goes =
      let l = line_leaves r m (New n) n refl z Inv (ok (n ∷ [])) (new_world r n) None (λ k. none) made (subst (OneHead n) as_new fresh_sizes) none_waits
      (subst (λ (w : World). Inv w (λ k. none)) as_new fresh_keeps) refl in
      (new_line z l.0, l.1)
