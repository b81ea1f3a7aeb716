-- Answers of `cut_counts_map_code::slots::slot_of`.
use mathlib.Core.Logic.{inl, inr}
use Rattle.cut_counts.proofs.Slots.{own_sized, found_held, found_missing, never_bad_chain}
use Rattle.cut_counts_map_code.proofs.slots.slot_of.Goals as goal

pub find_key-requires : goal.find_key-requires
find_key-requires c =
    (c.requires.0, own_sized _ _ _ _ c.requires.1 _ c.slot_count-n.ensures.result)

pub returns-in-At : goal.returns-in-At
returns-in-At c =
    found_held _ _ _ _ c.requires.1 _ _ c.find_key.ensures.result _ _ _ c.in-At.is

pub returns-in-Missing : goal.returns-in-Missing
returns-in-Missing c =
    elim c.in-Missing.is [
      | inl m ↦ found_missing _ _ _ _ c.requires.1 _ _ c.find_key.ensures.result _ _ m.2
      | inr bad ↦ never_bad_chain _ _ _ _ c.requires.1 _ _ c.find_key.ensures.result bad
    ]
