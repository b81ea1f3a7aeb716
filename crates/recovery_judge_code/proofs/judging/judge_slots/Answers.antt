-- Answers of `recovery_judge_code::judging::judge_slots`.
use mathlib.Core.Path.{refl, ◌∙◌}
use native.Mathlib.Omega.{arith}
use Rattle.recovery.proofs.Judges.{judged, judge_numbered, decide_ready, broken_fits}
use Rattle.recovery_judge_code.proofs.judging.judge_slots.Goals as goal

pub judged_rank-limit-requires : goal.judged_rank-limit-requires
judged_rank-limit-requires c = (
  judge_numbered c.scan-all.new.ranks c.scan-all.new.lows c.scan-all.new.highs _ _ _ c.compare-shared.ensures.result.in_order _ _
      c.requires.layout c.requires.image-size c.requires.few,
  c.scan-all.auto.ranks ∙ c.requires.ranks_size,
)

pub decide-requires : goal.decide-requires
decide-requires c =
    decide_ready c.settle-invalidations.new.ranks c.scan-all.new.lows c.scan-all.new.highs _ _ _ c.settle-invalidations.ensures.result.in_order
    c.args.l c.settle-invalidations.new.places c.requires.few (c.scan-all.auto.lows ∙ c.requires.lows_size) c.requires.layout
    (c.scan-all.auto.highs ∙ c.requires.highs_size)
    (c.settle-invalidations.auto.places ∙ c.scan-all.auto.places ∙ c.requires.places_size)

pub overflow_add-broken : goal.overflow_add-broken
overflow_add-broken c =
    omega (
      arith,
      broken_fits _ _ _ _ c.scan-all.new.ranks c.scan-all.new.lows c.scan-all.new.highs c.scan-all.new.places _ _ _ c.scan-all.ensures.result
          c.settle-invalidations.ensures.result.opened_is,
      c.requires.few,
    )

pub returns : goal.returns
returns c =
    record {
      result =
          judged _ _ _ _ c.scan-all.new.ranks c.scan-all.new.lows c.scan-all.new.highs c.scan-all.new.places _ _
          c.settle-invalidations.new.ranks c.settle-invalidations.new.places _ _ _ _ _ _ _ _ _
          (λ k. (c.shared_slice_known-1.given k).fits) (c.scan-all.auto.places ∙ c.requires.places_size) c.scan-all.ensures.result
          c.compare-shared.ensures.result c.judged_rank-limit.ensures.result c.settle-invalidations.ensures.result c.decide.ensures.result
          c.count_placed-live.ensures.result.0 refl _ _ c.found_fault-fault.ensures.result c.found_slot.ensures.result;
    }
