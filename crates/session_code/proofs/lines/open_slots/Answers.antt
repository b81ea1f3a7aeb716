-- Answers of `session_code::lines::open_slots`.
use mathlib.Core.Path.{◌≡◌}
use native.Mathlib.Omega.{arith}
use lib.ListN.{length}
use Rattle.prelude.proofs.Lists.{front_length}
use Rattle.session.proofs.Steps.{invalidations_played_on}
use borrow.Author.Rules.{rules}
use Rattle.session_code.proofs.lines.open_slots.Goals as goal

pub slice_bounds-play_list-end : goal.slice_bounds-play_list-end
slice_bounds-play_list-end c =
    let e : length c.args.invalidations.at ≡ 8 = search (rules, c.well_formed.1.0) in front_length _ c.args.invalidations.at
    (omega (arith, c.requires, e))

pub slice_bounds-play_list-end-2 : goal.slice_bounds-play_list-end-2
slice_bounds-play_list-end-2 c =
    let e : length c.args.invalidations.value ≡ 8 = search (rules, c.well_formed.1.0) in front_length _ c.args.invalidations.value
    (omega (arith, c.requires, e))

pub returns : goal.returns
returns c =
    invalidations_played_on _ c.args.invalidations (search (rules, c.well_formed.1.0)) (search (rules, c.well_formed.1.0)) c.requires _ _
    c.play_list.ensures.result
