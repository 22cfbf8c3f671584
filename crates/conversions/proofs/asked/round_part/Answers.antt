-- `conversions::asked::round_part`: the part that `round_place` found.
use Rattle.conversions.proofs.Answered.{place-is, part-ordered, part-inside, part-is}
use Rattle.conversions.proofs.asked.round_part.Goals as goal

pub returns : goal.returns
returns c = let (a, b) = place-is _ _ _ _ _ c.round_place.ensures _ c.unwrap_or-place.ensures in (part-is _ _ _ _ _ _ a b, rw a)

pub slice_bounds-result-count : goal.slice_bounds-result-count
slice_bounds-result-count c = part-ordered _ _ _ _ _ c.round_place.ensures _ c.unwrap_or-place.ensures

pub slice_bounds-result-start : goal.slice_bounds-result-start
slice_bounds-result-start c = part-ordered _ _ _ _ _ c.round_place.ensures _ c.unwrap_or-place.ensures

pub slice_bounds-result-end : goal.slice_bounds-result-end
slice_bounds-result-end c = part-inside _ _ _ _ _ c.round_place.ensures _ c.unwrap_or-place.ensures
