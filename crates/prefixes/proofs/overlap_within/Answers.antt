-- `prefixes::overlap_within`: six pairs, of which those past the count do not overlap.
use mathlib.Core.Path.{sym}
use Rattle.prefixes.specs.Prefixes.{place, listed, overlap_within}
use Rattle.prefixes.proofs.Laws.Count.{count, within_first}
use Rattle.prefixes.proofs.overlap_within.Goals as goal

pub returns : goal.returns
unfolding overlap_within listed
returns c =
    let s = c.args.s in
    rw (c.overlaps-6.ensures, c.overlaps-5.ensures, c.overlaps-4.ensures, c.overlaps-3.ensures, c.overlaps-2.ensures, c.overlaps.ensures, c.at-d.ensures, c.at-c.ensures, c.at-b.ensures, c.at-a.ensures)
    (sym (within_first (place s 0) (place s 1) (place s 2) (place s 3) (count s.count)))
