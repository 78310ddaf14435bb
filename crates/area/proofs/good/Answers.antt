-- `area::good` meets its contract.
use mathlib.Core.Path.{◌∙◌}
use mathlib.Core.Bool.{and_assoc}
use Rattle.area.proofs.Laws.Numbers.{contains_is}
use Rattle.area.specs.Area.{good_area}
use Rattle.area.proofs.good.Goals as goal

pub returns : goal.returns
unfolding good_area
returns c =
    let x = c.args.x in
    let latitude = c.contains.ensures.value ∙ contains_is _ _ _ x.latitude c.new.ensures.start c.new.ensures.end c.new.ensures.exhausted in
    let longitude = c.contains-2.ensures.value ∙ contains_is _ _ _ x.longitude c.new-2.ensures.start c.new-2.ensures.end c.new-2.ensures.exhausted in
    rw (latitude, longitude) (simp and_assoc)
