-- `daylist::list` meets its contract.
use Prim.Native.Nat.{ℕ}
use native.Mathlib.Omega.{arith}
use mathlib.Core.Path.{sym, ◌∙◌, ap}
use mathlib.Core.List.{List}
use lib.Seq.{length-take-le}
use Rattle.listing.specs.Room.{text_buffer}
use Rattle.daylist.proofs.Laws.Listing.{how_many, few-listed, within, stored-numbers}
use Rattle.daylist.proofs.list.Goals as goal

-- what the day left: its lines, as numbers
pub slice_bounds-lines-end : goal.slice_bounds-lines-end
slice_bounds-lines-end c =
    let args = c.args in
    let day = c.day_of-count in
    within args.dispatched args.input.now day.new.lines day.result day.ensures.0 day.ensures.1

pub overflow_mul-lines : goal.overflow_mul-lines
overflow_mul-lines c =
    let args = c.args in
    let day = c.day_of-count in
    let few = few-listed args.dispatched args.input.now day.new.lines day.result day.ensures.0 in
    omega (arith, few)

pub slice_bounds-write-end : goal.slice_bounds-write-end
slice_bounds-write-end c =
    let args = c.args in
    let day = c.day_of-count in
    sym (length-take-le _ _ (within args.dispatched args.input.now day.new.lines day.result day.ensures.0 day.ensures.1))

pub returns : goal.returns
returns c =
    let args = c.args in
    let day = c.day_of-count in
    let wrote = c.write-written in
    let text = args.text.now in
    let stored = stored-numbers args.dispatched args.input.now day.new.lines day.result day.ensures.0 day.ensures.1 in
    let many = how_many args.dispatched args.input.now day.new.lines day.result day.ensures.0 in
    (rw (wrote.ensures.0, stored, many), wrote.ensures.1 ∙ ap (λ (numbers : List ℕ). text_buffer numbers text) stored)
